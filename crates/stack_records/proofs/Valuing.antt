-- Each item's value in its place (document 01, 'Query records', QD), one after another.
--     behind vs a           what an attempt gives, behind vs
--     Taking w xs i cells   the first i of the cells hold the values of the first i items of xs: the whole is what the
--                           rest gives behind them
--     taking_none, taking_more, taking_stop, taking_all
--     put_row               a row that is written in its place
--     valued_some, valued_none      what is left where every item has a value, and where one has none
use Rattle.std.specs.Prelude.{Option, Some, None, Result, Ok, Err}
use Prim.Native.Nat.{ℕ, suc, ◌+◌, ◌-◌, ◌≤◌, ◌<◌}
use mathlib.Core.Path.{◌≡◌, refl, sym, ap, ap₂, ◌∙◌, subst}
use mathlib.Core.List.{List, [], ◌∷◌, ◌++◌, append_assoc, append-nil}
use native.Mathlib.Omega.{arith}
use native.Mathlib.Numerals.{add-one}
use lib.IntN.{ℤ}
use lib.ListN.{length, take, drop, get_or, set, drop_of_length-le}
use lib.Seq.{drop-cons, drop-drop, drop-set-lt, take-suc-set, take_all}
use borrow.Rule.Slice.PartMut.{put_mid, take_put}
use Rattle.laws.specs.Rows.{laid}
use Rattle.laws.specs.Attempt.{Attempt, fails, gives, attempt, each}
use Rattle.meaning.specs.World.{World}
use Rattle.meaning.specs.Meaning.{values}
use Rattle.laws.proofs.Outcomes.{attempt_gives}
use Rattle.laws.proofs.Rows.{length_row}
use Rattle.codes.specs.declared.refusals.Stop.{Stop}
use Rattle.lent.proofs.Moves.{part_row}
use Rattle.stack.specs.declared.Stood.{Stood}
use Rattle.stack.specs.Stack.{stood, Fit, Ends, Leaves}
use Rattle.stack.proofs.Leaving.{leaves_items, leaves_laid, leaves_fails_kept, leaves_gives}
use Rattle.stack_records.specs.Arms.{valued, Valued}

unfoldable pub behind : List ℤ → Attempt (List ℤ) → Attempt (List ℤ)
behind vs a = attempt a (λ zs. gives (vs ++ zs))

module _ (w : World) where
  pub record Taking (xs : List ℤ) (i : ℕ) (cells : List ℤ) : Type 0 where
    pub whole : values w xs ≡ behind (take i cells) (values w (drop i cells))

  pub taking_none : (xs : List ℤ) → Taking xs 0 xs
  unfolding behind
  taking_none xs = record { whole = sym (attempt_gives (values w xs)) }

  -- a value in front
  behind_more :
      (x y : ℤ) (xs vs : List ℤ) → w.value x ≡ gives y →
      behind vs (values w (x ∷ xs)) ≡ behind (vs ++ (y ∷ [])) (values w xs)
  unfolding behind values each attempt
  behind_more x y xs vs e = rw e (go (values w xs))
    where
      go :
          (a : Attempt (List ℤ)) →
          attempt (attempt a (λ zs. gives (y ∷ zs))) (λ zs. gives (vs ++ zs))
          ≡ attempt a (λ zs. gives ((vs ++ (y ∷ [])) ++ zs))
      go fails = refl
      go (gives zs) = ap gives (sym (append_assoc vs (y ∷ []) zs))

  behind_stop : (x : ℤ) (xs vs : List ℤ) → w.value x ≡ fails → behind vs (values w (x ∷ xs)) ≡ fails
  unfolding behind values each attempt
  behind_stop x xs vs e = rw e refl

  module _ (xs : List ℤ) (i : ℕ) (cells : List ℤ) (t : Taking xs i cells) where
    module _ (d : ℤ) (h : i < length cells) where
      pub taking_more :
          (y z : ℤ) → z ≡ y → w.value (get_or cells i d) ≡ gives y → Taking xs (i + 1) (set cells i z)
      taking_more y z s e =
          record {
            whole =
                t.whole
                ∙ ap (λ (ys : List ℤ). behind (take i cells) (values w ys)) (drop-cons cells i d h)
                ∙ behind_more (get_or cells i d) y (drop (suc i) cells) (take i cells) e
                ∙ ap (λ (x : ℤ). behind (take i cells ++ (x ∷ [])) (values w (drop (suc i) cells))) (sym s)
                ∙ ap₂ (λ (us vs : List ℤ). behind us (values w vs)) (sym (take-suc-set cells i z h))
                (sym (drop-set-lt (suc i) cells i z (omega arith)))
                ∙ ap (λ (n : ℕ). behind (take n (set cells i z)) (values w (drop n (set cells i z)))) (sym (add-one i));
          }

      pub taking_stop : w.value (get_or cells i d) ≡ fails → values w xs ≡ fails
      taking_stop e =
          t.whole
          ∙ ap (λ (ys : List ℤ). behind (take i cells) (values w ys)) (drop-cons cells i d h)
          ∙ behind_stop (get_or cells i d) (drop (suc i) cells) (take i cells) e

    pub taking_all : length cells ≤ i → values w xs ≡ gives cells
    unfolding behind values each attempt
    taking_all h =
        t.whole
        ∙ ap (λ (ys : List ℤ). behind (take i cells) (values w ys)) (drop_of_length-le cells {i = i} h)
        ∙ ap gives (append-nil (take i cells) ∙ take_all i cells h)

-- a row that is written in its place
pub put_row :
    {A : Type 0} (xs : List A) (a n : ℕ) (ys : List A) → length ys ≡ n → put_mid a (a + n - a) xs ys ≡ laid xs a ys
unfolding laid
put_row xs a n ys h =
    let k : a + n - a ≡ length ys = omega arith in
    rw (k, drop-drop (length ys) a xs)

-- what is left where every item has a value in its place, and where one has none
module _ (w : World) (at top room : ℕ) (before vs : List ℤ) (s : Stood) (g : Fit top (length before) (Ok s))
    (f : Fit top room (Ok s)) where
  abbrev Left : Result Stood Stop → Type 0
  Left r =
      Leaves top room (valued w at (stood before top (Ok s))) (Ends (Ok s)) before
      (put_mid top (top + s.length - top) before vs) r

  module _ (u : Option Unit) (h : Valued w (take (top + s.length - top) (drop top before)) vs u)
      (l : length vs ≡ length (take (top + s.length - top) (drop top before))) where
    long : length vs ≡ s.length
    long = l ∙ ap length (part_row before top s.length) ∙ length_row before top s.length (omega arith)

    pub valued_none : u ≡ None → Left (Err (Stop.Failed at))
    unfolding valued
    valued_none e =
        leaves_items top room before _ _ _ s
        (leaves_fails_kept top room _ before at _ _ _ (take_put top _ before vs (omega arith))
        (ap (values w) (sym (part_row before top s.length)) ∙ subst (Valued w _ vs) e h))

    pub valued_some : (x : Unit) → u ≡ Some x → Left (Ok s)
    unfolding valued
    valued_some x e =
        leaves_items top room before _ _ _ s
        (leaves_gives top room _ before at _ _ _ _ vs
        (ap (values w) (sym (part_row before top s.length)) ∙ subst (Valued w _ vs) e h)
        (leaves_laid top room _ before _ s vs (put_row before top s.length vs long) (omega (arith, long)) long f.0 f.1
        (λ e d. d)))
