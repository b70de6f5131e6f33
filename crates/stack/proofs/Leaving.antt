-- What a record leaves on the stack, case by case.
--     row_append                two parts of the stack, one behind the other
--     leaves_laid               items laid at the top
--     leaves_full, leaves_failed      a refusal, with nothing changed
--     put_at                    an item put at the top
--     leaves_added, leaves_crowded    items added, where the room suffices or not
--     leaves_as                 the same outcome and answer
--     leaves_fails, leaves_gives      an attempt of the record at work
--     leaves_raised, leaves_refused   the same where at least k stood, or the refusal
--     leaves_items, leaves_pair       what is done with an operand's items, or with those of two
--     leaves_stopped, pair_stopped    an operand that is refused is handed on
--     stood_joined              both operands' items as those of one
use Rattle.std.specs.Prelude.{Result, Ok, Err}
use Prim.Native.Nat.{ℕ, ◌+◌, ◌-◌, ◌≤◌, ◌<◌}
use mathlib.Core.Path.{◌≡◌, refl, sym, ap, ◌∙◌, subst}
use mathlib.Core.List.{List, [], ◌∷◌, ◌++◌}
use native.Mathlib.Omega.{arith}
use native.Mathlib.Nat.{le_refl}
use borrow.Author.Tests.{le-leb, lt-leb}
use lib.IntN.{ℤ}
use lib.ListN.{length, take, drop, set}
use lib.Seq.{take-add, drop-drop}
use Rattle.laws.specs.Rows.{row, laid}
use Rattle.laws.proofs.Rows.{take_laid, set_laid}
use Rattle.laws.specs.Attempt.{Attempt, fails, gives, trying, Work, full, failed, work, within}
use Rattle.codes.specs.declared.refusals.Stop.{Stop}
use Rattle.meaning.specs.Counted.{Standing, stand, adding}
use Rattle.stack.specs.declared.Stood.{Stood}
use Rattle.stack.specs.declared.Pair.{Pair}
use Rattle.stack.specs.Stack.{stood, Paired, paired, Ends, EndsPair, At, raising, joining}
use Rattle.stack.specs.Stack.{Lent, Leaves}
use Rattle.stack.specs.Moves.{raised, joined}
use Rattle.lent.proofs.Moves.{row_here}

pub row_append : {A : Type 0} (xs : List A) (a l m : ℕ) → row xs a (l + m) ≡ row xs a l ++ row xs (a + l) m
unfolding row
row_append xs a l m =
    take-add l m (drop a xs) ∙ ap (λ (ys : List _). take l (drop a xs) ++ take m ys) (drop-drop l a xs)

module _ (top room : ℕ) (E : ℕ → Type 0) (before : List ℤ) where
  pub leaves_full : (p : ℕ) → Leaves top room (full p) E before before (Err (Stop.Full p))
  unfolding stood
  leaves_full p = record { kept = refl; fit = tt; stands = refl; ends = λ e h. tt }

  pub leaves_failed : (p : ℕ) → Leaves top room (failed p) E before before (Err (Stop.Failed p))
  unfolding stood
  leaves_failed p = record { kept = refl; fit = tt; stands = refl; ends = λ e h. tt }

  module _ (after : List ℤ) where
    pub leaves_laid :
        (s : Stood) (vs : List ℤ) → after ≡ laid before top vs → top + length vs ≤ length before →
        length vs ≡ s.length → s.length ≤ s.count → top + s.count ≤ room → ((e : ℕ) → E e → s.next ≡ e) →
        Leaves top room (stand vs s.count) E before after (Ok s)
    unfolding stood
    leaves_laid s vs e h l f g t =
        record {
          kept = ap (take top) e ∙ take_laid before top vs top (le_refl top) (omega arith);
          fit = (f, g);
          stands =
              ap (λ (xs : List ℤ). stand xs s.count)
              (ap (λ (c : List ℤ). row c top s.length) e
              ∙ ap (row (laid before top vs) top) (sym l)
              ∙ row_here before top vs (omega arith));
          ends = t;
        }

    pub leaves_raised :
        (c : ℕ) (o : Work Standing) (s : Stood) → top + c ≤ room → Leaves top room o E before after (Ok s) →
        Leaves top room (raised c o) E before after (Ok (raising c s))
    unfolding stood raised stand work
    leaves_raised c o s h v =
        record {
          kept = v.kept;
          fit = (omega (arith, v.fit.0), omega (arith, v.fit.1));
          stands = ap (raised c) v.stands;
          ends = v.ends;
        }

    pub leaves_refused :
        (c : ℕ) (o : Work Standing) (r : Stop) → Leaves top room o E before after (Err r) →
        Leaves top room (raised c o) E before after (Err r)
    unfolding stood raised work
    leaves_refused c o (Stop.Full p) v =
        record { kept = v.kept; fit = tt; stands = ap (raised c) v.stands; ends = v.ends }
    leaves_refused c o (Stop.Failed p) v =
        record { kept = v.kept; fit = tt; stands = ap (raised c) v.stands; ends = v.ends }

    pub leaves_as :
        (o o' : Work Standing) (r r' : Result Stood Stop) → o ≡ o' → r ≡ r' → Leaves top room o E before after r →
        Leaves top room o' E before after r'
    leaves_as o o' r r' e d h =
        subst (λ (r : Result Stood Stop). Leaves top room o' E before after r) d
        (subst (λ (o : Work Standing). Leaves top room o E before after r) e h)

  -- an attempt of the record at work
  module _ {A : Type 0} (at : ℕ) (a : Attempt A) (f : A → Work Standing) where
    pub leaves_fails : a ≡ fails → Leaves top room (trying at a f) E before before (Err (Stop.Failed at))
    unfolding trying
    leaves_fails e = rw e (leaves_failed at)

    -- .. of which something is left above the top
    pub leaves_fails_kept :
        (after : List ℤ) → take top after ≡ take top before → a ≡ fails →
        Leaves top room (trying at a f) E before after (Err (Stop.Failed at))
    unfolding trying stood
    leaves_fails_kept after k e = rw e (record { kept = k; fit = tt; stands = refl; ends = λ e h. tt })

    pub leaves_gives :
        (after : List ℤ) (r : Result Stood Stop) (x : A) → a ≡ gives x → Leaves top room (f x) E before after r →
        Leaves top room (trying at a f) E before after r
    unfolding trying
    leaves_gives after r x e h = rw e h

-- Items added where `below` stand already

module _ (top room at below : ℕ) (E : ℕ → Type 0) (before : List ℤ) (xs : List ℤ) (g : Lent top room before) where
  pub leaves_crowded :
      room - top < below + length xs →
      Leaves top room (adding (room - top) at below xs) E before before (Err (Stop.Full at))
  unfolding adding within
  leaves_crowded h = rw (lt-leb (below + length xs) (room - top) h) (leaves_full top room E before at)

  pub leaves_added :
      (after : List ℤ) (s : Stood) → below + length xs ≤ room - top → after ≡ laid before top xs →
      length xs ≡ s.length → below + length xs ≡ s.count → ((e : ℕ) → E e → s.next ≡ e) →
      Leaves top room (adding (room - top) at below xs) E before after (Ok s)
  unfolding adding within
  leaves_added after s h e l c t =
      rw (le-leb (below + length xs) (room - top) h, c)
      (leaves_laid top room E before after s xs e (omega (arith, g.low, g.lent)) l (omega arith)
      (omega (arith, g.low)) t)

pub adding_as : (room at below : ℕ) (x y : ℤ) → x ≡ y → adding room at below (x ∷ []) ≡ adding room at below (y ∷ [])
adding_as room at below x y e = ap (λ (z : ℤ). adding room at below (z ∷ [])) e

pub put_at :
    (cells : List ℤ) (top : ℕ) (x y : ℤ) → x ≡ y → top < length cells → set cells top x ≡ laid cells top (y ∷ [])
put_at cells top x y e h = ap (set cells top) e ∙ set_laid cells top y h

-- What a record does with the items of its operands, or hands on where one is refused

module _ (top room : ℕ) (before after : List ℤ) (r : Result Stood Stop) where
  pub leaves_items :
      (f : Standing → Work Standing) (s : Stood) →
      Leaves top room (f (record { items = row before top s.length; count = s.count })) (At s.next) before after r →
      Leaves top room (work (stood before top (Ok s)) f) (Ends (Ok s)) before after r
  unfolding stood stand work
  leaves_items f s h = h

  pub leaves_pair :
      (f : Paired → Work Standing) (d : Pair) →
      Leaves top room
      (f (record { first = row before top d.first; second = row before (top + d.first) d.second; count = d.count }))
      (At d.next) before after r →
      Leaves top room (work (paired before top (Ok d)) f) (EndsPair (Ok d)) before after r
  unfolding paired work
  leaves_pair f d h = h

module _ (top room : ℕ) (cells : List ℤ) where
  pub leaves_stopped :
      (f : Standing → Work Standing) (e : Stop) →
      Leaves top room (work (stood cells top (Err e)) f) (Ends (Err e)) cells cells (Err e)
  unfolding stood work
  leaves_stopped f (Stop.Full p) = leaves_full top room (Ends (Err (Stop.Full p))) cells p
  leaves_stopped f (Stop.Failed p) = leaves_failed top room (Ends (Err (Stop.Failed p))) cells p

  pub pair_stopped :
      (f : Paired → Work Standing) (e : Stop) →
      Leaves top room (work (paired cells top (Err e)) f) (EndsPair (Err e)) cells cells (Err e)
  unfolding paired work
  pair_stopped f (Stop.Full p) = leaves_full top room (EndsPair (Err (Stop.Full p))) cells p
  pair_stopped f (Stop.Failed p) = leaves_failed top room (EndsPair (Err (Stop.Failed p))) cells p

pub stood_joined :
    (cells : List ℤ) (top : ℕ) (d : Pair) → stood cells top (Ok (joining d)) ≡ joined (paired cells top (Ok d))
unfolding stood joined paired work
stood_joined cells top d = ap (λ (xs : List ℤ). stand xs d.count) (row_append cells top d.first d.second)
