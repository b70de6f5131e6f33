-- Groups by first appearance, row by row.
--     turns_after f above xs     for each cell of xs what f makes of it, where it stands neither above nor further up
--     in xs
--     each_turns                all of these are what f makes of the different cells
--     rest gather w t i         what is made from row i of the table t on
--     rest_head, rest_none, rest_whole     row i and the others; no row; all rows
--     succeeds_each             attempts one after another succeed where each does
--     settled_yes, failed_no    an attempt that succeeds, and one that does not
--     turn_yes, turn_no         what is made of the group that a row opens, and of none
use Prim.Native.Nat.{ℕ, suc, ◌+◌, ◌≤◌, ◌<◌}
use mathlib.Core.Path.{◌≡◌, refl, sym, ap, ap₂, ◌∙◌}
use mathlib.Core.List.{List, [], ◌∷◌, ◌++◌}
use mathlib.Core.Bool.{Bool, true, false, not, cond, ◌&&◌, ◌||◌, or-false}
use native.Mathlib.Omega.{arith}
use lib.IntN.{ℤ, pos}
use lib.ListN.{length, take, drop, drop_of_length-le}
use lib.Seq.{drop-cons, take-suc}
use Rattle.cells.specs.Cell.{same}
use Rattle.cells.proofs.Cells.{same_sym}
use Rattle.laws.specs.Lists.{filter, any, all, firsts}
use Rattle.laws.proofs.Lists.{all_any}
use Rattle.laws.proofs.Filters.{filter_all}
use Rattle.laws.proofs.Booleans.{by_cases, clash}
use Rattle.laws.specs.Attempt.{Attempt, fails, gives, attempt, each}
use Rattle.meaning.specs.World.{World}
use Rattle.meaning.specs.Operators.{Table, column, groups, group_of}
use Rattle.tables.specs.Laying.{succeeds, Settled}
use Rattle.gathering.specs.declared.Gather.{Gather}
use Rattle.members.specs.Grouped.{in_front, opening}
use Rattle.tables.specs.Order.{cell_at}
use Rattle.gathering.specs.Gathered.{column_of, gathered, made, turn, whole}
use Rattle.tables.proofs.Reading.{length_column, get_d_column}

unfoldable pub turns_after : (ℤ → Attempt Table) → List ℤ → List ℤ → List (Attempt Table)
turns_after f above [] = []
turns_after f above (x ∷ xs) = cond (not (any (same x) above)) (f x) (gives []) ∷ turns_after f (above ++ (x ∷ [])) xs

any_snoc : {A : Type 0} (p : A → Bool) (xs : List A) (x : A) → any p (xs ++ (x ∷ [])) ≡ (any p xs || p x)
unfolding any
any_snoc p [] x = or-false (p x)
any_snoc p (y ∷ ys) x = rw (any_snoc p ys x) (grouped (p y) (any p ys) (p x))
  where
    grouped : (a b c : Bool) → (a || (b || c)) ≡ ((a || b) || c)
    grouped true b c = refl
    grouped false b c = refl

-- two filters at once
filter_both :
    {A :
    Type 0} (p q r : A → Bool) → ((x : A) → r x ≡ (p x && q x)) → (xs : List A)
    → filter p (filter q xs) ≡ filter r xs
unfolding filter
filter_both p q r h [] = refl
filter_both p q r h (x ∷ xs) =
    by_cases (q x)
    (λ e.
    by_cases (p x)
    (λ d. rw (e, d, h x ∙ ap₂ ◌&&◌ d e, filter_both p q r h xs))
    (λ d. rw (e, d, h x ∙ ap₂ ◌&&◌ d e, filter_both p q r h xs)))
    (λ e. rw (e, h x ∙ ap (p x &&◌) e ∙ none (p x), filter_both p q r h xs))
  where
    none : (b : Bool) → (b && false) ≡ false
    none true = refl
    none false = refl

attempt_same : {A : Type 0} (o : Attempt A) → attempt o (λ a. gives a) ≡ o
unfolding attempt
attempt_same fails = refl
attempt_same (gives a) = refl

-- the cells that do not stand above
abbrev unseen : List ℤ → ℤ → Bool
unseen above y = not (any (same y) above)

unseen_more : (above : List ℤ) (x y : ℤ) → unseen (above ++ (x ∷ [])) y ≡ (unseen above y && not (same x y))
unseen_more above x y =
    ap not (any_snoc (same y) above x ∙ ap (any (same y) above ||◌) (same_sym y x))
    ∙ both (any (same y) above) (same x y)
  where
    both : (a b : Bool) → not (a || b) ≡ (not a && not b)
    both true b = refl
    both false b = refl

module _ (f : ℤ → Attempt Table) where
  each_after :
      (above xs : List ℤ) → each f (filter (unseen above) (firsts same xs)) ≡ each (λ o. o) (turns_after f above xs)
  unfolding each firsts filter turns_after attempt
  each_after above [] = refl
  each_after above (x ∷ xs) =
      let others :
      filter (unseen above) (filter (λ y. not (same x y)) (firsts same xs))
      ≡ filter (unseen (above ++ (x ∷ []))) (firsts same xs) =
      filter_both (unseen above) (λ y. not (same x y)) (unseen (above ++ (x ∷ []))) (unseen_more above x)
      (firsts same xs) in
      by_cases (unseen above x)
      (λ e. rw (e, others, each_after (above ++ (x ∷ [])) xs))
      (λ e.
      rw (e, others, each_after (above ++ (x ∷ [])) xs)
      (sym (attempt_same (each (λ o. o) (turns_after f (above ++ (x ∷ [])) xs)))))

  each_turns : (xs : List ℤ) → each f (firsts same xs) ≡ each (λ o. o) (turns_after f [] xs)
  unfolding any
  each_turns xs =
      ap (each f) (sym (filter_all (unseen []) (firsts same xs) (all_any (firsts same xs) (λ y. refl))))
      ∙ each_after [] xs

-- what is made from row i on
abbrev pub rest : Gather → World → Table → ℕ → List (Attempt Table)
rest gather w t i =
    turns_after (made gather w t) (take i (column t (column_of gather))) (drop i (column t (column_of gather)))

module _ (gather : Gather) (w : World) (t : Table) where
  pub rest_head : (i : ℕ) → i < length t → rest gather w t i ≡ turn gather w t i ∷ rest gather w t (i + 1)
  unfolding turns_after turn opening
  rest_head i h =
      let c = column_of gather in
      let long = length_column t c in
      let next : suc i ≡ i + 1 = omega arith in
      let x = cell_at t c i in
      let first : drop i (column t c) ≡ x ∷ drop (i + 1) (column t c) =
      drop-cons (column t c) i (pos 0) (omega arith)
      ∙ ap₂ (λ (z : ℤ) (j : ℕ). z ∷ drop j (column t c)) (get_d_column t c i) next in
      let above : take i (column t c) ++ (x ∷ []) ≡ take (i + 1) (column t c) =
      ap (λ (z : ℤ). take i (column t c) ++ (z ∷ [])) (sym (get_d_column t c i))
      ∙ sym (take-suc (column t c) i (pos 0) (omega arith))
      ∙ ap (λ (j : ℕ). take j (column t c)) next in
      ap (turns_after (made gather w t) (take i (column t c))) first
      ∙ ap (λ (l : List ℤ). turn gather w t i ∷ turns_after (made gather w t) l (drop (i + 1) (column t c))) above

  pub rest_none : (i : ℕ) → length t ≤ i → rest gather w t i ≡ []
  unfolding turns_after
  rest_none i h =
      ap (turns_after (made gather w t) (take i (column t (column_of gather))))
      (drop_of_length-le (column t (column_of gather)) {i = i} (omega (arith, length_column t (column_of gather))))

  pub rest_whole : whole gather w t ≡ each (λ o. o) (rest gather w t 0)
  unfolding whole groups
  rest_whole = each_turns (made gather w t) (column t (column_of gather))

-- attempts, one after another
succeeds_both :
    {B : Type 0} (o u : Attempt (List B)) →
    succeeds (attempt o (λ ys. attempt u (λ zs. gives (ys ++ zs)))) ≡ (succeeds o && succeeds u)
unfolding succeeds attempt
succeeds_both fails u = refl
succeeds_both (gives ys) fails = refl
succeeds_both (gives ys) (gives zs) = refl

pub succeeds_each :
    {A B : Type 0} (f : A → Attempt (List B)) (xs : List A) → succeeds (each f xs) ≡ all (λ x. succeeds (f x)) xs
unfolding each all succeeds
succeeds_each f [] = refl
succeeds_each f (x ∷ xs) = succeeds_both (f x) (each f xs) ∙ ap (succeeds (f x) &&◌) (succeeds_each f xs)

pub settled_yes : (o : Attempt Table) → succeeds o ≡ true → Settled o
unfolding succeeds Settled
settled_yes fails e = clash e refl
settled_yes (gives t) e = (t, refl)

pub failed_no : (o : Attempt Table) → succeeds o ≡ false → o ≡ fails
unfolding succeeds
failed_no fails e = refl
failed_no (gives t) e = clash refl e

module _ (gather : Gather) (w : World) (t : Table) (i : ℕ) where
  pub turn_no : opening t (column_of gather) i ≡ false → turn gather w t i ≡ gives []
  unfolding turn
  turn_no e = rw e

  -- p: the part of the table that has all the group's rows
  pub turn_yes :
      (p : Table) → opening t (column_of gather) i ≡ true → in_front p (column_of gather) ≡ cell_at t (column_of gather) i →
      group_of p (column_of gather) (cell_at t (column_of gather) i)
      ≡ group_of t (column_of gather) (cell_at t (column_of gather) i) →
      turn gather w t i ≡ made gather w p (in_front p (column_of gather))
  unfolding turn made
  turn_yes p e d g =
      let c = column_of gather in
      ap (λ (b : Bool). cond b (made gather w t (cell_at t c i)) (gives [])) e
      ∙ ap (gathered gather w (cell_at t c i)) (sym g)
      ∙ ap (λ (x : ℤ). gathered gather w x (group_of p c x)) (sym d)
