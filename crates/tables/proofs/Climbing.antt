-- What a column that climbs says of its cells.
--     climbs_tail, climbs_drop   a column that climbs climbs from any row on
--     climbs_low                 no cell of a column that climbs stands before the first
--     climbs_at                  .. or before an earlier one
use Prim.Native.Nat.{ℕ, zero, suc, ◌≤◌, ◌<◌}
use mathlib.Core.Path.{◌≡◌, refl}
use mathlib.Core.List.{List, [], ◌∷◌}
use mathlib.Core.Bool.{true, false, not}
use native.Mathlib.Omega.{arith}
use lib.IntN.{ℤ, pos}
use lib.ListN.{length, get_or, drop}
use borrow.Author.Tests.{not-true}
use Rattle.cells.specs.Cell.{before}
use Rattle.cells.proofs.Cells.{before_irrefl, not_before_trans}
use Rattle.laws.specs.Lists.{All}
use Rattle.laws.proofs.Lists.{all_map, all_get_d}
use Rattle.laws.proofs.Booleans.{both_true}
use Rattle.tables.specs.Order.{each_next, climbs}

-- no cell stands before an earlier one
pub climbs_tail : (x : ℤ) (xs : List ℤ) → climbs (x ∷ xs) ≡ true → climbs xs ≡ true
unfolding climbs each_next
climbs_tail x [] e = refl
climbs_tail x (y ∷ ys) e = (both_true (not (before y x)) (climbs (y ∷ ys)) e).1

pub climbs_low : (x : ℤ) (xs : List ℤ) → climbs (x ∷ xs) ≡ true → All (λ y. before y x ≡ false) xs
unfolding climbs each_next
climbs_low x [] e = tt
climbs_low x (y ∷ ys) e =
    let h = both_true (not (before y x)) (climbs (y ∷ ys)) e in
    let b = not-true (before y x) h.0 in
    (b, all_map ys (λ z k. not_before_trans z y x k b) (climbs_low y ys h.1))

pub climbs_drop : (xs : List ℤ) (i : ℕ) → climbs xs ≡ true → climbs (drop i xs) ≡ true
climbs_drop xs zero e = e
climbs_drop [] (suc i) e = e
climbs_drop (x ∷ xs) (suc i) e = climbs_drop xs i (climbs_tail x xs e)

pub climbs_at : (zs : List ℤ) (i j : ℕ) → climbs zs ≡ true → i ≤ j → j < length zs
    → before (get_or zs j (pos 0)) (get_or zs i (pos 0)) ≡ false
climbs_at [] i j e h k = absurd (omega arith)
climbs_at (z ∷ zs) zero zero e h k = before_irrefl z
climbs_at (z ∷ zs) zero (suc j) e h k =
    all_get_d (λ y. before y z ≡ false) zs j (pos 0) (climbs_low z zs e) (omega arith)
climbs_at (z ∷ zs) (suc i) zero e h k = absurd (omega arith)
climbs_at (z ∷ zs) (suc i) (suc j) e h k = climbs_at zs i j (climbs_tail z zs e) (omega arith) (omega arith)
