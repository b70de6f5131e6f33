-- What one look at a cell of a column that climbs says of the others.
--     passed_before, passed_equal    the test, made on the cells
--     front_none, back_none          nothing is passed, all is
--     front_more, front_to, back_more    one look moves either end
--     front_equal, back_end          what is before x is passed with those equal to it; no row stands behind the last
use Prim.Native.Nat.{ℕ, ◌+◌, ◌≤◌, ◌<◌}
use mathlib.Core.Path.{◌≡◌, refl, sym, ap, ap₂, ◌∙◌, subst}
use mathlib.Core.List.{List}
use mathlib.Core.Bool.{Bool, true, false, not}
use mathlib.Core.Logic.{⊎_elim}
use native.Mathlib.Omega.{arith}
use lib.IntN.{ℤ, pos}
use borrow.Author.Tests.{not-true}
use lib.ListN.{length, get_or}
use Rattle.cells.specs.Cell.{before}
use Rattle.cells.proofs.Cells.{before_asym, before_cotrans, not_before_trans}
use Rattle.laws.proofs.Booleans.{clash}
use Rattle.meaning.specs.Operators.{column}
use Rattle.tables.specs.declared.Stand.{Stand}
use Rattle.tables.specs.Layout.{table_at}
use Rattle.tables.proofs.Reading.{length_rows}
use Rattle.tables.proofs.Climbing.{climbs_at}
use Rattle.searching.specs.Narrowed.{passed, Front, Back}
use Rattle.tables.specs.Order.{climbs}

-- the tests of a cell
module _ (v x y z : ℤ) (equal : Bool) (d : v ≡ x) (e : y ≡ z) where
  pub passed_before : equal ≡ false → before y v ≡ passed equal x z
  unfolding passed
  passed_before h = ap₂ before e d ∙ ap (λ (t : Bool). passed t x z) (sym h)

  pub passed_equal : equal ≡ true → not (before v y) ≡ passed equal x z
  unfolding passed
  passed_equal h = ap₂ (λ (l r : ℤ). not (before l r)) d e ∙ ap (λ (t : Bool). passed t x z) (sym h)

-- what one cell says of those above it and below it
earlier_passed : (equal : Bool) (x y z : ℤ) → before z y ≡ false → passed equal x z ≡ true → passed equal x y ≡ true
unfolding passed
earlier_passed false x y z h e = ⊎_elim (λ d. clash d h) (λ d. d) (before_cotrans z y x e)
earlier_passed true x y z h e = ap not (not_before_trans x z y (not-true (before x z) e) h)

later_not : (equal : Bool) (x y z : ℤ) → before z y ≡ false → passed equal x y ≡ false → passed equal x z ≡ false
later_not equal x y z h e = by_test (passed equal x z) refl
  where
    by_test : (t : Bool) → passed equal x z ≡ t → passed equal x z ≡ false
    by_test true d = clash (earlier_passed equal x y z h d) e
    by_test false d = d

module _ (equal : Bool) (x : ℤ) (zs : List ℤ) where
  pub front_none : Front equal x zs 0
  unfolding Front
  front_none i h = absurd (omega arith)

  pub back_none : (n : ℕ) → length zs ≤ n → Back equal x zs n
  unfolding Back
  back_none n h i k l = absurd (omega arith)

  module _ (climbing : climbs zs ≡ true) (j : ℕ) (there : j < length zs) where
    pub front_more : passed equal x (get_or zs j (pos 0)) ≡ true → Front equal x zs (j + 1)
    unfolding Front
    front_more e i h = earlier_passed equal x _ _ (climbs_at zs i j climbing (omega arith) there) e

    pub front_to : (n : ℕ) → j + 1 ≡ n → passed equal x (get_or zs j (pos 0)) ≡ true → Front equal x zs n
    front_to n d e = subst (Front equal x zs) d (front_more e)

    pub back_more : passed equal x (get_or zs j (pos 0)) ≡ false → Back equal x zs j
    unfolding Back
    back_more e i h k = later_not equal x _ _ (climbs_at zs j i climbing h k) e

-- cells before x are passed where equal ones are, too
pub front_equal : (x : ℤ) (zs : List ℤ) (n : ℕ) → Front false x zs n → Front true x zs n
unfolding Front passed
front_equal x zs n f i h = ap not (before_asym (get_or zs i (pos 0)) x (f i h))

-- no row stands behind the last
pub back_end : (equal : Bool) (x : ℤ) (xs : List ℤ) (u : Stand) (d n : ℕ) → u.rows ≡ n
    → Back equal x (column (table_at xs u) d) n
back_end equal x xs u d n e = back_none equal x (column (table_at xs u) d) n (omega (arith, length_rows xs u d))
