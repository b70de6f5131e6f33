-- What it takes to stand on an axis, and what standing on one tells.
--     on_axis_lem           one fragment, and the axis's own condition
--     axis_of_lem           the axis's own condition
--     fragment_of_lem       one fragment
--     descendant, descendant_of     a row that a size covers
--     child, child_of               .. one level down
use Prim.Native.Nat.{ℕ, ◌+◌, ◌≤◌, ◌<◌}
use mathlib.Core.Path.{◌≡◌}
use mathlib.Core.Bool.{true}
use lib.Dec.{eqb, ltb, leb}
use borrow.Author.Tests.{eqb-true, eq-eqb, ltb-true, lt-ltb, leb-true, le-leb}
use Rattle.codes.specs.declared.Axis.{Axis}
use Rattle.meaning.specs.Catalogue.{Catalogue}
use Rattle.meaning.specs.World.{fragment, is_descendant, is_child, axis_holds, on_axis}
use Rattle.laws.proofs.Booleans.{both_true}
use Rattle.nodesets.proofs.Tests.{both_and}

module _ (c : Catalogue) where
  module _ (axis : Axis) (x v : ℕ) where
    pub on_axis_lem : fragment c x ≡ fragment c v → axis_holds c axis x v ≡ true → on_axis c axis x v ≡ true
    unfolding on_axis
    on_axis_lem e h = both_and (eq-eqb (fragment c x) (fragment c v) e) h

    parts : on_axis c axis x v ≡ true → (eqb (fragment c x) (fragment c v) ≡ true) × (axis_holds c axis x v ≡ true)
    unfolding on_axis
    parts h = both_true (eqb (fragment c x) (fragment c v)) (axis_holds c axis x v) h

    pub axis_of_lem : on_axis c axis x v ≡ true → axis_holds c axis x v ≡ true
    axis_of_lem h = (parts h).1

    pub fragment_of_lem : on_axis c axis x v ≡ true → fragment c x ≡ fragment c v
    fragment_of_lem h = eqb-true (fragment c x) (fragment c v) (parts h).0

  pub descendant : (x v : ℕ) → x < v → v ≤ x + c.size x → is_descendant c x v ≡ true
  unfolding is_descendant
  descendant x v h j = both_and (lt-ltb x v h) (le-leb v (x + c.size x) j)

  pub descendant_of : (x v : ℕ) → is_descendant c x v ≡ true → (x < v) × (v ≤ x + c.size x)
  unfolding is_descendant
  descendant_of x v h =
      let w = both_true (ltb x v) (leb v (x + c.size x)) h in
      (ltb-true x v w.0, leb-true v (x + c.size x) w.1)

  pub child : (x v : ℕ) → x < v → v ≤ x + c.size x → c.level v ≡ c.level x + 1 → is_child c x v ≡ true
  unfolding is_child
  child x v h j e = both_and (descendant x v h j) (eq-eqb (c.level v) (c.level x + 1) e)

  pub child_of : (x v : ℕ) → is_child c x v ≡ true → (x < v) × (v ≤ x + c.size x) × (c.level v ≡ c.level x + 1)
  unfolding is_child
  child_of x v h =
      let w = both_true (is_descendant c x v) (eqb (c.level v) (c.level x + 1)) h in
      let d = descendant_of x v w.0 in
      (d.0, d.1, eqb-true (c.level v) (c.level x + 1) w.1)
