-- Ranks of one fragment. `Deep level a b` says that the rows from a up to b are no roots.
--     deep_same     ranks with no root after the first, up to the second, are of one fragment
--     same_deep     .. and the other way round
--     entering level none kept     what a pass keeps of a fragment, at a row
use Prim.Native.Nat.{ℕ, ◌+◌, ◌≤◌, ◌<◌}
use mathlib.Core.Path.{◌≡◌}
use mathlib.Core.Bool.{cond}
use native.Mathlib.Decide.{ℕ_discrete}
use native.Mathlib.Omega.{arith}
use lib.Dec.{eqb}
use Rattle.meaning.specs.Catalogue.{Catalogue}
use Rattle.meaning.specs.World.{fragment}
use Rattle.doc_rows.proofs.Fragments.{fragment_same, fragment_parted}

abbrev pub Deep : (ℕ → ℕ) → ℕ → ℕ → Type 0
Deep level a b = (u : ℕ) → a ≤ u → u < b → 0 < level u

-- what is kept of a fragment, at a row of a level: past a root there is none yet
abbrev pub entering : ℕ → ℕ → ℕ → ℕ
entering level none kept = cond (eqb level 0) none kept

module _ (c : Catalogue) (x v : ℕ) where
  pub deep_same : x ≤ v → Deep c.level (x + 1) (v + 1) → fragment c x ≡ fragment c v
  deep_same h f = fragment_same c v x h (λ r a b z. omega (arith, f r (omega arith) (omega arith)))

  pub same_deep : fragment c x ≡ fragment c v → Deep c.level (x + 1) (v + 1)
  same_deep e u a b = by_level (ℕ_discrete (c.level u) 0)
    where
      by_level : Dec (c.level u ≡ 0) → 0 < c.level u
      by_level (yes z) = absurd (fragment_parted c v x u e (omega arith) (omega arith) z)
      by_level (no z) = omega arith
