-- The bytes of a field.
--     size_some       a field has a byte at the least
use Prim.Native.Nat.{ℕ, ◌≤◌}
use mathlib.Core.Bool.{Bool, true, false, cond}
use native.Mathlib.Omega.{arith}
use lib.Dec.{eqb}
use Rattle.meaning.specs.Plan.{mark_ra, mark_ru, mark_rd, mark_rj, mark_rx}
use Rattle.shown_records.specs.Records.{size_of}

either_some : (b : Bool) (x y : ℕ) → 1 ≤ x → 1 ≤ y → 1 ≤ cond b x y
either_some true x y h k = h
either_some false x y h k = k

pub size_some : (m a : ℕ) → 1 ≤ size_of m a
unfolding size_of
size_some m a =
    let one : 1 ≤ 1 = omega arith in
    let two : 1 ≤ 2 = omega arith in
    let eight : 1 ≤ 8 = omega arith in
    either_some (eqb a 2) _ _ two
    (either_some (eqb m mark_ra) _ _ eight
    (either_some (eqb m mark_ru) _ _ two
    (either_some (eqb m mark_rd) _ _ two
    (either_some (eqb m mark_rj) _ _ (either_some (eqb a 5) _ _ two one)
    (either_some (eqb m mark_rx) _ _ (either_some (eqb a 6) _ _ two one) one)))))
