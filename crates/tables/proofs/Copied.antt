-- Cells that `copy_within` copied are laid where they go.
use Prim.Native.Nat.{ℕ, ◌+◌, ◌-◌, ◌≤◌}
use mathlib.Core.Path.{◌≡◌, ap, ◌∙◌, sym}
use mathlib.Core.List.{List, ◌++◌, append_assoc}
use native.Mathlib.Omega.{arith}
use lib.ListN.{length, take, drop}
use Rattle.std.specs.List.{copy_within}
use Rattle.laws.specs.Rows.{row, laid}
use Rattle.laws.proofs.Rows.{length_row}

pub pasted_laid : {A : Type 0} (xs : List A) (from end n to : ℕ) → end ≡ from + n → end ≤ length xs →
    copy_within xs from end to ≡ laid xs to (row xs from n)
unfolding row laid
pasted_laid {A} xs from end n to e h =
    let k : end - from ≡ n = omega arith in
    append_assoc (take to xs) (take (end - from) (drop from xs)) (drop (to + (end - from)) xs)
    ∙ ap (λ (m : ℕ). take to xs ++ (take m (drop from xs) ++ drop (to + m) xs)) k
    ∙ ap (λ (m : ℕ). take to xs ++ (take n (drop from xs) ++ drop (to + m) xs))
    (sym (length_row xs from n (omega arith)))
