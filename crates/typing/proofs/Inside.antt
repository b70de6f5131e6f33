-- Parts inside: the readers of shorter texts.
--     expr_zero, expr_suc         a list inside: with no text left for it, and with some
--     single_zero, single_suc     .. a Single
--     expr_stuck, single_stuck    a part inside with no text left, as an answer
use Prim.Native.Nat.{ℕ, zero, suc, ◌-◌, ◌≤◌}
use mathlib.Core.Path.{◌≡◌, refl}
use mathlib.Core.List.{List}
use mathlib.Core.Bool.{Bool}
use native.Mathlib.Omega.{arith}
use lib.ListN.{length, drop}
use Rattle.std.specs.Prelude.{Err}
use Rattle.grammar.specs.Words.{Kind, symbol}
use Rattle.parsing.specs.declared.Ends.{Ends}
use Rattle.parsing.specs.declared.Ends.TheVariants.{WithList}
use Rattle.parsing.specs.Reader.{stuck, readers, read_single}
use Rattle.operands.specs.Going.{PartGoes, part_value}
use Rattle.operands.proofs.Follows.{part_stuck}
use Rattle.typing.specs.declared.Chain.TheVariants.{Items}
use Rattle.typing.specs.Cycle.{inner_expr, inner_single, whole_of}

module _ (d : ℕ) (t : List ℕ) where
  pub expr_zero : (l : ℕ) → l ≡ 0 → inner_expr (readers l) d t ≡ stuck t
  expr_zero zero h = refl
  expr_zero (suc l) h = absurd (omega arith)

  pub expr_suc : (c begun : Bool) (l : ℕ) → (l ≡ 0 → ⊥)
      → inner_expr (readers l) d t ≡ whole_of Items (readers (l - 1)) d WithList c begun symbol t
  expr_suc c begun zero h = absurd (h refl)
  expr_suc c begun (suc l) h = let e : suc l - 1 ≡ l = omega arith in rw e

  pub single_zero : (e : Ends) (k : Kind) (l : ℕ) → l ≡ 0 → inner_single (readers l) d e k t ≡ stuck t
  single_zero e k zero h = refl
  single_zero e k (suc l) h = absurd (omega arith)

  pub single_suc : (e : Ends) (k : Kind) (l : ℕ) → (l ≡ 0 → ⊥)
      → inner_single (readers l) d e k t ≡ read_single (readers (l - 1)) d e k t
  single_suc e k zero h = absurd (h refl)
  single_suc e k (suc l) h = let e : suc l - 1 ≡ l = omega arith in rw e

module _ (text : List ℕ) (made at d : ℕ) (keeps : ℕ → List ℕ → Type 0) (l : ℕ) (none : l ≡ 0)
    (h : at ≤ length text) where
  pub expr_stuck : PartGoes part_value text made (inner_expr (readers l) d (drop at text)) keeps
      (Err (record { 0 = at }))
  expr_stuck = part_stuck keeps (record { means = expr_zero d (drop at text) l none; inside = h })

  pub single_stuck : (e : Ends) (k : Kind)
      → PartGoes part_value text made (inner_single (readers l) d e k (drop at text)) keeps (Err (record { 0 = at }))
  single_stuck e k = part_stuck keeps (record { means = single_zero d (drop at text) e k l none; inside = h })
