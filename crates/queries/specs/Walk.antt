-- The query check without its tree: what the code does, step by step. The bound variables are eight flags.
--     Passing              an offset and the records so far, or a refusal
--     Walker               how an operand is walked over: its flags, the records before it, its offset
--     passes r             what reading finds, without the tree: the offset after it and the records so far
--     two rd fs gs n at    two operands from an offset on, the first under the flags fs, the second under gs
--     three rd fs n at     three operands from an offset on
--     steps rd fs at n next o    the operands of a record at an offset, n records with it, read by rd from next on
--     walk d bs fs n at    the query at an offset, d more levels allowed, fs the flags of the variables bound there,
--                          n records before it
--     Flags fs vs          the flags of the variables vs
use Rattle.std.specs.Prelude.{ℕ, zero, suc, ◌<◌, ◌≡◌, Bool, true, false, List, ltb, length, get_or, set}
use Rattle.laws.specs.Attempt.{Reading, refuses, reads, reading, unless}
use Rattle.meaning.specs.Query.{Read, record_at, bound}
use Rattle.query_records.specs.declared.Operands.{Operands}
use Rattle.query_records.specs.declared.Operands.TheVariants.{None, Variable, One, Two, Binding, Three}
use Rattle.query_records.specs.Decoded.{operands_of}

abbrev pub Passing : Type 0
Passing = Reading (ℕ × ℕ)

abbrev pub Walker : Type 0
Walker = List Bool → ℕ → ℕ → Passing

unfoldable pub passes : Reading Read → Passing
passes r = reading r (λ x. reads (x.next, x.records))

unfoldable pub two : Walker → List Bool → List Bool → ℕ → ℕ → Passing
two rd fs gs n at = reading (rd fs n at) (λ x. rd gs x.1 x.0)

unfoldable pub three : Walker → List Bool → ℕ → ℕ → Passing
three rd fs n at = reading (rd fs n at) (λ x. two rd fs fs x.1 x.0)

unfoldable pub steps : Walker → List Bool → ℕ → ℕ → ℕ → Operands → Passing
steps rd fs at n next None = reads (next, n)
steps rd fs at n next (Variable v) = unless (get_or fs v false) 3 at (reads (next, n))
steps rd fs at n next One = rd fs n next
steps rd fs at n next Two = two rd fs fs n next
steps rd fs at n next (Binding v) = two rd fs (set fs v true) n next
steps rd fs at n next Three = three rd fs n next

unfoldable pub walk : ℕ → List ℕ → Walker
walk zero bs fs n at = reading (record_at bs at) (λ r. refuses 2 at)
walk (suc d) bs fs n at =
    reading (record_at bs at) (λ r. unless (ltb n 128) 2 at (steps (walk d bs) fs at (suc n) r.1 (operands_of r.0)))

pub record Flags (fs : List Bool) (vs : List ℕ) : Type 0 where
  pub eight : length fs ≡ 8
  pub flag : (v : ℕ) → v < 8 → get_or fs v false ≡ bound v vs
