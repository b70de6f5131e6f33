-- The bytes of each record by itself, its operands left out (document 01, 'Query records').
--     minus_bits n           the 32 bits of -n
--     record_ql u            an integer, by its 32 bits
--     record_qb b            a boolean
--     record_qe              the empty sequence
--     record_qr k            root of fragment k
--     record_qv v            a variable
--     record_qs              a's items, then b's
--     record_qt v, record_qf v     let, for
--     record_qi              if
--     record_qo f            a function of two numbers
--     record_qc, record_qd    number of items, each item's value
--     record_qx x t          a step
use Rattle.std.specs.Prelude.{ℕ, ◌-◌, List, [], ◌∷◌, ◌++◌, Bool, cond}
use Rattle.codes.specs.declared.Function.{Function}
use Rattle.codes.specs.declared.Axis.{Axis}
use Rattle.codes.specs.declared.Test.{Test}
use Rattle.cells.specs.Bytes.{bytes_of}
use Rattle.codes.specs.Codes.{function_number, axis_number, test_number, test_name}
use Rattle.meaning.specs.Query.{mark_ql, mark_qb, mark_qe, mark_qr, mark_qv, mark_qs, mark_qt, mark_qf, mark_qi, mark_qo}
use Rattle.meaning.specs.Query.{mark_qc, mark_qd, mark_qx}

abbrev pub minus_bits : ℕ → ℕ
minus_bits n = 0x1_0000_0000 - n

unfoldable pub record_ql : ℕ → List ℕ
record_ql u = bytes_of 2 mark_ql ++ bytes_of 4 u

unfoldable pub record_qb : Bool → List ℕ
record_qb b = bytes_of 2 mark_qb ++ (cond b 1 0 ∷ [])

unfoldable pub record_qe : List ℕ
record_qe = bytes_of 2 mark_qe

unfoldable pub record_qr : ℕ → List ℕ
record_qr k = bytes_of 2 mark_qr ++ (k ∷ [])

unfoldable pub record_qv : ℕ → List ℕ
record_qv v = bytes_of 2 mark_qv ++ (v ∷ [])

unfoldable pub record_qs : List ℕ
record_qs = bytes_of 2 mark_qs

unfoldable pub record_qt : ℕ → List ℕ
record_qt v = bytes_of 2 mark_qt ++ (v ∷ [])

unfoldable pub record_qf : ℕ → List ℕ
record_qf v = bytes_of 2 mark_qf ++ (v ∷ [])

unfoldable pub record_qi : List ℕ
record_qi = bytes_of 2 mark_qi

unfoldable pub record_qo : Function → List ℕ
record_qo f = bytes_of 2 mark_qo ++ (function_number f ∷ [])

unfoldable pub record_qc : List ℕ
record_qc = bytes_of 2 mark_qc

unfoldable pub record_qd : List ℕ
record_qd = bytes_of 2 mark_qd

unfoldable pub record_qx : Axis → Test → List ℕ
record_qx x t = bytes_of 2 mark_qx ++ (axis_number x ∷ test_number t ∷ bytes_of 2 (test_name t))
