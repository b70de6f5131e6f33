-- A plan's bytes (document 01, 'Plan operators'; the records' fields are listed in docs/DECISIONS.md).
--     operator_bytes o       the record of one operator
--     written os            a plan's bytes
use Rattle.std.specs.Prelude.{ℕ, List, [], ◌∷◌, ◌++◌, ℤ, length}
use Rattle.cells.specs.Bytes.{bytes_of, bits8}
use Rattle.codes.specs.Codes.{function_number, axis_number, test_number, test_name}
use Rattle.laws.specs.Lists.{gather}
use Rattle.meaning.specs.Plan.{Op, RT, RA, RP, RU, RD, RS, RJ, RN, RF, RV, RC, RE, RK, RX, RO, mark_rt, mark_ra}
use Rattle.meaning.specs.Plan.{mark_rp, mark_ru, mark_rd, mark_rs, mark_rj, mark_rn, mark_rf, mark_rc, mark_re, mark_rk}
use Rattle.meaning.specs.Plan.{mark_rx, mark_ro}

unfoldable pub operator_bytes : Op → List ℕ
operator_bytes RT = bytes_of 2 mark_rt
operator_bytes (RA t z) = bytes_of 2 mark_ra ++ bytes_of 2 t ++ bytes_of 8 (bits8 z)
operator_bytes (RP t cs) = bytes_of 2 mark_rp ++ bytes_of 2 t ++ length cs ∷ cs
operator_bytes (RU t u) = bytes_of 2 mark_ru ++ bytes_of 2 t ++ bytes_of 2 u
operator_bytes (RD t u) = bytes_of 2 mark_rd ++ bytes_of 2 t ++ bytes_of 2 u
operator_bytes (RS t c) = bytes_of 2 mark_rs ++ bytes_of 2 t ++ c ∷ []
operator_bytes (RJ t c u d) = bytes_of 2 mark_rj ++ bytes_of 2 t ++ c ∷ bytes_of 2 u ++ d ∷ []
operator_bytes (RN t p ks) = bytes_of 2 mark_rn ++ bytes_of 2 t ++ p ∷ length ks ∷ ks
operator_bytes (RF t f c d) = bytes_of 2 mark_rf ++ bytes_of 2 t ++ function_number f ∷ c ∷ d ∷ []
operator_bytes (RV t c) = bytes_of 2 mark_rf ++ bytes_of 2 t ++ 7 ∷ c ∷ []
operator_bytes (RC t c) = bytes_of 2 mark_rc ++ bytes_of 2 t ++ c ∷ []
operator_bytes (RE t) = bytes_of 2 mark_re ++ bytes_of 2 t
operator_bytes (RK t c) = bytes_of 2 mark_rk ++ bytes_of 2 t ++ c ∷ []
operator_bytes (RX t axis test) =
    bytes_of 2 mark_rx ++ bytes_of 2 t ++ axis_number axis ∷ test_number test ∷ bytes_of 2 (test_name test)
operator_bytes (RO t k) = bytes_of 2 mark_ro ++ bytes_of 2 t ++ k ∷ []

unfoldable pub written : List Op → List ℕ
written os = gather operator_bytes os
