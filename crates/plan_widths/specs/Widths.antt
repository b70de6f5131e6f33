-- The definitions' `width_of` in the order of the code: the tables named, one test of their widths, the width.
--     tables_of o         the tables that an operator names: none, or two; the second is the first where it names one
--     suitable o w v     operator o suits tables of widths w and v
--     made_width o w v    the width of the table that an operator of the code then makes
--     width_field r       a width, or failing
use Rattle.std.specs.Prelude.{ℕ, ◌+◌, Bool, true, ◌&&◌, ◌||◌, eqb, ltb, leb, length, Option, Some, None}
use Rattle.laws.specs.Attempt.{Attempt, tried}
use Rattle.meaning.specs.Plan.{Op, RT, RA, RP, RU, RD, RS, RJ, RN, RF, RV, RC, RE, RK, RX, RO, columns}
use Rattle.plan_records.specs.declared.Operator.{Operator}

unfoldable pub tables_of : Operator → Option (ℕ × ℕ)
tables_of Operator.One = None
tables_of (Operator.Attach t z) = Some (t, t)
tables_of (Operator.Project t n from) = Some (t, t)
tables_of (Operator.Union t u) = Some (t, u)
tables_of (Operator.Minus t u) = Some (t, u)
tables_of (Operator.Select t c) = Some (t, t)
tables_of (Operator.Join t c u d) = Some (t, u)
tables_of (Operator.Number t p n from) = Some (t, t)
tables_of (Operator.Apply t f c d) = Some (t, t)
tables_of (Operator.Value t c) = Some (t, t)
tables_of (Operator.Counts t c) = Some (t, t)
tables_of (Operator.Truths t) = Some (t, t)
tables_of (Operator.Once t c) = Some (t, t)
tables_of (Operator.Step t x y) = Some (t, t)
tables_of (Operator.Root t k) = Some (t, t)

unfoldable pub suitable : Op → ℕ → ℕ → Bool
suitable RT w v = true
suitable (RA t z) w v = leb (w + 1) 6
suitable (RP t cs) w v = columns w cs && leb (length cs) 6
suitable (RU t u) w v = eqb w v
suitable (RD t u) w v = eqb w v
suitable (RS t c) w v = ltb c w
suitable (RJ t c u d) w v = (ltb c w && ltb d v) && leb (w + v) 6
suitable (RN t p ks) w v = ((eqb p 255 || ltb p w) && columns w ks) && leb (w + 1) 6
suitable (RF t f c d) w v = (ltb c w && ltb d w) && leb (w + 1) 6
suitable (RV t c) w v = ltb c w && leb (w + 1) 6
suitable (RC t c) w v = ltb c w
suitable (RE t) w v = eqb w 3
suitable (RK t c) w v = ltb c w
suitable (RX t x y) w v = eqb w 2
suitable (RO t k) w v = leb (w + 1) 6

unfoldable pub made_width : Operator → ℕ → ℕ → ℕ
made_width Operator.One w v = 1
made_width (Operator.Attach t z) w v = w + 1
made_width (Operator.Project t n from) w v = n
made_width (Operator.Union t u) w v = w
made_width (Operator.Minus t u) w v = w
made_width (Operator.Select t c) w v = w
made_width (Operator.Join t c u d) w v = w + v
made_width (Operator.Number t p n from) w v = w + 1
made_width (Operator.Apply t f c d) w v = w + 1
made_width (Operator.Value t c) w v = w + 1
made_width (Operator.Counts t c) w v = 2
made_width (Operator.Truths t) w v = 2
made_width (Operator.Once t c) w v = w
made_width (Operator.Step t x y) w v = 2
made_width (Operator.Root t k) w v = w + 1

abbrev pub width_field : Option ℕ → Attempt ℕ
width_field = tried
