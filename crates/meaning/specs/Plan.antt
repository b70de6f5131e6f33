-- A plan read from bytes (document 01, 'Plan operators'; the records' fields are listed in docs/DECISIONS.md).
--     Op                 one operator: tables by number, columns from 0
--     mark_rt, mark_ra, mark_rp, mark_ru, mark_rd, mark_rs, mark_rj, mark_rn, mark_rf, mark_rc, mark_re, mark_rk, mark_rx, mark_ro
--                        the mark of each
--     plain_in h          what RA may attach: an integer or a boolean
--     columns_at bs at n  the n columns from an offset on
--     sized bs at n o    operator o, of n bytes that are all there, with the offset after it
--     field, table       byte i, and the table number from byte i on, of the operator at an offset
--     attach_at, project_at, number_at, function_at, step_at     the operators whose fields have ranges
--     operator_of ..      the operator of a mark
--     operator_at bs at   the operator at an offset and the offset after it: own fields sound and all there
--     table_width ws t    the width of table t: there is none from the operator's own number on
--     up_to6 w            a width of at most 6
--     columns w cs       every column of cs is below w
--     width_of ws op      the width of the table that op makes of tables of widths ws: or that op is unsound there
--     Placed             an operator with its offset and the width of its table
--     placed_at ..        a sound operator at an offset, with the offset after it
--     last_of p ps        the last operator of a plan
--     ended ps           none: 5 at 0; the last of width 3, else 5 at its record
--     plan_from ..        the operators from an offset on, `left` more allowed
--     plan_read bs        the whole plan, or refusal 5 at its place
use Rattle.std.specs.Prelude.{ℕ, zero, suc, ◌+◌, List, [], ◌∷◌, ◌++◌, map, Bool, true, false, cond, ◌&&◌, ◌||◌, ltb, leb, eqb, ℤ, length, get_or, take, drop, Option, Some, None}
use Rattle.cells.specs.declared.Item.{Item}
use Rattle.cells.specs.declared.Item.TheVariants.{Integer, Truth, Node}
use Rattle.cells.specs.Bytes.{byte_at, word, int8, fits}
use Rattle.cells.specs.Cell.{held}
use Rattle.laws.specs.Lists.{all}
use Rattle.laws.specs.Attempt.{Attempt, fails, gives, attempt, provided, Reading, refuses, reads, reading, refusing}
use Rattle.laws.specs.Attempt.{unless}
use Rattle.codes.specs.declared.Function.{Function}
use Rattle.codes.specs.declared.Axis.{Axis}
use Rattle.codes.specs.declared.Test.{Test}
use Rattle.meaning.specs.Query.{fragment_of}
use Rattle.codes.specs.Codes.{function_of, axis_of, test_of}
use Rattle.codes.specs.Limits.{most_operators}

pub data Op : Type 0 where
  RT : Op  -- one row, one cell, 1
  RA : (t : ℕ) → ℤ → Op  -- adds a column of that cell
  RP : (t : ℕ) → List ℕ → Op  -- those columns
  RU : (t u : ℕ) → Op  -- rows of t, then u
  RD : (t u : ℕ) → Op  -- rows of t equal to no row of u
  RS : (t c : ℕ) → Op  -- rows whose column c is true
  RJ : (t c u d : ℕ) → Op  -- rows of t and u with equal cells, joined
  RN : (t p : ℕ) → List ℕ → Op  -- rows in order, numbered within equal p (255: none)
  RF : (t : ℕ) → Function → (c d : ℕ) → Op  -- adds a function of two columns
  RV : (t c : ℕ) → Op  -- adds the value of one column: RF with function 7
  RC : (t c : ℕ) → Op  -- how many rows hold each cell
  RE : (t : ℕ) → Op  -- truth of each group
  RK : (t c : ℕ) → Op  -- t, where no cell occurs twice
  RX : (t : ℕ) → Axis → Test → Op  -- a step per group
  RO : (t k : ℕ) → Op  -- adds the root of fragment k

abbrev pub mark_rt : ℕ
mark_rt = 0x5254

abbrev pub mark_ra : ℕ
mark_ra = 0x5241

abbrev pub mark_rp : ℕ
mark_rp = 0x5250

abbrev pub mark_ru : ℕ
mark_ru = 0x5255

abbrev pub mark_rd : ℕ
mark_rd = 0x5244

abbrev pub mark_rs : ℕ
mark_rs = 0x5253

abbrev pub mark_rj : ℕ
mark_rj = 0x524A

abbrev pub mark_rn : ℕ
mark_rn = 0x524E

abbrev pub mark_rf : ℕ
mark_rf = 0x5246

abbrev pub mark_rc : ℕ
mark_rc = 0x5243

abbrev pub mark_re : ℕ
mark_re = 0x5245

abbrev pub mark_rk : ℕ
mark_rk = 0x524B

abbrev pub mark_rx : ℕ
mark_rx = 0x5258

abbrev pub mark_ro : ℕ
mark_ro = 0x524F

-- RA's cell is an integer or a boolean
unfoldable pub plain_in : Option Item → Bool
plain_in (Some (Integer z)) = true
plain_in (Some (Truth b)) = true
plain_in (Some (Node r)) = false
plain_in None = false

-- the n columns from an offset on
unfoldable pub columns_at : List ℕ → ℕ → ℕ → List ℕ
columns_at bs at n = take n (drop at bs)

-- an operator of n bytes that are all there
unfoldable pub sized : List ℕ → ℕ → ℕ → Attempt Op → Attempt (Op × ℕ)
sized bs at n o = provided (fits bs at n) (attempt o (λ x. gives (x, at + n)))

-- byte i, and the table number from byte i on, of the operator at an offset
abbrev pub field : List ℕ → ℕ → ℕ → ℕ
field bs at i = byte_at bs (at + i)

abbrev pub table : List ℕ → ℕ → ℕ → ℕ
table bs at i = word bs (at + i) 2

unfoldable pub attach_at : List ℕ → ℕ → ℤ → Attempt Op
attach_at bs at z = provided (plain_in (held z)) (gives (RA (table bs at 2) z))

unfoldable pub project_at : List ℕ → ℕ → ℕ → Attempt Op
project_at bs at n = provided (leb 1 n && leb n 6) (gives (RP (table bs at 2) (columns_at bs (at + 5) n)))

unfoldable pub number_at : List ℕ → ℕ → ℕ → Attempt Op
number_at bs at k =
    provided (leb 1 k && leb k 2) (gives (RN (table bs at 2) (field bs at 4) (columns_at bs (at + 6) k)))

-- function 1 to 6 of two columns, or 7 of one
unfoldable pub function_at : List ℕ → ℕ → ℕ → Attempt (Op × ℕ)
function_at bs at f =
    cond (eqb f 7) (sized bs at 6 (gives (RV (table bs at 2) (field bs at 5))))
    (sized bs at 7 (attempt (function_of f) (λ g. gives (RF (table bs at 2) g (field bs at 5) (field bs at 6)))))

unfoldable pub step_at : List ℕ → ℕ → Attempt Op
step_at bs at =
    attempt (axis_of (field bs at 4))
    (λ x. attempt (test_of (field bs at 5) (word bs (at + 6) 2)) (λ y. gives (RX (table bs at 2) x y)))

unfoldable pub operator_of : List ℕ → ℕ → ℕ → Attempt (Op × ℕ)
operator_of bs at mark =
    cond (eqb mark mark_rt) (sized bs at 2 (gives RT))
    (cond (eqb mark mark_ra) (sized bs at 12 (attach_at bs at (int8 bs (at + 4))))
    (cond (eqb mark mark_rp) (sized bs at (5 + field bs at 4) (project_at bs at (field bs at 4)))
    (cond (eqb mark mark_ru) (sized bs at 6 (gives (RU (table bs at 2) (table bs at 4))))
    (cond (eqb mark mark_rd) (sized bs at 6 (gives (RD (table bs at 2) (table bs at 4))))
    (cond (eqb mark mark_rs) (sized bs at 5 (gives (RS (table bs at 2) (field bs at 4))))
    (cond (eqb mark mark_rj) (sized bs at 8 (gives (RJ (table bs at 2) (field bs at 4) (table bs at 5) (field bs at 7))))
    (cond (eqb mark mark_rn) (sized bs at (6 + field bs at 5) (number_at bs at (field bs at 5)))
    (cond (eqb mark mark_rf) (function_at bs at (field bs at 4))
    (cond (eqb mark mark_rc) (sized bs at 5 (gives (RC (table bs at 2) (field bs at 4))))
    (cond (eqb mark mark_re) (sized bs at 4 (gives (RE (table bs at 2))))
    (cond (eqb mark mark_rk) (sized bs at 5 (gives (RK (table bs at 2) (field bs at 4))))
    (cond (eqb mark mark_rx) (sized bs at 8 (step_at bs at))
    (cond (eqb mark mark_ro) (sized bs at 5 (attempt (fragment_of (field bs at 4)) (λ k. gives (RO (table bs at 2) k))))
    fails)))))))))))))

unfoldable pub operator_at : List ℕ → ℕ → Attempt (Op × ℕ)
operator_at bs at = operator_of bs at (word bs at 2)

-- the width of table t: there is none from the operator's own number on
unfoldable pub table_width : List ℕ → ℕ → Attempt ℕ
table_width ws t = provided (ltb t (length ws)) (gives (get_or ws t 0))

-- widths are 1 to 6
unfoldable pub up_to6 : ℕ → Attempt ℕ
up_to6 w = provided (leb w 6) (gives w)

unfoldable pub columns : ℕ → List ℕ → Bool
columns w cs = all (λ c. ltb c w) cs

unfoldable pub width_of : List ℕ → Op → Attempt ℕ
width_of ws RT = gives 1
width_of ws (RA t z) = attempt (table_width ws t) (λ w. up_to6 (w + 1))
width_of ws (RP t cs) = attempt (table_width ws t) (λ w. provided (columns w cs) (up_to6 (length cs)))
width_of ws (RU t u) = attempt (table_width ws t) (λ w. attempt (table_width ws u) (λ v. provided (eqb w v) (gives w)))
width_of ws (RD t u) = attempt (table_width ws t) (λ w. attempt (table_width ws u) (λ v. provided (eqb w v) (gives w)))
width_of ws (RS t c) = attempt (table_width ws t) (λ w. provided (ltb c w) (gives w))
width_of ws (RJ t c u d) =
    attempt (table_width ws t) (λ w. attempt (table_width ws u) (λ v. provided (ltb c w && ltb d v) (up_to6 (w + v))))
width_of ws (RN t p ks) =
    attempt (table_width ws t) (λ w. provided ((eqb p 255 || ltb p w) && columns w ks) (up_to6 (w + 1)))
width_of ws (RF t f c d) = attempt (table_width ws t) (λ w. provided (ltb c w && ltb d w) (up_to6 (w + 1)))
width_of ws (RV t c) = attempt (table_width ws t) (λ w. provided (ltb c w) (up_to6 (w + 1)))
width_of ws (RC t c) = attempt (table_width ws t) (λ w. provided (ltb c w) (gives 2))
width_of ws (RE t) = attempt (table_width ws t) (λ w. provided (eqb w 3) (gives 2))
width_of ws (RK t c) = attempt (table_width ws t) (λ w. provided (ltb c w) (gives w))
width_of ws (RX t x y) = attempt (table_width ws t) (λ w. provided (eqb w 2) (gives 2))
width_of ws (RO t k) = attempt (table_width ws t) (λ w. up_to6 (w + 1))

pub record Placed : Type 0 where
  pub at : ℕ
  pub op : Op
  pub width : ℕ

-- a sound operator at an offset, with the offset after it
unfoldable pub placed_at : List ℕ → List ℕ → ℕ → Attempt (Placed × ℕ)
placed_at bs ws at =
    attempt (operator_at bs at)
    (λ o. attempt (width_of ws o.0) (λ w. gives (record { at = at; op = o.0; width = w }, o.1)))

-- the last operator of a plan
unfoldable pub last_of : Placed → List Placed → Placed
last_of p [] = p
last_of p (q ∷ qs) = last_of q qs

-- none: 5 at 0; the last of width 3, else 5 at its record
unfoldable pub ended : List Placed → Reading (List Placed)
ended [] = refuses 5 0
ended (p ∷ ps) = unless (eqb (last_of p ps).width 3) 5 (last_of p ps).at (reads (p ∷ ps))

-- the operators from an offset on, after those in ps; a 513th is 5 at its offset
unfoldable pub plan_from : ℕ → List ℕ → List Placed → ℕ → Reading (List Placed)
plan_from zero bs ps at = elim (leb (length bs) at) [ true ↦ ended ps | false ↦ refuses 5 at ]
plan_from (suc left) bs ps at =
    elim (leb (length bs) at) [
      | true ↦ ended ps
      | false ↦ reading (refusing 5 at (placed_at bs (map (λ (p : Placed). p.width) ps) at))
          (λ o. plan_from left bs (ps ++ (o.0 ∷ [])) o.1)
    ]

-- 1 to 512 operators
unfoldable pub plan_read : List ℕ → Reading (List Placed)
plan_read bs = plan_from most_operators bs [] 0
