-- A query read from bytes (document 01, 'Query records').
--     Query                a query as a tree; each node has the byte offset of its record first
--     Record               one record by itself, without operands
--     mark_ql, mark_qb, mark_qe, mark_qr, mark_qv, mark_qs, mark_qt, mark_qf, mark_qi, mark_qo, mark_qc, mark_qd, mark_qx
--                          the mark of each
--     variable_of, fragment_of, boolean_of     the fields that have ranges: 0 to 7, 1 to 255, 0 or 1
--     sized bs at n r      record r, of n bytes that are all there, with the offset after it
--     record_of ..          the record of a mark
--     record_at bs at       the record at an offset and the offset after it, or refusal 1
--     Read                 what reading at an offset finds: the tree, the offset after it, the records read so far
--     Operand              how an operand is read: the variables bound, the records before it, its offset
--     bound v vs           v is among vs
--     leaf, one, two, three     a record without operands, with one, two, three
--     operands ..          a record and its operands
--     read d bs vs n at    the query at an offset, d more levels allowed, vs the variables bound there, n records
--                          before it
--     query_read bs         the whole of the bytes as one query: refusals 1, 2, 3
--     free v q             variable v is free in q
use Rattle.std.specs.Prelude.{ℕ, zero, suc, ◌+◌, List, [], ◌∷◌, Bool, true, false, not, cond, ◌&&◌, ◌||◌, ltb, leb, eqb, ℤ, pos, length}
use Rattle.codes.specs.declared.Function.{Function}
use Rattle.codes.specs.declared.Axis.{Axis}
use Rattle.codes.specs.declared.Test.{Test}
use Rattle.cells.specs.Bytes.{byte_at, word, int4, fits}
use Rattle.cells.specs.Cell.{false_cell, true_cell}
use Rattle.codes.specs.Codes.{function_of, axis_of, test_of}
use Rattle.codes.specs.Limits.{most_records, most_levels}
use Rattle.laws.specs.Lists.{any}
use Rattle.laws.specs.Attempt.{Attempt, fails, gives, attempt, provided, Reading, refuses, reads, reading, refusing}
use Rattle.laws.specs.Attempt.{unless}

pub data Query : Type 0 where
  QL : (at : ℕ) → ℤ → Query  -- an integer (QL) or a boolean (QB), as its cell
  QE : (at : ℕ) → Query  -- the empty sequence
  QR : (at : ℕ) → ℕ → Query  -- root of fragment k
  QV : (at : ℕ) → ℕ → Query  -- a variable
  QS : (at : ℕ) → Query → Query → Query  -- a's items, then b's
  QT : (at : ℕ) → ℕ → Query → Query → Query  -- let
  QF : (at : ℕ) → ℕ → Query → Query → Query  -- for
  QI : (at : ℕ) → Query → Query → Query → Query  -- if
  QO : (at : ℕ) → Function → Query → Query → Query  -- a function of two numbers
  QC : (at : ℕ) → Query → Query  -- number of items
  QD : (at : ℕ) → Query → Query  -- each item's value
  QX : (at : ℕ) → Axis → Test → Query → Query  -- a step

-- One record by itself

pub data Record : Type 0 where
  literal : ℤ → Record
  empty : Record
  root : ℕ → Record
  variable : ℕ → Record
  sequence : Record
  letting : ℕ → Record
  for : ℕ → Record
  choice : Record
  function : Function → Record
  counting : Record
  values : Record
  step : Axis → Test → Record

abbrev pub mark_ql : ℕ
mark_ql = 0x514C

abbrev pub mark_qb : ℕ
mark_qb = 0x5142

abbrev pub mark_qe : ℕ
mark_qe = 0x5145

abbrev pub mark_qr : ℕ
mark_qr = 0x5152

abbrev pub mark_qv : ℕ
mark_qv = 0x5156

abbrev pub mark_qs : ℕ
mark_qs = 0x5153

abbrev pub mark_qt : ℕ
mark_qt = 0x5154

abbrev pub mark_qf : ℕ
mark_qf = 0x5146

abbrev pub mark_qi : ℕ
mark_qi = 0x5149

abbrev pub mark_qo : ℕ
mark_qo = 0x514F

abbrev pub mark_qc : ℕ
mark_qc = 0x5143

abbrev pub mark_qd : ℕ
mark_qd = 0x5144

abbrev pub mark_qx : ℕ
mark_qx = 0x5158

-- a variable is 0 to 7
unfoldable pub variable_of : ℕ → Attempt ℕ
variable_of v = provided (ltb v 8) (gives v)

-- QR's k is 1 to 255
unfoldable pub fragment_of : ℕ → Attempt ℕ
fragment_of k = provided (leb 1 k && leb k 255) (gives k)

-- QB's byte is 0 or 1
unfoldable pub boolean_of : ℕ → Attempt ℤ
boolean_of b = cond (eqb b 0) (gives false_cell) (cond (eqb b 1) (gives true_cell) fails)

-- a record of n bytes that are all there
unfoldable pub sized : List ℕ → ℕ → ℕ → Attempt Record → Attempt (Record × ℕ)
sized bs at n r = provided (fits bs at n) (attempt r (λ x. gives (x, at + n)))

unfoldable pub record_of : List ℕ → ℕ → ℕ → Attempt (Record × ℕ)
record_of bs at mark =
    cond (eqb mark mark_ql) (sized bs at 6 (gives (literal (int4 bs (at + 2)))))
    (cond (eqb mark mark_qb) (sized bs at 3 (attempt (boolean_of (byte_at bs (at + 2))) (λ b. gives (literal b))))
    (cond (eqb mark mark_qe) (sized bs at 2 (gives empty))
    (cond (eqb mark mark_qr) (sized bs at 3 (attempt (fragment_of (byte_at bs (at + 2))) (λ k. gives (root k))))
    (cond (eqb mark mark_qv) (sized bs at 3 (attempt (variable_of (byte_at bs (at + 2))) (λ v. gives (variable v))))
    (cond (eqb mark mark_qs) (sized bs at 2 (gives sequence))
    (cond (eqb mark mark_qt) (sized bs at 3 (attempt (variable_of (byte_at bs (at + 2))) (λ v. gives (letting v))))
    (cond (eqb mark mark_qf) (sized bs at 3 (attempt (variable_of (byte_at bs (at + 2))) (λ v. gives (for v))))
    (cond (eqb mark mark_qi) (sized bs at 2 (gives choice))
    (cond (eqb mark mark_qo) (sized bs at 3 (attempt (function_of (byte_at bs (at + 2))) (λ f. gives (function f))))
    (cond (eqb mark mark_qc) (sized bs at 2 (gives counting))
    (cond (eqb mark mark_qd) (sized bs at 2 (gives values))
    (cond (eqb mark mark_qx)
    (sized bs at 6
    (attempt (axis_of (byte_at bs (at + 2)))
    (λ x. attempt (test_of (byte_at bs (at + 3)) (word bs (at + 4) 2)) (λ t. gives (step x t)))))
    fails))))))))))))

-- bad mark, field, or cut record: refusal 1
unfoldable pub record_at : List ℕ → ℕ → Reading (Record × ℕ)
record_at bs at = refusing 1 at (record_of bs at (word bs at 2))

-- Prefix order, operands follow their record

pub record Read : Type 0 where
  pub tree : Query
  pub next : ℕ
  pub records : ℕ

-- how an operand is read: the variables bound there, the records before it, its offset
abbrev pub Operand : Type 0
Operand = List ℕ → ℕ → ℕ → Reading Read

unfoldable pub bound : ℕ → List ℕ → Bool
bound v vs = any (λ u. eqb v u) vs

unfoldable pub leaf : Query → ℕ → ℕ → Reading Read
leaf q next n = reads (record { tree = q; next = next; records = n })

unfoldable pub one : (Query → Query) → Reading Read → Reading Read
one f a = reading a (λ x. leaf (f x.tree) x.next x.records)

unfoldable pub two : (Query → Query → Query) → Reading Read → (ℕ → ℕ → Reading Read) → Reading Read
two f a b = reading a (λ x. one (λ q. f x.tree q) (b x.records x.next))

unfoldable pub three :
    (Query → Query → Query → Query) → Reading Read → (ℕ → ℕ → Reading Read) → (ℕ → ℕ → Reading Read) → Reading Read
three f c a b = reading c (λ x. two (λ p q. f x.tree p q) (a x.records x.next) b)

-- the operands of a record; let's and for's variable is visible in b only; an unbound variable is refusal 3
unfoldable pub operands : Operand → List ℕ → ℕ → ℕ → ℕ → Record → Reading Read
operands rd vs at n next (literal z) = leaf (QL at z) next n
operands rd vs at n next empty = leaf (QE at) next n
operands rd vs at n next (root k) = leaf (QR at k) next n
operands rd vs at n next (variable v) = unless (bound v vs) 3 at (leaf (QV at v) next n)
operands rd vs at n next sequence = two (QS at) (rd vs n next) (rd vs)
operands rd vs at n next (letting v) = two (QT at v) (rd vs n next) (rd (v ∷ vs))
operands rd vs at n next (for v) = two (QF at v) (rd vs n next) (rd (v ∷ vs))
operands rd vs at n next choice = three (QI at) (rd vs n next) (rd vs) (rd vs)
operands rd vs at n next (function f) = two (QO at f) (rd vs n next) (rd vs)
operands rd vs at n next counting = one (QC at) (rd vs n next)
operands rd vs at n next values = one (QD at) (rd vs n next)
operands rd vs at n next (step x t) = one (QX at x t) (rd vs n next)

-- in one record 1, then 2, then 3: at most 128 records, nesting at most 32
unfoldable pub read : ℕ → List ℕ → Operand
read zero bs vs n at = reading (record_at bs at) (λ r. refuses 2 at)
read (suc d) bs vs n at =
    reading (record_at bs at) (λ r. unless (ltb n most_records) 2 at (operands (read d bs) vs at (suc n) r.1 r.0))

-- bytes after the query: refusal 1 at the first of them
unfoldable pub query_read : List ℕ → Reading Read
query_read bs = reading (read most_levels bs [] 0 0) (λ r. unless (eqb r.next (length bs)) 1 r.next (reads r))

unfoldable pub free : ℕ → Query → Bool
free v (QL at z) = false
free v (QE at) = false
free v (QR at k) = false
free v (QV at u) = eqb v u
free v (QS at a b) = free v a || free v b
free v (QT at u a b) = free v a || (not (eqb v u) && free v b)
free v (QF at u a b) = free v a || (not (eqb v u) && free v b)
free v (QI at c a b) = free v c || free v a || free v b
free v (QO at f a b) = free v a || free v b
free v (QC at a) = free v a
free v (QD at a) = free v a
free v (QX at x t a) = free v a
