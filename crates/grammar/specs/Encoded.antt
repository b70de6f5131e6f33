-- The bytes of a query's records, from its tree: the encoding has no second spelling.
--     bits4 z             the 32 bits of an integer
--     item_record h        the record of a literal, by the item that its cell holds: QL or QB
--     record_bytes r       the bytes of one record by itself
--     query_bytes q        the bytes of a query's records, in prefix order
--     Plain h             the item is an integer in its range or a boolean
--     Within r            the fields of a record are in their ranges
--     Ranged q            the fields of every record of a query are
--     Stands bs at x      the record x .0 stands from at on, and x.1 is the offset after it; its fields are in range
--     Covers bs at r      the records of what was read stand from at on, and end where it says; their fields are in
--                         range
--     Encodes bs q        the bytes bs are the records of q, their fields in range
use Rattle.std.specs.Prelude.{ℕ, suc, ◌≤◌, ◌<◌, ◌≡◌, List, [], ◌++◌, true, ℤ, pos, negsuc, drop, Option, Some, None}
use Rattle.cells.specs.declared.Item.{Item}
use Rattle.cells.specs.declared.Item.TheVariants.{Integer, Truth, Node}
use Rattle.cells.specs.Cell.{held, in_range}
use Rattle.codes.specs.Codes.{test_name}
use Rattle.meaning.specs.Query.{Query, QL, QE, QR, QV, QS, QT, QF, QI, QO, QC, QD, QX, Read, Record, literal, empty}
use Rattle.meaning.specs.Query.{root, variable, sequence, letting, for, choice, function, counting, values, step}
use Rattle.grammar.specs.Records.{minus_bits, record_ql, record_qb, record_qe, record_qr, record_qv, record_qs}
use Rattle.grammar.specs.Records.{record_qt, record_qf, record_qi, record_qo, record_qc, record_qd, record_qx}

abbrev pub bits4 : ℤ → ℕ
bits4 (pos n) = n
bits4 (negsuc n) = minus_bits (suc n)

-- no literal of a query is a node, or no item's cell
unfoldable pub item_record : Option Item → List ℕ
item_record (Some (Integer z)) = record_ql (bits4 z)
item_record (Some (Truth b)) = record_qb b
item_record (Some (Node r)) = []
item_record None = []

unfoldable pub record_bytes : Record → List ℕ
record_bytes (literal z) = item_record (held z)
record_bytes empty = record_qe
record_bytes (root k) = record_qr k
record_bytes (variable v) = record_qv v
record_bytes sequence = record_qs
record_bytes (letting v) = record_qt v
record_bytes (for v) = record_qf v
record_bytes choice = record_qi
record_bytes (function f) = record_qo f
record_bytes counting = record_qc
record_bytes values = record_qd
record_bytes (step x t) = record_qx x t

unfoldable pub query_bytes : Query → List ℕ
query_bytes (QL at z) = item_record (held z)
query_bytes (QE at) = record_qe
query_bytes (QR at k) = record_qr k
query_bytes (QV at v) = record_qv v
query_bytes (QS at a b) = record_qs ++ (query_bytes a ++ query_bytes b)
query_bytes (QT at v a b) = record_qt v ++ (query_bytes a ++ query_bytes b)
query_bytes (QF at v a b) = record_qf v ++ (query_bytes a ++ query_bytes b)
query_bytes (QI at c a b) = record_qi ++ (query_bytes c ++ (query_bytes a ++ query_bytes b))
query_bytes (QO at f a b) = record_qo f ++ (query_bytes a ++ query_bytes b)
query_bytes (QC at a) = record_qc ++ query_bytes a
query_bytes (QD at a) = record_qd ++ query_bytes a
query_bytes (QX at x t a) = record_qx x t ++ query_bytes a

abbrev pub Plain : Option Item → Type 0
Plain (Some (Integer z)) = in_range z ≡ true
Plain (Some (Truth b)) = Unit {0}
Plain (Some (Node r)) = ⊥
Plain None = ⊥

abbrev pub Within : Record → Type 0
Within (literal z) = Plain (held z)
Within empty = Unit {0}
Within (root k) = (1 ≤ k) × (k ≤ 255)
Within (variable v) = v < 8
Within sequence = Unit {0}
Within (letting v) = v < 8
Within (for v) = v < 8
Within choice = Unit {0}
Within (function f) = Unit {0}
Within counting = Unit {0}
Within values = Unit {0}
Within (step x t) = test_name t ≤ 65535

abbrev pub Ranged : Query → Type 0
Ranged (QL at z) = Within (literal z)
Ranged (QE at) = Unit {0}
Ranged (QR at k) = Within (root k)
Ranged (QV at v) = Within (variable v)
Ranged (QS at a b) = Ranged a × Ranged b
Ranged (QT at v a b) = Within (letting v) × Ranged a × Ranged b
Ranged (QF at v a b) = Within (for v) × Ranged a × Ranged b
Ranged (QI at c a b) = Ranged c × Ranged a × Ranged b
Ranged (QO at f a b) = Ranged a × Ranged b
Ranged (QC at a) = Ranged a
Ranged (QD at a) = Ranged a
Ranged (QX at x t a) = Within (step x t) × Ranged a

pub record Stands (bs : List ℕ) (at : ℕ) (x : Record × ℕ) : Type 0 where
  pub bytes : drop at bs ≡ record_bytes x.0 ++ drop x.1 bs
  pub within : Within x.0

pub record Covers (bs : List ℕ) (at : ℕ) (r : Read) : Type 0 where
  pub bytes : drop at bs ≡ query_bytes r.tree ++ drop r.next bs
  pub ranged : Ranged r.tree

pub record Encodes (bs : List ℕ) (q : Query) : Type 0 where
  pub bytes : bs ≡ query_bytes q
  pub ranged : Ranged q
