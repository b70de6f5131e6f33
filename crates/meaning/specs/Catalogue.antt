-- The catalogue read from bytes (document 01, 'Catalogue rows').
--     Catalogue             the rows by rank: how many, and each one's size, level, kind and prop
--     catalogue_of doc n     the first n rows of the bytes
--     mark_dn                the two bytes 'DN'
--     element, text         the two kinds, 1 and 3
--     is_name z              z is a name number, 0 to 65535
--     own_sound c r most     row r's own fields are sound, where its level may be at most `most`
--     row_sound doc r most   the same of a row that is all there and has its mark
--     rows_sound ..          the row checks from row r on, left to right: the number of rows, or refusal 4 at the row
--     deeper c l r n        how many of the n rows from r on directly have a level greater than l
--     sizes_exact c r n      the exact sizes of n rows from r on, in row order: or refusal 4 at the first that is wrong
--     catalogue_read doc     the whole check: the catalogue, or refusal 4 at a row's offset
use Rattle.std.specs.Prelude.{ℕ, zero, suc, ◌+◌, ◌*◌, ◌-◌, List, Bool, true, false, cond, ◌&&◌, ltb, leb, eqb, ℤ, pos, negsuc, length}
use Rattle.cells.specs.Bytes.{byte_at, word, int4, fits}
use Rattle.codes.specs.Limits.{most_rows, deepest}
use Rattle.laws.specs.Attempt.{Reading, refuses, reads, reading, unless}

pub record Catalogue : Type 0 where
  pub rows : ℕ
  pub size : ℕ → ℕ
  pub level : ℕ → ℕ
  pub kind : ℕ → ℕ
  pub prop : ℕ → ℤ

-- record DN: size (2 bytes), level (1), kind (1), prop (4, signed): 10 bytes, rank = row number
unfoldable pub catalogue_of : List ℕ → ℕ → Catalogue
catalogue_of doc n =
    record {
      rows = n;
      size = λ r. word doc (10 * r + 2) 2;
      level = λ r. byte_at doc (10 * r + 4);
      kind = λ r. byte_at doc (10 * r + 5);
      prop = λ r. int4 doc (10 * r + 6);
    }

abbrev pub mark_dn : ℕ
mark_dn = 0x444E

-- kind 1 is an element, prop its name number 0 to 65535; kind 3 is a text, prop its number
abbrev pub element : ℕ
element = 1

abbrev pub text : ℕ
text = 3

unfoldable pub is_name : ℤ → Bool
is_name (pos n) = ltb n 65536
is_name (negsuc n) = false

-- an element has a name; a text has size 0 and level at least 1; levels end at 63
unfoldable pub own_sound : Catalogue → ℕ → ℕ → Bool
own_sound c r most =
    leb (c.level r) most
    && leb (c.level r) deepest
    && cond (eqb (c.kind r) element) (is_name (c.prop r))
    (eqb (c.kind r) text && eqb (c.size r) 0 && leb 1 (c.level r))

-- the row is all there, has its mark, and its own fields are sound
unfoldable pub row_sound : List ℕ → ℕ → ℕ → Bool
row_sound doc r most =
    fits doc (10 * r) 10 && eqb (word doc (10 * r) 2) mark_dn && own_sound (catalogue_of doc r) r most

-- the rows from r on, of which at most `left` may be there. Row 0 has level 0; a later level is at most the previous
-- plus 1
unfoldable pub rows_sound : ℕ → List ℕ → ℕ → ℕ → Reading ℕ
rows_sound zero doc r most = unless (leb (length doc) (10 * r)) 4 (10 * r) (reads r)
rows_sound (suc left) doc r most =
    elim (leb (length doc) (10 * r)) [
      | true ↦ reads r
      | false ↦ unless (row_sound doc r most) 4 (10 * r) (rows_sound left doc (suc r) (suc (byte_at doc (10 * r + 4))))
    ]

unfoldable pub deeper : Catalogue → ℕ → ℕ → ℕ → ℕ
deeper c l r zero = 0
deeper c l r (suc n) = cond (ltb l (c.level r)) (suc (deeper c l (suc r) n)) 0

-- size is exactly how many rows directly after have a greater level
unfoldable pub sizes_exact : Catalogue → ℕ → ℕ → Reading Catalogue
sizes_exact c r zero = reads c
sizes_exact c r (suc n) = unless (eqb (c.size r) (deeper c (c.level r) (suc r) n)) 4 (10 * r) (sizes_exact c (suc r) n)

-- 0 to 2,048 rows; the row checks left to right, then the sizes in row order
unfoldable pub catalogue_read : List ℕ → Reading Catalogue
catalogue_read doc = reading (rows_sound most_rows doc 0 0) (λ n. sizes_exact (catalogue_of doc n) 0 n)
