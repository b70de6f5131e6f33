-- The fields of a row, as code reads them from the bytes (document 01, 'Catalogue rows'). They are the fields of
-- `catalogue_of doc n`, for any n.
--     size_at, level_at, kind_at, prop_at doc r     of the row of rank r
use Rattle.std.specs.Prelude.{ℕ, ◌+◌, ◌*◌, List, ℤ}
use Rattle.cells.specs.Bytes.{byte_at, word, int4}

unfoldable pub size_at : List ℕ → ℕ → ℕ
size_at doc r = word doc (10 * r + 2) 2

unfoldable pub level_at : List ℕ → ℕ → ℕ
level_at doc r = byte_at doc (10 * r + 4)

unfoldable pub kind_at : List ℕ → ℕ → ℕ
kind_at doc r = byte_at doc (10 * r + 5)

unfoldable pub prop_at : List ℕ → ℕ → ℤ
prop_at doc r = int4 doc (10 * r + 6)
