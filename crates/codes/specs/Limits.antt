-- The bounds that document 01 sets, each named once; crates/codes/src/limits.rt has the same for code.
--     most_rows         rows of a catalogue
--     deepest          the deepest level of a row
--     most_records      records of a query
--     most_levels       levels of nesting of a query
--     most_operators    operators of a plan
--     most_cells        cells of work that count
use Rattle.std.specs.Prelude.{ℕ}

abbrev pub most_rows : ℕ
most_rows = 2048

abbrev pub deepest : ℕ
deepest = 63

abbrev pub most_records : ℕ
most_records = 128

abbrev pub most_levels : ℕ
most_levels = 32

abbrev pub most_operators : ℕ
most_operators = 512

abbrev pub most_cells : ℕ
most_cells = 65536
