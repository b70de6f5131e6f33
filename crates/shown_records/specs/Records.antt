-- The records of a plan and their fields (document 01, 'Plan operators').
--     Narrow w                  a table has 1 to 6 columns
--     Within l at s             what was seen at an offset stands within l bytes, and a table has 1 to 6 columns
--     size_of mark after         the bytes of the field that begins so many bytes after its record
--     shown_of bs from n         what the field of n bytes at an offset shows: a number, or a cell of eight
--     field_at bs at from end    the field at an offset, of the record from `at` up to `end`, and the offset after it
--     Ahead from end f          the offset after a field lies behind it, and not behind the record
use Rattle.std.specs.Prelude.{ℕ, ◌+◌, ◌-◌, ◌≤◌, ◌<◌, List, cond, ltb, eqb, Option, Some, None}
use Rattle.cells.specs.Bytes.{byte_at, word, int8}
use Rattle.meaning.specs.Plan.{mark_ra, mark_ru, mark_rd, mark_rj, mark_rx}
use Rattle.shown_records.specs.declared.Seen.{Seen}
use Rattle.shown_records.specs.declared.Shown.{Shown}
use Rattle.shown_records.specs.declared.Shown.TheVariants.{Number, Cell}

abbrev pub Narrow : Option ℕ → Type 0
Narrow (Some w) = (1 ≤ w) × (w ≤ 6)
Narrow None = Unit {0}

abbrev pub Within : ℕ → ℕ → Option Seen → Type 0
Within l at (Some s) = (at + 2 ≤ l) × (s.next ≤ l) × Narrow s.width
Within l at None = Unit {0}

-- every record but `RT` begins with a table
unfoldable pub size_of : ℕ → ℕ → ℕ
size_of mark after =
    cond (eqb after 2) 2
    (cond (eqb mark mark_ra) 8
    (cond (eqb mark mark_ru) 2
    (cond (eqb mark mark_rd) 2
    (cond (eqb mark mark_rj) (cond (eqb after 5) 2 1)
    (cond (eqb mark mark_rx) (cond (eqb after 6) 2 1) 1)))))

abbrev pub shown_of : List ℕ → (from n : ℕ) → Shown
shown_of bs from n =
    cond (eqb n 8) (Cell (int8 bs from)) (cond (eqb n 2) (Number (word bs from 2)) (Number (byte_at bs from)))

abbrev pub field_at : List ℕ → (at from end : ℕ) → Option (Shown × ℕ)
field_at bs at from end =
    let n = size_of (word bs at 2) (from - at) in
    cond (ltb (end - from) n) None (Some (shown_of bs from n, from + n))

abbrev pub Ahead : (from end : ℕ) → Option (Shown × ℕ) → Type 0
Ahead from end (Some (shown, next)) = (from < next) × (next ≤ end)
Ahead from end None = Unit {0}
