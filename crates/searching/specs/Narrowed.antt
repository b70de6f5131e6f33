-- The part of a table that a row can join with, where the table's column climbs (document 01, 'Plan operators', RJ).
--     passed equal x z       cell z stands before x; where `equal` is true, before it or equal to it
--     Front equal x zs n     the first n cells of zs are passed
--     Back equal x zs n      the cells of zs from n on are not
--     Narrows xs u d x p     p is a part of the rows of u that has every row whose column d holds x
use Rattle.std.specs.Prelude.{ℕ, ◌+◌, ◌-◌, ◌*◌, ◌≤◌, ◌<◌, ◌≡◌, List, Bool, true, false, not, ℤ, pos, length, get_or}
use Rattle.cells.specs.Cell.{same, before}
use Rattle.laws.specs.Lists.{filter}
use Rattle.laws.specs.Rows.{rows_at}
use Rattle.meaning.specs.Operators.{Row, cell}
use Rattle.tables.specs.declared.Stand.{Stand}
use Rattle.tables.specs.Layout.{table_at}
use Rattle.searching.specs.declared.Part.{Part}

unfoldable pub passed : Bool → ℤ → ℤ → Bool
passed false x z = before z x
passed true x z = not (before x z)

unfoldable pub Front : Bool → ℤ → List ℤ → ℕ → Type 0
Front equal x zs n = (i : ℕ) → i < n → passed equal x (get_or zs i (pos 0)) ≡ true

unfoldable pub Back : Bool → ℤ → List ℤ → ℕ → Type 0
Back equal x zs n = (i : ℕ) → n ≤ i → i < length zs → passed equal x (get_or zs i (pos 0)) ≡ false

pub record Narrows (xs : List ℤ) (u : Stand) (d : ℕ) (x : ℤ) (p : Part) : Type 0 where
  pub ordered : p.start ≤ p.end
  pub within : p.end ≤ u.rows
  pub joins_alike :
      filter (λ (q : Row). same x (cell q d)) (table_at xs u)
      ≡ filter (λ (q : Row). same x (cell q d)) (rows_at xs (u.at + p.start * u.width) (p.end - p.start) u.width)
