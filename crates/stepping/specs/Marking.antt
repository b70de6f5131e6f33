-- The nodes of a group (document 01, 'Plan operators', RX).
--     is_node c x                 the cell x holds a node of the catalogue
--     FromIf b c y m old new     what marking the node of the cell y, where b says so, answers and leaves
--     FromRow c x r m old new    what marking the node of row r, where it is of the group of x, answers and leaves
use Rattle.std.specs.Prelude.{◌≡◌, List, Bool, true, false, ℤ, Result, Ok}
use Rattle.cells.specs.Cell.{same}
use Rattle.meaning.specs.Catalogue.{Catalogue}
use Rattle.meaning.specs.World.{rank_of}
use Rattle.meaning.specs.Operators.{Row, cell}
use Rattle.tables.specs.Laying.{succeeds}
use Rattle.nodesets.specs.declared.NotANode.{NotANode}
use Rattle.nodesets.specs.Nodes.{FromOne}

unfoldable pub is_node : Catalogue → ℤ → Bool
is_node c x = succeeds (rank_of c x)

abbrev pub FromIf : Bool → Catalogue → ℤ → Result (Unit {0}) NotANode → List Bool → List Bool → Type 0
FromIf true c y m old new = FromOne c y m old new
FromIf false c y m old new = (m ≡ Ok tt) × (new ≡ old)

abbrev pub FromRow : Catalogue → ℤ → Row → Result (Unit {0}) NotANode → List Bool → List Bool → Type 0
FromRow c x r = FromIf (same x (cell r 0)) c (cell r 1)
