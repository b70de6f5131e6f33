-- The items that an engine makes.
--     Small i     a node's rank is below 65,536, so that its cell is far from the greatest number
--     Proper i    an integer is in its range, a node's rank is small
use Rattle.std.specs.Prelude.{◌<◌, ◌≡◌, true}
use Rattle.cells.specs.declared.Item.{Item}
use Rattle.cells.specs.declared.Item.TheVariants.{Integer, Truth, Node}
use Rattle.cells.specs.Cell.{in_range}

abbrev pub Small : Item → Type 0
Small (Integer z) = Unit {0}
Small (Truth b) = Unit {0}
Small (Node r) = r.0 < 65536

abbrev pub Proper : Item → Type 0
Proper (Integer z) = in_range z ≡ true
Proper (Truth b) = Unit {0}
Proper (Node r) = r.0 < 65536
