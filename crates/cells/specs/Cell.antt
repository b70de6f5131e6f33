-- Items and cells (document 01, 'Items and cells').
--     false_cell, true_cell    the cells of the booleans, 2^32 and 2^32 + 1
--     truth_cell b            the cell of a boolean
--     node_cell r             the cell of the node of rank r, 2^33 + r
--     cell_of i               the cell of an item
--     inRange z              z is one of the integers, -2147483648 to 2147483647
--     held z                 the item that a cell holds, or that it is no item's cell
--     same a b, before a b   equality and order of cells, as signed 64-bit numbers
use Rattle.std.specs.Prelude.{ℕ, ◌+◌, ◌-◌, Bool, true, false, cond, ltb, leb, eqb, ℤ, pos, negsuc, Option, Some, None}
use Rattle.std.specs.Int.Signed.{lt_z}
use Rattle.cells.specs.declared.Item.{Item}
use Rattle.cells.specs.declared.Item.TheVariants.{Integer, Truth, Node}

abbrev pub false_cell : ℤ
false_cell = pos 0x1_0000_0000

abbrev pub true_cell : ℤ
true_cell = pos 0x1_0000_0001

abbrev pub truth_cell : Bool → ℤ
truth_cell false = false_cell
truth_cell true = true_cell

abbrev pub node_cell : ℕ → ℤ
node_cell r = pos (0x2_0000_0000 + r)

unfoldable pub cell_of : Item → ℤ
cell_of (Integer z) = z
cell_of (Truth b) = truth_cell b
cell_of (Node r) = node_cell r.0

unfoldable pub in_range : ℤ → Bool
in_range (pos n) = ltb n 0x8000_0000
in_range (negsuc n) = ltb n 0x8000_0000

unfoldable pub same : ℤ → ℤ → Bool
same (pos a) (pos b) = eqb a b
same (pos a) (negsuc b) = false
same (negsuc a) (pos b) = false
same (negsuc a) (negsuc b) = eqb a b

unfoldable pub before : ℤ → ℤ → Bool
before a b = lt_z a b

unfoldable pub held : ℤ → Option Item
held (negsuc n) = cond (ltb n 0x8000_0000) (Some (Integer (negsuc n))) None
held (pos n) =
    cond (ltb n 0x8000_0000) (Some (Integer (pos n)))
    (cond (eqb n 0x1_0000_0000) (Some (Truth false))
    (cond (eqb n 0x1_0000_0001) (Some (Truth true))
    (cond (leb 0x2_0000_0000 n) (Some (Node (record { 0 = n - 0x2_0000_0000 }))) None)))
