-- The text of a row, cell by cell.
--     cell_stray .. cell_node     the text of a cell, by what it holds
--     right_long, right_short     a word at the right of its column
--     column_is, taken_short      a cell's word, put into bytes of its own
--     columns_more, row_whole     one cell more; the whole row
use Rattle.std.specs.Prelude.{Option, Some, None}
use Prim.Native.Nat.{ℕ, ◌+◌, ◌-◌, ◌≤◌, ◌<◌}
use mathlib.Core.Path.{◌≡◌, sym, ap, ◌∙◌}
use mathlib.Core.List.{List, [], ◌∷◌, ◌++◌, append-nil}
use mathlib.Core.Bool.{Bool}
use native.Mathlib.Omega.{arith}
use native.Mathlib.Numerals.{add-one}
use lib.IntN.{ℤ, pos}
use lib.ListN.{length, take, drop, get_or, replicate, length-take, length-drop, drop_of_length-le}
use lib.Seq.{take-suc, take_all}
use Rattle.cells.specs.Cell.{held}
use Rattle.cells.specs.declared.Rank.{Rank}
use Rattle.cells.specs.declared.Item.{Item}
use Rattle.cells.specs.declared.Item.TheVariants.{Integer, Truth, Node}
use Rattle.laws.specs.Lists.{gather}
use Rattle.laws.proofs.Filters.{gather_append}
use Rattle.pen.specs.Penned.{Pens}
use Rattle.pen.specs.Decimal.{decimal, signed}
use Rattle.lines.specs.Text.{node_word, line_end}
use Rattle.lines.proofs.Putting.{put_penned, put_text}
use Rattle.shown_rows.specs.Rows.{truth_word, held_text, cell_text, at_right, column, row_line}

-- the text of a cell: h is what it holds, read from v
module _ (cell v : ℤ) (h : Option Item) (e : v ≡ cell) (d : h ≡ held v) where
  of_held : held_text h ≡ cell_text cell
  unfolding cell_text
  of_held = ap held_text (d ∙ ap held e)

  pub cell_stray : h ≡ None → [] ≡ cell_text cell
  unfolding held_text
  cell_stray f = sym (ap held_text f) ∙ of_held

  module _ (i : Item) (f : h ≡ Some i) where
    pub cell_integer : (y z : ℤ) → y ≡ z → i ≡ Integer z → signed y ≡ cell_text cell
    unfolding held_text
    cell_integer y z k g = ap signed k ∙ sym (ap held_text (f ∙ ap Some g)) ∙ of_held

    pub cell_truth : (b : Bool) → i ≡ Truth b → truth_word b ≡ cell_text cell
    unfolding held_text
    cell_truth b g = sym (ap held_text (f ∙ ap Some g)) ∙ of_held

    pub cell_node : (r : Rank) → i ≡ Node r → node_word ++ decimal r.0 ≡ cell_text cell
    unfolding held_text
    cell_node r g = sym (ap held_text (f ∙ ap Some g)) ∙ of_held

-- at the right of a column
pub right_long : (w : List ℕ) → 12 ≤ length w → w ≡ at_right w
unfolding at_right
right_long w h = sym (ap (◌++ w) (drop_of_length-le (replicate 12 32) h))

pub right_short : (w : List ℕ) (n k : ℕ) → n ≡ length w → k ≡ 12 - n
    → take k (drop n (replicate 12 32)) ++ w ≡ at_right w
unfolding at_right
right_short w n k e f =
    ap (◌++ w)
    (take_all k (drop n (replicate 12 32)) (simp length-drop (omega arith))
    ∙ ap (λ (j : ℕ). drop j (replicate 12 32)) e)

pub taken_short : (k : ℕ) (xs : List ℕ) → length (take k xs) ≤ k
taken_short k xs = simp length-take (omega arith)

pub column_is : (xs ys : List ℕ) (k n : ℕ) (v z : ℤ) → n ≤ length xs → Pens 0 (cell_text v) xs ys n → v ≡ z → k ≡ n
    → at_right (take k ys) ≡ column z
unfolding column
column_is xs ys k n v z h p e f =
    let put = put_penned xs 0 ys (cell_text v) n h p in
    ap at_right (ap (λ (j : ℕ). take j ys) f ∙ put_text xs ys (cell_text v) n put ∙ ap cell_text e)

pub columns_more : (cells : List ℤ) (i : ℕ) (z : ℤ) → z ≡ get_or cells i (pos 0) → i < length cells
    → gather column (take i cells) ++ column z ≡ gather column (take (i + 1) cells)
unfolding gather
columns_more cells i z e h =
    ap (λ (y : ℤ). gather column (take i cells) ++ column y) e
    ∙ ap (gather column (take i cells) ++◌) (sym (append-nil (column (get_or cells i (pos 0)))))
    ∙ sym (gather_append column (take i cells) (get_or cells i (pos 0) ∷ []))
    ∙ ap (gather column) (sym (take-suc cells i (pos 0) h) ∙ ap (λ (k : ℕ). take k cells) (sym (add-one i)))

pub row_whole : (cells : List ℤ) (i : ℕ) → length cells ≤ i → gather column (take i cells) ++ line_end ≡ row_line cells
unfolding row_line
row_whole cells i h = ap (λ (l : List ℤ). gather column l ++ line_end) (take_all i cells h)
