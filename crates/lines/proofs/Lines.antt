-- Lines, by the cases of what they tell.
--     line_stray .. line_node      the line of a cell, by what it holds
--     lines_more                   the line of one item more
--     first_gave, first_refused    the first lines, by what was told
--     text_gave, text_refused      all lines, by what the translator told
--     text_room                    .. where the runner had no room
use Rattle.std.specs.Prelude.{Option, Some, None, Result, Ok, Err}
use Prim.Native.Nat.{ℕ, ◌+◌, ◌<◌}
use mathlib.Core.Path.{◌≡◌, refl, sym, ap, ◌∙◌}
use mathlib.Core.List.{List, [], ◌∷◌, ◌++◌, append-nil}
use mathlib.Core.Bool.{Bool, true}
use native.Mathlib.Numerals.{add-one}
use lib.IntN.{ℤ, pos}
use lib.ListN.{length, take, get_or}
use lib.Seq.{take-suc}
use Rattle.cells.specs.Cell.{held}
use Rattle.cells.specs.declared.Rank.{Rank}
use Rattle.cells.specs.declared.Item.{Item}
use Rattle.cells.specs.declared.Item.TheVariants.{Integer, Truth, Node}
use Rattle.laws.specs.Lists.{gather}
use Rattle.laws.proofs.Filters.{gather_append}
use Rattle.verdicts.specs.declared.ToldRefusal.{ToldRefusal}
use Rattle.verdicts.specs.declared.Verdict.{Verdict}
use Rattle.lines.specs.Text.{integer_line, truth_line, node_line, held_line, item_line, items_line, refused_line}
use Rattle.verdicts.specs.Compared.{Told, Gave, Refused, told, refused_with, verdict}
use Rattle.lines.specs.Text.{first_lines, same_line, text}

-- the line of a cell: h is what it holds, read from v
module _ (cell v : ℤ) (h : Option Item) (e : v ≡ cell) (d : h ≡ held v) where
  of_held : held_line h ≡ item_line cell
  unfolding item_line
  of_held = ap held_line (d ∙ ap held e)

  pub line_stray : h ≡ None → [] ≡ item_line cell
  unfolding held_line
  line_stray f = sym (ap held_line f) ∙ of_held

  module _ (i : Item) (f : h ≡ Some i) where
    pub line_integer : (y z : ℤ) → y ≡ z → i ≡ Integer z → integer_line y ≡ item_line cell
    unfolding held_line
    line_integer y z k g = ap integer_line k ∙ sym (ap held_line (f ∙ ap Some g)) ∙ of_held

    pub line_truth : (b : Bool) → i ≡ Truth b → truth_line b ≡ item_line cell
    unfolding held_line
    line_truth b g = sym (ap held_line (f ∙ ap Some g)) ∙ of_held

    pub line_node : (r : Rank) → i ≡ Node r → node_line r.0 ≡ item_line cell
    unfolding held_line
    line_node r g = sym (ap held_line (f ∙ ap Some g)) ∙ of_held

pub lines_more : (cells : List ℤ) (i : ℕ) (z : ℤ) → z ≡ get_or cells i (pos 0) → i < length cells
    → gather item_line (take i cells) ++ item_line z ≡ gather item_line (take (i + 1) cells)
unfolding gather
lines_more cells i z e h =
    ap (λ (y : ℤ). gather item_line (take i cells) ++ item_line y) e
    ∙ ap (gather item_line (take i cells) ++◌) (sym (append-nil (item_line (get_or cells i (pos 0)))))
    ∙ sym (gather_append item_line (take i cells) (get_or cells i (pos 0) ∷ []))
    ∙ ap (gather item_line) (sym (take-suc cells i (pos 0) h) ∙ ap (λ (k : ℕ). take k cells) (sym (add-one i)))

-- what was told
module _ (t : Result ℕ ToldRefusal) (xs : List ℤ) where
  module _ (n : ℕ) (e : t ≡ Ok n) where
    pub first_gave : items_line n ++ gather item_line (take n xs) ≡ first_lines (told t) xs
    unfolding first_lines
    first_gave = sym (ap (λ (u : Result ℕ ToldRefusal). first_lines (told u) xs) e)

  module _ (r : ToldRefusal) (e : t ≡ Err r) where
    pub first_refused : refused_line r.number r.place ≡ first_lines (told t) xs
    unfolding first_lines
    first_refused = sym (ap (λ (u : Result ℕ ToldRefusal). first_lines (told u) xs) e)

module _ (t : Result ℕ ToldRefusal) (ran : Told) (xs : List ℤ) (evaluated : Told) (ys : List ℤ) where
  pub text_gave : (k : ℕ) (v : Verdict) → t ≡ Ok k → v ≡ verdict ran xs evaluated ys
      → first_lines ran xs ++ same_line v ≡ text (told t) ran xs evaluated ys
  unfolding text
  text_gave k v e d =
      ap (λ (w : Verdict). first_lines ran xs ++ same_line w) d
      ∙ sym (ap (λ (u : Result ℕ ToldRefusal). text (told u) ran xs evaluated ys) e)

  pub text_refused :
      (r : ToldRefusal) → t ≡ Err r → refused_line r.number r.place ≡ text (told t) ran xs evaluated ys
  unfolding text
  text_refused r e = sym (ap (λ (u : Result ℕ ToldRefusal). text (told u) ran xs evaluated ys) e)

-- where the runner gave 6, what the evaluator told does not matter
pub text_room : (t ran : Told) (xs : List ℤ) (evaluated other : Told) (ys zs : List ℤ) → refused_with 6 ran ≡ true
    → text t ran xs evaluated ys ≡ text t ran xs other zs
unfolding text verdict
text_room (Gave k) ran xs evaluated other ys zs e = rw e
text_room (Refused n q) ran xs evaluated other ys zs e = refl
