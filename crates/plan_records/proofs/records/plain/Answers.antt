-- `plain` meets its contract, by what the cell holds.
use Rattle.std.specs.Prelude.{Some}
use mathlib.Core.Path.{◌≡◌, refl, sym, ◌∙◌, ap}
use mathlib.Core.Bool.{true, not}
use mir.Syntax.{w64}
use mir.ValLaws.{to_z-of_z}
use Rattle.cells.specs.Cell.{held}
use Rattle.cells.specs.declared.Item.{Item}
use Rattle.meaning.specs.Plan.{plain_in}
use Rattle.plan_records.proofs.records.plain.Goals as goal
use Rattle.plan_records.proofs.records.plain.Goals.{in-Node, in_default-matches}

-- what is no node
plain_rest : (i : Item) → ((r : _) → i ≡ Item.Node r → ⊥) → true ≡ plain_in (Some i)
unfolding plain_in
plain_rest (Item.Integer n) h = refl
plain_rest (Item.Truth b) h = refl
plain_rest (Item.Node r) h = absurd (h r refl)

pub returns-in_default : goal.returns-in_default
unfolding plain_in
returns-in_default c =
    ap plain_in
    (sym c.in_default.is ∙ c.item_of.ensures
    ∙ ap held (to_z-of_z w64 c.args.cell (record { sfits = c.ranges.cell.sfits })))

pub returns : goal.returns
unfolding plain_in
returns c =
    let o = c.item_of in
    let e = ap plain_in
    (sym c.in-Some.is ∙ o.ensures ∙ ap held (to_z-of_z w64 c.args.cell (record { sfits = c.ranges.cell.sfits }))) in
    elim c.match-matches.branch [
      | in-Node w ↦ ap not w.matches-is ∙ ap (λ i. plain_in (Some i)) (sym w.in-Node.is) ∙ e
      | in_default-matches w ↦ ap not w.matches-is ∙ plain_rest _ w.in_default-matches.not-Node ∙ e
    ]
