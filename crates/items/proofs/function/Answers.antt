-- `items::function` meets its contract, function by function.
use mathlib.Core.Path.{◌≡◌, ◌∙◌, ap}
use mir.Syntax.{w32, w64}
use mir.Val.{of_z, to_z}
use mir.Facts.{to_z-of_z}
use Rattle.cells.proofs.Bits.{read_back}
use Rattle.cells.specs.Cell.{truth_cell}
use Rattle.codes.specs.declared.Function.TheVariants.{Add, Subtract, Multiply, Divide, Equal, Less}
use Rattle.laws.specs.Attempt.{gives}
use Rattle.meaning.specs.World as World
use Rattle.items.specs.Answers.{integer_tried}
use Rattle.items.proofs.Cases.{number_ranged, number_quotient, function_is}
use Rattle.items.proofs.function.Goals as goal

pub returns-in-Add : goal.returns-in-Add
unfolding World.function
returns-in-Add c =
    let x-is : to_z w32 (of_z w32 c.args.x) ≡ c.args.x = to_z-of_z c.ranges.x in
    let y-is : to_z w32 (of_z w32 c.args.y) ≡ c.args.y = to_z-of_z c.ranges.y in
    c.given.ensures
    ∙ ap integer_tried c.sum.ensures
    ∙ number_ranged _
    ∙ function_is _ Add _ _ _ _ c.in-Add.is x-is
    y-is

pub returns-in-Subtract : goal.returns-in-Subtract
unfolding World.function
returns-in-Subtract c =
    let x-is : to_z w32 (of_z w32 c.args.x) ≡ c.args.x = to_z-of_z c.ranges.x in
    let y-is : to_z w32 (of_z w32 c.args.y) ≡ c.args.y = to_z-of_z c.ranges.y in
    c.given-in-Subtract.ensures
    ∙ ap integer_tried c.difference.ensures
    ∙ number_ranged _
    ∙ function_is _ Subtract _ _ _ _ c.in-Subtract.is
    x-is y-is

pub returns-in-Multiply : goal.returns-in-Multiply
unfolding World.function
returns-in-Multiply c =
    let x-is : to_z w32 (of_z w32 c.args.x) ≡ c.args.x = to_z-of_z c.ranges.x in
    let y-is : to_z w32 (of_z w32 c.args.y) ≡ c.args.y = to_z-of_z c.ranges.y in
    c.given-in-Multiply.ensures
    ∙ ap integer_tried c.product.ensures
    ∙ number_ranged _
    ∙ function_is _ Multiply _ _ _ _ c.in-Multiply.is
    x-is y-is

pub returns-in-Divide : goal.returns-in-Divide
unfolding World.function
returns-in-Divide c =
    let x-is : to_z w32 (of_z w32 c.args.x) ≡ c.args.x = to_z-of_z c.ranges.x in
    let y-is : to_z w32 (of_z w32 c.args.y) ≡ c.args.y = to_z-of_z c.ranges.y in
    c.given-in-Divide.ensures
    ∙ ap integer_tried c.quotient.ensures
    ∙ number_quotient _ _
    ∙ function_is _ Divide _ _ _ _ c.in-Divide.is x-is
    y-is

pub returns-in-Equal : goal.returns-in-Equal
unfolding World.function
returns-in-Equal c =
    let x-is : to_z w32 (of_z w32 c.args.x) ≡ c.args.x = to_z-of_z c.ranges.x in
    let y-is : to_z w32 (of_z w32 c.args.y) ≡ c.args.y = to_z-of_z c.ranges.y in
    ap gives (read_back w64 c.truth_cell.type_inv ∙ c.truth_cell.ensures ∙ ap truth_cell c.equal.ensures)
    ∙ function_is _ Equal _ _ _ _ c.in-Equal.is x-is
    y-is

pub returns-in-Less : goal.returns-in-Less
unfolding World.function
returns-in-Less c =
    let x-is : to_z w32 (of_z w32 c.args.x) ≡ c.args.x = to_z-of_z c.ranges.x in
    let y-is : to_z w32 (of_z w32 c.args.y) ≡ c.args.y = to_z-of_z c.ranges.y in
    ap gives (read_back w64 c.truth_cell-in-Less.type_inv ∙ c.truth_cell-in-Less.ensures ∙ ap truth_cell c.less.ensures)
    ∙ function_is _ Less _ _ _ _ c.in-Less.is x-is
    y-is
