-- `counting::count_group` meets its contract.
use mathlib.Core.Path.{ap, ◌∙◌}
use native.Mathlib.Omega.{arith}
use lib.IntN.{pos}
use mir.Syntax.{w64}
use mir.Facts.{to_z-of_z}
use borrow.Author.Rules.{sfits_of}
use Rattle.cells.proofs.Bits.{read_back}
use Rattle.tables.specs.Layout.{Inside}
use Rattle.tables.proofs.Reading.{rows_few}
use Rattle.members.proofs.Members.{pair_is}
use Rattle.counting.proofs.count_group.Goals as goal

pub cell_at-x-requires : goal.cell_at-x-requires
unfolding Inside
cell_at-x-requires c =
    (omega arith, omega arith, omega arith)

pub count_rows-n-requires : goal.count_rows-n-requires
unfolding Inside
count_rows-n-requires c =
    (omega arith, omega arith, omega arith)

pub overflow_cast-n : goal.overflow_cast-n
overflow_cast-n c =
    let few = rows_few c.args.s c.args.c c.args.at c.requires.c_lt_width.0 c.requires.inside.0 in
    sfits_of (omega (arith, c.count_rows-n.ensures.0, few))

pub returns : goal.returns
returns c =
    let few = rows_few c.args.s c.args.c c.args.at c.requires.c_lt_width.0 c.requires.inside.0 in
    pair_is _ _ _ _ _ _ _ _ _
    (read_back w64 c.cell_at-x.type_inv ∙ c.cell_at-x.ensures)
    (to_z-of_z {w = w64} (sfits_of (omega (arith, c.count_rows-n.ensures.0, few))) ∙ ap pos c.count_rows-n.ensures.1)
    c.pair.ensures
