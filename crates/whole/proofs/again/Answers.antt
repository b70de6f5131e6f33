-- `whole::again` meets its contract: the cells of a table stand end to end.
use native.Mathlib.Omega.{arith}
use Rattle.tables.specs.Layout.{Inside}
use Rattle.whole.proofs.Copies.{table_full, table_laid}
use borrow.Author.Rules.{rules}
use Rattle.whole.proofs.again.Goals as goal

pub overflow_mul-cells : goal.overflow_mul-cells
unfolding Inside
overflow_mul-cells c =
    omega arith

pub returns-then-room-at : goal.returns-then-room-at
returns-then-room-at c =
    table_full _ _ _ _ c.requires.0 (omega arith) (omega arith)

pub copy-requires : goal.copy-requires
unfolding Inside
copy-requires c =
    omega arith

pub returns : goal.returns
returns c =
    table_laid _ _ _ _ c.requires.0 (omega arith) _ (omega arith)
    c.copy.ensures
