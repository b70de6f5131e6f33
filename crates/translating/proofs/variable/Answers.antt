-- `variable` meets its contract.
use borrow.Author.Rules.{rules}
use Prim.Native.Nat.{ℕ}
use mathlib.Core.Path.{ap}
use Rattle.translating.proofs.variable.Goals as goal

pub returns : goal.returns
returns c =
    let a = c.args in
    ap (λ (t : ℕ). record { table = t; pen = a.pen; next = a.next }) c.table_of-table.ensures
