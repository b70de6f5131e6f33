-- `judging::first_of` meets its contract. The invariant: row `best` comes first of the group's rows before
-- row i, and what is left gives what the whole gives.
use Prim.Native.Nat.{◌-◌, ◌<◌}
use mathlib.Core.Path.{◌≡◌, sym, ap, ◌∙◌}
use mathlib.Core.List.{[]}
use native.Mathlib.Omega.{arith}
use lib.ListN.{length, get_or, drop}
use mir.Syntax.{w64}
use mir.Val.{to_z, of_z}
use Rattle.cells.proofs.Bits.{read_back}
use Rattle.meaning.specs.Operators.{group_of}
use Rattle.tables.specs.Layout.{table_at}
use Rattle.members.specs.Grouped.{in_front}
use Rattle.judging.specs.Foremost.{least}
use Rattle.tables.proofs.Reading.{length_table}
use Rattle.judging.proofs.Least.{least_more, least_within, least_end}
use borrow.Author.Rules.{rules}
use Rattle.judging.proofs.first_of.Given as goal

abbrev pub invariant-loop-i : goal.invariant-loop-i
invariant-loop-i l =
    let t = table_at l.work l.s in
    (l.best < l.s.rows)
    × (least (get_or t l.best []) (group_of (drop l.i t) 0 l.x)
    ≡ least (get_or t 0 []) (group_of (drop 1 t) 0 (in_front t 0)))
