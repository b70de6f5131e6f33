-- `rowwise::each::settles` meets its contract. The invariant: the task fails on none of the rows so far.
use Prim.Native.Nat.{ℕ, ◌+◌, ◌*◌, ◌<◌}
use mathlib.Core.Path.{◌≡◌}
use mathlib.Core.Bool.{true}
use Rattle.laws.specs.Rows.{row}
use Rattle.meaning.specs.Catalogue.{catalogue_of}
use Rattle.rowwise.specs.Tasks.{settling}
use Rattle.rowwise.proofs.each.settles.Given as goal

abbrev pub invariant-loop-i : goal.invariant-loop-i
invariant-loop-i l =
    (j : ℕ) → j < l.i → settling (catalogue_of l.doc l.rows) l.task (row l.work (l.s.at + j * l.w) l.w) ≡ true
