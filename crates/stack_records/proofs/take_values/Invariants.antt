-- `take_values` meets its contract: the first cells hold their items' values.
use Rattle.meaning.specs.Catalogue.{catalogue_of}
use Rattle.meaning.specs.World.{world_of}
use Rattle.stack_records.proofs.Valuing.{Taking}
use Rattle.stack_records.proofs.take_values.Given as goal

abbrev pub invariant-loop-cell : goal.invariant-loop-cell
invariant-loop-cell l = Taking (world_of (catalogue_of l.doc l.rows)) l.initial.cells l.cell-index l.cells
