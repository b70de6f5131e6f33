-- `sizes_exact` meets its contract. The invariant of its loop: the sizes before r are exact, so that those from r on
-- give what the whole gives.
use Prim.Native.Nat.{◌-◌}
use mathlib.Core.Path.{◌≡◌}
use Rattle.meaning.specs.Catalogue.{catalogue_of, sizes_exact}
use Rattle.catalogue.proofs.sizes_exact.Given as goal

abbrev pub invariant-loop-r : goal.invariant-loop-r
invariant-loop-r l =
    sizes_exact (catalogue_of l.doc l.rows) l.r (l.rows - l.r)
    ≡ sizes_exact (catalogue_of l.doc l.rows) 0 l.rows
