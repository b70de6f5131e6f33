-- `deeper` meets its contract. The invariant of its loop: the rows between r and v are counted, and the count from v on
-- makes up the whole.
use Prim.Native.Nat.{ℕ, ◌≤◌, ◌+◌, ◌-◌}
use mathlib.Core.List.{List}
use mathlib.Core.Path.{◌≡◌}
use Rattle.meaning.specs.Catalogue.{catalogue_of, deeper}
use Rattle.doc_rows.specs.Fields.{level_at}
use Rattle.catalogue.proofs.deeper.Given as goal

abbrev countFrom : List ℕ → ℕ → ℕ → ℕ → ℕ
countFrom doc rows r v = deeper (catalogue_of doc rows) (level_at doc r) v (rows - v)

abbrev pub invariant-loop-v : goal.invariant-loop-v
invariant-loop-v l =
    (l.r + 1 ≤ l.v) × (countFrom l.doc l.rows l.r (l.r + 1) ≡ l.v - (l.r + 1) + countFrom l.doc l.rows l.r l.v)
