-- `put_columns` meets its contract, case by case.
use Prim.Native.Nat.{ℕ}
use mathlib.Core.Path.{sym, ap}
use mathlib.Core.List.{List, ◌∷◌}
use lib.ListN.{length}
use Rattle.writing.specs.declared.Columns.{Columns}
use Rattle.writing.specs.Listed.{columns_of}
use Rattle.pen.proofs.Putting.{pens_more, pens_as}
use Rattle.writing.proofs.put_columns.Goals as goal

-- what is written
abbrev listed : Columns → List ℕ
listed k = length (columns_of k) ∷ columns_of k

pub returns-in-One : goal.returns-in-One
unfolding columns_of
returns-in-One c =
    pens_as (ap listed (sym c.in-One.is)) c.put_pair.ensures

pub returns-in-Two : goal.returns-in-Two
unfolding columns_of
returns-in-Two c =
    pens_as (ap listed (sym c.in-Two.is)) c.put_three.ensures

pub returns-in-Three : goal.returns-in-Three
unfolding columns_of
returns-in-Three c =
    pens_as (ap listed (sym c.in-Three.is)) c.put_four.ensures

pub returns-in-Four : goal.returns-in-Four
unfolding columns_of
returns-in-Four c =
    pens_as (ap listed (sym c.in-Four.is)) (pens_more c.put-first.ensures c.put_four-in-Four.ensures)
