-- `put_keys` meets its contract, case by case.
use Prim.Native.Nat.{ℕ}
use mathlib.Core.Path.{sym, ap}
use mathlib.Core.List.{List, ◌∷◌}
use lib.ListN.{length}
use Rattle.writing.specs.declared.Keys.{Keys}
use Rattle.writing.specs.Listed.{keys_of}
use Rattle.pen.proofs.Putting.{pens_as}
use Rattle.writing.proofs.put_keys.Goals as goal

-- what is written
abbrev listed : Keys → List ℕ
listed k = length (keys_of k) ∷ keys_of k

pub returns-in-One : goal.returns-in-One
unfolding keys_of
returns-in-One c =
    pens_as (ap listed (sym c.in-One.is)) c.put_pair.ensures

pub returns-in-Two : goal.returns-in-Two
unfolding keys_of
returns-in-Two c =
    pens_as (ap listed (sym c.in-Two.is)) c.put_three.ensures
