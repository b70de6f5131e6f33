-- Runs in which one table is turned round, for each table of a plan in turn. The items by rising place of the last
-- table stay what they are: no rule leans on how the rows of a table stand. crates/order has this of every query and
-- every hand.
--     items_or_refusal m      the items by rising place of the last table of a run, or its refusal
--     turns p c             one run of a plan for each of its tables, in which that table alone is turned round
--     turns_of query doc     .. of the plan that the translator writes for a query
--     turned                document 001's Q2, and chartask's `for` over a step
use Prim.Native.Nat.{ℕ}
use mathlib.Core.Path.{◌≡◌, refl}
use mathlib.Core.List.{List, [], ◌∷◌, map}
use lib.IntN.{pos}
use lib.ListN.{length, replicate}
use Rattle.laws.specs.Lists.{below}
use Rattle.laws.specs.Attempt.{Reading, refuses, reads, Work, full, failed, done}
use Rattle.meaning.specs.Catalogue.{Catalogue, catalogue_read}
use Rattle.meaning.specs.World.{world_of}
use Rattle.meaning.specs.Plan.{Placed, plan_read}
use Rattle.meaning.specs.Operators.{items_in_order}
use Rattle.meaning.specs.Run.{Filled, running_by, turning}
use Rattle.meaning.specs.Calls.{last_table}
use Rattle.meaning.proofs.Examples.{ToldAnswer, items, refusal, told, plan_bytes, nested, nested_items, latitudes}
use Rattle.meaning.proofs.Examples.{harbours}

items_or_refusal : Work Filled → ToldAnswer
items_or_refusal (full p) = refusal 6
items_or_refusal (failed p) = refusal 7
items_or_refusal (done f) = items (items_in_order (last_table f.tables))

-- nothing is run where plan or catalogue is refused
turns : Reading (List Placed) → Reading Catalogue → List ToldAnswer
turns (refuses n p) c = []
turns (reads ps) (refuses n p) = []
turns (reads ps) (reads c) =
    map (λ k. items_or_refusal (running_by (turning k) (world_of c) 4000 ps [] 0)) (below (length ps))

turns_of : List ℕ → List ℕ → List ToldAnswer
turns_of query doc = turns (plan_read (plan_bytes query)) (catalogue_read doc)

turned :
    (turns_of nested [] ≡ replicate 49 (items nested_items))
    × (turns_of latitudes harbours ≡ replicate 28 (items (pos 1 ∷ pos 0 ∷ [])))
unfolding told plan_bytes nested nested_items latitudes harbours turns_of turns items_or_refusal running_by turning
turned = (refl, refl)
