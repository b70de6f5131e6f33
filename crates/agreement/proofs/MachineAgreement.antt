-- Running a query's plan and evaluating the query, room aside: both fail, or they give the same items in order.
--     same_run         for every lawful world and closed query
--     same_run_read    for every catalogue, and every query that is accepted
use Prim.Native.Nat.{ℕ}
use mathlib.Core.Path.{◌≡◌, refl, ap, ◌∙◌}
use mathlib.Core.List.{List, []}
use Rattle.laws.specs.Attempt.{reads}
use Rattle.meaning.specs.Catalogue.{Catalogue}
use Rattle.meaning.specs.World.{World, world_of}
use Rattle.meaning.specs.Query.{Query, Read, query_read}
use Rattle.meaning.specs.Meaning.{eval}
use Rattle.meaning.specs.Operators.{Table, column}
use Rattle.theorems.proofs.Closed.{accepted}
use Rattle.theorems.specs.Closed.{Closed}
use Rattle.theorems.proofs.Nodes.{lawful}
use Rattle.theorems.specs.Nodes.{Lawful}
use Rattle.agreement.specs.Typed.{item_of, sem_plan}
use Rattle.agreement.specs.Families as F
use Rattle.agreement.specs.Families.{SameItems, placed}
use Rattle.agreement.specs.Encoded.{encode}
use Rattle.agreement.specs.Machine.{SameRun, both_give, both_fail}
use Rattle.agreement.proofs.Encoded.{column_encoded}
use Rattle.agreement.proofs.Tables.{map_placed}
use Rattle.agreement.proofs.Whole.{same_items}
use Rattle.agreement.proofs.MachineQueries.{plan_gives, plan_fails}

pub same_run : (w : World) → Lawful w → (q : Query) → Closed q [] → SameRun w q
same_run w laws q closed = go (same_items w laws q)
  where
    go : SameItems (sem_plan w q) (eval w (λ v. []) q) → SameRun w q
    go (F.both_give xs made means) =
        let r = plan_gives w laws q closed (placed 1 0 xs) made in
        both_give xs r.tables r.runs
        (ap (λ (t : Table). column t 2) r.last
        ∙ column_encoded encode 2 item_of (λ t. refl) (placed 1 0 xs)
        ∙ map_placed 1 0 xs)
        means
    go (F.both_fail broken bad) = both_fail (plan_fails w laws q closed broken) bad

pub same_run_read : (c : Catalogue) (bs : List ℕ) (r : Read) → query_read bs ≡ reads r → SameRun (world_of c) r.tree
same_run_read c bs r e = same_run (world_of c) (lawful c) r.tree (accepted bs r e).closed
