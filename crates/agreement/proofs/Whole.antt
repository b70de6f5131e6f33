-- The whole plan and the whole query: under the first loop table and with no variable bound, after the last numbering.
--     first, loops_first, holds_nothing     the first loop's iterations, and what the variables hold in them
--     represents_last          the last numbering leaves places as they are
--     only_first               a table of iteration 1 alone is the rows of iteration 1
--     same_items               both fail, or the plan's table has exactly the query's items in order
--     same_items_in            the same for every catalogue
use Prim.Native.Nat.{ℕ}
use mathlib.Core.Path.{◌≡◌, refl, sym, ap, ◌∙◌}
use mathlib.Core.List.{List, [], ◌∷◌, map}
use mathlib.Core.Bool.{true}
use lib.Dec.{eqb}
use borrow.Author.Tests.{eqb-true, eq-eqb}
use Rattle.laws.specs.Lists.{filter, In}
use Rattle.laws.specs.Sorting.{sort}
use Rattle.laws.specs.Keyed.{rising_by, within}
use Rattle.laws.proofs.Filters.{all_of, in_filter, in_none, filter_all}
use Rattle.laws.proofs.Booleans.{by_cases}
use Rattle.laws.specs.Attempt.{gives, attempt}
use Rattle.meaning.specs.Catalogue.{Catalogue}
use Rattle.meaning.specs.World.{World, world_of}
use Rattle.theorems.proofs.Nodes.{lawful}
use Rattle.theorems.specs.Nodes.{Lawful}
use Rattle.meaning.specs.Query.{Query}
use Rattle.meaning.specs.Meaning.{eval}
use Rattle.agreement.specs.Typed.{Triple, iter_of, place_of, item_of, by_number, sem, sem_last, sem_plan}
use Rattle.agreement.specs.Families.{Family, Mask, placed, Represents, Loops, Outside, HoldsVars, Agree, agrees}
use Rattle.agreement.specs.Families.{failing, SameItems, both_give, both_fail}
use Rattle.agreement.proofs.Keys.{by_cell_lawful}
use Rattle.agreement.proofs.Tables.{map_placed, numbered_at}
use Rattle.agreement.proofs.NewLoops.{sort_rows}
use Rattle.agreement.proofs.Theorem.{agreement}

-- the first loop has iteration 1 alone
pub first : Mask
first i = eqb i 1

pub loops_first : Loops (1 ∷ []) first
unfolding first filter
loops_first i = by_cases (eqb i 1) (λ e. rw e (ap (λ (j : ℕ). j ∷ []) (sym (eqb-true i 1 e)))) (λ e. rw e)

pub holds_nothing : HoldsVars first (λ i v. []) (λ v. [])
unfolding within filter placed
holds_nothing v i = by_cases (first i) (λ e. rw e) (λ e. rw e)

-- the last numbering leaves places as they are
represents_last : (t : List Triple) (s : Family) → Represents t s → Represents (sem_last t) s
unfolding sem_last
represents_last t s rep i =
    numbered_at iter_of item_of (by_number iter_of ∷ by_number place_of ∷ []) (by_cell_lawful _, (by_cell_lawful _, tt)) t i
    ∙ ap (placed i 0)
    (ap (λ u. map item_of (sort (rising_by (by_number iter_of ∷ by_number place_of ∷ [])) u)) (rep i)
    ∙ ap (map item_of) (sort_rows i (s i))
    ∙ map_placed i 0 (s i))

-- a table of iteration 1 alone is the rows of iteration 1
only_first : (t : List Triple) (s : Family) → Outside first s → Represents t s → t ≡ placed 1 0 (s 1)
unfolding within placed first
only_first t s out rep =
    sym (filter_all (λ r. eqb 1 r.iter) t (all_of (λ r. eqb 1 r.iter ≡ true) t ours)) ∙ rep 1
  where
    ours : (r : Triple) → In r t → eqb 1 r.iter ≡ true
    ours r k =
        by_cases (eqb r.iter 1)
        (λ e. eq-eqb 1 r.iter (sym (eqb-true r.iter 1 e)))
        (λ e.
        in_none r (within iter_of r.iter t) (rep r.iter ∙ ap (placed r.iter 0) (out r.iter e))
        (in_filter (λ q. eqb r.iter q.iter) t r k (eq-eqb r.iter r.iter refl)))

pub same_items : (w : World) → Lawful w → (q : Query) → SameItems (sem_plan w q) (eval w (λ v. []) q)
unfolding sem_plan attempt first
same_items w laws q = go (agreement w laws q (λ i v. []) (1 ∷ []) first (λ v. []) loops_first holds_nothing)
  where
    go : Agree first (λ i. eval w (λ v. []) q) (sem w q (1 ∷ []) (λ v. []))
        → SameItems (sem_plan w q) (eval w (λ v. []) q)
    go (agrees t s run means out rep) =
        both_give (s 1)
        (ap (λ x. attempt x (λ u. gives (sem_last u))) run
        ∙ ap gives (only_first (sem_last t) s out (represents_last t s rep)))
        (means 1 refl)
    go (failing i k bad run) = both_fail (ap (λ x. attempt x (λ u. gives (sem_last u))) run) bad

pub same_items_in : (c : Catalogue) (q : Query) → SameItems (sem_plan (world_of c) q) (eval (world_of c) (λ v. []) q)
same_items_in c q = same_items (world_of c) (lawful c) q
