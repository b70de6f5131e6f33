-- The order theorem.
--     plan_operators       the operators of the plan that the translator leaves are the query's
--     RunEnded w q ts      where a run of q's plan gives tables ts: the items that q means, placed in the last of them
--     order_free_lem           no plan that the translator writes leans on how rows stand
use Prim.Native.Nat.{ℕ}
use mathlib.Core.Path.{◌≡◌, sym, ap, ◌∙◌, subst}
use mathlib.Core.List.{List, [], ◌∷◌, map}
use native.Mathlib.Omega.{arith}
use lib.IntN.{ℤ}
use lib.ListN.{take}
use Rattle.cells.specs.Bytes.{Bytes}
use Rattle.laws.specs.Attempt.{fails, gives, reads, failed, done}
use Rattle.laws.proofs.Outcomes.{fails_gives, gives_same, reads_same, full_done, full_failed, failed_done}
use Rattle.meaning.specs.World.{World, world_of}
use Rattle.meaning.specs.Query.{Query, Read}
use Rattle.meaning.specs.Meaning.{eval}
use Rattle.meaning.specs.Plan.{Op, Placed, plan_read}
use Rattle.meaning.specs.Operators.{Table, column, items_in_order}
use Rattle.meaning.specs.Run.{run, Filled, running, running_by, Hand}
use Rattle.meaning.specs.Translation.{plan}
use Rattle.meaning.specs.Calls.{last_table, translate_call}
use Rattle.meaning.specs.Calls as Calls
use Rattle.theorems.proofs.Closed.{accepted}
use Rattle.theorems.specs.Closed.{Closed}
use Rattle.theorems.proofs.Counted.{running_done, running_failed}
use Rattle.theorems.proofs.Nodes.{lawful}
use Rattle.theorems.specs.Nodes.{Lawful}
use Rattle.theorems.proofs.PlanRead.{query_plan_back, translated}
use Rattle.theorems.specs.PlanRead.{TranslatedPlan}
use Rattle.agreement.specs.Typed.{sem_plan}
use Rattle.agreement.specs.Families.{placed, SameItems, both_give, both_fail}
use Rattle.agreement.specs.Encoded.{encode}
use Rattle.agreement.specs.Tieless.{alike, Untied, Tieless}
use Rattle.agreement.specs.Passing.{Passed, means}
use Rattle.agreement.proofs.Choices.{items_placed}
use Rattle.agreement.proofs.Distinct.{distinct_places}
use Rattle.agreement.proofs.Encoded.{items_encoded}
use Rattle.agreement.proofs.MachineQueries.{plan_gives, plan_fails, plan_tieless}
use Rattle.agreement.proofs.Whole.{same_items}
use Rattle.order.specs.Shuffled.{Permuted, SameWork, both_full, both_failed, both_done, Shuffles}
use Rattle.order.specs.Order.{Unmoved}
use Rattle.order.proofs.Ties.{sort_permuted}
use Rattle.order.proofs.Worlds.{bagged}
use Rattle.order.proofs.Runs.{shuffled_run, last_permuted}

plan_operators : (query doc : List ℕ) → Bytes query → (i : Passed query doc) (lent n m : ℕ)
    → (translate_call query lent).answer ≡ Calls.gives (n ∷ m ∷ [])
    → (ps : List Placed) → plan_read (take m (translate_call query lent).left) ≡ reads ps
    → map (λ (p : Placed). p.op) ps ≡ plan i.read.tree
plan_operators query doc bytes i lent n m e ps r =
    let t : TranslatedPlan query lent n m = translated query lent n m e in
    let (qs, back) =
    query_plan_back query t.read bytes t.accepted (omega (arith, t.operators, t.within)) in
    ap (map (λ (p : Placed). p.op)) (reads_same (sym r ∙ ap plan_read t.bytes ∙ back.back))
    ∙ back.ops
    ∙ ap (λ (x : Read). plan x.tree) (reads_same (sym t.accepted ∙ i.query_reads))

-- What a run of the plan says of the query, whatever it was run in

record RunEnded (w : World) (q : Query) (ts : List Table) : Type 0 where
  items : List ℤ
  meant : eval w (λ v. []) q ≡ gives items
  last : last_table ts ≡ map encode (placed 1 0 items)

module _ (w : World) (laws : Lawful w) (q : Query) (closed : Closed q []) where
  run_ends : (ts : List Table) → run w (plan q) [] ≡ gives ts → RunEnded w q ts
  run_ends ts e = go (same_items w laws q)
    where
      go : SameItems (sem_plan w q) (eval w (λ v. []) q) → RunEnded w q ts
      go (both_give xs made meant) =
          let r = plan_gives w laws q closed (placed 1 0 xs) made in
          record { items = xs; meant = meant; last = ap last_table (gives_same (sym e ∙ r.runs)) ∙ r.last }
      go (both_fail broken bad) = absurd (fails_gives ts (sym (plan_fails w laws q closed broken) ∙ e))

  run_breaks : run w (plan q) [] ≡ fails → eval w (λ v. []) q ≡ fails
  run_breaks e = go (same_items w laws q)
    where
      go : SameItems (sem_plan w q) (eval w (λ v. []) q) → eval w (λ v. []) q ≡ fails
      go (both_give xs made meant) =
          let r = plan_gives w laws q closed (placed 1 0 xs) made in
          absurd (fails_gives r.tables (sym e ∙ r.runs))
      go (both_fail broken bad) = bad

-- however the last table stands, its items by rising place are one list
items_moved : (xs : List ℤ) (t u : Table) → t ≡ map encode (placed 1 0 xs) → Permuted t u → items_in_order u ≡ xs
unfolding items_in_order
items_moved xs t u e d =
    ap (λ (v : Table). column v 2)
    (sym (sort_permuted (1 ∷ []) (subst (Untied (alike (1 ∷ []))) (sym e) (distinct_places 1 xs)) d))
    ∙ ap items_in_order e
    ∙ items_encoded (placed 1 0 xs)
    ∙ items_placed 1 xs

done_same : {x y : Filled} → done x ≡ done y → x ≡ y
done_same e = cc

pub order_free_lem :
    (query doc : List ℕ) → Bytes query → (i : Passed query doc) (lent n m : ℕ)
    → (translate_call query lent).answer ≡ Calls.gives (n ∷ m ∷ [])
    → (ps : List Placed) → plan_read (take m (translate_call query lent).left) ≡ reads ps
    → (room : ℕ) (hand : Hand) → Shuffles hand
    → Unmoved (means i) (running (world_of i.catalogue) room ps [] 0)
    (running_by hand (world_of i.catalogue) room ps [] 0)
order_free_lem query doc bytes i lent n m e ps r room hand shuffles =
    record {
      same = work;
      read = λ us k d. read us k d work;
      seven = λ place d. seven place d work;
    }
  where
    w : World
    w = world_of i.catalogue

    q : Query
    q = i.read.tree

    closed : Closed q []
    closed = (accepted query i.read i.query_reads).closed

    operators : map (λ (p : Placed). p.op) ps ≡ plan q
    operators = plan_operators query doc bytes i lent n m e ps r

    work : SameWork (running w room ps [] 0) (running_by hand w room ps [] 0)
    work =
        shuffled_run w (bagged i.catalogue) ps
        (subst (λ (os : List Op). Tieless w os []) (sym operators) (plan_tieless w (lawful i.catalogue) q closed))
        room hand shuffles

    read : (us : List Table) (k : ℕ) → running_by hand w room ps [] 0 ≡ done (record { tables = us; filled = k })
        → SameWork (running w room ps [] 0) (running_by hand w room ps [] 0)
        → means i ≡ gives (items_in_order (last_table us))
    read us k d (both_full place a b) = absurd (full_done place _ (sym b ∙ d))
    read us k d (both_failed place a b) = absurd (failed_done place _ (sym b ∙ d))
    read us k d (both_done ts vs j a b moved) =
        let s =
        run_ends w (lawful i.catalogue) q closed ts
        (ap (λ (os : List Op). run w os []) (sym operators) ∙ running_done w room ps [] 0 _ a) in
        let same : vs ≡ us = ap (λ (f : Filled). f.tables) (done_same (sym b ∙ d)) in
        s.meant
        ∙ ap gives
        (sym
        (items_moved s.items (last_table ts) (last_table us) s.last
        (subst (λ (x : List Table). Permuted (last_table ts) (last_table x)) same (last_permuted moved))))

    seven : (place : ℕ) → running_by hand w room ps [] 0 ≡ failed place
        → SameWork (running w room ps [] 0) (running_by hand w room ps [] 0) → means i ≡ fails
    seven place d (both_full p a b) = absurd (full_failed p place (sym b ∙ d))
    seven place d (both_failed p a b) =
        run_breaks w (lawful i.catalogue) q closed
        (ap (λ (os : List Op). run w os []) (sym operators) ∙ running_failed w room ps [] 0 p a)
    seven place d (both_done ts vs j a b moved) = absurd (failed_done place _ (sym d ∙ b))
