-- QF: the body once for each item, results one after another.
--     items_at                 the items of an iteration, each beside its new iteration
--     results s i              the body's results for these, one after another
--     results_mean             they are what the query means
--     results_represented      they are what is brought back
--     rule_F                   the agreement of QF
use Prim.Native.Nat.{ℕ}
use mathlib.Core.Path.{◌≡◌, refl, sym, ap, ◌∙◌}
use mathlib.Core.List.{List, [], ◌∷◌, map, map-map}
use mathlib.Core.Bool.{true}
use lib.Dec.{eqb}
use lib.IntN.{ℤ}
use borrow.Author.Tests.{eqb-true}
use Rattle.laws.specs.Lists.{gather, In}
use Rattle.laws.specs.Keyed.{within}
use Rattle.laws.proofs.Lists.{all_both, all_kept, all_map}
use Rattle.laws.proofs.Filters.{all_filter, filter_map, gather_map, no_cons}
use Rattle.laws.specs.Attempt.{Attempt, gives, attempt, each}
use Rattle.meaning.specs.Meaning.{Env, bind}
use Rattle.agreement.specs.Typed.{Triple, Vars, Sem, item_of, holding, all_in_order, items_alone}
use Rattle.agreement.specs.Typed.{new_loop, map_of, lifted_by, brought_back, sem_f}
use Rattle.agreement.specs.Families.{Family, Mask, placed, Represents, Outside, HoldsVars, Agree, agrees, failing}
use Rattle.agreement.specs.Families.{Agrees}
use Rattle.agreement.proofs.Attempts.{each_fails, each_known, each_map}
use Rattle.agreement.proofs.Tables.{map_placed}
use Rattle.agreement.proofs.NewLoops.{looked, looked_all, new_mask, new_env, map_rises, loops_new, holds_new}
use Rattle.agreement.proofs.NewLoops.{all_ours, all_known, numbers_at}
use Rattle.agreement.proofs.BringingBack.{back_at}

map_nothing : {A B : Type 0} (f : A → B) (xs : List A) → map f xs ≡ [] → xs ≡ []
map_nothing f [] e = refl
map_nothing f (x ∷ xs) e = no_cons (sym e)

abbrev outer : Triple × ℕ → ℕ
outer x = x.0.iter

module _ (e : Env → Attempt (List ℤ)) (m : Mask) (a : List Triple) (s : Family) (out : Outside m s)
    (rep : Represents a s)
    (v : ℕ) (ρ : ℕ → Env) where
  -- the items of iteration i, each beside its new iteration
  items_at : (i : ℕ) → s i ≡ map (λ (x : Triple × ℕ). x.0.item) (within outer i (all_in_order a))
  items_at i =
      sym (map_placed i 0 (s i))
      ∙ ap (map item_of) (sym (numbers_at m a s out rep i))
      ∙ map-map item_of (λ (x : Triple × ℕ). x.0) (within outer i (all_in_order a))

  -- the body's results in iteration i, one after another
  results : Family → Family
  results s' i = gather (λ x. s' x.1) (within outer i (all_in_order a))

  results_mean : (s' : Family) → ((n : ℕ) → new_mask (all_in_order a) n ≡ true
      → e (new_env v ρ (all_in_order a) n) ≡ gives (s' n)) → (i : ℕ)
      → each (λ x. e (bind v (x ∷ []) (ρ i))) (s i) ≡ gives (results s' i)
  unfolding results within new_env
  results_mean s' means i =
      ap (each (λ x. e (bind v (x ∷ []) (ρ i)))) (items_at i)
      ∙ each_map (λ x. e (bind v (x ∷ []) (ρ i))) (λ (x : Triple × ℕ). x.0.item) (within outer i (all_in_order a))
      ∙ each_known (λ x. e (bind v (x.0.item ∷ []) (ρ i))) (λ x. s' x.1) (within outer i (all_in_order a))
      (all_map (within outer i (all_in_order a)) (λ x k. one x k.0 k.1.0 k.1.1)
      (all_both _ _ (within outer i (all_in_order a)) (all_filter (λ x. eqb i (outer x)) (all_in_order a))
      (all_kept (λ x. eqb i (outer x)) _ (all_in_order a) (all_known m a s out rep))))
    where
      one : (x : Triple × ℕ) → eqb i (outer x) ≡ true → looked x.1 (all_in_order a) ≡ x.0
          → new_mask (all_in_order a) x.1 ≡ true
          → e (bind v (x.0.item ∷ []) (ρ i)) ≡ gives (s' x.1)
      one x here known new =
          ap e
          (ap (λ (j : ℕ). bind v (x.0.item ∷ []) (ρ j)) (eqb-true i (outer x) here)
          ∙ ap (λ (r : Triple). bind v (r.item ∷ []) (ρ r.iter)) (sym known))
          ∙ means x.1 new

  results_outside : (s' : Family) → Outside m (results s')
  unfolding results gather placed
  results_outside s' i k =
      ap (gather (λ x. s' x.1))
      (map_nothing (λ (x : Triple × ℕ). x.0) (within outer i (all_in_order a))
      (numbers_at m a s out rep i ∙ ap (placed i 0) (out i k)))

  results_represented : (t : List Triple) (s' : Family) → Represents t s'
      → Represents (brought_back t (map_of (all_in_order a))) (results s')
  unfolding results map_of within
  results_represented t s' rep' i =
      back_at t s' rep' i (map_of (all_in_order a)) (map_rises a)
      ∙ ap (placed i 0)
      (ap (gather (λ p. s' p.1)) (filter_map (λ p. eqb i p.0) (λ r. (r.0.iter, r.1)) (all_in_order a))
      ∙ gather_map (λ p. s' p.1) (λ r. (r.0.iter, r.1)) (within outer i (all_in_order a)))

  pub rule_F : (body : Sem) → ((ρ' : ℕ → Env) → Agrees ρ' (λ i. e (ρ' i)) body) → (vars : Vars) → HoldsVars m ρ vars
      → Agree m (λ i. each (λ x. e (bind v (x ∷ []) (ρ i))) (s i)) (sem_f v body a vars)
  unfolding sem_f attempt new_env
  rule_F body agree vars holds =
      go
      (agree (new_env v ρ (all_in_order a)) (new_loop (all_in_order a)) (new_mask (all_in_order a)) new (loops_new a)
      (holds_new m a s out rep v ρ vars holds))
    where
      new : Vars
      new = holding v (items_alone (all_in_order a)) (λ u. lifted_by (map_of (all_in_order a)) (vars u))

      rest : List Triple → Attempt (List Triple)
      rest t = gives (brought_back t (map_of (all_in_order a)))

      go : Agree (new_mask (all_in_order a)) (λ n. e (new_env v ρ (all_in_order a) n)) (body (new_loop (all_in_order a)) new)
          → Agree m (λ i. each (λ x. e (bind v (x ∷ []) (ρ i))) (s i)) (sem_f v body a vars)
      go (agrees t s' run means out' rep') =
          agrees (brought_back t (map_of (all_in_order a))) (results s') (ap (λ x. attempt x rest) run)
          (λ i k. results_mean s' means i) (results_outside s') (results_represented t s' rep')
      go (failing n k bad run) =
          let r : Triple = looked n (all_in_order a) in
          let ours =
          looked_all (λ r. (m r.iter ≡ true) × In r.item (s r.iter)) a (all_ours m a s out rep) n k in
          failing r.iter ours.0 (each_fails (λ x. e (bind v (x ∷ []) (ρ r.iter))) (s r.iter) r.item
          ours.1 bad)
          (ap (λ x. attempt x rest) run)
