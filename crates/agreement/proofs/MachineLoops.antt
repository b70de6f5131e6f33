-- The rules with a loop of their own, QF and QI, against the typed rules: their parts are run under that loop, with
-- the variables that are free there lifted into it.
--     SmallQuery q          the free variables of q are 0 to 7
--     sim_F, sim_I          the operators of QF after its first operand, and of QI after its condition
use Prim.Native.Nat.{ℕ, ◌+◌, ◌<◌}
use mathlib.Core.Path.{◌≡◌, refl, sym, ◌∙◌}
use mathlib.Core.List.{List, [], ◌∷◌, ◌++◌}
use mathlib.Core.Bool.{Bool, true, false, not, ◌&&◌}
use native.Mathlib.Omega.{arith}
use lib.Dec.{eqb, leb}
use lib.ListN.{length}
use Rattle.cells.specs.Cell.{same, true_cell, truth_cell}
use Rattle.laws.specs.Lists.{filter, any, below}
use Rattle.laws.specs.Keyed.{rising_by, without}
use Rattle.laws.proofs.Booleans.{by_cases}
use Rattle.laws.specs.Attempt.{Attempt, gives, attempt}
use Rattle.meaning.specs.World.{World}
use Rattle.meaning.specs.Meaning.{Env}
use Rattle.theorems.specs.Nodes.{Lawful}
use Rattle.laws.specs.Sorting.{Sorted}
use Rattle.meaning.specs.Query.{Query, free}
use Rattle.meaning.specs.Plan.{Op, RU}
use Rattle.meaning.specs.Operators.{Table, rising, in_group}
use Rattle.meaning.specs.Translation.{Tables, next, hold, free_in, others_in, lifts, lifted, head_f, tail_f, head_i}
use Rattle.meaning.specs.Translation.{tr}
use Rattle.agreement.specs.Typed.{Triple, row, Loop, Vars, iter_of, place_of, grouped, together, by_number}
use Rattle.agreement.specs.Typed.{all_in_order, items_alone, new_loop, map_of, lifted_by, outer_of, outer_in_order}
use Rattle.agreement.specs.Typed.{brought_back, holding, sem, sem_f, truths_of, then_loop, kept_in, branches, sem_i}
use Rattle.agreement.specs.Encoded.{encode, encode_number, encode_numbers, HasRows, HasLoop, HasPairs}
use Rattle.agreement.specs.Families.{Mask, Loops, HoldsVars}
use Rattle.agreement.specs.Machine.{Simulates, HasFree, Faithful}
use Rattle.agreement.proofs.Distinct.{Shown, represented, distinct_rows, distinct_outer}
use Rattle.agreement.proofs.NewLoops.{new_mask, new_env, loops_new, holds_new, map_rises}
use Rattle.agreement.proofs.Choices.{parted}
use Rattle.agreement.proofs.Theorem.{agreement}
use Rattle.agreement.proofs.Machine.{Then, Extends, extends_then, has_kept, has_as, sim_end, sim_then}
use Rattle.agreement.proofs.MachineOperators.{attaching, projecting, uniting, excluding, selecting, joining}
use Rattle.agreement.proofs.MachineOperators.{numbering, judging}
use Rattle.agreement.proofs.MachineLifts.{Among, any_kept, any_below, sim_lifts}

abbrev pub SmallQuery : Query → Type 0
SmallQuery q = (v : ℕ) → free v q ≡ true → v < 8

and_left : (a b : Bool) → a && b ≡ true → a ≡ true
and_left true b e = refl
and_left false b e = e

-- the variables that are lifted are those that pass
passes : (p : ℕ → Bool) (v : ℕ) → Among v (filter p (below 8)) → p v ≡ true
passes p v a = and_left (p v) (any (eqb v) (below 8)) (sym (any_kept p v (below 8)) ∙ a)

lifted_too : (p : ℕ → Bool) (v : ℕ) → v < 8 → p v ≡ true → Among v (filter p (below 8))
lifted_too p v h e = any_kept p v (below 8) ∙ rw e (any_below v 8 h)

module _ (w : World) {ts : List Table} (n : ℕ) (here : length ts ≡ n) where
  sim_tail_f : {b m : ℕ} {y : List Triple} {x : List (ℕ × ℕ)} {o : Mask} → Shown o y
      → Sorted (λ (p q : ℕ × ℕ). leb p.1 q.1) x → HasRows ts b y → HasPairs ts m x
      → Simulates w (tail_f n b m).ops (tail_f n b m).result ts (gives (brought_back y x))
  unfolding tail_f brought_back outer_in_order outer_of in_group rising rising_by same
  sim_tail_f {x = x} f g h i =
      joining w here iter_of (λ s. s.1) (λ r. refl) (λ s. refl) h i (λ us p k j.
      numbering w (omega arith) (grouped (λ r. r.1.0))
      (by_number (λ r. r.1.0) ∷ by_number (λ r. r.0.iter) ∷ by_number (λ r. r.0.place) ∷ [])
      (λ r s. refl) (λ r s. refl) j (distinct_outer x f g) (λ us p k j.
      projecting w (omega arith) j (λ us p k j.
      sim_end w (has_as encode (λ r. row r.0.1.0 r.1 r.0.0.item) (λ r. refl) j))))

-- the variables of the body of a `for`: its own, and the others that are free there, lifted
free_F : (ts : List Table) (v : ℕ) (b : Query) (e : Tables) (own : List Triple) (vars : Vars) (m k : ℕ) → SmallQuery b
    → HasRows ts m own
    → ((u : ℕ) → Among u (others_in v b) → HasRows ts (lifted e k (others_in v b) u) (vars u))
    → HasFree ts b (hold v m (lifted e k (others_in v b))) (holding v own vars)
unfolding hold holding others_in
free_F ts v b e own vars m k s h i u f =
    by_cases (eqb u v)
    (λ t. rw t h)
    (λ t. rw t (i u (lifted_too (λ u. not (eqb u v) && free u b) u (s u f) (rw (t, f)))))

module _ (w : World) {ts : List Table} (n : ℕ) (here : length ts ≡ n) where
  -- the variable, the new loop, the map
  sim_head_f : {a r : ℕ} {x : List Triple} {os : List Op} {s : Attempt (List Triple)} {m : Mask} → Shown m x
      → HasRows ts a x
      → ((us : List Table) → Extends ts us → length us ≡ n + 5 → HasRows us (n + 2) (items_alone (all_in_order x))
      → HasLoop us (n + 3) (new_loop (all_in_order x)) → HasPairs us (n + 4) (map_of (all_in_order x))
      → Simulates w os r us s)
      → Simulates w (head_f n a ++ os) r ts s
  unfolding head_f all_in_order items_alone new_loop map_of in_group rising rising_by
  sim_head_f f h s =
      numbering w here together (by_number iter_of ∷ by_number place_of ∷ [])
      (λ r s. refl) (λ r s. refl) h (distinct_rows f) (λ u₁ p₁ k₁ j₁.
      attaching w (omega arith) j₁ (λ u₂ p₂ k₂ j₂.
      projecting w {n = n + 2} (omega arith) j₂ (λ u₃ p₃ k₃ j₃.
      projecting w {n = n + 3} (omega arith) (has_kept p₃ (has_kept p₂ j₁)) (λ u₄ p₄ k₄ j₄.
      projecting w {n = n + 4} (omega arith) (has_kept p₄ (has_kept p₃ (has_kept p₂ j₁))) (λ u₅ p₅ k₅ j₅.
      s u₅ (extends_then p₁ (extends_then p₂ (extends_then p₃ (extends_then p₄ p₅)))) (omega arith)
      (has_as encode (λ r. row r.1 1 r.0.item) (λ r. refl) (has_kept p₅ (has_kept p₄ j₃)))
      (has_as encode_number (λ r. r.1) (λ r. refl) (has_kept p₅ j₄))
      (has_as encode_numbers (λ r. (r.0.iter, r.1)) (λ r. refl) j₅))))))

  pub sim_F : {a : ℕ} {x : List Triple} {m : Mask} (v : ℕ) (b : Query) (e : Tables) (vars : Vars) (ρ : ℕ → Env)
      → Lawful w → Shown m x → HoldsVars m ρ vars → Faithful w b → SmallQuery b
      → HasRows ts a x → ((u : ℕ) → not (eqb u v) && free u b ≡ true → HasRows ts (e u) (vars u))
      → let us = others_in v b in
      let lift = lifts e (n + 4) (4 ∷ 1 ∷ 2 ∷ []) (n + 5) us in
      let k = n + 5 + length lift in
      let y = tr b k (n + 3) (hold v (n + 2) (lifted e (n + 5) us)) in
      let z = tail_f (next k y) y.result (n + 4) in
      Simulates w (head_f n a ++ (lift ++ (y.ops ++ z.ops))) z.result ts (sem_f v (sem w b) x vars)
  unfolding next sem_f others_in lifted_by
  sim_F {x} {m} v b e vars ρ laws shown holds faithful small h i =
      let others : Vars = λ u. lifted_by (map_of (all_in_order x)) (vars u) in
      let new : Vars = holding v (items_alone (all_in_order x)) others in
      let env = new_env v ρ (all_in_order x) in
      let held = holds_new m x shown.family shown.outside shown.rows v ρ vars holds in
      sim_head_f shown h (λ u₁ p₁ k₁ own loop pairs.
      sim_lifts w encode_numbers (λ s. s.0) (λ r. row r.1.1 r.0.place r.0.item) (4 ∷ 1 ∷ 2 ∷ [])
      (λ s. refl) (λ r. refl) e (n + 4) (map_of (all_in_order x)) vars (others_in v b) (n + 5) k₁ pairs
      (λ u a. has_kept p₁ (i u (passes (λ u. not (eqb u v) && free u b) u a))) (λ u₂ p₂ k₂ j₂.
      sim_then w k₂
      (faithful _ (n + 3) _ u₂ (new_loop (all_in_order x)) new (new_mask (all_in_order x)) env (loops_new x) held k₂
      (has_kept p₂ loop)
      (free_F u₂ v b e (items_alone (all_in_order x)) others (n + 2) (n + 5) small (has_kept p₂ own) j₂))
      (λ y d u₃ p₃ k₃ j₃.
      sim_tail_f w _ k₃
      (represented (agreement w laws b env (new_loop (all_in_order x)) (new_mask (all_in_order x)) new (loops_new x) held) d)
      (map_rises x) j₃ (has_kept (extends_then p₂ p₃) pairs))))

-- the selected rows are those whose truth is true
truth_true : (b : Bool) → same (truth_cell b) true_cell ≡ b
unfolding same
truth_true true = refl
truth_true false = refl

module _ (w : World) {ts : List Table} (n : ℕ) (here : length ts ≡ n) where
  -- a branch: its free variables are kept in its loop, then it is run under that loop
  sim_branch : {os : List Op} {r m : ℕ} {loop : Loop} {k : List Triple → Attempt (List Triple)}
      (q : Query) (e : Tables) (vars : Vars) (part : Mask) (ρ : ℕ → Env) → Loops loop part
      → HoldsVars part ρ (λ u. kept_in loop (vars u)) → Faithful w q → SmallQuery q → HasLoop ts m loop
      → HasFree ts q e vars
      → let lift = lifts e m (0 ∷ 1 ∷ 2 ∷ []) n (free_in q) in
      let y = tr q (n + length lift) m (lifted e n (free_in q)) in
      ((rows : List Triple) → Then w ts (next (n + length lift) y) y.result encode rows os r (k rows))
      → Simulates w (lift ++ (y.ops ++ os)) r ts (attempt (sem w q loop (λ u. kept_in loop (vars u))) k)
  unfolding next free_in kept_in
  sim_branch {m} {loop} q e vars part ρ loops holds faithful small h i s =
      sim_lifts w encode_number (λ i. i) (λ r. r.0) (0 ∷ 1 ∷ 2 ∷ []) (λ i. refl) (λ r. refl)
      e m loop vars (free_in q) n here h (λ u a. i u (passes (λ v. free v q) u a)) (λ us p l j.
      sim_then w l
      (faithful _ m _ us loop (λ u. kept_in loop (vars u)) part ρ loops holds l (has_kept p h)
      (λ u f. j u (lifted_too (λ v. free v q) u (small u f) f))) (λ rows d vs q l j.
      s rows vs (extends_then p q) l j))

module _ (w : World) {ts : List Table} (n : ℕ) (here : length ts ≡ n) where
  -- the two loops
  sim_head_i : {c l r : ℕ} {x : List Triple} {loop : Loop} {os : List Op} {m : Mask}
      {k : List (ℕ × Bool) → Attempt (List Triple)}
      → Shown m x → HasLoop ts l loop → HasRows ts c x
      → ((t : List (ℕ × Bool)) → truths_of w x ≡ gives t → (us : List Table) → Extends ts us → length us ≡ n + 4
      → HasLoop us (n + 2) (then_loop t) → HasLoop us (n + 3) (without loop (then_loop t))
      → Simulates w os r us (k t))
      → Simulates w (head_i n l c ++ os) r ts (attempt (truths_of w x) k)
  unfolding head_i then_loop
  sim_head_i f h i s =
      judging w here i (distinct_rows f) (λ t d u₁ p₁ k₁ j₁.
      selecting w (omega arith) (λ r. r.1) (λ r. truth_true r.1) j₁ (λ u₂ p₂ k₂ j₂.
      projecting w (omega arith) j₂ (λ u₃ p₃ k₃ j₃.
      let chosen = has_as encode_number (λ r. r.0) (λ r. refl) j₃ in
      let earlier = extends_then p₁ (extends_then p₂ p₃) in
      excluding w {n = n + 3} (omega arith) (has_kept earlier h) chosen (λ u₄ p₄ k₄ j₄.
      s t d u₄ (extends_then earlier p₄) (omega arith) (has_kept p₄ chosen) j₄))))

  pub sim_I : {c l : ℕ} {x : List Triple} {loop : Loop} {m : Mask} (a b : Query) (e : Tables) (vars : Vars)
      (ρ : ℕ → Env) → Lawful w → Shown m x → Loops loop m → HoldsVars m ρ vars
      → Faithful w a → Faithful w b → SmallQuery a → SmallQuery b → HasLoop ts l loop → HasRows ts c x
      → HasFree ts a e vars → HasFree ts b e vars
      → let liftA = lifts e (n + 2) (0 ∷ 1 ∷ 2 ∷ []) (n + 4) (free_in a) in
      let i = n + 4 + length liftA in
      let y = tr a i (n + 2) (lifted e (n + 4) (free_in a)) in
      let j = next i y in
      let liftB = lifts e (n + 3) (0 ∷ 1 ∷ 2 ∷ []) j (free_in b) in
      let k = j + length liftB in
      let z = tr b k (n + 3) (lifted e j (free_in b)) in
      Simulates w (head_i n l c ++ (liftA ++ (y.ops ++ (liftB ++ (z.ops ++ (RU y.result z.result ∷ []))))))
      (next k z) ts (sem_i w (sem w a) (sem w b) loop vars x)
  unfolding sem_i branches
  sim_I {loop} a b e vars ρ laws shown loops holds faithfulA faithfulB smallA smallB h i f g =
      sim_head_i shown h i (λ t d u₁ p₁ k₁ j₁ others.
      let parts = parted w laws shown ρ loop vars loops holds t d in
      sim_branch w (n + 4) k₁ a e vars parts.chosen ρ parts.chosen_loop parts.chosen_holds
      faithfulA smallA j₁ (λ u d. has_kept p₁ (f u d)) (λ y u₂ p₂ k₂ j₂.
      sim_branch w _ k₂ b e vars parts.rest ρ parts.rest_loop parts.rest_holds
      faithfulB smallB (has_kept p₂ others)
      (λ u d. has_kept (extends_then p₁ p₂) (g u d)) (λ z u₃ p₃ k₃ j₃.
      uniting w k₃ (has_kept p₃ j₂) j₃ (λ u₄ p₄ k₄ j₄. sim_end w j₄))))
