-- The operators of a query simulate the typed rules, and the whole plan does.
--     shown                what an operand gives is shown
--     simulates            the operators of a closed query, in a lawful world
--     plan_gives, plan_fails     the whole plan against the typed plan
--     plan_tieless         no operator of a plan meets a tie
use Prim.Native.Nat.{ℕ, zero, suc, ◌+◌}
use mathlib.Core.Path.{◌≡◌, refl, ◌∙◌}
use mathlib.Core.List.{List, [], ◌∷◌}
use mathlib.Core.Bool.{Bool, true, not, ◌&&◌, ◌||◌, false≢true}
use native.Mathlib.Omega.{arith}
use borrow.Author.Tests.{eq-eqb}
use lib.Dec.{eqb}
use lib.ListN.{length, get_or, length-append}
use Rattle.laws.specs.Lists.{any}
use Rattle.laws.proofs.Booleans.{by_cases, or_left, or_right}
use Rattle.laws.specs.Attempt.{fails, gives}
use Rattle.meaning.specs.World.{World}
use Rattle.meaning.specs.Query.{Query, QL, QE, QR, QV, QS, QT, QF, QI, QO, QC, QD, QX, free, bound}
use Rattle.meaning.specs.Operators.{Table, make}
use Rattle.meaning.specs.Run.{run}
use Rattle.meaning.specs.Calls.{last_table}
use Rattle.meaning.specs.Translation.{Tables, next, hold, then, tr, tail_last, plan}
use Rattle.meaning.specs.Meaning.{Env, bind}
use Rattle.theorems.proofs.Closed.{free_bound}
use Rattle.theorems.specs.Closed.{Closed}
use Rattle.theorems.specs.Nodes.{Lawful}
use Rattle.agreement.specs.Typed.{Triple, Loop, Vars, holding, sem, sem_plan}
use Rattle.agreement.specs.Encoded.{encode_number, HasRows}
use Rattle.agreement.specs.Families.{Mask, Loops, HoldsVars}
use Rattle.agreement.specs.Tieless.{Tieless}
use Rattle.agreement.specs.Machine.{Simulates, HasFree, Faithful, MachineEnds}
use Rattle.agreement.proofs.Distinct.{Shown, represented}
use Rattle.agreement.proofs.Sequences.{holds_bind}
use Rattle.agreement.proofs.Theorem.{agreement}
use Rattle.agreement.proofs.Whole.{first, loops_first, holds_nothing}
use Rattle.agreement.proofs.Machine.{has_kept, sim_end, sim_then, sim_op}
use Rattle.agreement.proofs.MachineRules.{sim_L, sim_E, sim_R, sim_S, sim_O, sim_C, sim_D, sim_X, sim_last}
use Rattle.agreement.proofs.MachineLoops.{SmallQuery, sim_F, sim_I}

-- the free variables of a part
module _ {ts : List Table} {e : Tables} {vars : Vars} where
  free_left : (p q : ℕ → Bool) → ((v : ℕ) → p v || q v ≡ true → HasRows ts (e v) (vars v))
      → (v : ℕ) → p v ≡ true → HasRows ts (e v) (vars v)
  free_left p q h v f = h v (or_left (p v) (q v) f)

  free_right : (p q : ℕ → Bool) → ((v : ℕ) → p v || q v ≡ true → HasRows ts (e v) (vars v))
      → (v : ℕ) → q v ≡ true → HasRows ts (e v) (vars v)
  free_right p q h v f = h v (or_right (p v) (q v) f)

-- with one more variable bound
free_bind : (ts : List Table) (e : Tables) (vars : Vars) (q : Query) (v t : ℕ) (x : List Triple) → HasRows ts t x
    → ((u : ℕ) → not (eqb u v) && free u q ≡ true → HasRows ts (e u) (vars u))
    → HasFree ts q (hold v t e) (holding v x vars)
unfolding hold holding
free_bind ts e vars q v t x h i u f = by_cases (eqb u v) (λ k. rw k h) (λ k. rw k (i u (rw (k, f))))

small : (q : Query) (vs : List ℕ) → Closed q vs → SmallQuery q
small q vs c v f = (free_bound q vs v c f).1

module _ (w : World) (laws : Lawful w) where
  -- what an operand gives represents what it means
  shown : (q : Query) (ρ : ℕ → Env) (loop : Loop) (m : Mask) (vars : Vars) {x : List Triple}
      → Loops loop m → HoldsVars m ρ vars → sem w q loop vars ≡ gives x → Shown m x
  shown q ρ loop m vars loops holds d = represented (agreement w laws q ρ loop m vars loops holds) d

  pub simulates : (q : Query) (vs : List ℕ) → Closed q vs → Faithful w q
  unfolding tr then next sem free
  simulates (QL at z) vs c n l e ts loop vars m ρ loops holds here h f = sim_L w n here z h
  simulates (QE at) vs c n l e ts loop vars m ρ loops holds here h f = sim_E w n here h
  simulates (QR at k) vs c n l e ts loop vars m ρ loops holds here h f = sim_R w n here k h
  simulates (QV at v) vs c n l e ts loop vars m ρ loops holds here h f = sim_end w (f v (eq-eqb v v refl))
  simulates (QS at a b) vs c n l e ts loop vars m ρ loops holds here h f =
      sim_then w here (simulates a vs c.0 n l e ts loop vars m ρ loops holds here h (free_left _ _ f))
      (λ x d us p k i.
      sim_then w k
      (simulates b vs c.1 _ l e us loop vars m ρ loops holds k (has_kept p h)
      (λ v g. has_kept p (free_right (λ u. free u a) _ f v g)))
      (λ y g us q k j.
      sim_S w _ k (shown a ρ loop m vars loops holds d) (shown b ρ loop m vars loops holds g) (has_kept q i) j))
  simulates (QT at v a b) vs c n l e ts loop vars m ρ loops holds here h f =
      sim_then w here (simulates a vs c.1 n l e ts loop vars m ρ loops holds here h (free_left _ _ f))
      (λ x d us p k i.
      let s = shown a ρ loop m vars loops holds d in
      simulates b (v ∷ vs) c.2 _ l (hold v _ e) us loop (holding v x vars) m (λ i. bind v (s.family i) (ρ i)) loops
      (holds_bind m ρ vars holds v x s.family s.outside s.rows) k (has_kept p h)
      (free_bind us e vars b v _ x i (λ u g. has_kept p (free_right (λ u. free u a) _ f u g))))
  simulates (QF at v a b) vs c n l e ts loop vars m ρ loops holds here h f =
      sim_then w here (simulates a vs c.1 n l e ts loop vars m ρ loops holds here h (free_left _ _ f))
      (λ x d us p k i.
      sim_F w _ k v b e vars ρ laws (shown a ρ loop m vars loops holds d) holds
      (simulates b (v ∷ vs) c.2) (small b (v ∷ vs) c.2) i
      (λ u g. has_kept p (free_right (λ u. free u a) _ f u g)))
  simulates (QI at q a b) vs c n l e ts loop vars m ρ loops holds here h f =
      let g = free_left (λ v. free v q || free v a) (λ v. free v b) f in
      sim_then w here
      (simulates q vs c.0 n l e ts loop vars m ρ loops holds here h (free_left _ (λ v. free v a) g))
      (λ x d us p k i.
      sim_I w _ k a b e vars ρ laws (shown q ρ loop m vars loops holds d) loops holds
      (simulates a vs c.1) (simulates b vs c.2) (small a vs c.1) (small b vs c.2)
      (has_kept p h) i (λ u t. has_kept p (free_right (λ v. free v q) _ g u t))
      (λ u t. has_kept p (free_right (λ v. free v q || free v a) _ f u t)))
  simulates (QO at g a b) vs c n l e ts loop vars m ρ loops holds here h f =
      sim_then w here (simulates a vs c.0 n l e ts loop vars m ρ loops holds here h (free_left _ _ f))
      (λ x d us p k i.
      sim_then w k
      (simulates b vs c.1 _ l e us loop vars m ρ loops holds k (has_kept p h)
      (λ v g. has_kept p (free_right (λ u. free u a) _ f v g)))
      (λ y d us q k j. sim_O w _ k g (has_kept q i) j))
  simulates (QC at a) vs c n l e ts loop vars m ρ loops holds here h f =
      sim_then w here (simulates a vs c n l e ts loop vars m ρ loops holds here h f)
      (λ x d us p k i. sim_C w _ k (has_kept p h) i)
  simulates (QD at a) vs c n l e ts loop vars m ρ loops holds here h f =
      sim_then w here (simulates a vs c n l e ts loop vars m ρ loops holds here h f) (λ x d us p k i. sim_D w _ k i)
  simulates (QX at axis test a) vs c n l e ts loop vars m ρ loops holds here h f =
      sim_then w here (simulates a vs c n l e ts loop vars m ρ loops holds here h f)
      (λ x d us p k i. sim_X w _ k axis test laws (shown a ρ loop m vars loops holds d) i)

-- The whole plan

last_table_lem : (ts : List Table) (n : ℕ) → length ts ≡ suc n → last_table ts ≡ get_or ts n []
unfolding last_table
last_table_lem [] n e = absurd (omega arith)
last_table_lem (t ∷ []) zero e = refl
last_table_lem (t ∷ []) (suc n) e = absurd (omega arith)
last_table_lem (t ∷ u ∷ ts) zero e = absurd (omega arith)
last_table_lem (t ∷ u ∷ ts) (suc n) e = last_table_lem (u ∷ ts) n (omega arith)

result_of : Query → ℕ
result_of q = next 1 (tr q 1 0 (λ v. 0)) + 1

plan_simulates : (w : World) → Lawful w → (q : Query) → Closed q []
    → Simulates w (plan q) (result_of q) [] (sem_plan w q)
unfolding plan result_of sem_plan next make bound any
plan_simulates w laws q c =
    sim_op w {f = encode_number} {n = 0} {rows = 1 ∷ []} refl tt refl (λ us p k j.
    sim_then w k
    (simulates w laws q [] c 1 0 (λ v. 0) us (1 ∷ []) (λ v. []) first (λ i v. []) loops_first holds_nothing k j
    (λ v f. absurd (false≢true (free_bound q [] v c f).0)))
    (λ t d us p k j.
    sim_last w _ k (shown w laws q (λ i v. []) (1 ∷ []) first (λ v. []) loops_first holds_nothing d) j))

plan_length : (q : Query) → length (plan q) ≡ suc (result_of q)
unfolding plan result_of next tail_last
plan_length q = let x = tr q 1 0 (λ v. 0) in omega (arith, length-append x.ops (tail_last (next 1 x) x.result))

module _ (w : World) (laws : Lawful w) (q : Query) (closed : Closed q []) where
  pub plan_gives : (t : List Triple) → sem_plan w q ≡ gives t → MachineEnds w q t
  plan_gives t e =
      let r = (plan_simulates w laws q closed).gave t e in
      record {
        tables = r.made;
        runs = r.runs;
        last = last_table_lem r.made (result_of q) (r.long ∙ plan_length q) ∙ r.has.holds;
      }

  pub plan_fails : sem_plan w q ≡ fails → run w (plan q) [] ≡ fails
  plan_fails e = (plan_simulates w laws q closed).failed e

  pub plan_tieless : Tieless w (plan q) []
  plan_tieless = (plan_simulates w laws q closed).apart
