-- Variables lifted into a further loop: each variable's table is joined with the loop's table, and projected.
--     Among v vs               v is one of the numbers vs
--     any_kept, any_below      a number among those that are kept; among those below a number
--     sim_lifts                the operators that lift variables, and those that come next
use Prim.Native.Nat.{ℕ, zero, suc, ◌+◌, ◌<◌}
use mathlib.Core.Path.{◌≡◌, refl, sym, ap, ◌∙◌}
use mathlib.Core.Logic.{◌≢◌}
use mathlib.Core.List.{List, [], ◌∷◌, ◌++◌, map}
use mathlib.Core.Bool.{Bool, true, false, ◌&&◌, ◌||◌, false≢true, and-false}
use native.Mathlib.Omega.{arith}
use borrow.Author.Tests.{eqb-true, eqb-false, eq-eqb}
use lib.Dec.{eqb}
use lib.IntN.{pos}
use lib.ListN.{length}
use Rattle.laws.specs.Lists.{filter, any, below}
use Rattle.laws.specs.Keyed.{joined}
use Rattle.laws.proofs.Booleans.{by_cases, or_left, or_right}
use Rattle.laws.specs.Attempt.{Attempt}
use Rattle.meaning.specs.World.{World}
use Rattle.meaning.specs.Plan.{Op}
use Rattle.meaning.specs.Operators.{Row, Table, cell}
use Rattle.meaning.specs.Translation.{Tables, hold, lifts, lifted}
use Rattle.agreement.specs.Typed.{Triple, Vars, iter_of}
use Rattle.agreement.specs.Encoded.{encode, encode_pair, Has, HasRows}
use Rattle.agreement.specs.Machine.{Simulates}
use Rattle.agreement.proofs.Machine.{Extends, extends_self, extends_then, has_kept, has_as}
use Rattle.agreement.proofs.MachineOperators.{joining, projecting}

abbrev pub Among : ℕ → List ℕ → Type 0
Among v vs = any (eqb v) vs ≡ true

pub any_kept : (p : ℕ → Bool) (v : ℕ) (xs : List ℕ) → any (eqb v) (filter p xs) ≡ p v && any (eqb v) xs
unfolding any filter
any_kept p v [] = sym (and-false (p v))
any_kept p v (x ∷ xs) =
    by_cases (eqb v x)
    (λ e. by_cases (p v)
    (λ k. rw (sym (ap p (eqb-true v x e)) ∙ k, k, e))
    (λ k. rw (sym (ap p (eqb-true v x e)) ∙ k, k) (any_kept p v xs ∙ rw k)))
    (λ e. by_cases (p x) (λ k. rw (k, e, any_kept p v xs)) (λ k. rw (k, e, any_kept p v xs)))

any_append : (p : ℕ → Bool) (xs ys : List ℕ) → any p (xs ++ ys) ≡ any p xs || any p ys
unfolding any
any_append p [] ys = refl
any_append p (x ∷ xs) ys = by_cases (p x) (λ e. rw e) (λ e. rw e (any_append p xs ys))

pub any_below : (v n : ℕ) → v < n → Among v (below n)
unfolding any below
any_below v zero h = absurd (omega arith)
any_below v (suc n) h =
    any_append (eqb v) (below n) (n ∷ [])
    ∙ by_cases (eqb v n)
    (λ e. or_right (any (eqb v) (below n)) (eqb v n || false) (rw e))
    (λ e. or_left _ _ (any_below v n (let d : v ≢ n = eqb-false v n e in omega arith)))

-- the tables of the variables after lifting, in the order of the operators
module _ (w : World) {B : Type 0} (g : B → Row) (j : B → ℕ) (lift : Triple × B → Triple) (cs : List ℕ)
    (number : (s : B) → cell (g s) 0 ≡ pos (j s))
    (cells : (r : Triple × B) → encode (lift r) ≡ map (cell (encode_pair encode g r)) cs)
    (e : Tables) (m : ℕ) (rows : List B) (vars : Vars) where
  abbrev pub LiftedTables : List Table → ℕ → List ℕ → Type 0
  LiftedTables us n vs = (v : ℕ) → Among v vs → HasRows us (lifted e n vs v) (map lift (joined iter_of j (vars v) rows))

  one_more : (us : List Table) (n v : ℕ) (vs : List ℕ) → HasRows us (n + 1) (map lift (joined iter_of j (vars v) rows))
      → LiftedTables us (n + 2) vs → LiftedTables us n (v ∷ vs)
  unfolding lifted hold any
  one_more us n v vs h k u a =
      by_cases (eqb u v)
      (λ t. rw (t, eqb-true u v t) h)
      (λ t. rw t (k u (sym (rw t) ∙ a)))

  pub sim_lifts : (vs : List ℕ) (n : ℕ) {ts : List Table} {os : List Op} {r : ℕ} {a : Attempt (List Triple)}
      → length ts ≡ n → Has ts m g rows → ((v : ℕ) → Among v vs → HasRows ts (e v) (vars v))
      → ((us : List Table) → Extends ts us → length us ≡ n + length (lifts e m cs n vs) → LiftedTables us n vs
      → Simulates w os r us a)
      → Simulates w (lifts e m cs n vs ++ os) r ts a
  unfolding lifts any
  sim_lifts [] n {ts} here h k s = s ts (extends_self ts) (omega arith) (λ v x. absurd (false≢true x))
  sim_lifts (v ∷ vs) n here h k s =
      joining w here iter_of j (λ x. refl) number (k v (or_left (eqb v v) _ (eq-eqb v v refl))) h (λ us p l i.
      projecting w (omega arith) i (λ xs q l i.
      let x = extends_then p q in
      sim_lifts vs (n + 2) (omega arith) (has_kept x h)
      (λ u a. has_kept x (k u (or_right (eqb u v) (any (eqb u) vs) a))) (λ ys y l z.
      s ys (extends_then x y) (omega arith) (one_more ys n v vs (has_kept y (has_as encode lift cells i)) z))))
