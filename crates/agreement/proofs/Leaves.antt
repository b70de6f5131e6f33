-- The rules of records without operands: QL and QB, QE, QR, QV.
--     one_each                 the same item in each iteration of the loop
--     roots a l                RA, RO with a root that is there or not
--     rule_L, rule_E, rule_R, rule_V     the agreement of each
use Prim.Native.Nat.{ℕ}
use mathlib.Core.Path.{◌≡◌, refl, sym, ap, ◌∙◌, subst}
use mathlib.Core.Logic.{inl}
use mathlib.Core.List.{List, [], ◌∷◌, map, map-map}
use mathlib.Core.Bool.{Bool, cond}
use lib.Dec.{eqb}
use lib.IntN.{ℤ}
use Rattle.laws.specs.Lists.{filter}
use Rattle.laws.specs.Keyed.{within}
use Rattle.laws.proofs.Filters.{filter_map, no_cons}
use Rattle.laws.proofs.Booleans.{by_cases}
use Rattle.laws.specs.Attempt.{Attempt, fails, gives, attempt, each}
use Rattle.meaning.specs.Meaning.{Env}
use Rattle.meaning.specs.World.{World}
use Rattle.agreement.specs.Typed.{Triple, row, Loop, Vars, sem_l, sem_e, sem_r, first_places, extended}
use Rattle.agreement.specs.Families.{Mask, placed, Represents, Loops, HoldsVars, Agree, agrees}
use Rattle.agreement.specs.Families.{failing}
use Rattle.agreement.proofs.Agreeing.{agree_gives, agree_to, loop_member}

-- one item in each iteration of the loop
one_each : (z : ℤ) (l : Loop) (m : Mask) → Loops l m → Represents (sem_l z l) (λ i. cond (m i) (z ∷ []) [])
unfolding within sem_l placed
one_each z l m loops i =
    filter_map (λ r. eqb i r.iter) (λ j. row j 1 z) l
    ∙ ap (map (λ j. row j 1 z)) (loops i)
    ∙ by_cases (m i) (λ e. rw e) (λ e. rw e)

pub rule_L : (z : ℤ) (l : Loop) (m : Mask) → Loops l m → Agree m (λ i. gives (z ∷ [])) (gives (sem_l z l))
rule_L z l m loops =
    agree_to (λ i. gives (z ∷ [])) (λ i e. rw e)
    (agree_gives (sem_l z l) (λ i. cond (m i) (z ∷ []) []) (λ i e. rw e) (one_each z l m loops))

pub rule_E : (l : Loop) (m : Mask) → Agree m (λ i. gives []) (gives (sem_e l))
unfolding sem_e within filter placed
rule_E l m = agree_gives [] (λ i. []) (λ i e. refl) (λ i. refl)

pub rule_V : (m : Mask) (ρ : ℕ → Env) (vars : Vars) → HoldsVars m ρ vars → (v : ℕ)
    → Agree m (λ i. gives (ρ i v)) (gives (vars v))
rule_V m ρ vars holds v =
    agree_to (λ i. gives (ρ i v)) (λ i e. rw e)
    (agree_gives (vars v) (λ i. cond (m i) (ρ i v) []) (λ i e. rw e) (holds v))

-- a root that is there is one item, a missing one fails where the loop has an iteration
roots : (a : Attempt ℤ) → Loop → Attempt (List Triple)
roots a l = attempt (extended (λ r. a) (first_places l)) (λ t. gives (map (λ r. row r.0.0 r.0.1 r.1) t))

roots_given : (z : ℤ) (l : Loop) → extended (λ r. gives z) (first_places l) ≡ gives (map (λ i. ((i, 1), z)) l)
unfolding extended first_places each attempt
roots_given z [] = refl
roots_given z (i ∷ l) = rw (roots_given z l)

rule_roots : (a : Attempt ℤ) (l : Loop) (m : Mask) → Loops l m
    → Agree m (λ i. attempt a (λ z. gives (z ∷ []))) (roots a l)
unfolding roots attempt extended each first_places sem_l within filter placed
rule_roots (gives z) l m loops =
    subst (Agree m (λ i. gives (z ∷ [])))
    (ap gives (sym (map-map (λ r. row r.0.0 r.0.1 r.1) (λ i. ((i, 1), z)) l))
    ∙ sym (ap (λ a. attempt a (λ t. gives (map (λ r. row r.0.0 r.0.1 r.1) t))) (roots_given z l)))
    (rule_L z l m loops)
rule_roots fails [] m loops =
    agrees [] (λ i. []) refl (λ i e. no_cons (loops i ∙ ap (λ (b : Bool). cond b (i ∷ []) []) e)) (λ i e. refl)
    (λ i. refl)
rule_roots fails (j ∷ l) m loops = failing j (loop_member (j ∷ l) m loops j (inl refl)) refl refl

pub rule_R : (w : World) (k : ℕ) (l : Loop) (m : Mask) → Loops l m
    → Agree m (λ i. attempt (w.root k) (λ z. gives (z ∷ []))) (sem_r w k l)
unfolding sem_r roots
rule_R w k l m loops = rule_roots (w.root k) l m loops
