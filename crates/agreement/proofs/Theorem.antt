-- The agreement: under every loop, a query's table represents what the query means in each iteration, or both fail.
--     agreement       by induction on the query, a rule each
use Prim.Native.Nat.{ℕ}
use mathlib.Core.List.{[], ◌∷◌, ◌++◌}
use mathlib.Core.Bool.{cond}
use lib.IntN.{pos}
use lib.ListN.{length}
use Rattle.laws.specs.Attempt.{gives, attempt, each}
use Rattle.meaning.specs.World.{World}
use Rattle.theorems.specs.Nodes.{Lawful}
use Rattle.meaning.specs.Query.{Query, QL, QE, QR, QV, QS, QT, QF, QI, QO, QC, QD, QX}
use Rattle.meaning.specs.Meaning.{Env, bind, apply, values, eval}
use Rattle.agreement.specs.Typed.{holding, sem, sem_s, sem_f, sem_i, sem_o, sem_c, sem_d, sem_x}
use Rattle.agreement.specs.Families.{Agrees}
use Rattle.agreement.proofs.Agreeing.{agree_bind}
use Rattle.agreement.proofs.Leaves.{rule_L, rule_E, rule_R, rule_V}
use Rattle.agreement.proofs.Sequences.{rule_S, holds_bind}
use Rattle.agreement.proofs.Counts.{rule_C}
use Rattle.agreement.proofs.Values.{rule_D}
use Rattle.agreement.proofs.Functions.{rule_O}
use Rattle.agreement.proofs.Steps.{rule_X}
use Rattle.agreement.proofs.Choices.{rule_I}
use Rattle.agreement.proofs.ForLoops.{rule_F}

module _ (w : World) (lawful : Lawful w) where
  pub agreement : (q : Query) (ρ : ℕ → Env) → Agrees ρ (λ i. eval w (ρ i) q) (sem w q)
  unfolding eval sem
  agreement (QL at z) ρ l m vars loops holds = rule_L z l m loops
  agreement (QE at) ρ l m vars loops holds = rule_E l m
  agreement (QR at k) ρ l m vars loops holds = rule_R w k l m loops
  agreement (QV at v) ρ l m vars loops holds = rule_V m ρ vars holds v
  agreement (QS at a b) ρ l m vars loops holds =
      agree_bind (agreement a ρ l m vars loops holds)
      (λ i xs. attempt (eval w (ρ i) b) (λ ys. gives (xs ++ ys)))
      (λ x. attempt (sem w b l vars) (λ y. gives (sem_s x y)))
      (λ t s out rep. agree_bind (agreement b ρ l m vars loops holds) (λ i ys. gives (s i ++ ys))
      (λ y. gives (sem_s t y))
      (λ u r out' rep'. rule_S m t u s r out out' rep rep'))
  agreement (QT at v a b) ρ l m vars loops holds =
      agree_bind (agreement a ρ l m vars loops holds) (λ i xs. eval w (bind v xs (ρ i)) b)
      (λ x. sem w b l (holding v x vars))
      (λ t s out rep. agreement b (λ i. bind v (s i) (ρ i)) l m (holding v t vars) loops
      (holds_bind m ρ vars holds v t s out rep))
  agreement (QF at v a b) ρ l m vars loops holds =
      agree_bind (agreement a ρ l m vars loops holds)
      (λ i xs. each (λ x. eval w (bind v (x ∷ []) (ρ i)) b) xs) (λ x. sem_f v (sem w b) x vars)
      (λ t s out rep. rule_F (λ env. eval w env b) m t s out rep v ρ (sem w b) (λ ρ'. agreement b ρ') vars holds)
  agreement (QI at c a b) ρ l m vars loops holds =
      agree_bind (agreement c ρ l m vars loops holds)
      (λ i xs. attempt (w.truth xs) (λ t. cond t (eval w (ρ i) a) (eval w (ρ i) b)))
      (λ x. sem_i w (sem w a) (sem w b) l vars x)
      (λ t s out rep. rule_I w lawful m t s out rep ρ (λ i. eval w (ρ i) a) (λ i. eval w (ρ i) b) (sem w a) (sem w b)
      (agreement a ρ) (agreement b ρ) l vars loops holds)
  agreement (QO at f a b) ρ l m vars loops holds =
      agree_bind (agreement a ρ l m vars loops holds)
      (λ i xs. attempt (eval w (ρ i) b) (λ ys. apply w f xs ys)) (λ x. attempt (sem w b l vars) (λ y. sem_o w f x y))
      (λ t s out rep. agree_bind (agreement b ρ l m vars loops holds) (λ i ys. apply w f (s i) ys) (λ y. sem_o w f t y)
      (λ u r out' rep'. rule_O w f m t u s r out out' rep rep'))
  agreement (QC at a) ρ l m vars loops holds =
      agree_bind (agreement a ρ l m vars loops holds) (λ i xs. gives (pos (length xs) ∷ [])) (λ x. gives (sem_c l x))
      (λ t s out rep. rule_C l m loops t s out rep)
  agreement (QD at a) ρ l m vars loops holds =
      agree_bind (agreement a ρ l m vars loops holds) (λ i xs. values w xs) (λ x. sem_d w x)
      (λ t s out rep. rule_D w m t s out rep)
  agreement (QX at axis test a) ρ l m vars loops holds =
      agree_bind (agreement a ρ l m vars loops holds) (λ i xs. w.step axis test xs) (λ x. sem_x w axis test x)
      (λ t s out rep. rule_X w axis test lawful m t s out rep)
