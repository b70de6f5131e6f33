-- The room that work takes, whatever is lent (document 01, 'Room'). Nothing is worked out after a failure, so nothing
-- more is counted.
--     after a n          what is counted once attempt a gives; nothing where it fails
--     turns ..           the turns of a `for`: `below` items stand, a's and the results so far
--     standing w e q     the evaluator's count: the most items standing at once
--     filling w ps ts    the runner's: the cells of the tables that ps make after tables ts, rows times width
use Rattle.std.specs.Prelude.{ℕ, ◌+◌, max, List, [], ◌∷◌, ◌++◌, cond, ℤ, length}
use Rattle.laws.specs.Attempt.{Attempt, fails, gives}
use Rattle.meaning.specs.World.{World}
use Rattle.meaning.specs.Query.{Query, QL, QE, QR, QV, QS, QT, QF, QI, QO, QC, QD, QX}
use Rattle.meaning.specs.Meaning.{Env, bind, eval}
use Rattle.meaning.specs.Plan.{Placed}
use Rattle.meaning.specs.Operators.{Table, make}
use Rattle.meaning.specs.Run.{cells}

unfoldable pub after : {A : Type 0} → Attempt A → (A → ℕ) → ℕ
after fails n = 0
after (gives a) n = n a

-- a's length plus results so far plus b's count
unfoldable pub turns : (ℤ → Attempt (List ℤ)) → (ℤ → ℕ) → ℕ → List ℤ → ℕ
turns items count below [] = 0
turns items count below (x ∷ xs) =
    max (below + count x) (after (items x) (λ ys. turns items count (below + length ys) xs))

unfoldable pub standing : World → Env → Query → ℕ
standing w e (QL at z) = 1
standing w e (QE at) = 0
standing w e (QR at k) = after (w.root k) (λ r. 1)
standing w e (QV at v) = length (e v)
standing w e (QS at a b) = max (standing w e a) (after (eval w e a) (λ xs. length xs + standing w e b))
standing w e (QT at v a b) =
    max (standing w e a) (after (eval w e a) (λ xs. length xs + standing w (bind v xs e) b))
standing w e (QF at v a b) =
    max (standing w e a)
    (after (eval w e a)
    (λ xs. turns (λ x. eval w (bind v (x ∷ []) e) b) (λ x. standing w (bind v (x ∷ []) e) b) (length xs) xs))
standing w e (QI at c a b) =
    max (standing w e c)
    (after (eval w e c) (λ xs. after (w.truth xs) (λ t. cond t (standing w e a) (standing w e b))))
standing w e (QO at f a b) = max (standing w e a) (after (eval w e a) (λ xs. length xs + standing w e b))
standing w e (QC at a) = max (standing w e a) (after (eval w e a) (λ xs. 1))
standing w e (QD at a) = standing w e a
standing w e (QX at x t a) =
    max (standing w e a) (after (eval w e a) (λ xs. after (w.step x t xs) (λ ys. length xs + length ys)))

unfoldable pub filling : World → List Placed → List Table → ℕ
filling w [] ts = 0
filling w (p ∷ ps) ts = after (make w p.op ts) (λ t. cells p t + filling w ps (ts ++ (t ∷ [])))
