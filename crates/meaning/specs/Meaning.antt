-- What a query means (document 01, 'Query records'), with nothing about room: the page to teach from.
--     Env                 what each variable holds
--     bind v xs e         the same, with xs in variable v: an inner binding hides an outer one
--     apply w f xs ys     a function of two worked-out sides
--     values w xs         each item's value, in order
--     eval w e q          the items of a query, or that it fails
use Rattle.std.specs.Prelude.{ℕ, ◌+◌, List, [], ◌∷◌, ◌++◌, Bool, true, false, cond, eqb, ℤ, pos, length}
use Rattle.laws.specs.Attempt.{Attempt, fails, gives, attempt, each}
use Rattle.codes.specs.declared.Function.{Function}
use Rattle.meaning.specs.World.{World}
use Rattle.meaning.specs.Query.{Query, QL, QE, QR, QV, QS, QT, QF, QI, QO, QC, QD, QX}

abbrev pub Env : Type 0
Env = ℕ → List ℤ

unfoldable pub bind : ℕ → List ℤ → Env → Env
bind v xs e u = cond (eqb u v) xs (e u)

-- a side with two or more items fails; then an empty side gives the empty sequence; then the function's own refusals
unfoldable pub apply : World → Function → List ℤ → List ℤ → Attempt (List ℤ)
apply w f [] [] = gives []
apply w f [] (y ∷ []) = gives []
apply w f [] (y ∷ z ∷ ys) = fails
apply w f (x ∷ []) [] = gives []
apply w f (x ∷ []) (y ∷ []) = attempt (w.arith f x y) (λ z. gives (z ∷ []))
apply w f (x ∷ []) (y ∷ z ∷ ys) = fails
apply w f (x ∷ u ∷ xs) ys = fails

-- each item's value, in order
unfoldable pub values : World → List ℤ → Attempt (List ℤ)
values w xs = each (λ x. attempt (w.value x) (λ y. gives (y ∷ []))) xs

unfoldable pub eval : World → Env → Query → Attempt (List ℤ)
eval w e (QL at z) = gives (z ∷ [])
eval w e (QE at) = gives []
eval w e (QR at k) = attempt (w.root k) (λ r. gives (r ∷ []))
eval w e (QV at v) = gives (e v)
eval w e (QS at a b) = attempt (eval w e a) (λ xs. attempt (eval w e b) (λ ys. gives (xs ++ ys)))
eval w e (QT at v a b) = attempt (eval w e a) (λ xs. eval w (bind v xs e) b)
eval w e (QF at v a b) = attempt (eval w e a) (λ xs. each (λ x. eval w (bind v (x ∷ []) e) b) xs)
eval w e (QI at c a b) =
    attempt (eval w e c) (λ xs. attempt (w.truth xs) (λ t. cond t (eval w e a) (eval w e b)))
eval w e (QO at f a b) = attempt (eval w e a) (λ xs. attempt (eval w e b) (λ ys. apply w f xs ys))
eval w e (QC at a) = attempt (eval w e a) (λ xs. gives (pos (length xs) ∷ []))
eval w e (QD at a) = attempt (eval w e a) (λ xs. values w xs)
eval w e (QX at x t a) = attempt (eval w e a) (λ xs. w.step x t xs)
