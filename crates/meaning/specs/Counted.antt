-- The evaluation with its count and its places (document 01, 'Room'). The count is the most items standing at once.
--     Standing                items and the count of what stood while they were worked out
--     stand xs k              items xs with count k
--     adding room at n xs     items xs added where n stand, or refusal 6 at the record where that passes the room
--     loop ..                 the turns of a `for`, results so far in front
--     evaluate w room e q     the items and count of a query, or 6 or 7 at the record at work
-- The room passed down to an operand is what the items below it leave.
use Rattle.std.specs.Prelude.{ℕ, zero, suc, ◌+◌, ◌-◌, max, List, [], ◌∷◌, ◌++◌, Bool, true, false, cond, leb, ℤ, pos, length}
use Rattle.laws.specs.Attempt.{Work, full, failed, done, work, trying, within}
use Rattle.meaning.specs.World.{World}
use Rattle.meaning.specs.Query.{Query, QL, QE, QR, QV, QS, QT, QF, QI, QO, QC, QD, QX}
use Rattle.meaning.specs.Meaning.{Env, bind, apply, values}

pub record Standing : Type 0 where
  pub items : List ℤ
  pub count : ℕ

unfoldable pub stand : List ℤ → ℕ → Work Standing
stand xs k = done (record { items = xs; count = k })

-- the record that adds items answers 6 where what then stands would pass the room
unfoldable pub adding : ℕ → ℕ → ℕ → List ℤ → Work Standing
adding room at below xs = within (leb (below + length xs) room) at (stand xs (below + length xs))

-- for: a's count, or a's length plus results so far plus b's count. `body room x` is b's evaluation for item x
unfoldable pub loop : (ℕ → ℤ → Work Standing) → ℕ → ℕ → ℕ → List ℤ → List ℤ → Work Standing
loop body room base count results [] = stand results count
loop body room base count results (x ∷ xs) =
    work (body (room - (base + length results)) x)
    (λ s. loop body room base (max count (base + length results + s.count)) (results ++ s.items) xs)

unfoldable pub evaluate : World → ℕ → Env → Query → Work Standing
evaluate w room e (QL at z) = adding room at 0 (z ∷ [])
evaluate w room e (QE at) = stand [] 0
evaluate w room e (QR at k) = trying at (w.root k) (λ r. adding room at 0 (r ∷ []))
evaluate w room e (QV at v) = adding room at 0 (e v)
evaluate w room e (QS at a b) =
    work (evaluate w room e a)
    (λ s. work (evaluate w (room - length s.items) e b)
    (λ t. stand (s.items ++ t.items) (max s.count (length s.items + t.count))))
evaluate w room e (QT at v a b) =
    work (evaluate w room e a)
    (λ s. work (evaluate w (room - length s.items) (bind v s.items e) b)
    (λ t. stand t.items (max s.count (length s.items + t.count))))
evaluate w room e (QF at v a b) =
    work (evaluate w room e a)
    (λ s. loop (λ left x. evaluate w left (bind v (x ∷ []) e) b) room (length s.items) s.count [] s.items)
evaluate w room e (QI at c a b) =
    work (evaluate w room e c)
    (λ s. trying at (w.truth s.items)
    (λ t. work (cond t (evaluate w room e a) (evaluate w room e b))
    (λ u. stand u.items (max s.count u.count))))
evaluate w room e (QO at f a b) =
    work (evaluate w room e a)
    (λ s. work (evaluate w (room - length s.items) e b)
    (λ t. trying at (apply w f s.items t.items)
    (λ xs. stand xs (max s.count (length s.items + t.count)))))
evaluate w room e (QC at a) =
    work (evaluate w room e a)
    (λ s. work (adding room at 0 (pos (length s.items) ∷ [])) (λ t. stand t.items (max s.count t.count)))
evaluate w room e (QD at a) =
    work (evaluate w room e a) (λ s. trying at (values w s.items) (λ xs. stand xs s.count))
evaluate w room e (QX at x t a) =
    work (evaluate w room e a)
    (λ s. trying at (w.step x t s.items)
    (λ xs. work (adding room at (length s.items) xs) (λ u. stand u.items (max s.count u.count))))
