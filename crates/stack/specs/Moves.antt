-- What the records that ask nothing of the catalogue do with what their operands left (document 01, 'Query records',
-- 'Room'): clauses of `evaluate`, each as a function of its operands' outcomes.
--     raised k o          the same items, where at least k stood
--     pairing o f         two operands, the second worked out behind the items of the first; f its outcome
--     joined p            QS: a's items, then b's
--     kept p              QT: b's items
--     counted room at o   QC: the number of items
use Rattle.std.specs.Prelude.{ℕ, ◌+◌, max, [], ◌∷◌, ◌++◌, pos, length}
use Rattle.laws.specs.Attempt.{Work, done, work}
use Rattle.meaning.specs.Counted.{Standing, stand, adding}
use Rattle.stack.specs.Stack.{Paired}

unfoldable pub raised : ℕ → Work Standing → Work Standing
raised k o = work o (λ t. stand t.items (max k t.count))

unfoldable pub pairing : Work Standing → (Standing → Work Standing) → Work Paired
pairing o f =
    work o
    (λ s. work (f s)
    (λ t. done (record { first = s.items; second = t.items; count = max s.count (length s.items + t.count) })))

unfoldable pub joined : Work Paired → Work Standing
joined p = work p (λ d. stand (d.first ++ d.second) d.count)

unfoldable pub kept : Work Paired → Work Standing
kept p = work p (λ d. stand d.second d.count)

unfoldable pub counted : ℕ → ℕ → Work Standing → Work Standing
counted room at o =
    work o (λ s. raised s.count (adding room at 0 (pos (length s.items) ∷ [])))
