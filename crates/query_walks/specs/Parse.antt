-- The tree at an offset, without the limits that only the query check knows (document 01, 'Query records'):
-- evaluator and translator read accepted queries, and see neither refusal 2 nor refusal 3.
--     Parsed            a tree and the offset after it, or failing
--     lone f a          a tree over one operand, and the offset after it
--     pair f a b        a tree over two operands, the second read from where the first ends
--     triple f c a b    a tree over three operands
--     trees rd at next r    the tree of a record at an offset; its operands are read by rd from next on
--     parse d bs at     the tree at an offset and the offset after it, at most d levels deep; fails at a bad record
--     Past p e          where p gives a tree, it ends at e
--     Free p fs         where p gives a tree, fs are the flags of its free variables
--     Either fs gs hs   hs are the flags that are set in fs or gs
use Rattle.std.specs.Prelude.{ℕ, zero, suc, ◌<◌, ◌≡◌, Bool, false, ◌||◌, List, get_or}
use Rattle.cells.specs.Bytes.{word}
use Rattle.laws.specs.Attempt.{Attempt, fails, gives, attempt}
use Rattle.meaning.specs.Query.{Query, QL, QE, QR, QV, QS, QT, QF, QI, QO, QC, QD, QX, Record, literal, empty, root}
use Rattle.meaning.specs.Query.{variable, sequence, letting, for, choice, function, counting, values, step, record_of}
use Rattle.meaning.specs.Query.{free}

abbrev pub Parsed : Type 0
Parsed = Attempt (Query × ℕ)

unfoldable pub lone : (Query → Query) → Parsed → Parsed
lone f a = attempt a (λ x. gives (f x.0, x.1))

unfoldable pub pair : (Query → Query → Query) → Parsed → (ℕ → Parsed) → Parsed
pair f a b = attempt a (λ x. lone (f x.0) (b x.1))

unfoldable pub triple : (Query → Query → Query → Query) → Parsed → (ℕ → Parsed) → (ℕ → Parsed) → Parsed
triple f c a b = attempt c (λ x. pair (f x.0) (a x.1) b)

unfoldable pub trees : (ℕ → Parsed) → ℕ → ℕ → Record → Parsed
trees rd at next (literal z) = gives (QL at z, next)
trees rd at next empty = gives (QE at, next)
trees rd at next (root k) = gives (QR at k, next)
trees rd at next (variable v) = gives (QV at v, next)
trees rd at next sequence = pair (QS at) (rd next) rd
trees rd at next (letting v) = pair (QT at v) (rd next) rd
trees rd at next (for v) = pair (QF at v) (rd next) rd
trees rd at next choice = triple (QI at) (rd next) rd rd
trees rd at next (function f) = pair (QO at f) (rd next) rd
trees rd at next counting = lone (QC at) (rd next)
trees rd at next values = lone (QD at) (rd next)
trees rd at next (step x t) = lone (QX at x t) (rd next)

unfoldable pub parse : (depth : ℕ) → List ℕ → (at : ℕ) → Parsed
parse zero bs at = fails
parse (suc d) bs at = attempt (record_of bs at (word bs at 2)) (λ r. trees (parse d bs) at r.1 r.0)

abbrev pub Past : Parsed → ℕ → Type 0
Past p e = (x : Query × ℕ) → p ≡ gives x → e ≡ x.1

abbrev pub Free : Parsed → List Bool → Type 0
Free p fs = (x : Query × ℕ) → p ≡ gives x → (v : ℕ) → v < 8 → get_or fs v false ≡ free v x.0

abbrev pub Either : List Bool → List Bool → List Bool → Type 0
Either fs gs hs = (v : ℕ) → v < 8 → get_or hs v false ≡ get_or fs v false || get_or gs v false
