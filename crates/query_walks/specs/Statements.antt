-- What the laws of this crate say.
--     Parses p r          p gives the tree and the offset of what was read
--     AcceptedBytes bs r   the bytes parse to r's tree, which is closed and has r's records, at most 128
--     More a b            what a gives, b gives
--     Spans rd next o q e     the operands o of a tree q, read by rd from next on, end at e; q's free variables
use Rattle.std.specs.Prelude.{ℕ, ◌≤◌, ◌≡◌, false, not, ◌&&◌, ◌||◌, List, [], eqb, length}
use Rattle.laws.specs.Attempt.{Attempt, gives}
use Rattle.meaning.specs.Query.{Query, Read, free}
use Rattle.theorems.specs.Closed.{Closed, records}
use Rattle.query_records.specs.declared.Operands.{Operands}
use Rattle.query_records.specs.declared.Operands.TheVariants.{None, Variable, One, Two, Binding, Three}
use Rattle.query_walks.specs.Parse.{Parsed, parse}

abbrev pub Parses : Parsed → Read → Type 0
Parses p r = p ≡ gives (r.tree, r.next)

pub record AcceptedBytes (bs : List ℕ) (r : Read) : Type 0 where
  pub parses : parse 32 bs 0 ≡ gives (r.tree, length bs)
  pub closed : Closed r.tree []
  pub counted : r.records ≡ records r.tree
  pub few : records r.tree ≤ 128

abbrev pub More : {A : Type 0} → Attempt A → Attempt A → Type 0
More {A} a b = (x : A) → a ≡ gives x → b ≡ gives x

unfoldable pub Spans : (ℕ → Parsed) → ℕ → Operands → Query → ℕ → Type 0
Spans rd next None q e = (next ≡ e) × ((v : ℕ) → free v q ≡ false)
Spans rd next (Variable u) q e = (next ≡ e) × ((v : ℕ) → free v q ≡ eqb v u)
Spans rd next One q e =
    (x : Query × ℕ) × (rd next ≡ gives x) × (x.1 ≡ e) × ((v : ℕ) → free v q ≡ free v x.0)
Spans rd next Two q e =
    (x : Query × ℕ) × (y : Query × ℕ) × (rd next ≡ gives x) × (rd x.1 ≡ gives y) × (y.1 ≡ e) ×
    ((v : ℕ) → free v q ≡ free v x.0 || free v y.0)
Spans rd next (Binding u) q e =
    (x : Query × ℕ) × (y : Query × ℕ) × (rd next ≡ gives x) × (rd x.1 ≡ gives y) × (y.1 ≡ e) ×
    ((v : ℕ) → free v q ≡ free v x.0 || (not (eqb v u) && free v y.0))
Spans rd next Three q e =
    (w : Query × ℕ) × (x : Query × ℕ) × (y : Query × ℕ) ×
    (rd next ≡ gives w) × (rd w.1 ≡ gives x) × (rd x.1 ≡ gives y) × (y.1 ≡ e) ×
    ((v : ℕ) → free v q ≡ free v w.0 || free v x.0 || free v y.0)
