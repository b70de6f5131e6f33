-- The theorems on typed queries (document 02, L1), over the grammar alone.
--     facts             the reader reads every text of the grammar, nothing else, and is stuck only behind a beginning
--     only_reading      a text is read as one list of records at most
--     nine_exactly      a text is in the grammar, or outside it at some place
--     never_both        .. never both
--     one_place         .. and at one place alone
--     one_outcome       two outcomes that the call allows are equal
--     never_one         the records of a text are never refused by 1
--     typed_read, read_typed, refused_outside     what the reader answers, by the grammar
use Prim.Native.Nat.{ℕ}
use mathlib.Core.Path.{◌≡◌, sym, ap, ◌∙◌}
use mathlib.Core.Logic.{◌⊎◌}
use mathlib.Core.List.{List}
use lib.ListN.{length}
use Rattle.laws.specs.Attempt.{refuses, reads}
use Rattle.meaning.specs.Query.{query_read}
use Rattle.meaning.specs.Calls.{Outcome}
use Rattle.grammar.specs.Typed.{Typed, Outside, TypedCall}
use Rattle.parsing.specs.Reader.{read}
use Rattle.parsing.proofs.Exact.{Reads, outside, only_one, typed_or_outside, not_both, place_only, decided, nine}
use Rattle.parsing.proofs.Complete.{complete}
use Rattle.parsing.proofs.Sound.{sound}
use Rattle.parsing.proofs.Viable.{viable}
use Rattle.parsing.proofs.Wellformed.{well_formed}

pub facts : Reads
facts = record { complete = complete; viable = viable; sound = sound }

pub only_reading : (t bs bs' : List ℕ) → Typed t bs → Typed t bs' → bs ≡ bs'
only_reading = only_one facts

pub nine_exactly : (t : List ℕ) → ((bs : List ℕ) × Typed t bs) ⊎ ((p : ℕ) × Outside t p)
nine_exactly = typed_or_outside facts

pub never_both : (t bs : List ℕ) (p : ℕ) → Typed t bs → Outside t p → ⊥
never_both = not_both

pub one_place : (t : List ℕ) (p q : ℕ) → Outside t p → Outside t q → p ≡ q
one_place = place_only

pub one_outcome : (t : List ℕ) (lent : ℕ) (o o' : Outcome ℕ) → TypedCall t lent o → TypedCall t lent o' → o ≡ o'
one_outcome = decided facts

pub never_one : (t bs : List ℕ) (p : ℕ) → Typed t bs → query_read bs ≡ refuses 1 p → ⊥
never_one = well_formed

pub typed_read : (t bs : List ℕ) → Typed t bs → read t ≡ reads bs
typed_read = complete

pub read_typed : (t bs : List ℕ) → read t ≡ reads bs → Typed t bs
read_typed = sound

pub refused_outside : (t : List ℕ) (n p : ℕ) → read t ≡ refuses n p → Outside t p
refused_outside t n p e = outside facts t p (e ∙ ap (λ (k : ℕ). refuses k p) (nine t n p e))
