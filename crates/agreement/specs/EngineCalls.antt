-- How the calls of both engines end: a refusal as it was met, 6 or 7 at the record at work, or what is done.
--     ended f lent m          how work m ends, where f says what is left when it is done
--     evaluated, ran          .. what the evaluator and the runner leave when they are done
--     Plain f                 what is done is no refusal
--     Settled m               work m that does not answer 6: it fails, or it is done
use Rattle.std.specs.Prelude.{ℕ, ◌-◌, ◌*◌, ◌≡◌, List, [], ◌∷◌, ℤ, pos, length}
use Rattle.laws.specs.Lists.{gather}
use Rattle.laws.specs.Rows.{padded, flat}
use Rattle.laws.specs.Attempt.{Reading, refuses, reads, Work, full, failed, done}
use Rattle.meaning.specs.Counted.{Standing}
use Rattle.meaning.specs.Run.{Filled}
use Rattle.meaning.specs.Calls.{gives, Outcome, refusal, last_table}

unfoldable pub ended : {A : Type 0} → (A → Outcome ℤ) → ℕ → Reading (Work A) → Outcome ℤ
ended f lent (refuses n p) = refusal (pos 0) lent n p
ended f lent (reads (full p)) = refusal (pos 0) lent 6 p
ended f lent (reads (failed p)) = refusal (pos 0) lent 7 p
ended f lent (reads (done x)) = f x

unfoldable pub evaluated : ℕ → Standing → Outcome ℤ
evaluated lent s =
    record { answer = gives (length s.items ∷ s.count ∷ []); left = padded (pos 0) lent s.items }

unfoldable pub ran : ℕ → Filled → Outcome ℤ
ran lent f =
    let rows = length (last_table f.tables) in
    record {
      answer = gives ((f.filled - rows * 3) ∷ rows ∷ f.filled ∷ []);
      left = padded (pos 0) lent (gather flat f.tables);
    }

-- what is done is no refusal
abbrev pub Plain : {A : Type 0} → (A → Outcome ℤ) → Type 0
Plain {A} f = (x : A) → (ns : List ℕ) × ((f x).answer ≡ gives ns)

-- work that does not answer 6
pub data Settled {A : Type 0} (m : Work A) : Type 0 where
  failing : (p : ℕ) → m ≡ failed p → Settled m
  finished : (x : A) → m ≡ done x → Settled m
