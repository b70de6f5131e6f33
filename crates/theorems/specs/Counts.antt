-- Work in room has one outcome and one count: 6 exactly where the count passes the room (document 01, 'Room').
--     Ended cost sound k o      outcome o is no answer 6; if it is done, it costs k and is sound
--     Full m                    work m answers 6, at some place
--     Measured c cost sound f   at every room from c on, work f has one outcome and needs one count, and is 6 below it
--     Covered s                 a standing has at most as many items as its count
use Rattle.std.specs.Prelude.{ℕ, ◌≤◌, ◌<◌, ◌≡◌, length}
use Rattle.laws.specs.Attempt.{Work, full, failed, done}
use Rattle.meaning.specs.Counted.{Standing}

abbrev pub Ended : {A : Type 0} → (A → ℕ) → (A → Type 0) → ℕ → Work A → Type 0
Ended cost sound k (full p) = ⊥
Ended cost sound k (failed p) = Unit {0}
Ended cost sound k (done a) = (k ≡ cost a) × sound a

-- answer 6, at some place
abbrev pub Full : {A : Type 0} → Work A → Type 0
Full m = (p : ℕ) × (m ≡ full p)

pub record Measured {A : Type 0} (c : ℕ) (cost : A → ℕ) (sound : A → Type 0) (f : ℕ → Work A) : Type 0 where
  pub need : ℕ
  pub outcome : Work A
  pub above : c ≤ need
  pub ended : Ended cost sound need outcome
  pub enough : (room : ℕ) → need ≤ room → f room ≡ outcome
  pub short : (room : ℕ) → c ≤ room → room < need → Full (f room)

abbrev pub Covered : Standing → Type 0
Covered s = length s.items ≤ s.count
