-- How work in room and an attempt compare (document 01, 'Room').
--     Like how m a           work m that does not answer 6 ends as attempt a does: both fail, or one result by how
--     items, count           what stands at the end of an evaluation: its items, and its count
--     tables, filled         what a run leaves: its tables, and the cells that they fill
--     operators ps           the operators of a plan that was read
--     Gives c cost how f y   work f comes to y: done from its cost on, 6 below it
--     Fails c f              work f fails at one place from one count on, 6 below it
use Rattle.std.specs.Prelude.{ℕ, ◌-◌, ◌≤◌, ◌<◌, ◌≡◌, List, map, ℤ}
use Rattle.laws.specs.Attempt.{Attempt, fails, gives, Work, full, failed, done}
use Rattle.meaning.specs.Counted.{Standing}
use Rattle.meaning.specs.Plan.{Op, Placed}
use Rattle.meaning.specs.Operators.{Table}
use Rattle.meaning.specs.Run.{Filled}
use Rattle.theorems.specs.Counts.{Full}

pub data Like {A B : Type 0} (how : A → B) : Work A → Attempt B → Type 0 where
  like_full : {p : ℕ} {a : Attempt B} → Like how (full p) a
  like_failed : {p : ℕ} → Like how (failed p) fails
  like_done : {x : A} {y : B} → how x ≡ y → Like how (done x) (gives y)

abbrev pub items : Standing → List ℤ
items s = s.items

abbrev pub count : Standing → ℕ
count s = s.count

abbrev pub tables : Filled → List Table
tables f = f.tables

abbrev pub filled : Filled → ℕ
filled f = f.filled

abbrev pub operators : List Placed → List Op
operators ps = map (λ (p : Placed). p.op) ps

pub record Gives {A B : Type 0} (c : ℕ) (cost : A → ℕ) (how : A → B) (f : ℕ → Work A) (y : B) : Type 0 where
  pub result : A
  pub given : how result ≡ y
  pub enough : (room : ℕ) → cost result ≤ room → f room ≡ done result
  pub short : (room : ℕ) → c ≤ room → room < cost result → Full (f room)

pub record Fails {A : Type 0} (c : ℕ) (f : ℕ → Work A) : Type 0 where
  pub need : ℕ
  pub place : ℕ
  pub enough : (room : ℕ) → need ≤ room → f room ≡ failed place
  pub short : (room : ℕ) → c ≤ room → room < need → Full (f room)
