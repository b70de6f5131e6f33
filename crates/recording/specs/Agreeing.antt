-- How the query check reads bytes that are alike up to 1,024 and all there up to it (document 01, 'Query records').
--     Alike bs cs        two lists of 1,024 bytes or more, the first 1,024 of them alike
--     Begun n at         n records of six bytes at most, 128 at most, reach as far as `at`
--     Near r             what was read ends where its records can reach
--     Agree P a b        two readings are the same, and what they read is P
--     Refused a b        two readings refuse with the same number and place
use Rattle.std.specs.Prelude.{ℕ, ◌*◌, ◌≤◌, ◌≡◌, List, length, take}
use Rattle.codes.specs.Limits.{most_records}
use Rattle.laws.specs.Attempt.{Reading, refuses, Found}
use Rattle.meaning.specs.Query.{Read}
use Rattle.recording.specs.Recorded.{most_bytes}

pub record Alike (bs cs : List ℕ) : Type 0 where
  pub long : most_bytes ≤ length bs
  pub other : most_bytes ≤ length cs
  pub front : take most_bytes bs ≡ take most_bytes cs

pub record Begun (n at : ℕ) : Type 0 where
  pub few : n ≤ most_records
  pub near : at ≤ n * 6

abbrev pub Near : Read → Type 0
Near r = Begun r.records r.next

pub record Agree {A : Type 0} (P : A → Type 0) (a b : Reading A) : Type 0 where
  pub same : a ≡ b
  pub found : Found P a

pub record Refused {A : Type 0} (a b : Reading A) : Type 0 where
  pub number : ℕ
  pub place : ℕ
  pub here : a ≡ refuses number place
  pub there : b ≡ refuses number place
