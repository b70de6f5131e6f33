-- Record bytes as they are made, in an array of 1,024 bytes: what passes its end is lost (document 02, L1).
--     most_bytes                  the bytes of the array; a query of 128 records has 768 at most
--     Recorded xs bytes made     the array holds the first 1,024 bytes of xs: the first `made` of its own
--     Lent made bytes            an array of 1,024 bytes, of which `made` may be filled
--     Adds part made before after next
--                                whatever was recorded, now it is recorded with `part` behind it
--     Inserts part from made before after next
--                                .. with `part` put in where `from` of its bytes are recorded
use Rattle.std.specs.Prelude.{ℕ, ◌≤◌, min, ◌≡◌, List, ◌++◌, length, take}

abbrev pub most_bytes : ℕ
most_bytes = 1024

pub record Recorded (xs bytes : List ℕ) (made : ℕ) : Type 0 where
  pub long : length bytes ≡ most_bytes
  pub counts : made ≡ min (length xs) most_bytes
  pub holds : take made bytes ≡ take most_bytes xs

pub record Lent (made : ℕ) (bytes : List ℕ) : Type 0 where
  pub long : length bytes ≡ most_bytes
  pub within : made ≤ most_bytes

pub record Adds (part : List ℕ) (made : ℕ) (before after : List ℕ) (next : ℕ) : Type 0 where
  pub grows : made ≤ next
  pub within : next ≤ most_bytes
  pub adds : (xs : List ℕ) → Recorded xs before made → Recorded (xs ++ part) after next

pub record Inserts (part : List ℕ) (from made : ℕ) (before after : List ℕ) (next : ℕ) : Type 0 where
  pub grows : made ≤ next
  pub within : next ≤ most_bytes
  pub inserts :
      (xs ys : List ℕ) → from ≡ min (length xs) most_bytes → Recorded (xs ++ ys) before made →
      Recorded (xs ++ (part ++ ys)) after next
