-- The three kinds of outcome that the definitions have, each with its `do`.
--     Attempt A      fails, or gives an A               what a query means, what an operator makes
--     Reading A      refuses number place, or reads an A    reading records from left to right
--     Work A         full place, failed place, or done an A     work in lent room: refusals 6 and 7 at the record at
--                    work
--     tried o                what an option holds, or failing
--     attempt, reading, work     what comes next, on the result; else the same outcome
--     provided, unless, within   go on where a test holds; else fail, refuse, or lack room
--     refusing, trying           an attempt that refuses where it fails; an attempt of the record at a place
--     Given P a      what attempt a gives, if it gives, is P
--     Found P m      what reading m reads, if it reads, is P
--     each f xs      f of every member of xs in order, all results one after another; the first that fails ends it
use Rattle.std.specs.Prelude.{ℕ, ◌≡◌, Bool, true, false, List, [], ◌∷◌, ◌++◌, Option, Some, None}

pub data Attempt (A : Type 0) : Type 0 where
  fails : Attempt A
  gives : A → Attempt A

pub data Reading (A : Type 0) : Type 0 where
  refuses : (number place : ℕ) → Reading A
  reads : A → Reading A

pub data Work (A : Type 0) : Type 0 where
  full : (place : ℕ) → Work A
  failed : (place : ℕ) → Work A
  done : A → Work A

abbrev pub tried : {A : Type 0} → Option A → Attempt A
tried (Some a) = gives a
tried None = fails

unfoldable pub attempt : {A B : Type 0} → Attempt A → (A → Attempt B) → Attempt B
attempt fails f = fails
attempt (gives a) f = f a

unfoldable pub reading : {A B : Type 0} → Reading A → (A → Reading B) → Reading B
reading (refuses n p) f = refuses n p
reading (reads a) f = f a

unfoldable pub work : {A B : Type 0} → Work A → (A → Work B) → Work B
work (full p) f = full p
work (failed p) f = failed p
work (done a) f = f a

-- go on where the test holds, else fail, or refuse
unfoldable pub provided : {A : Type 0} → Bool → Attempt A → Attempt A
provided true a = a
provided false a = fails

unfoldable pub unless : {A : Type 0} → Bool → (number place : ℕ) → Reading A → Reading A
unless true n p r = r
unless false n p r = refuses n p

-- an attempt that refuses where it fails
unfoldable pub refusing : {A : Type 0} → (number place : ℕ) → Attempt A → Reading A
refusing n p fails = refuses n p
refusing n p (gives a) = reads a

-- an attempt of the record at a place
unfoldable pub trying : {A B : Type 0} → ℕ → Attempt A → (A → Work B) → Work B
trying at fails f = failed at
trying at (gives a) f = f a

-- go on where the room suffices
unfoldable pub within : {A : Type 0} → Bool → (place : ℕ) → Work A → Work A
within true p w = w
within false p w = full p

unfoldable pub each : {A B : Type 0} → (A → Attempt (List B)) → List A → Attempt (List B)
each f [] = gives []
each f (x ∷ xs) = attempt (f x) (λ ys. attempt (each f xs) (λ zs. gives (ys ++ zs)))

pub record Given {A : Type 0} (P : A → Type 0) (a : Attempt A) : Type 0 where
  pub given : (x : A) → a ≡ gives x → P x

pub record Found {A : Type 0} (P : A → Type 0) (m : Reading A) : Type 0 where
  pub found : (x : A) → m ≡ reads x → P x
