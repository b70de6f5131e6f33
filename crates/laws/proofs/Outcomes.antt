-- Laws of the three kinds of outcome.
--     given-.., found-..     the same through each function on outcomes
--     attempt_gives      an attempt that then gives what it is given
use Prim.Native.Nat.{ℕ}
use mathlib.Core.Path.{◌≡◌, refl, subst}
use mathlib.Core.Bool.{Bool, true, false, cond}
use native.Mathlib.Omega.{arith}
use Rattle.laws.specs.Attempt.{Attempt, fails, gives, attempt, provided, Given, Found}
use Rattle.laws.specs.Attempt.{Reading, refuses, reads, reading, unless, refusing, Work, full, failed, done}

-- No outcome is of two kinds, and equal outcomes hold equal results

module _ {A : Type 0} where
  pub fails_gives : (x : A) → fails ≡ gives x → ⊥
  fails_gives x e = let z : ◌≡◌ {A = ℕ} 0 1 = cc in omega arith

  pub gives_same : {x y : A} → gives x ≡ gives y → x ≡ y
  gives_same e = cc

  pub refuses_reads : (n p : ℕ) (x : A) → refuses n p ≡ reads x → ⊥
  refuses_reads n p x e = let z : ◌≡◌ {A = ℕ} 0 1 = cc in omega arith

  pub reads_same : {x y : A} → reads x ≡ reads y → x ≡ y
  reads_same e = cc

  pub full_done : (p : ℕ) (x : A) → full p ≡ done x → ⊥
  full_done p x e = let z : ◌≡◌ {A = ℕ} 0 1 = cc in omega arith

  pub full_failed : (p q : ℕ) → ◌≡◌ {A = Work A} (full p) (failed q) → ⊥
  full_failed p q e = let z : ◌≡◌ {A = ℕ} 0 1 = cc in omega arith

  pub failed_done : (p : ℕ) (x : A) → failed p ≡ done x → ⊥
  failed_done p x e = let z : ◌≡◌ {A = ℕ} 0 1 = cc in omega arith

  pub attempt_gives : (a : Attempt A) → attempt a gives ≡ a
  unfolding attempt
  attempt_gives fails = refl
  attempt_gives (gives x) = refl

-- What an attempt gives

module _ {A : Type 0} {P : A → Type 0} where
  pub given_fails : Given P fails
  given_fails = record { given = λ x e. absurd (fails_gives x e) }

  pub given_gives : {x : A} → P x → Given P (gives x)
  given_gives h = record { given = λ y e. subst P (gives_same e) h }

  pub given_cond : {a b : Attempt A} (t : Bool) → Given P a → Given P b → Given P (cond t a b)
  given_cond true h k = h
  given_cond false h k = k

  pub given_provided : {a : Attempt A} (t : Bool) → (t ≡ true → Given P a) → Given P (provided t a)
  unfolding provided
  given_provided true h = h refl
  given_provided false h = given_fails

module _ {A B : Type 0} {Q : B → Type 0} where
  pub given_attempt :
      {P : A → Type 0} {a : Attempt A} {f : A → Attempt B}
      → Given P a → ((x : A) → P x → Given Q (f x)) → Given Q (attempt a f)
  unfolding attempt
  given_attempt {a = fails} h k = given_fails
  given_attempt {a = gives x} h k = k x (h.given x refl)

  -- .. with nothing known of what is given first
  pub given_any : {f : A → Attempt B} (a : Attempt A) → ((x : A) → Given Q (f x)) → Given Q (attempt a f)
  unfolding attempt
  given_any fails k = given_fails
  given_any (gives x) k = k x

-- What a reading reads

module _ {A : Type 0} {P : A → Type 0} where
  pub found_refuses : {n p : ℕ} → Found P (refuses n p)
  found_refuses {n = n} {p = p} = record { found = λ x e. absurd (refuses_reads n p x e) }

  pub found_reads : {x : A} → P x → Found P (reads x)
  found_reads h = record { found = λ y e. subst P (reads_same e) h }

  pub found_unless : {m : Reading A} (t : Bool) (n p : ℕ) → (t ≡ true → Found P m) → Found P (unless t n p m)
  unfolding unless
  found_unless true n p h = h refl
  found_unless false n p h = found_refuses

  pub found_refusing : {a : Attempt A} (n p : ℕ) → Given P a → Found P (refusing n p a)
  unfolding refusing
  found_refusing {a = fails} n p h = found_refuses
  found_refusing {a = gives x} n p h = found_reads (h.given x refl)

module _ {A B : Type 0} {Q : B → Type 0} where
  pub found_reading :
      {P : A → Type 0} {m : Reading A} {f : A → Reading B}
      → Found P m → ((x : A) → P x → Found Q (f x)) → Found Q (reading m f)
  unfolding reading
  found_reading {m = refuses n p} h k = found_refuses
  found_reading {m = reads x} h k = k x (h.found x refl)
