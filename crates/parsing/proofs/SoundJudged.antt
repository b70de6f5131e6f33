-- What a reader's answer is worth, for both theorems at once: what it read is in the language, and where it is stuck a
-- text of the language begins so.
--     Judged F t r     F s u a: bytes s are read as a, with u left. An answer passes with what it read from t in F; it
--                      halts where some x completes what it read to a text of F
--     complete         at the end of a text every answer is completed
--     shift, mapped    the text before what was read; a wider language
--     then_judged, either_judged, byte_judged, ..     what readers are made of; byte_or: no such byte in the other case
--     inhabited        a refusal, where the language has a text
use Prim.Native.Nat.{ℕ}
use mathlib.Core.Path.{◌≡◌, refl, sym, ap, ◌∙◌, subst}
use mathlib.Core.List.{List, [], ◌∷◌, ◌++◌, append_assoc}
use mathlib.Core.Bool.{Bool, true, false}
use lib.Dec.{eqb}
use borrow.Author.Tests.{eqb-true}
use Rattle.laws.proofs.Filters.{no_cons}
use Rattle.laws.specs.Characters.{first}
use Rattle.parsing.specs.Reader.{Res, ok, stuck, Reader, then, rest, either, look, past, byte, allowed}

pub data Judged {A : Type 0} (F : List ℕ → List ℕ → A → Type 0) (t : List ℕ) : Res A → Type 0 where
  passes : {a : A} {u : List ℕ} (s : List ℕ) → t ≡ s ++ u → F s u a → Judged F t (ok a u)
  halts : {u : List ℕ} (s x : List ℕ) (a : A) → t ≡ s ++ u → F (s ++ x) [] a → Judged F t (stuck u)

none_left : (s u : List ℕ) → [] ≡ s ++ u → u ≡ []
none_left [] u e = sym e
none_left (b ∷ s) u e = no_cons e

module _ {A : Type 0} {F : List ℕ → List ℕ → A → Type 0} where
  pub complete : {r : Res A} → Judged F [] r → (x : List ℕ) × (a : A) × F x [] a
  complete (passes {a = a} {u = u} s cut h) = (s, a, subst (λ v. F s v a) (none_left s u cut) h)
  complete (halts s x a cut h) = (s ++ x, a, h)

  pub shift : {t u : List ℕ} {r : Res A} (s : List ℕ) → t ≡ s ++ u → Judged (λ s' v a. F (s ++ s') v a) u r
      → Judged F t r
  shift s cut (passes {u = v} s' cut' h) = passes (s ++ s') (cut ∙ ap (λ x. s ++ x) cut' ∙ sym (append_assoc s s' v)) h
  shift s cut (halts {u = v} s' x a cut' h) =
      halts (s ++ s') x a (cut ∙ ap (λ x. s ++ x) cut' ∙ sym (append_assoc s s' v))
      (subst (λ y. F y [] a) (sym (append_assoc s s' x)) h)

  pub mapped : {H : List ℕ → List ℕ → A → Type 0} {t : List ℕ} {r : Res A}
      → ((s u : List ℕ) (a : A) → F s u a → H s u a) → Judged F t r → Judged H t r
  mapped f (passes {a = a} {u = u} s cut h) = passes s cut (f s u a h)
  mapped f (halts s x a cut h) = halts s x a cut (f (s ++ x) [] a h)

  pub inhabited : {t : List ℕ} (x : List ℕ) (a : A) → F x [] a → Judged F t (stuck t)
  inhabited x a h = halts [] x a refl h

  pub given : {t : List ℕ} (a : A) → F [] t a → Judged F t (ok a t)
  given a h = passes [] refl h

  pub either_judged : {m n : Reader A} (b : Bool) → (b ≡ true → (t : List ℕ) → Judged F t (m t))
      → (b ≡ false → (t : List ℕ) → Judged F t (n t)) → (t : List ℕ) → Judged F t (either b m n t)
  either_judged true f g t = f refl t
  either_judged false f g t = g refl t

  pub look_at : (is : ℕ → Bool) (m n : Reader A) (t : List ℕ) → (is (first t) ≡ true → Judged F t (m t))
      → (is (first t) ≡ false → Judged F t (n t)) → Judged F t (look is m n t)
  look_at is m n t f g = go (is (first t)) refl
    where
      go : (b : Bool) → is (first t) ≡ b → Judged F t (either b m n t)
      go true e = f e
      go false e = g e

  pub look_judged : {m n : Reader A} (is : ℕ → Bool) → ((t : List ℕ) → is (first t) ≡ true → Judged F t (m t))
      → ((t : List ℕ) → is (first t) ≡ false → Judged F t (n t)) → (t : List ℕ) → Judged F t (look is m n t)
  look_judged {m} {n} is f g t = look_at is m n t (f t) (g t)

  pub byte_or : {m n : Reader A} (c : ℕ) → eqb 256 c ≡ false
      → ((u : List ℕ) → Judged (λ s v a. F (c ∷ s) v a) u (m u))
      → ((t : List ℕ) → eqb (first t) c ≡ false → Judged F t (n t)) → (t : List ℕ) → Judged F t (byte c m n t)
  unfolding first rest
  byte_or {m} {n} c small f g [] = rw small (g [] small)
  byte_or {m} {n} c small f g (b ∷ t) = go (eqb b c) refl
    where
      go : (p : Bool) → eqb b c ≡ p → Judged F (b ∷ t) (either p (past m) n (b ∷ t))
      go true e = shift (c ∷ []) (ap (λ x. x ∷ t) (eqb-true b c e)) (f t)
      go false e = g (b ∷ t) e

  pub byte_judged : {m n : Reader A} (c : ℕ) → eqb 256 c ≡ false
      → ((u : List ℕ) → Judged (λ s v a. F (c ∷ s) v a) u (m u)) → ((t : List ℕ) → Judged F t (n t))
      → (t : List ℕ) → Judged F t (byte c m n t)
  byte_judged c small f g = byte_or c small f (λ t e. g t)

  pub allowed_judged : {m n : Reader A} (b : Bool) (c : ℕ) → eqb 256 c ≡ false
      → (b ≡ true → (u : List ℕ) → Judged (λ s v a. F (c ∷ s) v a) u (m u)) → ((t : List ℕ) → Judged F t (n t))
      → (t : List ℕ) → Judged F t (allowed b c m n t)
  allowed_judged true c small f g t = byte_judged c small (f refl) g t
  allowed_judged false c small f g t = g t

pub then_judged : {A B : Type 0} {F : List ℕ → List ℕ → A → Type 0} {H : List ℕ → List ℕ → B → Type 0} {t : List ℕ}
    {r : Res A} {f : A → Reader B} → Judged F t r
    → ((a : A) (s u : List ℕ) → F s u a → Judged (λ s' v b. H (s ++ s') v b) u (f a u)) → Judged H t (then r f)
then_judged (passes {a = a} {u = u} s cut h) next = shift s cut (next a s u h)
then_judged {H = H} (halts s x a cut h) next =
    let (y, b, done) = complete (next a (s ++ x) [] h) in
    halts s (x ++ y) b cut (subst (λ z. H z [] b) (append_assoc s x y) done)
