-- Agreement carried along: through a last step that cannot fail, and through 'an operand, then the rest'.
--     agree_gives        a table that represents a family agrees with it
--     agree_to           the same results in the iterations of m agree with the same run
--     agree_bind         an operand that agrees, then a rest that agrees for what the operand gives
--     agree_each         a run over rows, each of which makes rows of its own iteration
--     loop_member        an iteration in the loop table is one of m
--     outside_member, outside_filled, outside_in     an iteration with items is one of m
use Prim.Native.Nat.{ℕ}
use mathlib.Core.Path.{◌≡◌, refl, sym, ap, ◌∙◌, subst}
use mathlib.Core.List.{List, [], ◌∷◌}
use mathlib.Core.Bool.{Bool, true, cond}
use lib.Dec.{eqb}
use lib.IntN.{ℤ}
use borrow.Author.Tests.{eq-eqb}
use Rattle.laws.specs.Lists.{gather, All, In}
use Rattle.laws.specs.Keyed.{within, filled}
use Rattle.laws.proofs.Lists.{all_kept}
use Rattle.laws.proofs.Filters.{in_filter, in_none, no_cons}
use Rattle.laws.proofs.Booleans.{by_cases, clash}
use Rattle.laws.proofs.Groups.{within_gather}
use Rattle.laws.specs.Attempt.{Attempt, fails, gives, attempt, each}
use Rattle.agreement.specs.Typed.{Triple, Loop, iter_of}
use Rattle.agreement.specs.Families.{Family, Mask, placed, Represents, Loops, Outside, Agree, agrees, failing}
use Rattle.agreement.proofs.Attempts.{got, EachOutcome, all_give, one_fails, outcome}

pub agree_gives : {m : Mask} (t : List Triple) (s : Family) → Outside m s → Represents t s
    → Agree m (λ i. gives (s i)) (gives t)
agree_gives t s out rep = agrees t s refl (λ i e. refl) out rep

pub agree_to : {m : Mask} {f : ℕ → Attempt (List ℤ)} {run : Attempt (List Triple)} (g : ℕ → Attempt (List ℤ))
    → ((i : ℕ) → m i ≡ true → g i ≡ f i) → Agree m f run → Agree m g run
agree_to g same (agrees t s e h out rep) = agrees t s e (λ i k. same i k ∙ h i k) out rep
agree_to g same (failing i k e d) = failing i k (same i k ∙ e) d

module _ {m : Mask} {f : ℕ → Attempt (List ℤ)} {run : Attempt (List Triple)} where
  pub agree_bind : Agree m f run → (g : ℕ → List ℤ → Attempt (List ℤ)) (rest : List Triple → Attempt (List Triple))
      → ((t : List Triple) (s : Family) → Outside m s → Represents t s → Agree m (λ i. g i (s i)) (rest t))
      → Agree m (λ i. attempt (f i) (g i)) (attempt run rest)
  unfolding attempt
  agree_bind (failing i k e d) g rest step = failing i k (ap (λ a. attempt a (g i)) e) (ap (λ a. attempt a rest) d)
  agree_bind (agrees t s e h out rep) g rest step =
      subst (Agree m (λ i. attempt (f i) (g i))) (sym (ap (λ a. attempt a rest) e))
      (agree_to (λ i. attempt (f i) (g i)) (λ i k. ap (λ a. attempt a (g i)) (h i k)) (step t s out rep))

pub loop_member : (l : Loop) (m : Mask) → Loops l m → (j : ℕ) → In j l → m j ≡ true
loop_member l m loops j i =
    by_cases (m j)
    (λ e. e)
    (λ e. absurd (subst (In j) (loops j ∙ ap (λ (b : Bool). cond b (j ∷ []) []) e)
    (in_filter (eqb j) l j i (eq-eqb j j refl))))

pub outside_member : (m : Mask) (s : Family) → Outside m s → (i : ℕ) (x : ℤ) (xs : List ℤ) → s i ≡ x ∷ xs → m i ≡ true
outside_member m s out i x xs e = by_cases (m i) (λ k. k) (λ k. no_cons (sym (out i k) ∙ e))

pub outside_filled : (m : Mask) (s : Family) → Outside m s → (i : ℕ) → filled (s i) ≡ true → m i ≡ true
unfolding filled
outside_filled m s out i f = by_cases (m i) (λ k. k) (λ k. clash f (ap filled (out i k)))

pub outside_in : (m : Mask) (s : Family) → Outside m s → (i : ℕ) (x : ℤ) → In x (s i) → m i ≡ true
outside_in m s out i x h = by_cases (m i) (λ k. k) (λ k. in_none x (s i) (out i k) h)

module _ {A : Type 0} (it : A → ℕ) (g : A → Attempt (List Triple))
    (own : (r : A) → All (λ x. it r ≡ x.iter) (got (g r))) where
  abbrev pub AllGiven : List A → Type 0
  AllGiven t = All (λ r. g r ≡ gives (got (g r))) t

  pub agree_each : (m : Mask) (f : ℕ → Attempt (List ℤ)) (s : Family) (t : List A) → Outside m s
      → ((i : ℕ) → AllGiven (within it i t) → m i ≡ true → f i ≡ gives (s i))
      → ((i : ℕ) → AllGiven (within it i t) → gather (λ r. got (g r)) (within it i t) ≡ placed i 0 (s i))
      → ((i : ℕ) (r : A) → In r (within it i t) → g r ≡ fails → (m i ≡ true) × (f i ≡ fails))
      → Agree m f (each g t)
  unfolding within
  agree_each m f s t out means rows bad = go (outcome g t)
    where
      here : AllGiven t → (i : ℕ) → AllGiven (within it i t)
      here h i = all_kept (λ r. eqb i (it r)) (λ r. g r ≡ gives (got (g r))) t h

      go : EachOutcome g t → Agree m f (each g t)
      go (all_give h e) =
          agrees (gather (λ r. got (g r)) t) s e (λ i k. means i (here h i) k) out
          (λ i. within_gather it iter_of (λ r. got (g r)) own i t ∙ rows i (here h i))
      go (one_fails r k e d) =
          let b = bad (it r) r (in_filter (λ x. eqb (it r) (it x)) t r k (eq-eqb (it r) (it r) refl)) e in
          failing (it r) b.0 b.1 d
