-- Work in room has one outcome and one count: 6 exactly where the count passes the room (document 01, 'Room').
-- Measured work, made of measured work:
--     stood, chosen             done at once; one of two works
--     trial, tested, then       after an attempt, a test of the room, other work
--     raised, lowered           seen from a higher count on; in the room that items below leave
-- What one answer says of the others:
--     done_fits, done_sound, done_more, done_less, failed_more, full_less
-- The evaluation:
--     measured w e q            the evaluation of a query is measured by its count
--     counts w room e q s       what stands at the end has at most as many items as its count, which is in the room
use Prim.Native.Nat.{ℕ, ◌+◌, ◌-◌, ◌≤◌, ◌<◌, max}
use mathlib.Core.Path.{◌≡◌, refl, sym, ◌∙◌, ap, subst}
use mathlib.Core.List.{List, [], ◌∷◌, ◌++◌}
use mathlib.Core.Bool.{Bool, true, false, cond}
use mathlib.Core.Logic.{◌⊎◌, inl, inr, ⊎_elim}
use native.Mathlib.Omega.{arith}
use borrow.Author.Tests.{le-leb, leb-true, ltb-true, ltb-false}
use lib.Dec.{leb, ltb}
use lib.IntN.{ℤ, pos}
use lib.ListN.{length, length-append}
use Rattle.laws.specs.Attempt.{Attempt, fails, gives, each, Work, full, failed, done, work, trying, within}
use Rattle.codes.specs.declared.Function.{Function}
use Rattle.meaning.specs.World.{World}
use Rattle.meaning.specs.Query.{Query, QL, QE, QR, QV, QS, QT, QF, QI, QO, QC, QD, QX}
use Rattle.meaning.specs.Meaning.{Env, bind, apply, values}
use Rattle.meaning.specs.Counted.{Standing, stand, adding, loop, evaluate}
use Rattle.laws.proofs.Outcomes.{full_done, full_failed, given_fails, given_gives, given_attempt}
use Rattle.laws.specs.Attempt.{Given}
use Rattle.laws.proofs.Outcomes.{given_any}
use Rattle.theorems.specs.Counts.{Ended, Full, Measured, Covered}

-- a number is below another or not
either : (a b : ℕ) → (a < b) ⊎ (b ≤ a)
either a b = go (ltb a b) refl
  where
    go : (t : Bool) → ltb a b ≡ t → (a < b) ⊎ (b ≤ a)
    go true e = inl (ltb-true a b e)
    go false e = inr (ltb-false a b e)

-- answer 6 ends the work
full_work : {A B : Type 0} {m : Work B} (g : B → Work A) → Full m → Full (work m g)
unfolding work
full_work g h = (h.0, rw h.1 refl)

-- an outcome by another count
recounted :
    {A : Type 0} (cost : A → ℕ) (sound : A → Type 0) (by : ℕ → ℕ) (k : ℕ) (o : Work A)
    → Ended cost sound k o → Ended (λ a. by (cost a)) sound (by k) o
recounted cost sound by k (full p) e = e
recounted cost sound by k (failed p) e = tt
recounted cost sound by k (done a) e = (ap by e.0, e.1)

module _ {A : Type 0} {cost : A → ℕ} {sound : A → Type 0} where
  -- work that is done at once
  pub stood : (c : ℕ) (a : A) → c ≡ cost a → sound a → Measured c cost sound (λ room. done a)
  stood c a e s =
      record {
        need = c;
        outcome = done a;
        above = omega arith;
        ended = (e, s);
        enough = λ room h. refl;
        short = λ room h l. absurd (omega arith);
      }

  -- an attempt first
  pub trial :
      {B : Type 0} {a : Attempt B} {g : ℕ → B → Work A} (c at : ℕ)
      → ((b : B) → a ≡ gives b → Measured c cost sound (λ room. g room b))
      → Measured c cost sound (λ room. trying at a (g room))
  unfolding trying
  trial {a = fails} c at m =
      record {
        need = c;
        outcome = failed at;
        above = omega arith;
        ended = tt;
        enough = λ room h. refl;
        short = λ room h l. absurd (omega arith);
      }
  trial {a = gives b} c at m = m b refl

  -- a test of the room first
  pub tested :
      {f : ℕ → Work A} (c d m at : ℕ) → d ≡ max c m → Measured d cost sound f
      → Measured c cost sound (λ room. within (leb m room) at (f room))
  unfolding within
  tested {f = f} c d m at e f' =
      record {
        need = f'.need;
        outcome = f'.outcome;
        above = omega (arith, f'.above);
        ended = f'.ended;
        enough = λ room h. rw (le-leb m room (omega (arith, f'.above))) (f'.enough room h);
        short = λ room h l. shortly room h l (leb m room) refl;
      }
    where
      shortly : (room : ℕ) → c ≤ room → room < f'.need → (b : Bool) → leb m room ≡ b → Full (within b at (f room))
      shortly room h l true t = f'.short room (omega (arith, leb-true m room t)) l
      shortly room h l false t = (at, refl)

  -- work after work
  pub then :
      {B : Type 0} {cost' : B → ℕ} {sound' : B → Type 0} {c : ℕ} {f : ℕ → Work B} {g : ℕ → B → Work A}
      → Measured c cost' sound' f
      → ((b : B) → c ≤ cost' b → sound' b → Measured (cost' b) cost sound (λ room. g room b))
      → Measured c cost sound (λ room. work (f room) (g room))
  unfolding work
  then {B = B} {cost' = cost'} {sound' = sound'} {c = c} {f = f} {g = g} f' g' =
      go f'.need f'.outcome f'.above f'.ended f'.enough f'.short
    where
      go :
          (k : ℕ) (o : Work B) → c ≤ k → Ended cost' sound' k o → ((room : ℕ) → k ≤ room → f room ≡ o)
          → ((room : ℕ) → c ≤ room → room < k → Full (f room)) → Measured c cost sound (λ room. work (f room) (g room))
      go k (full p) h e en sh = absurd e
      go k (failed p) h e en sh =
          record {
            need = k;
            outcome = failed p;
            above = h;
            ended = tt;
            enough = λ room l. rw (en room l) refl;
            short = λ room l s. full_work (g room) (sh room l s);
          }
      go k (done b) h e en sh =
          let m : Measured (cost' b) cost sound (λ room. g room b) = g' b (omega (arith, e.0)) e.1 in
          record {
            need = m.need;
            outcome = m.outcome;
            above = omega (arith, m.above, e.0);
            ended = m.ended;
            enough = λ room l. rw (en room (omega (arith, m.above, e.0))) (m.enough room l);
            short =
                λ room l s.
                ⊎_elim (λ x. full_work (g room) (sh room l x))
                (λ x. rw (en room x) (m.short room (omega (arith, e.0)) s))
                (either room k);
          }

  -- work looked at from a higher count on
  pub raised :
      {d : ℕ} {f : ℕ → Work A} (c : ℕ) → d ≤ c → Measured d cost sound f → Measured c (λ a. max c (cost a)) sound f
  raised c h f' =
      record {
        need = max c f'.need;
        outcome = f'.outcome;
        above = omega arith;
        ended = recounted cost sound (λ n. max c n) f'.need f'.outcome f'.ended;
        enough = λ room l. f'.enough room (omega arith);
        short = λ room l s. f'.short room (omega arith) (omega arith);
      }

  -- work in the room that n items below it leave
  pub lowered :
      {f : ℕ → Work A} (n : ℕ) → Measured 0 cost sound f → Measured n (λ a. n + cost a) sound (λ room. f (room - n))
  lowered n f' =
      record {
        need = n + f'.need;
        outcome = f'.outcome;
        above = omega arith;
        ended = recounted cost sound (λ k. n + k) f'.need f'.outcome f'.ended;
        enough = λ room l. f'.enough (room - n) (omega arith);
        short = λ room l s. f'.short (room - n) (omega arith) (omega arith);
      }

-- either of two works
chosen :
    {A : Type 0} {cost : A → ℕ} {sound : A → Type 0} {c : ℕ} {f g : ℕ → Work A} (t : Bool)
    → Measured c cost sound f → Measured c cost sound g → Measured c cost sound (λ room. cond t (f room) (g room))
chosen true f' g' = f'
chosen false f' g' = g'

-- items added to what stands
adds :
    (c at below : ℕ) (xs : List ℤ) (cost : Standing → ℕ)
    → max c (below + length xs) ≡ cost (record { items = xs; count = below + length xs })
    → Measured c cost Covered (λ room. adding room at below xs)
unfolding adding stand
adds c at below xs cost e = tested c (max c (below + length xs)) (below + length xs) at refl (stood _ _ e (omega arith))

-- a function gives at most one item, and none where its first side has none
applied : (w : World) (f : Function) (xs ys : List ℤ) → Given (λ zs. length zs ≤ length xs) (apply w f xs ys)
unfolding apply
applied w f [] [] = given_gives (omega arith)
applied w f [] (y ∷ []) = given_gives (omega arith)
applied w f [] (y ∷ z ∷ ys) = given_fails
applied w f (x ∷ []) [] = given_gives (omega arith)
applied w f (x ∷ []) (y ∷ []) = given_any (w.arith f x y) (λ z. given_gives (omega arith))
applied w f (x ∷ []) (y ∷ z ∷ ys) = given_fails
applied w f (x ∷ u ∷ xs) ys = given_fails

-- as many values as items
valued : (w : World) (xs : List ℤ) → Given (λ ys. length ys ≡ length xs) (values w xs)
unfolding values each
valued w [] = given_gives refl
valued w (x ∷ xs) =
    given_attempt {P = λ ys. length ys ≡ 1} (given_any (w.value x) (λ y. given_gives refl))
    (λ ys h. given_attempt (valued w xs) (λ zs h'. given_gives (omega (arith, length-append ys zs))))

-- the turns of a `for`
looped :
    (body : ℕ → ℤ → Work Standing) → ((x : ℤ) → Measured 0 (λ s. s.count) Covered (λ room. body room x))
    → (base count : ℕ) (results xs : List ℤ) → base + length results ≤ count
    → Measured count (λ s. s.count) Covered (λ room. loop body room base count results xs)
unfolding loop stand
looped body b base count results [] h = stood _ _ refl (omega arith)
looped body b base count results (x ∷ xs) h =
    then (raised count h (lowered (base + length results) (b x)))
    (λ s l i.
    looped body b base (max count (base + length results + s.count)) (results ++ s.items) xs
    (rw (length-append results s.items) (omega arith)))

pub measured : (w : World) (e : Env) (q : Query) → Measured 0 (λ s. s.count) Covered (λ room. evaluate w room e q)
unfolding evaluate stand
measured w e (QL at z) = adds 0 at 0 (z ∷ []) _ refl
measured w e (QE at) = stood _ _ refl (omega arith)
measured w e (QR at k) = trial 0 at (λ r q. adds 0 at 0 (r ∷ []) _ refl)
measured w e (QV at v) = adds 0 at 0 (e v) _ (omega arith)
measured w e (QS at a b) =
    then (measured w e a)
    (λ s l i. then (raised s.count i (lowered (length s.items) (measured w e b)))
    (λ t l' i'. stood _ _ refl (omega (arith, length-append s.items t.items))))
measured w e (QT at v a b) =
    then (measured w e a)
    (λ s l i. then (raised s.count i (lowered (length s.items) (measured w (bind v s.items e) b)))
    (λ t l' i'. stood _ _ refl (omega arith)))
measured w e (QF at v a b) =
    then (measured w e a)
    (λ s l i.
    looped _ (λ x. measured w (bind v (x ∷ []) e) b) (length s.items) s.count [] s.items (omega arith))
measured w e (QI at c a b) =
    then (measured w e c)
    (λ s l i. trial s.count at
    (λ t _. then (raised s.count l (chosen t (measured w e a) (measured w e b)))
    (λ u l' i'. stood _ _ refl (omega arith))))
measured w e (QO at f a b) =
    then (measured w e a)
    (λ s l i. then (raised s.count i (lowered (length s.items) (measured w e b)))
    (λ t l' i'. trial _ at (λ xs q. stood _ _ refl (omega (arith, (applied w f s.items t.items).given xs q)))))
measured w e (QC at a) =
    then (measured w e a)
    (λ s l i. then (adds s.count at 0 (pos (length s.items) ∷ []) (λ t. max s.count t.count) refl)
    (λ t l' i'. stood _ _ refl (omega arith)))
measured w e (QD at a) =
    then (measured w e a)
    (λ s l i. trial _ at (λ xs q. stood _ _ refl (omega (arith, (valued w s.items).given xs q))))
measured w e (QX at x t a) =
    then (measured w e a)
    (λ s l i. trial _ at
    (λ xs _. then (adds s.count at (length s.items) xs (λ u. max s.count u.count) refl)
    (λ u l' i'. stood _ _ refl (omega arith))))

-- What is known of measured work from one answer
module _ {A : Type 0} {c : ℕ} {cost : A → ℕ} {sound : A → Type 0} {f : ℕ → Work A} (m : Measured c cost sound f) where
  -- an answer other than 6 is the outcome, and the room is enough
  pub settled : (room : ℕ) → c ≤ room → (Full (f room) → ⊥) → (m.need ≤ room) × (f room ≡ m.outcome)
  settled room h n = ⊎_elim (λ l. absurd (n (m.short room h l))) (λ l. (l, m.enough room l)) (either room m.need)

  module _ (room : ℕ) (a : A) (h : c ≤ room) (d : f room ≡ done a) where
    settled_done : (m.need ≤ room) × (f room ≡ m.outcome)
    settled_done = settled room h (λ s. absurd (full_done s.0 a (sym s.1 ∙ d)))

    ended_done : (m.need ≡ cost a) × sound a
    ended_done = subst (Ended cost sound m.need) (sym settled_done.1 ∙ d) m.ended

    -- where it is done, its cost is within the room, and it is sound
    pub done_fits : cost a ≤ room
    done_fits = omega (arith, settled_done.0, ended_done.0)

    pub done_sound : sound a
    done_sound = ended_done.1

    -- its cost is all the room it needs
    pub done_more : (room' : ℕ) → cost a ≤ room' → f room' ≡ done a
    done_more room' l = m.enough room' (omega (arith, ended_done.0)) ∙ sym settled_done.1 ∙ d

    pub done_less : (room' : ℕ) → c ≤ room' → room' < cost a → Full (f room')
    done_less room' h' l = m.short room' h' (omega (arith, ended_done.0))

  -- more room, the same failure; less room than an answer 6 had, answer 6 again
  pub failed_more :
      (room room' p : ℕ) → c ≤ room → room ≤ room' → f room ≡ failed p → f room' ≡ failed p
  failed_more room room' p h l d =
      let t = settled room h (λ s. absurd (full_failed s.0 p (sym s.1 ∙ d))) in
      m.enough room' (omega arith) ∙ sym t.1 ∙ d

  pub full_less : (room room' p : ℕ) → c ≤ room' → room' ≤ room → f room ≡ full p → Full (f room')
  full_less room room' p h l d =
      ⊎_elim (λ s. m.short room' h (omega arith))
      (λ s. absurd (subst (Ended cost sound m.need) (sym (m.enough room s) ∙ d) m.ended))
      (either room m.need)

pub counts :
    (w : World) (room : ℕ) (e : Env) (q : Query) (s : Standing) → evaluate w room e q ≡ done s
    → (length s.items ≤ s.count) × (s.count ≤ room)
counts w room e q s d =
    let m : Measured 0 (λ s. s.count) Covered (λ room. evaluate w room e q) = measured w e q in
    (done_sound m room s (omega arith) d, done_fits m room s (omega arith) d)
