-- Laws of what is recorded.
--     recorded_at     a recorded byte is the one of the list
--     recorded_by     recorded, by its bytes
--     added           a part put behind
--     inserted        a part put where the rest was moved on
--     recorded_none, recorded_length     nothing is recorded yet; how many bytes are
--     adds_none, adds_more, adds_as      nothing added; one part after another; a part by another name
--     adds_insert     a part put in before what was added: both are added
use Prim.Native.Nat.{ℕ, ◌+◌, ◌-◌, ◌≤◌, ◌<◌, min}
use mathlib.Core.Path.{◌≡◌, refl, sym, ◌∙◌, ap, subst}
use mathlib.Core.List.{List, [], ◌++◌, append_assoc, append-nil}
use mathlib.Core.Bool.{Bool, true, false}
use mathlib.Core.Logic.{◌⊎◌, inl, inr}
use native.Mathlib.Omega.{arith}
use borrow.Author.Tests.{ltb-true, ltb-false}
use lib.Dec.{ltb}
use lib.ListN.{length, take, get_or, length-append, length-take, get_or-append}
use lib.Seq.{length-take-le, get_or-take, get_or-append-add, ext_get_or}
use Rattle.recording.specs.Recorded.{most_bytes, Recorded, Adds, Inserts}
use Rattle.recording.specs.Moves.{Puts, Moves}

pub recorded_at :
    {xs bytes : List ℕ} {made : ℕ} → Recorded xs bytes made → (i : ℕ) → i < made → get_or bytes i 0 ≡ get_or xs i 0
recorded_at {xs} {bytes} {made} r i h =
    sym (get_or-take made bytes i 0 h)
    ∙ ap (λ (l : List ℕ). get_or l i 0) r.holds
    ∙ get_or-take most_bytes xs i 0 (omega (arith, r.counts))

pub recorded_by :
    (xs bytes : List ℕ) (made : ℕ) → length bytes ≡ most_bytes → made ≡ min (length xs) most_bytes →
    ((i : ℕ) → i < made → get_or bytes i 0 ≡ get_or xs i 0) → Recorded xs bytes made
recorded_by xs bytes made l e h =
    record {
      long = l;
      counts = e;
      holds =
          ext_get_or 0 (take made bytes) (take most_bytes xs) (simp length-take (omega arith))
          (λ i k.
          let below : i < made = omega (arith, length-take made bytes) in
          get_or-take made bytes i 0 below ∙ h i below ∙ sym (get_or-take most_bytes xs i 0 (omega arith)));
    }

-- below a sum is below the first part, or the first and a number below the second
within_or : (i m n : ℕ) → i < m + n → (i < m) ⊎ ((j : ℕ) × (j < n) × (i ≡ m + j))
within_or i m n h = go (ltb i m) refl
  where
    go : (t : Bool) → ltb i m ≡ t → (i < m) ⊎ ((j : ℕ) × (j < n) × (i ≡ m + j))
    go true e = inl (ltb-true i m e)
    go false e = let k : m ≤ i = ltb-false i m e in inr (i - m, omega arith, omega arith)

pub added :
    (part : List ℕ) (made next : ℕ) (before after : List ℕ) → made ≤ most_bytes → length after ≡ most_bytes →
    next ≡ min (made + length part) most_bytes →
    Puts made part (min (length part) (most_bytes - made)) before after → Adds part made before after next
added part made next before after small long e p =
    record { grows = omega arith; within = omega arith; adds = adding }
  where
    adding : (xs : List ℕ) → Recorded xs before made → Recorded (xs ++ part) after next
    adding xs r =
        recorded_by (xs ++ part) after next long (rw length-append (omega (arith, r.counts)))
        (λ i h. byte i h (within_or i (length xs) (length part) (omega (arith, r.counts))))
      where
        byte :
            (i : ℕ) → i < next → (i < length xs) ⊎ ((j : ℕ) × (j < length part) × (i ≡ length xs + j)) →
            get_or after i 0 ≡ get_or (xs ++ part) i 0
        byte i h (inl k) =
            let m : i < made = omega (arith, r.counts) in
            p.below i m ∙ recorded_at r i m ∙ sym (get_or-append xs part 0 i k)
        byte i h (inr (j, k, x)) =
            let y : i ≡ made + j = omega (arith, r.counts) in
            ap (λ (m : ℕ). get_or after m 0) y
            ∙ p.put j (omega (arith, r.counts))
            ∙ sym (ap (λ (m : ℕ). get_or (xs ++ part) m 0) x ∙ get_or-append-add xs part j 0)

pub inserted :
    (part : List ℕ) (from made next : ℕ) (before between after : List ℕ) → from ≤ made → made ≤ most_bytes →
    length part ≤ most_bytes → length after ≡ most_bytes → next ≡ min (made + length part) most_bytes →
    Moves from (length part) (min made (most_bytes - length part)) before between →
    Puts from part (min (length part) (most_bytes - from)) between after → Inserts part from made before after next
inserted part from made next before between after low small short long e m p =
    record { grows = omega arith; within = omega arith; inserts = inserting }
  where
    inserting :
        (xs ys : List ℕ) → from ≡ min (length xs) most_bytes → Recorded (xs ++ ys) before made →
        Recorded (xs ++ (part ++ ys)) after next
    inserting xs ys f r =
        recorded_by (xs ++ (part ++ ys)) after next long
        (simp length-append (omega (arith, whole)))
        (λ i h. byte i h (within_or i (length xs) (length part + length ys) (omega (arith, whole))))
      where
        whole : made ≡ min (length xs + length ys) most_bytes
        whole = rw length-append at r.counts

        later :
            (i j : ℕ) → i < next → i ≡ length xs + j →
            (j < length part) ⊎ ((k : ℕ) × (k < length ys) × (j ≡ length part + k)) →
            get_or after i 0 ≡ get_or (part ++ ys) j 0
        later i j h x (inl k) =
            let y : i ≡ from + j = omega arith in
            ap (λ (n : ℕ). get_or after n 0) y ∙ p.put j (omega arith) ∙ sym (get_or-append part ys 0 j k)
        later i j h x (inr (k, l, z)) =
            let y : i ≡ from + k + length part = omega arith in
            p.above i (omega arith)
            ∙ ap (λ (n : ℕ). get_or between n 0) y
            ∙ m.moved (from + k) (omega arith) (omega (arith, whole))
            ∙ recorded_at r (from + k) (omega (arith, whole))
            ∙ ap (λ (n : ℕ). get_or (xs ++ ys) n 0) (omega arith)
            ∙ get_or-append-add xs ys k 0
            ∙ sym (ap (λ (n : ℕ). get_or (part ++ ys) n 0) z ∙ get_or-append-add part ys k 0)

        byte :
            (i : ℕ) → i < next → (i < length xs) ⊎ ((j : ℕ) × (j < length part + length ys) × (i ≡ length xs + j)) →
            get_or after i 0 ≡ get_or (xs ++ (part ++ ys)) i 0
        byte i h (inl k) =
            let n : i < from = omega arith in
            p.below i n
            ∙ m.below i n
            ∙ recorded_at r i (omega arith)
            ∙ get_or-append xs ys 0 i k
            ∙ sym (get_or-append xs (part ++ ys) 0 i k)
        byte i h (inr (j, k, x)) =
            later i j h x (within_or j (length part) (length ys) k)
            ∙ sym (ap (λ (n : ℕ). get_or (xs ++ (part ++ ys)) n 0) x ∙ get_or-append-add xs (part ++ ys) j 0)

pub recorded_none : (bytes : List ℕ) → length bytes ≡ most_bytes → Recorded [] bytes 0
recorded_none bytes h = recorded_by [] bytes 0 h refl (λ i k. absurd (omega arith))

pub recorded_length : {xs bytes : List ℕ} {made : ℕ} → Recorded xs bytes made → length (take made bytes) ≡ made
recorded_length {bytes = bytes} {made = made} r =
    length-take-le made bytes (omega (arith, r.long, r.counts))

-- One part after another

pub adds_none : (made : ℕ) (bytes : List ℕ) → made ≤ most_bytes → Adds [] made bytes bytes made
adds_none made bytes h =
    record { grows = omega arith; within = h; adds = λ xs r. rw (append-nil xs) r }

pub adds_as :
    {p q before after : List ℕ} {made next : ℕ} → p ≡ q → Adds p made before after next →
    Adds q made before after next
adds_as {before = before} {after = after} {made = made} {next = next} e h =
    subst (λ (l : List ℕ). Adds l made before after next) e h

pub adds_more :
    {p q before between after : List ℕ} {made m next : ℕ} → Adds p made before between m →
    Adds q m between after next → Adds (p ++ q) made before after next
adds_more {p = p} {q = q} h k =
    record {
      grows = omega (arith, h.grows, k.grows);
      within = k.within;
      adds = λ xs r. rw append_assoc at (k.adds (xs ++ p) (h.adds xs r));
    }

pub adds_insert :
    {p part before between after : List ℕ} {from made next : ℕ} → Adds p from before between made →
    Inserts part from made between after next → Adds (part ++ p) from before after next
adds_insert {p = p} h k =
    record {
      grows = omega (arith, h.grows, k.grows);
      within = k.within;
      adds = λ xs r. k.inserts xs p r.counts (h.adds xs r);
    }
