-- A record of n bytes: cut, with a bad field, or sound.
--     there, cut_reads, cut_before, sound_reads     by the test of `fits`: all bytes there; cut; an operator is read
--     pair_room, pair_cut, pair_reads     a record of two fields: all bytes there; cut; an operator is read
--     shorter, bad_reads, none_reads     a record that is cut, has a bad field, or has no mark
use Rattle.std.specs.Prelude.{Option, Some, None}
use Prim.Native.Nat.{ℕ, ◌+◌, ◌≤◌, ◌<◌}
use mathlib.Core.Path.{◌≡◌, refl, sym, ap, ◌∙◌}
use mathlib.Core.Bool.{Bool, true, false, not}
use mathlib.Core.List.{List}
use native.Mathlib.Omega.{arith}
use borrow.Author.Tests.{leb-true, leb-false, lt-leb}
use lib.ListN.{length}
use Rattle.cells.specs.Bytes.{fits}
use Rattle.laws.specs.Attempt.{Attempt, fails, gives, attempt, provided}
use Rattle.meaning.specs.Plan.{Op, sized}
use Rattle.laws.proofs.Outcomes.{gives_same, fails_gives}
use Rattle.cells.proofs.Cut.{fits_cut, fits_there, fits_room}
use Rattle.plan_records.specs.declared.Decoded.{Decoded}
use Rattle.plan_records.specs.declared.Operator.{Operator}
use Rattle.plan_records.specs.Decoded.{operator_of, reading_of, ColumnsStand, ReadingStands, Means, pair_field}

module _ (bs : List ℕ) (at : ℕ) where
  cut_bytes : (n : ℕ) (a : Attempt Op) → fits bs at n ≡ false → sized bs at n a ≡ fails
  unfolding sized provided
  cut_bytes n a h = rw h

  -- where n bytes are not there, no more are
  pub shorter : (n m : ℕ) (a : Attempt Op) → n ≤ m → fits bs at n ≡ false → sized bs at m a ≡ fails
  unfolding fits
  shorter n m a h e =
      let l : length bs < at + n = leb-false (at + n) (length bs) e in
      cut_bytes m a (lt-leb (at + m) (length bs) (omega arith))

  pub none_reads : (x : Attempt (Op × ℕ)) → x ≡ fails → Means bs None x
  unfolding reading_of ReadingStands
  none_reads x e = record { means = sym e; stands = tt }

  pub bad_reads : (n : ℕ) (a : Attempt Op) → a ≡ fails → Means bs None (sized bs at n a)
  unfolding sized attempt provided
  bad_reads n a e = none_reads (sized bs at n a) (rw e (go (fits bs at n)))
    where
      go : (t : Bool) → ◌≡◌ {A = Attempt (Op × ℕ)} (provided t fails) fails
      go true = refl
      go false = refl

  module _ (n : ℕ) (t : Bool) (e : t ≡ fits bs at n) where
    pub there : not t ≡ false → at + n ≤ length bs
    there h = fits_room t bs at n e h

    pub cut_reads : (a : Attempt Op) → not t ≡ true → Means bs None (sized bs at n a)
    cut_reads a h = none_reads (sized bs at n a) (cut_bytes n a (fits_cut t bs at n e h))

    pub cut_before : (m : ℕ) (a : Attempt Op) → n ≤ m → not t ≡ true → Means bs None (sized bs at m a)
    cut_before m a l h = none_reads (sized bs at m a) (shorter n m a l (fits_cut t bs at n e h))

    pub sound_reads :
        (a : Attempt Op) (r : Option Decoded) (o : Operator) → not t ≡ false →
        r ≡ Some (record { operator = o; next = at + n }) → ColumnsStand bs o → a ≡ gives (operator_of bs o) →
        Means bs r (sized bs at n a)
    unfolding reading_of ReadingStands sized provided attempt
    sound_reads a r o h p s q = rw (p, fits_there t bs at n e h, q) (record { means = refl; stands = s })

-- A record of two fields that have no range of their own

module _
    (bs : List ℕ) (at n : ℕ) (f : ℕ → ℕ → Op) (x y : ℕ) (r : Option (ℕ × ℕ))
    (e : pair_field r ≡ provided (fits bs at n) (gives (x, y))) where
  pair_there : (p : ℕ × ℕ) → r ≡ Some p → (fits bs at n ≡ true) × (p ≡ (x, y))
  unfolding provided
  pair_there p h = go (fits bs at n) (sym (ap pair_field h) ∙ e)
    where
      go : (t : Bool) → gives p ≡ provided t (gives (x, y)) → (t ≡ true) × (p ≡ (x, y))
      go true q = (refl, gives_same q)
      go false q = absurd (fails_gives p (sym q))

  pub pair_room : (p : ℕ × ℕ) → r ≡ Some p → at + n ≤ length bs
  unfolding fits
  pair_room p h = leb-true (at + n) (length bs) (pair_there p h).0

  pub pair_cut : r ≡ None → Means bs None (sized bs at n (gives (f x y)))
  unfolding provided
  pair_cut h = go (fits bs at n) refl (sym (ap pair_field h) ∙ e)
    where
      go :
          (t : Bool) → fits bs at n ≡ t → ◌≡◌ {A = Attempt (ℕ × ℕ)} fails (provided t (gives (x, y))) →
          Means bs None (sized bs at n (gives (f x y)))
      go true z q = absurd (fails_gives (x, y) q)
      go false z q = none_reads bs at _ (cut_bytes bs at n _ z)

  pub pair_reads :
      (p : ℕ × ℕ) → r ≡ Some p → (s : Option Decoded) (o : Operator) →
      s ≡ Some (record { operator = o; next = at + n }) → ColumnsStand bs o → f p.0 p.1 ≡ operator_of bs o →
      Means bs s (sized bs at n (gives (f x y)))
  pair_reads p h s o q i j =
      let (t, k) = pair_there p h in
      sound_reads bs at n true (sym t) _ s o refl q i (ap (λ (p : ℕ × ℕ). gives (f p.0 p.1)) (sym k) ∙ ap gives j)
