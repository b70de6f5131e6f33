-- Fragments: the rows from one level-0 row up to the next (document 01, 'Catalogue rows'; `fragment`).
--     fragment_here, fragment_before   the root itself; any other row has the fragment of the row before
--     fragment_low                     the root of r's fragment is not after r
--     fragment_root                    it has level 0
--     fragment_last                    no row of level 0 stands after it, up to r
--     fragment_greatest                a row of level 0 up to r is not after it
--     fragment_rises                   a later row has the same or a later fragment
--     fragment_same, fragment_parted   two rows share the fragment just where no row of level 0 stands after the first,
--                                      up to the second
--     fragment_covered                 the rows that a size covers are of the row's fragment
--     fragment_covers                  the size of a fragment's root covers the whole fragment
use Prim.Native.Nat.{ℕ, zero, suc, ◌+◌, ◌≤◌, ◌<◌}
use native.Mathlib.Decide.{dec_le, ℕ_discrete}
use native.Mathlib.Omega.{arith}
use mathlib.Core.Path.{◌≡◌, refl, sym, ◌∙◌, ap}
use borrow.Author.Tests.{eq-eqb, ne_eqb}
use Rattle.meaning.specs.Catalogue.{Catalogue}
use Rattle.meaning.specs.World.{fragment}
use Rattle.doc_rows.specs.Nested.{Nested}

module _ (c : Catalogue) where
  pub fragment_here : (r : ℕ) → c.level r ≡ 0 → fragment c r ≡ r
  unfolding fragment
  fragment_here zero h = refl
  fragment_here (suc r) h = rw (eq-eqb (c.level (suc r)) 0 h)

  pub fragment_before : (r : ℕ) → (c.level (suc r) ≡ 0 → ⊥) → fragment c (suc r) ≡ fragment c r
  unfolding fragment
  fragment_before r h = rw (ne_eqb (c.level (suc r)) 0 h)

  pub fragment_zero : fragment c 0 ≡ 0
  unfolding fragment
  fragment_zero = refl

  pub fragment_low : (v : ℕ) → fragment c v ≤ v
  fragment_low zero = omega (arith, fragment_zero)
  fragment_low (suc v) = go (fragment_low v) (ℕ_discrete (c.level (suc v)) 0)
    where
      go : fragment c v ≤ v → Dec (c.level (suc v) ≡ 0) → fragment c (suc v) ≤ suc v
      go ih (yes h) = omega (arith, fragment_here (suc v) h)
      go ih (no h) = omega (arith, fragment_before v h)

  pub fragment_root : c.level 0 ≡ 0 → (v : ℕ) → c.level (fragment c v) ≡ 0
  fragment_root first zero = ap c.level fragment_zero ∙ first
  fragment_root first (suc v) = go (fragment_root first v) (ℕ_discrete (c.level (suc v)) 0)
    where
      go : c.level (fragment c v) ≡ 0 → Dec (c.level (suc v) ≡ 0) → c.level (fragment c (suc v)) ≡ 0
      go ih (yes h) = ap c.level (fragment_here (suc v) h) ∙ h
      go ih (no h) = ap c.level (fragment_before v h) ∙ ih

  pub fragment_last : (v r : ℕ) → fragment c v < r → r ≤ v → c.level r ≡ 0 → ⊥
  fragment_last zero r h k e = omega arith
  fragment_last (suc v) r h k e = go (fragment_last v r) (ℕ_discrete (c.level (suc v)) 0) (dec_le r v)
    where
      go : (fragment c v < r → r ≤ v → c.level r ≡ 0 → ⊥) → Dec (c.level (suc v) ≡ 0) → Dec (r ≤ v) → ⊥
      go ih (yes z) d = omega (arith, fragment_here (suc v) z)
      go ih (no z) (yes l) = ih (omega (arith, fragment_before v z)) l e
      go ih (no z) (no l) = z (ap c.level (last v r (omega arith) k) ∙ e)
        where
          last : (v r : ℕ) → v < r → r ≤ suc v → suc v ≡ r
          last v r a b = omega arith

  pub fragment_greatest : (v r : ℕ) → r ≤ v → c.level r ≡ 0 → r ≤ fragment c v
  fragment_greatest v r h e = go (dec_le r (fragment c v))
    where
      go : Dec (r ≤ fragment c v) → r ≤ fragment c v
      go (yes l) = l
      go (no l) = absurd (fragment_last v r (omega arith) h e)

  pub fragment_same : (w v : ℕ) → v ≤ w → ((r : ℕ) → v < r → r ≤ w → c.level r ≡ 0 → ⊥) → fragment c v ≡ fragment c w
  fragment_same zero v h none = ap (fragment c) (omega arith)
  fragment_same (suc w) v h none = go (fragment_same w v) (dec_le v w)
    where
      go : (v ≤ w → ((r : ℕ) → v < r → r ≤ w → c.level r ≡ 0 → ⊥) → fragment c v ≡ fragment c w) → Dec (v ≤ w)
          → fragment c v ≡ fragment c (suc w)
      go ih (yes l) =
          ih l (λ r a b. none r a (omega arith)) ∙ sym (fragment_before w (none (suc w) (omega arith) (omega arith)))
      go ih (no l) = ap (fragment c) (omega arith)

  pub fragment_parted : (w v r : ℕ) → fragment c v ≡ fragment c w → v < r → r ≤ w → c.level r ≡ 0 → ⊥
  fragment_parted w v r e h k z = omega (arith, fragment_greatest w r k z, fragment_low v)

  pub fragment_rises : (w v : ℕ) → v ≤ w → fragment c v ≤ fragment c w
  fragment_rises zero v h = omega (arith, ap (fragment c) (none v h))
    where
      none : (v : ℕ) → v ≤ 0 → v ≡ 0
      none v h = omega arith
  fragment_rises (suc w) v h = go (fragment_rises w v) (dec_le v w) (ℕ_discrete (c.level (suc w)) 0)
    where
      go : (v ≤ w → fragment c v ≤ fragment c w) → Dec (v ≤ w) → Dec (c.level (suc w) ≡ 0)
          → fragment c v ≤ fragment c (suc w)
      go ih d (yes z) = omega (arith, fragment_here (suc w) z, fragment_low v)
      go ih (yes l) (no z) = omega (arith, fragment_before w z, ih l)
      go ih (no l) (no z) = let e : v ≡ suc w = omega arith in omega (arith, ap (fragment c) e)

  module _ (n : ℕ) (nested : Nested n c.size c.level) where
    pub fragment_covered : (x v : ℕ) → x < n → x < v → v ≤ x + c.size x → fragment c x ≡ fragment c v
    fragment_covered x v h l k =
        fragment_same v x (omega arith) (λ r a b z. omega (arith, nested.inside x r h a (omega arith)))

    pub fragment_covers : (v : ℕ) → v < n → v ≤ fragment c v + c.size (fragment c v)
    fragment_covers v h = go (fragment c v) refl (dec_le v (fragment c v + c.size (fragment c v)))
      where
        go : (f : ℕ) → fragment c v ≡ f → Dec (v ≤ f + c.size f) → v ≤ f + c.size f
        go f e (yes l) = l
        go f e (no l) =
            let low : f ≤ v = omega (arith, fragment_low v) in
            let root : c.level f ≡ 0 = ap c.level (sym e) ∙ fragment_root (nested.first (omega arith)) v in
            let ends = nested.ends f (omega arith) (omega arith) in
            absurd (fragment_last v (f + c.size f + 1) (omega arith) (omega arith) (omega arith))
