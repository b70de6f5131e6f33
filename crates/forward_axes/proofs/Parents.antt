-- The parent of a row: the last row before it that is one level up (document 001, Table 1).
--     Over n size level p v     p is the parent of v
--       early, covers           v is one of the rows that p's size covers
--       up                      one level up
--       between                 every row between them is deeper than p
--     parent_over               every row below the roots has a parent
--     only_parent               .. and no other
use Prim.Native.Nat.{ℕ, zero, suc, ◌+◌, ◌≤◌, ◌<◌}
use mathlib.Core.Path.{◌≡◌, ap}
use mathlib.Core.Logic.{◌⊎◌, inl, inr}
use native.Mathlib.Decide.{ℕ_discrete}
use native.Mathlib.Numerals.{add-one}
use native.Mathlib.Omega.{arith}
use Rattle.doc_rows.specs.Nested.{Nested}
use Rattle.nodesets.proofs.Tests.{le_or_lt}

pub record Over (size level : ℕ → ℕ) (p v : ℕ) : Type 0 where
  pub early : p < v
  pub covers : v ≤ p + size p
  pub up : level v ≡ level p + 1
  pub between : (u : ℕ) → p < u → u < v → level p < level u

module _ (n : ℕ) (size level : ℕ → ℕ) (s : Nested n size level) where
  module _ (v l : ℕ) (h : v < n) (e : level v ≡ l + 1) where
    -- a row of level l, with nothing but deeper rows after it up to v, is the parent
    is_over : (p : ℕ) → p < v → level p ≡ l → ((u : ℕ) → p < u → u ≤ v → l < level u) → Over size level p v
    is_over p k d f =
        record {
          early = k;
          covers = by_end (le_or_lt v (p + size p));
          up = omega arith;
          between = λ u a b. omega (arith, f u a (omega arith));
        }
      where
        by_end : (v ≤ p + size p) ⊎ (p + size p < v) → v ≤ p + size p
        by_end (inl a) = a
        by_end (inr a) =
            let next = f (p + size p + 1) (omega arith) (omega arith) in
            absurd (omega (arith, s.ends p (omega arith) (omega arith)))

    -- looking back from row u
    back : (u : ℕ) → u ≤ v → ((w : ℕ) → u ≤ w → w ≤ v → l < level w) → (p : ℕ) × Over size level p v
    back zero j f = absurd (omega (arith, f 0 (omega arith) (omega arith), s.first (omega arith)))
    back (suc u) j f = by_level (le_or_lt (level u) l) (back u)
      where
        rise : level (suc u) ≤ level u + 1
        rise = omega (arith, s.rises u (omega arith), ap level (add-one u))

        by_level :
            (level u ≤ l) ⊎ (l < level u)
            → (u ≤ v → ((w : ℕ) → u ≤ w → w ≤ v → l < level w) → (p : ℕ) × Over size level p v)
            → (p : ℕ) × Over size level p v
        by_level (inl a) ih =
            let next = f (suc u) (omega arith) (omega arith) in
            (u, is_over u (omega arith) (omega (arith, rise)) (λ w b d. f w (omega arith) d))
        by_level (inr a) ih = ih (omega arith) (λ w b d. by_place w d (ℕ_discrete w u) b)
          where
            by_place : (w : ℕ) → w ≤ v → Dec (w ≡ u) → u ≤ w → l < level w
            by_place w d (yes k) b = rw k a
            by_place w d (no k) b = f w (omega arith) d

    pub parent_over : (p : ℕ) × Over size level p v
    parent_over = back v (omega arith) (λ w a b. here w (omega arith))
      where
        here : (w : ℕ) → w ≡ v → l < level w
        here w k = rw k (omega arith)

  pub only_parent :
      (p x v : ℕ) → x < n → Over size level p v → x < v → v ≤ x + size x → level v ≡ level x + 1 → x ≡ p
  only_parent p x v h o a b e = by_order (le_or_lt x p) (le_or_lt p x)
    where
      by_order : (x ≤ p) ⊎ (p < x) → (p ≤ x) ⊎ (x < p) → x ≡ p
      by_order (inl j) (inl k) = omega arith
      by_order (inl j) (inr k) = absurd (omega (arith, s.inside x p h k (omega (arith, o.early)), o.up))
      by_order (inr j) k = absurd (omega (arith, o.between x j a, o.up))
