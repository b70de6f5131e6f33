-- Tests of the cells of a column, by the rows' numbers.
--     some_row, no_row             a cell of a column passes a test, or none does
--     each_row, not_row            all neighbours pass a test, or two do not
use Prim.Native.Nat.{ℕ, zero, suc, ◌-◌, ◌≤◌, ◌<◌}
use mathlib.Core.Path.{◌≡◌, refl, sym, ap, ap₂, ◌∙◌}
use mathlib.Core.List.{List, [], ◌∷◌}
use mathlib.Core.Bool.{Bool, true, false, ◌&&◌, ◌||◌}
use native.Mathlib.Omega.{arith}
use lib.IntN.{ℤ, pos}
use lib.ListN.{length, get_or}
use Rattle.laws.specs.Lists.{any}
use Rattle.laws.proofs.Booleans.{by_cases, clash, both_true, or_left, or_right}
use Rattle.meaning.specs.Operators.{Table, column}
use Rattle.tables.specs.Order.{cell_at, each_next}
use Rattle.tables.proofs.Reading.{length_column, get_d_column}

-- a test of some member
module _ (p : ℤ → Bool) where
  any_at : (zs : List ℤ) (i : ℕ) → i < length zs → p (get_or zs i (pos 0)) ≡ true → any p zs ≡ true
  unfolding any
  any_at [] i h e = absurd (omega arith)
  any_at (z ∷ zs) zero h e = or_left (p z) (any p zs) e
  any_at (z ∷ zs) (suc i) h e = or_right (p z) (any p zs) (any_at zs i (omega arith) e)

  none_at : (zs : List ℤ) → ((i : ℕ) → i < length zs → p (get_or zs i (pos 0)) ≡ false) → any p zs ≡ false
  unfolding any
  none_at [] f = refl
  none_at (z ∷ zs) f = ap₂ ◌||◌ (f 0 (omega arith)) (none_at zs (λ i h. f (suc i) (omega arith)))

  pub some_row : (t : Table) (c i n : ℕ) → length t ≡ n → i < n → p (cell_at t c i) ≡ true → true ≡ any p (column t c)
  some_row t c i n e h d =
      sym (any_at (column t c) i (omega (arith, length_column t c)) (ap p (get_d_column t c i) ∙ d))

  pub no_row :
      (t : Table) (c n : ℕ) → length t ≡ n → ((i : ℕ) → i < n → p (cell_at t c i) ≡ false) → false ≡ any p (column t c)
  no_row t c n e f =
      sym (none_at (column t c) (λ i h. ap p (get_d_column t c i) ∙ f i (omega (arith, length_column t c))))

-- a test of all neighbours
module _ (p : ℤ → ℤ → Bool) where
  next_all : (zs : List ℤ)
      → ((i : ℕ) → suc i < length zs → p (get_or zs i (pos 0)) (get_or zs (suc i) (pos 0)) ≡ true)
      → each_next p zs ≡ true
  unfolding each_next
  next_all [] f = refl
  next_all (x ∷ []) f = refl
  next_all (x ∷ y ∷ ys) f =
      ap₂ ◌&&◌ (f 0 (omega arith)) (next_all (y ∷ ys) (λ i h. f (suc i) (omega arith)))

  next_at : (zs : List ℤ) → each_next p zs ≡ true → (i : ℕ) → suc i < length zs
      → p (get_or zs i (pos 0)) (get_or zs (suc i) (pos 0)) ≡ true
  unfolding each_next
  next_at [] e i h = absurd (omega arith)
  next_at (x ∷ []) e i h = absurd (omega arith)
  next_at (x ∷ y ∷ ys) e zero h = (both_true (p x y) (each_next p (y ∷ ys)) e).0
  next_at (x ∷ y ∷ ys) e (suc i) h = next_at (y ∷ ys) (both_true (p x y) (each_next p (y ∷ ys)) e).1 i (omega arith)

  module _ (t : Table) (c n : ℕ) (e : length t ≡ n) where
    pub each_row :
        ((i : ℕ) → 1 ≤ i → i < n → p (cell_at t c (i - 1)) (cell_at t c i) ≡ true) → true ≡ each_next p (column t c)
    each_row f =
        let cells : (i : ℕ) → get_or (column t c) i (pos 0) ≡ cell_at t c i = get_d_column t c in
        sym
        (next_all (column t c)
        (λ i h.
        let back : suc i - 1 ≡ i = omega arith in
        ap₂ p (cells i ∙ ap (cell_at t c) (sym back)) (cells (suc i))
        ∙ f (suc i) (omega arith) (omega (arith, length_column t c))))

    pub not_row :
        (i : ℕ) → 1 ≤ i → i < n → p (cell_at t c (i - 1)) (cell_at t c i) ≡ false → false ≡ each_next p (column t c)
    not_row i h k d =
        let up : suc (i - 1) ≡ i = omega arith in
        let cells : (i : ℕ) → get_or (column t c) i (pos 0) ≡ cell_at t c i = get_d_column t c in
        by_cases (each_next p (column t c))
        (λ q.
        clash
        (ap₂ p (sym (cells (i - 1))) (ap (cell_at t c) (sym up) ∙ sym (cells (suc (i - 1))))
        ∙ next_at (column t c) q (i - 1) (omega (arith, length_column t c)))
        d)
        sym
