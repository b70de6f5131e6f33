-- A column copied, cell by cell.
--     length_column            a column is as long as its rows are many
--     kept_none, kept_more     no cell, and one cell more
use Prim.Native.Nat.{ℕ, zero, suc, ◌+◌, ◌*◌, ◌<◌}
use mathlib.Core.Path.{◌≡◌, sym, ap, ◌∙◌}
use mathlib.Core.List.{List, [], ◌∷◌, ◌++◌}
use native.Mathlib.Omega.{arith}
use native.Mathlib.Numerals.{add-one}
use native.Mathlib.Nat.{suc-mul, zero-mul}
use lib.IntN.{ℤ, pos}
use lib.ListN.{length, get_or, set, length-map}
use Rattle.laws.specs.Rows.{row, rows_at, laid}
use Rattle.laws.proofs.Rows.{get_d_row, length_rows_at, laid_nothing, set_more}
use Rattle.meaning.specs.Operators.{column}

module _ (xs : List ℤ) (w c : ℕ) (inside : c < w) where
  column_more : (a i : ℕ)
      → column (rows_at xs a (suc i) w) c ≡ column (rows_at xs a i w) c ++ (get_or xs (a + i * w + c) (pos 0) ∷ [])
  unfolding column rows_at
  column_more a zero =
      let e : a ≡ a + 0 * w = omega (arith, zero-mul w) in
      ap (◌∷ []) (get_d_row xs a w c (pos 0) inside ∙ ap (λ (b : ℕ). get_or xs (b + c) (pos 0)) e)
  column_more a (suc i) =
      let e : a + w + i * w ≡ a + suc i * w = omega (arith, suc-mul i w) in
      ap (get_or (row xs a w) c (pos 0) ∷◌)
      (column_more (a + w) i ∙ ap (λ (b : ℕ). column (rows_at xs (a + w) i w) c ++ (get_or xs (b + c) (pos 0) ∷ [])) e)

  pub length_column : (a i : ℕ) → length (column (rows_at xs a i w) c) ≡ i
  unfolding column
  length_column a i = length-map (rows_at xs a i w) _ ∙ length_rows_at xs a i w

  pub kept_none : (ys : List ℤ) (a : ℕ) → ys ≡ laid ys 0 (column (rows_at xs a 0 w) c)
  unfolding column rows_at
  kept_none ys a = sym (laid_nothing ys 0)

  pub kept_more :
      (ys zs : List ℤ) (a i : ℕ) (v : ℤ) → zs ≡ laid ys 0 (column (rows_at xs a i w) c) → i < length ys →
      v ≡ get_or xs (a + i * w + c) (pos 0) → set zs i v ≡ laid ys 0 (column (rows_at xs a (i + 1) w) c)
  kept_more ys zs a i v e h d =
      let z : i ≡ 0 + i = omega arith in
      ap (λ (k : ℕ). set zs k v) z
      ∙ set_more ys zs 0 i (column (rows_at xs a i w) c) v e (length_column a i) (omega arith)
      ∙ ap (laid ys 0)
      (ap (λ (u : ℤ). column (rows_at xs a i w) c ++ (u ∷ [])) d
      ∙ sym (column_more a i)
      ∙ ap (λ (k : ℕ). column (rows_at xs a k w) c) (sym (add-one i)))
