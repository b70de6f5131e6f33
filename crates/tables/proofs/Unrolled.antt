-- Rows and tables taken apart at their head, as loops go through them.
--     row_head            the first cell of a row, and the rest of the row
--     rows_head, rows_none     the first row of a table that has one, and the others; a table that has none
--     table_rows, past_first   a table and its cells
--     any_found, any_next, any_none     a search through the rows of a table
--     all_pass, one_fails      a test of all the rows of a table, by their numbers
use Prim.Native.Nat.{ℕ, zero, suc, ◌+◌, ◌-◌, ◌*◌, ◌<◌}
use mathlib.Core.Path.{◌≡◌, refl, sym, ap, ap₂, ◌∙◌}
use mathlib.Core.List.{List, [], ◌∷◌}
use mathlib.Core.Bool.{Bool, true, false, ◌||◌, ◌&&◌, and-false}
use native.Mathlib.Omega.{arith}
use native.Mathlib.Nat.{suc-mul, zero-mul}
use lib.IntN.{ℤ}
use lib.ListN.{length, get_or, take}
use lib.Seq.{drop-cons}
use Rattle.laws.specs.Lists.{any, all}
use Rattle.laws.specs.Rows.{row, rows_at}
use Rattle.tables.specs.declared.Stand.{Stand}
use Rattle.tables.specs.Layout.{table_at}

-- the cells of a table past its first row
pub past_first : (n w : ℕ) → 0 < n → n * w ≡ w + (n - 1) * w
past_first zero w h = absurd (omega arith)
past_first (suc n) w h =
    let e : suc n - 1 ≡ n = omega arith in
    let m : suc n * w ≡ n * w + w = suc-mul n w in
    omega (arith, ap (λ (k : ℕ). k * w) e)

-- a table whose width is known by another name
pub table_rows : (xs : List ℤ) (s : Stand) (w : ℕ) → s.width ≡ w → rows_at xs s.at s.rows w ≡ table_at xs s
unfolding table_at
table_rows xs s w e = ap (rows_at xs s.at s.rows) (sym e)

-- where the first row begins, and a row further on
first_row : (a w : ℕ) → a ≡ a + 0 * w
first_row a w = omega (arith, zero-mul w)

next_row : (a i w : ℕ) → a + w + i * w ≡ a + suc i * w
next_row a i w = omega (arith, suc-mul i w)

module _ {A : Type 0} where
  pub row_head : (xs : List A) (a w : ℕ) (d : A) → a < length xs → row xs a (suc w) ≡ get_or xs a d ∷ row xs (suc a) w
  unfolding row
  row_head xs a w d h = ap (take (suc w)) (drop-cons xs a d h)

  pub rows_head : (xs : List A) (a n w : ℕ) → 0 < n → rows_at xs a n w ≡ row xs a w ∷ rows_at xs (a + w) (n - 1) w
  unfolding rows_at
  rows_head xs a zero w h = absurd (omega arith)
  rows_head xs a (suc n) w h =
      let e : suc n - 1 ≡ n = omega arith in
      ap (λ (m : ℕ). row xs a w ∷ rows_at xs (a + w) m w) (sym e)

  pub rows_none : (xs : List A) (a n w : ℕ) → n ≡ 0 → rows_at xs a n w ≡ []
  unfolding rows_at
  rows_none xs a n w e = ap (λ (m : ℕ). rows_at xs a m w) e

  module _ (p : List A → Bool) (xs : List A) (a n w : ℕ) where
    pub any_found : 0 < n → p (row xs a w) ≡ true → any p (rows_at xs a n w) ≡ true
    unfolding any
    any_found h e = ap (any p) (rows_head xs a n w h) ∙ ap (λ (t : Bool). t || any p (rows_at xs (a + w) (n - 1) w)) e

    pub any_next : 0 < n → p (row xs a w) ≡ false → any p (rows_at xs a n w) ≡ any p (rows_at xs (a + w) (n - 1) w)
    unfolding any
    any_next h e = ap (any p) (rows_head xs a n w h) ∙ ap (λ (t : Bool). t || any p (rows_at xs (a + w) (n - 1) w)) e

    pub any_none : n ≡ 0 → any p (rows_at xs a n w) ≡ false
    unfolding any
    any_none e = ap (any p) (rows_none xs a n w e)

  -- a test of all rows, by their numbers
  module _ (p : List A → Bool) (xs : List A) where
    every_row :
        (a n w : ℕ) → ((i : ℕ) → i < n → p (row xs (a + i * w) w) ≡ true) → all p (rows_at xs a n w) ≡ true
    unfolding all rows_at
    every_row a zero w f = refl
    every_row a (suc n) w f =
        ap₂ ◌&&◌ (ap (λ (b : ℕ). p (row xs b w)) (first_row a w) ∙ f 0 (omega arith))
        (every_row (a + w) n w
        (λ i h. ap (λ (b : ℕ). p (row xs b w)) (next_row a i w) ∙ f (suc i) (omega arith)))

    failed_row :
        (a n w i : ℕ) → i < n → p (row xs (a + i * w) w) ≡ false → all p (rows_at xs a n w) ≡ false
    unfolding all rows_at
    failed_row a zero w i h e = absurd (omega arith)
    failed_row a (suc n) w zero h e =
        ap (◌&& all p (rows_at xs (a + w) n w)) (ap (λ (b : ℕ). p (row xs b w)) (first_row a w) ∙ e)
    failed_row a (suc n) w (suc i) h e =
        ap (p (row xs a w) &&◌)
        (failed_row (a + w) n w i (omega arith) (ap (λ (b : ℕ). p (row xs b w)) (next_row a i w) ∙ e))
        ∙ and-false (p (row xs a w))

pub all_pass : (p : List ℤ → Bool) (xs : List ℤ) (s : Stand)
    → ((i : ℕ) → i < s.rows → p (row xs (s.at + i * s.width) s.width) ≡ true) → true ≡ all p (table_at xs s)
unfolding table_at
all_pass p xs s f = sym (every_row p xs s.at s.rows s.width f)

pub one_fails : (p : List ℤ → Bool) (xs : List ℤ) (s : Stand) (i : ℕ) → i < s.rows
    → p (row xs (s.at + i * s.width) s.width) ≡ false → false ≡ all p (table_at xs s)
unfolding table_at
one_fails p xs s i h e = sym (failed_row p xs s.at s.rows s.width i h e)
