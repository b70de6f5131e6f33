-- Rows of one width in a flat list, and writing over a list. Generic in the element: cells and row numbers both use
-- them.
--     row xs a w           the w members from a on
--     rows_at xs a n w      the n rows of width w from a on
--     laid xs at vs        xs with vs written over it at `at`
--     flat rs              the members of all rows in order
--     padded z n xs        xs, then z up to n members
use Rattle.std.specs.Prelude.{ℕ, zero, suc, ◌+◌, ◌-◌, List, [], ◌∷◌, ◌++◌, length, take, drop, replicate}
use Rattle.laws.specs.Lists.{gather}

module _ {A : Type 0} where
  unfoldable pub row : List A → ℕ → ℕ → List A
  row xs a w = take w (drop a xs)

  unfoldable pub rows_at : List A → ℕ → ℕ → ℕ → List (List A)
  rows_at xs a zero w = []
  rows_at xs a (suc n) w = row xs a w ∷ rows_at xs (a + w) n w

  unfoldable pub laid : List A → ℕ → List A → List A
  laid xs at vs = take at xs ++ (vs ++ drop (at + length vs) xs)

  unfoldable pub flat : List (List A) → List A
  flat t = gather (λ (r : List A). r) t

  unfoldable pub padded : A → ℕ → List A → List A
  padded z lent xs = xs ++ replicate (lent - length xs) z
