-- Laws on rows and on what is laid over a list of cells, generic in the element.
--     laid_nothing, laid_more       nothing laid changes nothing; laid one after the other is laid at once
--     row_laid, rows_at_laid         what stands below is as it was
--     length_laid, length_row, get_d_row, set_laid
use Prim.Native.Nat.{ℕ, zero, suc, ◌+◌, ◌-◌, ◌*◌, ◌≤◌, ◌<◌}
use mathlib.Core.Path.{◌≡◌, refl, sym, ap, ap₂, ◌∙◌}
use mathlib.Core.List.{List, [], ◌∷◌, ◌++◌, append_assoc}
use native.Mathlib.Omega.{arith}
use native.Mathlib.Numerals.{add-one}
use native.Mathlib.Nat.{add-zero, zero-add, add_assoc, suc-add, suc-mul}
use lib.ListN.{length, take, drop, get_or, set, length-append, length-take, length-drop, take-append-drop}
use lib.Seq.{take-append-le, take-take, drop-drop, get_or-take, get_or-drop, set_split, length-take-le, take_at, drop_at}
use lib.Seq.{drop-nil, take-nil, take-suc}
use Rattle.laws.specs.Rows.{row, rows_at, laid}

module _ {A : Type 0} where
  -- splitting a laid list behind what is laid
  take_front : (xs : List A) (at : ℕ) (vs : List A) → at ≤ length xs
      → take (at + length vs) (laid xs at vs) ≡ take at xs ++ vs
  unfolding laid
  take_front xs at vs h =
      rw (← append_assoc (take at xs) vs (drop (at + length vs) xs))
      (take_at (take at xs ++ vs) (drop (at + length vs) xs) (at + length vs)
      (length-append (take at xs) vs ∙ ap (λ (n : ℕ). n + length vs) (length-take-le at xs h)))

  drop_front : (xs : List A) (at : ℕ) (vs : List A) → at ≤ length xs
      → drop (at + length vs) (laid xs at vs) ≡ drop (at + length vs) xs
  unfolding laid
  drop_front xs at vs h =
      rw (← append_assoc (take at xs) vs (drop (at + length vs) xs))
      (drop_at (take at xs ++ vs) (drop (at + length vs) xs) (at + length vs)
      (length-append (take at xs) vs ∙ ap (λ (n : ℕ). n + length vs) (length-take-le at xs h)))

  pub laid_nothing : (xs : List A) (at : ℕ) → laid xs at [] ≡ xs
  unfolding laid
  laid_nothing xs at = rw add-zero (take-append-drop at xs)

  pub length_laid :
      (xs : List A) (at : ℕ) (vs : List A) → at + length vs ≤ length xs → length (laid xs at vs) ≡ length xs
  unfolding laid
  length_laid xs at vs h = simp (length-append, length-take, length-drop) (omega arith)

  pub laid_more :
      (xs : List A) (at : ℕ) (vs ws : List A) → at + length vs ≤ length xs →
      laid (laid xs at vs) (at + length vs) ws ≡ laid xs at (vs ++ ws)
  unfolding laid
  laid_more xs at vs ws h =
      ap₂ (λ (l r : List A). l ++ (ws ++ r)) (take_front xs at vs (omega arith))
      (sym (drop-drop (length ws) (at + length vs) (laid xs at vs))
      ∙ ap (drop (length ws)) (drop_front xs at vs (omega arith))
      ∙ drop-drop (length ws) (at + length vs) xs)
      ∙ simp (append_assoc, length-append, add_assoc)

  pub take_laid : (xs : List A) (at : ℕ) (vs : List A) (n : ℕ) → n ≤ at → at ≤ length xs
      → take n (laid xs at vs) ≡ take n xs
  unfolding laid
  take_laid xs at vs n h k =
      take-append-le n (take at xs) (vs ++ drop (at + length vs) xs) (simp length-take (omega arith))
      ∙ take-take n at xs h

  -- a row is the end of the cells up to its own end
  pub row_take : (xs : List A) (a w : ℕ) → row xs a w ≡ drop a (take (a + w) xs)
  unfolding row
  row_take [] a w = simp (drop-nil, take-nil)
  row_take (x ∷ xs) zero w = rw zero-add
  row_take (x ∷ xs) (suc a) w = rw suc-add (row_take xs a w)

  pub row_laid :
      (xs : List A) (at : ℕ) (vs : List A) (a w : ℕ) → a + w ≤ at → at ≤ length xs
      → row (laid xs at vs) a w ≡ row xs a w
  row_laid xs at vs a w h k =
      row_take (laid xs at vs) a w ∙ ap (drop a) (take_laid xs at vs (a + w) h k) ∙ sym (row_take xs a w)

  pub length_row : (xs : List A) (a w : ℕ) → a + w ≤ length xs → length (row xs a w) ≡ w
  unfolding row
  length_row xs a w h = simp (length-take, length-drop) (omega arith)

  pub get_d_row : (xs : List A) (a w c : ℕ) (d : A) → c < w → get_or (row xs a w) c d ≡ get_or xs (a + c) d
  unfolding row
  get_d_row xs a w c d h = get_or-take w (drop a xs) c d h ∙ get_or-drop a xs c d

  pub rows_at_laid :
      (xs : List A) (at : ℕ) (vs : List A) (a n w : ℕ) → a + n * w ≤ at → at ≤ length xs →
      rows_at (laid xs at vs) a n w ≡ rows_at xs a n w
  unfolding rows_at
  rows_at_laid xs at vs a zero w h k = refl
  rows_at_laid xs at vs a (suc n) w h k =
      let e : suc n * w ≡ n * w + w = suc-mul n w in
      ap₂ ◌∷◌ (row_laid xs at vs a w (omega arith) k) (rows_at_laid xs at vs (a + w) n w (omega arith) k)

  pub length_rows_at : (xs : List A) (a n w : ℕ) → length (rows_at xs a n w) ≡ n
  unfolding rows_at
  length_rows_at xs a zero w = refl
  length_rows_at xs a (suc n) w = ap suc (length_rows_at xs (a + w) n w)

  pub set_laid : (xs : List A) (i : ℕ) (v : A) → i < length xs → set xs i v ≡ laid xs i (v ∷ [])
  unfolding laid
  set_laid xs i v h = set_split xs i v h ∙ simp (add-one)

  -- one member more, read at i, of a row that grows
  pub row_suc : (xs : List A) (a n : ℕ) (d : A) → a + n < length xs
      → row xs a (suc n) ≡ row xs a n ++ (get_or xs (a + n) d ∷ [])
  unfolding row
  row_suc xs a n d h =
      take-suc (drop a xs) n d (simp length-drop (omega arith))
      ∙ ap (λ (x : A). take n (drop a xs) ++ (x ∷ [])) (get_or-drop a xs n d)

  pub get_d_laid : (xs : List A) (at : ℕ) (vs : List A) (i : ℕ) (d : A) → i < at → at ≤ length xs
      → get_or (laid xs at vs) i d ≡ get_or xs i d
  get_d_laid xs at vs i d h k =
      sym (get_or-take (suc i) (laid xs at vs) i d (omega arith))
      ∙ ap (λ (l : List A). get_or l i d) (take_laid xs at vs (suc i) h k)
      ∙ get_or-take (suc i) xs i d (omega arith)

  -- one member more, copied from below
  pub copied_more :
      (xs ys : List A) (from to i : ℕ) (d v : A) → ys ≡ laid xs to (row xs from i) → from + i < to → to + i < length xs
      →
      v ≡ get_or ys (from + i) d → set ys (to + i) v ≡ laid xs to (row xs from (i + 1))
  copied_more xs ys from to i d v e h k r =
      let n : length (row xs from i) ≡ i = length_row xs from i (omega arith) in
      let long : length (laid xs to (row xs from i)) ≡ length xs = length_laid xs to (row xs from i) (omega arith) in
      let here : v ≡ get_or xs (from + i) d =
      r ∙ ap (λ (l : List A). get_or l (from + i) d) e ∙ get_d_laid xs to (row xs from i) (from + i) d h (omega arith) in
      ap (λ (l : List A). set l (to + i) v) e
      ∙ set_laid (laid xs to (row xs from i)) (to + i) v (omega arith)
      ∙ ap (λ (m : ℕ). laid (laid xs to (row xs from i)) (to + m) (v ∷ [])) (sym n)
      ∙ laid_more xs to (row xs from i) (v ∷ []) (omega arith)
      ∙ ap (laid xs to)
      (ap (λ (x : A). row xs from i ++ (x ∷ [])) here ∙ sym (row_suc xs from i d (omega arith))
      ∙ ap (row xs from) (sym (add-one i)))

  -- one member more, behind what is laid
  pub set_more :
      (xs ys : List A) (at n : ℕ) (vs : List A) (v : A) → ys ≡ laid xs at vs → length vs ≡ n → at + n < length xs →
      set ys (at + n) v ≡ laid xs at (vs ++ (v ∷ []))
  set_more xs ys at n vs v e k h =
      let long : length (laid xs at vs) ≡ length xs = length_laid xs at vs (omega arith) in
      ap (λ (l : List A). set l (at + n) v) e
      ∙ set_laid (laid xs at vs) (at + n) v (omega arith)
      ∙ ap (λ (m : ℕ). laid (laid xs at vs) (at + m) (v ∷ [])) (sym k)
      ∙ laid_more xs at vs (v ∷ []) (omega arith)

  pub length_snoc : (xs : List A) (x : A) (n : ℕ) → length xs ≡ n → length (xs ++ (x ∷ [])) ≡ n + 1
  length_snoc xs x n e = length-append xs (x ∷ []) ∙ ap (◌+ 1) e
