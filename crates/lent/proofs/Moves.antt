-- Laws on what is copied and laid over a list, generic in the element.
--     drop_laid, get_d_past     what stands behind is as it was
--     row_here                 what was laid stands there
--     part_row                 a part of a slice is a row
--     row_kept                 a row below the part that is kept is as it was
--     copied                   members that are copied to another place
--     filled                   the members from a place on, filled with one
use Prim.Native.Nat.{ℕ, ◌+◌, ◌-◌, ◌≤◌, ◌<◌}
use mathlib.Core.Path.{◌≡◌, sym, ap, ◌∙◌}
use mathlib.Core.Logic.{◌⊎◌, ⊎_elim}
use mathlib.Core.List.{List, [], ◌∷◌, ◌++◌, append_assoc, append-nil}
use native.Mathlib.Omega.{arith}
use native.Mathlib.Numerals.{add-one}
use lib.ListN.{length, take, drop, get_or, set, replicate, length-append, length-replicate, replicate-append-replicate}
use lib.ListN.{drop_of_length-le, length-drop}
use borrow.Rule.Slice.PartMut.{put_mid}
use lib.Seq.{paste}
use Rattle.std.specs.List.{copy_within}
use lib.Seq.{drop_at, take-append_seam, length-take-le, get_or-drop, take-take}
use Rattle.laws.specs.Rows.{row, laid, padded}
use Rattle.laws.proofs.Rows.{get_d_laid, length_row, row_suc, set_more}
use Rattle.laws.proofs.Rows.{row_take}

module _ {A : Type 0} where
  -- a part of a slice is a row
  pub part_row : (xs : List A) (a w : ℕ) → take (a + w - a) (drop a xs) ≡ row xs a w
  unfolding row
  part_row xs a w =
      let e : a + w - a ≡ w = omega arith in
      ap (λ (n : ℕ). take n (drop a xs)) e

  pub row_kept : (xs ys : List A) (n a w : ℕ) → a + w ≤ n → take n ys ≡ take n xs → row ys a w ≡ row xs a w
  row_kept xs ys n a w h e =
      row_take ys a w
      ∙ ap (drop a) (sym (take-take (a + w) n ys h) ∙ ap (take (a + w)) e ∙ take-take (a + w) n xs h)
      ∙ sym (row_take xs a w)

  module _ (xs : List A) (at : ℕ) (vs : List A) where
    pub drop_laid : at ≤ length xs → drop (at + length vs) (laid xs at vs) ≡ drop (at + length vs) xs
    unfolding laid
    drop_laid h =
        rw (← append_assoc (take at xs) vs (drop (at + length vs) xs))
        (drop_at (take at xs ++ vs) (drop (at + length vs) xs) (at + length vs)
        (length-append (take at xs) vs ∙ ap (λ (n : ℕ). n + length vs) (length-take-le at xs h)))

    pub get_d_past : (i : ℕ) (d : A) → at ≤ length xs → at + length vs ≤ i → get_or (laid xs at vs) i d ≡ get_or xs i d
    get_d_past i d h k =
        let n = at + length vs in
        let e : n + (i - n) ≡ i = omega arith in
        ap (λ (j : ℕ). get_or (laid xs at vs) j d) (sym e)
        ∙ sym (get_or-drop n (laid xs at vs) (i - n) d)
        ∙ ap (λ (l : List A). get_or l (i - n) d) (drop_laid h)
        ∙ get_or-drop n xs (i - n) d
        ∙ ap (λ (j : ℕ). get_or xs j d) e

    pub row_here : at ≤ length xs → row (laid xs at vs) at (length vs) ≡ vs
    unfolding row laid
    row_here h =
        ap (take (length vs)) (drop_at (take at xs) (vs ++ drop (at + length vs) xs) at (length-take-le at xs h))
        ∙ take-append_seam vs (drop (at + length vs) xs)

  -- n members, copied to another place
  pub copied :
      (xs : List A) (from n to : ℕ) → from + n ≤ length xs
      → copy_within xs from (from + n) to ≡ laid xs to (row xs from n)
  unfolding row laid
  copied xs from n to h =
      let e : from + n - from ≡ n = omega arith in
      ap (λ (k : ℕ). paste xs to (drop from xs) k) e
      ∙ append_assoc (take to xs) (take n (drop from xs)) (drop (to + n) xs)
      ∙ ap (λ (k : ℕ). take to xs ++ (take n (drop from xs) ++ drop (to + k) xs)) (sym (length_row xs from n h))

  -- the members from a on, all filled with z
  pub filled :
      (xs ys : List A) (a : ℕ) (z : A) → a ≤ length xs
      → ys ≡ replicate (length (take (length xs - a) (drop a xs))) z
      → put_mid a (length xs - a) xs ys ≡ padded z (length xs) (take a xs)
  unfolding padded
  filled xs ys a z h e =
      let rest : length (drop a xs) ≡ length xs - a = length-drop a xs in
      rw (
        e,
        length-take-le (length xs - a) (drop a xs) (omega arith),
        length-take-le a xs h,
        drop_of_length-le (drop a xs) {i = length xs - a} (omega arith),
        append-nil (replicate (length xs - a) z),
      )
