-- Laws of what is written over a list, generic in the element.
--     penned_append        written one after the other is written at once
--     penned_length        the list stays as long as it was
--     penned_laid          where all of it fits, it is laid there
--     take_penned          what is written from 0 on stands in front
--     drop_replicate       a repeat, past its start
--     penned_whole         written over zeros from 0 on: padded with zeros
--     cleared_from_0       zeros from 0 on are zeros only
--     cleared_penned       what is written from 0 on, then zeros from its end on: padded with zeros
--     cleared_filled       zeros from a place on
--     cleared_all          past the end nothing is left
use Prim.Native.Nat.{ℕ, suc, ◌+◌, ◌-◌, ◌≤◌}
use mathlib.Core.Path.{◌≡◌, refl, sym, ap, ◌∙◌}
use mathlib.Core.List.{List, [], ◌∷◌, ◌++◌, append-nil}
use native.Mathlib.Omega.{arith}
use native.Mathlib.Nat.{add-zero, zero-add, sub-zero}
use lib.ListN.{
  length,
  take,
  drop,
  set,
  replicate,
  length-set,
  length-replicate,
  replicate-append-replicate,
  length-drop,
  drop_of_length-le,
}
use borrow.Rule.Slice.PartMut.{put_mid}
use lib.Seq.{take_all, take-append_seam, drop_at, length-take-le}
use Rattle.laws.specs.Rows.{laid, padded}
use Rattle.laws.proofs.Rows.{laid_nothing, laid_more, set_laid}
use Rattle.pen.specs.Penned.{penned}

module _ {A : Type 0} where
  pub penned_append :
      (xs : List A) (at : ℕ) (ys zs : List A) → penned xs at (ys ++ zs) ≡ penned (penned xs at ys) (at + length ys) zs
  unfolding penned
  penned_append xs at [] zs = ap (λ (n : ℕ). penned xs n zs) (sym (add-zero at))
  penned_append xs at (y ∷ ys) zs =
      let e : at + 1 + length ys ≡ at + suc (length ys) = omega arith in
      penned_append (set xs at y) (at + 1) ys zs
      ∙ ap (λ (n : ℕ). penned (penned (set xs at y) (at + 1) ys) n zs) e

  pub penned_length : (xs : List A) (at : ℕ) (ys : List A) → length (penned xs at ys) ≡ length xs
  unfolding penned
  penned_length xs at [] = refl
  penned_length xs at (y ∷ ys) = penned_length (set xs at y) (at + 1) ys ∙ length-set xs at y

  pub penned_laid :
      (xs : List A) (at : ℕ) (ys : List A) → at + length ys ≤ length xs → penned xs at ys ≡ laid xs at ys
  unfolding penned
  penned_laid xs at [] h = sym (laid_nothing xs at)
  penned_laid xs at (y ∷ ys) h =
      penned_laid (set xs at y) (at + 1) ys (simp length-set (omega arith))
      ∙ ap (λ (l : List A). laid l (at + 1) ys) (set_laid xs at y (omega arith))
      ∙ laid_more xs at (y ∷ []) ys (omega arith)

  -- laid from 0 on
  laid_front : (xs ys : List A) → laid xs 0 ys ≡ ys ++ drop (length ys) xs
  unfolding laid
  laid_front xs ys = rw zero-add

  pub take_penned : (xs ys : List A) → length ys ≤ length xs → take (length ys) (penned xs 0 ys) ≡ ys
  take_penned xs ys h =
      ap (take (length ys)) (penned_laid xs 0 ys (omega arith) ∙ laid_front xs ys)
      ∙ take-append_seam ys (drop (length ys) xs)

  pub drop_replicate : (k n : ℕ) (z : A) → k ≤ n → drop k (replicate n z) ≡ replicate (n - k) z
  drop_replicate k n z h =
      let e : k + (n - k) ≡ n = omega arith in
      ap (λ (m : ℕ). drop k (replicate m z)) (sym e)
      ∙ ap (drop k) (sym (replicate-append-replicate k (n - k) z))
      ∙ drop_at (replicate k z) (replicate (n - k) z) k (length-replicate k z)

  pub penned_whole : (n : ℕ) (z : A) (ys : List A) → length ys ≤ n → penned (replicate n z) 0 ys ≡ padded z n ys
  unfolding padded
  penned_whole n z ys h =
      penned_laid (replicate n z) 0 ys (rw length-replicate (omega arith))
      ∙ laid_front (replicate n z) ys
      ∙ ap (λ (l : List A). ys ++ l) (drop_replicate (length ys) n z h)

  pub cleared_from_0 : (n : ℕ) (z : A) (xs : List A) → padded z n (take 0 xs) ≡ replicate n z
  unfolding padded
  cleared_from_0 n z xs = ap (λ (m : ℕ). replicate m z) (sub-zero n)

  pub cleared_penned :
      (n : ℕ) (z : A) (xs ys : List A) → length ys ≤ length xs →
      padded z n (take (length ys) (penned xs 0 ys)) ≡ padded z n ys
  cleared_penned n z xs ys h = ap (padded z n) (take_penned xs ys h)

  -- the members from i on, all filled with z
  pub cleared_filled :
      (xs ys : List A) (i : ℕ) (z : A) → i ≤ length xs
      → ys ≡ replicate (length (take (length xs - i) (drop i xs))) z
      → put_mid i (length xs - i) xs ys ≡ padded z (length xs) (take i xs)
  unfolding padded
  cleared_filled xs ys i z h e =
      let rest : length (drop i xs) ≡ length xs - i = length-drop i xs in
      rw (
        e,
        length-take-le (length xs - i) (drop i xs) (omega arith),
        length-take-le i xs h,
        drop_of_length-le (drop i xs) {i = length xs - i} (omega arith),
        append-nil (replicate (length xs - i) z),
      )

  pub cleared_all : (n : ℕ) (z : A) (xs : List A) (i : ℕ) → n ≤ i → length xs ≡ n → padded z n (take i xs) ≡ xs
  unfolding padded
  cleared_all n z xs i h e =
      let none : n - length xs ≡ 0 = omega arith in
      rw (take_all i xs (omega arith), none) (append-nil xs)
