-- The rows of a group, row by row, and the row of two cells that is made of them.
--     group_yes, group_no, group_none    the rows from row i on: row i is of the group, it is not, there is none
--     group_front                        the first row is of its own group
--     counted_more, passed_by, counted_end    how many they are
--     pair_full, pair_laid, pair_is      a row of two cells
--     owes_given, owes_failed            rows that stand on something that is worked out first
use Rattle.std.specs.Prelude.{Result, Ok, Err}
use Prim.Native.Nat.{ℕ, suc, ◌+◌, ◌≤◌, ◌<◌}
use mathlib.Core.Path.{◌≡◌, refl, sym, ap, ap₂, ◌∙◌}
use mathlib.Core.List.{List, [], ◌∷◌}
use mathlib.Core.Bool.{Bool, true, false, cond}
use native.Mathlib.Omega.{arith}
use lib.IntN.{ℤ}
use lib.ListN.{length, get_or, set, drop, drop_of_length-le}
use lib.Seq.{drop-cons}
use Rattle.cells.specs.Cell.{same}
use Rattle.cells.proofs.Cells.{same_refl}
use Rattle.laws.specs.Lists.{filter}
use Rattle.laws.proofs.Rows.{set_laid, set_more}
use Rattle.laws.specs.Attempt.{Attempt, fails, gives, attempt}
use Rattle.meaning.specs.Operators.{Table, group_of}
use Rattle.tables.specs.declared.Unlaid.{Unlaid}
use Rattle.tables.specs.declared.Unlaid.TheVariants.{Full, Fails}
use Rattle.tables.specs.Layout.{Owes}
use Rattle.tables.proofs.Promise.{owes_is, one_full, one_laid}
use Rattle.members.specs.Grouped.{in_front}
use Rattle.tables.specs.Order.{cell_at}

module _ (t : Table) (c : ℕ) (x : ℤ) (i : ℕ) where
  group_split :
      i < length t →
      group_of (drop i t) c x
      ≡ cond (same x (cell_at t c i)) (get_or t i [] ∷ group_of (drop (i + 1) t) c x) (group_of (drop (i + 1) t) c x)
  unfolding group_of filter
  group_split h =
      let next : suc i ≡ i + 1 = omega arith in
      ap (λ (u : Table). group_of u c x) (drop-cons t i [] h ∙ ap (λ (j : ℕ). get_or t i [] ∷ drop j t) next)

  pub group_yes :
      i < length t → same x (cell_at t c i) ≡ true →
      group_of (drop i t) c x ≡ get_or t i [] ∷ group_of (drop (i + 1) t) c x
  group_yes h e =
      group_split h
      ∙ ap (λ (b : Bool). cond b (get_or t i [] ∷ group_of (drop (i + 1) t) c x) (group_of (drop (i + 1) t) c x)) e

  pub group_no :
      i < length t → same x (cell_at t c i) ≡ false → group_of (drop i t) c x ≡ group_of (drop (i + 1) t) c x
  group_no h e =
      group_split h
      ∙ ap (λ (b : Bool). cond b (get_or t i [] ∷ group_of (drop (i + 1) t) c x) (group_of (drop (i + 1) t) c x)) e

  pub group_none : length t ≤ i → group_of (drop i t) c x ≡ []
  unfolding group_of filter
  group_none h = ap (λ (u : Table). group_of u c x) (drop_of_length-le t {i = i} h)

  -- one row more is counted, or passed by
  module _ (n whole : ℕ) (h : i < length t) where
    pub counted_more : same x (cell_at t c i) ≡ true → n + length (group_of (drop i t) c x) ≡ whole
        → n + 1 + length (group_of (drop (i + 1) t) c x) ≡ whole
    counted_more e d = omega (arith, ap length (group_yes h e))

    pub passed_by : same x (cell_at t c i) ≡ false → n + length (group_of (drop i t) c x) ≡ whole
        → n + length (group_of (drop (i + 1) t) c x) ≡ whole
    passed_by e d = omega (arith, ap length (group_no h e))

  pub counted_end : (n whole : ℕ) → length t ≤ i → n + length (group_of (drop i t) c x) ≡ whole → n ≡ whole
  counted_end n whole h d = omega (arith, ap length (group_none h))

pub group_front :
    (t : Table) (c : ℕ) → 0 < length t →
    group_of t c (in_front t c) ≡ get_or t 0 [] ∷ group_of (drop 1 t) c (in_front t c)
group_front t c h = group_yes t c (in_front t c) 0 h (same_refl (in_front t c))

-- a row of two cells
module _ (room at : ℕ) (x y : ℤ) (xs : List ℤ) where
  pub pair_full : room < at + 2 → Owes room at 2 (gives ((x ∷ y ∷ []) ∷ [])) xs xs (Err Full)
  pair_full h = one_full room at 2 (x ∷ y ∷ []) xs refl h

  pub pair_laid :
      (v w : ℤ) → v ≡ x → w ≡ y → at + 2 ≤ room → room ≤ length xs →
      Owes room at 2 (gives ((x ∷ y ∷ []) ∷ [])) xs (set (set xs at v) (at + 1) w) (Ok 1)
  pair_laid v w d e h k =
      one_laid room at 2 (x ∷ y ∷ []) xs refl (set (set xs at v) (at + 1) w) h
      (ap₂ (λ (p q : ℤ). set (set xs at p) (at + 1) q) d e
      ∙ set_more xs (set xs at x) at 1 (x ∷ []) y (set_laid xs at x (omega arith)) refl (omega arith))

pub pair_is :
    (room at : ℕ) (x y v w : ℤ) (xs ys : List ℤ) (o : Result ℕ Unlaid) → v ≡ x → w ≡ y →
    Owes room at 2 (gives ((v ∷ w ∷ []) ∷ [])) xs ys o → Owes room at 2 (gives ((x ∷ y ∷ []) ∷ [])) xs ys o
pair_is room at x y v w xs ys o d e h =
    owes_is room at 2 xs ys o (ap₂ (λ (p q : ℤ). gives ((p ∷ q ∷ []) ∷ [])) (sym d) (sym e)) h

-- rows that stand on something that is worked out first
module _ {A : Type 0} (room at w : ℕ) (o : Attempt A) (g : A → Attempt Table) (xs : List ℤ) where
  pub owes_given :
      (a : A) (ys : List ℤ) (l : Result ℕ Unlaid) → o ≡ gives a → Owes room at w (g a) xs ys l
      → Owes room at w (attempt o g) xs ys l
  unfolding attempt
  owes_given a ys l e h = owes_is room at w xs ys l (ap (λ (p : Attempt A). attempt p g) e) h

  pub owes_failed : (ys : List ℤ) → length ys ≡ length xs → o ≡ fails → Owes room at w (attempt o g) xs ys (Err Fails)
  unfolding Owes attempt
  owes_failed ys l e = record { made_is = ap (λ (p : Attempt A). attempt p g) e; long = l }
