-- Laws on the one promise of every operator, `Owes`.
--     owes_is, owes_wide                the promise of an equal attempt, at an equal width
--     owes_then, owes_else              one table or another, by a test
--     one_full, one_laid, none_laid     a task that makes one row, or none
--     attached_full, attached_laid      a row with one cell more
--     owes_cell, owes_none              rows that stand on a cell that is worked out first
--     handed_up                         what a `?` hands up is the promise of what it was handed
--     owes_missing, owes_gone           .. where an answer was asked for, and there is none
--     owes_provided, owes_refused       rows that are made where a test holds
--     flat_append, length_flat          the cells of a table
use Rattle.std.specs.Prelude.{Result, Ok, Err, Option, None}
use Rattle.std.specs.Option.{ok_or}
use Rattle.std.specs.Result.{IsErrAnd}
use Rattle.std.proofs.lemmas.Result.{err_from_is_err_and}
use Prim.Native.Nat.{ℕ, suc, ◌+◌, ◌*◌, ◌≤◌, ◌<◌}
use mathlib.Core.Path.{◌≡◌, refl, sym, ap, ◌∙◌, subst}
use mathlib.Core.List.{List, [], ◌∷◌, ◌++◌, append_assoc, append-nil}
use mathlib.Core.Bool.{Bool, true, false, cond}
use native.Mathlib.Omega.{arith}
use native.Mathlib.Nat.{suc-mul, zero-mul}
use lib.IntN.{ℤ}
use lib.ListN.{length, length-append, set}
use Rattle.laws.specs.Lists.{gather}
use Rattle.laws.specs.Rows.{row, laid, flat}
use Rattle.laws.proofs.Rows.{laid_nothing, length_row, length_snoc, set_more}
use Rattle.laws.specs.Attempt.{Attempt, fails, gives, attempt, provided}
use Rattle.meaning.specs.Operators.{Row, Table}
use Rattle.tables.specs.declared.Unlaid.{Unlaid}
use Rattle.tables.specs.declared.Unlaid.TheVariants.{Full, Fails}
use Rattle.tables.specs.Layout.{Wide, Owes}

pub flat_one : (r : Row) → flat (r ∷ []) ≡ r
unfolding flat gather
flat_one r = append-nil r

pub flat_append : (t u : Table) → flat (t ++ u) ≡ flat t ++ flat u
unfolding flat gather
flat_append [] u = refl
flat_append (r ∷ t) u = ap (r ++◌) (flat_append t u) ∙ sym (append_assoc r (flat t) (flat u))

pub length_flat : (w : ℕ) (t : Table) → Wide w t → length (flat t) ≡ length t * w
unfolding flat gather Wide
length_flat w [] h = sym (zero-mul w)
length_flat w (r ∷ t) h =
    let e : suc (length t) * w ≡ length t * w + w = suc-mul (length t) w in
    omega (arith, length-append r (flat t), h.0, length_flat w t h.1)

pub wide_append : (w : ℕ) (t u : Table) → Wide w t → Wide w u → Wide w (t ++ u)
unfolding Wide
wide_append w [] u h k = k
wide_append w (r ∷ t) u h k = (h.0, wide_append w t u h.1 k)

-- the promise of one attempt is that of another that is equal
pub owes_is :
    (room at w : ℕ) {m n : Attempt Table} (xs ys : List ℤ) (o : Result ℕ Unlaid) → m ≡ n → Owes room at w n xs ys o
    → Owes room at w m xs ys o
owes_is room at w xs ys o e h = subst (λ (a : Attempt Table). Owes room at w a xs ys o) (sym e) h

-- the promise at one width is that at an equal one
pub owes_wide :
    (room at : ℕ) (w v : ℕ) (m : Attempt Table) (xs ys : List ℤ) (o : Result ℕ Unlaid) → w ≡ v →
    Owes room at w m xs ys o
    → Owes room at v m xs ys o
owes_wide room at w v m xs ys o e h = subst (λ (n : ℕ). Owes room at n m xs ys o) e h

-- one table or another, by a test
module _ (room at w : ℕ) (t u : Table) (xs ys : List ℤ) (o : Result ℕ Unlaid) where
  pub owes_then : (b : Bool) → b ≡ true → Owes room at w (gives t) xs ys o → Owes room at w (gives (cond b t u)) xs ys o
  owes_then b e h = owes_is room at w xs ys o (ap (λ (c : Bool). gives (cond c t u)) e) h

  pub owes_else :
      (b : Bool) → b ≡ false → Owes room at w (gives u) xs ys o → Owes room at w (gives (cond b t u)) xs ys o
  owes_else b e h = owes_is room at w xs ys o (ap (λ (c : Bool). gives (cond c t u)) e) h

module _ (room at w : ℕ) (r : Row) (xs : List ℤ) (wide : length r ≡ w) where
  pub one_full : room < at + w → Owes room at w (gives (r ∷ [])) xs xs (Err Full)
  unfolding Owes
  one_full h = record { table = r ∷ []; made_is = refl; past = omega arith; long = refl }

  pub one_laid : (ys : List ℤ) → at + w ≤ room → ys ≡ laid xs at r → Owes room at w (gives (r ∷ [])) xs ys (Ok 1)
  unfolding Owes Wide
  one_laid ys h e =
      record {
        table = r ∷ [];
        made_is = refl;
        rows_are = refl;
        wide = (wide, tt);
        fits = omega arith;
        cells_are = e ∙ ap (laid xs at) (sym (flat_one r));
      }

-- a row with one cell more
module _ (room at a w : ℕ) (z : ℤ) (xs : List ℤ) (inside : a + w ≤ length xs) where
  pub attached_full :
      room < at + (w + 1) → Owes room at (w + 1) (gives ((row xs a w ++ (z ∷ [])) ∷ [])) xs xs (Err Full)
  attached_full h =
      one_full room at (w + 1) (row xs a w ++ (z ∷ [])) xs (length_snoc (row xs a w) z w (length_row xs a w inside)) h

  pub attached_laid :
      (ys : List ℤ) (v : ℤ) → at + w < room → room ≤ length xs → ys ≡ laid xs at (row xs a w) → v ≡ z →
      Owes room at (w + 1) (gives ((row xs a w ++ (z ∷ [])) ∷ [])) xs (set ys (at + w) v) (Ok 1)
  attached_laid ys v h k e i =
      one_laid room at (w + 1) (row xs a w ++ (z ∷ [])) xs (length_snoc (row xs a w) z w (length_row xs a w inside))
      (set ys (at + w) v)
      (omega arith)
      (ap (set ys (at + w)) i ∙ set_more xs ys at w (row xs a w) z e (length_row xs a w inside) (omega arith))

pub attached_is :
    (room at a w : ℕ) (z v : ℤ) (xs ys : List ℤ) (o : Result ℕ Unlaid) → v ≡ z →
    Owes room at (w + 1) (gives ((row xs a w ++ (v ∷ [])) ∷ [])) xs ys o →
    Owes room at (w + 1) (gives ((row xs a w ++ (z ∷ [])) ∷ [])) xs ys o
attached_is room at a w z v xs ys o e h =
    subst (λ (u : ℤ). Owes room at (w + 1) (gives ((row xs a w ++ (u ∷ [])) ∷ [])) xs ys o) e h

pub none_laid : (room at w : ℕ) (xs : List ℤ) → at ≤ room → Owes room at w (gives []) xs xs (Ok 0)
unfolding Owes Wide flat gather
none_laid room at w xs h =
    record {
      table = [];
      made_is = refl;
      rows_are = refl;
      wide = tt;
      fits = omega arith;
      cells_are = sym (laid_nothing xs at);
    }

-- rows that stand on a cell that is worked out first
module _ (room at w : ℕ) (o : Attempt ℤ) (g : ℤ → Attempt Table) (xs : List ℤ) where
  pub owes_cell :
      (z v : ℤ) (ys : List ℤ) (l : Result ℕ Unlaid) → gives z ≡ o → v ≡ z → Owes room at w (g v) xs ys l
      → Owes room at w (attempt o g) xs ys l
  unfolding attempt
  owes_cell z v ys l e d h = owes_is room at w xs ys l (ap (λ (a : Attempt ℤ). attempt a g) (sym e) ∙ ap g (sym d)) h

  pub owes_none : fails ≡ o → Owes room at w (attempt o g) xs xs (Err Fails)
  unfolding Owes attempt
  owes_none e = record { made_is = ap (λ (a : Attempt ℤ). attempt a g) (sym e); long = refl }

-- what a `?` hands up
pub handed_up :
    (room at w : ℕ) (made : Attempt Table) (xs ys : List ℤ) (r : Result ℕ Unlaid) (e : Unlaid) →
    IsErrAnd r (λ (d : Unlaid). d ≡ e) → Owes room at w made xs ys (Err e) → Owes room at w made xs ys r
handed_up room at w made xs ys r e h o =
    let p = err_from_is_err_and r h in
    subst (Owes room at w made xs ys) (sym (p.1 ∙ ap Err p.2)) o

-- .. where an answer was asked for, and there is none
pub owes_missing :
    {B : Type 0} (room at w : ℕ) (made : Attempt Table) (xs ys : List ℤ) (t : Option B) (e : Unlaid)
    (r : Result ℕ Unlaid) → IsErrAnd r (λ (d : Unlaid). d ≡ e) → Err e ≡ ok_or t Fails → t ≡ None →
    length ys ≡ length xs → made ≡ fails → Owes room at w made xs ys r
unfolding Owes
owes_missing {B} room at w made xs ys t e r h d n long f =
    let none : Err e ≡ ok_or {T = B} None Fails = d ∙ ap (λ (u : Option B). ok_or u Fails) n in
    let same : e ≡ Fails = cc in
    handed_up room at w made xs ys r e h
    (subst (λ (u : Unlaid). Owes room at w made xs ys (Err u)) (sym same) (record { made_is = f; long = long }))

pub owes_gone :
    {A B : Type 0} (room at w : ℕ) (o : Attempt A) (g : A → Attempt Table) (xs : List ℤ) (t : Option B) (e : Unlaid)
    (r : Result ℕ Unlaid) → IsErrAnd r (λ (d : Unlaid). d ≡ e) → Err e ≡ ok_or t Fails → t ≡ None → o ≡ fails →
    Owes room at w (attempt o g) xs xs r
unfolding attempt
owes_gone {A} room at w o g xs t e r h d n f =
    owes_missing room at w (attempt o g) xs xs t e r h d n refl (ap (λ (a : Attempt A). attempt a g) f)

-- rows that are made where a test holds
module _ (room at w : ℕ) (b : Bool) (m : Attempt Table) (xs : List ℤ) where
  pub owes_provided :
      (ys : List ℤ) (o : Result ℕ Unlaid) → b ≡ true → Owes room at w m xs ys o → Owes room at w (provided b m) xs ys o
  unfolding provided
  owes_provided ys o e h = owes_is room at w xs ys o (ap (λ (t : Bool). provided t m) e) h

  pub owes_refused : b ≡ false → Owes room at w (provided b m) xs xs (Err Fails)
  unfolding Owes provided
  owes_refused e = record { made_is = ap (λ (t : Bool). provided t m) e; long = refl }
