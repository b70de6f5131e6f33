-- Laws on the directory.
--     length_tables, length_widths     as many as are listed
--     table_of_lem, width_of               table t and its width
--     stand_entered, stand_kept        what is entered stands there; the tables before it stand as they did
--     tables_kept, widths_kept         .. so the tables and widths before it are as they were
--     tables-laid                      laying cells behind the tables changes none of them
--     entry                            what the directory says once an operator has laid its table follows from what
--                                      the operator owes
use Rattle.std.specs.Prelude.{Ok}
use Prim.Native.Nat.{ℕ, zero, suc, ◌+◌, ◌*◌, ◌≤◌, ◌<◌}
use mathlib.Core.Path.{◌≡◌, refl, sym, ap, ap₂, ◌∙◌, subst}
use mathlib.Core.List.{List, [], ◌∷◌, ◌++◌, append-nil, append_assoc}
use native.Mathlib.Omega.{arith}
use native.Mathlib.Numerals.{add-one}
use mathlib.Core.Bool.{Bool, true, false}
use mathlib.Core.Logic.{◌⊎◌, inl, inr, ⊎_elim}
use borrow.Author.Tests.{ltb-true, ltb-false}
use lib.Dec.{ltb}
use Rattle.tables.proofs.Standing.{laid_stands, laid_fits, others_stand, length_stands, flat_rows_at}
use lib.IntN.{ℤ}
use lib.ListN.{length, get_or, set, take, length-append, length-set, get_or-append}
use lib.Seq.{get_or-set_same, get_or-set_other, get_or_at, take-add}
use Rattle.laws.specs.Lists.{gather}
use Rattle.laws.specs.Rows.{row, flat}
use Rattle.laws.proofs.Rows.{take_laid, length_rows_at}
use Rattle.laws.specs.Attempt.{Attempt, gives}
use Rattle.meaning.specs.Operators.{Table, table_of}
use Rattle.tables.specs.declared.Stand.{Stand}
use Rattle.tables.specs.Layout.{table_at, Inside, Owes}
use Rattle.directory.specs.Directory.{stand_at, stand, entered, tables_in, widths_in, ListedTables, EndToEnd, Entry}

-- a member of a list that grew by one
module _ {A : Type 0} (xs : List A) (x d : A) where
  here : (n : ℕ) → length xs ≡ n → get_or (xs ++ (x ∷ [])) n d ≡ x
  here n e = get_or_at xs x [] d n e

  before : (t n : ℕ) → length xs ≡ n → t < n → get_or (xs ++ (x ∷ [])) t d ≡ get_or xs t d
  before t n e h = get_or-append xs (x ∷ []) d t (omega arith)

below_or : (t n : ℕ) → t < suc n → (t < n) ⊎ (t ≡ n)
below_or t n h = by_test (ltb t n) refl
  where
    by_test : (b : Bool) → ltb t n ≡ b → (t < n) ⊎ (t ≡ n)
    by_test true e = inl (ltb-true t n e)
    by_test false e = let k = ltb-false t n e in inr (omega arith)

-- two stands with equal numbers
stand_is : {a n w : ℕ} {s : Stand} → a ≡ s.at → n ≡ s.rows → w ≡ s.width → stand a n w ≡ s
stand_is {w = w} {s = s} p q r = ap₂ (λ (x y : ℕ). stand x y w) p q ∙ ap (stand s.at s.rows) r

module _ (xs : List ℤ) (dir : List ℕ) where
  pub length_tables : (n : ℕ) → length (tables_in xs dir n) ≡ n
  unfolding tables_in
  length_tables zero = refl
  length_tables (suc n) =
      length-append (tables_in xs dir n) (table_at xs (stand_at dir n) ∷ []) ∙ ap (◌+ 1) (length_tables n) ∙ add-one n

  pub table_of_lem : (n t : ℕ) → t < n → table_at xs (stand_at dir t) ≡ table_of (tables_in xs dir n) t
  unfolding tables_in
  table_of_lem zero t h = absurd (omega arith)
  table_of_lem (suc n) t h =
      ⊎_elim
      (λ (k : t < n). table_of_lem n t k ∙ sym (before (tables_in xs dir n) (table_at xs (stand_at dir n)) [] t n
      (length_tables n) k))
      (λ (e : t ≡ n). ap (λ (i : ℕ). table_at xs (stand_at dir i)) e
      ∙ sym (here (tables_in xs dir n) (table_at xs (stand_at dir n)) [] t (length_tables n ∙ sym e)))
      (below_or t n h)

module _ (dir : List ℕ) where
  pub length_widths : (n : ℕ) → length (widths_in dir n) ≡ n
  unfolding widths_in
  length_widths zero = refl
  length_widths (suc n) =
      length-append (widths_in dir n) ((stand_at dir n).width ∷ []) ∙ ap (◌+ 1) (length_widths n) ∙ add-one n

  pub width_of : (n t : ℕ) → t < n → (stand_at dir t).width ≡ get_or (widths_in dir n) t 0
  unfolding widths_in
  width_of zero t h = absurd (omega arith)
  width_of (suc n) t h =
      ⊎_elim
      (λ (k : t < n). width_of n t k ∙ sym (before (widths_in dir n) (stand_at dir n).width 0 t n (length_widths n) k))
      (λ (e : t ≡ n). ap (λ (i : ℕ). (stand_at dir i).width) e
      ∙ sym (here (widths_in dir n) (stand_at dir n).width 0 t (length_widths n ∙ sym e)))
      (below_or t n h)

module _ (dir : List ℕ) (t : ℕ) (s : Stand) where
  pub length_entered : length (entered dir t s) ≡ length dir
  unfolding entered
  length_entered = simp length-set

  pub stand_entered : 3 * t + 3 ≤ length dir → stand_at (entered dir t s) t ≡ s
  unfolding stand_at entered
  stand_entered h =
      let one = set dir (3 * t) s.at in
      let two = set one (3 * t + 1) s.rows in
      stand_is
      (get_or-set_other two (3 * t + 2) (3 * t) s.width 0 (λ e. omega arith)
      ∙ get_or-set_other one (3 * t + 1) (3 * t) s.rows 0 (λ e. omega arith)
      ∙ get_or-set_same dir (3 * t) s.at 0 (omega arith))
      (get_or-set_other two (3 * t + 2) (3 * t + 1) s.width 0 (λ e. omega arith)
      ∙ get_or-set_same one (3 * t + 1) s.rows 0 (simp length-set (omega arith)))
      (get_or-set_same two (3 * t + 2) s.width 0 (simp length-set (omega arith)))

  pub stand_kept : (i : ℕ) → i < t → stand_at (entered dir t s) i ≡ stand_at dir i
  unfolding stand_at entered
  stand_kept i h =
      stand_is (kept (3 * i) (omega arith)) (kept (3 * i + 1) (omega arith)) (kept (3 * i + 2) (omega arith))
    where
      kept : (j : ℕ) → j < 3 * t → get_or (entered dir t s) j 0 ≡ get_or dir j 0
      kept j k =
          let one = set dir (3 * t) s.at in
          let two = set one (3 * t + 1) s.rows in
          get_or-set_other two (3 * t + 2) j s.width 0 (λ e. omega arith)
          ∙ get_or-set_other one (3 * t + 1) j s.rows 0 (λ e. omega arith)
          ∙ get_or-set_other dir (3 * t) j s.at 0 (λ e. omega arith)

-- entering table n leaves those before it
module _ (dir : List ℕ) (n : ℕ) (s : Stand) where
  pub widths_kept : (m : ℕ) → m ≤ n → widths_in (entered dir n s) m ≡ widths_in dir m
  unfolding widths_in
  widths_kept zero h = refl
  widths_kept (suc m) h =
      ap₂ (λ (l : List ℕ) (q : Stand). l ++ (q.width ∷ [])) (widths_kept m (omega arith)) (stand_kept dir n s m h)

  -- .. and laying cells behind those leaves them
  module _ (xs ys : List ℤ) (kept : (t : ℕ) → t < n → table_at ys (stand_at dir t) ≡ table_at xs (stand_at dir t)) where
    pub tables_kept : (m : ℕ) → m ≤ n → tables_in ys (entered dir n s) m ≡ tables_in xs dir m
    unfolding tables_in
    tables_kept zero h = refl
    tables_kept (suc m) h =
        ap₂ (λ (l : List Table) (t : Table). l ++ (t ∷ [])) (tables_kept m (omega arith))
        (ap (table_at ys) (stand_kept dir n s m h) ∙ kept m h)

    pub tables_more :
        (t : Table) → 3 * n + 3 ≤ length dir → table_at ys s ≡ t →
        tables_in ys (entered dir n s) (n + 1) ≡ tables_in xs dir n ++ (t ∷ [])
    unfolding tables_in
    tables_more t h e =
        ap (tables_in ys (entered dir n s)) (add-one n)
        ∙ ap₂ (λ (l : List Table) (u : Table). l ++ (u ∷ [])) (tables_kept n (omega arith))
        (ap (table_at ys) (stand_entered dir n s h) ∙ e)

  pub widths_more : 3 * n + 3 ≤ length dir → widths_in (entered dir n s) (n + 1) ≡ widths_in dir n ++ (s.width ∷ [])
  unfolding widths_in
  widths_more h =
      ap (widths_in (entered dir n s)) (add-one n)
      ∙ ap₂ (λ (l : List ℕ) (q : Stand). l ++ (q.width ∷ [])) (widths_kept n (omega arith)) (stand_entered dir n s h)

-- the cells of tables, one more
gather_more : {A B : Type 0} (f : A → List B) (xs : List A) (x : A) → gather f (xs ++ (x ∷ [])) ≡ gather f xs ++ f x
unfolding gather
gather_more f [] x = append-nil (f x)
gather_more f (y ∷ xs) x = ap (f y ++◌) (gather_more f xs x) ∙ sym (append_assoc (f y) (gather f xs) (f x))

module _ (room at w k : ℕ) (made : Attempt Table) (xs ys : List ℤ) (dir : List ℕ) (n : ℕ)
    (inside : room ≤ length xs) (o : Owes room at w made xs ys (Ok k)) (few : n < 512) (low : 1 ≤ w) (high : w ≤ 6)
    (l : ListedTables dir n at) where
  s : Stand
  s = stand at k w

  there : 3 * n + 3 ≤ length dir
  there = omega (arith, l.long)

  kept : (t : ℕ) → t < n → table_at ys (stand_at dir t) ≡ table_at xs (stand_at dir t)
  kept t h = others_stand room at w made xs ys k inside o (stand_at dir t) (l.inside t h)

  -- what holds of the stands before and of the new one holds of all
  each_stand : (P : Stand → Type 0) → ((t : ℕ) → t < n → P (stand_at dir t)) → P s → (t : ℕ) → t < n + 1 →
      P (stand_at (entered dir n s) t)
  each_stand P old new t h =
      ⊎_elim
      (λ (j : t < n). subst P (sym (stand_kept dir n s t j)) (old t j))
      (λ (e : t ≡ n). subst (λ (i : ℕ). P (stand_at (entered dir n s) i)) (sym e)
      (subst P (sym (stand_entered dir n s there)) new))
      (below_or t n (omega arith))

  listed_more : ListedTables (entered dir n s) (n + 1) (at + k * w)
  unfolding s Inside
  listed_more =
      record {
        few = omega arith;
        long = length_entered dir n s ∙ l.long;
        inside = each_stand (Inside (at + k * w)) (λ t h. omega (arith, l.inside t h)) (omega arith);
        wide = each_stand (λ q. (1 ≤ q.width) × (q.width ≤ 6)) l.wide (low, high);
      }

  t : Table
  t = table_at ys s

  made_is : made ≡ gives t
  unfolding t s table_at
  made_is = laid_stands room at w made xs ys k inside o

  more : tables_in ys (entered dir n s) (n + 1) ≡ tables_in xs dir n ++ (t ∷ [])
  unfolding t
  more = tables_more dir n s xs ys kept (table_at ys s) there refl

  ends_more : EndToEnd xs dir n at → EndToEnd ys (entered dir n s) (n + 1) (at + k * w)
  unfolding EndToEnd Owes t s table_at row
  ends_more e =
      take-add at (k * w) ys
      ∙ ap₂ ◌++◌ (below_kept ∙ e) (sym (flat_rows_at ys at k w))
      ∙ sym (gather_more flat (tables_in xs dir n) t)
      ∙ ap (gather flat) (sym more)
    where
      below_kept : take at ys ≡ take at xs
      below_kept =
          let f = o.fits in
          ap (take at) o.cells_are ∙ take_laid xs at (flat o.table) at (omega arith) (omega arith)

  pub entry : Entry room at w k made xs ys dir n
  unfolding t s table_at
  entry =
      record {
        table = t;
        made_is = made_is;
        rows_are = length_rows_at ys at k w;
        fits = laid_fits room at w made xs ys k o;
        long = length_stands room at w made xs ys k inside o;
        tables = more;
        widths = widths_more dir n s there;
        listed = listed_more;
        newest = stand_entered dir n s there;
        ends = ends_more;
      }
