-- Rows of which no two are equal in the columns of a sort have one order by these columns, however they stand.
--     by_column c           column c of a row of cells as a key
--     tied_alike           rows that the sort would leave as they stand are equal in its columns
--     short_class          where no two members are equal, at most one passes a test that passes equal members alone
--     sort_permuted        untied rows have one sort
--     untied_group         the rows of one group that are told apart by group and place are told apart by place
use Prim.Native.Nat.{ℕ, ◌≤◌}
use native.Mathlib.Omega.{arith}
use mathlib.Core.Path.{◌≡◌, refl, sym, ap, ◌∙◌, subst, fun_ext}
use mathlib.Core.List.{List, [], ◌∷◌, map}
use mathlib.Core.Bool.{Bool, true, false, ◌||◌, ◌&&◌}
use lib.IntN.{ℤ}
use lib.ListN.{length}
use Rattle.cells.specs.Cell.{same, before}
use Rattle.cells.proofs.Cells.{same_eq}
use Rattle.laws.specs.Lists.{filter, All}
use Rattle.laws.specs.Sorting.{sort, tied}
use Rattle.laws.specs.Keyed.{Key, rising_by, LawfulKey}
use Rattle.laws.proofs.Booleans.{by_cases, clash, both_true}
use Rattle.laws.proofs.Lists.{all_map, all_both, all_kept, filter_none}
use Rattle.laws.proofs.Filters.{all_filter, filter_yes, filter_no}
use Rattle.laws.proofs.Sorting.{rising_by_weak, tied_keys, sort_classes}
use Rattle.meaning.specs.Operators.{Row, Table, cell, rising, group_of}
use Rattle.agreement.specs.Typed.{by_cell}
use Rattle.agreement.specs.Tieless.{alike, Untied}
use Rattle.agreement.proofs.Keys.{by_cell_lawful}
use Rattle.agreement.proofs.Untied.{none_of, any_none}
use Rattle.order.specs.Shuffled.{Permuted}
use Rattle.order.proofs.Permuted.{filter_permuted, permuted_short}

abbrev by_column : ℕ → Key Row
by_column c = by_cell (λ r. cell r c)

rising_keys : (cs : List ℕ) (r s : Row) → rising cs r s ≡ rising_by (map by_column cs) r s
unfolding rising rising_by
rising_keys [] r s = refl
rising_keys (c ∷ cs) r s =
    ap (λ (b : Bool). before (cell r c) (cell s c) || (same (cell r c) (cell s c) && b)) (rising_keys cs r s)

lawful_columns : (cs : List ℕ) → All LawfulKey (map by_column cs)
lawful_columns [] = tt
lawful_columns (c ∷ cs) = (by_cell_lawful _, lawful_columns cs)

tied_alike : (cs : List ℕ) (r s : Row) → tied (rising_by (map by_column cs)) r s ≡ true → alike cs r s ≡ true
unfolding alike
tied_alike [] r s e = refl
tied_alike (c ∷ cs) r s e =
    let h = tied_keys (by_column c) (map by_column cs) (by_cell_lawful _) r s e in
    rw h.0 (tied_alike cs r s h.1)

-- rows that are equal to a third are equal
alike_both : (cs : List ℕ) (z r s : Row) → alike cs z r ≡ true → alike cs z s ≡ true → alike cs r s ≡ true
unfolding alike
alike_both [] z r s e d = refl
alike_both (c ∷ cs) z r s e d =
    let h = both_true (same (cell z c) (cell r c)) (alike cs z r) e in
    let k = both_true (same (cell z c) (cell s c)) (alike cs z s) d in
    let here : same (cell r c) (cell s c) ≡ true =
    subst (λ (x : ℤ). same x (cell s c) ≡ true) (same_eq (cell z c) (cell r c) h.0) k.0 in
    rw here (alike_both cs z r s h.1 k.1)

short_class : {A : Type 0} (equal : A → A → Bool) (p : A → Bool)
    → ((x y : A) → p x ≡ true → p y ≡ true → equal x y ≡ true) → (xs : List A) → Untied equal xs
    → length (filter p xs) ≤ 1
unfolding filter
short_class equal p one [] h = omega arith
short_class {A} equal p one (x ∷ xs) h =
    by_cases (p x)
    (λ e.
    let others : filter p xs ≡ [] =
    filter_none p xs
    (all_map xs (λ y d. by_cases (p y) (λ k. clash (one x y e k) d) (λ k. k)) (none_of (equal x) xs h.0)) in
    subst (λ (l : List A). length l ≤ 1) (sym (filter_yes p x xs e ∙ ap (λ (l : List A). x ∷ l) others)) (omega arith))
    (λ e. subst (λ (l : List A). length l ≤ 1) (sym (filter_no p x xs e)) (short_class equal p one xs h.1))

pub sort_permuted : (cs : List ℕ) {t u : Table} → Untied (alike cs) t → Permuted t u
    → sort (rising cs) t ≡ sort (rising cs) u
sort_permuted cs {t} {u} h d =
    ap (λ order. sort order t) keys
    ∙ sort_classes (rising_by (map by_column cs)) (rising_by_weak _ (lawful_columns cs)) t u
    (λ z. permuted_short (filter_permuted (tied (rising_by (map by_column cs)) z) d)
    (short_class (alike cs) (tied (rising_by (map by_column cs)) z)
    (λ r s e k. alike_both cs z r s (tied_alike cs z r e) (tied_alike cs z s k)) t h))
    ∙ ap (λ order. sort order u) (sym keys)
  where
    keys : rising cs ≡ rising_by (map by_column cs)
    keys = fun_ext (λ r. fun_ext (λ s. rising_keys cs r s))

pub untied_group : (x : ℤ) (t : Table) → Untied (alike (0 ∷ 1 ∷ [])) t → Untied (alike (1 ∷ [])) (group_of t 0 x)
unfolding group_of filter alike
untied_group x [] h = tt
untied_group x (r ∷ t) h =
    by_cases (same x (cell r 0))
    (λ e. rw e (
      any_none _ (group_of t 0 x) (all_map (group_of t 0 x) (λ s k. apart s e k.0 k.1)
          (all_both _ _ (group_of t 0 x) (all_filter (λ s. same x (cell s 0)) t)
          (all_kept (λ s. same x (cell s 0)) _ t (none_of _ t h.0)))),
      untied_group x t h.1,
    ))
    (λ e. rw e (untied_group x t h.1))
  where
    apart : (s : Row) → same x (cell r 0) ≡ true → same x (cell s 0) ≡ true → alike (0 ∷ 1 ∷ []) r s ≡ false
        → alike (1 ∷ []) r s ≡ false
    apart s e k d =
        let here : same (cell r 0) (cell s 0) ≡ true =
        subst (λ (y : ℤ). same y (cell s 0) ≡ true) (same_eq x (cell r 0) e) k in
        sym (rw here) ∙ d
