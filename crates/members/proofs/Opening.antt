-- Rows that open a group.
--     opens_first, opens_up, opens_else     the first row; a row where the column climbs; any
use Prim.Native.Nat.{ℕ, zero, suc, ◌-◌, ◌<◌}
use mathlib.Core.Path.{◌≡◌, refl, sym, ap, ap₂, ◌∙◌, subst}
use mathlib.Core.List.{List, [], ◌∷◌}
use mathlib.Core.Bool.{true, false, not, ◌||◌, or-false}
use native.Mathlib.Omega.{arith}
use lib.IntN.{ℤ, pos}
use lib.ListN.{length, get_or, take}
use Rattle.cells.specs.Cell.{same, before}
use Rattle.cells.proofs.Cells.{same_eq, neither_same}
use Rattle.laws.specs.Lists.{any}
use Rattle.laws.specs.Rows.{rows_at}
use Rattle.laws.proofs.Lists.{all_get_d}
use Rattle.laws.proofs.Booleans.{by_cases}
use Rattle.meaning.specs.Operators.{Table, column}
use Rattle.tables.specs.declared.Stand.{Stand}
use Rattle.tables.specs.Layout.{table_at}
use Rattle.members.specs.Grouped.{opening}
use Rattle.tables.specs.Order.{cell_at, climbs}
use Rattle.tables.proofs.Climbing.{climbs_low, climbs_tail, climbs_at}
use Rattle.tables.proofs.Reading.{length_column, get_d_column, column_take, table_above}

-- in a column that climbs a cell that stands above stands just above
above_is :
    (xs : List ℤ) (i : ℕ) → climbs xs ≡ true → suc i < length xs →
    any (same (get_or xs (suc i) (pos 0))) (take (suc i) xs) ≡ same (get_or xs (suc i) (pos 0)) (get_or xs i (pos 0))
unfolding any
above_is [] i e h = absurd (omega arith)
above_is (x ∷ xs) zero e h = or-false (same (get_or xs 0 (pos 0)) x)
above_is (x ∷ xs) (suc i) e h =
    let z = get_or xs (suc i) (pos 0) in
    let y = get_or xs i (pos 0) in
    by_cases (same z x)
    (λ d.
    let low : before y x ≡ false = all_get_d (λ y. before y x ≡ false) xs i (pos 0) (climbs_low x xs e) (omega arith) in
    let here : same z y ≡ true =
    ap (λ (u : ℤ). same u y) (same_eq z x d)
    ∙ neither_same x y (subst (λ (u : ℤ). before u y ≡ false) (same_eq z x d)
    (climbs_at xs i (suc i) (climbs_tail x xs e) (omega arith) (omega arith))) low in
    ap (◌|| any (same z) (take (suc i) xs)) d ∙ sym here)
    (λ d.
    ap (◌|| any (same z) (take (suc i) xs)) d ∙ above_is xs i (climbs_tail x xs e) (omega arith))

module _ (t : Table) (c i : ℕ) where
  pub opens_first : i ≡ 0 → true ≡ opening t c i
  unfolding opening any
  opens_first e = ap (λ (j : ℕ). opening t c j) (sym e)

  pub opens_up :
      climbs (column t c) ≡ true → (i ≡ 0 → ⊥) → i < length t →
      not (same (cell_at t c i) (cell_at t c (i - 1))) ≡ opening t c i
  unfolding opening
  opens_up e n h = go i refl
    where
      go : (j : ℕ) → i ≡ j → not (same (cell_at t c i) (cell_at t c (i - 1))) ≡ opening t c i
      go zero d = absurd (n d)
      go (suc j) d =
          let long = length_column t c in
          let back : i - 1 ≡ j = omega arith in
          ap₂ (λ (k l : ℕ). not (same (cell_at t c k) (cell_at t c l))) d back
          ∙ ap not
          (ap₂ same (sym (get_d_column t c (suc j))) (sym (get_d_column t c j))
          ∙ sym (above_is (column t c) j e (omega arith))
          ∙ ap (λ (x : ℤ). any (same x) (take (suc j) (column t c))) (get_d_column t c (suc j)))
          ∙ ap (λ (k : ℕ). not (any (same (cell_at t c k)) (take k (column t c)))) (sym d)

pub opens_else :
    (xs : List ℤ) (s : Stand) (c i : ℕ) (x : ℤ) → i < s.rows → x ≡ cell_at (table_at xs s) c i →
    not (any (same x) (column (rows_at xs s.at i s.width) c)) ≡ opening (table_at xs s) c i
unfolding opening
opens_else xs s c i x h e =
    ap₂ (λ (u : ℤ) (l : List ℤ). not (any (same u) l)) e
    (ap (λ (t : Table). column t c) (table_above xs s i (omega arith)) ∙ column_take (table_at xs s) c i)
