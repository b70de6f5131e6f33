-- What RN owes in each of its answers.
--     owed_none      a table with no row
--     owed_full      the rows with one cell more pass the room
--     owed_laid      the rows laid in the order of the sorted numbers, each with its counter
--     low, product, few      sizes that follow from the room
use Rattle.std.specs.Prelude.{Ok, Err}
use Prim.Native.Nat.{ℕ, zero, suc, ◌+◌, ◌-◌, ◌*◌, ◌≤◌, ◌<◌}
use mathlib.Core.Path.{◌≡◌, refl, sym, ap, ◌∙◌}
use mathlib.Core.List.{List, [], ◌∷◌, map}
use mathlib.Core.Bool.{Bool}
use native.Mathlib.Omega.{arith}
use native.Mathlib.Nat.{le-mul_of_pos_right, mul-le-mul_left, mul-le-mul, mul_comm}
use lib.IntN.{ℤ}
use lib.ListN.{length}
use Rattle.laws.specs.Lists.{below}
use Rattle.laws.specs.Rows.{rows_at, laid, flat}
use Rattle.laws.specs.Sorting.{sort}
use Rattle.laws.proofs.Rows.{length_rows_at}
use Rattle.laws.proofs.Merging.{length_sort}
use Rattle.laws.specs.Lists.{All}
use Rattle.laws.specs.Attempt.{gives}
use Rattle.meaning.specs.Operators.{Row, Table, rising, numbered_after, in_group, number}
use Rattle.tables.specs.declared.Stand.{Stand}
use Rattle.tables.specs.declared.Unlaid.TheVariants.{Full}
use Rattle.tables.specs.Layout.{table_at, Inside, Owes}
use Rattle.tables.proofs.Promise.{none_laid}
use Rattle.row_order.specs.declared.Keys.{Keys}
use Rattle.row_order.specs.declared.Keys.TheVariants.{One, Two}
use Rattle.row_order.specs.Order.{columns_of, order_of, stands_before, KeyColumns, Low}
use Rattle.numbering.specs.Numbered.{row_of, numbered_rows}
use Rattle.numbering.proofs.Counting.{wide_counted}
use Rattle.numbering.proofs.Sorted.{columns_within, numbered_rows_lem, numbers_within, rows_wide}

pub positive : (n : ℕ) → (n ≡ 0 → ⊥) → 0 < n
positive zero h = absurd (h refl)
positive (suc n) h = omega arith

length_numbered : (group : Row → Row → Bool) (earlier t : Table) → length (numbered_after group earlier t) ≡ length t
unfolding numbered_after
length_numbered group earlier [] = refl
length_numbered group earlier (r ∷ t) = ap suc (length_numbered group (r ∷ earlier) t)

-- a table with a key has a column
some_column : (w : ℕ) (keys : Keys) → All (λ k. k < w) (columns_of keys) → 0 < w
some_column w (One a) h = omega (arith, h.0)
some_column w (Two a b) h = omega (arith, h.0)

-- sizes that follow from the room
module _ (s : Stand) (p : ℕ) (keys : Keys) (suits : KeyColumns s.width p keys) where
  column : 0 < s.width
  column = some_column s.width keys (columns_within s.width p keys suits)

  module _ (room at : ℕ) (inside : Inside at s) (within : at ≤ room) (bound : room ≤ 65536) where
    pub low : 0 < s.rows → Low s
    unfolding Inside
    low h =
        let e : s.width ≤ s.width * s.rows = le-mul_of_pos_right s.width h in
        let c : s.width * s.rows ≡ s.rows * s.width = mul_comm s.width s.rows in
        (omega arith, omega arith)

    -- the product that is tested against the room is a small number
    pub product : 0 < s.rows → s.rows * (s.width + 1) ≤ 65536 * 65537
    unfolding Inside
    product h =
        let e : s.rows ≤ s.rows * s.width = le-mul_of_pos_right s.rows column in
        mul-le-mul {n₁ = s.rows} {m₁ = s.width + 1} {n₂ = 65536} {m₂ = 65537} (omega arith) (omega (arith, low h))

    pub few : s.rows * (s.width + 1) ≤ room - at → s.rows ≤ 32768
    few h =
        let two : 2 ≤ s.width + 1 = omega (arith, column) in
        omega (arith, mul-le-mul_left s.rows two)

module _ (xs : List ℤ) (s : Stand) (p : ℕ) (keys : Keys) (room at : ℕ) where
  abbrev result : Table
  result = number (table_at xs s) p (columns_of keys)

  length_number : length result ≡ s.rows
  unfolding number table_at order_of
  length_number =
      length_numbered (in_group p) [] (sort (rising (order_of p keys)) (table_at xs s))
      ∙ length_sort (rising (order_of p keys)) (table_at xs s)
      ∙ length_rows_at xs s.at s.rows s.width

  pub owed_none : s.rows ≡ 0 → at ≤ room → Owes room at (s.width + 1) (gives result) xs xs (Ok 0)
  unfolding number table_at rows_at sort numbered_after
  owed_none e h = rw e (none_laid room at (s.width + 1) xs h)

  pub owed_full : room < at + s.rows * (s.width + 1) → Owes room at (s.width + 1) (gives result) xs xs (Err Full)
  unfolding Owes
  owed_full h = record { table = result; made_is = refl; past = rw length_number h; long = refl }

  -- ns: the numbers of the rows, sorted
  pub owed_laid :
      KeyColumns s.width p keys → (ns : List ℕ) (ys : List ℤ) → s.at + s.rows * s.width ≤ length xs →
      at + s.rows * (s.width + 1) ≤ room → ns ≡ sort (stands_before xs s (order_of p keys)) (below s.rows) →
      ys ≡ laid xs at (flat (numbered_rows xs s p ns)) →
      Owes room at (s.width + 1) (gives result) xs ys (Ok s.rows)
  unfolding Owes
  owed_laid suits ns ys inside fit sorted e =
      let is : result ≡ numbered_rows xs s p ns = numbered_rows_lem xs s p keys suits ns sorted in
      let wide = rows_wide xs s inside ns (numbers_within xs s p keys suits ns sorted) in
      record {
        table = numbered_rows xs s p ns;
        made_is = ap gives is;
        rows_are = ap length (sym is) ∙ length_number;
        wide = wide_counted (in_group p) (row_of xs s 0) 0 s.width (map (row_of xs s) ns) wide;
        fits = fit;
        cells_are = e;
      }
