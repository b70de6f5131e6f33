-- Rows with their counters, in the order of their numbers (document 01, RN).
--     row_of xs s i              row i of the table s
--     counter_of same c          the counter of a row behind one with the counter c: one more in the same group, else 1
--     counted_from g front c t   the rows of t with their counters, behind the row `front` that has the counter c
--     numbered_rows xs s p ns    the rows of the table s in the order of the numbers ns, counted within equal p
--     Layable xs s p ns at      what laying them at `at` asks: the table stands below, there is room for its rows with
--                               one cell more, and ns begins with the numbers of rows
use Rattle.std.specs.Prelude.{ℕ, ◌+◌, ◌*◌, ◌≤◌, ◌<◌, ◌≡◌, List, [], ◌∷◌, ◌++◌, map, Bool, false, cond}
use Rattle.std.specs.Prelude.{eqb, ℤ, pos, length, get_or}
use Rattle.laws.specs.Rows.{row}
use Rattle.meaning.specs.Operators.{Row, Table, in_group}
use Rattle.tables.specs.declared.Stand.{Stand}
use Rattle.row_order.specs.Order.{Low}

unfoldable pub row_of : List ℤ → Stand → ℕ → Row
row_of xs s i = row xs (s.at + i * s.width) s.width

abbrev pub counter_of : Bool → ℕ → ℕ
counter_of same c = cond same (c + 1) 1

unfoldable pub counted_from : (Row → Row → Bool) → Row → ℕ → Table → Table
counted_from group front c [] = []
counted_from group front c (r ∷ rs) =
    (r ++ (pos (counter_of (group r front) c) ∷ [])) ∷ counted_from group r (counter_of (group r front) c) rs

abbrev pub numbered_rows : List ℤ → Stand → ℕ → List ℕ → Table
numbered_rows xs s p ns = counted_from (in_group p) (row_of xs s 0) 0 (map (row_of xs s) ns)

pub record Layable (xs : List ℤ) (s : Stand) (p : ℕ) (ns : List ℕ) (at : ℕ) : Type 0 where
  pub low : Low s
  pub some_row : 0 < s.rows
  pub few : s.rows ≤ 32768
  pub inside : s.at + s.rows * s.width ≤ at
  pub room : at + s.rows * (s.width + 1) ≤ length xs
  pub numbers : s.rows ≤ length ns
  pub within : (i : ℕ) → i < s.rows → get_or ns i 0 < s.rows
  pub column : eqb p 255 ≡ false → p < s.width
