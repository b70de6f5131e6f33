-- Where the tables of a run stand (document 01, 'Room': the runner lays tables end to end).
--     stand_at dir t            where table t stands: three numbers of the directory, its first cell, its rows and its
--                              width
--     stand a n w              n rows of width w, from cell a on
--     entered dir t s          the directory with table t at s
--     tables_in xs dir n        the first n tables, as they stand in the cells xs
--     widths_in dir n           their widths
--     ListedTables dir n top   the first n tables stand below cell `top`, and are 1 to 6 wide
--     EndToEnd xs dir n top    the cells below `top` are those of the first n tables, one after another
--     Entry room at w k made xs ys dir n    what the directory says once an operator has laid its table behind those
--                              that are listed, and it is entered
use Rattle.std.specs.Prelude.{ℕ, zero, suc, ◌+◌, ◌*◌, ◌≤◌, ◌<◌, ◌≡◌, List, [], ◌∷◌, ◌++◌, ℤ, length, get_or, set, take}
use Rattle.laws.specs.Attempt.{Attempt, gives}
use Rattle.laws.specs.Lists.{gather}
use Rattle.meaning.specs.Operators.{Table}
use Rattle.laws.specs.Rows.{flat}
use Rattle.tables.specs.declared.Stand.{Stand}
use Rattle.tables.specs.Layout.{table_at, Inside}

unfoldable pub stand_at : List ℕ → ℕ → Stand
stand_at dir t = record { at = get_or dir (3 * t) 0; rows = get_or dir (3 * t + 1) 0; width = get_or dir (3 * t + 2) 0 }

abbrev pub stand : ℕ → ℕ → ℕ → Stand
stand a n w = record { at = a; rows = n; width = w }

unfoldable pub entered : List ℕ → ℕ → Stand → List ℕ
entered dir t s = set (set (set dir (3 * t) s.at) (3 * t + 1) s.rows) (3 * t + 2) s.width

unfoldable pub tables_in : List ℤ → List ℕ → ℕ → List Table
tables_in xs dir zero = []
tables_in xs dir (suc n) = tables_in xs dir n ++ (table_at xs (stand_at dir n) ∷ [])

unfoldable pub widths_in : List ℕ → ℕ → List ℕ
widths_in dir zero = []
widths_in dir (suc n) = widths_in dir n ++ ((stand_at dir n).width ∷ [])

-- there is an entry for each of 512 tables
pub record ListedTables (dir : List ℕ) (n top : ℕ) : Type 0 where
  pub few : n ≤ 512
  pub long : length dir ≡ 1536
  pub inside : (t : ℕ) → t < n → Inside top (stand_at dir t)
  pub wide : (t : ℕ) → t < n → (1 ≤ (stand_at dir t).width) × ((stand_at dir t).width ≤ 6)

unfoldable pub EndToEnd : List ℤ → List ℕ → ℕ → ℕ → Type 0
EndToEnd xs dir n top = take top xs ≡ gather flat (tables_in xs dir n)

pub record Entry (room at w k : ℕ) (made : Attempt Table) (xs ys : List ℤ) (dir : List ℕ) (n : ℕ) : Type 0 where
  pub table : Table
  pub made_is : made ≡ gives table
  pub rows_are : length table ≡ k
  pub fits : at + k * w ≤ room
  pub long : length ys ≡ length xs
  pub tables : tables_in ys (entered dir n (stand at k w)) (n + 1) ≡ tables_in xs dir n ++ (table ∷ [])
  pub widths : widths_in (entered dir n (stand at k w)) (n + 1) ≡ widths_in dir n ++ (w ∷ [])
  pub listed : ListedTables (entered dir n (stand at k w)) (n + 1) (at + k * w)
  pub newest : stand_at (entered dir n (stand at k w)) n ≡ stand at k w
  pub ends : EndToEnd xs dir n at → EndToEnd ys (entered dir n (stand at k w)) (n + 1) (at + k * w)
