-- The widths of a run's tables.
--     RowsOf w t             every row of table t has w cells
--     Widths ws ts           tables ts have the widths ws, one each
--     Follows ws ps          the operators of ps fit tables of widths ws, one after another, with the widths they have
--     LastThree ps           there is a last operator, of width 3
--     TablesLaid ws f        what a run fills: tables of the widths ws, and cells filled the cells of the tables
use Rattle.std.specs.Prelude.{ℕ, ◌+◌, ◌≡◌, List, [], ◌∷◌, ◌++◌, length}
use Rattle.laws.specs.Lists.{gather, All}
use Rattle.laws.specs.Attempt.{gives}
use Rattle.meaning.specs.Plan.{width_of, Placed, last_of}
use Rattle.meaning.specs.Operators.{Row, Table}
use Rattle.meaning.specs.Run.{cells, Filled}
use Rattle.laws.specs.Rows.{flat}

abbrev pub RowsOf : ℕ → Table → Type 0
RowsOf w t = All (λ (r : Row). length r ≡ w) t

-- one width for each table
abbrev pub Widths : List ℕ → List Table → Type 0
Widths [] [] = Unit {0}
Widths [] (t ∷ ts) = ⊥
Widths (w ∷ ws) [] = ⊥
Widths (w ∷ ws) (t ∷ ts) = RowsOf w t × Widths ws ts

abbrev pub Follows : List ℕ → List Placed → Type 0
Follows ws [] = Unit {0}
Follows ws (p ∷ ps) = (width_of ws p.op ≡ gives p.width) × Follows (ws ++ (p.width ∷ [])) ps

-- there is a last operator, of width 3
abbrev pub LastThree : List Placed → Type 0
LastThree [] = ⊥
LastThree (p ∷ ps) = (last_of p ps).width ≡ 3

pub record TablesLaid (ws : List ℕ) (f : Filled) : Type 0 where
  pub widths : Widths ws f.tables
  pub cells : f.filled ≡ length (gather flat f.tables)
