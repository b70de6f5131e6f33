-- Operators that never have to choose between two rows by how they stand. RN puts rows in order by its columns, RE
-- looks at iteration and place; where no two rows are equal in these, it is the same whichever row stood first.
--     alike cs r s          rows r and s are equal in every column of cs
--     Untied same xs        no two members of xs are the same
--     Distinct cs f rows    no two typed rows are equal in the columns cs, each as the row of cells that f says
--     ordered_by p ks        the columns by which RN orders: p, then the keys; 255: the keys alone
--     RowsApart o ts        operator o, on the tables ts, meets no two rows that it would take as they stand
--     Tieless w os ts       .. and so does each of the operators os, on the tables ts and those made before it
use Rattle.std.specs.Prelude.{ℕ, ◌≡◌, List, [], ◌∷◌, ◌++◌, Bool, true, false, cond, ◌&&◌, eqb}
use Rattle.cells.specs.Cell.{same}
use Rattle.laws.specs.Lists.{any}
use Rattle.laws.specs.Attempt.{gives}
use Rattle.meaning.specs.World.{World}
use Rattle.meaning.specs.Plan.{Op, RT, RA, RP, RU, RD, RS, RJ, RN, RF, RV, RC, RE, RK, RX, RO}
use Rattle.meaning.specs.Operators.{Row, Table, cell, table_of, make}

unfoldable pub alike : List ℕ → Row → Row → Bool
alike [] r s = true
alike (c ∷ cs) r s = same (cell r c) (cell s c) && alike cs r s

abbrev pub Untied : {A : Type 0} → (A → A → Bool) → List A → Type 0
Untied equal [] = Unit {0}
Untied equal (x ∷ xs) = (any (equal x) xs ≡ false) × Untied equal xs

abbrev pub Distinct : {A : Type 0} → List ℕ → (A → Row) → List A → Type 0
Distinct cs f rows = Untied (λ x y. alike cs (f x) (f y)) rows

abbrev pub ordered_by : ℕ → List ℕ → List ℕ
ordered_by p ks = cond (eqb p 255) ks (p ∷ ks)

-- all other operators look at each row by itself, or at all of them alike
abbrev pub RowsApart : Op → List Table → Type 0
RowsApart RT ts = Unit {0}
RowsApart (RA t z) ts = Unit {0}
RowsApart (RP t cs) ts = Unit {0}
RowsApart (RU t u) ts = Unit {0}
RowsApart (RD t u) ts = Unit {0}
RowsApart (RS t c) ts = Unit {0}
RowsApart (RJ t c u d) ts = Unit {0}
RowsApart (RN t p ks) ts = Untied (alike (ordered_by p ks)) (table_of ts t)
RowsApart (RF t f c d) ts = Unit {0}
RowsApart (RV t c) ts = Unit {0}
RowsApart (RC t c) ts = Unit {0}
RowsApart (RE t) ts = Untied (alike (0 ∷ 1 ∷ [])) (table_of ts t)
RowsApart (RK t c) ts = Unit {0}
RowsApart (RX t axis _) ts = Unit {0}
RowsApart (RO t k) ts = Unit {0}

abbrev pub Tieless : World → List Op → List Table → Type 0
Tieless w [] ts = Unit {0}
Tieless w (o ∷ os) ts = RowsApart o ts × ((t : Table) → make w o ts ≡ gives t → Tieless w os (ts ++ (t ∷ [])))
