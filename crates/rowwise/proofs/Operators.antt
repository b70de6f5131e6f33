-- What the row-wise tasks make of a table is what the operators are defined to make (document 01, 'Plan operators').
--     attach_is .. value_is       RA, RP, RD, RS, RF over the tables that stand in the cells
--     makes_RA .. makes_RV        the same of `make`, where the tables of a plan stand in the cells
use Prim.Native.Nat.{ℕ}
use mathlib.Core.Path.{◌≡◌, refl, sym, ap, ap₂, ◌∙◌, fun_ext}
use mathlib.Core.List.{List, [], ◌∷◌, ◌++◌, map}
use mathlib.Core.Bool.{Bool, true, false, not, cond}
use lib.IntN.{ℤ}
use Rattle.cells.specs.Cell.{same, true_cell}
use Rattle.codes.specs.declared.Function.{Function}
use Rattle.laws.specs.Lists.{any}
use Rattle.laws.specs.Attempt.{Attempt, gives, each}
use Rattle.laws.proofs.Filters.{each_map, each_filter}
use Rattle.meaning.specs.Catalogue.{Catalogue}
use Rattle.meaning.specs.Operators.{Row, Table, cell, same_row, attach, project, minus, select, added, table_of, make}
use Rattle.meaning.specs.Plan.{columns_at, RA, RP, RD, RS, RF, RV}
use Rattle.meaning.specs.World.{world_of, arith, value}
use Rattle.tables.specs.declared.Stand.{Stand}
use Rattle.rowwise.specs.declared.Task.TheVariants.{Attach, Project, Minus, Select, Apply, Value}
use Rattle.tables.specs.Layout.{table_at}
use Rattle.rowwise.specs.Tasks.{made}

-- a test turned round
other_way : {A : Type 0} (b : Bool) (x y : A) → cond b x y ≡ cond (not b) y x
other_way true x y = refl
other_way false x y = refl

module _ (plan : List ℕ) (c : Catalogue) (xs : List ℤ) (t : Table) where
  pub attach_is : (z : ℤ) → gives (attach t z) ≡ each (made plan c xs (Attach z)) t
  unfolding made attach
  attach_is z = sym (each_map (λ (r : Row). r ++ (z ∷ [])) t)

  pub project_is : (n k : ℕ) → gives (project t (columns_at plan k n)) ≡ each (made plan c xs (Project n k)) t
  unfolding made project
  project_is n k = sym (each_map (λ (r : Row). map (cell r) (columns_at plan k n)) t)

  pub minus_is : (s : Stand) → gives (minus t (table_at xs s)) ≡ each (made plan c xs (Minus s)) t
  unfolding made minus
  minus_is s =
      sym
      (ap (λ (f : Row → Attempt Table). each f t)
      (fun_ext (λ (r : Row). ap gives (other_way (any (same_row r) (table_at xs s)) [] (r ∷ []))))
      ∙ each_filter (λ (r : Row). not (any (same_row r) (table_at xs s))) t)

  pub select_is : (k : ℕ) → gives (select t k) ≡ each (made plan c xs (Select k)) t
  unfolding made select
  select_is k = sym (each_filter (λ (r : Row). same (cell r k) true_cell) t)

  pub function_is :
      (f : Function) (k d : ℕ) → added (λ r. arith f (cell r k) (cell r d)) t ≡ each (made plan c xs (Apply f k d)) t
  unfolding made added
  function_is f k d = refl

  pub value_is : (k : ℕ) → added (λ r. value c (cell r k)) t ≡ each (made plan c xs (Value k)) t
  unfolding made added
  value_is k = refl

-- `make`, where tables t and u of the plan stand in the cells at s and q
module _ (plan : List ℕ) (c : Catalogue) (xs : List ℤ) (ts : List Table) where
  module _ (t : ℕ) (s : Stand) (stands : table_at xs s ≡ table_of ts t) where
    pub makes_RA : (z : ℤ) → make (world_of c) (RA t z) ts ≡ each (made plan c xs (Attach z)) (table_at xs s)
    unfolding make
    makes_RA z = ap (λ (l : Table). gives (attach l z)) (sym stands) ∙ attach_is plan c xs (table_at xs s) z

    pub makes_RP :
        (n k : ℕ) → make (world_of c) (RP t (columns_at plan k n)) ts
        ≡ each (made plan c xs (Project n k)) (table_at xs s)
    unfolding make
    makes_RP n k =
        ap (λ (l : Table). gives (project l (columns_at plan k n))) (sym stands)
        ∙ project_is plan c xs (table_at xs s) n k

    pub makes_RS : (k : ℕ) → make (world_of c) (RS t k) ts ≡ each (made plan c xs (Select k)) (table_at xs s)
    unfolding make
    makes_RS k = ap (λ (l : Table). gives (select l k)) (sym stands) ∙ select_is plan c xs (table_at xs s) k

    pub makes_RF :
        (f : Function) (k d : ℕ)
        → make (world_of c) (RF t f k d) ts ≡ each (made plan c xs (Apply f k d)) (table_at xs s)
    unfolding make world_of
    makes_RF f k d =
        ap (added (λ r. arith f (cell r k) (cell r d))) (sym stands)
        ∙ function_is plan c xs (table_at xs s) f k d

    pub makes_RV : (k : ℕ) → make (world_of c) (RV t k) ts ≡ each (made plan c xs (Value k)) (table_at xs s)
    unfolding make world_of
    makes_RV k = ap (added (λ r. value c (cell r k))) (sym stands) ∙ value_is plan c xs (table_at xs s) k

    module _ (u : ℕ) (q : Stand) (other : table_at xs q ≡ table_of ts u) where
      pub makes_RD : make (world_of c) (RD t u) ts ≡ each (made plan c xs (Minus q)) (table_at xs s)
      unfolding make
      makes_RD =
          ap₂ (λ (l r : Table). gives (minus l r)) (sym stands) (sym other)
          ∙ minus_is plan c xs (table_at xs s) q
