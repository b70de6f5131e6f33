-- What is laid whole is what the operators are defined to make (document 01, 'Plan operators').
--     rooted_is, rooted_none, rooted_fails      RO: the root is looked for where there is a row
--     makes_RT, makes_RK, makes_RO, makes_RU    `make`, where the tables of a plan stand in the cells
use Prim.Native.Nat.{ℕ, ◌<◌}
use mathlib.Core.Path.{◌≡◌, refl, sym, ap, ap₂}
use mathlib.Core.List.{List, [], ◌∷◌, ◌++◌}
use lib.IntN.{ℤ, pos}
use Rattle.laws.specs.Attempt.{fails, gives, attempt, provided, each}
use Rattle.meaning.specs.Catalogue.{Catalogue}
use Rattle.meaning.specs.Operators.{Table, added, rooted, column, once, table_of, make}
use Rattle.meaning.specs.Plan.{RT, RU, RK, RO}
use Rattle.meaning.specs.World.{world_of, root_of}
use Rattle.tables.specs.declared.Stand.{Stand}
use Rattle.tables.specs.Layout.{table_at}
use Rattle.tables.proofs.Unrolled.{rows_head, rows_none}
use Rattle.rowwise.specs.declared.Task.TheVariants.{Attach}
use Rattle.rowwise.specs.Tasks.{made}

pub rooted_is : (plan : List ℕ) (c : Catalogue) (xs : List ℤ) (t : Table) (k : ℕ) (z : ℤ) → gives z ≡ root_of c k
    → rooted (world_of c) t k ≡ each (made plan c xs (Attach z)) t
unfolding made rooted added world_of attempt
rooted_is plan c xs t k z e = rw (← e)

module _ (c : Catalogue) (k : ℕ) (xs : List ℤ) (s : Stand) where
  pub rooted_none : s.rows ≡ 0 → rooted (world_of c) (table_at xs s) k ≡ gives []
  unfolding rooted added each table_at
  rooted_none e = rw (rows_none xs s.at s.rows s.width e)

  pub rooted_fails : 0 < s.rows → fails ≡ root_of c k → rooted (world_of c) (table_at xs s) k ≡ fails
  unfolding rooted added each table_at world_of attempt
  rooted_fails h e = rw (rows_head xs s.at s.rows s.width h, ← e)

-- `make`, where tables t and u of the plan stand in the cells at s and q
module _ (plan : List ℕ) (c : Catalogue) (xs : List ℤ) (ts : List Table) where
  pub makes_RT : make (world_of c) RT ts ≡ gives ((pos 1 ∷ []) ∷ [])
  unfolding make
  makes_RT = refl

  module _ (t : ℕ) (s : Stand) (stands : table_at xs s ≡ table_of ts t) where
    pub makes_RK : (k : ℕ)
        → make (world_of c) (RK t k) ts ≡ provided (once (column (table_at xs s) k)) (gives (table_at xs s))
    unfolding make
    makes_RK k = ap (λ (l : Table). provided (once (column l k)) (gives l)) (sym stands)

    pub makes_RO : (k : ℕ) → make (world_of c) (RO t k) ts ≡ rooted (world_of c) (table_at xs s) k
    unfolding make
    makes_RO k = ap (λ (l : Table). rooted (world_of c) l k) (sym stands)

    module _ (u : ℕ) (q : Stand) (other : table_at xs q ≡ table_of ts u) where
      pub makes_RU : make (world_of c) (RU t u) ts ≡ gives (table_at xs s ++ table_at xs q)
      unfolding make
      makes_RU = ap₂ (λ (l r : Table). gives (l ++ r)) (sym stands) (sym other)
