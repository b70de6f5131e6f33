-- `make` of the operators that go by groups, where a table of the plan stands in the cells at s (document 01, 'Plan
-- operators').
--     makes_RC, makes_RE, makes_RX
use Prim.Native.Nat.{ℕ}
use mathlib.Core.Path.{◌≡◌, sym, ap}
use mathlib.Core.List.{List}
use lib.IntN.{ℤ}
use Rattle.codes.specs.declared.Axis.{Axis}
use Rattle.codes.specs.declared.Test.{Test}
use Rattle.laws.specs.Attempt.{gives}
use Rattle.meaning.specs.World.{World}
use Rattle.meaning.specs.Plan.{RC, RE, RX}
use Rattle.meaning.specs.Operators.{Table, counts, truths, steps, table_of, make}
use Rattle.tables.specs.declared.Stand.{Stand}
use Rattle.tables.specs.Layout.{table_at}

module _ (w : World) (xs : List ℤ) (ts : List Table) (t : ℕ) (s : Stand) (stands : table_at xs s ≡ table_of ts t) where
  pub makes_RC : (c : ℕ) → make w (RC t c) ts ≡ gives (counts (table_at xs s) c)
  unfolding make
  makes_RC c = ap (λ (l : Table). gives (counts l c)) (sym stands)

  pub makes_RE : make w (RE t) ts ≡ truths w (table_at xs s)
  unfolding make
  makes_RE = ap (truths w) (sym stands)

  pub makes_RX : (axis : Axis) (test : Test) → make w (RX t axis test) ts ≡ steps w axis test (table_at xs s)
  unfolding make
  makes_RX axis test = ap (steps w axis test) (sym stands)
