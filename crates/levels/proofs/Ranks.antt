-- The levels of the code, by those of the grammar.
--     order_is     the derived order of the levels is that of the grammar
use mathlib.Core.Path.{◌≡◌, refl}
use Rattle.std.specs.Ordering.{partial_lt}
use Rattle.grammar.specs.Written.{rank, looser}
use Rattle.levels.specs.contracts.LevelPartialOrd.TheImpl.{partial_cmp-value}
use Rattle.levels.specs.declared.Level.{Level}
use Rattle.levels.specs.declared.Level.TheVariants.{Expr, Single, Comparison, Additive, Multiplicative}
use Rattle.levels.specs.declared.Level.TheVariants.{Path, Primary}
use Rattle.levels.specs.Levels.{level_of}

abbrev Orders : Level → Level → Type 0
Orders a b = partial_lt partial_cmp-value.it a b ≡ looser (level_of a) (level_of b)

each : (P : Level → Type 0)
    → P Expr → P Single → P Comparison → P Additive → P Multiplicative → P Path → P Primary → (b : Level) → P b
each P e s c a m p q Expr = e
each P e s c a m p q Single = s
each P e s c a m p q Comparison = c
each P e s c a m p q Additive = a
each P e s c a m p q Multiplicative = m
each P e s c a m p q Path = p
each P e s c a m p q Primary = q

pub order_is : (a b : Level) → Orders a b
unfolding rank looser
order_is Expr = each (Orders Expr) refl refl refl refl refl refl refl
order_is Single = each (Orders Single) refl refl refl refl refl refl refl
order_is Comparison = each (Orders Comparison) refl refl refl refl refl refl refl
order_is Additive = each (Orders Additive) refl refl refl refl refl refl refl
order_is Multiplicative = each (Orders Multiplicative) refl refl refl refl refl refl refl
order_is Path = each (Orders Path) refl refl refl refl refl refl refl
order_is Primary = each (Orders Primary) refl refl refl refl refl refl refl
