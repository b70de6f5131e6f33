-- `gathering::turn` meets its contract: a row that opens no group makes no rows; for one that opens a group the
-- rows are made of the part of the table that has all the group's.
use Prim.Native.Nat.{ℕ, ◌<◌}
use mathlib.Core.Path.{◌≡◌, sym, ap, ◌∙◌, subst}
use native.Mathlib.Omega.{arith}
use Rattle.meaning.specs.Operators.{column, group_of}
use Rattle.tables.specs.Layout.{table_at, Inside}
use Rattle.tables.proofs.Promise.{owes_is, none_laid}
use Rattle.members.specs.Grouped.{in_front, opening}
use Rattle.tables.specs.Order.{cell_at, climbs}
use Rattle.gathering.specs.Gathered.{column_of}
use Rattle.gathering.proofs.Turns.{turn_no, turn_yes}
use Rattle.gathering.proofs.Gathering.{suits_column, suits_wide}
use Rattle.gathering.proofs.turn.Goals as goal

pub opens-requires : goal.opens-requires
unfolding Inside
opens-requires c =
    let inside : c.column_of-c.result < c.args.s.width = omega (arith, c.column_of-c.ensures, suits_column _ _ _ _ _ _ _ c.requires.asks) in
    let told : c.args.up ≡ climbs (column (table_at c.args.work.now c.args.s) c.column_of-c.result) = c.requires.up_value
    ∙ ap (λ k. climbs (column (table_at c.args.work.now c.args.s) k)) (sym c.column_of-c.ensures) in
    record { inside = (omega arith, inside, omega arith); up_value = told }

pub returns-then-not-opens : goal.returns-then-not-opens
returns-then-not-opens c =
    let opened : c.opens.result ≡ opening (table_at c.args.work.now c.args.s) (column_of c.args.gather) c.args.i = c.opens.ensures
    ∙ ap (λ k. opening (table_at c.args.work.now c.args.s) k c.args.i)
    c.column_of-c.ensures in
    owes_is _ _ _ _ _ _ (turn_no _ _ _ _ (sym opened ∙ c.if-not-opens.true))
    (none_laid _ _ _ _ (omega arith))

pub part-group-requires : goal.part-group-requires
unfolding Inside
part-group-requires c =
    let inside : c.column_of-c.result < c.args.s.width = omega (arith, c.column_of-c.ensures, suits_column _ _ _ _ _ _ _ c.requires.asks) in
    let told : c.args.up ≡ climbs (column (table_at c.args.work.now c.args.s) c.column_of-c.result) = c.requires.up_value
    ∙ ap (λ k. climbs (column (table_at c.args.work.now c.args.s) k)) (sym c.column_of-c.ensures) in
    record { inside = (omega arith, inside, omega arith); up_value = told; i_value = sym c.opens.ensures ∙ c.if-not-opens.false }

pub lay_group-requires : goal.lay_group-requires
unfolding Inside
lay_group-requires c =
    record { inside = (omega (arith, c.part-group.ensures.0), c.part-group.ensures.2, omega arith, omega arith); asks = suits_wide _ _ _ _ _ _ _ _ c.part-group.ensures.1 c.requires.asks }

pub returns : goal.returns
returns c =
    let opened : c.opens.result ≡ opening (table_at c.args.work.now c.args.s) (column_of c.args.gather) c.args.i = c.opens.ensures
    ∙ ap (λ k. opening (table_at c.args.work.now c.args.s) k c.args.i)
    c.column_of-c.ensures in
    let parted : let k = column_of c.args.gather in let t = table_at c.args.work.now c.args.s in let p = table_at c.args.work.now c.part-group.result in (in_front p k ≡ cell_at t k c.args.i) × (group_of p k (cell_at t k c.args.i) ≡ group_of t k (cell_at t k c.args.i)) = let t = table_at c.args.work.now c.args.s in
    let p = table_at c.args.work.now c.part-group.result in
    subst
    (λ (k : ℕ).
    (in_front p k ≡ cell_at t k c.args.i)
    × (group_of p k (cell_at t k c.args.i) ≡ group_of t k (cell_at t k c.args.i)))
    c.column_of-c.ensures (c.part-group.ensures.3, c.part-group.ensures.4) in
    let p = parted in
    let does = sym opened ∙ c.if-not-opens.false in
    owes_is _ _ _ _ _ _ (turn_yes _ _ _ _ _ does p.0 p.1) c.lay_group.ensures
