-- `gathering::each_group` meets its contract, turn by turn.
use Prim.Native.Nat.{◌+◌, ◌*◌, ◌≤◌}
use mathlib.Core.Path.{◌≡◌, refl, sym, ap, ◌∙◌}
use native.Mathlib.Omega.{arith}
use lib.ListN.{length}
use Rattle.meaning.specs.Operators.{Table, column}
use Rattle.std.proofs.lemmas.Result.{err_from_is_err_and}
use Rattle.tables.specs.Layout.{Inside}
use Rattle.tables.proofs.Laying.{length_laying}
use Rattle.tables.specs.Order.{climbs}
use Rattle.gathering.specs.Gathered.{column_of}
use Rattle.tables.proofs.Reading.{length_table}
use Rattle.gathering.proofs.Gathering.{suits_long}
use Rattle.gathering.proofs.Passing.{lays_first, lays_more, lays_stopped, lays_end, stands, laid_fits, laid_counts}
use Rattle.gathering.proofs.each_group.Goals as goal

pub loop-i-init : goal.loop-i-init
loop-i-init c =
    (refl, refl, lays_first _ _ _ _ _ _ (omega arith))

pub turn-requires : goal.turn-requires
unfolding Inside
turn-requires c =
    let l = c.loop-i.invariant.2 in
    let long : length c.loop-i.work ≡ length c.args.work.now = length_laying _ _ _ _ _ _ _ _ _ (omega arith) l in
    record {
      inside = (omega (arith, l.top_is), omega arith, omega (arith, l.fits), omega (arith, long));
      asks = suits_long _ _ _ _ _ _ _ _ _ c.loop-i.invariant.0 c.loop-i.invariant.1 c.requires.asks;
      up_value =
          c.requires.up_value
          ∙ ap (λ (t : Table). climbs (column t (column_of c.args.gather)))
          (sym (stands _ _ _ _ _ _ _ _ _ _ l c.args.s refl c.requires.inside.0 (omega arith) (omega arith)));
    }

pub returns-in_err-m : goal.returns-in_err-m
returns-in_err-m c =
    let p = err_from_is_err_and c.from_residual.result c.from_residual.ensures.1 in
    rw (p.1, p.2)
    (lays_stopped _ _ _ _ _ _ _ _ _ _ c.loop-i.invariant.2 c.args.s refl c.requires.inside.0 (omega arith)
    (omega arith) _
    (omega arith) _ c.requires.settled c.in_err-m.ensures)

pub overflow_mul-top : goal.overflow_mul-top
overflow_mul-top c =
    let room-left : c.loop-i.top + c.in_ok-m.m * 2 ≤ c.args.room = laid_fits _ _ _ _ _ _ _ _ _ _ c.loop-i.invariant.2
    c.args.s refl c.requires.inside.0 (omega arith) (omega arith) _ _ c.in_ok-m.ensures in
    omega (arith, room-left)

pub overflow_add-top : goal.overflow_add-top
overflow_add-top c =
    let room-left : c.loop-i.top + c.in_ok-m.m * 2 ≤ c.args.room = laid_fits _ _ _ _ _ _ _ _ _ _ c.loop-i.invariant.2
    c.args.s refl c.requires.inside.0 (omega arith) (omega arith) _ _ c.in_ok-m.ensures in
    omega (arith, room-left)

pub overflow_add-n : goal.overflow_add-n
overflow_add-n c =
    let counted : c.loop-i.n + c.in_ok-m.m ≤ c.args.room = laid_counts _ _ _ _ _ _ _ _ _ _ c.loop-i.invariant.2
    c.args.s refl c.requires.inside.0 (omega arith) (omega arith) _ _ c.in_ok-m.ensures in
    omega (arith, counted)

pub loop-i-preserved : goal.loop-i-preserved
loop-i-preserved c = (
  c.turn.auto.from ∙ c.loop-i.invariant.0,
  c.turn.auto.to ∙ c.loop-i.invariant.1,
  lays_more _ _ _ _ _ _ _ _ _ _ c.loop-i.invariant.2 c.args.s refl c.requires.inside.0 (omega arith) (omega arith) _
      (omega arith) _ c.in_ok-m.ensures,
)

pub returns : goal.returns
returns c =
    lays_end _ _ _ _ _ _ _ _ _ _ c.loop-i.invariant.2
    (omega (arith, length_table c.args.work.now c.args.s))
