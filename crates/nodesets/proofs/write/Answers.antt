-- `marks::write` meets its contract. The invariant: the n marked ranks below v stand as cells from `at` on, and nothing
-- else has changed.
use Prim.Native.Nat.{◌<◌, ◌+◌, zero-le}
use mathlib.Core.Path.{◌≡◌, refl, ap, ◌∙◌}
use mathlib.Core.List.{map}
use native.Mathlib.Omega.{arith}
use lib.ListN.{length, set, length-set}
use mir.Facts.{to_z-of_z}
use mir.Syntax.{w64}
use Rattle.cells.specs.Cell.{node_cell}
use Rattle.nodesets.proofs.Writing.{laid_begin, laid_skip, node_take, ranks_room}
use Rattle.nodesets.proofs.write.Goals.{then-marks-v, else-marks-v}
use Rattle.nodesets.proofs.write.Goals as goal

pub loop-v-init : goal.loop-v-init
loop-v-init c =
    (zero-le, refl, laid_begin (map node_cell) _ _ _ refl)

pub bounds-marks-v : goal.bounds-marks-v
bounds-marks-v c =
    omega arith

pub node_cell-requires : goal.node_cell-requires
node_cell-requires c =
    omega arith

pub overflow_add-at : goal.overflow_add-at
overflow_add-at c =
    let room : c.args.at + c.loop-v.n < length c.args.work.now = let loop = c.loop-v in
    omega (
      arith,
      ranks_room c.args.marks.now loop.v c.args.rows c.loop-v-test.true c.if-marks-v.true,
      c.requires.fits,
      loop.invariant.2.number,
    ) in
    omega (arith, room)

pub offset_bounds-work-at : goal.offset_bounds-work-at
offset_bounds-work-at c =
    let room : c.args.at + c.loop-v.n < length c.args.work.now = let loop = c.loop-v in
    omega (
      arith,
      ranks_room c.args.marks.now loop.v c.args.rows c.loop-v-test.true c.if-marks-v.true,
      c.requires.fits,
      loop.invariant.2.number,
    ) in
    omega (arith, room, c.well_formed.1.1.0.1)

pub bounds-work-at : goal.bounds-work-at
bounds-work-at c =
    let room : c.args.at + c.loop-v.n < length c.args.work.now = let loop = c.loop-v in
    omega (
      arith,
      ranks_room c.args.marks.now loop.v c.args.rows c.loop-v-test.true c.if-marks-v.true,
      c.requires.fits,
      loop.invariant.2.number,
    ) in
    omega (arith, room, c.loop-v.invariant.1)

pub overflow_add-n : goal.overflow_add-n
overflow_add-n c =
    let room : c.args.at + c.loop-v.n < length c.args.work.now = let loop = c.loop-v in
    omega (
      arith,
      ranks_room c.args.marks.now loop.v c.args.rows c.loop-v-test.true c.if-marks-v.true,
      c.requires.fits,
      loop.invariant.2.number,
    ) in
    omega (arith, room)

pub loop-v-preserved : goal.loop-v-preserved
loop-v-preserved c =
    let loop = c.loop-v in
    let args = c.args in
    elim c.if-marks-v.branch [
      | then-marks-v w ↦
          let room : args.at + loop.n < length args.work.now = omega (
            arith,
            ranks_room args.marks.now loop.v args.rows c.loop-v-test.true w.if-marks-v.true,
            c.requires.fits,
            loop.invariant.2.number,
          ) in
          let placed : c.if-marks-v.work ≡ set loop.work (args.at + loop.n) (node_cell loop.v) =
          w.work-is
          ∙ ap (set loop.work (args.at + loop.n))
          (to_z-of_z {w = w64} (record { sfits = w.node_cell.type_inv }) ∙ w.node_cell.ensures) in (
            omega arith,
            ap length placed ∙ length-set loop.work (args.at + loop.n) (node_cell loop.v) ∙ loop.invariant.1,
            rw (placed, w.n-is)
                (node_take args.marks.now args.at args.work.now loop.v loop.n loop.work loop.invariant.2
                w.if-marks-v.true room),
          )
      | else-marks-v w ↦ (
        omega arith,
        ap length w.work-is ∙ loop.invariant.1,
        rw (w.work-is, w.n-is)
            (laid_skip (map node_cell) _ _ _ loop.v loop.n loop.work loop.invariant.2 w.if-marks-v.false),
      )
    ]

pub returns : goal.returns
returns c =
    let end : c.loop-v.v ≡ c.args.rows = omega arith in
    let done = rw end at c.loop-v.invariant.2 in
    (done.number, done.cells)
