-- `marks::write_rows` meets its contract. The invariant: the rows of the n marked ranks below v stand from `at` on, and
-- nothing else has changed.
use Prim.Native.Nat.{◌<◌, ◌+◌, ◌*◌, zero-le}
use mathlib.Core.Path.{◌≡◌, refl, ap, ◌∙◌}
use mathlib.Core.List.{List}
use native.Mathlib.Omega.{arith}
use lib.IntN.{ℤ}
use lib.ListN.{length, set, length-set}
use mir.Facts.{to_z-of_z}
use mir.Syntax.{w64}
use mir.Val.{of_z, to_z}
use Rattle.cells.specs.Cell.{node_cell}
use Rattle.laws.specs.Rows.{laid}
use Rattle.nodesets.specs.Nodes.{ranks}
use Rattle.nodesets.specs.Nodes.{rows_of}
use Rattle.nodesets.proofs.Writing.{rows_begin, laid_skip, row_take, ranks_room}
use Rattle.nodesets.proofs.write_rows.Goals.{then-marks-v, else-marks-v}
use Rattle.nodesets.proofs.write_rows.Goals as goal

pub loop-v-init : goal.loop-v-init
loop-v-init c =
    (zero-le, refl, rows_begin _ _ _ _)

pub bounds-marks-v : goal.bounds-marks-v
bounds-marks-v c =
    omega arith

pub overflow_mul-cell : goal.overflow_mul-cell
overflow_mul-cell c =
    let room : c.args.at + 2 * c.loop-v.n + 1 < length c.args.work.now = let loop = c.loop-v in
    omega (
      arith,
      ranks_room c.args.marks.now loop.v c.args.rows c.loop-v-test.true c.if-marks-v.true,
      c.requires.fits,
      loop.invariant.2.number,
    ) in
    omega (arith, room)

pub overflow_add-cell : goal.overflow_add-cell
overflow_add-cell c =
    let room : c.args.at + 2 * c.loop-v.n + 1 < length c.args.work.now = let loop = c.loop-v in
    omega (
      arith,
      ranks_room c.args.marks.now loop.v c.args.rows c.loop-v-test.true c.if-marks-v.true,
      c.requires.fits,
      loop.invariant.2.number,
    ) in
    omega (arith, room)

pub offset_bounds-work-at : goal.offset_bounds-work-at
offset_bounds-work-at c =
    let room : c.args.at + 2 * c.loop-v.n + 1 < length c.args.work.now = let loop = c.loop-v in
    omega (
      arith,
      ranks_room c.args.marks.now loop.v c.args.rows c.loop-v-test.true c.if-marks-v.true,
      c.requires.fits,
      loop.invariant.2.number,
    ) in
    omega (arith, room, c.well_formed.1.1.1.0.1)

pub bounds-work-at : goal.bounds-work-at
bounds-work-at c =
    let room : c.args.at + 2 * c.loop-v.n + 1 < length c.args.work.now = let loop = c.loop-v in
    omega (
      arith,
      ranks_room c.args.marks.now loop.v c.args.rows c.loop-v-test.true c.if-marks-v.true,
      c.requires.fits,
      loop.invariant.2.number,
    ) in
    omega (arith, room, c.loop-v.invariant.1)

pub node_cell-requires : goal.node_cell-requires
node_cell-requires c =
    omega arith

pub overflow_mul-n : goal.overflow_mul-n
overflow_mul-n c =
    let room : c.args.at + 2 * c.loop-v.n + 1 < length c.args.work.now = let loop = c.loop-v in
    omega (
      arith,
      ranks_room c.args.marks.now loop.v c.args.rows c.loop-v-test.true c.if-marks-v.true,
      c.requires.fits,
      loop.invariant.2.number,
    ) in
    omega (arith, room)

pub overflow_add-at : goal.overflow_add-at
overflow_add-at c =
    let room : c.args.at + 2 * c.loop-v.n + 1 < length c.args.work.now = let loop = c.loop-v in
    omega (
      arith,
      ranks_room c.args.marks.now loop.v c.args.rows c.loop-v-test.true c.if-marks-v.true,
      c.requires.fits,
      loop.invariant.2.number,
    ) in
    omega (arith, room)

pub overflow_add-at-then-marks-v : goal.overflow_add-at-then-marks-v
overflow_add-at-then-marks-v c =
    let room : c.args.at + 2 * c.loop-v.n + 1 < length c.args.work.now = let loop = c.loop-v in
    omega (
      arith,
      ranks_room c.args.marks.now loop.v c.args.rows c.loop-v-test.true c.if-marks-v.true,
      c.requires.fits,
      loop.invariant.2.number,
    ) in
    omega (arith, room)

pub offset_bounds-work-at-then-marks-v : goal.offset_bounds-work-at-then-marks-v
offset_bounds-work-at-then-marks-v c =
    let room : c.args.at + 2 * c.loop-v.n + 1 < length c.args.work.now = let loop = c.loop-v in
    omega (
      arith,
      ranks_room c.args.marks.now loop.v c.args.rows c.loop-v-test.true c.if-marks-v.true,
      c.requires.fits,
      loop.invariant.2.number,
    ) in
    omega (arith, room, c.well_formed.1.1.1.0.1)

pub bounds-work-at-then-marks-v : goal.bounds-work-at-then-marks-v
bounds-work-at-then-marks-v c =
    let room : c.args.at + 2 * c.loop-v.n + 1 < length c.args.work.now = let loop = c.loop-v in
    omega (
      arith,
      ranks_room c.args.marks.now loop.v c.args.rows c.loop-v-test.true c.if-marks-v.true,
      c.requires.fits,
      loop.invariant.2.number,
    ) in
    simp length-set (omega (arith, room, c.loop-v.invariant.1))

pub overflow_add-n : goal.overflow_add-n
overflow_add-n c =
    let room : c.args.at + 2 * c.loop-v.n + 1 < length c.args.work.now = let loop = c.loop-v in
    omega (
      arith,
      ranks_room c.args.marks.now loop.v c.args.rows c.loop-v-test.true c.if-marks-v.true,
      c.requires.fits,
      loop.invariant.2.number,
    ) in
    omega (arith, room)

pub loop-v-preserved : goal.loop-v-preserved
loop-v-preserved c =
    let loop = c.loop-v in
    let args = c.args in
    elim c.if-marks-v.branch [
      | then-marks-v w ↦
          let room : args.at + 2 * loop.n + 1 < length args.work.now = omega (
            arith,
            ranks_room args.marks.now loop.v args.rows c.loop-v-test.true w.if-marks-v.true,
            c.requires.fits,
            loop.invariant.2.number,
          ) in
          let x = to_z w64 (of_z w64 args.iteration.0) in
          let first = set loop.work (args.at + 2 * loop.n) x in
          let placed : c.if-marks-v.work ≡ set first (args.at + 2 * loop.n + 1) (node_cell loop.v) =
          w.work-is
          ∙ ap (set first (args.at + 2 * loop.n + 1))
          (to_z-of_z {w = w64} (record { sfits = w.node_cell.type_inv }) ∙ w.node_cell.ensures) in (
            omega arith,
            ap length placed
                ∙ length-set first (args.at + 2 * loop.n + 1) (node_cell loop.v)
                ∙ length-set loop.work (args.at + 2 * loop.n) x
                ∙ loop.invariant.1,
            rw (placed, w.n-is)
                (row_take x args.marks.now args.at args.work.now loop.v loop.n loop.work loop.invariant.2
                w.if-marks-v.true room),
          )
      | else-marks-v w ↦ (
        omega arith,
        ap length w.work-is ∙ loop.invariant.1,
        rw (w.work-is, w.n-is) (laid_skip _ _ _ _ loop.v loop.n loop.work loop.invariant.2 w.if-marks-v.false),
      )
    ]

pub returns : goal.returns
returns c =
    let args = c.args in
    let end : c.loop-v.v ≡ args.rows = omega arith in
    let done = rw end at c.loop-v.invariant.2 in
    let rs = ranks args.rows args.marks.now in
    let rows_from : ℤ → List ℤ = λ x. laid args.work.now args.at (rows_of x rs) in (
      done.number,
      done.cells ∙ ap rows_from (to_z-of_z {w = w64} (record { sfits = c.struct_told-1.given.0.1 })),
    )
