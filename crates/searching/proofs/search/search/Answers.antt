-- `searching::search::search` meets its contract. The invariant: the rows before lo are passed, those from hi on are
-- not. The measure is how many rows lie between.
use mathlib.Core.Path.{◌≡◌, sym, ◌∙◌, subst}
use native.Mathlib.Omega.{arith}
use mir.Facts.{to_z-of_z}
use Rattle.searching.specs.Narrowed.{Back}
use Rattle.searching.proofs.Passing.{front_more, back_more}
use Rattle.tables.proofs.Reading.{length_rows}
use Rattle.searching.proofs.Narrowing.{front_cell, back_cell}
use Rattle.searching.proofs.search.search.Goals as goal

pub loop-lo-init : goal.loop-lo-init
loop-lo-init c =
    let e = sym (to_z-of_z c.ranges.x) in (
      omega arith,
      omega arith,
      omega arith,
      front_cell _ _ e _ _ _ c.requires.front.0,
      back_cell _ _ e _ _ _ c.requires.front.1,
    )

pub passes-requires : goal.passes-requires
passes-requires c =
    (c.requires.inside.0, omega arith, omega arith)

pub loop-lo-preserved-then-passes : goal.loop-lo-preserved-then-passes
loop-lo-preserved-then-passes c =
    let g = c.args in (
      omega arith,
      omega arith,
      omega arith,
      front_more _ _ _ c.requires.d_value _ (omega (arith, length_rows g.work.now g.u g.d))
          (sym c.passes.ensures ∙ c.if-passes.true),
      c.loop-lo.invariant.4,
    )

pub loop-lo-preserved : goal.loop-lo-preserved
loop-lo-preserved c =
    let g = c.args in (
      omega arith,
      omega arith,
      omega arith,
      c.loop-lo.invariant.3,
      back_more _ _ _ c.requires.d_value _ (omega (arith, length_rows g.work.now g.u g.d))
          (sym c.passes.ensures ∙ c.if-passes.false),
    )

pub returns : goal.returns
returns c =
    let e = to_z-of_z c.ranges.x in
    let meet : c.loop-lo.hi ≡ c.loop-lo.lo = omega arith in
    record {
      lower_bound = (omega arith, omega arith);
      front_2 = (
        front_cell _ _ e _ _ _ c.loop-lo.invariant.3,
        back_cell _ _ e _ _ _ (subst (Back _ _ _) meet c.loop-lo.invariant.4),
      );
    }
