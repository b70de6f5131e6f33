-- `fragment` meets its contract. The invariant of its loop: v has the same fragment as the row that was asked for.
use native.Mathlib.Omega.{arith}
use mathlib.Core.Path.{refl, ap, ◌∙◌}
use Rattle.meaning.specs.Catalogue.{catalogue_of}
use Rattle.meaning.specs.World.{fragment}
use Rattle.doc_rows.proofs.Turns.{fragment_first, fragment_found, fragment_back}
use Rattle.doc_rows.proofs.fragment.Goals as goal

pub loop-v-init : goal.loop-v-init
loop-v-init c =
    λ n. refl

pub returns-then-level-eq0 : goal.returns-then-level-eq0
returns-then-level-eq0 c =
    λ n. fragment_found c.args.doc.now n c.loop-v.v c.level.ensures.0 c.if-level-eq0.true ∙ c.loop-v.invariant n

pub loop-v-preserved : goal.loop-v-preserved
loop-v-preserved c =
    λ n.
    fragment_back c.args.doc.now n c.loop-v.v c.level.ensures.0 (omega arith) c.if-level-eq0.false
    ∙ c.loop-v.invariant n

pub returns : goal.returns
returns c =
    λ n.
    fragment_first c.args.doc.now n 0 (omega arith)
    ∙ ap (fragment (catalogue_of c.args.doc.now n)) (omega (arith, c.loop-v-test.false))
    ∙ c.loop-v.invariant n
