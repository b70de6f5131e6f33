-- `whole` meets its contract: the first operator, the query's, and the last two are the whole plan.
use native.Mathlib.Omega.{arith}
use mathlib.Core.Path.{refl}
use lib.Dec.{lit≤}
use Rattle.adding.specs.Ruled.{operator_of}
use Rattle.translator.specs.Answers.{answered}
use Rattle.translator.proofs.Concluding.{whole_asked, whole_room, whole_wrote, many, long, owes_refusal}
use Rattle.translator.proofs.Concluding.{fits_answer, fits_left}
use Rattle.translator.proofs.whole.Goals as goal

pub add-first-requires : goal.add-first-requires
add-first-requires c =
    record { few = lit≤ tt; short = lit≤ tt }

pub expression-body-requires : goal.expression-body-requires
unfolding operator_of
expression-body-requires c =
    whole_asked c.args.query.now _ _ _ c.requires c.add-first.ensures

pub last-end-requires : goal.last-end-requires
unfolding operator_of
last-end-requires c =
    whole_room c.args.query.now _ _ _ c.requires c.add-first.ensures c.expression-body.ensures

pub returns-then-many : goal.returns-then-many
unfolding operator_of answered
returns-then-many c =
    λ q read.
    let wrote =
    whole_wrote c.args.query.now q read c.add-first.ensures c.expression-body.ensures
    c.last-end.ensures in
    let e = many q _ _ _ wrote c.if-many.true in
    owes_refusal q _ _ _ wrote 2 _ _ e refl refl

pub returns-then-longer : goal.returns-then-longer
unfolding operator_of answered
returns-then-longer c =
    λ q read.
    let wrote =
    whole_wrote c.args.query.now q read c.add-first.ensures c.expression-body.ensures
    c.last-end.ensures in
    let e = long q _ _ _ wrote (omega arith) c.if-longer.true in
    owes_refusal q _ _ _ wrote 8 _ _ e refl refl

pub returns : goal.returns
unfolding operator_of answered
returns c =
    λ q read.
    let wrote =
    whole_wrote c.args.query.now q read c.add-first.ensures c.expression-body.ensures
    c.last-end.ensures in (
      fits_answer q _ _ _ wrote c.if-many.false c.if-longer.false,
      fits_left q _ _ _ wrote c.if-many.false c.if-longer.false _ refl,
    )
