-- `openings::group` meets its contract.
use native.Mathlib.Omega.{arith}
use mathlib.Core.Path.{refl, sym, ◌∙◌}
use Rattle.grammar.specs.Records.{record_qe}
use Rattle.spelling.specs.declared.Before.TheVariants.{Symbol}
use Rattle.spelling.proofs.Bridging.{looks_first, looks_there}
use Rattle.operands.proofs.Follows.{operand_read}
use Rattle.openings.proofs.Comes.{opens_whole, opens_none, opens_list, group_at, group_empty, group_none, group_list}
use Rattle.openings.proofs.group.Goals as goal

pub returns-then-b-from : goal.returns-then-b-from
returns-then-b-from c =
    λ rd.
    let a = c.args in
    let there = looks_there _ _ _ c.byte-b.ensures 41 (c.if-b-from.true ∙ c.from.ensures)
    (omega arith) in
    opens_whole rd a.parens _
    (operand_read Symbol record_qe
    (group_at rd a.parens _ a.at c.spaces-from.result c.spaces-from.ensures.0
    ∙ group_empty rd a.parens _ _ there.1)
    there.0
    c.add_empty-to.ensures)

pub returns-then-none : goal.returns-then-none
returns-then-none c =
    λ rd.
    let a = c.args in
    opens_none rd a.parens
    (record {
      means =
          group_at rd a.parens _ a.at c.spaces-from.result c.spaces-from.ensures.0
          ∙ group_none rd a.parens _ _ (looks_first _ _ _ c.byte-b.ensures)
          (λ e. c.if-b-from.false (e ∙ sym c.from.ensures))
          c.if-none.true;
      inside = c.spaces-from.ensures.1.inside;
    })

pub returns : goal.returns
returns c =
    λ rd.
    let a = c.args in
    opens_list rd a.parens
    (record {
      means =
          group_at rd a.parens _ a.at c.spaces-from.result c.spaces-from.ensures.0
          ∙ group_list rd a.parens _ _ (looks_first _ _ _ c.byte-b.ensures)
          (λ e. c.if-b-from.false (e ∙ sym c.from.ensures))
          c.if-none.false;
      inside = c.spaces-from.ensures.1.inside;
      same = refl;
    })
