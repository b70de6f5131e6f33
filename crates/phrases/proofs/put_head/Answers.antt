-- `put_head` meets its contract: the variables of its record are in their range.
use mathlib.Core.Path.{subst}
use native.Mathlib.Omega.{arith}
use Rattle.grammar.specs.Written.{for_head, let_head}
use Rattle.pen.proofs.Putting.{pens_none}
use Rattle.query_records.specs.Decoded.{record_of}
use Rattle.query_records.specs.Fields.{Ranged}
use Rattle.phrases.specs.Phrases.{head_of}
use Rattle.phrases.proofs.put_head.Goals as goal

pub put_variable-requires : goal.put_variable-requires
unfolding record_of Ranged
put_variable-requires c =
    (subst (λ k. Ranged (record_of k)) c.in-Variable.is c.requires.0.ranged, omega arith)

pub put_binding-requires : goal.put_binding-requires
unfolding record_of Ranged
put_binding-requires c =
    (subst (λ k. Ranged (record_of k)) c.in-Let.is c.requires.0.ranged, omega arith)

pub put_binding-requires-in-For : goal.put_binding-requires-in-For
unfolding record_of Ranged
put_binding-requires-in-For c =
    (subst (λ k. Ranged (record_of k)) c.in-For.is c.requires.0.ranged, omega arith)

pub returns-in-Let : goal.returns-in-Let
unfolding head_of record_of let_head
returns-in-Let c = rw c.in-Let.is c.put_binding.ensures

pub returns-in-For : goal.returns-in-For
unfolding head_of record_of for_head
returns-in-For c = rw c.in-For.is c.put_binding-in-For.ensures

pub returns-in-Sequence : goal.returns-in-Sequence
unfolding head_of record_of
returns-in-Sequence c = grind (arith, pens_none)
