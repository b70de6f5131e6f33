-- `write` meets its contract, by the operator's cases.
use borrow.Author.Rules.{rules}
use Rattle.adding.specs.Ruled.{operator_of}
use Rattle.adding.proofs.Adding.{pens_of, pens_cell}
use Rattle.adding.proofs.write.Goals as goal

pub returns-in-Attach : goal.returns-in-Attach
unfolding operator_of
returns-in-Attach c =
    pens_of c.in-Attach.is (pens_cell _ _ (search rules)
    c.attach.ensures)
