-- `axes::step` meets its contract, axis by axis.
use borrow.Author.Rules.{rules}
use Rattle.axes.proofs.step.Goals as goal

pub returns-in-Child : goal.returns-in-Child
returns-in-Child c =
    rw c.in-Child.is c.child_step.ensures

pub returns-in-Descendant : goal.returns-in-Descendant
returns-in-Descendant c =
    rw c.in-Descendant.is c.descendant_step.ensures

pub returns-in-DescendantOrSelf : goal.returns-in-DescendantOrSelf
returns-in-DescendantOrSelf c =
    rw c.in-DescendantOrSelf.is c.descendant_step-in-DescendantOrSelf.ensures

pub returns-in-Itself : goal.returns-in-Itself
returns-in-Itself c =
    rw c.in-Itself.is c.self_step.ensures

pub returns-in-Parent : goal.returns-in-Parent
returns-in-Parent c =
    rw c.in-Parent.is c.parent_step.ensures

pub returns-in-Ancestor : goal.returns-in-Ancestor
returns-in-Ancestor c =
    rw c.in-Ancestor.is c.ancestor_step.ensures

pub returns-in-Following : goal.returns-in-Following
returns-in-Following c =
    rw c.in-Following.is c.following_step.ensures

pub returns-in-Preceding : goal.returns-in-Preceding
returns-in-Preceding c =
    rw c.in-Preceding.is c.preceding_step.ensures
