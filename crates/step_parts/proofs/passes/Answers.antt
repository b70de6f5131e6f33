-- `step_parts::passes` meets its contract, test by test.
use Rattle.step_parts.proofs.Passing.{any_is_passed, element_is, text_is}
use Rattle.step_parts.proofs.passes.Goals as goal

pub returns-in-AnyNode : goal.returns-in-AnyNode
returns-in-AnyNode c =
    λ n. any_is_passed _ n _ c.in-AnyNode.is

pub returns-in-Element : goal.returns-in-Element
returns-in-Element c =
    λ n. element_is _ n _ c.in-Element.is c.kind.ensures.0

pub returns-in-Text : goal.returns-in-Text
returns-in-Text c =
    λ n. text_is _ n _ c.in-Text.is c.kind-in-Text.ensures.0

pub returns-in-Named : goal.returns-in-Named
returns-in-Named c =
    λ n. rw c.in-Named.is (c.named.ensures n)
