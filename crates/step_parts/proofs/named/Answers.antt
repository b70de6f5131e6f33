-- `named` meets its contract: the kind first, then the four bytes of prop, which are not negative.
use mathlib.Core.Path.{◌∙◌}
use borrow.Author.Tests.{le-ltb}
use Rattle.step_parts.proofs.Passing.{named_number, named_below, named_other}
use Rattle.step_parts.proofs.named.Goals as goal

pub returns-then-kind-ne1 : goal.returns-then-kind-ne1
returns-then-kind-ne1 c =
    λ n. named_other _ n _ _ c.kind.ensures.0 c.if-kind-ne1.true

pub returns-then-prop-lt2147483648 : goal.returns-then-prop-lt2147483648
returns-then-prop-lt2147483648 c =
    let element = c.if-kind-ne1.false in
    λ n. named_number _ n _ _ c.kind.ensures.0 c.word4-prop.ensures.0 element c.if-prop-lt2147483648.true

pub returns-else-prop-lt2147483648 : goal.returns-else-prop-lt2147483648
returns-else-prop-lt2147483648 c =
    let element = c.if-kind-ne1.false in
    λ n.
    le-ltb _ _ c.if-prop-lt2147483648.false
    ∙ named_below _ n _ _ c.kind.ensures.0 c.word4-prop.ensures.0 element c.if-prop-lt2147483648.false
