-- `text_value` meets its contract: no row, no text, or its number.
use mathlib.Core.Path.{◌∙◌, ap}
use Rattle.laws.specs.Attempt.{gives}
use native.Mathlib.Omega.{arith}
use mir.Syntax.{w32, w64}
use Rattle.cells.proofs.Bits.{read_back}
use Rattle.items.proofs.Cases.{text_outside, text_other, text_is}
use Rattle.items.proofs.text_value.Goals as goal

pub returns-then-rows-r : goal.returns-then-rows-r
returns-then-rows-r c =
    text_outside _ _ _ c.if-rows-r.true

pub returns-then-kind-ne-TEXT : goal.returns-then-kind-ne-TEXT
returns-then-kind-ne-TEXT c =
    text_other _ _ _ _ (omega arith) c.kind.ensures.0 c.if-kind-ne-TEXT.true

pub returns : goal.returns
returns c =
    ap gives (read_back w64 c.from.type_inv ∙ c.from.ensures)
    ∙ text_is _ _ _ _ _ (omega arith) c.kind.ensures.0 c.if-kind-ne-TEXT.false
    (read_back w32 c.prop.type_inv ∙ c.prop.ensures)
