-- `translate` meets its contract: what stands behind the plan, or behind a refusal, is cleared.
use mathlib.Core.Path.{refl}
use Rattle.translator.proofs.Concluding.{translates_end}
use Rattle.translator.proofs.translate.Goals as goal

pub returns : goal.returns
returns c =
    translates_end _ _ _ _ _ _ _ c.planned-answer.ensures refl c.kept.ensures c.clear.ensures
