-- `looser` meets its contract: the derived order of the variants is that of the levels.
use mathlib.Core.Path.{◌∙◌}
use Rattle.levels.proofs.Ranks.{order_is}
use Rattle.levels.proofs.looser.Goals as goal

pub returns : goal.returns
returns c = c.lt.ensures ∙ order_is c.args.own c.args.asked
