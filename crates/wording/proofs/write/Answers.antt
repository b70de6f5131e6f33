-- `write` meets its contract: the text of the query, and zeros behind it.
use Prim.Native.Nat.{ℕ}
use mathlib.Core.Path.{ap, ◌∙◌}
use lib.ListN.{length, take}
use Rattle.laws.specs.Rows.{padded}
use Rattle.wording.proofs.write.Goals as goal

pub returns : goal.returns
returns c =
    let w = c.whole-written in (
      w.ensures.0,
      c.clear.ensures
          ∙ ap (λ (n : ℕ). padded 0 (length w.new.text) (take n w.new.text)) c.unwrap_or.ensures
          ∙ w.ensures.1,
    )
