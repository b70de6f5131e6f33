-- `add` meets its contract: what is put behind is added.
use native.Mathlib.Omega.{arith}
use Rattle.recording.proofs.Recording.{added}
use borrow.Author.Rules.{rules}
use Rattle.recording.proofs.add.Goals as goal

pub returns : goal.returns
returns c =
    added _ _ _ _ _ (omega arith) (search rules) c.min.ensures c.put.ensures
