-- `insert` meets its contract: what is put where the rest was moved on is inserted.
use native.Mathlib.Omega.{arith}
use Rattle.recording.proofs.Recording.{inserted}
use borrow.Author.Rules.{rules}
use Rattle.recording.proofs.insert.Goals as goal

pub returns : goal.returns
returns c =
    inserted _ _ _ _ _ _ _ c.requires.1 c.requires.0.within (omega arith) (search rules) c.min.ensures
    c.shift.ensures c.put.ensures
