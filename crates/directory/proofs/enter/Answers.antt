-- `directory::enter` meets its contract: three stores.
use native.Mathlib.Omega.{arith}
use lib.ListN.{length-set}
use borrow.Author.Rules.{rules}
use Rattle.directory.specs.Directory.{entered}
use Rattle.directory.proofs.enter.Goals as goal

pub bounds-directory-t-2 : goal.bounds-directory-t-2
bounds-directory-t-2 c =
    simp length-set (omega arith)

pub bounds-directory-t-3 : goal.bounds-directory-t-3
bounds-directory-t-3 c =
    simp length-set (omega arith)

pub returns : goal.returns
unfolding entered
returns c =
    search rules
