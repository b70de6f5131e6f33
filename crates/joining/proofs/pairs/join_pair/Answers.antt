-- `joining::pairs::join_pair` meets its contract: no test passed, no room, or both rows laid.
use mathlib.Core.Path.{◌∙◌}
use native.Mathlib.Omega.{arith}
use mir.Facts.{to_z-of_z}
use Rattle.joining.specs.Joined.{join_one}
use Rattle.tables.proofs.Promise.{owes_then, owes_else, none_laid}
use Rattle.joining.proofs.Joined.{pair_test, pair_full, pair_laid}
use mir.Syntax.{w64}
use Rattle.joining.proofs.pairs.join_pair.Goals as goal

pub returns-then-not-same : goal.returns-then-not-same
unfolding join_one
returns-then-not-same c =
    let g = c.args in
    let test = pair_test g.work.now g.a g.w g.k g.b g.v g.d _ _ _ (omega arith) (omega arith) c.same.ensures
    (to_z-of_z {w = w64} (record { sfits = c.same-arg-1.given }))
    (to_z-of_z {w = w64} (record { sfits = c.same-arg-2-1.given })) in
    owes_else _ _ _ _ _ _ _ _ _ (test ∙ c.if-not-same.true) (none_laid _ _ _ _ (omega arith))

pub returns-then-room-at : goal.returns-then-room-at
unfolding join_one
returns-then-room-at c =
    let g = c.args in
    let test = pair_test g.work.now g.a g.w g.k g.b g.v g.d _ _ _ (omega arith) (omega arith) c.same.ensures
    (to_z-of_z {w = w64} (record { sfits = c.same-arg-1.given }))
    (to_z-of_z {w = w64} (record { sfits = c.same-arg-2-1.given })) in
    owes_then _ _ _ _ _ _ _ _ _ (test ∙ c.if-not-same.false)
    (pair_full _ _ _ _ _ _ _ (omega arith) (omega arith) (omega arith) (omega arith))

pub returns : goal.returns
unfolding join_one
returns c =
    let g = c.args in
    let test = pair_test g.work.now g.a g.w g.k g.b g.v g.d _ _ _ (omega arith) (omega arith) c.same.ensures
    (to_z-of_z {w = w64} (record { sfits = c.same-arg-1.given }))
    (to_z-of_z {w = w64} (record { sfits = c.same-arg-2-1.given })) in
    owes_then _ _ _ _ _ _ _ _ _ (test ∙ c.if-not-same.false)
    (pair_laid _ _ _ _ _ _ _ (omega arith) (omega arith) (omega arith) _ _ (omega arith) (omega arith)
    c.copy.ensures c.copy-2.ensures)
