use Rattle.adding.proofs.Adding.{wrote_one}
use Rattle.adding.proofs.add.Goals as goal

pub returns : goal.returns
returns c =
    let a = c.args in
    wrote_one a.operator a.pen _ _ _ c.write-after.ensures
