-- `beginnings::add_binding` meets its contract.
use Rattle.beginnings.proofs.add_binding.Goals as goal

pub returns-in-For : goal.returns-in-For
returns-in-For c =
    rw c.in-For.is c.add_for.ensures

pub returns-in-Let : goal.returns-in-Let
returns-in-Let c =
    rw c.in-Let.is c.add_let.ensures
