-- `step` meets its contract.
use Prim.Native.Nat.{ℕ}
use mathlib.Core.Path.{ap, ap₂}
use mathlib.Core.List.{[], ◌∷◌}
use Rattle.cells.specs.Bytes.{bytes_of}
use Rattle.meaning.specs.Written.{operator_bytes}
use Rattle.pen.proofs.Putting.{pens_more, pens_as}
use borrow.Author.Rules.{rules}
use Rattle.writing.proofs.step.Goals as goal

pub put_pair-name-requires : goal.put_pair-name-requires
unfolding bytes_of
put_pair-name-requires c =
    search rules

pub put2-requires : goal.put2-requires
unfolding bytes_of
put2-requires c =
    search rules

pub returns : goal.returns
unfolding operator_bytes
returns c =
    let numbers = ap₂ (λ (x y : ℕ). x ∷ y ∷ []) c.from.ensures c.test_number.ensures in
    pens_more c.head-field.ensures
    (pens_more (pens_as numbers c.put_pair-name.ensures)
    (pens_as (ap (bytes_of 2) c.test_name.ensures) c.put2.ensures))
