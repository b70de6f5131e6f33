-- What `suits` leans on, for the operators whose columns or keys stand in the bytes.
--     stands_project, stands_number     the columns, and the keys, stand within the bytes
--     suits_project, suits_number       the tests together are the definition's
use Prim.Native.Nat.{ℕ, ◌+◌, ◌≤◌}
use mathlib.Core.Path.{◌≡◌, subst}
use mathlib.Core.Bool.{Bool, ◌&&◌, ◌||◌}
use mathlib.Core.List.{List}
use lib.Dec.{eqb, ltb, leb}
use lib.ListN.{length}
use Rattle.meaning.specs.Plan.{columns, columns_at}
use Rattle.plan_records.specs.declared.Operator.{Operator}
use Rattle.plan_records.specs.Decoded.{operator_of, ColumnsStand}
use Rattle.plan_widths.specs.Widths.{suitable}
use Rattle.plan_records.proofs.Columns.{columns_length}

module _ (bs : List ℕ) (o : Operator) (s : ColumnsStand bs o) where
  pub stands_project : (t n from : ℕ) → o ≡ Operator.Project t n from → from + n ≤ length bs
  unfolding ColumnsStand
  stands_project t n from e = subst (ColumnsStand bs) e s

  pub stands_number : (t p n from : ℕ) → o ≡ Operator.Number t p n from → from + n ≤ length bs
  unfolding ColumnsStand
  stands_number t p n from e = subst (ColumnsStand bs) e s

  module _ (w v : ℕ) where
    pub suits_project :
        (t n from : ℕ) → o ≡ Operator.Project t n from →
        (a : Bool) → a ≡ columns w (columns_at bs from n) → a && leb n 6 ≡ suitable (operator_of bs o) w v
    unfolding operator_of suitable
    suits_project t n from e a p = rw (p, e, columns_length bs from n (stands_project t n from e))

    pub suits_number :
        (t p n from : ℕ) → o ≡ Operator.Number t p n from → (a : Bool) → a ≡ columns w (columns_at bs from n) →
        ((eqb p 255 || ltb p w) && a) && leb (w + 1) 6 ≡ suitable (operator_of bs o) w v
    unfolding operator_of suitable
    suits_number t p n from e a q = rw (q, e)
