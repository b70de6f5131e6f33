-- The keys of a numbering, read from the plan's bytes.
--     one_column, two_columns     the bytes that name them
--     keys_suit, keys_owe         what is known of the columns is known of the keys
use Rattle.std.specs.Prelude.{Result}
use Prim.Native.Nat.{ℕ, ◌+◌, ◌≤◌}
use mathlib.Core.Path.{◌≡◌, sym, ap, ◌∙◌, subst}
use mathlib.Core.List.{List, [], ◌∷◌}
use mathlib.Core.Bool.{true, ◌&&◌, ◌||◌}
use native.Mathlib.Omega.{arith}
use lib.Dec.{eqb, ltb}
use lib.IntN.{ℤ}
use lib.ListN.{length}
use Rattle.cells.specs.Bytes.{byte_at}
use Rattle.laws.specs.Attempt.{gives}
use Rattle.meaning.specs.Operators.{Table, number}
use Rattle.meaning.specs.Plan.{columns, columns_at}
use Rattle.tables.specs.declared.Unlaid.{Unlaid}
use Rattle.tables.specs.Layout.{Owes}
use Rattle.tables.proofs.Promise.{owes_is}
use Rattle.plans.proofs.Callers.{keys_one, keys_two}
use Rattle.row_order.specs.declared.Keys.{Keys}
use Rattle.row_order.specs.Order.{columns_of, KeyColumns as Suits}

module _ (bs : List ℕ) (from n : ℕ) where
  pub one_column : n ≡ 1 → from + n ≤ length bs → byte_at bs from ∷ [] ≡ columns_at bs from n
  one_column e h = sym (keys_one bs from (omega arith)) ∙ ap (columns_at bs from) (sym e)

  pub two_columns : n ≡ 2 → from + n ≤ length bs → byte_at bs from ∷ byte_at bs (from + 1) ∷ [] ≡ columns_at bs from n
  two_columns e h = sym (keys_two bs from (omega arith)) ∙ ap (columns_at bs from) (sym e)

module _ (ks : Keys) (cs : List ℕ) (p : ℕ) where
  pub keys_suit : (w : ℕ) → columns_of ks ≡ cs → ((eqb p 255 || ltb p w) && columns w cs) ≡ true → Suits w p ks
  unfolding Suits
  keys_suit w e h = subst (λ (l : List ℕ). ((eqb p 255 || ltb p w) && columns w l) ≡ true) (sym e) h

  pub keys_owe :
      (room at w : ℕ) (t : Table) (xs ys : List ℤ) (r : Result ℕ Unlaid) → columns_of ks ≡ cs →
      Owes room at w (gives (number t p (columns_of ks))) xs ys r → Owes room at w (gives (number t p cs)) xs ys r
  keys_owe room at w t xs ys r e h = owes_is room at w xs ys r (ap (λ (l : List ℕ). gives (number t p l)) (sym e)) h
