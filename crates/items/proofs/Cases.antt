-- The definitions case by case, as code goes through them.
--     number_ranged              an integer within the range, or none
--     number_quotient            the quotient, or none
--     function_is                the same function of the same integers
--     arith_first .. arith_both  function of two cells, by what the cells hold
--     value_is                   the value of the same item
--     truth_one                  the truth of an integer
--     text-..                    the value of a node
--     truth_none, truth_first    truth of no items, and of a first one
--     root_is, root_none   the root of a fragment; its rank is below the number of rows
use Rattle.std.specs.Prelude.{Some, None}
use Prim.Native.Nat.{ℕ, zero, suc, ◌-◌, ◌≤◌, ◌<◌}
use mathlib.Core.Path.{◌≡◌, refl, ap, subst}
use mathlib.Core.List.{List, [], ◌∷◌}
use mathlib.Core.Bool.{Bool, true, false, not, cond}
use native.Mathlib.Omega.{arith}
use lib.Dec.{eqb}
use lib.IntN.{ℤ, pos}
use lib.ListN.{length, get_or}
use lib.Signed.{quot_z}
use borrow.Author.Tests.{lt-ltb, le-ltb, eq-eqb, ne_eqb}
use Rattle.cells.specs.Cell.{same, in_range, held, node_cell}
use Rattle.cells.specs.Arithmetic.{number_of, quotient_of}
use Rattle.codes.specs.declared.Function.{Function}
use Rattle.cells.specs.declared.Item.{Item}
use Rattle.cells.specs.declared.Item.TheVariants.{Integer, Truth, Node}
use Rattle.laws.proofs.Lists.{all_kept, all_below}
use Rattle.laws.specs.Lists.{All}
use Rattle.laws.specs.Lists.{below}
use Rattle.laws.specs.Attempt.{fails, gives, attempt, provided}
use Rattle.meaning.specs.Catalogue.{Catalogue, catalogue_of}
use Rattle.meaning.specs.World as World
use Rattle.meaning.specs.World.{ranged, integer_of, value_in, truth_from, roots, member, root_of}
use Rattle.doc_rows.specs.Fields.{kind_at, prop_at}
use Rattle.items.specs.Answers.{integer_tried, judged, holding, text_value, truth_of}
use Rattle.std.specs.Bool.{then_some}

pub number_ranged : (z : ℤ) → integer_tried (number_of z) ≡ ranged z
unfolding number_of ranged provided
number_ranged z = by_test (in_range z)
  where
    by_test : (t : Bool) → integer_tried (cond t (Some z) None) ≡ provided t (gives z)
    by_test true = refl
    by_test false = refl

pub number_quotient : (x y : ℤ) → integer_tried (quotient_of x y) ≡ World.quotient x y
unfolding quotient_of World.quotient provided
number_quotient x y = by_test (same y (pos 0))
  where
    by_test : (t : Bool) → integer_tried (cond t None (number_of (quot_z x y)))
        ≡ provided (not t) (ranged (quot_z x y))
    by_test true = refl
    by_test false = number_ranged (quot_z x y)

pub function_is : (f g : Function) (x y x' y' : ℤ) → f ≡ g → x' ≡ x → y' ≡ y
    → World.function g x' y' ≡ World.function f x y
function_is f g x y x' y' e d h = cc

module _ (f : Function) (a b : ℤ) where
  pub arith_first : fails ≡ integer_of a → fails ≡ World.arith f a b
  unfolding World.arith attempt
  arith_first e = rw (← e)

  pub arith_second : (x : ℤ) → gives x ≡ integer_of a → fails ≡ integer_of b → fails ≡ World.arith f a b
  unfolding World.arith attempt
  arith_second x d e = rw (← d, ← e)

  pub arith_both : (x y : ℤ) → gives x ≡ integer_of a → gives y ≡ integer_of b → World.function f x y ≡ World.arith f a b
  unfolding World.arith attempt
  arith_both x y d e = rw (← d, ← e)

pub value_is : (c : Catalogue) (i k : Item) → i ≡ k → value_in c (holding k) ≡ value_in c (holding i)
value_is c i k e = cc

module _ (doc : List ℕ) (rows r : ℕ) where
  pub text_outside : rows ≤ r → fails ≡ text_value (catalogue_of doc rows) r
  unfolding text_value catalogue_of provided
  text_outside h = rw (le-ltb r rows h)

  pub text_other : (k : ℕ) → r < rows → k ≡ kind_at doc r → (k ≡ 3 → ⊥) → fails ≡ text_value (catalogue_of doc rows) r
  unfolding text_value catalogue_of provided kind_at
  text_other k h e f = rw (lt-ltb r rows h, ← e, ne_eqb k 3 f)

  pub text_is :
      (k : ℕ) (z : ℤ) → r < rows → k ≡ kind_at doc r → k ≡ 3 → z ≡ prop_at doc r →
      gives z ≡ text_value (catalogue_of doc rows) r
  unfolding text_value catalogue_of provided kind_at prop_at
  text_is k z h e f p = rw (lt-ltb r rows h, ← e, eq-eqb k 3 f) (ap gives p)

-- an integer that may be alone, and whether it was found to be 0
pub truth_one :
    (i : Item) (z y : ℤ) (alone nil : Bool) → i ≡ Integer z → y ≡ z → nil ≡ same y (pos 0)
    → judged (then_some alone (not nil)) ≡ truth_of i alone
unfolding truth_of provided
truth_one i z y true nil e d h = rw (e, h, d)
truth_one i z y false nil e d h = rw e

pub truth_none : (xs : List ℤ) → length xs ≡ 0 → gives false ≡ World.truth xs
unfolding World.truth
truth_none [] e = refl
truth_none (x ∷ xs) e = absurd (omega arith)

-- truth of a list by its first member, and whether that is alone
pub truth_first : (i : Item) (xs : List ℤ) → 0 < length xs → held (get_or xs 0 (pos 0)) ≡ Some i
    → truth_of i (eqb (length xs) 1) ≡ World.truth xs
unfolding World.truth truth_of truth_from provided
truth_first i [] h e = absurd (omega arith)
truth_first i (x ∷ xs) h e = rw e (by_item i xs)
  where
    by_item : (i : Item) (xs : List ℤ) → truth_of i (eqb (suc (length xs)) 1) ≡ truth_from (Some i) xs
    by_item (Node r) xs = refl
    by_item (Truth b) [] = refl
    by_item (Truth b) (y ∷ ys) = rw (ne_eqb (suc (suc (length ys))) 1 (λ e. omega arith))
    by_item (Integer z) [] = refl
    by_item (Integer z) (y ∷ ys) = rw (ne_eqb (suc (suc (length ys))) 1 (λ e. omega arith))

pub truth_stray : (xs : List ℤ) → 0 < length xs → held (get_or xs 0 (pos 0)) ≡ None → fails ≡ World.truth xs
unfolding World.truth truth_from
truth_stray [] h e = absurd (omega arith)
truth_stray (x ∷ xs) h e = rw e

-- the roots are rows
member_all : (P : ℕ → Type 0) (xs : List ℕ) (k r : ℕ) → All P xs → gives r ≡ member xs k → P r
unfolding member
member_all P [] k r h e = let z : ◌≡◌ {A = ℕ} 0 1 = cc in absurd (omega arith)
member_all P (x ∷ xs) zero r h e = let d : x ≡ r = cc in subst P d h.0
member_all P (x ∷ xs) (suc k) r h e = member_all P xs k r h.1 e

module _ (c : Catalogue) (k : ℕ) where
  pub root_row : (r : ℕ) → gives r ≡ member (roots c) (k - 1) → r < c.rows
  unfolding roots
  root_row r e =
      member_all (λ n. n < c.rows) (roots c) (k - 1) r (all_kept _ _ (below c.rows) (all_below c.rows)) e

  pub root_none : fails ≡ member (roots c) (k - 1) → fails ≡ root_of c k
  unfolding root_of attempt
  root_none e = rw (← e)

  pub root_is : (r : ℕ) → gives r ≡ member (roots c) (k - 1) → gives (node_cell r) ≡ root_of c k
  unfolding root_of attempt
  root_is r e = rw (← e)
