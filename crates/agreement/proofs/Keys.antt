-- Cells as keys: `before` is a strict weak order, and cells are `same` where neither stands before the other.
--     by_cell_lawful            a column of cells is a lawful key
--     later, later_last        a row does not stand before another if it does not in the first key, nor in the others
--     later_apart              .. nor if the first key alone tells them apart
--     before_le, same_lt       numbers as cells
use Prim.Native.Nat.{ℕ, ◌≤◌, ◌<◌}
use native.Mathlib.Omega.{arith}
use mathlib.Core.Path.{◌≡◌, refl, ◌∙◌}
use mathlib.Core.List.{List, [], ◌∷◌}
use mathlib.Core.Bool.{false, not, ◌&&◌, and-false, and_comm}
use lib.Dec.{ltb, eqb}
use lib.IntN.{ℤ, pos, negsuc}
use borrow.Author.Tests.{ltb-true, ltb-false, le-ltb, eq-eqb, ne_eqb}
use Rattle.cells.specs.Cell.{same, before}
use Rattle.laws.specs.Keyed.{Key, rising_by, LawfulKey}
use Rattle.laws.proofs.Booleans.{by_cases, clash}
use Rattle.laws.specs.Sorting.{tied}
use Rattle.theorems.proofs.Nodes.{before_after}
use Rattle.agreement.specs.Typed.{by_cell}

ltb_through : (a b c : ℕ) → ltb a b ≡ false → ltb b c ≡ false → ltb a c ≡ false
ltb_through a b c e d = le-ltb a c (let h = ltb-false a b e in let k = ltb-false b c d in omega arith)

ltb_ties : (a b : ℕ) → eqb a b ≡ (not (ltb a b) && not (ltb b a))
ltb_ties a b =
    by_cases (ltb a b)
    (λ e. rw e (ne_eqb a b (λ q. let h = ltb-true a b e in omega arith)))
    (λ e. by_cases (ltb b a)
    (λ d. rw (e, d) (ne_eqb a b (λ q. let h = ltb-true b a d in omega arith)))
    (λ d. rw (e, d) (eq-eqb a b (let h = ltb-false a b e in let k = ltb-false b a d in omega arith))))

through : (a b c : ℤ) → before a b ≡ false → before b c ≡ false → before a c ≡ false
unfolding before
through (pos a) (pos b) (pos c) e d = ltb_through a b c e d
through (pos a) (pos b) (negsuc c) e d = refl
through (pos a) (negsuc b) (pos c) e d = clash refl d
through (pos a) (negsuc b) (negsuc c) e d = refl
through (negsuc a) (pos b) (pos c) e d = clash refl e
through (negsuc a) (pos b) (negsuc c) e d = clash refl e
through (negsuc a) (negsuc b) (pos c) e d = clash refl d
through (negsuc a) (negsuc b) (negsuc c) e d = ltb_through c b a d e

ties : (a b : ℤ) → same a b ≡ tied before a b
unfolding before same
ties (pos a) (pos b) = ltb_ties a b
ties (pos a) (negsuc b) = refl
ties (negsuc a) (pos b) = refl
ties (negsuc a) (negsuc b) = ltb_ties a b ∙ and_comm (not (ltb a b)) (not (ltb b a))

module _ {A : Type 0} where
  pub by_cell_lawful : (c : A → ℤ) → LawfulKey (by_cell c)
  by_cell_lawful c =
      record {
        weak = record { asym = λ x y. before_after (c x) (c y); through = λ x y z. through (c x) (c y) (c z) };
        ties = λ x y. ties (c x) (c y);
      }

  pub later : (k : Key A) (ks : List (Key A)) (x y : A) → k.before x y ≡ false → rising_by ks x y ≡ false
      → rising_by (k ∷ ks) x y ≡ false
  unfolding rising_by
  later k ks x y e d = rw (e, d) (and-false (k.same x y))

  pub later_last : (k : Key A) (x y : A) → k.before x y ≡ false → rising_by (k ∷ []) x y ≡ false
  unfolding rising_by
  later_last k x y e = later k [] x y e refl

  pub later_apart : (k : Key A) (ks : List (Key A)) (x y : A) → k.before x y ≡ false → k.same x y ≡ false
      → rising_by (k ∷ ks) x y ≡ false
  unfolding rising_by
  later_apart k ks x y e d = rw (e, d)

-- numbers as cells
pub same_lt : (a b : ℕ) → a < b → same (pos b) (pos a) ≡ false
unfolding same
same_lt a b h = ne_eqb b a (λ e. omega arith)

pub before_le : (a b : ℕ) → b ≤ a → before (pos a) (pos b) ≡ false
unfolding before
before_le a b h = le-ltb a b h
