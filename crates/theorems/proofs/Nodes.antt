-- What a step and a root give (document 01, 'Query records'), and the laws of a world that plans rest on.
--     step_nodes          what a step gives: nodes_inside, each is a node; nodes_rise, the cells rise
--     root_node           what a root gives
--     rising_sorted       rising cells are sorted
--     lawful c            the world of a catalogue is lawful
use Prim.Native.Nat.{ℕ, zero, suc, ◌+◌, ◌-◌, ◌<◌}
use mathlib.Core.Path.{◌≡◌, refl, sym, ap, subst}
use mathlib.Core.List.{List, [], ◌∷◌, map}
use mathlib.Core.Bool.{false, false≢true}
use native.Mathlib.Omega.{arith}
use borrow.Author.Tests.{ltb-true, eqb-true, lt-ltb, le-ltb}
use lib.IntN.{ℤ, pos, negsuc}
use Rattle.codes.specs.declared.Axis.{Axis}
use Rattle.codes.specs.declared.Test.{Test}
use Rattle.cells.specs.Cell.{node_cell, before}
use Rattle.laws.specs.Lists.{any, below, All, Rising}
use Rattle.laws.proofs.Lists.{all_any, all_both, all_map, rising_map, filter_none, all_kept, all_passed}
use Rattle.laws.proofs.Lists.{rising_kept, all_mapped, rising_mapped, all_below, rising_below}
use Rattle.laws.specs.Attempt.{gives, attempt, Given}
use Rattle.meaning.specs.Catalogue.{Catalogue}
use Rattle.meaning.specs.World.{truth, ranks_of, reached, step, roots, member, root_of, world_of}
use Rattle.laws.proofs.Outcomes.{given_fails, given_gives, given_attempt, given_any}
use Rattle.theorems.specs.Nodes.{IsNode, Before, Nodes, IsRoot, Lawful}

-- a node of lower rank stands before
node_before : (r s : ℕ) → r < s → Before (node_cell r) (node_cell s)
unfolding before
node_before r s h = lt-ltb (0x2_0000_0000 + r) (0x2_0000_0000 + s) (omega arith)

-- what stands before does not stand after: rising cells are sorted
pub before_after : (a b : ℤ) → Before a b → before b a ≡ false
unfolding before
before_after (pos m) (pos n) h = le-ltb n m (omega (arith, ltb-true m n h))
before_after (pos m) (negsuc n) h = absurd (false≢true h)
before_after (negsuc m) (pos n) h = refl
before_after (negsuc m) (negsuc n) h = le-ltb m n (omega (arith, ltb-true n m h))

pub rising_sorted : (ys : List ℤ) → Rising Before ys → Rising (λ a b. before b a ≡ false) ys
rising_sorted ys h = rising_map ys before_after h

reached_nodes :
    (c : Catalogue) (axis : Axis) (test : Test) (xs : List ℕ) → Nodes c (map node_cell (reached c axis test xs))
unfolding reached
reached_nodes c axis test xs =
    record {
      ranks = reached c axis test xs;
      cells = refl;
      inside = all_kept _ _ (below c.rows) (all_below c.rows);
      rise = rising_kept _ _ (below c.rows) (rising_below c.rows);
    }

stepped : (c : Catalogue) (axis : Axis) (test : Test) (xs : List ℤ) → Given (Nodes c) (step c axis test xs)
unfolding step
stepped c axis test xs =
    given_any (ranks_of c xs) (λ rs. given_gives (reached_nodes c axis test rs))

pub step_nodes :
    (c : Catalogue) (axis : Axis) (test : Test) (xs ys : List ℤ) → step c axis test xs ≡ gives ys → Nodes c ys
step_nodes c axis test xs ys e = (stepped c axis test xs).given ys e

-- every one is a node of the catalogue
pub nodes_inside : (c : Catalogue) (ys : List ℤ) → Nodes c ys → All (IsNode c) ys
nodes_inside c ys n =
    subst (All (IsNode c)) (sym n.cells)
    (all_mapped (IsNode c) node_cell n.ranks (all_map n.ranks (λ r h. (r, refl, h)) n.inside))

-- the cells rise
pub nodes_rise : (c : Catalogue) (ys : List ℤ) → Nodes c ys → Rising Before ys
nodes_rise c ys n =
    subst (Rising Before) (sym n.cells)
    (rising_mapped Before node_cell n.ranks (rising_map n.ranks node_before n.rise))

-- member k has what every member has
member_all : {A : Type 0} (P : A → Type 0) (xs : List A) (k : ℕ) → All P xs → Given P (member xs k)
unfolding member
member_all P [] k h = given_fails
member_all P (x ∷ xs) zero h = given_gives h.0
member_all P (x ∷ xs) (suc k) h = member_all P xs k h.1

roots_all : (c : Catalogue) → All (λ r. (r < c.rows) × (c.level r ≡ 0)) (roots c)
unfolding roots
roots_all c =
    all_both (λ r. r < c.rows) (λ r. c.level r ≡ 0) (roots c)
    (all_kept _ (λ r. r < c.rows) (below c.rows) (all_below c.rows))
    (all_passed _ (λ r. c.level r ≡ 0) (λ r e. eqb-true (c.level r) 0 e) (below c.rows))

rooted : (c : Catalogue) (k : ℕ) → Given (IsRoot c) (root_of c k)
unfolding root_of
rooted c k =
    given_attempt (member_all _ (roots c) (k - 1) (roots_all c))
    (λ r h. given_gives (record { rank = r; cell = refl; inside = h.0; top = h.1 }))

pub root_node : (c : Catalogue) (k : ℕ) (y : ℤ) → root_of c k ≡ gives y → IsRoot c y
root_node c k y e = (rooted c k).given y e

-- The laws that plans rest on

-- nothing is reached from nothing
step_from_nothing : (c : Catalogue) (axis : Axis) (test : Test) → step c axis test [] ≡ gives []
unfolding step ranks_of attempt reached any
step_from_nothing c axis test =
    ap (λ (rs : List ℕ). gives (map node_cell rs))
    (filter_none (λ v. false) (below c.rows) (all_any (below c.rows) (λ v. refl)))

pub lawful : (c : Catalogue) → Lawful (world_of c)
unfolding world_of truth
lawful c =
    record {
      truth_nothing = refl;
      step_nothing = step_from_nothing c;
      step_rises = λ axis test xs ys e. nodes_rise c ys (step_nodes c axis test xs ys e);
    }
