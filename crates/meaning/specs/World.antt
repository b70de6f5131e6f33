-- What is known of items and of one catalogue (document 01, 'Items and cells', 'Query records'). Everything above this
-- file
-- knows items and catalogue only through the record `World`.
--     World                    what a query needs to know: root, arith, value, truth, step
--     integer_in h, integer_of a     the integer that is held, or that a cell holds; else it fails
--     ranged z                 z, where it is in the integer range; else it fails
--     quotient x y             x idiv y, cut toward zero
--     function f x y           function f of two integers
--     arith f a b              function f of two cells: fails on a non-integer, a zero divisor, a result out of range
--     value_in c h, value c a   the value of what is held, of a cell
--     truth_from h xs           truth of a condition whose first item is h, and the others xs
--     truth xs                 truth of a condition's items
--     fragment c r             the rank of the root of r's fragment
--     is_descendant c x v, is_child c x v     v is a descendant, a child, of x
--     axis_holds c axis x v     what the axis asks of ranks, sizes and levels
--     on_axis c axis x v        node v is on the axis of context x, in its fragment
--     passes c test v          node v passes the test
--     step c axis test xs      a step: each node once, by rising rank; fails where an item is no node
--     rank_in c h, rank_of c a   the rank of a node of the catalogue; no other item has one
--     ranks_of c xs             the ranks of a list of nodes of the catalogue
--     reached c axis test xs   the ranks that a step from ranks xs reaches
--     roots c                  the ranks of level 0, rising
--     member xs k              member k of a list, counted from 0
--     root_of c k               the root of fragment k, counted from 1
--     world_of c                the world of one catalogue
use Rattle.std.specs.Prelude.{ℕ, zero, suc, ◌+◌, ◌-◌, List, [], ◌∷◌, map, Bool, true, false, not, cond, ◌&&◌, ◌||◌, ltb, leb, eqb, ℤ, pos, negsuc, ◌+ℤ◌, ◌-ℤ◌, ◌*ℤ◌, Option, Some, None}
use Rattle.std.specs.Int.Signed.{lt_z, quot_z}
use Rattle.cells.specs.declared.Item.{Item}
use Rattle.cells.specs.declared.Item.TheVariants.{Integer, Truth, Node}
use Rattle.codes.specs.declared.Function.{Function}
use Rattle.codes.specs.declared.Function.TheVariants.{Add, Subtract, Multiply, Divide, Equal, Less}
use Rattle.codes.specs.declared.Axis.{Axis}
use Rattle.codes.specs.declared.Axis.TheVariants.{Child, Descendant, DescendantOrSelf, Itself, Parent, Ancestor}
use Rattle.codes.specs.declared.Axis.TheVariants.{Following, Preceding}
use Rattle.codes.specs.declared.Test.{Test}
use Rattle.codes.specs.declared.Test.TheVariants.{AnyNode, Element, Text, Named}
use Rattle.cells.specs.Cell.{held, in_range, same, truth_cell, node_cell}
use Rattle.laws.specs.Lists.{filter, any, below}
use Rattle.laws.specs.Attempt.{Attempt, fails, gives, attempt, provided}
use Rattle.meaning.specs.Catalogue.{Catalogue, element, text}

pub record World : Type 0 where
  pub root : ℕ → Attempt ℤ
  pub arith : Function → ℤ → ℤ → Attempt ℤ
  pub value : ℤ → Attempt ℤ
  pub truth : List ℤ → Attempt Bool
  pub step : Axis → Test → List ℤ → Attempt (List ℤ)

-- the integer that a cell holds
unfoldable pub integer_in : Option Item → Attempt ℤ
integer_in (Some (Integer z)) = gives z
integer_in (Some (Truth b)) = fails
integer_in (Some (Node r)) = fails
integer_in None = fails

unfoldable pub integer_of : ℤ → Attempt ℤ
integer_of a = integer_in (held a)

-- a result outside the integer range fails
unfoldable pub ranged : ℤ → Attempt ℤ
ranged z = provided (in_range z) (gives z)

-- idiv: the quotient cut toward zero; a zero divisor fails
unfoldable pub quotient : ℤ → ℤ → Attempt ℤ
quotient x y = provided (not (same y (pos 0))) (ranged (quot_z x y))

unfoldable pub function : Function → ℤ → ℤ → Attempt ℤ
function Add x y = ranged (x +ℤ y)
function Subtract x y = ranged (x -ℤ y)
function Multiply x y = ranged (x *ℤ y)
function Divide x y = quotient x y
function Equal x y = gives (truth_cell (same x y))
function Less x y = gives (truth_cell (lt_z x y))

unfoldable pub arith : Function → ℤ → ℤ → Attempt ℤ
arith f a b = attempt (integer_of a) (λ x. attempt (integer_of b) (λ y. function f x y))

-- integer and boolean are themselves, a text gives its number, an element fails
unfoldable pub value_in : Catalogue → Option Item → Attempt ℤ
value_in c (Some (Integer z)) = gives z
value_in c (Some (Truth b)) = gives (truth_cell b)
value_in c (Some (Node r)) = provided (ltb r.0 c.rows && eqb (c.kind r.0) text) (gives (c.prop r.0))
value_in c None = fails

unfoldable pub value : Catalogue → ℤ → Attempt ℤ
value c a = value_in c (held a)

-- no items: false; first item a node: true; one boolean: itself; one integer: true unless 0; else fails
unfoldable pub truth_from : Option Item → List ℤ → Attempt Bool
truth_from (Some (Node r)) others = gives true
truth_from (Some (Truth b)) [] = gives b
truth_from (Some (Truth b)) (y ∷ ys) = fails
truth_from (Some (Integer z)) [] = gives (not (same z (pos 0)))
truth_from (Some (Integer z)) (y ∷ ys) = fails
truth_from None others = fails

unfoldable pub truth : List ℤ → Attempt Bool
truth [] = gives false
truth (x ∷ xs) = truth_from (held x) xs

-- the last row of level 0 up to r
unfoldable pub fragment : Catalogue → ℕ → ℕ
fragment c zero = zero
fragment c (suc r) = cond (eqb (c.level (suc r)) 0) (suc r) (fragment c r)

-- for context x and node v (document 001, Table 1)
unfoldable pub is_descendant : Catalogue → ℕ → ℕ → Bool
is_descendant c x v = ltb x v && leb v (x + c.size x)

unfoldable pub is_child : Catalogue → ℕ → ℕ → Bool
is_child c x v = is_descendant c x v && eqb (c.level v) (c.level x + 1)

unfoldable pub axis_holds : Catalogue → Axis → ℕ → ℕ → Bool
axis_holds c Child x v = is_child c x v
axis_holds c Descendant x v = is_descendant c x v
axis_holds c DescendantOrSelf x v = eqb x v || is_descendant c x v
axis_holds c Itself x v = eqb x v
axis_holds c Parent x v = is_child c v x
axis_holds c Ancestor x v = is_descendant c v x
axis_holds c Following x v = ltb (x + c.size x) v
axis_holds c Preceding x v = ltb (v + c.size v) x

-- .. of one fragment (document 000)
unfoldable pub on_axis : Catalogue → Axis → ℕ → ℕ → Bool
on_axis c axis x v = eqb (fragment c x) (fragment c v) && axis_holds c axis x v

unfoldable pub passes : Catalogue → Test → ℕ → Bool
passes c AnyNode v = true
passes c Element v = eqb (c.kind v) element
passes c Text v = eqb (c.kind v) text
passes c (Named n) v = eqb (c.kind v) element && same (c.prop v) (pos n)

-- the rank of a node of this catalogue
unfoldable pub rank_in : Catalogue → Option Item → Attempt ℕ
rank_in c (Some (Node r)) = provided (ltb r.0 c.rows) (gives r.0)
rank_in c (Some (Truth b)) = fails
rank_in c (Some (Integer z)) = fails
rank_in c None = fails

unfoldable pub rank_of : Catalogue → ℤ → Attempt ℕ
rank_of c a = rank_in c (held a)

unfoldable pub ranks_of : Catalogue → List ℤ → Attempt (List ℕ)
ranks_of c [] = gives []
ranks_of c (a ∷ as') = attempt (rank_of c a) (λ r. attempt (ranks_of c as') (λ rs. gives (r ∷ rs)))

-- every rank, rising, that some context has on the axis and that passes the test
unfoldable pub reached : Catalogue → Axis → Test → List ℕ → List ℕ
reached c axis test xs = filter (λ v. any (λ x. on_axis c axis x v) xs && passes c test v) (below c.rows)

unfoldable pub step : Catalogue → Axis → Test → List ℤ → Attempt (List ℤ)
step c axis test as' = attempt (ranks_of c as') (λ xs. gives (map node_cell (reached c axis test xs)))

-- the rows from one level-0 row up to the next are a fragment: the ranks of the roots, rising
unfoldable pub roots : Catalogue → List ℕ
roots c = filter (λ r. eqb (c.level r) 0) (below c.rows)

-- member k of a list, counted from 0
unfoldable pub member : {A : Type 0} → List A → ℕ → Attempt A
member [] k = fails
member (x ∷ xs) zero = gives x
member (x ∷ xs) (suc k) = member xs k

unfoldable pub root_of : Catalogue → ℕ → Attempt ℤ
root_of c k = attempt (member (roots c) (k - 1)) (λ r. gives (node_cell r))

unfoldable pub world_of : Catalogue → World
world_of c =
    record { root = root_of c; arith = arith; value = value c; truth = truth; step = step c }
