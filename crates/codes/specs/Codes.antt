-- The numbers of functions, axes and tests (document 01, 'Query records', QO and QX).
--     function_of n, axis_of n     the function and the axis of a number, or failing
--     test_of n name              the test of a number and a name, or failing
--     function_number f, axis_number x, test_number t    the number of a function, an axis, a test
--     test_name t                 the name that a test asks for, 0 where it asks for none
--     function_field, axis_field, test_field    what the code found in a field, or failing
--     read r                     what was read from a number, or failing
--     FunctionRead n r, AxisRead n r    r is what function_of, axis_of say of n
--     FunctionNumbered f n, AxisNumbered x n    n is the number of f, of x
--     NoneOf n ks                n is none of the numbers ks, which a `match` tried from the last to the first
use Rattle.std.specs.Prelude.{ℕ, ◌≡◌, cond, List, [], ◌∷◌, eqb, Option, Result, Ok, Err}
use Rattle.laws.specs.Attempt.{Attempt, fails, gives, tried, provided}
use Rattle.codes.specs.declared.UnknownCode.{UnknownCode}
use Rattle.codes.specs.declared.Function.{Function}
use Rattle.codes.specs.declared.Function.TheVariants.{Add, Subtract, Multiply, Divide, Equal, Less}
use Rattle.codes.specs.declared.Axis.{Axis}
use Rattle.codes.specs.declared.Axis.TheVariants.{Child, Descendant, DescendantOrSelf, Itself}
use Rattle.codes.specs.declared.Axis.TheVariants.{Parent, Ancestor, Following, Preceding}
use Rattle.codes.specs.declared.Test.{Test}
use Rattle.codes.specs.declared.Test.TheVariants.{AnyNode, Element, Text, Named}

-- 1 add, 2 subtract, 3 multiply, 4 idiv, 5 eq, 6 lt
unfoldable pub function_of : ℕ → Attempt Function
function_of n =
    cond (eqb n 1) (gives Add)
    (cond (eqb n 2) (gives Subtract)
    (cond (eqb n 3) (gives Multiply)
    (cond (eqb n 4) (gives Divide)
    (cond (eqb n 5) (gives Equal)
    (cond (eqb n 6) (gives Less) fails)))))

-- 1 child, 2 descendant, 3 descendant-or-self, 4 self, 5 parent, 6 ancestor, 7 following, 8 preceding
unfoldable pub axis_of : ℕ → Attempt Axis
axis_of n =
    cond (eqb n 1) (gives Child)
    (cond (eqb n 2) (gives Descendant)
    (cond (eqb n 3) (gives DescendantOrSelf)
    (cond (eqb n 4) (gives Itself)
    (cond (eqb n 5) (gives Parent)
    (cond (eqb n 6) (gives Ancestor)
    (cond (eqb n 7) (gives Following)
    (cond (eqb n 8) (gives Preceding) fails)))))))

-- 0 any node, 1 element, 2 text, 3 element of that name; name is 0 for tests 0 to 2
unfoldable pub test_of : ℕ → ℕ → Attempt Test
test_of n name =
    cond (eqb n 3) (gives (Named name))
    (provided (eqb name 0)
    (cond (eqb n 0) (gives AnyNode)
    (cond (eqb n 1) (gives Element)
    (cond (eqb n 2) (gives Text) fails))))

unfoldable pub function_number : Function → ℕ
function_number Add = 1
function_number Subtract = 2
function_number Multiply = 3
function_number Divide = 4
function_number Equal = 5
function_number Less = 6

unfoldable pub axis_number : Axis → ℕ
axis_number Child = 1
axis_number Descendant = 2
axis_number DescendantOrSelf = 3
axis_number Itself = 4
axis_number Parent = 5
axis_number Ancestor = 6
axis_number Following = 7
axis_number Preceding = 8

unfoldable pub test_number : Test → ℕ
test_number AnyNode = 0
test_number Element = 1
test_number Text = 2
test_number (Named n) = 3

-- name is 0 for tests 0 to 2
unfoldable pub test_name : Test → ℕ
test_name AnyNode = 0
test_name Element = 0
test_name Text = 0
test_name (Named n) = n

abbrev pub function_field : Option Function → Attempt Function
function_field = tried

abbrev pub axis_field : Option Axis → Attempt Axis
axis_field = tried

abbrev pub test_field : Option Test → Attempt Test
test_field = tried

-- a number that was read
abbrev pub read : {A : Type 0} → Result A UnknownCode → Attempt A
read (Ok a) = gives a
read (Err e) = fails

abbrev pub FunctionRead : ℕ → Result Function UnknownCode → Type 0
FunctionRead n r = read r ≡ function_of n

abbrev pub AxisRead : ℕ → Result Axis UnknownCode → Type 0
AxisRead n r = read r ≡ axis_of n

abbrev pub FunctionNumbered : Function → ℕ → Type 0
FunctionNumbered f n = n ≡ function_number f

abbrev pub AxisNumbered : Axis → ℕ → Type 0
AxisNumbered x n = n ≡ axis_number x

abbrev pub NoneOf : ℕ → List ℕ → Type 0
NoneOf n [] = Unit {0}
NoneOf n (k ∷ ks) = NoneOf n ks × (n ≡ k → ⊥)
