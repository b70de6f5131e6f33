-- Numbers that were read, tests whose name fits, and numbers that read back.
--     tried_read    what was read, taken as an option
--     axis_back, function_back, test_back     the number of each is read as itself
--     name_fits     a test that is read has a name of two bytes, as its record has
use Prim.Native.Nat.{ℕ, ◌<◌}
use mathlib.Core.Path.{◌≡◌, refl}
use lib.Dec.{eqb}
use native.Mathlib.Omega.{arith}
use Rattle.laws.specs.Attempt.{gives, provided, tried, Given}
use Rattle.laws.proofs.Outcomes.{given_fails, given_gives, given_cond, given_provided}
use Rattle.codes.specs.declared.Function.{Function}
use Rattle.codes.specs.declared.Function.TheVariants.{Add, Subtract, Multiply, Divide, Equal, Less}
use Rattle.codes.specs.declared.Axis.{Axis}
use Rattle.codes.specs.declared.Axis.TheVariants.{Child, Descendant, DescendantOrSelf, Itself, Parent}
use Rattle.codes.specs.declared.Axis.TheVariants.{Ancestor, Following, Preceding}
use Rattle.codes.specs.declared.Test.{Test}
use Rattle.codes.specs.declared.Test.TheVariants.{AnyNode, Element, Text, Named}
use Rattle.codes.specs.Codes.{function_of, function_number, axis_of, axis_number, test_of, test_number, test_name}
use Rattle.codes.specs.Codes.{read}
use Rattle.codes.specs.declared.UnknownCode.{UnknownCode}
use Rattle.std.specs.Prelude.{Result, Ok, Err}
use Rattle.std.specs.Result.{result_ok}

pub tried_read : {A : Type 0} (r : Result A UnknownCode) → tried (result_ok r) ≡ read r
tried_read (Ok a) = refl
tried_read (Err e) = refl

pub name_fits : (n name : ℕ) → name < 65536 → Given (λ (y : Test). test_name y < 65536) (test_of n name)
unfolding test_of test_name
name_fits n name h =
    given_cond (eqb n 3) (given_gives h)
    (given_provided (eqb name 0)
    (λ t.
    given_cond (eqb n 0) (given_gives (omega arith))
    (given_cond (eqb n 1) (given_gives (omega arith))
    (given_cond (eqb n 2) (given_gives (omega arith)) given_fails))))

pub function_back : (f : Function) → function_of (function_number f) ≡ gives f
unfolding function_of function_number
function_back Add = refl
function_back Subtract = refl
function_back Multiply = refl
function_back Divide = refl
function_back Equal = refl
function_back Less = refl

pub axis_back : (x : Axis) → axis_of (axis_number x) ≡ gives x
unfolding axis_of axis_number
axis_back Child = refl
axis_back Descendant = refl
axis_back DescendantOrSelf = refl
axis_back Itself = refl
axis_back Parent = refl
axis_back Ancestor = refl
axis_back Following = refl
axis_back Preceding = refl

pub test_back : (y : Test) → test_of (test_number y) (test_name y) ≡ gives y
unfolding test_of test_number test_name provided
test_back AnyNode = refl
test_back Element = refl
test_back Text = refl
test_back (Named n) = refl
