-- Arithmetic on the integers (document 01, 'Query records', QO).
--     number_of z        a number, or that it is outside the integers' range
--     quotient_of x y    the quotient cut toward zero, or that the divisor is zero or the quotient outside the range
use Rattle.std.specs.Prelude.{cond, ℤ, pos, Option, Some, None}
use Rattle.std.specs.Int.Signed.{quot_z}
use Rattle.cells.specs.Cell.{in_range, same}

unfoldable pub number_of : ℤ → Option ℤ
number_of z = cond (in_range z) (Some z) None

unfoldable pub quotient_of : ℤ → ℤ → Option ℤ
quotient_of x y = cond (same y (pos 0)) None (number_of (quot_z x y))
