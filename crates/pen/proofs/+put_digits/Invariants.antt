-- `put_digits` meets its contract: the digits before the last by the function's own promise, then the last. The measure
-- is how many digits are left.
use Rattle.pen.proofs.+put_digits.Given as goal

abbrev pub decreases-put_digits : goal.decreases-put_digits
decreases-put_digits l = l.left
