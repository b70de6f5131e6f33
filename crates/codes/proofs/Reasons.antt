-- The reasons, by their numbers.
--     reason_of k      the reason of a number
--     reason_is        a reason is told by its number
use Prim.Native.Nat.{ℕ}
use mathlib.Core.Bool.{cond}
use mathlib.Core.Path.{◌≡◌, refl}
use lib.Dec.{eqb}
use Rattle.codes.specs.Refusals.{number_of}
use Rattle.codes.specs.declared.refusals.Reason.{Reason}
use Rattle.codes.specs.declared.refusals.Reason.TheVariants as Reason

abbrev pub reason_of : ℕ → Reason
reason_of k =
    cond (eqb k 1) Reason.Record
    (cond (eqb k 2) Reason.Excess
    (cond (eqb k 3) Reason.Unbound
    (cond (eqb k 4) Reason.Catalogue
    (cond (eqb k 5) Reason.Plan
    (cond (eqb k 6) Reason.Room
    (cond (eqb k 7) Reason.Failure (cond (eqb k 8) Reason.Longer Reason.Outside)))))))

pub reason_is : (r : Reason) → reason_of (number_of r) ≡ r
reason_is Reason.Record = refl
reason_is Reason.Excess = refl
reason_is Reason.Unbound = refl
reason_is Reason.Catalogue = refl
reason_is Reason.Plan = refl
reason_is Reason.Room = refl
reason_is Reason.Failure = refl
reason_is Reason.Longer = refl
reason_is Reason.Outside = refl
