-- The numbers of the refusals (document 01, 'The eight refusals'; 9 is of document 02, L1).
--     number_of r         the number of a reason
--     refusal r p         the refusal for a reason, at a place
--     refusal_of s        the refusal that work in lent room stops with: 6 or 7
--     Stops s r           r is that refusal
use Rattle.std.specs.Prelude.{ℕ, ◌≡◌}
use Rattle.codes.specs.declared.refusals.Reason.{Reason}
use Rattle.codes.specs.declared.refusals.Reason.TheVariants as Reason
use Rattle.codes.specs.declared.refusals.Refusal.{Refusal}
use Rattle.codes.specs.declared.refusals.Stop.{Stop}
use Rattle.codes.specs.declared.refusals.Stop.TheVariants as Stop

abbrev pub number_of : Reason → ℕ
number_of Reason.Record = 1
number_of Reason.Excess = 2
number_of Reason.Unbound = 3
number_of Reason.Catalogue = 4
number_of Reason.Plan = 5
number_of Reason.Room = 6
number_of Reason.Failure = 7
number_of Reason.Longer = 8
number_of Reason.Outside = 9

abbrev pub refusal : Reason → ℕ → Refusal
refusal r p = record { reason = r; place = p }

abbrev pub refusal_of : Stop → Refusal
refusal_of (Stop.Full p) = refusal Reason.Room p
refusal_of (Stop.Failed p) = refusal Reason.Failure p

abbrev pub Stops : Stop → Refusal → Type 0
Stops s r = r ≡ refusal_of s
