-- What two engines told, compared (document 01, 'Marked examples', from 'Program `chartask`' on).
--     Told                what a call told: how many it gave, items or operators; or its refusal's number and place
--     told r              what code tells
--     told_refusal r       a refusal as it is told: its number and place
--     Tells r t            t is that
--     GaveStands l t      what was told to be given stands in a slice of length l
--     refused_with n t     t is a refusal with number n
--     agree ..            both gave the same items, or both refused with the same number
--     verdict ..          room where either gave 6; else whether the engines agree
use Rattle.std.specs.Prelude.{ℕ, ◌≡◌, ◌≤◌, List, Bool, false, cond, ◌||◌, eqb, ℤ, take, Result, Ok, Err}
use Rattle.codes.specs.Refusals.{number_of}
use Rattle.codes.specs.declared.refusals.Refusal.{Refusal}
use Rattle.meaning.specs.Operators.{same_row}
use Rattle.verdicts.specs.declared.ToldRefusal.{ToldRefusal}
use Rattle.verdicts.specs.declared.Verdict.{Verdict}
use Rattle.verdicts.specs.declared.Verdict.TheVariants.{Agree, Differ, Room}

pub data Told : Type 0 where
  Gave : ℕ → Told
  Refused : (number place : ℕ) → Told

abbrev pub told : Result ℕ ToldRefusal → Told
told (Ok n) = Gave n
told (Err r) = Refused r.number r.place

abbrev pub told_refusal : Refusal → ToldRefusal
told_refusal r = record { number = number_of r.reason; place = r.place }

abbrev pub Tells : Refusal → ToldRefusal → Type 0
Tells r t = t ≡ told_refusal r

abbrev pub GaveStands : ℕ → Told → Type 0
GaveStands l (Gave n) = n ≤ l
GaveStands l (Refused n p) = Unit {0}

unfoldable pub refused_with : ℕ → Told → Bool
refused_with n (Gave k) = false
refused_with n (Refused m p) = eqb m n

unfoldable pub agree : Told → List ℤ → Told → List ℤ → Bool
agree (Gave n) xs (Gave m) ys = same_row (take n xs) (take m ys)
agree (Gave n) xs (Refused m q) ys = false
agree (Refused n p) xs other ys = refused_with n other

unfoldable pub verdict : Told → List ℤ → Told → List ℤ → Verdict
verdict ran xs evaluated ys =
    cond (refused_with 6 ran || refused_with 6 evaluated) Room (cond (agree ran xs evaluated ys) Agree Differ)
