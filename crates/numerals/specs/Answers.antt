-- What the code's answers say of a text: each names places, and so what is left there.
--     told_numeral text r    what a Numeral says
--     read_place r           the place that the answer of a reader of values names
--     told_fixed text r      what a Fixed says
--     fixed_place r          the place that it names
--     From text at p        a place from an offset on, in the text
use Rattle.std.specs.Prelude.{ℕ, ◌≤◌, List, length, drop, Result, Ok, Err}
use Rattle.numerals.specs.Numerals as Numerals
use Rattle.numerals.specs.declared.Read.{Read}
use Rattle.numerals.specs.declared.Stuck.{Stuck}

unfoldable pub told_numeral : List ℕ → Result (Read ℕ) Stuck → Numerals.Res ℕ
told_numeral text (Ok r) = Numerals.is r.what (drop r.next text)
told_numeral text (Err s) = Numerals.stuck (drop s.0 text)

unfoldable pub read_place : {A : Type 0} → Result (Read A) Stuck → ℕ
read_place (Ok r) = r.next
read_place (Err s) = s.0

unfoldable pub told_fixed : List ℕ → Result ℕ Stuck → Numerals.Res (Unit {0})
told_fixed text (Ok next) = Numerals.is tt (drop next text)
told_fixed text (Err s) = Numerals.stuck (drop s.0 text)

unfoldable pub fixed_place : Result ℕ Stuck → ℕ
fixed_place (Ok next) = next
fixed_place (Err s) = s.0

pub record From (text : List ℕ) (at p : ℕ) : Type 0 where
  pub onward : at ≤ p
  pub inside : p ≤ length text
