-- What a record is made of: nothing, or a number that was read.
--     inserts_none              nothing put in
--     numeral_few, variable_few     the numbers that are read have a byte, or 32 bits
use Prim.Native.Nat.{ℕ, ◌-◌, ◌≤◌, ◌<◌}
use mathlib.Core.Path.{◌≡◌, sym, ◌∙◌, ap}
use mathlib.Core.List.{List, []}
use native.Mathlib.Omega.{arith}
use lib.Dec.{leb}
use lib.ListN.{drop}
use borrow.Author.Tests.{leb-true}
use Rattle.laws.proofs.Booleans.{by_cases, both_true}
use Rattle.numerals.specs.Numerals as numerals
use Rattle.numerals.specs.Answers as answers
use Rattle.std.specs.Prelude.{Result, Ok}
use Rattle.numerals.specs.declared.Read.{Read}
use Rattle.numerals.specs.declared.Stuck.{Stuck}
use Rattle.numerals.proofs.Splitting.{numeral_is}
use Rattle.laws.specs.Characters.{first}
use Rattle.parsing.specs.Reader.{Res, ok, stuck, skip, rest, is_variable, read_variable}
use Rattle.spelling.proofs.Answering.{entry_symbol}
use Rattle.spelling.proofs.Choosing.{a_variable}
use Rattle.recording.specs.Recorded.{most_bytes, Inserts}

pub inserts_none : (start made : ℕ) (bytes : List ℕ) → made ≤ most_bytes → Inserts [] start made bytes bytes made
inserts_none start made bytes h =
    record { grows = omega arith; within = h; inserts = λ xs ys e held. held }

pub numeral_few : (text : List ℕ) (at most : ℕ) (n : Read ℕ) (r : Result (Read ℕ) Stuck)
    → (answers.told_numeral text r ≡ numerals.numeral most (drop at text))
    × answers.From text at (answers.read_place r)
    → r ≡ Ok n
    → n.what ≤ most
unfolding answers.told_numeral
numeral_few text at most n r h e =
    let told : numerals.numeral most (drop at text) ≡ numerals.is n.what (drop n.next text) =
    sym h.0 ∙ ap (answers.told_numeral text) e in
    (numeral_is most n.what (drop at text) (drop n.next text) told).1.held

pub variable_few : (t u : List ℕ) (v : ℕ) → read_variable t ≡ ok v u → v < 8
unfolding is_variable
variable_few t u v e =
    let told : a_variable (skip t) ≡ ok v u = sym (entry_symbol a_variable t) ∙ e in
    by_cases (is_variable (first (skip t)))
    (λ s.
    let h = both_true (leb 97 (first (skip t))) (leb (first (skip t)) 104) s in
    let is : ◌≡◌ {A = Res ℕ} (ok (first (skip t) - 97) (rest (skip t))) (ok v u) = rw s at told in
    let same : first (skip t) - 97 ≡ v = cc in
    omega (arith, leb-true (first (skip t)) 104 h.1))
    (λ s.
    let is : ◌≡◌ {A = Res ℕ} (stuck (skip t)) (ok v u) = rw s at told in
    let z : ◌≡◌ {A = ℕ} 0 1 = cc in
    omega arith)
