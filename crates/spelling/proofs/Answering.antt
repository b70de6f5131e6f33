-- What an answer says by the case that it is, and answers one after another.
--     passed, stopped       a Fixed that is past its word; one that is stuck
--     is_value, no_value    a value that is read; one that is stuck
--     on, off               a reader behind one that is past what it reads; behind one that is stuck
--     handed_up, fixed_up, value_up     what the exit of a `?` hands up
--     by_left               a reader by what is left
--     word_reads, number_reads, name_reads     what is ensured of words and numbers, by the reader's definition
--     entry_then            past the spaces, then a reader
--     entry_symbol          behind a symbol no word joins
--     enter_space, enter_joins, enter_free     past the spaces, by the byte that comes
use Prim.Native.Nat.{ℕ, ◌<◌}
use mathlib.Core.Path.{◌≡◌, refl, sym, ◌∙◌, ap}
use mathlib.Core.List.{List, [], ◌∷◌}
use mathlib.Core.Bool.{Bool, true, false}
use lib.ListN.{drop, get_or}
use Rattle.std.specs.Prelude.{Result, Ok, Err}
use Rattle.std.specs.Result.{IsErrAnd}
use Rattle.std.proofs.lemmas.Result.{err_from_is_err_and}
use Rattle.laws.proofs.Booleans.{by_cases}
use Rattle.numerals.specs.Numerals as numerals
use Rattle.numerals.specs.Texts as texts
use Rattle.numerals.specs.Answers as answers
use Rattle.numerals.specs.declared.Read.{Read}
use Rattle.numerals.specs.declared.Stuck.{Stuck}
use Rattle.numerals.specs.Answers.{fixed_place, read_place}
use Rattle.grammar.specs.Words.{Kind, symbol, word, open_sign, close_sign}
use Rattle.laws.specs.Characters.{is_space, first}
use Rattle.grammar.specs.Spelled.{joins}
use Rattle.parsing.specs.Reader.{Res, ok, stuck, Reader, then, give, entry, skip, letters, number, read_name}
use Rattle.parsing.specs.Reader.{brackets, read_word}
use Rattle.spelling.specs.Answers.{Reads, ReadsFixed, fixed_told, ReadsValue, value_told, entered, called_word}
use Rattle.spelling.proofs.Bridging.{looks_first, answered, skip_cons, skip_same, letters_same}
use Rattle.spelling.proofs.Bridging.{number_same, name_same}

module _ {text : List ℕ} {r : Result ℕ Stuck} {def : Res (Unit {0})} (reads : ReadsFixed text r def) where
  pub passed : {p : ℕ} → r ≡ Ok p → Reads text def (ok tt (drop p text)) p
  unfolding fixed_told fixed_place
  passed e = rw e at reads

  pub stopped : {k : Stuck} → r ≡ Err k → Reads text def (stuck (drop k.0 text)) k.0
  unfolding fixed_told fixed_place
  stopped e = rw e at reads

module _ {A : Type 0} {text : List ℕ} {r : Result (Read A) Stuck} {def : Res A} (reads : ReadsValue text r def) where
  pub is_value : {v : Read A} → r ≡ Ok v → Reads text def (ok v.what (drop v.next text)) v.next
  unfolding value_told read_place
  is_value e = rw e at reads

  pub no_value : {k : Stuck} → r ≡ Err k → Reads text def (stuck (drop k.0 text)) k.0
  unfolding value_told read_place
  no_value e = rw e at reads

module _ {A B : Type 0} {text : List ℕ} {m : Res A} (f : A → Reader B) {p : ℕ} where
  pub on : {a : A} {told : Res B} {q : ℕ} → Reads text m (ok a (drop p text)) p
      → Reads text (f a (drop p text)) told q
      → Reads text (then m f) told q
  on h k = record { means = rw h.means k.means; inside = k.inside }

  pub off : Reads text m (stuck (drop p text)) p → Reads text (then m f) (stuck (drop p text)) p
  off h = record { means = rw h.means; inside = h.inside }

-- what the exit of a `?` hands up
module _ {T E : Type 0} where
  pub handed_up : (r : Result T E) {e : E} → IsErrAnd r (λ (y : E). y ≡ e) → r ≡ Err e
  handed_up r h = let p = err_from_is_err_and r h in p.1 ∙ ap Err p.2

module _ {text : List ℕ} {k : Stuck} where
  pub fixed_up : (r : Result ℕ Stuck) {def : Res (Unit {0})} → IsErrAnd r (λ (y : Stuck). y ≡ k)
      → Reads text def (stuck (drop k.0 text)) k.0
      → ReadsFixed text r def
  unfolding fixed_told fixed_place
  fixed_up r h reads = rw (handed_up r h) reads

  pub value_up : {A : Type 0} (r : Result (Read A) Stuck) {def : Res A} → IsErrAnd r (λ (y : Stuck). y ≡ k)
      → Reads text def (stuck (drop k.0 text)) k.0
      → ReadsValue text r def
  unfolding value_told read_place
  value_up r h reads = rw (handed_up r h) reads

pub by_left : {A : Type 0} {text : List ℕ} (f : Reader A) {t u : List ℕ} {def told : Res A} {q : ℕ} → t ≡ u
    → f u ≡ def
    → Reads text def told q
    → Reads text (f t) told q
by_left f e d k = record { means = rw e (d ∙ k.means); inside = k.inside }

-- .. that is as long
pub chosen : {A : Type 0} {text : List ℕ} (f g : Reader A) {t u : List ℕ} {told : Res A} {q : ℕ}
    → t ≡ u
    → f u ≡ g u
    → Reads text (g t) told q
    → Reads text (f t) told q
chosen f g e d k = record { means = rw e (d ∙ ap g (sym e) ∙ k.means); inside = k.inside }

pub word_reads : (text cs : List ℕ) (at : ℕ) (r : Result ℕ Stuck) → ((i : ℕ) → get_or cs i 0 < 256)
    → (answers.told_fixed text r ≡ texts.after cs (drop at text)) × answers.From text at (fixed_place r)
    → ReadsFixed text r (letters cs (drop at text))
unfolding answers.told_fixed fixed_place fixed_told answered
word_reads text cs at (Ok p) small h =
    record { means = letters_same cs (drop at text) small ∙ ap answered (sym h.0); inside = h.1.inside }
word_reads text cs at (Err k) small h =
    record { means = letters_same cs (drop at text) small ∙ ap answered (sym h.0); inside = h.1.inside }

number_told : (text : List ℕ) (at : ℕ) (r : Result (Read ℕ) Stuck) (def : Res ℕ) (m : numerals.Res ℕ)
    → def ≡ answered m
    → (answers.told_numeral text r ≡ m) × answers.From text at (read_place r)
    → ReadsValue text r def
unfolding answers.told_numeral read_place value_told answered
number_told text at (Ok v) def m e h = record { means = e ∙ ap answered (sym h.0); inside = h.1.inside }
number_told text at (Err k) def m e h = record { means = e ∙ ap answered (sym h.0); inside = h.1.inside }

pub number_reads : (text : List ℕ) (at most : ℕ) (r : Result (Read ℕ) Stuck)
    → (answers.told_numeral text r ≡ numerals.numeral most (drop at text))
    × answers.From text at (read_place r)
    → ReadsValue text r (number most (drop at text))
number_reads text at most r h = number_told text at r _ _ (number_same most (drop at text)) h

pub name_reads : (text : List ℕ) (at : ℕ) (r : Result (Read ℕ) Stuck)
    → (answers.told_numeral text r ≡ numerals.name_number (drop at text))
    × answers.From text at (read_place r)
    → ReadsValue text r (read_name (drop at text))
name_reads text at r h = number_told text at r _ _ (name_same (drop at text)) h

skip_none : (t : List ℕ) → is_space (first t) ≡ false → skip t ≡ t
unfolding first skip
skip_none [] e = refl
skip_none (b ∷ t) e = skip_cons b t ∙ rw e

module _ {A : Type 0} where
  pub entry_then : (k : Kind) (m : Reader A) (t : List ℕ) → entry k m t ≡ then (entered k t) (λ done. m)
  entry_then k m t =
      by_cases (is_space (first t)) (λ e. rw e)
      (λ e. by_cases (joins k (first t)) (λ d. rw (e, d)) (λ d. rw (e, d)))

  pub entry_symbol : (m : Reader A) (t : List ℕ) → entry symbol m t ≡ m (skip t)
  unfolding joins
  entry_symbol m t = by_cases (is_space (first t)) (λ e. rw e) (λ e. rw (e, skip_none t e))

module _ (k : Kind) (t : List ℕ) where
  pub enter_space : is_space (first t) ≡ true → entered k t ≡ ok tt (skip t)
  enter_space e = rw e

  pub enter_joins : is_space (first t) ≡ false → joins k (first t) ≡ true → entered k t ≡ stuck t
  enter_joins e d = rw (e, d)

  pub enter_free : is_space (first t) ≡ false → joins k (first t) ≡ false → entered k t ≡ ok tt t
  enter_free e d = rw (e, d)

pub entry_reads : {A : Type 0} {text : List ℕ} (k : Kind) (m : Reader A) (t : List ℕ) {told : Res A} {q : ℕ}
    → Reads text (then (entered k t) (λ done. m)) told q
    → Reads text (entry k m t) told q
entry_reads k m t h = record { means = entry_then k m t ∙ h.means; inside = h.inside }

-- Nothing is read behind a word
then_none : (m : Res (Unit {0})) → then m (λ done. give tt) ≡ m
then_none (ok a t) = refl
then_none (stuck t) = refl

module _ {text : List ℕ} {m : Res (Unit {0})} {told : Res (Unit {0})} {q : ℕ} where
  pub only : Reads text m told q → Reads text (then m (λ done. give tt)) told q
  only h = record { means = then_none m ∙ h.means; inside = h.inside }

-- the place behind the spaces
pub spaces_skip : (text : List ℕ) (at r : ℕ) → drop r text ≡ texts.drop_spaces (drop at text)
    → skip (drop at text) ≡ drop r text
spaces_skip text at r e = sym (skip_same (drop at text)) ∙ sym e

pub symbol_reads : {A : Type 0} (text : List ℕ) (m : Reader A) (at r : ℕ) {told : Res A} {q : ℕ}
    → drop r text ≡ texts.drop_spaces (drop at text)
    → Reads text (m (drop r text)) told q
    → Reads text (entry symbol m (drop at text)) told q
symbol_reads text m at r e h =
    record {
      means = entry_symbol m (drop at text) ∙ (ap m (spaces_skip text at r e) ∙ h.means);
      inside = h.inside;
    }

-- The same behind empty parentheses
module _ {A : Type 0} (a : A) where
  after_one : (m : Res (Unit {0})) → then m (λ done. give a) ≡ then (then m (λ done. give (tt {0}))) (λ done. give a)
  after_one (ok x t) = refl
  after_one (stuck t) = refl

  after_two : (m : Res (Unit {0}))
      → then m (λ opened u. then (read_word symbol close_sign u) (λ closed. give a))
      ≡ then (then m (λ opened u. then (read_word symbol close_sign u) (λ closed. give (tt {0})))) (λ done. give a)
  after_two (ok x t) = after_one (read_word symbol close_sign t)
  after_two (stuck t) = refl

  after_three : (m : Res (Unit {0}))
      → then m (λ done. brackets a) ≡ then (then m (λ done. brackets (tt {0}))) (λ done. give a)
  after_three (ok x t) = after_two (read_word word open_sign t)
  after_three (stuck t) = refl

  pub called_as : (cs t : List ℕ) → called_word cs a t ≡ then (called_word cs (tt {0}) t) (λ done. give a)
  called_as cs t = after_three (letters cs t)

-- What a test of the byte that was looked at says of what is left
module _ (text : List ℕ) (at b : ℕ) (looks : texts.Looks text at b) (r : Bool) where
  pub space_seen : r ≡ is_space b → is_space (first (drop at text)) ≡ r
  space_seen e = rw (looks_first text at b looks) (sym e)

  pub joins_seen : (k : Kind) → r ≡ joins k b → joins k (first (drop at text)) ≡ r
  joins_seen k e = rw (looks_first text at b looks) (sym e)
