-- Where the table of an operator stands, case by case.
--     asked_three, asked_more     the plan that is asked: as it stands, or with three columns more
--     placed_past, placed_within  cells past the room, or in it
--     none_answered               a refusal leaves no table
--     past_end .. before_place    what an answer says, test by test
use Rattle.std.specs.Prelude.{Option, Some, None, Result, Ok, Err}
use Prim.Native.Nat.{ℕ, ◌-◌, ◌*◌, ◌/◌, ◌%◌, ◌≤◌, ◌<◌}
use mathlib.Core.Path.{◌≡◌, sym, ap, ◌∙◌}
use mathlib.Core.List.{List, [], ◌∷◌, ◌++◌}
use native.Mathlib.Omega.{arith}
use borrow.Author.Tests.{lt-ltb, le-ltb, eq-eqb, ne_eqb}
use lib.ListN.{take}
use Rattle.cells.specs.Bytes.{bytes_of}
use Rattle.meaning.specs.Written.{operator_bytes}
use Rattle.codes.specs.declared.refusals.Refusal.{Refusal}
use Rattle.running.specs.declared.Tables.{Tables}
use Rattle.runner.specs.Answers.{answered}
use Rattle.shown_tables.specs.declared.Place.{Place}
use Rattle.shown_tables.specs.Places.{asked_plan, cells, placed, place_of, place_in}

-- The plan

module _ (bs : List ℕ) (end n w k : ℕ) (e : k ≡ end) where
  pub asked_three : w ≡ 3 → take k bs ≡ asked_plan bs end n w
  unfolding asked_plan
  asked_three h = ap (λ (j : ℕ). take j bs) e ∙ rw (eq-eqb w 3 h)

  pub asked_more : (w ≡ 3 → ⊥) → n < 512
      → take k bs ++ (82 ∷ 80 ∷ n / 256 ∷ n % 256 ∷ 3 ∷ 0 ∷ 0 ∷ 0 ∷ []) ≡ asked_plan bs end n w
  unfolding asked_plan operator_bytes bytes_of
  asked_more h l =
      let small : n / 256 % 256 ≡ n / 256 = omega arith in
      ap (λ (j : ℕ). take j bs ++ (82 ∷ 80 ∷ n / 256 ∷ n % 256 ∷ 3 ∷ 0 ∷ 0 ∷ 0 ∷ [])) e
      ∙ ap (λ (j : ℕ). take end bs ++ (82 ∷ 80 ∷ j ∷ n % 256 ∷ 3 ∷ 0 ∷ 0 ∷ 0 ∷ [])) (sym small)
      ∙ rw (ne_eqb w 3 h)

-- The cells

pub placed_past : (s e room : ℕ) → room < e → None ≡ placed s e room
unfolding placed
placed_past s e room h = rw (lt-ltb room e h)

pub placed_within : (s e room : ℕ) → e ≤ room → Some (cells s e) ≡ placed s e room
unfolding placed
placed_within s e room h = rw (le-ltb room e h)

pub none_answered : (ran : Result Tables Refusal) (r : Refusal) (w room : ℕ) → ran ≡ Err r
    → None ≡ place_in (answered ran) w room
unfolding answered place_in
none_answered ran r w room e = rw e

module _ (ran : Result Tables Refusal) (t : Tables) (w room : ℕ) (d : ran ≡ Ok t) where
  answered_place : (p : Option Place) → p ≡ place_of t.start t.rows t.filled w room → p ≡ place_in (answered ran) w room
  unfolding answered place_in
  answered_place p h = h ∙ sym (ap (λ (x : Result Tables Refusal). place_in (answered x) w room) d)

  pub past_end : t.filled < t.start → None ≡ place_in (answered ran) w room
  unfolding place_of
  past_end h = answered_place None (rw (lt-ltb t.filled t.start h))

  module _ (h : t.start ≤ t.filled) where
    pub last_place : (p : Option Place) → w ≡ 3 → p ≡ placed t.start t.filled room → p ≡ place_in (answered ran) w room
    unfolding place_of
    last_place p k q = answered_place p (q ∙ rw (le-ltb t.filled t.start h, eq-eqb w 3 k))

    module _ (k : w ≡ 3 → ⊥) where
      pub many_rows : room < t.rows → None ≡ place_in (answered ran) w room
      unfolding place_of
      many_rows g = answered_place None (rw (le-ltb t.filled t.start h, ne_eqb w 3 k, lt-ltb room t.rows g))

      module _ (g : t.rows ≤ room) where
        pub past_start : t.start < t.rows * w → None ≡ place_in (answered ran) w room
        unfolding place_of
        past_start l =
            answered_place None
            (rw (le-ltb t.filled t.start h, ne_eqb w 3 k, le-ltb room t.rows g, lt-ltb t.start (t.rows * w) l))

        pub before_place : (p : Option Place) → t.rows * w ≤ t.start → p ≡ placed (t.start - t.rows * w) t.start room
            → p ≡ place_in (answered ran) w room
        unfolding place_of
        before_place p l q =
            answered_place p
            (q ∙ rw (le-ltb t.filled t.start h, ne_eqb w 3 k, le-ltb room t.rows g, le-ltb t.start (t.rows * w) l))
