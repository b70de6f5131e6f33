-- Operators, one by one, and the tables that they name.
--     sound_case, owes_case     what is known of an operator is known of its case: its soundness, and its promise
--     listed                 a table of the list stands
--     named_stand            the tables that a sound operator names stand
--     made_none, made_of_lem     the width of its table: it names none, or two
--     turn_sound             the next operator of an accepted plan is sound for the tables that are listed
use Rattle.std.specs.Prelude.{Option, Some, None, Result}
use Prim.Native.Nat.{ℕ, ◌+◌, ◌*◌, ◌≤◌, ◌<◌}
use mathlib.Core.Path.{◌≡◌, refl, sym, ap, ap₂, ◌∙◌, subst}
use mathlib.Core.List.{List}
use native.Mathlib.Omega.{arith}
use lib.IntN.{ℤ}
use lib.ListN.{length, get_or}
use Rattle.meaning.specs.Operators.{Table, make}
use Rattle.meaning.specs.Plan.{Placed}
use Rattle.meaning.specs.World.{World}
use Rattle.tables.specs.declared.Unlaid.{Unlaid}
use Rattle.tables.specs.Layout.{Owes}
use Rattle.plan_records.specs.declared.Decoded.{Decoded}
use Rattle.plan_records.specs.declared.Operator.{Operator}
use Rattle.plans.specs.Accepted.{Turn}
use Rattle.plan_records.specs.Decoded.{operator_of}
use Rattle.theorems.specs.PlanRead.{widths_of}
use Rattle.plan_widths.specs.Widths as Widths
use Rattle.plan_widths.specs.Widths.{tables_of}
use Rattle.plans.proofs.Callers.{no_table, turn_fitting}
use Rattle.directory.specs.Directory.{widths_in, ListedTables}
use Rattle.directory.specs.Sound.{TableStands, wide, made_of, made_width, SoundOf, SoundOperator, Served}
use Rattle.directory.proofs.Entries.{length_widths, width_of}

module _ (o k : Operator) (e : o ≡ k) where
  pub sound_case : (plan dir : List ℕ) (n : ℕ) → SoundOperator plan dir n o → SoundOperator plan dir n k
  sound_case plan dir n h = subst (SoundOperator plan dir n) e h

  pub owes_case :
      (room at : ℕ) (plan dir : List ℕ) (w : World) (ts : List Table) (xs ys : List ℤ) (r : Result ℕ Unlaid) →
      Owes room at (made_width dir k) (make w (operator_of plan k) ts) xs ys r →
      Owes room at (made_width dir o) (make w (operator_of plan o) ts) xs ys r
  owes_case room at plan dir w ts xs ys r h =
      subst (λ (q : Operator). Owes room at (made_width dir q) (make w (operator_of plan q) ts) xs ys r) (sym e) h

pub listed : (dir : List ℕ) (n top t : ℕ) → ListedTables dir n top → t < n → TableStands dir top t
listed dir n top t l h =
    record {
      there = omega (arith, l.long, l.few);
      inside = l.inside t h;
      low = (l.wide t h).0;
      high = (l.wide t h).1;
    }

-- the tables that an operator names stand
module _ (dir : List ℕ) where
  abbrev Known : Option (ℕ × ℕ) → Type 0
  Known None = Unit {0}
  Known (Some (t, u)) = (3 * t + 3 ≤ length dir) × (3 * u + 3 ≤ length dir) × (wide dir t ≤ 6) × (wide dir u ≤ 6)

  known :
      (plan : List ℕ) (n top : ℕ) (o : Operator) (q : Option (ℕ × ℕ)) → ListedTables dir n top → SoundOf plan dir n o q
      → Known q
  unfolding SoundOf
  known plan n top o None l s = tt
  known plan n top o (Some (t, u)) l s =
      let a = listed dir n top t l s.0 in
      let b = listed dir n top u l s.1 in
      (a.there, b.there, a.high, b.high)

  module _ (o : Operator) (q : Option (ℕ × ℕ)) (e : q ≡ tables_of o) where
    pub named_stand : Served dir o → (t u : ℕ) → q ≡ Some (t, u) → Known (Some (t, u))
    unfolding Served SoundOperator
    named_stand s t u k = subst Known (sym e ∙ k) (known s.0 s.1 s.2 o (tables_of o) s.3 s.4)

    pub made_none : q ≡ None → 1 ≡ made_width dir o
    unfolding made_width made_of
    made_none k = ap (made_of dir o) (sym k ∙ e)

    pub made_of_lem : (t u w v r : ℕ) → q ≡ Some (t, u) → w ≡ wide dir t → v ≡ wide dir u → r ≡ Widths.made_width o w v →
        r ≡ made_width dir o
    unfolding made_width made_of
    made_of_lem t u w v r k a b h = h ∙ ap₂ (Widths.made_width o) a b ∙ ap (made_of dir o) (sym k ∙ e)

-- the next operator of an accepted plan
module _ (plan dir : List ℕ) (n : ℕ) (before rest : List Placed) (at : ℕ) (f : Decoded) (k : Turn plan before rest at f)
    (widths : widths_in dir n ≡ widths_of before) where
  width_is : (t : ℕ) → t < n → get_or (widths_of before) t 0 ≡ wide dir t
  width_is t h = sym (width_of dir n t h ∙ ap (λ (ws : List ℕ). get_or ws t 0) widths)

  number : length (widths_of before) ≡ n
  number = sym (ap length widths) ∙ length_widths dir n

  sound_of : (q : Option (ℕ × ℕ)) → tables_of f.operator ≡ q → SoundOf plan dir n f.operator q ×
      (made_of dir f.operator q ≡ k.width)
  unfolding SoundOf made_of
  sound_of None e = (tt, sym (no_table plan (widths_of before) f.operator k.width k.stands k.fits e))
  sound_of (Some (t, u)) e =
      let g = turn_fitting k t u e in
      let a : t < n = omega (arith, g.first, number) in
      let b : u < n = omega (arith, g.second, number) in (
        (a, b, rw (← width_is t a, ← width_is u b) g.suited),
        ap₂ (Widths.made_width f.operator) (sym (width_is t a)) (sym (width_is u b)) ∙ sym g.made,
      )

  pub turn_sound : SoundOperator plan dir n f.operator × (made_width dir f.operator ≡ k.width)
  unfolding SoundOperator made_width
  turn_sound = sound_of (tables_of f.operator) refl
