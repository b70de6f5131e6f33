-- What each operator makes of the tables that are listed is what the definitions make of them.
--     one_made .. root_made   the promise of an operator's code is the promise of the operator
use Rattle.std.specs.Prelude.{Result}
use Prim.Native.Nat.{ℕ, ◌+◌, ◌<◌}
use mathlib.Core.Path.{◌≡◌, refl, sym, ap, ap₂, subst}
use mathlib.Core.List.{List, [], ◌∷◌, ◌++◌}
use lib.IntN.{ℤ, pos}
use Rattle.codes.specs.declared.Axis.{Axis}
use Rattle.codes.specs.declared.Function.{Function}
use Rattle.codes.specs.declared.Test.{Test}
use Rattle.laws.specs.Attempt.{Attempt, gives, provided, each}
use Rattle.meaning.specs.Catalogue.{Catalogue}
use Rattle.meaning.specs.Operators as Operators
use Rattle.meaning.specs.Operators.{Table, table_of, make}
use Rattle.meaning.specs.Plan.{columns_at}
use Rattle.meaning.specs.World.{world_of}
use Rattle.tables.specs.declared.Unlaid.{Unlaid}
use Rattle.rowwise.specs.declared.Task.{Task}
use Rattle.rowwise.specs.declared.Task.TheVariants as Task
use Rattle.tables.specs.Layout.{table_at, Owes}
use Rattle.rowwise.specs.Tasks.{made, wider}
use Rattle.tables.proofs.Promise.{owes_is}
use Rattle.rowwise.proofs.Operators.{makes_RA, makes_RP, makes_RD, makes_RS, makes_RF, makes_RV}
use Rattle.whole.proofs.Makes.{makes_RT, makes_RU, makes_RK, makes_RO}
use Rattle.plan_records.specs.declared.Operator.{Operator}
use Rattle.plan_records.specs.declared.Operator.TheVariants as Operator
use Rattle.plan_records.specs.Decoded.{operator_of}
use Rattle.plan_widths.specs.Widths as Widths
use Rattle.directory.specs.Directory.{stand_at, tables_in}
use Rattle.directory.proofs.Entries.{table_of_lem}
use Rattle.directory.specs.Sound.{wide, made_of, made_width, SoundOf, SoundOperator}
use Rattle.directory.proofs.Cases.{sound_case, owes_case}

module _ (room at n : ℕ) (plan dir : List ℕ) (c : Catalogue) (xs ys : List ℤ) (r : Result ℕ Unlaid) (o : Operator)
    (sound : SoundOperator plan dir n o) where
  abbrev ts : List Table
  ts = tables_in xs dir n

  abbrev at_table : ℕ → Table
  at_table t = table_at xs (stand_at dir t)

  -- the promise of operator o
  abbrev Performed : Type 0
  Performed = Owes room at (made_width dir o) (make (world_of c) (operator_of plan o) ts) xs ys r

  -- .. from that of an equal one
  performed : (k : Operator) → o ≡ k → (w : ℕ) (m : Attempt Table) → made_width dir k ≡ w →
      make (world_of c) (operator_of plan k) ts ≡ m
      → Owes room at w m xs ys r → Performed
  performed k e w m p q h =
      owes_case o k e room at plan dir (world_of c) ts xs ys r
      (owes_is room at (made_width dir k) xs ys r q (subst (λ (v : ℕ). Owes room at v m xs ys r) (sym p) h))

  pub one_made : o ≡ Operator.One → Owes room at 1 (gives ((pos 1 ∷ []) ∷ [])) xs ys r → Performed
  unfolding made_width made_of Widths.tables_of Widths.made_width operator_of
  one_made e h = performed Operator.One e 1 _ refl (makes_RT plan c xs ts) h

  -- a table that the operator names
  names : (t : ℕ) → t < n → table_at xs (stand_at dir t) ≡ table_of ts t
  names t h = table_of_lem xs dir n t h

  module _ (t : ℕ) where
    pub attach_made : (z v : ℤ) → v ≡ z → o ≡ Operator.Attach t z
        → Owes room at (wider (wide dir t) (Task.Attach v)) (each (made plan c xs (Task.Attach v))
        (at_table t)) xs ys r → Performed
    unfolding made_width made_of Widths.tables_of Widths.made_width operator_of SoundOperator SoundOf wider
    attach_made z v i e h =
        let s = sound_case o (Operator.Attach t z) e plan dir n sound in
        performed (Operator.Attach t z) e _ _ refl (makes_RA plan c xs ts t (stand_at dir t) (names t s.0) z)
        (subst (λ (u : ℤ). Owes room at (wide dir t + 1) (each (made plan c xs (Task.Attach u))
        (at_table t)) xs ys r) i h)

    pub project_made : (m k : ℕ) → o ≡ Operator.Project t m k
        → Owes room at (wider (wide dir t) (Task.Project m k))
        (each (made plan c xs (Task.Project m k)) (at_table t)) xs ys r → Performed
    unfolding made_width made_of Widths.tables_of Widths.made_width operator_of SoundOperator SoundOf wider
    project_made m k e h =
        let s = sound_case o (Operator.Project t m k) e plan dir n sound in
        performed (Operator.Project t m k) e _ _ refl (makes_RP plan c xs ts t (stand_at dir t) (names t s.0) m k) h

    pub select_made : (k : ℕ) → o ≡ Operator.Select t k
        → Owes room at (wider (wide dir t) (Task.Select k)) (each (made plan c xs (Task.Select k))
        (at_table t)) xs ys r → Performed
    unfolding made_width made_of Widths.tables_of Widths.made_width operator_of SoundOperator SoundOf wider
    select_made k e h =
        let s = sound_case o (Operator.Select t k) e plan dir n sound in
        performed (Operator.Select t k) e _ _ refl (makes_RS plan c xs ts t (stand_at dir t) (names t s.0) k) h

    pub apply_made : (f : Function) (k d : ℕ) → o ≡ Operator.Apply t f k d
        → Owes room at (wider (wide dir t) (Task.Apply f k d))
        (each (made plan c xs (Task.Apply f k d)) (at_table t)) xs ys r → Performed
    unfolding made_width made_of Widths.tables_of Widths.made_width operator_of SoundOperator SoundOf wider
    apply_made f k d e h =
        let s = sound_case o (Operator.Apply t f k d) e plan dir n sound in
        performed (Operator.Apply t f k d) e _ _ refl (makes_RF plan c xs ts t (stand_at dir t) (names t s.0) f k d) h

    pub value_made : (k : ℕ) → o ≡ Operator.Value t k
        → Owes room at (wider (wide dir t) (Task.Value k)) (each (made plan c xs (Task.Value k)) (at_table t)) xs ys r →
        Performed
    unfolding made_width made_of Widths.tables_of Widths.made_width operator_of SoundOperator SoundOf wider
    value_made k e h =
        let s = sound_case o (Operator.Value t k) e plan dir n sound in
        performed (Operator.Value t k) e _ _ refl (makes_RV plan c xs ts t (stand_at dir t) (names t s.0) k) h

    pub once_made : (k : ℕ) → o ≡ Operator.Once t k
        → Owes room at (wide dir t) (provided (Operators.once (Operators.column (at_table t) k))
        (gives (at_table t))) xs ys r → Performed
    unfolding made_width made_of Widths.tables_of Widths.made_width operator_of SoundOperator SoundOf
    once_made k e h =
        let s = sound_case o (Operator.Once t k) e plan dir n sound in
        performed (Operator.Once t k) e _ _ refl (makes_RK plan c xs ts t (stand_at dir t) (names t s.0) k) h

    pub root_made : (k : ℕ) → o ≡ Operator.Root t k
        → Owes room at (wide dir t + 1) (Operators.rooted (world_of c) (at_table t) k) xs ys r → Performed
    unfolding made_width made_of Widths.tables_of Widths.made_width operator_of SoundOperator SoundOf
    root_made k e h =
        let s = sound_case o (Operator.Root t k) e plan dir n sound in
        performed (Operator.Root t k) e _ _ refl (makes_RO plan c xs ts t (stand_at dir t) (names t s.0) k) h

    pub number_made : (p m k : ℕ) → o ≡ Operator.Number t p m k
        → Owes room at (wide dir t + 1) (gives (Operators.number (at_table t) p (columns_at plan k m))) xs ys r →
        Performed
    unfolding made_width made_of Widths.tables_of Widths.made_width operator_of SoundOperator SoundOf make
    number_made p m k e h =
        let s = sound_case o (Operator.Number t p m k) e plan dir n sound in
        performed (Operator.Number t p m k) e _ _ refl
        (ap (λ (l : Table). gives (Operators.number l p (columns_at plan k m))) (sym (names t s.0))) h

    pub counts_made : (k : ℕ) → o ≡ Operator.Counts t k
        → Owes room at 2 (gives (Operators.counts (at_table t) k)) xs ys r → Performed
    unfolding made_width made_of Widths.tables_of Widths.made_width operator_of SoundOperator SoundOf make
    counts_made k e h =
        let s = sound_case o (Operator.Counts t k) e plan dir n sound in
        performed (Operator.Counts t k) e _ _ refl (ap (λ (l : Table). gives (Operators.counts l k))
        (sym (names t s.0))) h

    pub truths_made : o ≡ Operator.Truths t → Owes room at 2 (Operators.truths (world_of c) (at_table t)) xs ys r →
        Performed
    unfolding made_width made_of Widths.tables_of Widths.made_width operator_of SoundOperator SoundOf make
    truths_made e h =
        let s = sound_case o (Operator.Truths t) e plan dir n sound in
        performed (Operator.Truths t) e _ _ refl (ap (Operators.truths (world_of c)) (sym (names t s.0))) h

    pub step_made : (x : Axis) (y : Test) → o ≡ Operator.Step t x y
        → Owes room at 2 (Operators.steps (world_of c) x y (at_table t)) xs ys r → Performed
    unfolding made_width made_of Widths.tables_of Widths.made_width operator_of SoundOperator SoundOf make
    step_made x y e h =
        let s = sound_case o (Operator.Step t x y) e plan dir n sound in
        performed (Operator.Step t x y) e _ _ refl (ap (Operators.steps (world_of c) x y) (sym (names t s.0))) h

    pub union_made : (u : ℕ) → o ≡ Operator.Union t u
        → Owes room at (wide dir t) (gives (at_table t ++ at_table u)) xs ys r → Performed
    unfolding made_width made_of Widths.tables_of Widths.made_width operator_of SoundOperator SoundOf
    union_made u e h =
        let s = sound_case o (Operator.Union t u) e plan dir n sound in
        performed (Operator.Union t u) e _ _ refl
        (makes_RU plan c xs ts t (stand_at dir t) (names t s.0) u (stand_at dir u) (names u s.1)) h

    pub minus_made : (u : ℕ) → o ≡ Operator.Minus t u
        → Owes room at (wide dir t) (each (made plan c xs (Task.Minus (stand_at dir u))) (at_table t)) xs ys r →
        Performed
    unfolding made_width made_of Widths.tables_of Widths.made_width operator_of SoundOperator SoundOf
    minus_made u e h =
        let s = sound_case o (Operator.Minus t u) e plan dir n sound in
        performed (Operator.Minus t u) e _ _ refl
        (makes_RD plan c xs ts t (stand_at dir t) (names t s.0) u (stand_at dir u) (names u s.1)) h

    pub join_made : (k u d : ℕ) → o ≡ Operator.Join t k u d
        → Owes room at (wide dir t + wide dir u) (gives (Operators.join (at_table t) k (at_table u) d)) xs ys r →
        Performed
    unfolding made_width made_of Widths.tables_of Widths.made_width operator_of SoundOperator SoundOf make
    join_made k u d e h =
        let s = sound_case o (Operator.Join t k u d) e plan dir n sound in
        performed (Operator.Join t k u d) e _ _ refl
        (ap₂ (λ (l q : Table). gives (Operators.join l k q d)) (sym (names t s.0)) (sym (names u s.1))) h
