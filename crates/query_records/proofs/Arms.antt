-- What the record reader's functions lean on: a record that is there or cut, its fields, and the marks.
--     means_cut, means_fails, means_sized    what a record of n bytes means: cut, a bad field, sound
--     boolean_none       numbers that name nothing
--     variable_room, variable_fails, variable_means    a record of a variable
--     apply_none, apply_means    a function
--     step_no_axis, step_no_test, step_means    a step
--     record_cut, record_gap, record_none    no record where the mark is cut, or is none of the thirteen
use Rattle.std.specs.Prelude.{Option, Some, None}
use Prim.Native.Nat.{ℕ, ◌+◌, ◌≤◌, ◌<◌}
use mathlib.Core.Path.{◌≡◌, refl, sym, ◌∙◌, ap, subst, subst⁻¹}
use mathlib.Core.Bool.{Bool, true, false, cond}
use mathlib.Core.List.{List, [], ◌∷◌}
use mathlib.Core.Logic.{◌⊎◌, inl, inr}
use native.Mathlib.Omega.{arith}
use borrow.Author.Tests.{leb-true, leb-false, lt-leb, le-leb, ne_eqb}
use lib.Dec.{eqb}
use mir.Syntax.{w8}
use mir.Val.{Fits}
use lib.ListN.{length}
use Rattle.cells.specs.Bytes.{byte_at, word, fits}
use Rattle.codes.specs.Codes.{function_of, axis_of, test_of, function_field, axis_field, test_field, NoneOf}
use Rattle.codes.specs.declared.Function.{Function}
use Rattle.codes.specs.declared.Axis.{Axis}
use Rattle.codes.specs.declared.Test.{Test}
use Rattle.laws.specs.Attempt.{Attempt, fails, gives, attempt, provided}
use Rattle.meaning.specs.Query as Query
use Rattle.meaning.specs.Query.{mark_ql, mark_qb, mark_qe, mark_qr, mark_qv, mark_qs, mark_qt, mark_qf, mark_qi}
use Rattle.meaning.specs.Query.{mark_qo, mark_qc}
use Rattle.meaning.specs.Query.{mark_qd, mark_qx, sized, variable_of, boolean_of}
use Rattle.query_records.specs.declared.Decoded.{Decoded}
use Rattle.query_records.specs.declared.Record.{Record}
use Rattle.query_records.specs.Decoded.{record_of, reading_of, SmallLiteral, Means, number_field}
use Rattle.query_records.specs.Arms.{variable_at, variable_record, apply_record, step_record}
use Rattle.query_records.proofs.Outcomes.{provided_apart, cond_all}

-- A record that is there, or cut

module _ (bs : List ℕ) (at n : ℕ) (a : Attempt Query.Record) where
  sized_cut : fits bs at n ≡ false → sized bs at n a ≡ fails
  unfolding sized provided
  sized_cut h = rw h

  pub means_cut : fits bs at n ≡ false → Means None (sized bs at n a)
  unfolding reading_of
  means_cut h = record { means = sym (sized_cut h); small = tt }

  pub means_fails : fits bs at n ≡ true → a ≡ fails → Means None (sized bs at n a)
  unfolding reading_of sized provided attempt
  means_fails h e = rw (h, e) (record { means = refl; small = tt })

  pub means_sized :
      (r : Option Decoded) (k : Record) → r ≡ Some (record { kind = k; next = at + n }) →
      fits bs at n ≡ true → SmallLiteral k → a ≡ gives (record_of k) → Means r (sized bs at n a)
  unfolding reading_of sized provided attempt
  means_sized r k e h s g =
      subst⁻¹ (λ (x : Option Decoded). Means x (sized bs at n a)) e (rw (h, g) (record { means = refl; small = s }))

-- Numbers that name nothing

pub boolean_none : (n : ℕ) → NoneOf n (1 ∷ 0 ∷ []) → boolean_of n ≡ fails
unfolding boolean_of
boolean_none n ((h, a), b) = simp (ne_eqb n 0 a, ne_eqb n 1 b)

pub record_none :
    (bs : List ℕ) (at m : ℕ) →
    NoneOf m
    (mark_qx ∷ mark_qd ∷ mark_qc ∷ mark_qo ∷ mark_qi ∷ mark_qf ∷ mark_qt ∷ mark_qs ∷ mark_qv ∷ mark_qr ∷ mark_qe
    ∷ mark_qb ∷ mark_ql ∷ []) →
    Query.record_of bs at m ≡ fails
unfolding Query.record_of
record_none bs at m (((((((((((((h, a), b), c), d), e), f), g), i), j), k), l), n), o) =
    simp (
      ne_eqb m mark_ql a,
      ne_eqb m mark_qb b,
      ne_eqb m mark_qe c,
      ne_eqb m mark_qr d,
      ne_eqb m mark_qv e,
      ne_eqb m mark_qs f,
      ne_eqb m mark_qt g,
      ne_eqb m mark_qf i,
      ne_eqb m mark_qi j,
      ne_eqb m mark_qo k,
      ne_eqb m mark_qc l,
      ne_eqb m mark_qd n,
      ne_eqb m mark_qx o,
    )

-- the two single numbers between the marks that name nothing
pub record_gap : (bs : List ℕ) (at m : ℕ) → (m ≡ 0x5155) ⊎ (m ≡ 0x5157) → Query.record_of bs at m ≡ fails
unfolding Query.record_of
record_gap bs at m (inl e) = rw e
record_gap bs at m (inr e) = rw e

-- A record of a variable

module _ (bs : List ℕ) (at : ℕ) (x : Option ℕ) (e : number_field x ≡ variable_at bs at) where
  variable_none : x ≡ None → variable_at bs at ≡ fails
  variable_none h = sym e ∙ ap number_field h

  variable_is : (v : ℕ) → x ≡ Some v → variable_at bs at ≡ gives v
  variable_is v h = sym e ∙ ap number_field h

  pub variable_room : (v : ℕ) → x ≡ Some v → at + 3 ≤ length bs
  unfolding variable_at fits
  variable_room v h =
      leb-true (at + 3) (length bs)
      (provided_apart (fits bs at 3) (variable_of (byte_at bs (at + 2))) v (variable_is v h)).0

module _ (bs : List ℕ) (at : ℕ) (f : ℕ → Query.Record) where
  variable_record_lem : variable_record bs at f ≡ attempt (variable_at bs at) (λ v. gives (f v, at + 3))
  unfolding variable_record variable_at sized provided attempt
  variable_record_lem = go (fits bs at 3) (variable_of (byte_at bs (at + 2)))
    where
      go :
          (t : Bool) (a : Attempt ℕ) →
          provided {A = Query.Record × ℕ} t (attempt (attempt a (λ v. gives (f v))) (λ r. gives (r, at + 3))) ≡
          attempt (provided t a) (λ v. gives (f v, at + 3))
      go true fails = refl
      go true (gives v) = refl
      go false a = refl

  module _ (x : Option ℕ) (e : number_field x ≡ variable_at bs at) where
    pub variable_fails : x ≡ None → Means None (variable_record bs at f)
    unfolding reading_of attempt
    variable_fails h = rw (variable_record_lem, variable_none bs at x e h) (record { means = refl; small = tt })

    pub variable_means :
        (r : Option Decoded) (k : Record) (v : ℕ) → r ≡ Some (record { kind = k; next = at + 3 }) → x ≡ Some v →
        SmallLiteral k → record_of k ≡ f v → Means r (variable_record bs at f)
    unfolding reading_of attempt
    variable_means r k v p h s q =
        rw (p, variable_record_lem, variable_is bs at x e v h, ← q) (record { means = refl; small = s })

-- A function

module _
    (bs : List ℕ) (at : ℕ) (h : fits bs at 3 ≡ true)
    (x : Option Function) (e : function_field x ≡ function_of (byte_at bs (at + 2))) where
  pub apply_none : x ≡ None → Means None (apply_record bs at)
  unfolding apply_record attempt
  apply_none p = means_fails bs at 3 _ h (rw (sym e ∙ ap function_field p))

  pub apply_means :
      (f : Function) (r : Option Decoded) → x ≡ Some f →
      r ≡ Some (record { kind = Record.Apply f; next = at + 3 }) → Means r (apply_record bs at)
  unfolding apply_record attempt record_of
  apply_means f r p s = means_sized bs at 3 _ r (Record.Apply f) s h tt (rw (sym e ∙ ap function_field p))

-- A step

module _
    (bs : List ℕ) (at : ℕ) (h : fits bs at 6 ≡ true)
    (x : Option Axis) (e : axis_field x ≡ axis_of (byte_at bs (at + 2))) where
  pub step_no_axis : x ≡ None → Means None (step_record bs at)
  unfolding step_record attempt
  step_no_axis p = means_fails bs at 6 _ h (rw (sym e ∙ ap axis_field p))

  module _
      (n : ℕ) (w : n ≡ word bs (at + 4) 2) (t : Option Test) (f : test_field t ≡ test_of (byte_at bs (at + 3)) n)
      (axis : Axis) (p : x ≡ Some axis) where
    test_is : test_field t ≡ test_of (byte_at bs (at + 3)) (word bs (at + 4) 2)
    test_is = rw (← w) f

    pub step_no_test : t ≡ None → Means None (step_record bs at)
    unfolding step_record attempt
    step_no_test q = means_fails bs at 6 _ h (rw (sym e ∙ ap axis_field p, sym test_is ∙ ap test_field q))

    pub step_means :
        (test : Test) (r : Option Decoded) → t ≡ Some test →
        r ≡ Some (record { kind = Record.Step axis test; next = at + 6 }) → Means r (step_record bs at)
    unfolding step_record attempt record_of
    step_means test r q s =
        means_sized bs at 6 _ r (Record.Step axis test) s h tt
        (rw (sym e ∙ ap axis_field p, sym test_is ∙ ap test_field q))

-- Marks

module _ (bs : List ℕ) (at : ℕ) where
  pub means_mark :
      (r : Option Decoded) (m k : ℕ) → m ≡ word bs at 2 → m ≡ k →
      Means r (Query.record_of bs at k) → Means r (Query.record_of bs at (word bs at 2))
  means_mark r m k e h = subst (λ (n : ℕ). Means r (Query.record_of bs at n)) (sym h ∙ e)

  pub means_none : (a : Attempt (Query.Record × ℕ)) → a ≡ fails → Means None a
  unfolding reading_of
  means_none a e = record { means = sym e; small = tt }

  abbrev ReadFails : Attempt (Query.Record × ℕ) → Type 0
  ReadFails a = a ≡ fails

  shorter : (n : ℕ) (a : Attempt Query.Record) → 2 ≤ n → fits bs at 2 ≡ false → sized bs at n a ≡ fails
  unfolding fits
  shorter n a h e =
      let l : length bs < at + 2 = leb-false (at + 2) (length bs) e in
      sized_cut bs at n a (lt-leb (at + n) (length bs) (omega arith))

  either : (t : Bool) (a b : Attempt (Query.Record × ℕ)) → ReadFails a → ReadFails b → ReadFails (cond t a b)
  either t a b = cond_all ReadFails t a b

  pub record_cut : (mark : ℕ) → fits bs at 2 ≡ false → Query.record_of bs at mark ≡ fails
  unfolding Query.record_of
  record_cut mark e =
      either (eqb mark mark_ql) _ _ (shorter 6 _ (omega arith) e)
      (either (eqb mark mark_qb) _ _ (shorter 3 _ (omega arith) e)
      (either (eqb mark mark_qe) _ _ (shorter 2 _ (omega arith) e)
      (either (eqb mark mark_qr) _ _ (shorter 3 _ (omega arith) e)
      (either (eqb mark mark_qv) _ _ (shorter 3 _ (omega arith) e)
      (either (eqb mark mark_qs) _ _ (shorter 2 _ (omega arith) e)
      (either (eqb mark mark_qt) _ _ (shorter 3 _ (omega arith) e)
      (either (eqb mark mark_qf) _ _ (shorter 3 _ (omega arith) e)
      (either (eqb mark mark_qi) _ _ (shorter 2 _ (omega arith) e)
      (either (eqb mark mark_qo) _ _ (shorter 3 _ (omega arith) e)
      (either (eqb mark mark_qc) _ _ (shorter 2 _ (omega arith) e)
      (either (eqb mark mark_qd) _ _ (shorter 2 _ (omega arith) e)
      (either (eqb mark mark_qx) _ _ (shorter 6 _ (omega arith) e) refl))))))))))))

pub fragment_is : (k : ℕ) → NoneOf k (0 ∷ []) → Fits w8 k → Query.fragment_of k ≡ gives k
unfolding Query.fragment_of provided
fragment_is k (h, z) f = rw (le-leb 1 k (omega arith), le-leb k 255 (omega arith))
