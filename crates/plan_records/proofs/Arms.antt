-- What the functions of the marks with a field in a range lean on, and the marks.
--     in_range_lem, before_range, past_range     the test of a range lo to hi
--     attach-.., project-.., number-.., apply-.., step-.., root-..     a bad field, a sound one
--     function_value, function_apply    RF by its function's number
--     of_mark                        the arm that a mark picks
--     mark_cut, mark_gap, mark_none    no operator where the mark is cut, or is none of the fourteen
use Rattle.std.specs.Prelude.{Option, Some, None}
use Prim.Native.Nat.{ℕ, ◌+◌, ◌≤◌, ◌<◌}
use mathlib.Core.Path.{◌≡◌, refl, sym, ◌∙◌, ap, subst}
use mathlib.Core.Bool.{Bool, true, false, not, cond, ◌&&◌}
use mathlib.Core.List.{List, [], ◌∷◌}
use native.Mathlib.Omega.{arith}
use borrow.Author.Tests.{not-true, not-false, le-leb, lt-leb, ne_eqb}
use lib.Dec.{eqb, leb}
use lib.IntN.{ℤ}
use lib.ListN.{length}
use Rattle.cells.specs.Bytes.{word, int8, fits}
use Rattle.cells.specs.Cell.{held}
use Rattle.codes.specs.declared.Axis.{Axis}
use Rattle.codes.specs.declared.Test.{Test}
use Rattle.codes.specs.declared.Function.{Function}
use Rattle.laws.specs.Attempt.{Attempt, fails, attempt, provided}
use Rattle.meaning.specs.Query.{fragment_of}
use Rattle.codes.specs.Codes.{function_of, axis_of, test_of, function_field, axis_field, test_field, NoneOf}
use Rattle.meaning.specs.Plan as Plan
use Rattle.meaning.specs.Plan.{Op, field, plain_in, attach_at, project_at, number_at, function_at, step_at}
use Rattle.meaning.specs.Plan.{operator_at, mark_rt, mark_ra, mark_rp, mark_ru, mark_rd, mark_rs, mark_rj, mark_rn}
use Rattle.meaning.specs.Plan.{mark_rf, mark_rc, mark_re, mark_rk, mark_rx, mark_ro}
use Rattle.cells.proofs.Cut.{fits_cut}
use Rattle.plan_records.specs.declared.Decoded.{Decoded}
use Rattle.plan_records.specs.declared.Operator.{Operator}
use Rattle.plan_records.specs.Arms as Arms
use Rattle.plan_records.specs.Decoded.{operator_of, ColumnsStand, Means}
use Rattle.plan_records.proofs.Sized.{shorter, there, none_reads, bad_reads, cut_reads, cut_before, sound_reads}

-- The range of a number

module _ (lo hi n : ℕ) where
  pub in_range_lem : lo ≤ n → n ≤ hi → leb lo n && leb n hi ≡ true
  in_range_lem h k = rw (le-leb lo n h, le-leb n hi k)

  pub before_range : n < lo → leb lo n && leb n hi ≡ false
  before_range h = rw (lt-leb lo n h)

  pub past_range : hi < n → leb lo n && leb n hi ≡ false
  past_range h = go (leb lo n) (leb n hi) (lt-leb n hi h)
    where
      go : (a b : Bool) → b ≡ false → a && b ≡ false
      go true b e = e
      go false b e = refl

-- RA

module _ (bs : List ℕ) (at : ℕ) (z : ℤ) (e : z ≡ int8 bs (at + 4)) (b : Bool) (f : b ≡ plain_in (held z)) where
  pub attach_bad : not b ≡ true → Means bs None (Arms.attach bs at)
  unfolding Arms.attach attach_at provided
  attach_bad h = bad_reads bs at 12 _ (rw (← e, ← f, not-true b h))

  pub attach_sound :
      (t : Bool) → t ≡ fits bs at 12 → not t ≡ false → not b ≡ false → (w : ℕ) → w ≡ word bs (at + 2) 2 →
      (r : Option Decoded) → r ≡ Some (record { operator = Operator.Attach w z; next = at + 12 }) →
      Means bs r (Arms.attach bs at)
  unfolding Arms.attach attach_at provided operator_of ColumnsStand
  attach_sound t p q h w k r s =
      sound_reads bs at 12 t p _ r (Operator.Attach w z) q s tt (rw (← e, ← f, not-false b h, k))

-- RP and RN: n columns, or n keys

module _ (bs : List ℕ) (at : ℕ) (t : Bool) where
  pub project_short : t ≡ fits bs at 5 → not t ≡ true → Means bs None (Arms.project bs at)
  unfolding Arms.project
  project_short p h = cut_before bs at 5 t p _ _ (omega arith) h

  pub number_short : t ≡ fits bs at 6 → not t ≡ true → Means bs None (Arms.number bs at)
  unfolding Arms.number
  number_short p h = cut_before bs at 6 t p _ _ (omega arith) h

module _ (bs : List ℕ) (at n : ℕ) where
  module _ (e : n ≡ field bs at 4) where
    pub project_cut : (t : Bool) → t ≡ fits bs at (5 + n) → not t ≡ true → Means bs None (Arms.project bs at)
    unfolding Arms.project
    project_cut t p h = rw (← e) (cut_reads bs at (5 + n) t p _ h)

    pub project_bad : leb 1 n && leb n 6 ≡ false → Means bs None (Arms.project bs at)
    unfolding Arms.project project_at provided
    project_bad h = rw (← e) (bad_reads bs at (5 + n) _ (rw h))

    pub project_sound :
        (t : Bool) → t ≡ fits bs at (5 + n) → not t ≡ false → leb 1 n && leb n 6 ≡ true →
        (w : ℕ) → w ≡ word bs (at + 2) 2 →
        (r : Option Decoded) → r ≡ Some (record { operator = Operator.Project w n (at + 5); next = at + (5 + n) }) →
        Means bs r (Arms.project bs at)
    unfolding Arms.project project_at provided operator_of ColumnsStand
    project_sound t p q h w k r s =
        let l : at + 5 + n ≤ length bs = omega (arith, there bs at (5 + n) t p q) in
        rw (← e) (sound_reads bs at (5 + n) t p _ r (Operator.Project w n (at + 5)) q s l (rw (h, k)))

  module _ (e : n ≡ field bs at 5) where
    pub number_cut : (t : Bool) → t ≡ fits bs at (6 + n) → not t ≡ true → Means bs None (Arms.number bs at)
    unfolding Arms.number
    number_cut t p h = rw (← e) (cut_reads bs at (6 + n) t p _ h)

    pub number_bad : leb 1 n && leb n 2 ≡ false → Means bs None (Arms.number bs at)
    unfolding Arms.number number_at provided
    number_bad h = rw (← e) (bad_reads bs at (6 + n) _ (rw h))

    pub number_sound :
        (t : Bool) → t ≡ fits bs at (6 + n) → not t ≡ false → leb 1 n && leb n 2 ≡ true →
        (w : ℕ) → w ≡ word bs (at + 2) 2 → (p : ℕ) → p ≡ field bs at 4 →
        (r : Option Decoded) → r ≡ Some (record { operator = Operator.Number w p n (at + 6); next = at + (6 + n) }) →
        Means bs r (Arms.number bs at)
    unfolding Arms.number number_at provided operator_of ColumnsStand
    number_sound t i q h w k p j r s =
        let l : at + 6 + n ≤ length bs = omega (arith, there bs at (6 + n) t i q) in
        rw (← e) (sound_reads bs at (6 + n) t i _ r (Operator.Number w p n (at + 6)) q s l (rw (h, k, j)))

-- RF

module _ (bs : List ℕ) (at : ℕ) (x : Option Function) (e : function_field x ≡ function_of (field bs at 4)) where
  pub apply_bad : x ≡ None → Means bs None (Arms.apply bs at)
  unfolding Arms.apply attempt
  apply_bad p = bad_reads bs at 7 _ (rw (sym e ∙ ap function_field p))

  pub apply_sound :
      (t : Bool) → t ≡ fits bs at 7 → not t ≡ false →
      (w c d : ℕ) → w ≡ word bs (at + 2) 2 → c ≡ field bs at 5 → d ≡ field bs at 6 →
      (f : Function) → x ≡ Some f →
      (r : Option Decoded) → r ≡ Some (record { operator = Operator.Apply w f c d; next = at + 7 }) →
      Means bs r (Arms.apply bs at)
  unfolding Arms.apply attempt operator_of ColumnsStand
  apply_sound t p q w c d i j k f h r s =
      sound_reads bs at 7 t p _ r (Operator.Apply w f c d) q s tt (rw (sym e ∙ ap function_field h, i, j, k))

module _ (bs : List ℕ) (at n : ℕ) (e : n ≡ field bs at 4) (r : Option Decoded) where
  pub function_value : n ≡ 7 → Means bs r (Arms.value bs at) → Means bs r (Arms.function bs at)
  unfolding Arms.function Arms.value function_at
  function_value h k = rw (sym e ∙ h) k

  pub function_apply : (n ≡ 7 → ⊥) → Means bs r (Arms.apply bs at) → Means bs r (Arms.function bs at)
  unfolding Arms.function Arms.apply function_at
  function_apply h k =
      let o : eqb (field bs at 4) 7 ≡ false = ap (λ (m : ℕ). eqb m 7) (sym e) ∙ ne_eqb n 7 h in
      rw o k

function_cut : (bs : List ℕ) (at f n : ℕ) → n ≤ 6 → fits bs at n ≡ false → function_at bs at f ≡ fails
unfolding function_at
function_cut bs at f n l e = go (eqb f 7) _ _ (shorter bs at n 6 _ l e) (shorter bs at n 7 _ (omega arith) e)
  where
    go : (t : Bool) (a b : Attempt (Op × ℕ)) → a ≡ fails → b ≡ fails → cond t a b ≡ fails
    go true a b p q = p
    go false a b p q = q

pub function_short :
    (bs : List ℕ) (at : ℕ) (t : Bool) → t ≡ fits bs at 5 → not t ≡ true → Means bs None (Arms.function bs at)
unfolding Arms.function
function_short bs at t e h = none_reads bs at _ (function_cut bs at _ 5 (omega arith) (fits_cut t bs at 5 e h))

-- RX

module _ (bs : List ℕ) (at : ℕ) (x : Option Axis) (e : axis_field x ≡ axis_of (field bs at 4)) where
  pub step_no_axis : x ≡ None → Means bs None (Arms.step bs at)
  unfolding Arms.step step_at attempt
  step_no_axis p = bad_reads bs at 8 _ (rw (sym e ∙ ap axis_field p))

  module _
      (n : ℕ) (i : n ≡ word bs (at + 6) 2) (y : Option Test) (f : test_field y ≡ test_of (field bs at 5) n)
      (axis : Axis) (p : x ≡ Some axis) where
    test_is : test_field y ≡ test_of (field bs at 5) (word bs (at + 6) 2)
    test_is = rw (← i) f

    pub step_no_test : y ≡ None → Means bs None (Arms.step bs at)
    unfolding Arms.step step_at attempt
    step_no_test q = bad_reads bs at 8 _ (rw (sym e ∙ ap axis_field p, sym test_is ∙ ap test_field q))

    pub step_sound :
        (t : Bool) → t ≡ fits bs at 8 → not t ≡ false → (w : ℕ) → w ≡ word bs (at + 2) 2 →
        (test : Test) → y ≡ Some test →
        (r : Option Decoded) → r ≡ Some (record { operator = Operator.Step w axis test; next = at + 8 }) →
        Means bs r (Arms.step bs at)
    unfolding Arms.step step_at attempt operator_of ColumnsStand
    step_sound t h q w k test l r s =
        sound_reads bs at 8 t h _ r (Operator.Step w axis test) q s tt
        (rw (sym e ∙ ap axis_field p, sym test_is ∙ ap test_field l, k))

-- RO

module _ (bs : List ℕ) (at k : ℕ) (e : k ≡ field bs at 4) where
  pub root_bad : k ≡ 0 → Means bs None (Arms.root bs at)
  unfolding Arms.root fragment_of attempt provided
  root_bad h = bad_reads bs at 5 _ (rw (sym e ∙ h))

  pub root_sound :
      (t : Bool) → t ≡ fits bs at 5 → not t ≡ false → (k ≡ 0 → ⊥) → k < 256 → (w : ℕ) → w ≡ word bs (at + 2) 2 →
      (r : Option Decoded) → r ≡ Some (record { operator = Operator.Root w k; next = at + 5 }) →
      Means bs r (Arms.root bs at)
  unfolding Arms.root fragment_of attempt provided operator_of ColumnsStand
  root_sound t p q z l w i r s =
      sound_reads bs at 5 t p _ r (Operator.Root w k) q s tt
      (rw (← e, in_range_lem 1 255 k (omega arith) (omega arith), i))

-- Marks

module _ (bs : List ℕ) (at : ℕ) where
  pub of_mark :
      (r : Option Decoded) (m k : ℕ) → m ≡ word bs at 2 → m ≡ k →
      Means bs r (Plan.operator_of bs at k) → Means bs r (operator_at bs at)
  unfolding operator_at
  of_mark r m k e h = subst (λ (n : ℕ). Means bs r (Plan.operator_of bs at n)) (sym h ∙ e)

  either : (t : Bool) (a b : Attempt (Op × ℕ)) → a ≡ fails → b ≡ fails → cond t a b ≡ fails
  either true a b p q = p
  either false a b p q = q

  operator_cut : (mark : ℕ) → fits bs at 2 ≡ false → Plan.operator_of bs at mark ≡ fails
  unfolding Plan.operator_of ColumnsStand
  operator_cut mark e =
      either (eqb mark mark_rt) _ _ (shorter bs at 2 2 _ (omega arith) e)
      (either (eqb mark mark_ra) _ _ (shorter bs at 2 12 _ (omega arith) e)
      (either (eqb mark mark_rp) _ _ (shorter bs at 2 (5 + field bs at 4) _ (omega arith) e)
      (either (eqb mark mark_ru) _ _ (shorter bs at 2 6 _ (omega arith) e)
      (either (eqb mark mark_rd) _ _ (shorter bs at 2 6 _ (omega arith) e)
      (either (eqb mark mark_rs) _ _ (shorter bs at 2 5 _ (omega arith) e)
      (either (eqb mark mark_rj) _ _ (shorter bs at 2 8 _ (omega arith) e)
      (either (eqb mark mark_rn) _ _ (shorter bs at 2 (6 + field bs at 5) _ (omega arith) e)
      (either (eqb mark mark_rf) _ _ (function_cut bs at (field bs at 4) 2 (omega arith) e)
      (either (eqb mark mark_rc) _ _ (shorter bs at 2 5 _ (omega arith) e)
      (either (eqb mark mark_re) _ _ (shorter bs at 2 4 _ (omega arith) e)
      (either (eqb mark mark_rk) _ _ (shorter bs at 2 5 _ (omega arith) e)
      (either (eqb mark mark_rx) _ _ (shorter bs at 2 8 _ (omega arith) e)
      (either (eqb mark mark_ro) _ _ (shorter bs at 2 5 _ (omega arith) e) refl)))))))))))))

  pub mark_cut : (t : Bool) → t ≡ fits bs at 2 → not t ≡ true → Means bs None (operator_at bs at)
  unfolding operator_at
  mark_cut t e h = none_reads bs at _ (operator_cut (word bs at 2) (fits_cut t bs at 2 e h))

  operator_none :
      (m : ℕ) →
      NoneOf m
      (mark_ro ∷ mark_rx ∷ mark_rk ∷ mark_re ∷ mark_rc ∷ mark_rf ∷ mark_rn ∷ mark_rj ∷ mark_rs ∷ mark_rd ∷ mark_ru
      ∷ mark_rp ∷ mark_ra ∷ mark_rt ∷ []) →
      Plan.operator_of bs at m ≡ fails
  unfolding Plan.operator_of ColumnsStand
  operator_none m ((((((((((((((h, a), b), c), d), e), f), g), i), j), k), l), n), o), p) =
      simp (
        ne_eqb m mark_rt a,
        ne_eqb m mark_ra b,
        ne_eqb m mark_rp c,
        ne_eqb m mark_ru d,
        ne_eqb m mark_rd e,
        ne_eqb m mark_rs f,
        ne_eqb m mark_rj g,
        ne_eqb m mark_rn i,
        ne_eqb m mark_rf j,
        ne_eqb m mark_rc k,
        ne_eqb m mark_re l,
        ne_eqb m mark_rk n,
        ne_eqb m mark_rx o,
        ne_eqb m mark_ro p,
      )

  pub mark_none :
      (m : ℕ) → m ≡ word bs at 2 →
      NoneOf m
      (mark_ro ∷ mark_rx ∷ mark_rk ∷ mark_re ∷ mark_rc ∷ mark_rf ∷ mark_rn ∷ mark_rj ∷ mark_rs ∷ mark_rd ∷ mark_ru
      ∷ mark_rp ∷ mark_ra ∷ mark_rt ∷ []) →
      Means bs None (operator_at bs at)
  unfolding operator_at
  mark_none m e h = none_reads bs at _ (ap (Plan.operator_of bs at) (sym e) ∙ operator_none m h)

  -- the one single number between the marks that names nothing
  pub mark_gap : (m : ℕ) → m ≡ word bs at 2 → m ≡ 0x5242 → Means bs None (operator_at bs at)
  unfolding operator_at Plan.operator_of
  mark_gap m e h = none_reads bs at _ (rw (sym e ∙ h))
