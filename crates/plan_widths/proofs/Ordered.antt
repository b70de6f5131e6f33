-- The width of an operator's table, in the order in which the code works it out.
--     width_by bs ws o    by the tables that o names: both are there, o suits their widths, then the width
--     width_by_lem           the definitions' `width_of` is that
--     width_none, no_first, no_second, unsuited, suited     the answers of `width_of`
use Rattle.std.specs.Prelude.{Option, Some, None}
use Prim.Native.Nat.{ℕ, ◌+◌, ◌≤◌, ◌<◌}
use mathlib.Core.Path.{◌≡◌, refl, sym, ◌∙◌, ap}
use mathlib.Core.Bool.{Bool, true, false, ◌&&◌, ◌||◌}
use mathlib.Core.List.{List}
use native.Mathlib.Omega.{arith}
use borrow.Author.Tests.{lt-ltb, le-ltb}
use lib.Dec.{eqb, ltb, leb}
use lib.ListN.{length, take, get_or, length-take}
use lib.Seq.{get_or-take}
use Rattle.laws.specs.Attempt.{Attempt, fails, gives, attempt, provided}
use Rattle.meaning.specs.Plan.{columns, columns_at, table_width, up_to6, width_of}
use Rattle.plan_records.specs.declared.Operator.{Operator}
use Rattle.plan_records.specs.Decoded.{operator_of, ColumnsStand}
use Rattle.plan_widths.specs.Widths.{tables_of, suitable, made_width}
use Rattle.plan_records.proofs.Columns.{columns_length}

unfoldable pub width_by : List ℕ → List ℕ → Operator → Option (ℕ × ℕ) → Attempt ℕ
width_by bs ws o None = gives 1
width_by bs ws o (Some (t, u)) =
    attempt (table_width ws t)
    (λ w. attempt (table_width ws u) (λ v. provided (suitable (operator_of bs o) w v) (gives (made_width o w v))))

provided_and : {A : Type 0} (a b : Bool) (x : Attempt A) → provided a (provided b x) ≡ provided (a && b) x
unfolding provided
provided_and true b x = refl
provided_and false b x = refl

-- one table, or two
one :
    (a : Attempt ℕ) (f : ℕ → Attempt ℕ) (g : ℕ → ℕ → Attempt ℕ) → ((w : ℕ) → f w ≡ g w w) →
    attempt a f ≡ attempt a (λ w. attempt a (g w))
unfolding attempt
one fails f g h = refl
one (gives w) f g h = h w

two :
    (a b : Attempt ℕ) (f g : ℕ → ℕ → Attempt ℕ) → ((w v : ℕ) → f w v ≡ g w v) →
    attempt a (λ w. attempt b (f w)) ≡ attempt a (λ w. attempt b (g w))
unfolding attempt
two fails b f g h = refl
two (gives w) fails f g h = refl
two (gives w) (gives v) f g h = h w v

pub width_by_lem :
    (bs ws : List ℕ) (o : Operator) → ColumnsStand bs o →
    width_of ws (operator_of bs o) ≡ width_by bs ws o (tables_of o)
unfolding width_of operator_of width_by tables_of suitable made_width up_to6 ColumnsStand
width_by_lem bs ws Operator.One s = refl
width_by_lem bs ws (Operator.Attach t z) s = one (table_width ws t) _ _ (λ w. refl)
width_by_lem bs ws (Operator.Project t n from) s =
    one (table_width ws t) _ _
    (λ w.
    rw (columns_length bs from n s)
    (provided_and (columns w (columns_at bs from n)) (leb n 6) (gives n)))
width_by_lem bs ws (Operator.Union t u) s = refl
width_by_lem bs ws (Operator.Minus t u) s = refl
width_by_lem bs ws (Operator.Select t c) s = one (table_width ws t) _ _ (λ w. refl)
width_by_lem bs ws (Operator.Join t c u d) s =
    two (table_width ws t) (table_width ws u) _ _ (λ w v. provided_and (ltb c w && ltb d v) (leb (w + v) 6) _)
width_by_lem bs ws (Operator.Number t p n from) s =
    one (table_width ws t) _ _
    (λ w. provided_and ((eqb p 255 || ltb p w) && columns w (columns_at bs from n)) (leb (w + 1) 6) _)
width_by_lem bs ws (Operator.Apply t f c d) s =
    one (table_width ws t) _ _ (λ w. provided_and (ltb c w && ltb d w) (leb (w + 1) 6) _)
width_by_lem bs ws (Operator.Value t c) s = one (table_width ws t) _ _ (λ w. provided_and (ltb c w) (leb (w + 1) 6) _)
width_by_lem bs ws (Operator.Counts t c) s = one (table_width ws t) _ _ (λ w. refl)
width_by_lem bs ws (Operator.Truths t) s = one (table_width ws t) _ _ (λ w. refl)
width_by_lem bs ws (Operator.Once t c) s = one (table_width ws t) _ _ (λ w. refl)
width_by_lem bs ws (Operator.Step t x y) s = one (table_width ws t) _ _ (λ w. refl)
width_by_lem bs ws (Operator.Root t k) s = one (table_width ws t) _ _ (λ w. refl)

-- The answers of `width_of`

module _ (ws : List ℕ) (n t : ℕ) (h : n ≤ length ws) where
  past : n ≤ t → table_width (take n ws) t ≡ fails
  unfolding table_width provided
  past k =
      let l : length (take n ws) ≡ n = simp length-take (omega arith) in
      rw (l, le-ltb t n k)

  there : t < n → table_width (take n ws) t ≡ gives (get_or ws t 0)
  unfolding table_width provided
  there k =
      let l : length (take n ws) ≡ n = simp length-take (omega arith) in
      rw (l, lt-ltb t n k, get_or-take)

module _
    (bs ws : List ℕ) (n : ℕ) (h : n ≤ length ws) (o : Operator) (s : ColumnsStand bs o)
    (x : Option (ℕ × ℕ)) (e : x ≡ tables_of o) where
  by : (y : Option (ℕ × ℕ)) → x ≡ y → width_by bs (take n ws) o y ≡ width_of (take n ws) (operator_of bs o)
  by y p = ap (width_by bs (take n ws) o) (sym p ∙ e) ∙ sym (width_by_lem bs (take n ws) o s)

  pub width_none : x ≡ None → gives 1 ≡ width_of (take n ws) (operator_of bs o)
  unfolding width_by
  width_none p = by None p

  module _ (t u : ℕ) (p : x ≡ Some (t, u)) where
    pub no_first : n ≤ t → fails ≡ width_of (take n ws) (operator_of bs o)
    unfolding width_by attempt
    no_first k = rw (past ws n t h k) at (by (Some (t, u)) p)

    pub no_second : (n ≤ t → ⊥) → n ≤ u → fails ≡ width_of (take n ws) (operator_of bs o)
    unfolding width_by attempt
    no_second l k =
        let z : t < n = omega arith in
        rw (there ws n t h z, past ws n u h k) at (by (Some (t, u)) p)

    module _
        (l : n ≤ t → ⊥) (k : n ≤ u → ⊥) (w v : ℕ) (i : w ≡ get_or ws t 0) (j : v ≡ get_or ws u 0)
        (b : Bool) (f : b ≡ suitable (operator_of bs o) w v) where
      both_there :
          provided b (gives (made_width o w v)) ≡ width_of (take n ws) (operator_of bs o)
      unfolding width_by attempt
      both_there =
          let y : t < n = omega arith in
          let z : u < n = omega arith in
          rw (there ws n t h y, there ws n u h z, ← i, ← j, ← f) at (by (Some (t, u)) p)

      pub unsuited : b ≡ false → fails ≡ width_of (take n ws) (operator_of bs o)
      unfolding provided
      unsuited q = rw q at both_there

      pub suited : b ≡ true → (r : ℕ) → r ≡ made_width o w v → gives r ≡ width_of (take n ws) (operator_of bs o)
      unfolding provided
      suited q r g = ap gives g ∙ (rw q at both_there)
