-- The descendant axes, rows upwards. `until` is one more than the last row that the size of a marked row before covers.
--     Until n size ms v until     what `until` says at row v
--       reached                   no marked row before v covers a row from `until` on
--       held                      where `until` is past v, a marked row before v covers all rows from v up to it
--     until_begin                 at row 0
--     until_more                  at the next row
--     until_flag                  v is a descendant of a marked row exactly when it is before `until`
use Prim.Native.Nat.{ℕ, ◌+◌, ◌≤◌, ◌<◌}
use mathlib.Core.Path.{◌≡◌, refl, sym, ap, ◌∙◌}
use mathlib.Core.Logic.{◌⊎◌, inl, inr}
use mathlib.Core.List.{List}
use mathlib.Core.Bool.{Bool, true, false, cond, ◌&&◌, ◌||◌, or-false}
use native.Mathlib.Decide.{ℕ_discrete}
use native.Mathlib.Omega.{arith}
use lib.Dec.{eqb, ltb, leb}
use lib.ListN.{get_or}
use borrow.Author.Tests.{eqb-true, eq-eqb, ltb-true, lt-ltb, leb-true, leb-false}
use Rattle.codes.specs.declared.Axis.TheVariants.{Descendant, DescendantOrSelf}
use Rattle.laws.specs.Lists.{any}
use Rattle.laws.proofs.Booleans.{clash}
use Rattle.meaning.specs.Catalogue.{Catalogue}
use Rattle.meaning.specs.World.{is_descendant, axis_holds, on_axis}
use Rattle.doc_rows.specs.Nested.{Nested}
use Rattle.doc_rows.proofs.Fragments.{fragment_covered}
use Rattle.step_parts.specs.Steps.{or_self}
use Rattle.nodesets.specs.Nodes.{ranks}
use Rattle.nodesets.proofs.Tests.{or_cases, or_left, or_right}
use Rattle.nodesets.proofs.Ranks.{any_is}
use Rattle.step_parts.proofs.Conditions.{on_axis_lem, axis_of_lem, fragment_of_lem, descendant, descendant_of}

pub record Until (n : ℕ) (size : ℕ → ℕ) (ms : List Bool) (v until : ℕ) : Type 0 where
  pub reached : (x : ℕ) → x < v → get_or ms x false ≡ true → x + size x < until
  pub held : v < until → (x : ℕ) × (x < v) × (get_or ms x false ≡ true) × (until ≡ x + size x + 1)

-- the next `until`: past a marked row's own end, where that is later
abbrev pub farther : ℕ → Bool → ℕ → ℕ
farther until marked end = cond (marked && leb until end) (end + 1) until

module _ (c : Catalogue) (n : ℕ) (s : Nested n c.size c.level) (ms : List Bool) where
  pub until_begin : Until n c.size ms 0 0
  until_begin = record { reached = λ x h m. absurd (omega arith); held = λ h. absurd (omega arith) }

  module _ (v until : ℕ) (h : v < n) (u : Until n c.size ms v until) where
    -- a row that is not marked changes nothing
    unmarked : get_or ms v false ≡ false → Until n c.size ms (v + 1) until
    unmarked e =
        record {
          reached = λ x j m. u.reached x (before x m j (ℕ_discrete x v)) m;
          held = λ j. let w = u.held (omega arith) in (w.0, omega arith, w.2, w.3);
        }
      where
        before : (x : ℕ) → get_or ms x false ≡ true → x < v + 1 → Dec (x ≡ v) → x < v
        before x m j (yes k) = clash m (ap (λ y. get_or ms y false) k ∙ e)
        before x m j (no k) = omega arith

    -- nor does a marked row that ends before `until`
    nearer : v + c.size v < until → Until n c.size ms (v + 1) until
    nearer l =
        record {
          reached = λ x j m. by_place x j m (ℕ_discrete x v);
          held = λ j. let w = u.held (omega arith) in (w.0, omega arith, w.2, w.3);
        }
      where
        by_place : (x : ℕ) → x < v + 1 → get_or ms x false ≡ true → Dec (x ≡ v) → x + c.size x < until
        by_place x j m (yes k) = rw k l
        by_place x j m (no k) = u.reached x (omega arith) m

    later : until ≤ v + c.size v → get_or ms v false ≡ true → Until n c.size ms (v + 1) (v + c.size v + 1)
    later l e =
        record {
          reached = λ x j m. by_place x j m (ℕ_discrete x v);
          held = λ j. (v, omega arith, e, refl);
        }
      where
        by_place : (x : ℕ) → x < v + 1 → get_or ms x false ≡ true → Dec (x ≡ v) → x + c.size x < v + c.size v + 1
        by_place x j m (yes k) = rw k (omega arith)
        by_place x j m (no k) = omega (arith, u.reached x (omega arith) m)

    pub until_more : Until n c.size ms (v + 1) (farther until (get_or ms v false) (v + c.size v))
    until_more = by_mark (get_or ms v false) refl (leb until (v + c.size v)) refl
      where
        by_mark :
            (m : Bool) → get_or ms v false ≡ m → (t : Bool) → leb until (v + c.size v) ≡ t
            → Until n c.size ms (v + 1) (cond (m && t) (v + c.size v + 1) until)
        by_mark true e true d = later (leb-true until (v + c.size v) d) e
        by_mark true e false d = nearer (leb-false until (v + c.size v) d)
        by_mark false e t d = unmarked e

    -- a row before `until` is a descendant of a marked row, and of a marked row every descendant is
    to_hit : v < until → (x : ℕ) × (x < n) × (get_or ms x false ≡ true) × (on_axis c Descendant x v ≡ true)
    unfolding axis_holds
    to_hit l =
        let w = u.held l in
        let k : v ≤ w.0 + c.size w.0 = omega arith in
        let x<n : w.0 < n = omega arith in (
          w.0,
          x<n,
          w.2,
          on_axis_lem c Descendant w.0 v (fragment_covered c n s w.0 v x<n w.1 k) (descendant c w.0 v w.1 k),
        )

    from_hit : (x : ℕ) → get_or ms x false ≡ true → is_descendant c x v ≡ true → ltb v until ≡ true
    from_hit x m o =
        let d = descendant_of c x v o in
        lt-ltb v until (omega (arith, u.reached x d.0 m))

    flag : ltb v until ≡ any (λ x. on_axis c Descendant x v) (ranks n ms)
    unfolding axis_holds
    flag =
        any_is (λ x. on_axis c Descendant x v) ms n (ltb v until) (λ t. to_hit (ltb-true v until t))
        (λ x j m o. from_hit x m (axis_of_lem c Descendant x v o))

    flag_or_self : (ltb v until || get_or ms v false) ≡ any (λ x. on_axis c DescendantOrSelf x v) (ranks n ms)
    unfolding axis_holds
    flag_or_self =
        any_is (λ x. on_axis c DescendantOrSelf x v) ms n (ltb v until || get_or ms v false)
        (λ t. to (or_cases (ltb v until) (get_or ms v false) t))
        (λ x j m o. from x m (or_cases (eqb x v) (is_descendant c x v) (axis_of_lem c DescendantOrSelf x v o)))
      where
        to :
            (ltb v until ≡ true) ⊎ (get_or ms v false ≡ true)
            → (x : ℕ) × (x < n) × (get_or ms x false ≡ true) × (on_axis c DescendantOrSelf x v ≡ true)
        to (inl t) =
            let w = to_hit (ltb-true v until t) in (
              w.0,
              w.1,
              w.2,
              on_axis_lem c DescendantOrSelf w.0 v (fragment_of_lem c Descendant w.0 v w.3)
                  (or_right (eqb w.0 v) (axis_of_lem c Descendant w.0 v w.3)),
            )
        to (inr m) = (v, h, m, on_axis_lem c DescendantOrSelf v v refl (or_left (is_descendant c v v) (eq-eqb v v refl)))

        from :
            (x : ℕ) → get_or ms x false ≡ true → (eqb x v ≡ true) ⊎ (is_descendant c x v ≡ true)
            → (ltb v until || get_or ms v false) ≡ true
        from x m (inl e) = or_right (ltb v until) (ap (λ y. get_or ms y false) (sym (eqb-true x v e)) ∙ m)
        from x m (inr o) = or_left (get_or ms v false) (from_hit x m o)

    pub until_flag :
        (own : Bool) → (ltb v until || (own && get_or ms v false)) ≡ any (λ x. on_axis c (or_self own) x v) (ranks n ms)
    until_flag true = flag_or_self
    until_flag false = or-false (ltb v until) ∙ flag
