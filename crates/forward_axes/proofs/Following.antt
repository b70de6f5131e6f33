-- The following axis, rows upwards. `least` is the least end of the marked rows of the fragment so far, or n where
-- there is none.
--     Least n size level ms v w least     what `least` says of the marked rows before v with no root after them
--     before w
--       bound                             no such row ends before `least`
--       held                              where `least` is a rank, such a row ends there
--     least_begin                         before row 0
--     least_enter                         at row v, which may be the root of the next fragment
--     least_more                          past row v
--     least_flag                          v follows a marked row exactly when it is after `least`
use Prim.Native.Nat.{ℕ, ◌+◌, ◌≤◌, ◌<◌}
use mathlib.Core.Path.{◌≡◌, refl, sym, ap, ◌∙◌}
use mathlib.Core.List.{List}
use mathlib.Core.Bool.{Bool, true, false, cond, ◌&&◌}
use native.Mathlib.Decide.{ℕ_discrete}
use native.Mathlib.Omega.{arith}
use lib.Dec.{eqb, ltb}
use lib.ListN.{get_or}
use borrow.Author.Tests.{eqb-true, eqb-false, ltb-true, ltb-false, lt-ltb}
use Rattle.codes.specs.declared.Axis.TheVariants.{Following}
use Rattle.laws.specs.Lists.{any}
use Rattle.laws.proofs.Booleans.{clash}
use Rattle.meaning.specs.Catalogue.{Catalogue}
use Rattle.meaning.specs.World.{axis_holds, on_axis}
use Rattle.doc_rows.specs.Nested.{Nested}
use Rattle.nodesets.specs.Nodes.{ranks}
use Rattle.nodesets.proofs.Ranks.{any_is}
use Rattle.step_parts.proofs.Fragments.{Deep, entering, deep_same, same_deep}
use Rattle.step_parts.proofs.Conditions.{on_axis_lem, axis_of_lem, fragment_of_lem}

pub record Least (n : ℕ) (size level : ℕ → ℕ) (ms : List Bool) (v w least : ℕ) : Type 0 where
  pub bound : (x : ℕ) → x < v → get_or ms x false ≡ true → Deep level (x + 1) w → least ≤ x + size x
  pub held : least < n → (x : ℕ) × (x < v) × (get_or ms x false ≡ true) × (Deep level (x + 1) w) × (least ≡ x + size x)

-- the next `least`: a marked row's own end, where that is less
abbrev pub nearer : Bool → ℕ → ℕ → ℕ
nearer marked end least = cond (marked && ltb end least) end least

module _ (c : Catalogue) (n : ℕ) (s : Nested n c.size c.level) (ms : List Bool) where
  pub least_begin : Least n c.size c.level ms 0 0 n
  least_begin = record { bound = λ x h m d. absurd (omega arith); held = λ h. absurd (omega arith) }

  module _ (v least : ℕ) (h : v < n) where
    pub least_enter :
        Least n c.size c.level ms v v least
        → Least n c.size c.level ms v (v + 1) (entering (c.level v) n least)
    least_enter l = by_level (eqb (c.level v) 0) refl
      where
        longer : 0 < c.level v → (x : ℕ) → Deep c.level (x + 1) v → Deep c.level (x + 1) (v + 1)
        longer p x d u a b = by_place (ℕ_discrete u v)
          where
            by_place : Dec (u ≡ v) → 0 < c.level u
            by_place (yes e) = rw e p
            by_place (no e) = d u a (omega arith)

        by_level :
            (t : Bool) → eqb (c.level v) 0 ≡ t → Least n c.size c.level ms v (v + 1) (cond t n least)
        by_level true z =
            record {
              bound = λ x j m d. absurd (omega (arith, d v (omega arith) (omega arith), eqb-true (c.level v) 0 z));
              held = λ j. absurd (omega arith);
            }
        by_level false z =
            let p : 0 < c.level v = omega (arith, eqb-false (c.level v) 0 z) in
            record {
              bound = λ x j m d. l.bound x j m (λ u a b. d u a (omega arith));
              held = λ j. let w = l.held j in (w.0, w.1, w.2, longer p w.0 w.3, w.4);
            }

    module _ (l : Least n c.size c.level ms v (v + 1) least) where
      pub least_more :
          Least n c.size c.level ms (v + 1) (v + 1) (nearer (get_or ms v false) (v + c.size v) least)
      least_more = by_mark (get_or ms v false) refl (ltb (v + c.size v) least) refl
        where
          bound_at :
              (end : ℕ) → end ≤ least → (get_or ms v false ≡ true → end ≤ v + c.size v)
              → (x : ℕ) → x < v + 1 → get_or ms x false ≡ true → Deep c.level (x + 1) (v + 1) → end ≤ x + c.size x
          bound_at end k here x j m d = by_place (ℕ_discrete x v)
            where
              by_place : Dec (x ≡ v) → end ≤ x + c.size x
              by_place (yes e) = rw e (here (ap (λ y. get_or ms y false) (sym e) ∙ m))
              by_place (no e) = omega (arith, l.bound x (omega arith) m d)

          held_at : least < n
              → (x : ℕ) × (x < v + 1) × (get_or ms x false ≡ true) × (Deep c.level (x + 1) (v + 1))
              × (least ≡ x + c.size x)
          held_at j = let w = l.held j in (w.0, omega arith, w.2, w.3, w.4)

          by_mark :
              (m : Bool) → get_or ms v false ≡ m → (t : Bool) → ltb (v + c.size v) least ≡ t
              → Least n c.size c.level ms (v + 1) (v + 1) (cond (m && t) (v + c.size v) least)
          by_mark true e true k =
              record {
                bound = bound_at (v + c.size v) (omega (arith, ltb-true (v + c.size v) least k)) (λ m. omega arith);
                held = λ j. (v, omega arith, e, (λ u a b. absurd (omega arith)), refl);
              }
          by_mark true e false k =
              record { bound = bound_at least (omega arith) (λ m. ltb-false (v + c.size v) least k); held = held_at }
          by_mark false e t k = record { bound = bound_at least (omega arith) (λ m. clash m e); held = held_at }

      pub least_flag : ltb least v ≡ any (λ x. on_axis c Following x v) (ranks n ms)
      unfolding axis_holds
      least_flag = any_is (λ x. on_axis c Following x v) ms n (ltb least v) to_hit from_hit
        where
          to_hit : ltb least v ≡ true → (x : ℕ) × (x < n) × (get_or ms x false ≡ true) × (on_axis c Following x v ≡ true)
          to_hit t =
              let k = ltb-true least v t in
              let w = l.held (omega arith) in (
                w.0,
                omega arith,
                w.2,
                on_axis_lem c Following w.0 v (deep_same c w.0 v (omega arith) w.3)
                    (lt-ltb (w.0 + c.size w.0) v (omega arith)),
              )

          from_hit : (x : ℕ) → x < n → get_or ms x false ≡ true → on_axis c Following x v ≡ true → ltb least v ≡ true
          from_hit x j m o =
              let k = ltb-true (x + c.size x) v (axis_of_lem c Following x v o) in
              lt-ltb least v (omega (
                arith,
                l.bound x (omega arith) m (same_deep c x v (fragment_of_lem c Following x v o)),
              ))
