-- The preceding axis, rows downwards. `last` is the greatest marked rank of the fragment so far, or 0 where there is
-- none.
--     Last n level ms i last     what `last` says of the marked ranks from i on with no root from i up to them
--       bound                    none is after `last`
--       held                     where `last` is not 0, it is one of them
--     last_begin                 past the last row
--     last_more                  at the row before
--     last_flag                  v precedes a marked row exactly when all that its size covers is before `last`
use Prim.Native.Nat.{ℕ, ◌+◌, ◌≤◌, ◌<◌}
use mathlib.Core.Path.{◌≡◌, refl, sym, ap, ◌∙◌}
use mathlib.Core.List.{List}
use mathlib.Core.Bool.{Bool, true, false, cond, ◌&&◌}
use native.Mathlib.Decide.{ℕ_discrete}
use native.Mathlib.Omega.{arith}
use lib.Dec.{eqb, ltb}
use lib.ListN.{get_or}
use borrow.Author.Tests.{eqb-true, eqb-false, ltb-true, lt-ltb}
use Rattle.codes.specs.declared.Axis.TheVariants.{Preceding}
use Rattle.laws.specs.Lists.{any}
use Rattle.laws.proofs.Booleans.{clash}
use Rattle.meaning.specs.Catalogue.{Catalogue}
use Rattle.meaning.specs.World.{axis_holds, on_axis}
use Rattle.nodesets.specs.Nodes.{ranks}
use Rattle.nodesets.proofs.Ranks.{any_is}
use Rattle.step_parts.proofs.Fragments.{Deep, entering, deep_same, same_deep}
use Rattle.step_parts.proofs.Conditions.{on_axis_lem, axis_of_lem, fragment_of_lem}

pub record Last (n : ℕ) (level : ℕ → ℕ) (ms : List Bool) (i last : ℕ) : Type 0 where
  pub bound : (x : ℕ) → i ≤ x → x < n → get_or ms x false ≡ true → Deep level i (x + 1) → x ≤ last
  pub held : 0 < last → (i ≤ last) × (last < n) × (get_or ms last false ≡ true) × (Deep level i (last + 1))

-- the next `last`, rows downwards: the first marked rank that is met
abbrev pub latest : Bool → ℕ → ℕ → ℕ
latest marked v last = cond (marked && eqb last 0) v last

module _ (c : Catalogue) (n : ℕ) (ms : List Bool) where
  pub last_begin : Last n c.level ms n 0
  last_begin = record { bound = λ x h j m d. absurd (omega arith); held = λ h. absurd (omega arith) }

  module _ (i v last : ℕ) (e : i ≡ v + 1) (h : v < n) (l : Last n c.level ms i last) where
    -- past a root there is no marked rank of the fragment
    root : c.level v ≡ 0 → Last n c.level ms v 0
    root z =
        record {
          bound = λ x a b m d. absurd (omega (arith, d v (omega arith) (omega arith)));
          held = λ j. absurd (omega arith);
        }

    module _ (p : 0 < c.level v) where
      deeper : (x : ℕ) → Deep c.level i (x + 1) → Deep c.level v (x + 1)
      deeper x d u a b = by_place (ℕ_discrete u v)
        where
          by_place : Dec (u ≡ v) → 0 < c.level u
          by_place (yes k) = rw k p
          by_place (no k) = d u (omega arith) b

      -- a later rank is not after `last`, and v itself is only marked where it is not either
      bound_at :
          (to : ℕ) → last ≤ to → (get_or ms v false ≡ true → v ≤ to)
          → (x : ℕ) → v ≤ x → x < n → get_or ms x false ≡ true → Deep c.level v (x + 1) → x ≤ to
      bound_at to k here x a b m d = by_place (ℕ_discrete x v)
        where
          by_place : Dec (x ≡ v) → x ≤ to
          by_place (yes j) = rw j (here (ap (λ y. get_or ms y false) (sym j) ∙ m))
          by_place (no j) = omega (arith, l.bound x (omega arith) b m (λ u a b. d u (omega arith) b))

      held_at : 0 < last → (v ≤ last) × (last < n) × (get_or ms last false ≡ true) × (Deep c.level v (last + 1))
      held_at j = let w = l.held j in (omega arith, w.1, w.2, deeper last w.3)

      inner : Last n c.level ms v (latest (get_or ms v false) v last)
      inner = by_mark (get_or ms v false) refl (eqb last 0) refl
        where
          by_mark :
              (m : Bool) → get_or ms v false ≡ m → (t : Bool) → eqb last 0 ≡ t
              → Last n c.level ms v (cond (m && t) v last)
          by_mark true k true z =
              record {
                bound = bound_at v (omega (arith, eqb-true last 0 z)) (λ m. omega arith);
                held = λ j. (omega arith, h, k, λ u a b. by_place u (omega arith));
              }
            where
              by_place : (u : ℕ) → u ≡ v → 0 < c.level u
              by_place u d = rw d p
          by_mark true k false z =
              let j : 0 < last = omega (arith, eqb-false last 0 z) in
              record { bound = bound_at last (omega arith) (λ m. omega (arith, (l.held j).0)); held = held_at }
          by_mark false k t z = record { bound = bound_at last (omega arith) (λ m. clash m k); held = held_at }

    pub last_more : Last n c.level ms v (entering (c.level v) 0 (latest (get_or ms v false) v last))
    last_more = by_level (eqb (c.level v) 0) refl
      where
        by_level :
            (t : Bool) → eqb (c.level v) 0 ≡ t → Last n c.level ms v (cond t 0 (latest (get_or ms v false) v last))
        by_level true z = root (eqb-true (c.level v) 0 z)
        by_level false z = inner (omega (arith, eqb-false (c.level v) 0 z))

    pub last_flag : ltb (v + c.size v) last ≡ any (λ x. on_axis c Preceding x v) (ranks n ms)
    unfolding axis_holds
    last_flag = any_is (λ x. on_axis c Preceding x v) ms n (ltb (v + c.size v) last) to_hit from_hit
      where
        to_hit :
            ltb (v + c.size v) last ≡ true
            → (x : ℕ) × (x < n) × (get_or ms x false ≡ true) × (on_axis c Preceding x v ≡ true)
        to_hit t =
            let k = ltb-true (v + c.size v) last t in
            let w = l.held (omega arith) in
            let d : Deep c.level (v + 1) (last + 1) = rw e at w.3 in
            (last, w.1, w.2, on_axis_lem c Preceding last v (sym (deep_same c v last (omega arith) d)) t)

        from_hit :
            (x : ℕ) → x < n → get_or ms x false ≡ true → on_axis c Preceding x v ≡ true → ltb (v + c.size v) last ≡ true
        from_hit x j m o =
            let k = ltb-true (v + c.size v) x (axis_of_lem c Preceding x v o) in
            let d = same_deep c v x (sym (fragment_of_lem c Preceding x v o)) in
            lt-ltb (v + c.size v) last (omega (arith, l.bound x (omega arith) j m (λ u a b. d u (omega arith) b)))
