-- Laws of mark sets that grow by one flag, upwards or downwards.
--     marks_none     no flag is decided yet
--     marks_up       one flag more, at the upper end
--     marks_down     one flag more, at the lower end
--     part_none, part_up, part_down     the same for a part of a step, the flag being that of the axis and of the test
use Prim.Native.Nat.{ℕ, ◌+◌, ◌≤◌, ◌<◌}
use mathlib.Core.Path.{◌≡◌, refl, ap, ◌∙◌}
use mathlib.Core.List.{List}
use mathlib.Core.Bool.{Bool, false, ◌&&◌}
use native.Mathlib.Decide.{ℕ_discrete}
use native.Mathlib.Omega.{arith}
use lib.ListN.{length, get_or, set, length-set}
use lib.Seq.{get_or-set_same, get_or-set_other}
use Rattle.laws.specs.Lists.{any}
use Rattle.codes.specs.declared.Axis.{Axis}
use Rattle.codes.specs.declared.Test.{Test}
use Rattle.meaning.specs.Catalogue.{catalogue_of}
use Rattle.meaning.specs.World.{on_axis, passes}
use Rattle.step_parts.specs.Steps.{Marks, AxisPart}
use Rattle.nodesets.specs.Nodes.{ranks}

module _ (R : ℕ → ℕ → Bool) (T : ℕ → Bool) (xs : List ℕ) (old : List Bool) where
  pub marks_none : (k : ℕ) → Marks k k R T xs old old
  marks_none k =
      record {
        inside = λ v h j. absurd (omega arith);
        under = λ v h. refl;
        over = λ v h. refl;
        long = refl;
      }

  module _ (new : List Bool) (v : ℕ) (b : Bool) (room : v < length new) (e : b ≡ (any (λ x. R x v) xs && T v)) where
    -- the flag at v is the one that was written, every other is as it was
    written : (u : ℕ) → u ≡ v → get_or (set new v b) u false ≡ (any (λ x. R x u) xs && T u)
    written u h = rw h (get_or-set_same new v b false room ∙ e)

    other : (u : ℕ) → ¬ (u ≡ v) → get_or (set new v b) u false ≡ get_or new u false
    other u h = get_or-set_other new v u b false h

    pub marks_up : (lo : ℕ) → lo ≤ v → Marks lo v R T xs old new → Marks lo (v + 1) R T xs old (set new v b)
    marks_up lo l m =
        record {
          inside = λ u h j. by_place u h j (ℕ_discrete u v);
          under = λ u h. other u (omega arith) ∙ m.under u h;
          over = λ u h. other u (omega arith) ∙ m.over u (omega arith);
          long = length-set new v b ∙ m.long;
        }
      where
        by_place :
            (u : ℕ) → lo ≤ u → u < v + 1 → Dec (u ≡ v) → get_or (set new v b) u false ≡ (any (λ x. R x u) xs && T u)
        by_place u h j (yes k) = written u k
        by_place u h j (no k) = other u k ∙ m.inside u h (omega arith)

    pub marks_down :
        (i hi : ℕ) → i ≡ v + 1 → v < hi → Marks i hi R T xs old new → Marks v hi R T xs old (set new v b)
    marks_down i hi s l m =
        record {
          inside = λ u h j. by_place u h j (ℕ_discrete u v);
          under = λ u h. other u (omega arith) ∙ m.under u (omega arith);
          over = λ u h. other u (omega arith) ∙ m.over u h;
          long = length-set new v b ∙ m.long;
        }
      where
        by_place :
            (u : ℕ) → v ≤ u → u < hi → Dec (u ≡ v) → get_or (set new v b) u false ≡ (any (λ x. R x u) xs && T u)
        by_place u h j (yes k) = written u k
        by_place u h j (no k) = other u k ∙ m.inside u (omega arith) j

module _ (doc : List ℕ) (n : ℕ) (axis : Axis) (test : Test) (from old : List Bool) where
  pub part_none : (k : ℕ) → AxisPart k k doc n axis test from old old
  part_none k = marks_none (on_axis (catalogue_of doc n) axis) (passes (catalogue_of doc n) test) (ranks n from) old k

  module _
      (new : List Bool) (v : ℕ) (on b : Bool) (room : v < length old)
      (e : b ≡ (on && passes (catalogue_of doc n) test v))
      (flag : on ≡ any (λ x. on_axis (catalogue_of doc n) axis x v) (ranks n from)) where
    kept : b ≡ (any (λ x. on_axis (catalogue_of doc n) axis x v) (ranks n from) && passes (catalogue_of doc n) test v)
    kept = e ∙ ap (λ t. t && passes (catalogue_of doc n) test v) flag

    pub part_up : AxisPart 0 v doc n axis test from old new → AxisPart 0 (v + 1) doc n axis test from old (set new v b)
    part_up m =
        marks_up (on_axis (catalogue_of doc n) axis) (passes (catalogue_of doc n) test) (ranks n from) old new v b
        (omega (arith, m.long)) kept 0 (omega arith) m

    pub part_down :
        (i : ℕ) → i ≡ v + 1 → v < n → AxisPart i n doc n axis test from old new
        → AxisPart v n doc n axis test from old (set new v b)
    part_down i s l m =
        marks_down (on_axis (catalogue_of doc n) axis) (passes (catalogue_of doc n) test) (ranks n from) old new v b
        (omega (arith, m.long)) kept i n s l m
