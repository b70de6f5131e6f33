-- The child axis, rows upwards. At one more than a level, `opens` has the mark of the last row of that level.
--     Opens level ms v opens     what `opens` says at row v
--       top                      no row is above level 0
--       held                     the mark of a row before v with no row of its level after it
--     opens_begin                at row 0
--     opens_more                 at the next row
--     opens_flag                 v is a child of a marked row exactly when its level's flag is set
use Prim.Native.Nat.{ℕ, zero, suc, ◌+◌, ◌<◌}
use mathlib.Core.Path.{◌≡◌, refl, sym, ap, ◌∙◌}
use mathlib.Core.List.{List}
use mathlib.Core.Bool.{Bool, false}
use native.Mathlib.Decide.{ℕ_discrete}
use native.Mathlib.Omega.{arith}
use lib.ListN.{length, get_or, set, replicate, length-set}
use lib.Seq.{get_or-set_same, get_or-set_other}
use Rattle.codes.specs.declared.Axis.TheVariants.{Child}
use Rattle.laws.specs.Lists.{any}
use Rattle.laws.proofs.Booleans.{clash}
use Rattle.meaning.specs.Catalogue.{Catalogue}
use Rattle.meaning.specs.World.{axis_holds, on_axis}
use Rattle.doc_rows.specs.Nested.{Nested}
use Rattle.doc_rows.proofs.Fragments.{fragment_covered}
use Rattle.nodesets.specs.Nodes.{ranks}
use Rattle.nodesets.proofs.Ranks.{any_is}
use Rattle.forward_axes.proofs.Parents.{parent_over, only_parent}
use Rattle.step_parts.proofs.Conditions.{on_axis_lem, axis_of_lem, child, child_of}

pub record Opens (level : ℕ → ℕ) (ms : List Bool) (v : ℕ) (opens : List Bool) : Type 0 where
  pub long : length opens ≡ 65
  pub top : get_or opens 0 false ≡ false
  pub held :
      (x : ℕ) → x < v → ((u : ℕ) → x < u → u < v → ¬ (level u ≡ level x)) →
      get_or opens (level x + 1) false ≡ get_or ms x false

module _ (c : Catalogue) (n : ℕ) (s : Nested n c.size c.level) (ms : List Bool) where
  pub opens_begin : Opens c.level ms 0 (replicate 65 false)
  opens_begin = record { long = refl; top = refl; held = λ x h f. absurd (omega arith) }

  module _ (v : ℕ) (opens : List Bool) (h : v < n) (o : Opens c.level ms v opens) where
    pub opens_more : Opens c.level ms (v + 1) (set opens (c.level v + 1) (get_or ms v false))
    opens_more =
        record {
          long = length-set opens (c.level v + 1) (get_or ms v false) ∙ o.long;
          top = get_or-set_other opens (c.level v + 1) 0 (get_or ms v false) false (omega arith) ∙ o.top;
          held = λ x a f. by_place x a f (ℕ_discrete x v);
        }
      where
        room : c.level v + 1 < length opens
        room = omega (arith, s.shallow v h, o.long)

        by_place :
            (x : ℕ) → x < v + 1 → ((u : ℕ) → x < u → u < v + 1 → ¬ (c.level u ≡ c.level x)) → Dec (x ≡ v)
            → get_or (set opens (c.level v + 1) (get_or ms v false)) (c.level x + 1) false ≡ get_or ms x false
        by_place x a f (yes k) = rw k (get_or-set_same opens (c.level v + 1) (get_or ms v false) false room)
        by_place x a f (no k) =
            let apart = f v (omega arith) (omega arith) in
            get_or-set_other opens (c.level v + 1) (c.level x + 1) (get_or ms v false) false (omega arith)
            ∙ o.held x (omega arith) (λ u b d. f u b (omega arith))

    pub opens_flag : get_or opens (c.level v) false ≡ any (λ x. on_axis c Child x v) (ranks n ms)
    unfolding axis_holds
    opens_flag = by_level (c.level v) refl
      where
        by_level : (l : ℕ) → c.level v ≡ l → get_or opens (c.level v) false ≡ any (λ x. on_axis c Child x v) (ranks n ms)
        by_level zero e =
            any_is (λ x. on_axis c Child x v) ms n (get_or opens (c.level v) false)
            (λ t. clash t (ap (λ k. get_or opens k false) e ∙ o.top))
            (λ x j m a. absurd (omega (arith, (child_of c x v (axis_of_lem c Child x v a)).2)))
        by_level (suc l) e =
            let w = parent_over n c.size c.level s v l h (omega arith) in
            let p = w.0 in
            let over = w.1 in
            let p<n : p < n = omega (arith, over.early) in
            let mark : get_or opens (c.level v) false ≡ get_or ms p false =
            ap (λ k. get_or opens k false) over.up
            ∙ o.held p over.early (λ u a b d. omega (arith, over.between u a b)) in
            any_is (λ x. on_axis c Child x v) ms n (get_or opens (c.level v) false)
            (λ t. (
              p,
              p<n,
              sym mark ∙ t,
              on_axis_lem c Child p v (fragment_covered c n s p v p<n over.early over.covers)
                  (child c p v over.early over.covers over.up),
            ))
            (λ x j m a.
            let d = child_of c x v (axis_of_lem c Child x v a) in
            let same = only_parent n c.size c.level s p x v j over d.0 d.1 d.2 in
            mark ∙ ap (λ y. get_or ms y false) (sym same) ∙ m)
