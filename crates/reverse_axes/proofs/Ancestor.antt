-- The ancestor axis, rows downwards. `next` is the least marked rank so far, or n where there is none.
--     Next n ms i next     what `next` says of the marked ranks from i on
--       bound              none is before `next`
--       held               where `next` is a rank, it is one of them
--     next_begin           past the last row
--     next_more            at the row before
--     next_flag            v is an ancestor of a marked row exactly when its size covers `next`
use Prim.Native.Nat.{ℕ, ◌+◌, ◌≤◌, ◌<◌}
use mathlib.Core.Path.{◌≡◌, refl, sym, ap, ◌∙◌}
use mathlib.Core.List.{List}
use mathlib.Core.Bool.{Bool, true, false, cond}
use native.Mathlib.Decide.{ℕ_discrete}
use native.Mathlib.Omega.{arith}
use lib.Dec.{leb}
use lib.ListN.{get_or}
use borrow.Author.Tests.{leb-true, le-leb}
use Rattle.codes.specs.declared.Axis.TheVariants.{Ancestor}
use Rattle.laws.specs.Lists.{any}
use Rattle.laws.proofs.Booleans.{clash}
use Rattle.meaning.specs.Catalogue.{Catalogue}
use Rattle.meaning.specs.World.{axis_holds, on_axis}
use Rattle.doc_rows.specs.Nested.{Nested}
use Rattle.doc_rows.proofs.Fragments.{fragment_covered}
use Rattle.nodesets.specs.Nodes.{ranks}
use Rattle.nodesets.proofs.Ranks.{any_is}
use Rattle.step_parts.proofs.Conditions.{on_axis_lem, axis_of_lem, descendant, descendant_of}

pub record Next (n : ℕ) (ms : List Bool) (i next : ℕ) : Type 0 where
  pub bound : (x : ℕ) → i ≤ x → x < n → get_or ms x false ≡ true → next ≤ x
  pub held : next < n → (i ≤ next) × (get_or ms next false ≡ true)

module _ (c : Catalogue) (n : ℕ) (s : Nested n c.size c.level) (ms : List Bool) where
  pub next_begin : Next n ms n n
  next_begin = record { bound = λ x h j m. absurd (omega arith); held = λ h. absurd (omega arith) }

  module _ (i v next : ℕ) (e : i ≡ v + 1) (h : v < n) (l : Next n ms i next) where
    pub next_more : Next n ms v (cond (get_or ms v false) v next)
    next_more = by_mark (get_or ms v false) refl
      where
        by_mark : (m : Bool) → get_or ms v false ≡ m → Next n ms v (cond m v next)
        by_mark true k = record { bound = λ x a b m. a; held = λ j. (omega arith, k) }
        by_mark false k =
            record {
              bound = λ x a b m. by_place x a b m (ℕ_discrete x v);
              held = λ j. (omega (arith, (l.held j).0), (l.held j).1);
            }
          where
            by_place : (x : ℕ) → v ≤ x → x < n → get_or ms x false ≡ true → Dec (x ≡ v) → next ≤ x
            by_place x a b m (yes d) = clash m (ap (λ y. get_or ms y false) d ∙ k)
            by_place x a b m (no d) = l.bound x (omega arith) b m

    pub next_flag : leb next (v + c.size v) ≡ any (λ x. on_axis c Ancestor x v) (ranks n ms)
    unfolding axis_holds
    next_flag = any_is (λ x. on_axis c Ancestor x v) ms n (leb next (v + c.size v)) to_hit from_hit
      where
        to_hit :
            leb next (v + c.size v) ≡ true
            → (x : ℕ) × (x < n) × (get_or ms x false ≡ true) × (on_axis c Ancestor x v ≡ true)
        to_hit t =
            let k = leb-true next (v + c.size v) t in
            let j : next < n = omega (arith, s.fits v h) in
            let w = l.held j in
            let v<next : v < next = omega arith in (
              next,
              j,
              w.1,
              on_axis_lem c Ancestor next v (sym (fragment_covered c n s v next h v<next k)) (descendant c v next v<next k),
            )

        from_hit :
            (x : ℕ) → x < n → get_or ms x false ≡ true → on_axis c Ancestor x v ≡ true → leb next (v + c.size v) ≡ true
        from_hit x j m o =
            let d = descendant_of c v x (axis_of_lem c Ancestor x v o) in
            le-leb next (v + c.size v) (omega (arith, l.bound x (omega arith) j m))
