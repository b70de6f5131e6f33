-- Laws on scopes and the stores that they hold.
--     scoped_more       what stands below top stands below a greater one
--     scoped_bound      one more binding, of items below top
--     holds_kept        cells above top say nothing of a scope
--     holds_bound       one more binding, in scope and store
--     scoped_nothing, holds_nothing    at first no variable holds an item
use Rattle.std.specs.Prelude.{Option, Some, None}
use Prim.Native.Nat.{ℕ, ◌+◌, ◌≤◌, ◌<◌}
use mathlib.Core.Path.{◌≡◌, refl, ◌∙◌}
use mathlib.Core.List.{List, []}
use native.Mathlib.Omega.{arith}
use native.Mathlib.Decide.{ℕ_discrete}
use borrow.Author.Tests.{eq-eqb, ne_eqb}
use lib.IntN.{ℤ}
use lib.ListN.{take, get_or, set, length-set, length-replicate, get_or-replicate}
use lib.Seq.{get_or-set_same, get_or-set_other}
use Rattle.laws.specs.Rows.{row}
use Rattle.meaning.specs.Meaning.{Env, bind}
use Rattle.lent.proofs.Moves.{row_kept}
use Rattle.working_parts.specs.declared.Scope.{Scope}
use Rattle.working_parts.specs.Scopes.{Scoped, held, HoldsEnv, Bindable, scoping, binding, unbound}

pub scoped_more : (top higher : ℕ) (s : Scope) → top ≤ higher → Scoped top s → Scoped higher s
scoped_more top higher s h g =
    record { starts = g.starts; lengths = g.lengths; below = λ v l. omega (arith, g.below v l) }

pub scoped_bound :
    (top a l : ℕ) (s : Scope) (b : Option ℕ) → Bindable b → a + l ≤ top → Scoped top s → Scoped top (scoping s b a l)
unfolding scoping
scoped_bound top a l s None k h g = g
scoped_bound top a l s (Some v) k h g =
    record {
      starts = length-set s.starts v a ∙ g.starts;
      lengths = length-set s.lengths v l ∙ g.lengths;
      below = λ u f. go u f (ℕ_discrete u v);
    }
  where
    go : (u : ℕ) → u < 8 → Dec (u ≡ v) → get_or (set s.starts v a) u 0 + get_or (set s.lengths v l) u 0 ≤ top
    go u f (yes e) =
        let first = get_or-set_same s.starts v a 0 (omega (arith, g.starts)) in
        let second = get_or-set_same s.lengths v l 0 (omega (arith, g.lengths)) in
        rw (e, first, second) h
    go u f (no e) = rw (get_or-set_other s.starts v u a 0 e, get_or-set_other s.lengths v u l 0 e) (g.below u f)

pub holds_kept :
    (top : ℕ) (s : Scope) (e : Env) (before after : List ℤ) → Scoped top s → take top after ≡ take top before →
    HoldsEnv before s e → HoldsEnv after s e
unfolding held
holds_kept top s e before after g k h v l = row_kept before after top _ _ (g.below v l) k ∙ h v l

pub holds_bound :
    (top a l : ℕ) (s : Scope) (b : Option ℕ) (e : Env) (cells xs : List ℤ) → Scoped top s → Bindable b →
    row cells a l ≡ xs → HoldsEnv cells s e → HoldsEnv cells (scoping s b a l) (binding b xs e)
unfolding scoping binding held bind
holds_bound top a l s None e cells xs g k r h u f = h u f
holds_bound top a l s (Some v) e cells xs g k r h u f = go (ℕ_discrete u v)
  where
    go : Dec (u ≡ v) → held cells (scoping s (Some v) a l) u ≡ bind v xs e u
    go (yes d) =
        let first = get_or-set_same s.starts v a 0 (omega (arith, g.starts)) in
        let second = get_or-set_same s.lengths v l 0 (omega (arith, g.lengths)) in
        rw (d, eq-eqb v v refl, first, second) r
    go (no d) =
        rw (ne_eqb u v d, get_or-set_other s.starts v u a 0 d, get_or-set_other s.lengths v u l 0 d) (h u f)

pub scoped_nothing : Scoped 0 unbound
scoped_nothing =
    record {
      starts = length-replicate {A = ℕ} 8 0;
      lengths = length-replicate {A = ℕ} 8 0;
      below = λ v l. rw (get_or-replicate {A = ℕ} 8 v 0 0 l) (omega arith);
    }

pub holds_nothing : (cells : List ℤ) → HoldsEnv cells unbound (λ v. [])
unfolding held row
holds_nothing cells v l = rw (get_or-replicate {A = ℕ} 8 v 0 0 l) refl
