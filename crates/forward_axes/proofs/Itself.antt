-- The self axis.
--     self_flag     v is on the axis of a marked row exactly when it is marked
use Prim.Native.Nat.{ℕ, ◌<◌}
use mathlib.Core.Path.{◌≡◌, refl, sym, ap, ◌∙◌}
use mathlib.Core.List.{List}
use mathlib.Core.Bool.{Bool, false}
use lib.ListN.{get_or}
use borrow.Author.Tests.{eqb-true, eq-eqb}
use Rattle.codes.specs.declared.Axis.TheVariants.{Itself}
use Rattle.laws.specs.Lists.{any}
use Rattle.meaning.specs.Catalogue.{Catalogue}
use Rattle.meaning.specs.World.{axis_holds, on_axis}
use Rattle.nodesets.specs.Nodes.{ranks}
use Rattle.nodesets.proofs.Ranks.{any_is}
use Rattle.step_parts.proofs.Conditions.{on_axis_lem, axis_of_lem}

pub self_flag :
    (c : Catalogue) (n : ℕ) (ms : List Bool) (v : ℕ) → v < n
    → get_or ms v false ≡ any (λ x. on_axis c Itself x v) (ranks n ms)
unfolding axis_holds
self_flag c n ms v h =
    any_is (λ x. on_axis c Itself x v) ms n (get_or ms v false)
    (λ m. (v, h, m, on_axis_lem c Itself v v refl (eq-eqb v v refl)))
    (λ x j m o. ap (λ y. get_or ms y false) (sym (eqb-true x v (axis_of_lem c Itself x v o))) ∙ m)
