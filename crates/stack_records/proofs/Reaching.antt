-- A step (document 01, 'Query records', QX): from the marks of its items to the marks of the nodes that it reaches, and
-- what then stands on the stack.
--     reaches_all, reaches_not     the nodes that the step reaches, from the marks; or an item that is no node
--     was_ok, was_err              what an answer was, from its value alone
--     leaves_reached, leaves_short, leaves_strange     the nodes in place of the items; too many of them; an item that
--                                                      is no node
use Rattle.std.specs.Prelude.{Option, Some, None, Result, Ok, Err}
use Rattle.std.specs.Result.{result_ok}
use Prim.Native.Nat.{ℕ, ◌+◌, ◌-◌, ◌≤◌, ◌<◌}
use mathlib.Core.Path.{◌≡◌, refl, sym, ◌∙◌, subst}
use mathlib.Core.Bool.{Bool}
use mathlib.Core.List.{List, map}
use native.Mathlib.Omega.{arith}
use lib.IntN.{ℤ}
use lib.ListN.{length, take, drop, length-map}
use Rattle.cells.specs.Cell.{node_cell}
use Rattle.codes.specs.declared.Axis.{Axis}
use Rattle.codes.specs.declared.Test.{Test}
use Rattle.laws.specs.Rows.{row, laid}
use Rattle.laws.proofs.Rows.{length_row}
use Rattle.codes.specs.declared.refusals.Stop.{Stop}
use Rattle.laws.specs.Attempt.{fails, gives, attempt}
use Rattle.meaning.specs.Catalogue.{catalogue_of}
use Rattle.meaning.specs.World as World
use Rattle.meaning.specs.World.{world_of}
use Rattle.meaning.specs.Counted.{adding}
use Rattle.nodesets.specs.declared.NotANode.{NotANode}
use Rattle.nodesets.specs.Nodes.{ranks, MarkSet}
use Rattle.step_parts.specs.Steps.{Step}
use Rattle.axes.proofs.Whole.{reached_ranks}
use Rattle.stack.specs.declared.Stood.{Stood}
use Rattle.stack.specs.Stack.{stood, Fit, Ends, At, Lent, Leaves, raising}
use Rattle.stack.specs.Moves.{raised}
use Rattle.stack_records.specs.Arms.{stepped, Reaches}
use Rattle.lent.proofs.Moves.{part_row}
use Rattle.stack.proofs.Leaving.{leaves_items, leaves_fails, leaves_gives, leaves_raised, leaves_refused}
use Rattle.stack.proofs.Leaving.{leaves_crowded, leaves_added}

module _ {T E : Type 0} where
  pub was_ok : (r : Result T E) (o : Option T) (x : T) → o ≡ result_ok r → o ≡ Some x → r ≡ Ok x
  was_ok (Ok y) o x h e = cc
  was_ok (Err d) o x h e = cc

  pub was_err : (r : Result T E) (o : Option T) → o ≡ result_ok r → o ≡ None → (e : E) × (r ≡ Err e)
  was_err (Ok y) o h e = absurd (cc)
  was_err (Err d) o h e = (d, refl)

module _ (doc : List ℕ) (n : ℕ) (axis : Axis) (test : Test) (xs : List ℤ) where
  pub reaches_not : World.ranks_of (catalogue_of doc n) xs ≡ fails → World.step
      (catalogue_of doc n) axis test xs ≡ fails
  unfolding World.step attempt
  reaches_not e = rw e

  pub reaches_all :
      (from old new : List Bool) → Step doc n axis test from old new → (rs : List ℕ) →
      World.ranks_of (catalogue_of doc n) xs ≡ gives rs → MarkSet n rs from →
      World.step (catalogue_of doc n) axis test xs ≡ gives (map node_cell (ranks n new))
  unfolding World.step attempt catalogue_of
  reaches_all from old new s rs e o = rw (e, reached_ranks doc n axis test from old new s rs o)

module _
    (doc : List ℕ) (rows at : ℕ) (axis : Axis) (test : Test) (top room : ℕ) (before : List ℤ) (a : Stood)
    (g : Lent top room before) (f : Fit top room (Ok a)) (ms : List Bool) (m : Result Unit NotANode)
    (part : Reaches doc rows axis test (take (top + a.length - top) (drop top before)) ms m)
  where
    abbrev StepsTo : List ℤ → Result Stood Stop → Type 0
    StepsTo after r =
        Leaves top room (stepped (world_of (catalogue_of doc rows)) (room - top) at axis test (stood before top (Ok a)))
        (Ends (Ok a)) before after r

    s : Reaches doc rows axis test (row before top a.length) ms m
    s = subst (λ (xs : List ℤ). Reaches doc rows axis test xs ms m) (part_row before top a.length) part

    long : length (row before top a.length) ≡ a.length
    long = length_row before top a.length (omega (arith, f.0, f.1, g.lent))

    pub leaves_strange : (e : NotANode) → m ≡ Err e → StepsTo before (Err (Stop.Failed at))
    unfolding stepped world_of
    leaves_strange e d =
        leaves_items top room before before _ _ a
        (leaves_fails top room (At a.next) before at _ _
        (subst (Reaches doc rows axis test (row before top a.length) ms) d s))

    -- the nodes that are reached
    nodes : List ℤ
    nodes = map node_cell (ranks rows ms)

    many : length nodes ≡ length (ranks rows ms)
    unfolding nodes
    many = length-map (ranks rows ms) node_cell

    module _ (u : Unit) (d : m ≡ Ok u) (c : ℕ) (q : c ≡ length (ranks rows ms)) where
      reached :
          (after : List ℤ) (r : Result Stood Stop) →
          Leaves top room (raised a.count (adding (room - top) at (length (row before top a.length)) nodes)) (At a.next)
          before after r →
          StepsTo after r
      unfolding stepped world_of nodes
      reached after r h =
          leaves_items top room before after r _ a
          (leaves_gives top room (At a.next) before at _ _ after r _
          (subst (Reaches doc rows axis test (row before top a.length) ms) d s) h)

      pub leaves_short : room - (top + a.length) < c → StepsTo before (Err (Stop.Full at))
      leaves_short h =
          reached before _
          (leaves_refused top room (At a.next) before before a.count _ (Stop.Full at)
          (leaves_crowded top room at _ (At a.next) before nodes g (omega (arith, long, many, f.0, f.1))))

      pub leaves_reached :
          (after : List ℤ) (r : Stood) → c ≤ room - (top + a.length) →
          after ≡ laid before top (map node_cell (ranks rows ms)) →
          r ≡ raising a.count (record { length = c; count = a.length + c; next = a.next }) → StepsTo after (Ok r)
      unfolding nodes
      leaves_reached after r h p t =
          subst (λ (r : Stood). StepsTo after (Ok r)) (sym t)
          (reached after _
          (leaves_raised top room (At a.next) before after a.count _ _ f.1
          (leaves_added top room at _ (At a.next) before nodes g after _ (omega (arith, long, many, f.0, f.1)) p
          (many ∙ sym q) (omega (arith, long, many)) (λ e h. h))))
