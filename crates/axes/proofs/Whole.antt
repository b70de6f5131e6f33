-- The parts put together: what the marks of a step's operand, the step over marks and the ranks written out come to, by
-- the meaning of a step (document 01, 'Query records').
--     known_sound       a sound catalogue is what a step works on
--     reached_ranks     from the marks of some ranks a step leaves the marks of exactly the ranks that it reaches
--     step_gives        the step of a list of nodes gives the nodes that are marked in the end
--     step_fails        .. and fails where some cell is no node
use Prim.Native.Nat.{ℕ}
use mathlib.Core.Path.{◌≡◌, sym, ap, subst, ◌∙◌}
use mathlib.Core.List.{List, map}
use mathlib.Core.Bool.{Bool, false, ◌&&◌}
use native.Mathlib.Omega.{arith}
use lib.IntN.{ℤ}
use lib.ListN.{get_or}
use Rattle.cells.specs.Cell.{node_cell}
use Rattle.codes.specs.declared.Axis.{Axis}
use Rattle.codes.specs.declared.Test.{Test}
use Rattle.laws.specs.Lists.{any}
use Rattle.laws.specs.Attempt.{fails, gives, attempt}
use Rattle.meaning.specs.Catalogue.{Catalogue, catalogue_of}
use Rattle.meaning.specs.World.{on_axis, passes, reached, step}
use Rattle.doc_rows.specs.Nested.{Nested}
use Rattle.doc_rows.specs.Sound.{Sound}
use Rattle.std.specs.Prelude.{Ok, Err}
use Rattle.nodesets.specs.declared.NotANode.{NotANode}
use Rattle.step_parts.specs.Steps.{Known, Step}
use Rattle.nodesets.specs.Nodes.{ranks}
use Rattle.nodesets.specs.Nodes.{MarkSet, FromAll}
use Rattle.nodesets.proofs.Ranks.{below_same}
use Rattle.nodesets.proofs.Nodes.{any_holds}

pub known_sound : (doc : List ℕ) (c : Catalogue) → Sound doc c → Known doc c.rows
known_sound doc c s =
    record {
      few = s.few;
      there = omega (arith, s.whole);
      nested = subst (λ (d : Catalogue). Nested c.rows d.size d.level) s.is s.nested;
    }

module _
    (doc : List ℕ) (n : ℕ) (axis : Axis) (test : Test) (from old new : List Bool)
    (s : Step doc n axis test from old new) where
  pub reached_ranks : (rs : List ℕ) → MarkSet n rs from → ranks n new ≡ reached (catalogue_of doc n) axis test rs
  unfolding ranks reached catalogue_of
  reached_ranks rs o =
      let c = catalogue_of doc n in
      below_same (λ v. get_or new v false) (λ v. any (λ x. on_axis c axis x v) rs && passes c test v) n
      (λ v h.
      s.inside v (omega arith) h
      ∙ ap (λ b. b && passes c test v) (sym (any_holds n rs from o (λ x. on_axis c axis x v))))

  pub step_gives :
      (xs : List ℤ) → FromAll (catalogue_of doc n) xs (Ok tt) from
      → step (catalogue_of doc n) axis test xs ≡ gives (map node_cell (ranks n new))
  unfolding step attempt catalogue_of
  step_gives xs all = rw (all.1, reached_ranks all.0 all.2)

pub step_fails :
    (c : Catalogue) (axis : Axis) (test : Test) (xs : List ℤ) (e : NotANode) (ms : List Bool) → FromAll c xs (Err e) ms
    → step c axis test xs ≡ fails
unfolding step attempt
step_fails c axis test xs d ms e = rw e
