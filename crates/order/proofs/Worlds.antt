-- A step looks at its contexts as a bag: in another order they are the same contexts.
--     ranks-permuted       the ranks of a list of nodes, in another order
--     bagged c             the world of a catalogue is bagged
use Prim.Native.Nat.{ℕ}
use mathlib.Core.Path.{◌≡◌, refl, sym, ap, ◌∙◌}
use mathlib.Core.List.{List, [], ◌∷◌, ◌++◌, map}
use mathlib.Core.Bool.{Bool, ◌&&◌}
use lib.IntN.{ℤ}
use Rattle.cells.specs.Cell.{node_cell}
use Rattle.codes.specs.declared.Axis.{Axis}
use Rattle.codes.specs.declared.Test.{Test}
use Rattle.laws.specs.Lists.{below}
use Rattle.laws.specs.Attempt.{Attempt, fails, gives, attempt, each}
use Rattle.laws.proofs.Lists.{all_any}
use Rattle.laws.proofs.Filters.{filter_same}
use Rattle.meaning.specs.Catalogue.{Catalogue}
use Rattle.meaning.specs.World.{on_axis, passes, rank_of, ranks_of, reached, step, world_of}
use Rattle.order.specs.Shuffled.{Permuted, Bagged}
use Rattle.order.proofs.Permuted.{any_permuted, SameRows, both_fail, both_give, each_permuted}

module _ (c : Catalogue) where
  alone : ℤ → Attempt (List ℕ)
  alone a = attempt (rank_of c a) (λ r. gives (r ∷ []))

  ranks_each : (xs : List ℤ) → ranks_of c xs ≡ each alone xs
  unfolding ranks_of each alone attempt
  ranks_each [] = refl
  ranks_each (x ∷ xs) = rw (ranks_each xs) (one (rank_of c x) (each alone xs))
    where
      one : (a : Attempt ℕ) (b : Attempt (List ℕ))
          → attempt a (λ r. attempt b (λ rs. gives (r ∷ rs)))
          ≡ attempt (attempt a (λ r. gives (r ∷ []))) (λ ys. attempt b (λ zs. gives (ys ++ zs)))
      one fails b = refl
      one (gives r) b = refl

  module _ (axis : Axis) (test : Test) where
    reached_permuted : (xs ys : List ℕ) → Permuted xs ys → reached c axis test xs ≡ reached c axis test ys
    unfolding reached
    reached_permuted xs ys d =
        filter_same _ _ (below c.rows)
        (all_any (below c.rows)
        (λ v. ap (λ (b : Bool). b && passes c test v) (any_permuted (λ x. on_axis c axis x v) d)))

    step_permuted : (xs ys : List ℤ) → Permuted xs ys → step c axis test xs ≡ step c axis test ys
    unfolding step attempt
    step_permuted xs ys d =
        ap rest (ranks_each xs) ∙ go (each_permuted alone d) ∙ ap rest (sym (ranks_each ys))
      where
        rest : Attempt (List ℕ) → Attempt (List ℤ)
        rest a = attempt a (λ rs. gives (map node_cell (reached c axis test rs)))

        go : SameRows (each alone xs) (each alone ys) → rest (each alone xs) ≡ rest (each alone ys)
        go (both_fail e k) = ap rest (e ∙ sym k)
        go (both_give rs ss e k p) =
            ap rest e ∙ ap (λ (l : List ℕ). gives (map node_cell l)) (reached_permuted rs ss p) ∙ ap rest (sym k)

  pub bagged : Bagged (world_of c)
  unfolding world_of
  bagged = record { step_bag = step_permuted }
