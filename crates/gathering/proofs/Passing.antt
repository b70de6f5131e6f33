-- The passes over the rows of a table that meet its groups: laying what is made of them, and testing that it does not
-- fail.
--     lays_first, lays_more, lays_stopped, lays_end     the rows of the groups are laid behind each other
--     stands                                        meanwhile the table stands as it did
--     laid_fits, laid_counts                        what a turn lays is within the room
--     some_judged                                   a truth was found exactly where finding it succeeds
--     truth_turn                                    a group has a truth exactly where its turn does not fail
--     tests_first, tests_fails, tests_more, tests_end    every turn is tested
use Rattle.std.specs.Prelude.{Option, Some, None, Result, Ok, Err}
use Rattle.std.specs.Option.{is_some}
use Prim.Native.Nat.{ℕ, ◌+◌, ◌*◌, ◌≤◌, ◌<◌}
use mathlib.Core.Path.{◌≡◌, refl, sym, ap, ◌∙◌, subst}
use mathlib.Core.List.{List, [], ◌∷◌}
use mathlib.Core.Bool.{Bool, true, false, ◌&&◌}
use native.Mathlib.Omega.{arith}
use lib.IntN.{ℤ}
use lib.ListN.{length}
use Rattle.cells.specs.Cell.{truth_cell}
use Rattle.laws.specs.Lists.{all}
use Rattle.laws.specs.Attempt.{Attempt, fails, gives, attempt}
use Rattle.meaning.specs.Catalogue.{Catalogue}
use Rattle.meaning.specs.World.{World, world_of, truth}
use Rattle.meaning.specs.Operators.{Table, group_of, items_in_order}
use Rattle.tables.specs.declared.Unlaid.{Unlaid}
use Rattle.tables.specs.declared.Stand.{Stand}
use Rattle.tables.specs.Layout.{table_at, Inside, Owes}
use Rattle.tables.specs.Laying.{succeeds, Settled, Laying}
use Rattle.tables.proofs.Laying.{laying_start, laying_more, laying_stopped, laying_end, counted_fits}
use Rattle.tables.proofs.Promise.{owes_is}
use Rattle.tables.proofs.Reading.{length_table}
use Rattle.items.specs.Answers.{judged}
use Rattle.gathering.specs.declared.Gather.{Gather}
use Rattle.gathering.specs.declared.Gather.TheVariants.{Truth}
use Rattle.members.specs.Grouped.{in_front, opening}
use Rattle.tables.specs.Order.{cell_at}
use Rattle.gathering.specs.Gathered.{column_of, gathered, made, turn, whole}
use Rattle.gathering.proofs.Turns.{rest, rest_head, rest_none, rest_whole, succeeds_each, turn_yes}
use Rattle.gathering.proofs.Gathering.{table_kept}

-- what is made of the groups up to row i is laid
abbrev pub Lays : (room at : ℕ) → Gather → World → Table → (entry : List ℤ) (i : ℕ) (work : List ℤ) (top n : ℕ) → Type 0
Lays room at gather w t entry i work top n =
    Laying room at 2 (λ (o : Attempt Table). o) (whole gather w t) entry (rest gather w t i) work top n

module _ (room at : ℕ) (gather : Gather) (w : World) (t : Table) (entry : List ℤ) where
  pub lays_first : at ≤ room → Lays room at gather w t entry 0 entry at 0
  lays_first h =
      subst (λ (m : Attempt Table). Laying room at 2 (λ (o : Attempt Table). o) m entry (rest gather w t 0) entry at 0)
      (sym (rest_whole gather w t)) (laying_start room at 2 (λ (o : Attempt Table). o) entry (rest gather w t 0) h)

  module _ (work : List ℤ) (top n i : ℕ) (l : Lays room at gather w t entry i work top n) where
    pub lays_end : length t ≤ i → Owes room at 2 (whole gather w t) entry work (Ok n)
    lays_end h =
        laying_end room at 2 (λ (o : Attempt Table). o) entry (whole gather w t) work top n
        (subst (λ (os : List (Attempt Table)). Laying room at 2 (λ (o : Attempt Table). o) (whole gather w t) entry os
        work top n)
        (rest_none gather w t i h) l)

    -- row i of the table at s
    module _ (s : Stand) (is : t ≡ table_at entry s) (below : Inside at s) (low : at ≤ room)
        (inside : room ≤ length entry)
      where
        pub stands : table_at work s ≡ t
        stands = table_kept entry work at _ s l.cells_are below (omega arith) ∙ sym is

        module _ (next : List ℤ) where
          owed : (r : Result ℕ Unlaid) → Owes room top 2 (turn gather w (table_at work s) i) work next r →
              Owes room top 2 (turn gather w t i) work next r
          owed r o = owes_is _ _ _ _ _ _ (ap (λ (u : Table). turn gather w u i) (sym stands)) o

          pub laid_fits : (m : ℕ) → Owes room top 2 (turn gather w (table_at work s) i) work next (Ok m) →
              top + m * 2 ≤ room
          unfolding Owes
          laid_fits m o = o.fits

          pub laid_counts : (m : ℕ) → Owes room top 2 (turn gather w (table_at work s) i) work next (Ok m) →
              n + m ≤ room
          laid_counts m o = counted_fits room at 2 top n m (omega arith) l.top_is (laid_fits m o)

          module _ (here : i < s.rows) where
            first :
                Laying room at 2 (λ (o : Attempt Table). o) (whole gather w t) entry
                (turn gather w t i ∷ rest gather w t (i + 1)) work top n
            first =
                subst
                (λ (os : List (Attempt Table)). Laying room at 2 (λ (o : Attempt Table). o) (whole gather w t) entry
                os work top n)
                (rest_head gather w t i (omega (arith, length_table entry s, ap length is))) l

            pub lays_more : (m : ℕ) → Owes room top 2 (turn gather w (table_at work s) i) work next (Ok m) →
                Lays room at gather w t entry (i + 1) next (top + m * 2) (n + m)
            lays_more m o =
                laying_more room at 2 (λ (o : Attempt Table). o) entry (whole gather w t) work top n (turn gather w t i)
                (rest gather w t (i + 1)) next inside first m (owed _ o)

            pub lays_stopped : (e : Unlaid) → Settled (whole gather w t) →
                Owes room top 2 (turn gather w (table_at work s) i) work next (Err e) →
                Owes room at 2 (whole gather w t) entry next (Err e)
            lays_stopped e h o =
                laying_stopped room at 2 (λ (o : Attempt Table). o) entry (whole gather w t) work top n
                (turn gather w t i) (rest gather w t (i + 1)) next inside first e h (owed _ o)

-- a truth that was found
pub some_judged : (j : Option Bool) → is_some j ≡ succeeds (judged j)
unfolding succeeds
some_judged (Some b) = refl
some_judged None = refl

-- a group's turn fails where its items have no truth
pub truth_turn :
    (c : Catalogue) (t p : Table) (i : ℕ) → opening t 0 i ≡ true → in_front p 0 ≡ cell_at t 0 i →
    group_of p 0 (cell_at t 0 i) ≡ group_of t 0 (cell_at t 0 i) →
    succeeds (truth (items_in_order (group_of p 0 (in_front p 0)))) ≡ succeeds (turn Truth (world_of c) t i)
unfolding column_of made gathered world_of attempt succeeds
truth_turn c t p i e d g =
    sym (ap succeeds (turn_yes Truth (world_of c) t i p e d g)
    ∙ by_truth (truth (items_in_order (group_of p 0 (in_front p 0)))))
  where
    by_truth :
        (o : Attempt Bool) → succeeds (attempt o (λ b. gives ((in_front p 0 ∷ truth_cell b ∷ []) ∷ []))) ≡ succeeds o
    by_truth fails = refl
    by_truth (gives b) = refl

module _ (gather : Gather) (w : World) (t : Table) where
  pub tests_first : all succeeds (rest gather w t 0) ≡ succeeds (whole gather w t)
  tests_first = sym (ap succeeds (rest_whole gather w t) ∙ succeeds_each (λ (o : Attempt Table). o) (rest gather w t 0))

  module _ (i : ℕ) where
    pub tests_fails : i < length t → succeeds (turn gather w t i) ≡ false → all succeeds (rest gather w t i) ≡ false
    unfolding all
    tests_fails h e = ap (all succeeds) (rest_head gather w t i h) ∙ ap (◌&& all succeeds (rest gather w t (i + 1))) e

    pub tests_more :
        i < length t → succeeds (turn gather w t i) ≡ true →
        all succeeds (rest gather w t i) ≡ all succeeds (rest gather w t (i + 1))
    unfolding all
    tests_more h e = ap (all succeeds) (rest_head gather w t i h) ∙ ap (◌&& all succeeds (rest gather w t (i + 1))) e

    pub tests_end : length t ≤ i → all succeeds (rest gather w t i) ≡ true
    unfolding all
    tests_end h = ap (all succeeds) (rest_none gather w t i h)
