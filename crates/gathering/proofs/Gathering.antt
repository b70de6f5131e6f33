-- What is asked and owed of each kind of gathering: by cases, and as cells are laid and marks change.
--     suits_count, owes_count ..     what is known of a gathering is known of its case
--     suits_column, suits_wide, suits_long    the column is one; at an equal width; with marks of the same length
--     table_kept                     a table below what is laid stands as it did
--     counts_is, truths_is, steps_is     what the operators are defined to make
--     counts_settled                 RC never fails
--     steps_succeed                  RX fails exactly where column 1 holds a cell that is no node
use Rattle.std.specs.Prelude.{Result}
use Prim.Native.Nat.{ℕ, ◌≤◌, ◌<◌}
use mathlib.Core.Path.{◌≡◌, refl, sym, ap, ◌∙◌, subst, fun_ext}
use mathlib.Core.List.{List, [], ◌∷◌, map}
use mathlib.Core.Bool.{Bool, true, false, not, ◌&&◌}
use native.Mathlib.Omega.{arith}
use lib.IntN.{ℤ, pos}
use lib.ListN.{length}
use Rattle.cells.specs.Cell.{same, node_cell, truth_cell}
use Rattle.codes.specs.declared.Axis.{Axis}
use Rattle.codes.specs.declared.Test.{Test}
use Rattle.cells.proofs.Cells.{same_eq, same_refl}
use Rattle.laws.specs.Lists.{filter, all, firsts}
use Rattle.laws.specs.Rows.{laid}
use Rattle.laws.specs.Lists.{All}
use Rattle.laws.proofs.Lists.{all_kept}
use Rattle.laws.specs.Lists.{In}
use Rattle.laws.proofs.Filters.{all_in, all_of, in_filter, each_map}
use Rattle.laws.proofs.Booleans.{by_cases, clash, both_true}
use Rattle.laws.proofs.Rows.{rows_at_laid}
use Rattle.laws.specs.Attempt.{Attempt, fails, gives, attempt}
use Rattle.meaning.specs.Catalogue.{Catalogue}
use Rattle.meaning.specs.World.{World, world_of, rank_of, ranks_of, reached, step, truth}
use Rattle.meaning.specs.Operators.{Row, Table, cell, column, groups, group_of, items_in_order, counts, truths, steps}
use Rattle.step_parts.specs.Steps.{Ready}
use Rattle.tables.specs.declared.Stand.{Stand}
use Rattle.tables.specs.declared.Unlaid.{Unlaid}
use Rattle.tables.specs.Layout.{table_at, Inside, Owes}
use Rattle.tables.specs.Laying.{succeeds, Settled}
use Rattle.gathering.specs.declared.Gather.{Gather}
use Rattle.gathering.specs.declared.Gather.TheVariants.{Count, Truth, Step}
use Rattle.members.specs.Grouped.{in_front}
use Rattle.gathering.specs.Gathered.{column_of, gathered, made, whole, Asks}
use Rattle.stepping.specs.Marking.{is_node}
use Rattle.gathering.proofs.Turns.{succeeds_each}

module _ (gather k : Gather) (e : gather ≡ k) where
  gather_suits :
      (width room : ℕ) (doc : List ℕ) (rows : ℕ) (from to : List Bool) →
      Asks gather width room doc rows from to → Asks k width room doc rows from to
  gather_suits width room doc rows from to h = subst (λ (g : Gather). Asks g width room doc rows from to) e h

  gather_owes :
      (room at : ℕ) (w : World) (t : Table) (xs ys : List ℤ) (o : Result ℕ Unlaid) →
      Owes room at 2 (made k w t (in_front t (column_of k))) xs ys o →
      Owes room at 2 (made gather w t (in_front t (column_of gather))) xs ys o
  gather_owes room at w t xs ys o h =
      subst (λ (g : Gather). Owes room at 2 (made g w t (in_front t (column_of g))) xs ys o) (sym e) h

module _ (gather : Gather) (width room : ℕ) (doc : List ℕ) (rows : ℕ) (from to : List Bool)
    (h : Asks gather width room doc rows from to) where
  pub suits_count : (c : ℕ) → gather ≡ Count c → (c < width) × (room ≤ 65536)
  unfolding Asks
  suits_count c e = gather_suits gather (Count c) e width room doc rows from to h

  pub suits_truth : gather ≡ Truth → width ≡ 3
  unfolding Asks
  suits_truth e = gather_suits gather Truth e width room doc rows from to h

  pub suits_step : (axis : Axis) (test : Test) → gather ≡ Step axis test → (width ≡ 2) × Ready doc rows from to
  unfolding Asks
  suits_step axis test e = gather_suits gather (Step axis test) e width room doc rows from to h

module _ (gather : Gather) (room at : ℕ) (d : Catalogue) (t : Table) (xs ys : List ℤ) (o : Result ℕ Unlaid) where
  pub owes_count :
      (c : ℕ) → gather ≡ Count c →
      Owes room at 2 (gives ((in_front t c ∷ pos (length (group_of t c (in_front t c))) ∷ []) ∷ [])) xs ys o →
      Owes room at 2 (made gather (world_of d) t (in_front t (column_of gather))) xs ys o
  unfolding made gathered column_of
  owes_count c e h = gather_owes gather (Count c) e room at (world_of d) t xs ys o h

  pub owes_truth :
      gather ≡ Truth →
      Owes room at 2
      (attempt (truth (items_in_order (group_of t 0 (in_front t 0))))
      (λ b. gives ((in_front t 0 ∷ truth_cell b ∷ []) ∷ []))) xs ys o →
      Owes room at 2 (made gather (world_of d) t (in_front t (column_of gather))) xs ys o
  unfolding made gathered column_of world_of
  owes_truth e h = gather_owes gather Truth e room at (world_of d) t xs ys o h

  pub owes_step :
      (axis : Axis) (test : Test) → gather ≡ Step axis test →
      Owes room at 2
      (attempt (step d axis test (column (group_of t 0 (in_front t 0)) 1))
      (λ zs. gives (map (λ y. in_front t 0 ∷ y ∷ []) zs))) xs ys o →
      Owes room at 2 (made gather (world_of d) t (in_front t (column_of gather))) xs ys o
  unfolding made gathered column_of world_of
  owes_step axis test e h = gather_owes gather (Step axis test) e room at (world_of d) t xs ys o h

pub suits_column :
    (gather : Gather) (width room : ℕ) (doc : List ℕ) (rows : ℕ) (from to : List Bool) →
    Asks gather width room doc rows from to → column_of gather < width
unfolding Asks column_of
suits_column (Count c) width room doc rows from to h = h.0
suits_column Truth width room doc rows from to h = omega arith
suits_column (Step axis test) width room doc rows from to h = omega (arith, h.0)

pub suits_wide :
    (gather : Gather) (width wide room : ℕ) (doc : List ℕ) (rows : ℕ) (from to : List Bool) → wide ≡ width →
    Asks gather width room doc rows from to → Asks gather wide room doc rows from to
suits_wide gather width wide room doc rows from to e h =
    subst (λ (v : ℕ). Asks gather v room doc rows from to) (sym e) h

pub suits_long :
    (gather : Gather) (width room : ℕ) (doc : List ℕ) (rows : ℕ) (from to old new : List Bool) →
    length old ≡ length from → length new ≡ length to →
    Asks gather width room doc rows from to → Asks gather width room doc rows old new
unfolding Asks
suits_long (Count c) width room doc rows from to old new d e h = h
suits_long Truth width room doc rows from to old new d e h = h
suits_long (Step axis test) width room doc rows from to old new d e h = (
  h.0,
  record {
    known = h.1.known;
    sources = omega (arith, h.1.sources);
    targets = omega (arith, h.1.targets);
  },
)

pub table_kept :
    (xs ys : List ℤ) (at : ℕ) (vs : List ℤ) (s : Stand) → ys ≡ laid xs at vs → Inside at s → at ≤ length xs →
    table_at ys s ≡ table_at xs s
unfolding table_at Inside
table_kept xs ys at vs s e h k =
    ap (λ (l : List ℤ). table_at l s) e ∙ rows_at_laid xs at vs s.at s.rows s.width h k

-- what the operators are defined to make
module _ (w : World) (t : Table) where
  pub counts_is : (c : ℕ) → gives (counts t c) ≡ whole (Count c) w t
  unfolding counts whole made gathered column_of
  counts_is c = sym (each_map (λ x. x ∷ pos (length (group_of t c x)) ∷ []) (groups t c))

  pub truths_is : truths w t ≡ whole Truth w t
  unfolding truths whole made gathered column_of
  truths_is = refl

  pub steps_is : (axis : Axis) (test : Test) → steps w axis test t ≡ whole (Step axis test) w t
  unfolding steps whole made gathered column_of
  steps_is axis test = refl

  pub counts_settled : (c : ℕ) → Settled (whole (Count c) w t)
  unfolding Settled
  counts_settled c = (counts t c, sym (counts_is c))

-- a test of all members, with the members and without
all_true : {A : Type 0} (p : A → Bool) (xs : List A) → all p xs ≡ true → All (λ x. p x ≡ true) xs
unfolding all
all_true p [] e = tt
all_true p (x ∷ xs) e = let h = both_true (p x) (all p xs) e in (h.0, all_true p xs h.1)

true_all : {A : Type 0} (p : A → Bool) (xs : List A) → All (λ x. p x ≡ true) xs → all p xs ≡ true
unfolding all
true_all p [] h = refl
true_all p (x ∷ xs) h = rw (h.0, true_all p xs h.1)

same_test : (a b : Bool) → (a ≡ true → b ≡ true) → (b ≡ true → a ≡ true) → a ≡ b
same_test true b f g = sym (f refl)
same_test false true f g = g refl
same_test false false f g = refl

all_mapped : {A B : Type 0} (p : B → Bool) (f : A → B) (xs : List A) → all p (map f xs) ≡ all (λ x. p (f x)) xs
unfolding all
all_mapped p f [] = refl
all_mapped p f (x ∷ xs) = ap (p (f x) &&◌) (all_mapped p f xs)

all_skip :
    {A : Type 0} (p q : A → Bool) → ((x : A) → q x ≡ false → p x ≡ true) → (xs : List A)
    → all p (filter q xs) ≡ all p xs
unfolding all filter
all_skip p q h [] = refl
all_skip p q h (x ∷ xs) =
    by_cases (q x)
    (λ e. rw (e, all_skip p q h xs))
    (λ e. rw (e, h x e, all_skip p q h xs))

-- what is true of the different cells is true of all
all_firsts : (p : ℤ → Bool) (xs : List ℤ) → all p (firsts same xs) ≡ all p xs
unfolding all firsts
all_firsts p [] = refl
all_firsts p (x ∷ xs) =
    by_cases (p x)
    (λ e.
    rw e
    (all_skip p (λ y. not (same x y)) (λ y d. ap p (sym (same_eq x y (not_not (same x y) d))) ∙ e) (firsts same xs)
    ∙ all_firsts p xs))
    (λ e. rw e)
  where
    not_not : (b : Bool) → not b ≡ false → b ≡ true
    not_not true d = refl
    not_not false d = clash refl d

module _ (c : Catalogue) where
  ranks_succeed : (xs : List ℤ) → succeeds (ranks_of c xs) ≡ all (is_node c) xs
  unfolding ranks_of all is_node succeeds attempt
  ranks_succeed [] = refl
  ranks_succeed (x ∷ xs) = go (rank_of c x) (ranks_of c xs) ∙ ap (succeeds (rank_of c x) &&◌) (ranks_succeed xs)
    where
      go : (o : Attempt ℕ) (u : Attempt (List ℕ)) →
          succeeds (attempt o (λ r. attempt u (λ rs. gives (r ∷ rs)))) ≡ (succeeds o && succeeds u)
      go fails u = refl
      go (gives r) fails = refl
      go (gives r) (gives rs) = refl

  step_succeeds : (axis : Axis) (test : Test) (x : ℤ) (xs : List ℤ) →
      succeeds (attempt (step c axis test xs) (λ ys. gives (map (λ y. x ∷ y ∷ []) ys))) ≡ all (is_node c) xs
  unfolding step attempt succeeds
  step_succeeds axis test x xs = go (ranks_of c xs) ∙ ranks_succeed xs
    where
      go : (o : Attempt (List ℕ)) →
          succeeds (attempt (attempt o (λ rs. gives (map node_cell (reached c axis test rs))))
          (λ ys. gives (map (λ y. x ∷ y ∷ []) ys)))
          ≡ succeeds o
      go fails = refl
      go (gives rs) = refl

  abbrev node : Row → Bool
  node r = is_node c (cell r 1)

  module _ (t : Table) where
    abbrev nodes : Row → Bool
    nodes r = all (is_node c) (column (group_of t 0 (cell r 0)) 1)

    nodes_is : (r : Row) → nodes r ≡ all node (group_of t 0 (cell r 0))
    unfolding column
    nodes_is r = all_mapped (is_node c) (λ (q : Row). cell q 1) (group_of t 0 (cell r 0))

    -- each row is of its own group
    own : all nodes t ≡ true → (r : Row) → In r t → node r ≡ true
    unfolding group_of
    own e r i =
        all_in (λ q. node q ≡ true) (group_of t 0 (cell r 0)) r
        (all_true node (group_of t 0 (cell r 0))
        (sym (nodes_is r) ∙ all_in (λ q. nodes q ≡ true) t r (all_true nodes t e) i))
        (in_filter (λ q. same (cell r 0) (cell q 0)) t r i (same_refl (cell r 0)))

    others : all node t ≡ true → (r : Row) → nodes r ≡ true
    unfolding group_of
    others e r =
        nodes_is r
        ∙ true_all node (group_of t 0 (cell r 0))
        (all_kept (λ q. same (cell r 0) (cell q 0)) (λ q. node q ≡ true) t (all_true node t e))

    own_groups : all (λ x. all (is_node c) (column (group_of t 0 x) 1)) (column t 0) ≡ all (is_node c) (column t 1)
    unfolding column
    own_groups =
        all_mapped (λ x. all (is_node c) (column (group_of t 0 x) 1)) (λ (r : Row). cell r 0) t
        ∙ same_test (all nodes t) (all node t)
        (λ e. true_all node t (all_of (λ r. node r ≡ true) t (own e)))
        (λ e. true_all nodes t (all_of (λ r. nodes r ≡ true) t (λ r i. others e r)))
        ∙ sym (all_mapped (is_node c) (λ (r : Row). cell r 1) t)

  pub steps_succeed : (axis : Axis) (test : Test) (t : Table) →
      succeeds (whole (Step axis test) (world_of c) t) ≡ all (is_node c) (column t 1)
  unfolding whole made gathered column_of world_of groups
  steps_succeed axis test t =
      succeeds_each (made (Step axis test) (world_of c) t) (groups t 0)
      ∙ ap (λ (p : ℤ → Bool). all p (groups t 0))
      (fun_ext (λ (x : ℤ). step_succeeds axis test x (column (group_of t 0 x) 1)))
      ∙ all_firsts (λ x. all (is_node c) (column (group_of t 0 x) 1)) (column t 0)
      ∙ own_groups t
