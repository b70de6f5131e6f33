-- QX: a step, worked out once for each iteration that has items.
--     rising_sorted            rising nodes of one iteration are sorted
--     contexts_at              an iteration's contexts are its items
--     stepped i a              the rows that a step makes in iteration i
--     nodes s i                the nodes that the step reaches in iteration i
--     represents_X             after numbering, an iteration has its nodes in rising order
--     rule_X                   the agreement of QX
--     steps_apart              an iteration has each node once
use Prim.Native.Nat.{ℕ}
use native.Mathlib.Nat.{le_refl}
use mathlib.Core.Path.{◌≡◌, refl, sym, ap, ap₂, ◌∙◌, subst, fun_ext}
use mathlib.Core.List.{List, [], ◌∷◌, map, map-map}
use mathlib.Core.Bool.{true, cond}
use lib.Dec.{eqb}
use lib.IntN.{ℤ}
use Rattle.codes.specs.declared.Axis.{Axis}
use Rattle.codes.specs.declared.Test.{Test}
use Rattle.laws.specs.Lists.{firsts, All, Rising}
use Rattle.laws.specs.Sorting.{sort, Sorted}
use Rattle.laws.specs.Keyed.{Key, rising_by, within, numbers_in, filled}
use Rattle.laws.proofs.Lists.{all_any, all_map, all_mapped}
use Rattle.laws.proofs.Filters.{filter_map, map_id}
use Rattle.laws.proofs.Booleans.{by_cases}
use Rattle.laws.proofs.Sorting.{sort_sorted}
use Rattle.laws.proofs.Groups.{not_filled}
use Rattle.laws.specs.Attempt.{Attempt, fails, gives, attempt, each}
use Rattle.laws.proofs.Outcomes.{gives_same}
use Rattle.meaning.specs.World.{World}
use Rattle.theorems.proofs.Nodes.{before_after}
use Rattle.theorems.specs.Nodes.{Lawful, Before}
use Rattle.agreement.specs.Typed.{Triple, row, iter_of, by_number, by_cell, contexts, steps_of}
use Rattle.agreement.specs.Typed.{nodes_in_order, sem_x}
use Rattle.agreement.specs.Families.{Family, Mask, placed, Represents, Outside, Agree, agrees, failing}
use Rattle.agreement.specs.Encoded.{encode_item}
use Rattle.agreement.specs.Tieless.{Distinct}
use Rattle.agreement.proofs.Attempts.{got, fails_gives}
use Rattle.agreement.proofs.Agreeing.{outside_filled}
use Rattle.agreement.proofs.Keys.{by_cell_lawful, later, later_last, before_le}
use Rattle.agreement.proofs.Tables.{map_placed, numbered_at}
use Rattle.agreement.proofs.PerIteration.{Worked, all_work, one_does_not, worked}
use Rattle.agreement.proofs.Distinct.{Shown, distinct_nodes}

-- QX sorts by iteration, then item
abbrev keys : List (Key (ℕ × ℤ))
keys = by_number (λ r. r.0) ∷ by_cell (λ r. r.1) ∷ []

rising_sorted : (i : ℕ) (ys : List ℤ) → Rising Before ys → Sorted (rising_by keys) (map (λ y. (i, y)) ys)
rising_sorted i [] h = tt
rising_sorted i (y ∷ ys) h = (
  all_mapped _ (λ y. (i, y)) ys
      (all_map ys
      (λ z e. later _ _ (i, z) (i, y) (before_le i i (le_refl i)) (later_last _ (i, z) (i, y) (before_after y z e)))
      h.0),
  rising_sorted i ys h.1,
)

abbrev number : ℕ × ℤ → ℕ
number r = r.0

abbrev node : ℕ × ℤ → ℤ
node r = r.1

abbrev context : Triple → ℕ × ℤ
context r = (r.iter, r.item)

contexts_at : (a : List Triple) (s : Family) → Represents a s → (i : ℕ)
    → map node (within number i (contexts a)) ≡ s i
unfolding within contexts
contexts_at a s rep i =
    ap (map node) (filter_map (λ r. eqb i r.0) context a ∙ ap (map context) (rep i))
    ∙ map-map node context (placed i 0 (s i))
    ∙ map_placed i 0 (s i)

contexts_numbers : (a : List Triple) → numbers_in number (contexts a) ≡ numbers_in iter_of a
unfolding numbers_in contexts
contexts_numbers a = ap (firsts eqb) (map-map number context a)

module _ (w : World) (axis : Axis) (test : Test) (lawful : Lawful w) where
  stepped : ℕ → Attempt (List ℤ) → Attempt (List (ℕ × ℤ))
  stepped i a = attempt a (λ ys. gives (map (λ y. (i, y)) ys))

  got_stepped : (i : ℕ) (a : Attempt (List ℤ)) → got (stepped i a) ≡ map (λ y. (i, y)) (got a)
  unfolding stepped got attempt
  got_stepped i fails = refl
  got_stepped i (gives ys) = refl

  stepped_gives : (i : ℕ) (a : Attempt (List ℤ)) → stepped i a ≡ gives (got (stepped i a)) → a ≡ gives (got a)
  unfolding stepped got attempt
  stepped_gives i fails e = fails_gives refl e
  stepped_gives i (gives ys) e = refl

  stepped_fails : (i : ℕ) (a : Attempt (List ℤ)) → stepped i a ≡ fails → a ≡ fails
  unfolding stepped attempt
  stepped_fails i fails e = refl
  stepped_fails i (gives ys) e = fails_gives e refl

  module _ (s : Family) where
    nodes : ℕ → List ℤ
    nodes i = got (w.step axis test (s i))

    own : (i : ℕ) → All (λ x. i ≡ x.0) (got (stepped i (w.step axis test (s i))))
    own i =
        rw (got_stepped i (w.step axis test (s i)))
        (all_mapped (λ x. i ≡ x.0) (λ y. (i, y)) (got (w.step axis test (s i)))
        (all_any (got (w.step axis test (s i))) (λ y. refl)))

    nothing : (i : ℕ) → s i ≡ [] → w.step axis test (s i) ≡ gives []
    nothing i e = ap (w.step axis test) e ∙ lawful.step_nothing axis test

    no_nodes : (i : ℕ) → s i ≡ [] → nodes i ≡ []
    unfolding nodes got
    no_nodes i e = ap got (nothing i e)

    step_means : (i : ℕ) → (filled (s i) ≡ true
        → stepped i (w.step axis test (s i)) ≡ gives (got (stepped i (w.step axis test (s i)))))
        → w.step axis test (s i) ≡ gives (nodes i)
    unfolding nodes
    step_means i given =
        by_cases (filled (s i))
        (λ f. stepped_gives i (w.step axis test (s i)) (given f))
        (λ f. nothing i (not_filled (s i) f) ∙ ap gives (sym (no_nodes i (not_filled (s i) f))))

    rows_at : (i : ℕ) → cond (filled (s i)) (got (stepped i (w.step axis test (s i)))) []
        ≡ map (λ y. (i, y)) (nodes i)
    unfolding nodes
    rows_at i =
        by_cases (filled (s i))
        (λ f. rw f (got_stepped i (w.step axis test (s i))))
        (λ f. rw f (ap (map (λ y. (i, y))) (sym (no_nodes i (not_filled (s i) f)))))

  step_run : (a : List Triple) (s : Family) → Represents a s
      → steps_of w axis test (contexts a) ≡ each (λ i. stepped i (w.step axis test (s i))) (numbers_in iter_of a)
  unfolding steps_of stepped
  step_run a s rep =
      ap₂ each (fun_ext (λ i. ap (λ (xs : List ℤ). stepped i (w.step axis test xs)) (contexts_at a s rep i)))
      (contexts_numbers a)

  -- numbering puts the nodes of each iteration in rising order, which they have
  represents_X : (s : Family) (t : List (ℕ × ℤ)) → ((i : ℕ) → within number i t ≡ map (λ y. (i, y)) (nodes s i))
      → ((i : ℕ) → w.step axis test (s i) ≡ gives (nodes s i))
      → Represents (map (λ r. row r.0.0 r.1 r.0.1) (nodes_in_order t)) (nodes s)
  unfolding nodes_in_order
  represents_X s t at means i =
      numbered_at number node keys (by_cell_lawful _, (by_cell_lawful _, tt)) t i
      ∙ ap (placed i 0)
      (ap (λ u. map node (sort (rising_by keys) u)) (at i)
      ∙ ap (map node) (sort_sorted (rising_by keys) _
      (rising_sorted i (nodes s i) (lawful.step_rises axis test (s i) (nodes s i) (means i))))
      ∙ map-map node (λ y. (i, y)) (nodes s i)
      ∙ map_id (nodes s i))

  pub rule_X : (m : Mask) (a : List Triple) (s : Family) → Outside m s → Represents a s
      → Agree m (λ i. w.step axis test (s i)) (sem_x w axis test a)
  unfolding sem_x attempt filled
  rule_X m a s out rep = go (worked s number (λ i. stepped i (w.step axis test (s i))) (own s) a rep)
    where
      rest : List (ℕ × ℤ) → Attempt (List Triple)
      rest t = gives (map (λ r. row r.0.0 r.1 r.0.1) (nodes_in_order t))

      go : Worked s number (λ i. stepped i (w.step axis test (s i)))
          (each (λ i. stepped i (w.step axis test (s i))) (numbers_in iter_of a))
          → Agree m (λ i. w.step axis test (s i)) (sem_x w axis test a)
      go (all_work t e given at) =
          agrees (map (λ r. row r.0.0 r.1 r.0.1) (nodes_in_order t)) (nodes s)
          (ap (λ b. attempt b rest) (step_run a s rep ∙ e))
          (λ i k. step_means s i (given i))
          (λ i k. no_nodes s i (out i k))
          (represents_X s t (λ i. at i ∙ rows_at s i) (λ i. step_means s i (given i)))
      go (one_does_not i f e r) =
          failing i (outside_filled m s out i f)
          (stepped_fails i (w.step axis test (s i)) e) (ap (λ b. attempt b rest) (step_run a s rep ∙ r))

  pub steps_apart : {m : Mask} {a : List Triple} {t : List (ℕ × ℤ)} → Shown m a
      → steps_of w axis test (contexts a) ≡ gives t → Distinct (0 ∷ 1 ∷ []) encode_item t
  steps_apart {a} {t} h d = go (worked s number (λ i. stepped i (w.step axis test (s i))) (own s) a h.rows)
    where
      s : Family
      s = h.family

      go : Worked s number (λ i. stepped i (w.step axis test (s i)))
          (each (λ i. stepped i (w.step axis test (s i))) (numbers_in iter_of a))
          → Distinct (0 ∷ 1 ∷ []) encode_item t
      go (all_work u e given at) =
          subst (λ x. Distinct (0 ∷ 1 ∷ []) encode_item x) (gives_same (sym (step_run a s h.rows ∙ e) ∙ d))
          (distinct_nodes u (nodes s) (λ i. at i ∙ rows_at s i)
          (λ i. lawful.step_rises axis test (s i) (nodes s i) (step_means s i (given i))))
      go (one_does_not i f e r) = fails_gives (step_run a s h.rows ∙ r) d
