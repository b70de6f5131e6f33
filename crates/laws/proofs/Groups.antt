-- Laws of groups: the rows of one number, and the different numbers of a column.
--     filled xs                xs has a member
--     filter_firsts            a number stands once among the different members if it is a member at all
--     any_filled               a number stands in a column if it has rows
--     numbers_in_at             a number stands once among a column's numbers if it has rows
--     without_at               what is left of a number after taking away
--     within_gather            rows gathered from rows of the same number
--     Twice c t                a number that has two rows
--     unique_true, unique_false    no number has two rows; or one has
use Prim.Native.Nat.{ℕ}
use mathlib.Core.Path.{◌≡◌, refl, sym, ap, ap₂, ◌∙◌}
use mathlib.Core.List.{List, [], ◌∷◌, ◌++◌, map}
use mathlib.Core.Bool.{Bool, true, false, not, cond}
use lib.Dec.{eqb}
use borrow.Author.Tests.{eqb-true, eqb-false, eq-eqb, ne_eqb}
use Rattle.laws.specs.Lists.{filter, any, firsts, gather, All}
use Rattle.laws.specs.Keyed.{within, numbers_in, without, unique, filled, Twice}
use Rattle.laws.proofs.Lists.{all_map, filter_none}
use Rattle.laws.proofs.Filters.{all_filter, filter_all, filter_sub, filter_comm, filter_same}
use Rattle.laws.proofs.Booleans.{by_cases, clash}
use Rattle.laws.proofs.Filters.{filter_append, filter_yes, filter_no, tails, no_cons}
use Rattle.laws.proofs.Joins.{filter_const}

pub not_filled : {A : Type 0} (xs : List A) → filled xs ≡ false → xs ≡ []
unfolding filled
not_filled [] e = refl
not_filled (x ∷ xs) e = clash refl e

pub filter_firsts : (i : ℕ) (xs : List ℕ) → filter (eqb i) (firsts eqb xs) ≡ cond (any (eqb i) xs) (i ∷ []) []
unfolding filter firsts any
filter_firsts i [] = refl
filter_firsts i (x ∷ xs) =
    by_cases (eqb i x)
    (λ e. rw (e, filter_comm (eqb i) (λ y. not (eqb x y)) (firsts eqb xs)) (ap₂ ◌∷◌ (sym (eqb-true i x e)) (drop e)))
    (λ e. rw (e, filter_sub (eqb i) (λ y. not (eqb x y)) (firsts eqb xs) (keep e)) (filter_firsts i xs))
  where
    drop : eqb i x ≡ true → filter (λ y. not (eqb x y)) (filter (eqb i) (firsts eqb xs)) ≡ []
    drop e =
        filter_none (λ y. not (eqb x y)) (filter (eqb i) (firsts eqb xs))
        (all_map (filter (eqb i) (firsts eqb xs))
        (λ y d. ap not (eq-eqb x y (sym (eqb-true i x e) ∙ eqb-true i y d))) (all_filter (eqb i) (firsts eqb xs)))

    keep : eqb i x ≡ false → (y : ℕ) → eqb i y ≡ true → not (eqb x y) ≡ true
    keep e y d = ap not (ne_eqb x y (λ q. eqb-false i x e (eqb-true i y d ∙ sym q)))

module _ {A : Type 0} (c : A → ℕ) where
  pub any_filled : (i : ℕ) (t : List A) → any (eqb i) (map c t) ≡ filled (within c i t)
  unfolding any within filter filled
  any_filled i [] = refl
  any_filled i (r ∷ t) = by_cases (eqb i (c r)) (λ e. rw e) (λ e. rw e (any_filled i t))

  pub numbers_in_at : (i : ℕ) (t : List A) → filter (eqb i) (numbers_in c t) ≡ cond (filled (within c i t)) (i ∷ []) []
  unfolding numbers_in
  numbers_in_at i t = filter_firsts i (map c t) ∙ ap (λ (b : Bool). cond b (i ∷ []) []) (any_filled i t)

pub without_at : (i : ℕ) (l u : List ℕ) → filter (eqb i) (without l u) ≡ cond (any (eqb i) u) [] (filter (eqb i) l)
unfolding without
without_at i l u =
    filter_comm (eqb i) (λ j. not (any (eqb j) u)) l
    ∙ filter_same (λ j. not (any (eqb j) u)) (λ j. not (any (eqb i) u)) (filter (eqb i) l)
    (all_map (filter (eqb i) l) (λ j e. ap (λ (k : ℕ). not (any (eqb k) u)) (sym (eqb-true i j e)))
    (all_filter (eqb i) l))
    ∙ filter_const (not (any (eqb i) u)) (filter (eqb i) l)
    ∙ by_cases (any (eqb i) u) (λ e. rw e) (λ e. rw e)

pub any_filter : {A : Type 0} (p : A → Bool) (xs : List A) → any p xs ≡ filled (filter p xs)
unfolding any filter filled
any_filter p [] = refl
any_filter p (x ∷ xs) = by_cases (p x) (λ e. rw e) (λ e. rw e (any_filter p xs))

pub any_firsts : (i : ℕ) (xs : List ℕ) → any (eqb i) (firsts eqb xs) ≡ any (eqb i) xs
unfolding filled
any_firsts i xs =
    any_filter (eqb i) (firsts eqb xs)
    ∙ ap filled (filter_firsts i xs)
    ∙ by_cases (any (eqb i) xs) (λ e. rw e) (λ e. rw e)

module _ {A B : Type 0} (c : A → ℕ) (d : B → ℕ) (h : A → List B) (own : (r : A) → All (λ x. c r ≡ d x) (h r)) where
  pub within_gather : (i : ℕ) (t : List A) → within d i (gather h t) ≡ gather h (within c i t)
  unfolding within gather filter
  within_gather i [] = refl
  within_gather i (r ∷ t) =
      filter_append (λ x. eqb i (d x)) (h r) (gather h t)
      ∙ ap (λ (xs : List B). filter (λ x. eqb i (d x)) (h r) ++ xs) (within_gather i t)
      ∙ by_cases (eqb i (c r))
      (λ e. rw (e, filter_all (λ x. eqb i (d x)) (h r) (all_map (h r) (λ x q. ap (eqb i) (sym q) ∙ e) (own r))))
      (λ e. rw (e, filter_none (λ x. eqb i (d x)) (h r) (all_map (h r) (λ x q. ap (eqb i) (sym q) ∙ e) (own r))))

some : {A : Type 0} (xs : List A) → filled xs ≡ true → (x : A) × (ys : List A) × (xs ≡ x ∷ ys)
unfolding filled
some [] e = clash e refl
some (x ∷ xs) e = (x, xs, refl)

module _ {A : Type 0} (c : A → ℕ) where
  pub unique_true : (t : List A) → unique (map c t) ≡ true → (i : ℕ) (x y : A) (zs : List A)
      → within c i t ≡ x ∷ y ∷ zs → ⊥
  unfolding unique within filter filled
  unique_true [] u i x y zs e = no_cons e
  unique_true (r ∷ t) u i x y zs e =
      by_cases (any (eqb (c r)) (map c t))
      (λ d. clash u (rw d))
      (λ d. by_cases (eqb i (c r))
      (λ k.
      let rest : within c i t ≡ y ∷ zs = tails (sym (filter_yes (λ s. eqb i (c s)) r t k) ∙ e) in
      clash (ap filled rest) (sym (any_filled c i t) ∙ ap (λ (n : ℕ). any (eqb n) (map c t)) (eqb-true i (c r) k)
      ∙ d))
      (λ k. unique_true t (sym (rw d) ∙ u) i x y zs (sym (filter_no (λ s. eqb i (c s)) r t k) ∙ e)))

  pub unique_false : (t : List A) → unique (map c t) ≡ false → Twice c t
  unfolding unique within
  unique_false [] u = clash refl u
  unique_false (r ∷ t) u =
      by_cases (any (eqb (c r)) (map c t))
      (λ d.
      let s = some (within c (c r) t) (sym (any_filled c (c r) t) ∙ d) in
      record {
        shared = c r;
        first = r;
        second = s.0;
        others = s.1;
        here = filter_yes (λ x. eqb (c r) (c x)) r t (eq-eqb (c r) (c r) refl) ∙ ap (λ (xs : List A). r ∷ xs) s.2;
      })
      (λ d. more_of (unique_false t (sym (rw d) ∙ u)))
    where
      more_of : Twice c t → Twice c (r ∷ t)
      more_of w =
          by_cases (eqb w.shared (c r))
          (λ e.
          record {
            shared = w.shared;
            first = r;
            second = w.first;
            others = w.second ∷ w.others;
            here = filter_yes (λ x. eqb w.shared (c x)) r t e ∙ ap (λ (xs : List A). r ∷ xs) w.here;
          })
          (λ e.
          record {
            shared = w.shared;
            first = w.first;
            second = w.second;
            others = w.others;
            here = filter_no (λ x. eqb w.shared (c x)) r t e ∙ w.here;
          })
