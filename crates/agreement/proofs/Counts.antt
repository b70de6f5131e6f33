-- QC: the number of items.
--     counts_at, zeros_at      an iteration's count, where it has rows; its zero, where it has none
--     represents_C             one of the two
--     rule_C                   the agreement of QC
use Prim.Native.Nat.{ℕ}
use mathlib.Core.Path.{◌≡◌, sym, ap, ap₂, ◌∙◌}
use mathlib.Core.List.{List, [], ◌∷◌, ◌++◌, map, map-map}
use mathlib.Core.Bool.{Bool, false, cond}
use lib.Dec.{eqb}
use lib.IntN.{ℤ, pos}
use lib.ListN.{length}
use Rattle.laws.specs.Lists.{filter}
use Rattle.laws.specs.Keyed.{within, numbers_in, without, filled}
use Rattle.laws.proofs.Filters.{filter_map, filter_append, map_id, no_cons}
use Rattle.laws.proofs.Booleans.{by_cases}
use Rattle.laws.proofs.Groups.{any_filled, any_firsts, numbers_in_at, without_at}
use Rattle.laws.specs.Attempt.{gives}
use Rattle.agreement.specs.Typed.{Triple, row, Loop, iter_of, counts_of, counts_and_zeros, sem_c}
use Rattle.agreement.specs.Families.{Family, Mask, placed, Represents, Loops, Outside, Agree}
use Rattle.agreement.proofs.Tables.{length_placed}
use Rattle.agreement.proofs.Agreeing.{agree_gives, agree_to}

abbrev number : ℕ × ℕ → ℕ
number r = r.0

abbrev count_row : ℕ × ℕ → Triple
count_row r = row r.0 1 (pos r.1)

-- the counts' column of iterations
counted_numbers : (a : List Triple) → map number (counts_of a) ≡ numbers_in iter_of a
unfolding counts_of
counted_numbers a =
    map-map number (λ i. (i, length (within iter_of i a))) (numbers_in iter_of a) ∙ map_id (numbers_in iter_of a)

counts_at : (a : List Triple) (i : ℕ)
    → within number i (counts_of a) ≡ cond (filled (within iter_of i a)) ((i, length (within iter_of i a)) ∷ []) []
unfolding within counts_of
counts_at a i =
    filter_map (λ r. eqb i r.0) (λ j. (j, length (within iter_of j a))) (numbers_in iter_of a)
    ∙ ap (map (λ j. (j, length (within iter_of j a)))) (numbers_in_at iter_of i a)
    ∙ by_cases (filled (within iter_of i a)) (λ e. rw e) (λ e. rw e)

zeros_at : (l : Loop) (m : Mask) → Loops l m → (a : List Triple) (i : ℕ)
    → within number i (map (λ j. (j, 0)) (without l (map number (counts_of a))))
    ≡ cond (filled (within iter_of i a)) [] (cond (m i) ((i, 0) ∷ []) [])
unfolding within numbers_in
zeros_at l m loops a i =
    filter_map (λ r. eqb i r.0) (λ j. (j, 0)) (without l (map number (counts_of a)))
    ∙ ap (map (λ j. (j, 0)))
    (ap (λ (u : List ℕ). filter (eqb i) (without l u)) (counted_numbers a)
    ∙ without_at i l (numbers_in iter_of a)
    ∙ ap₂ (λ (b : Bool) (k : List ℕ). cond b [] k) (any_firsts i (map iter_of a) ∙ any_filled iter_of i a) (loops i))
    ∙ by_cases (filled (within iter_of i a)) (λ e. rw e) (λ e. rw e (by_cases (m i) (λ d. rw d) (λ d. rw d)))

-- an iteration has its count, or a zero if it has no rows and is one of the loop
represents_C : (l : Loop) (m : Mask) → Loops l m → (a : List Triple) (s : Family) → Outside m s → Represents a s
    → Represents (sem_c l a) (λ i. cond (m i) (pos (length (s i)) ∷ []) [])
unfolding sem_c counts_and_zeros within filled placed
represents_C l m loops a s out rep i =
    filter_map (λ r. eqb i r.iter) count_row (counts_and_zeros l (counts_of a))
    ∙ ap (map count_row)
    (filter_append (λ r. eqb i r.0) (counts_of a) (map (λ j. (j, 0)) (without l (map number (counts_of a))))
    ∙ ap₂ ◌++◌ (counts_at a i) (zeros_at l m loops a i)
    ∙ ap (λ (t : List Triple). cond (filled t) ((i, length t) ∷ []) []
    ++ cond (filled t) [] (cond (m i) ((i, 0) ∷ []) [])) (rep i))
    ∙ ends (s i) (out i)
  where
    ends : (xs : List ℤ) → (m i ≡ false → xs ≡ [])
        → map count_row
        (cond (filled (placed i 0 xs)) ((i, length (placed i 0 xs)) ∷ []) []
        ++ cond (filled (placed i 0 xs)) [] (cond (m i) ((i, 0) ∷ []) []))
        ≡ placed i 0 (cond (m i) (pos (length xs) ∷ []) [])
    ends [] o = by_cases (m i) (λ d. rw d) (λ d. rw d)
    ends (x ∷ xs) o =
        by_cases (m i)
        (λ d. rw (d, length_placed i 1 xs))
        (λ d. no_cons (sym (o d)))

pub rule_C : (l : Loop) (m : Mask) → Loops l m → (a : List Triple) (s : Family) → Outside m s → Represents a s
    → Agree m (λ i. gives (pos (length (s i)) ∷ [])) (gives (sem_c l a))
rule_C l m loops a s out rep =
    agree_to (λ i. gives (pos (length (s i)) ∷ [])) (λ i e. rw e)
    (agree_gives (sem_c l a) (λ i. cond (m i) (pos (length (s i)) ∷ []) []) (λ i e. rw e)
    (represents_C l m loops a s out rep))
