-- QI: a condition, then one of two branches.
--     kept_at                  a variable's table kept to a loop
--     items_placed             the items of placed rows by rising place
--     others                   the iterations of m that a decision d does not take
--     union                    two runs, one on each part, laid one after the other
--     branch                   the two branches, for any decision on the iterations of the loop
--     decision                 the condition's truth in an iteration
--     then_loops               the then-loop holds the iterations whose condition is true
--     rule_I                   the agreement of QI
--     TwoLoops m ρ l n vars    the iterations of m parted in two: those of loop n, and the others of loop l
--     parted                   .. by a condition
use Prim.Native.Nat.{ℕ, ◌<◌}
use native.Mathlib.Omega.{arith}
use mathlib.Core.Path.{◌≡◌, refl, sym, ap, ap₂, ◌∙◌, subst, fun_ext}
use mathlib.Core.List.{List, [], ◌∷◌, ◌++◌, map, append-nil}
use mathlib.Core.Bool.{Bool, true, false, not, cond, ◌&&◌}
use lib.Dec.{eqb}
use lib.IntN.{ℤ}
use Rattle.laws.specs.Lists.{filter, gather, All}
use Rattle.laws.specs.Keyed.{rising_by, within, without, numbers_in, joined, filled}
use Rattle.laws.proofs.Filters.{filter_map, filter_append, filter_comm}
use Rattle.laws.proofs.Booleans.{by_cases, clash}
use Rattle.laws.proofs.Joins.{joined_at, gather_one, gather_none}
use Rattle.laws.proofs.Groups.{not_filled, any_filter, without_at}
use Rattle.laws.specs.Attempt.{Attempt, fails, gives, attempt, each}
use Rattle.laws.proofs.Outcomes.{gives_same}
use Rattle.meaning.specs.World.{World}
use Rattle.theorems.specs.Nodes.{Lawful}
use Rattle.meaning.specs.Meaning.{Env}
use Rattle.agreement.specs.Typed.{Triple, Loop, Vars, Sem, iter_of, place_of, item_of, by_number, items_in_order}
use Rattle.agreement.specs.Typed.{truths_of, then_loop, kept_in, branches, sem_i}
use Rattle.agreement.specs.Families.{Family, Mask, placed, Represents, Loops, Outside, HoldsVars, Agree, agrees}
use Rattle.agreement.specs.Families.{failing, Agrees}
use Rattle.agreement.proofs.Attempts.{got, fails_gives, alone, alone_failed, all_alone}
use Rattle.agreement.proofs.Agreeing.{agree_to, outside_filled}
use Rattle.agreement.proofs.Keys.{later_last, before_le}
use Rattle.agreement.proofs.Tables.{map_placed, sort_placed}
use Rattle.agreement.proofs.PerIteration.{Worked, all_work, one_does_not, worked}
use Rattle.agreement.proofs.Distinct.{Shown}

kept_at : (l : Loop) (d : Mask) → Loops l d → (t : List Triple) (i : ℕ)
    → within iter_of i (kept_in l t) ≡ cond (d i) (within iter_of i t) []
unfolding within kept_in
kept_at l d loops t i =
    filter_map (λ r. eqb i r.iter) (λ r. r.0) (joined iter_of (λ j. j) t l)
    ∙ ap (map (λ r. r.0))
    (joined_at iter_of (λ j. j) i t l
    ∙ ap (λ (k : List ℕ). gather (λ r. map (λ s. (r, s)) k) (within iter_of i t)) (loops i))
    ∙ by_cases (d i) (λ e. rw e (gather_one i (within iter_of i t)))
    (λ e. rw e (ap (map (λ (r : Triple × ℕ). r.0)) (gather_none (within iter_of i t))))

-- d decides on the iterations of m
module _ (m d : Mask) (inside : (i : ℕ) → d i ≡ true → m i ≡ true) where
  others : Mask
  others i = m i && not (d i)

  loops_others : (l n : Loop) → Loops l m → Loops n d → Loops (without l n) others
  unfolding others filled
  loops_others l n loops then_loops i =
      without_at i l n
      ∙ ap₂ (λ (b : Bool) (k : List ℕ). cond b [] k) (any_filter (eqb i) n ∙ ap filled (then_loops i)) (loops i)
      ∙ by_cases (d i)
      (λ e. by_cases (m i) (λ k. rw (e, k)) (λ k. rw (e, k)))
      (λ e. by_cases (m i) (λ k. rw (e, k)) (λ k. rw (e, k)))

  holds_kept : (ρ : ℕ → Env) (vars : Vars) → HoldsVars m ρ vars → (part : Mask) → ((i : ℕ) → part i ≡ true → m i ≡ true)
      → (l : Loop) → Loops l part
      → HoldsVars part ρ (λ u. kept_in l (vars u))
  unfolding placed
  holds_kept ρ vars holds part sub l loops u i =
      kept_at l part loops (vars u) i
      ∙ by_cases (part i)
      (λ e. rw e (holds u i ∙ ap (λ (b : Bool). placed i 0 (cond b (ρ i u) [])) (sub i e)))
      (λ e. rw e)

  others_inside : (i : ℕ) → others i ≡ true → m i ≡ true
  unfolding others
  others_inside i e = by_cases (m i) (λ k. k) (λ k. clash e (rw k))

  others_not : (i : ℕ) → others i ≡ true → d i ≡ false
  unfolding others
  others_not i e = by_cases (d i) (λ k. clash e (by_cases (m i) (λ h. rw (h, k)) (λ h. rw h))) (λ k. k)

  others_yes : (i : ℕ) → m i ≡ true → d i ≡ false → others i ≡ true
  unfolding others
  others_yes i e k = rw (e, k)

  others_no : (i : ℕ) → d i ≡ true → others i ≡ false
  unfolding others
  others_no i e = by_cases (m i) (λ h. rw (h, e)) (λ h. rw h)

  others_out : (i : ℕ) → m i ≡ false → others i ≡ false
  unfolding others
  others_out i e = rw e

  -- two runs, one on each part, laid one after the other
  module _ (f g : ℕ → Attempt (List ℤ)) where
    union : {x y : Attempt (List Triple)} → Agree d f x → Agree others g y
        → Agree m (λ i. cond (d i) (f i) (g i)) (attempt x (λ t. attempt y (λ u. gives (t ++ u))))
    unfolding attempt within placed
    union (failing i k e r) q = failing i (inside i k) (rw k e) (rw r)
    union (agrees t s e h out rep) (failing i k b r) =
        failing i (others_inside i k) (rw (others_not i k) b) (rw (e, r))
    union (agrees t s e h out rep) (agrees t' s' e' h' out' rep') =
        agrees (t ++ t') (λ i. cond (d i) (s i) (s' i)) (rw (e, e'))
        (λ i k. by_cases (d i) (λ c. rw c (h i c)) (λ c. rw c (h' i (others_yes i k c))))
        (λ i k. by_cases (d i) (λ c. clash (inside i c) k) (λ c. rw c (out' i (others_out i k))))
        (λ i.
        filter_append (λ r. eqb i r.iter) t t'
        ∙ ap₂ ◌++◌ (rep i) (rep' i)
        ∙ by_cases (d i)
        (λ c. rw (c, out' i (others_no i c)) (append-nil (placed i 0 (s i))))
        (λ c. rw (c, out i c)))

    pub branch : (ρ : ℕ → Env) (a b : Sem) → Agrees ρ f a → Agrees ρ g b → (l n : Loop) (vars : Vars) → Loops l m
        → Loops n d → HoldsVars m ρ vars
        → Agree m (λ i. cond (d i) (f i) (g i)) (branches a b l vars n)
    unfolding branches
    branch ρ a b agree-a agree-b l n vars loops then_loops holds =
        union
        (agree-a n d (λ u. kept_in n (vars u)) then_loops (holds_kept ρ vars holds d inside n then_loops))
        (agree-b (without l n) others (λ u. kept_in (without l n) (vars u)) (loops_others l n loops then_loops)
        (holds_kept ρ vars holds others others_inside (without l n) (loops_others l n loops then_loops)))

-- rows of one iteration stand in order
place_later : (i : ℕ) (x y : Triple) → x.iter ≡ i → y.iter ≡ i → x.place < y.place
    → rising_by (by_number place_of ∷ []) y x ≡ false
place_later i x y a b h = later_last _ y x (before_le y.place x.place (omega arith))

pub items_placed : (i : ℕ) (xs : List ℤ) → items_in_order (placed i 0 xs) ≡ xs
unfolding items_in_order
items_placed i xs =
    ap (map item_of) (sort_placed (rising_by (by_number place_of ∷ [])) i (place_later i) xs) ∙ map_placed i 0 xs

abbrev number : ℕ × Bool → ℕ
number r = r.0

abbrev flag : ℕ × Bool → Bool
flag r = r.1

decided : Attempt Bool → Bool
decided fails = false
decided (gives b) = b

module _ (w : World) (lawful : Lawful w) (m : Mask) (c : List Triple) (s : Family) (out : Outside m s)
    (rep : Represents c s) where
  truth_row : ℕ → Attempt (List (ℕ × Bool))
  truth_row i = alone (λ b. (i, b)) (w.truth (s i))

  decision : Mask
  decision i = decided (w.truth (s i))

  truths_run : truths_of w c ≡ each truth_row (numbers_in iter_of c)
  unfolding truths_of truth_row
  truths_run =
      ap (λ g. each g (numbers_in iter_of c))
      (fun_ext (λ i. ap (λ (xs : List ℤ). alone (λ b. (i, b)) (w.truth xs))
      (ap items_in_order (rep i) ∙ items_placed i (s i))))

  own : (i : ℕ) → All (λ x. i ≡ x.0) (got (truth_row i))
  unfolding truth_row
  own i = all_alone (λ x. i ≡ x.0) (λ b. (i, b)) (λ b. refl) (w.truth (s i))

  nothing : (i : ℕ) → s i ≡ [] → w.truth (s i) ≡ gives false
  nothing i e = ap w.truth e ∙ lawful.truth_nothing

  undecided : (i : ℕ) → s i ≡ [] → decision i ≡ false
  unfolding decision decided
  undecided i e = ap decided (nothing i e)

  inside : (i : ℕ) → decision i ≡ true → m i ≡ true
  inside i e = by_cases (m i) (λ k. k) (λ k. clash e (undecided i (out i k)))

  given_truth : (i : ℕ) (a : Attempt Bool)
      → alone {B = ℕ × Bool} (λ b. (i, b)) a ≡ gives (got (alone (λ b. (i, b)) a)) → a ≡ gives (decided a)
  unfolding attempt got decided
  given_truth i fails e = fails_gives refl e
  given_truth i (gives b) e = refl

  truth_means : (i : ℕ) → (filled (s i) ≡ true → truth_row i ≡ gives (got (truth_row i)))
      → w.truth (s i) ≡ gives (decision i)
  unfolding truth_row decision
  truth_means i given =
      by_cases (filled (s i))
      (λ f. given_truth i (w.truth (s i)) (given f))
      (λ f. nothing i (not_filled (s i) f) ∙ ap gives (sym (undecided i (not_filled (s i) f))))

  flagged : (i : ℕ) → w.truth (s i) ≡ gives (decision i)
      → map number (filter flag (cond (filled (s i)) (got (truth_row i)) [])) ≡ cond (decision i) (i ∷ []) []
  unfolding filter truth_row got attempt
  flagged i means =
      by_cases (filled (s i))
      (λ f. rw (f, means) (by_cases (decision i) (λ e. rw e) (λ e. rw e)))
      (λ f. rw (f, undecided i (not_filled (s i) f)))

  then_loops : (ds : List (ℕ × Bool)) → ((i : ℕ) → within number i ds ≡ cond (filled (s i)) (got (truth_row i)) [])
      → ((i : ℕ) → w.truth (s i) ≡ gives (decision i)) → Loops (then_loop ds) decision
  unfolding then_loop within
  then_loops ds at means i =
      filter_map (eqb i) number (filter flag ds)
      ∙ ap (map number) (filter_comm (λ r. eqb i r.0) flag ds ∙ ap (filter flag) (at i))
      ∙ flagged i (means i)

  pub rule_I : (ρ : ℕ → Env) (f g : ℕ → Attempt (List ℤ)) (a b : Sem) → Agrees ρ f a → Agrees ρ g b
      → (l : Loop) (vars : Vars) → Loops l m → HoldsVars m ρ vars
      → Agree m (λ i. attempt (w.truth (s i)) (λ t. cond t (f i) (g i))) (sem_i w a b l vars c)
  unfolding sem_i attempt filled truth_row
  rule_I ρ f g a b agree-a agree-b l vars loops holds = go (worked s number truth_row own c rep)
    where
      rest : List (ℕ × Bool) → Attempt (List Triple)
      rest t = branches a b l vars (then_loop t)

      go : Worked s number truth_row (each truth_row (numbers_in iter_of c))
          → Agree m (λ i. attempt (w.truth (s i)) (λ t. cond t (f i) (g i))) (sem_i w a b l vars c)
      go (all_work ds e given at) =
          let means : (i : ℕ) → w.truth (s i) ≡ gives (decision i) = λ i. truth_means i (given i) in
          subst (Agree m (λ i. attempt (w.truth (s i)) (λ t. cond t (f i) (g i))))
          (sym (ap (λ x. attempt x rest) (truths_run ∙ e)))
          (agree_to (λ i. attempt (w.truth (s i)) (λ t. cond t (f i) (g i)))
          (λ i k. ap (λ x. attempt x (λ t. cond t (f i) (g i))) (means i))
          (branch m decision inside f g ρ a b agree-a agree-b l (then_loop ds) vars loops (then_loops ds at means)
          holds))
      go (one_does_not i k e r) =
          failing i (outside_filled m s out i k)
          (ap (λ x. attempt x (λ t. cond t (f i) (g i))) (alone_failed (λ b. (i, b)) (w.truth (s i)) e))
          (ap (λ x. attempt x rest) (truths_run ∙ r))

  chosen_loops : (ds : List (ℕ × Bool)) → truths_of w c ≡ gives ds → Loops (then_loop ds) decision
  chosen_loops ds d = go (worked s number truth_row own c rep)
    where
      go : Worked s number truth_row (each truth_row (numbers_in iter_of c)) → Loops (then_loop ds) decision
      go (all_work us e given at) =
          subst (λ x. Loops (then_loop x) decision) (gives_same (sym (truths_run ∙ e) ∙ d))
          (then_loops us at (λ i. truth_means i (given i)))
      go (one_does_not i k e r) = fails_gives (truths_run ∙ r) d

-- the loops of both branches, and what the variables hold in them
pub record TwoLoops (m : Mask) (ρ : ℕ → Env) (l n : Loop) (vars : Vars) : Type 0 where
  pub chosen : Mask
  pub chosen_loop : Loops n chosen
  pub chosen_holds : HoldsVars chosen ρ (λ u. kept_in n (vars u))
  pub rest : Mask
  pub rest_loop : Loops (without l n) rest
  pub rest_holds : HoldsVars rest ρ (λ u. kept_in (without l n) (vars u))

pub parted : (w : World) → Lawful w → {m : Mask} {c : List Triple} (h : Shown m c) (ρ : ℕ → Env) (l : Loop)
    (vars : Vars) → Loops l m → HoldsVars m ρ vars → (ds : List (ℕ × Bool)) → truths_of w c ≡ gives ds
    → TwoLoops m ρ l (then_loop ds) vars
parted w lawful {m} {c} h ρ l vars loops holds ds d =
    let chosen = decision w lawful m c h.family h.outside h.rows in
    let sub = inside w lawful m c h.family h.outside h.rows in
    let first = chosen_loops w lawful m c h.family h.outside h.rows ds d in
    let second = loops_others m chosen sub l (then_loop ds) loops first in
    record {
      chosen = chosen;
      chosen_loop = first;
      chosen_holds = holds_kept m chosen sub ρ vars holds chosen sub (then_loop ds) first;
      rest = others m chosen sub;
      rest_loop = second;
      rest_holds =
          holds_kept m chosen sub ρ vars holds (others m chosen sub) (others_inside m chosen sub)
          (without l (then_loop ds)) second;
    }
