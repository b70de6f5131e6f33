-- Laws of the marked ranks below a number.
--     any_append        some member of either part
--     below_same        tests that agree below n pick the same ranks
--     ranks_none, ranks_more     the marked ranks below 0, and below n + 1
--     length_ranks, length_ranks_more, length_ranks_rises     how many they are
--     count_marked      .. counted as flags
--     any_hit, any_miss     some marked rank passes; no marked rank passes
use Prim.Native.Nat.{ℕ, zero, suc, ◌+◌, ◌≤◌, ◌<◌}
use mathlib.Core.Path.{◌≡◌, refl, sym, ap, ◌∙◌}
use mathlib.Core.List.{List, [], ◌∷◌, ◌++◌}
use mathlib.Core.Bool.{Bool, true, false, cond, ◌&&◌, ◌||◌, or_assoc, or-true, or-false}
use native.Mathlib.Decide.{ℕ_discrete}
use native.Mathlib.Numerals.{add-one}
use native.Mathlib.Omega.{arith}
use mir.Val.{bool_byte}
use lib.ListN.{length, get_or, take, length-append}
use Rattle.std.specs.List.{count_by}
use Rattle.std.proofs.lemmas.List.Sums.{count_by_more_yes, count_by_more_no}
use Rattle.laws.specs.Lists.{filter, any, below}
use Rattle.laws.proofs.Filters.{filter_append, filter_same}
use Rattle.laws.proofs.Booleans.{clash}
use Rattle.laws.proofs.Lists.{all_map, all_below, byte_few}
use Rattle.nodesets.specs.Nodes.{ranks}

module _ {A : Type 0} where
  pub any_append : (p : A → Bool) (xs ys : List A) → any p (xs ++ ys) ≡ (any p xs || any p ys)
  unfolding any
  any_append p [] ys = refl
  any_append p (x ∷ xs) ys = rw (any_append p xs ys) (sym (or_assoc (p x) (any p xs) (any p ys)))

-- the members of a list of one
last : (p : ℕ → Bool) (n : ℕ) → filter p (n ∷ []) ≡ cond (p n) (n ∷ []) []
unfolding filter
last p n = refl

pub ranks_more : (n : ℕ) (ms : List Bool) → ranks (suc n) ms ≡ ranks n ms ++ cond (get_or ms n false) (n ∷ []) []
unfolding ranks below
ranks_more n ms =
    filter_append (λ r. get_or ms r false) (below n) (n ∷ [])
    ∙ ap (λ l. ranks n ms ++ l) (last (λ r. get_or ms r false) n)

pub ranks_none : (ms : List Bool) → ranks 0 ms ≡ []
unfolding ranks below filter
ranks_none ms = refl

-- how many ranks one flag adds
pub length_ranks_more :
    (n : ℕ) (ms : List Bool) → length (ranks (n + 1) ms) ≡ length (ranks n ms) + bool_byte (get_or ms n false)
length_ranks_more n ms =
    rw (add-one n, ranks_more n ms)
    (length-append (ranks n ms) (cond (get_or ms n false) (n ∷ []) []) ∙ one (get_or ms n false))
  where
    one : (t : Bool) → length (ranks n ms) + length (cond t (n ∷ []) []) ≡ length (ranks n ms) + bool_byte t
    one true = refl
    one false = refl

pub length_ranks : (n : ℕ) (ms : List Bool) → length (ranks n ms) ≤ n
length_ranks zero ms = omega (arith, ap length (ranks_none ms))
length_ranks (suc n) ms =
    omega (
      arith,
      length_ranks n ms,
      length_ranks_more n ms,
      ap (λ k. length (ranks k ms)) (add-one n),
      byte_few (get_or ms n false),
    )

-- the first n flags, counted
pub count_marked :
    (n : ℕ) (ms : List Bool) → n ≤ length ms → count_by (λ (b : Bool). b) (take n ms) ≡ length (ranks n ms)
count_marked zero ms h = sym (ap length (ranks_none ms))
count_marked (suc n) ms h = by_flag (get_or ms n false) refl (count_marked n ms (omega arith))
  where
    by_flag :
        (t : Bool) → get_or ms n false ≡ t → count_by (λ (b : Bool). b) (take n ms) ≡ length (ranks n ms)
        → count_by (λ (b : Bool). b) (take (suc n) ms) ≡ length (ranks (suc n) ms)
    by_flag true e ih =
        rw (← add-one n, count_by_more_yes (λ (b : Bool). b) ms n false (omega arith) e, ih, length_ranks_more n ms, e)
    by_flag false e ih =
        rw (← add-one n, count_by_more_no (λ (b : Bool). b) ms n false (omega arith) e, ih, length_ranks_more n ms, e)
        (omega arith)

pub length_ranks_rises : (n v : ℕ) (ms : List Bool) → v ≤ n → length (ranks v ms) ≤ length (ranks n ms)
length_ranks_rises zero v ms h = omega (arith, ap (λ k. length (ranks k ms)) (none v h))
  where
    none : (v : ℕ) → v ≤ 0 → v ≡ 0
    none v h = omega arith
length_ranks_rises (suc n) v ms h = by_place (ℕ_discrete v (suc n)) (length_ranks_rises n v ms)
  where
    by_place :
        Dec (v ≡ suc n) → (v ≤ n → length (ranks v ms) ≤ length (ranks n ms))
        → length (ranks v ms) ≤ length (ranks (suc n) ms)
    by_place (yes e) ih = omega (arith, ap (λ k. length (ranks k ms)) e)
    by_place (no e) ih =
        omega (arith, ih (omega arith), length_ranks_more n ms, ap (λ k. length (ranks k ms)) (add-one n))

any_one : (p : ℕ → Bool) (n : ℕ) (t : Bool) → any p (cond t (n ∷ []) []) ≡ (t && p n)
unfolding any
any_one p n true = or-false (p n)
any_one p n false = refl

any_more :
    (p : ℕ → Bool) (n : ℕ) (ms : List Bool) →
    any p (ranks (suc n) ms) ≡ (any p (ranks n ms) || (get_or ms n false && p n))
any_more p n ms = rw (ranks_more, any_append, any_one)

any_none : (p : ℕ → Bool) (ms : List Bool) → any p (ranks 0 ms) ≡ false
unfolding any ranks below filter
any_none p ms = refl

module _ (p : ℕ → Bool) (ms : List Bool) where
  pub any_hit : (n x : ℕ) → x < n → get_or ms x false ≡ true → p x ≡ true → any p (ranks n ms) ≡ true
  any_hit zero x h m k = absurd (omega arith)
  any_hit (suc n) x h m k = rw (any_more p n ms) (by_order (ℕ_discrete x n) (λ j. any_hit n x j m k))
    where
      by_order :
          Dec (x ≡ n) → (x < n → any p (ranks n ms) ≡ true) → (any p (ranks n ms) || (get_or ms n false && p n)) ≡ true
      by_order (yes e) ih = rw (← e, m, k) (or-true (any p (ranks x ms)))
      by_order (no e) ih = rw (ih (omega arith))

  pub any_miss :
      (n : ℕ) → ((x : ℕ) → x < n → get_or ms x false ≡ true → p x ≡ true → ⊥) → any p (ranks n ms) ≡ false
  any_miss zero h = any_none p ms
  any_miss (suc n) h =
      rw (any_more p n ms, any_miss n (λ x j. h x (omega arith))) (by_test (get_or ms n false) refl (p n) refl)
    where
      by_test : (t : Bool) → get_or ms n false ≡ t → (u : Bool) → p n ≡ u → (false || (t && u)) ≡ false
      by_test true m true k = absurd (h n (omega arith) m k)
      by_test true m false k = refl
      by_test false m u k = refl

  -- a flag that is true for a marked rank that passes, and false for none, is the test of all marked ranks
  pub any_is :
      (n : ℕ) (b : Bool)
      → (b ≡ true → (x : ℕ) × (x < n) × (get_or ms x false ≡ true) × (p x ≡ true))
      → ((x : ℕ) → x < n → get_or ms x false ≡ true → p x ≡ true → b ≡ true)
      → b ≡ any p (ranks n ms)
  any_is n true f g = let w = f refl in sym (any_hit n w.0 w.1 w.2 w.3)
  any_is n false f g = sym (any_miss n (λ x h m k. clash (g x h m k) refl))

-- tests that agree below n pick the same ranks
pub below_same : (p q : ℕ → Bool) (n : ℕ) → ((v : ℕ) → v < n → p v ≡ q v) → filter p (below n) ≡ filter q (below n)
below_same p q n h = filter_same p q (below n) (all_map (below n) h (all_below n))
