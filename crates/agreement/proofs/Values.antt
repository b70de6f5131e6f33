-- QD: each item's value.
--     val x, row_val r          the value of an item; of a row, which stands at the row's place
--     all_given, all_placed    where every row of an iteration has a value, these are the items' values, in place
--     rule_D                   the agreement of QD
use Prim.Native.Nat.{ℕ, suc}
use mathlib.Core.Path.{◌≡◌, refl, sym, ap, ◌∙◌, subst}
use mathlib.Core.List.{List, [], ◌∷◌, ◌++◌}
use lib.IntN.{ℤ}
use Rattle.laws.specs.Lists.{gather, All, In}
use Rattle.laws.specs.Attempt.{Attempt, fails, gives, attempt}
use Rattle.meaning.specs.World.{World}
use Rattle.meaning.specs.Meaning.{values}
use Rattle.agreement.specs.Typed.{Triple, row, iter_of, sem_d}
use Rattle.agreement.specs.Families.{Family, Mask, placed, Represents, Outside, Agree}
use Rattle.agreement.proofs.Attempts.{got, each_fails, each_gives, extended_then, alone, alone_gives}
use Rattle.agreement.proofs.Attempts.{alone_fails, all_alone, fails_gives}
use Rattle.agreement.proofs.Agreeing.{agree_each, AllGiven, outside_in}
use Rattle.agreement.proofs.Tables.{placed_in}

module _ (w : World) where
  -- an item's value, and a row's
  val : ℤ → Attempt (List ℤ)
  val x = alone (λ y. y) (w.value x)

  row_val : Triple → Attempt (List Triple)
  row_val r = alone (row r.iter r.place) (w.value r.item)

  own : (r : Triple) → All (λ x. r.iter ≡ x.iter) (got (row_val r))
  unfolding row_val
  own r = all_alone (λ x. r.iter ≡ x.iter) (row r.iter r.place) (λ z. refl) (w.value r.item)

  -- where every row has a value, so has every item, and the values stand at the same places
  all_given : (i n : ℕ) (xs : List ℤ) → AllGiven iter_of row_val own (placed i n xs)
      → All (λ x. val x ≡ gives (got (val x))) xs
  unfolding placed row_val val
  all_given i n [] h = tt
  all_given i n (x ∷ xs) h = (alone_gives (row i (suc n)) (λ y. y) (w.value x) h.0, all_given i (suc n) xs h.1)

  first_placed : (i n : ℕ) (a : Attempt ℤ) (zs : List ℤ)
      → alone (row i (suc n)) a ≡ gives (got (alone (row i (suc n)) a))
      → got (alone (row i (suc n)) a) ++ placed i (suc n) zs ≡ placed i n (got (alone (λ y. y) a) ++ zs)
  unfolding attempt got placed
  first_placed i n fails zs e = fails_gives refl e
  first_placed i n (gives z) zs e = refl

  all_placed : (i n : ℕ) (xs : List ℤ) → AllGiven iter_of row_val own (placed i n xs)
      → gather (λ r. got (row_val r)) (placed i n xs) ≡ placed i n (gather (λ x. got (val x)) xs)
  unfolding placed row_val val gather
  all_placed i n [] h = refl
  all_placed i n (x ∷ xs) h =
      ap (λ (t : List Triple). got (row_val (row i (suc n) x)) ++ t) (all_placed i (suc n) xs h.1)
      ∙ first_placed i n (w.value x) (gather (λ x. got (val x)) xs) h.0

  pub rule_D : (m : Mask) (a : List Triple) (s : Family) → Outside m s → Represents a s
      → Agree m (λ i. values w (s i)) (sem_d w a)
  unfolding sem_d values val row_val gather
  rule_D m a s out rep =
      subst (Agree m (λ i. values w (s i)))
      (sym (extended_then (λ r. w.value r.item) (λ r. row r.0.iter r.0.place r.1) a))
      (agree_each iter_of row_val own m (λ i. values w (s i)) (λ i. gather (λ x. got (val x)) (s i)) a
      (λ i e. ap (gather (λ x. got (val x))) (out i e))
      (λ i h k. each_gives val (s i) (all_given i 0 (s i) (subst (AllGiven iter_of row_val own) (rep i) h)))
      (λ i h. ap (gather (λ r. got (row_val r))) (rep i)
      ∙ all_placed i 0 (s i) (subst (AllGiven iter_of row_val own) (rep i) h))
      (λ i r k e.
      let item : In r.item (s i) = placed_in i (s i) r (subst (In r) (rep i) k) in (
        outside_in m s out i r.item item,
        each_fails val (s i) r.item item (alone_fails (row r.iter r.place) (λ y. y) (w.value r.item) e),
      )))
