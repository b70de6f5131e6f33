-- The counter of RN. In a table in order, one more than the earlier rows of the group is one more than the counter of
-- the row in front, where that row is of the same group, and else 1.
--     counted_numbered     for any groups that an order keeps together
--     counted_group        for the groups of p, in the order by p and the keys
--     group_whole, group_by     the groups without p, and with it
--     length_counted, wide_counted
use Prim.Native.Nat.{ℕ, suc, ◌+◌}
use mathlib.Core.Path.{◌≡◌, refl, sym, ap, ap₂, ◌∙◌}
use mathlib.Core.List.{List, [], ◌∷◌, ◌++◌}
use mathlib.Core.Bool.{Bool, true, false, ◌||◌}
use native.Mathlib.Numerals.{add-one}
use lib.Dec.{eqb}
use lib.IntN.{ℤ, pos}
use lib.ListN.{length}
use borrow.Author.Tests.{eq-eqb, ne_eqb}
use Rattle.cells.specs.Cell.{same, before}
use Rattle.cells.proofs.Cells.{same_refl, same_eq, neither_same}
use Rattle.laws.specs.Lists.{count}
use Rattle.laws.specs.Lists.{All}
use Rattle.laws.proofs.Lists.{all_map}
use Rattle.laws.proofs.Booleans.{by_cases, clash}
use Rattle.laws.specs.Sorting.{Weak, Sorted}
use Rattle.laws.proofs.Rows.{length_snoc}
use Rattle.meaning.specs.Operators.{Row, Table, cell, rising, numbered_after, in_group}
use Rattle.tables.specs.Layout.{Wide}
use Rattle.row_order.specs.declared.Keys.{Keys}
use Rattle.row_order.specs.Order.{order_of}
use Rattle.numbering.specs.Numbered.{counter_of, counted_from}
use Rattle.row_order.proofs.Columns.{rising_weak}

module _ {A : Type 0} where
  count_none : (p : A → Bool) (xs : List A) → All (λ x. p x ≡ false) xs → count p xs ≡ 0
  unfolding count
  count_none p [] h = refl
  count_none p (x ∷ xs) h = rw h.0 (count_none p xs h.1)

  count_alike : (p q : A → Bool) (xs : List A) → ((x : A) → p x ≡ q x) → count p xs ≡ count q xs
  unfolding count
  count_alike p q [] h = refl
  count_alike p q (x ∷ xs) h = rw (h x, count_alike p q xs h)

module _ (group before : Row → Row → Bool) (w : Weak before)
    (own : (r : Row) → group r r ≡ true)
    (alike : (r x : Row) → group r x ≡ true → (e : Row) → group r e ≡ group x e)
    (apart : (e x r : Row) → before x e ≡ false → before r x ≡ false → group r x ≡ false → group r e ≡ false) where
  -- the earlier rows of r's group, where no earlier row stands behind the one in front
  earlier_count :
      (earlier : Table) (front r : Row) (c : ℕ) → All (λ e. before front e ≡ false) earlier →
      count (group front) earlier ≡ c →
      before r front ≡ false → suc (count (group r) earlier) ≡ counter_of (group r front) c
  earlier_count earlier front r c h e d =
      by_cases (group r front)
      (λ k. rw k (ap suc (count_alike (group r) (group front) earlier (alike r front k) ∙ e) ∙ sym (add-one c)))
      (λ k. rw k (ap suc (count_none (group r) earlier (all_map earlier (λ x b. apart x front r b d k) h))))

  self : (r : Row) → before r r ≡ false
  self r = by_cases (before r r) (λ k. clash k (w.asym r r k)) (λ k. k)

  own_counted : (r : Row) (t : Table) → count (group r) (r ∷ t) ≡ suc (count (group r) t)
  unfolding count
  own_counted r t = rw (own r)

  counted_after_lem :
      (earlier : Table) (front : Row) (c : ℕ) (rs : Table) → All (λ e. before front e ≡ false) earlier →
      count (group front) earlier ≡ c → Sorted before (front ∷ rs) →
      numbered_after group earlier rs ≡ counted_from group front c rs
  unfolding numbered_after counted_from
  counted_after_lem earlier front c [] h e s = refl
  counted_after_lem earlier front c (r ∷ rs) h e s =
      let n : suc (count (group r) earlier) ≡ counter_of (group r front) c =
      earlier_count earlier front r c h e s.0.0 in
      ap₂ (λ (k : ℕ) (t : Table). (r ++ (pos k ∷ [])) ∷ t) n
      (counted_after_lem (r ∷ earlier) r (counter_of (group r front) c) rs
      (self r, all_map earlier (λ x b. w.through r front x s.0.0 b) h)
      (own_counted r earlier ∙ n)
      s.1)

  earlier_none : (r : Row) (b : Bool) → suc (count (group r) []) ≡ counter_of b 0
  unfolding count
  earlier_none r true = refl
  earlier_none r false = refl

  pub counted_numbered :
      (front : Row) (rs : Table) → Sorted before rs → numbered_after group [] rs ≡ counted_from group front 0 rs
  unfolding numbered_after counted_from
  counted_numbered front [] s = refl
  counted_numbered front (r ∷ rs) s =
      ap₂ (λ (k : ℕ) (t : Table). (r ++ (pos k ∷ [])) ∷ t) first
      (counted_after_lem (r ∷ []) r (counter_of (group r front) 0) rs (self r, tt) (own_counted r [] ∙ first) s)
    where
      first : suc (count (group r) []) ≡ counter_of (group r front) 0
      first = earlier_none r (group r front)

module _ (group : Row → Row → Bool) where
  pub length_counted : (front : Row) (c : ℕ) (t : Table) → length (counted_from group front c t) ≡ length t
  unfolding counted_from
  length_counted front c [] = refl
  length_counted front c (r ∷ t) = ap suc (length_counted r (counter_of (group r front) c) t)

  pub wide_counted : (front : Row) (c w : ℕ) (t : Table) → Wide w t → Wide (w + 1) (counted_from group front c t)
  unfolding counted_from Wide
  wide_counted front c w [] h = tt
  wide_counted front c w (r ∷ t) h =
      let d = counter_of (group r front) c in
      (length_snoc r (pos d) w h.0, wide_counted r d w t h.1)

module _ (p : ℕ) (r s : Row) where
  pub group_whole : p ≡ 255 → in_group p r s ≡ true
  unfolding in_group
  group_whole e = rw (eq-eqb p 255 e)

  pub group_by : (p ≡ 255 → ⊥) → in_group p r s ≡ same (cell r p) (cell s p)
  unfolding in_group
  group_by e = rw (ne_eqb p 255 e)

module _ (p : ℕ) (keys : Keys) where
  group_own : (r : Row) → in_group p r r ≡ true
  unfolding in_group
  group_own r = by_cases (eqb p 255) (λ e. rw e) (λ e. rw e (same_refl (cell r p)))

  group_alike : (r x : Row) → in_group p r x ≡ true → (e : Row) → in_group p r e ≡ in_group p x e
  unfolding in_group
  group_alike r x h e =
      by_cases (eqb p 255)
      (λ k. rw k)
      (λ k. ap (λ (z : ℤ). eqb p 255 || same z (cell e p)) (same_eq (cell r p) (cell x p) (sym (rw k) ∙ h)))

  -- p decides first
  not_before :
      (x e : Row) → eqb p 255 ≡ false → rising (order_of p keys) x e ≡ false → before (cell x p) (cell e p) ≡ false
  unfolding rising order_of
  not_before x e k h = by_cases (before (cell x p) (cell e p)) (λ b. clash (rw (k, b)) h) (λ b. b)

  group_apart :
      (e x r : Row) → rising (order_of p keys) x e ≡ false → rising (order_of p keys) r x ≡ false →
      in_group p r x ≡ false → in_group p r e ≡ false
  unfolding in_group
  group_apart e x r h k d =
      by_cases (eqb p 255)
      (λ z. clash (rw z) d)
      (λ z. by_cases (same (cell r p) (cell e p))
      (λ q. clash (neither_same (cell r p) (cell x p) (not_before r x z k)
      (ap (before (cell x p)) (same_eq (cell r p) (cell e p) q) ∙ not_before x e z h)) (sym (rw z) ∙ d))
      (λ q. rw (z, q)))

  pub counted_group :
      (front : Row) (t : Table) → Sorted (rising (order_of p keys)) t →
      numbered_after (in_group p) [] t ≡ counted_from (in_group p) front 0 t
  counted_group =
      counted_numbered (in_group p) (rising (order_of p keys)) (rising_weak (order_of p keys))
      group_own
      group_alike
      group_apart
