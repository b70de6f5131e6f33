-- Laws of items and cells.
--     same_refl, same_sym, same_trans     equality of cells is an equivalence
--     same_eq, eq_same                    the same cell exactly where it is equal
--     same_ne, ne_same                    another cell exactly where it is not
--     before_irrefl .. before_trans       order of cells is strict
--     before_cotrans                      of two cells in order, any cell stands after the first or before the second
--     not_before_trans                    not standing before carries on
--     before_same, before_other           equal cells stand in no order, cells in order are not equal
--     neither_same, trichotomy            of two cells one stands before the other, or they are the same
--     same_node, before_node              nodes are equal and ordered as their ranks
--     node_injective, node_rising         different ranks have different cells, greater ranks later ones
--     range_small                         a small number is one of the integers
--     held_cell_of, cell_of_held            an item's cell holds that item, and no other cell does
--     held_range                          an integer that a cell holds is in its range
--     cell_mag                            the cell of a proper item is a signed 64-bit number
use Rattle.std.specs.Prelude.{Some, None}
use mathlib.Core.Path.{◌≡◌, refl, sym, ◌∙◌, ap, subst}
use mathlib.Core.Bool.{Bool, true, false, not, true≢false, false≢true}
use mathlib.Core.Logic.{◌⊎◌, inl, inr, ⊎_elim}
use Prim.Native.Nat.{ℕ, suc, ◌+◌, ◌-◌, ◌^◌, ◌<◌, ◌≤◌}
use native.Mathlib.Omega.{arith}
use lib.Dec.{T, ltb, eqb, le→leb}
use lib.IntN.{ℤ, pos, negsuc}
use lib.Signed.{mag, lt_z, ◌<ℤ◌, ◌≤ℤ◌, le_z_yes, lt_z_yes, lt_z_no, <ℤ-≤ℤ_trans, <ℤ_irrefl, clash_ℤ}
use borrow.Author.Tests.{lt-ltb, ltb-true, ltb-false, eqb-true, eq-eqb, eqb-false}
use Rattle.cells.specs.declared.Item.{Item}
use Rattle.cells.specs.declared.Item.TheVariants.{Integer, Truth, Node}
use Rattle.cells.specs.Cell.{same, before, in_range, held, cell_of, node_cell}
use Rattle.cells.specs.Small.{Proper}
use Rattle.cells.proofs.Tests.{leb_same, eqb_same, is_true}
use Rattle.cells.proofs.Holding.{range_mag, mag_range, past_range}
use Rattle.cells.proofs.Holding.{held_integer, held_negative, held_stray, held_node}

-- equality of cells

pub same_refl : (a : ℤ) → same a a ≡ true
unfolding same
same_refl (pos n) = eq-eqb n n refl
same_refl (negsuc n) = eq-eqb n n refl

pub same_eq : (a b : ℤ) → same a b ≡ true → a ≡ b
unfolding same
same_eq (pos m) (pos n) e = ap pos (eqb-true m n e)
same_eq (pos m) (negsuc n) e = absurd (false≢true e)
same_eq (negsuc m) (pos n) e = absurd (false≢true e)
same_eq (negsuc m) (negsuc n) e = ap negsuc (eqb-true m n e)

pub eq_same : (a b : ℤ) → a ≡ b → same a b ≡ true
eq_same a b e = subst (λ (x : ℤ). same a x ≡ true) e (same_refl a)

pub same_ne : (a b : ℤ) → same a b ≡ false → a ≡ b → ⊥
same_ne a b e h = true≢false (sym (eq_same a b h) ∙ e)

pub ne_same : (a b : ℤ) → (a ≡ b → ⊥) → same a b ≡ false
ne_same a b f = by_test (same a b) refl
  where
    by_test : (t : Bool) → same a b ≡ t → same a b ≡ false
    by_test true e = absurd (f (same_eq a b e))
    by_test false e = e

pub same_sym : (a b : ℤ) → same a b ≡ same b a
unfolding same
same_sym (pos m) (pos n) = eqb_same m n n m sym sym
same_sym (pos m) (negsuc n) = refl
same_sym (negsuc m) (pos n) = refl
same_sym (negsuc m) (negsuc n) = eqb_same m n n m sym sym

pub same_trans : (a b c : ℤ) → same a b ≡ true → same b c ≡ true → same a c ≡ true
same_trans a b c e f = eq_same a c (same_eq a b e ∙ same_eq b c f)

-- order of cells

earlier : (a b : ℤ) → before a b ≡ true → a <ℤ b
unfolding before
earlier a b e = lt_z_yes (subst T (sym e) tt)

earlier_test : (a b : ℤ) → a <ℤ b → before a b ≡ true
unfolding before
earlier_test a b h = is_true (lt_z a b) h.lt

not_earlier : (a b : ℤ) → before a b ≡ false → b ≤ℤ a
unfolding before
not_earlier a b e = lt_z_no (subst (λ (t : Bool). T (not t)) (sym e) tt)

at_most : (a b : ℤ) → before a b ≡ true → a ≤ℤ b
unfolding before
at_most (pos m) (pos n) e =
    let h : m < n = ltb-true m n e in
    le_z_yes (le→leb m n (omega arith))
at_most (pos m) (negsuc n) e = absurd (false≢true e)
at_most (negsuc m) (pos n) e = le_z_yes tt
at_most (negsuc m) (negsuc n) e =
    let h : n < m = ltb-true n m e in
    le_z_yes (le→leb n m (omega arith))

pub before_irrefl : (a : ℤ) → before a a ≡ false
before_irrefl a = by_test (before a a) refl
  where
    by_test : (t : Bool) → before a a ≡ t → before a a ≡ false
    by_test true e = absurd (<ℤ_irrefl (earlier a a e))
    by_test false e = e

pub before_asym : (a b : ℤ) → before a b ≡ true → before b a ≡ false
before_asym a b h = by_test (before b a) refl
  where
    by_test : (t : Bool) → before b a ≡ t → before b a ≡ false
    by_test true e = clash_ℤ (earlier a b h) (at_most b a e)
    by_test false e = e

pub before_trans : (a b c : ℤ) → before a b ≡ true → before b c ≡ true → before a c ≡ true
before_trans a b c h k = earlier_test a c (<ℤ-≤ℤ_trans (earlier a b h) (at_most b c k))

pub before_cotrans : (a b c : ℤ) → before a c ≡ true → (before a b ≡ true) ⊎ (before b c ≡ true)
before_cotrans a b c h = by_tests (before a b) (before b c) refl refl
  where
    by_tests : (s t : Bool) → before a b ≡ s → before b c ≡ t → (before a b ≡ true) ⊎ (before b c ≡ true)
    by_tests true t d e = inl d
    by_tests false true d e = inr e
    by_tests false false d e = clash_ℤ (<ℤ-≤ℤ_trans (earlier a c h) (not_earlier b c e)) (not_earlier a b d)

pub not_before_trans : (a b c : ℤ) → before a b ≡ false → before b c ≡ false → before a c ≡ false
not_before_trans a b c h k = by_test (before a c) refl
  where
    by_test : (t : Bool) → before a c ≡ t → before a c ≡ false
    by_test true e =
        ⊎_elim (λ d. absurd (true≢false (sym d ∙ h))) (λ d. absurd (true≢false (sym d ∙ k))) (before_cotrans a b c e)
    by_test false e = e

pub before_same : (a b : ℤ) → same a b ≡ true → before a b ≡ false
before_same a b e = subst (λ (x : ℤ). before a x ≡ false) (same_eq a b e) (before_irrefl a)

pub before_other : (a b : ℤ) → before a b ≡ true → same a b ≡ false
before_other a b h = ne_same a b (λ e. true≢false (sym h ∙ before_same a b (eq_same a b e)))

pub neither_same : (a b : ℤ) → before a b ≡ false → before b a ≡ false → same a b ≡ true
unfolding before same
neither_same (pos m) (pos n) h k = eq-eqb m n (omega (arith, ltb-false m n h, ltb-false n m k))
neither_same (pos m) (negsuc n) h k = absurd (true≢false k)
neither_same (negsuc m) (pos n) h k = absurd (true≢false h)
neither_same (negsuc m) (negsuc n) h k = eq-eqb m n (omega (arith, ltb-false n m h, ltb-false m n k))

pub trichotomy : (a b : ℤ) → (before a b ≡ true) ⊎ ((same a b ≡ true) ⊎ (before b a ≡ true))
trichotomy a b = by_tests (before a b) (before b a) refl refl
  where
    by_tests : (s t : Bool) → before a b ≡ s → before b a ≡ t
        → (before a b ≡ true) ⊎ ((same a b ≡ true) ⊎ (before b a ≡ true))
    by_tests true t d e = inl d
    by_tests false true d e = inr (inr e)
    by_tests false false d e = inr (inl (neither_same a b d e))

-- nodes

pub same_node : (r s : ℕ) → same (node_cell r) (node_cell s) ≡ eqb r s
unfolding same
same_node r s = eqb_same (0x2_0000_0000 + r) (0x2_0000_0000 + s) r s (λ e. omega arith) (λ e. omega arith)

pub before_node : (r s : ℕ) → before (node_cell r) (node_cell s) ≡ ltb r s
unfolding before
before_node r s =
    leb_same (suc (0x2_0000_0000 + r)) (0x2_0000_0000 + s) (suc r) s (λ h. omega arith) (λ h. omega arith)

pub node_injective : (r s : ℕ) → node_cell r ≡ node_cell s → r ≡ s
node_injective r s e = eqb-true r s (sym (same_node r s) ∙ eq_same _ _ e)

pub node_rising : (r s : ℕ) → r < s → before (node_cell r) (node_cell s) ≡ true
node_rising r s h = before_node r s ∙ lt-ltb r s h

-- items

pub range_small : (n : ℕ) → n < 0x8000_0000 → in_range (pos n) ≡ true
range_small n h = mag_range (pos n) h

pub held_cell_of : (i : Item) → Proper i → held (cell_of i) ≡ Some i
unfolding held cell_of
held_cell_of (Integer z) p = held_integer z p
held_cell_of (Truth false) p = refl
held_cell_of (Truth true) p = refl
held_cell_of (Node r) p =
    held_node (0x2_0000_0000 + r.0) (omega arith)
    ∙ ap (λ (n : ℕ). Some (Node (record { 0 = n }))) (back r.0)
  where
    back : (n : ℕ) → 0x2_0000_0000 + n - 0x2_0000_0000 ≡ n
    back n = omega arith

-- an integer is in its range
abbrev Ranged : Item → Type 0
Ranged (Integer z) = in_range z ≡ true
Ranged (Truth b) = Unit {0}
Ranged (Node r) = Unit {0}

-- the item that a cell holds, with what is known of it
abbrev HoldsItem : ℤ → Type 0
HoldsItem z = (i : Item) × (held z ≡ Some i) × (cell_of i ≡ z) × Ranged i

past_cases : (n : ℕ) → 0x8000_0000 ≤ n → (held (pos n) ≡ None) ⊎ HoldsItem (pos n)
unfolding held cell_of
past_cases n h =
    by_tests (eqb n 0x1_0000_0000) (eqb n 0x1_0000_0001) (ltb n 0x2_0000_0000) refl refl refl
  where
    by_tests : (f t b : Bool) → eqb n 0x1_0000_0000 ≡ f → eqb n 0x1_0000_0001 ≡ t → ltb n 0x2_0000_0000 ≡ b
        → (held (pos n) ≡ None) ⊎ HoldsItem (pos n)
    by_tests true t b d e k =
        let m = eqb-true n _ d in
        inr (Truth false, ap (λ (x : ℕ). held (pos x)) m, ap pos (sym m), tt)
    by_tests false true b d e k =
        let m = eqb-true n _ e in
        inr (Truth true, ap (λ (x : ℕ). held (pos x)) m, ap pos (sym m), tt)
    by_tests false false true d e k =
        inl (held_stray n h (eqb-false n _ d) (eqb-false n _ e) (ltb-true n _ k))
    by_tests false false false d e k =
        let m : 0x2_0000_0000 ≤ n = ltb-false n _ k in
        let back : 0x2_0000_0000 + (n - 0x2_0000_0000) ≡ n = omega arith in
        inr (Node (record { 0 = n - 0x2_0000_0000 }), held_node n m, ap pos back, tt)

holds_cases : (z : ℤ) → (held z ≡ None) ⊎ HoldsItem z
unfolding cell_of
holds_cases z = by_tests (in_range z) (lt_z z (pos 0)) refl refl
  where
    by_tests : (s t : Bool) → in_range z ≡ s → lt_z z (pos 0) ≡ t → (held z ≡ None) ⊎ HoldsItem z
    by_tests true t d e = inr (Integer z, held_integer z d, refl, d)
    by_tests false true d e = inl (held_negative z d e)
    by_tests false false d e =
        let p = past_range z d e in
        subst (λ (x : ℤ). (held x ≡ None) ⊎ HoldsItem x) (sym p.1) (past_cases p.0 p.2)

holds_item : (z : ℤ) (i : Item) → held z ≡ Some i → (cell_of i ≡ z) × Ranged i
holds_item z i e = ⊎_elim none some (holds_cases z)
  where
    none : held z ≡ None → (cell_of i ≡ z) × Ranged i
    none d =
        let clash : ◌≡◌ {A = ℕ} 0 1 = cc in
        absurd (omega arith)

    some : HoldsItem z → (cell_of i ≡ z) × Ranged i
    some p =
        let q : Some p.0 ≡ Some i = sym p.1 ∙ e in
        let j : p.0 ≡ i = cc in
        subst (λ (x : Item). (cell_of x ≡ z) × Ranged x) j (p.2, p.3)

pub cell_of_held : (z : ℤ) (i : Item) → held z ≡ Some i → cell_of i ≡ z
cell_of_held z i e = (holds_item z i e).0

pub held_range : (z w : ℤ) → held z ≡ Some (Integer w) → in_range w ≡ true
held_range z w e = (holds_item z (Integer w) e).1

pub cell_mag : (i : Item) → Proper i → mag (cell_of i) < 2 ^ 63
unfolding cell_of
cell_mag (Integer z) p = omega (arith, range_mag z p)
cell_mag (Truth false) p = omega arith
cell_mag (Truth true) p = omega arith
cell_mag (Node r) p = omega arith
