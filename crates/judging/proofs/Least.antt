-- The first item of a group by least column 1, then earliest row, and the truth that it decides (RE, rule QI).
--     least_more, least_end      row by row
--     sort_first                 the sort by column 1 begins with the least row
--     truth_of_lem                   truth looks at the first item, and whether there are more
--     group_truth_is             the truth of a group's items
use Rattle.std.specs.Prelude.{Option, Some, None}
use Prim.Native.Nat.{ℕ, suc, ◌+◌, ◌≤◌, ◌<◌}
use mathlib.Core.Path.{◌≡◌, refl, sym, ap, ap₂, ◌∙◌, subst}
use mathlib.Core.List.{List, [], ◌∷◌}
use mathlib.Core.Bool.{Bool, true, false, cond, and-false, or-false}
use native.Mathlib.Omega.{arith}
use lib.Dec.{eqb}
use lib.IntN.{ℤ, pos}
use lib.ListN.{length, get_or, drop}
use borrow.Author.Tests.{ne_eqb}
use Rattle.cells.specs.declared.Item.{Item}
use Rattle.cells.specs.Cell.{same, before, held}
use Rattle.cells.specs.declared.Item.TheVariants.{Integer, Truth, Node}
use Rattle.cells.proofs.Cells.{before_trans, not_before_trans}
use Rattle.laws.specs.Sorting.{insert, sort}
use Rattle.laws.proofs.Booleans.{by_cases}
use Rattle.laws.proofs.Merging.{length_sort}
use Rattle.meaning.specs.World.{truth, truth_from}
use Rattle.meaning.specs.Operators.{Row, Table, cell, column, rising, group_of, items_in_order}
use Rattle.members.specs.Grouped.{in_front}
use Rattle.judging.specs.Foremost.{least}
use Rattle.tables.specs.Order.{cell_at}
use Rattle.tables.proofs.Reading.{get_d_column, length_column}
use Rattle.members.proofs.Members.{group_yes, group_no, group_none, group_front}

module _ (t : Table) (x : ℤ) (i best next : ℕ)
    (e : next ≡ cond (same x (cell_at t 0 i)) (cond (before (cell_at t 1 i) (cell_at t 1 best)) i best) best) where
  -- row i is of the group, or it is not
  pub least_more :
      i < length t → least (get_or t best []) (group_of (drop i t) 0 x)
      ≡ least (get_or t next []) (group_of (drop (i + 1) t) 0 x)
  unfolding least
  least_more h =
      by_cases (same x (cell_at t 0 i))
      (λ d.
      ap (least (get_or t best [])) (group_yes t 0 x i h d)
      ∙ ap (λ (r : Row). least r (group_of (drop (i + 1) t) 0 x)) (taken (before (cell_at t 1 i) (cell_at t 1 best)))
      ∙ ap (λ (j : ℕ). least (get_or t j []) (group_of (drop (i + 1) t) 0 x))
      (sym (e ∙ ap (λ (b : Bool). cond b (cond (before (cell_at t 1 i) (cell_at t 1 best)) i best) best) d)))
      (λ d.
      ap (least (get_or t best [])) (group_no t 0 x i h d)
      ∙ ap (λ (j : ℕ). least (get_or t j []) (group_of (drop (i + 1) t) 0 x))
      (sym (e ∙ ap (λ (b : Bool). cond b (cond (before (cell_at t 1 i) (cell_at t 1 best)) i best) best) d)))
    where
      taken : (b : Bool) → cond b (get_or t i []) (get_or t best []) ≡ get_or t (cond b i best) []
      taken true = refl
      taken false = refl

  pub least_within : (n : ℕ) → i < n → best < n → next < n
  least_within n h k =
      subst (λ (j : ℕ). j < n) (sym e) (go (same x (cell_at t 0 i)) (before (cell_at t 1 i) (cell_at t 1 best)))
    where
      go : (a b : Bool) → cond a (cond b i best) best < n
      go true true = h
      go true false = k
      go false b = k

pub least_end :
    (t : Table) (x : ℤ) (i best : ℕ) (r : Row) → length t ≤ i → least (get_or t best []) (group_of (drop i t) 0 x) ≡ r →
    get_or t best [] ≡ r
unfolding least
least_end t x i best r h e = sym (ap (least (get_or t best [])) (group_none t 0 x i h)) ∙ e

abbrev comes : Row → Row → Bool
comes r q = rising (1 ∷ []) r q

comes_is : (r q : Row) → comes r q ≡ before (cell r 1) (cell q 1)
unfolding rising
comes_is r q = rw (and-false (same (cell r 1) (cell q 1)), or-false (before (cell r 1) (cell q 1)))

comes_trans : (h q r : Row) → comes h q ≡ true → comes q r ≡ true → comes h r ≡ true
comes_trans h q r d e =
    comes_is h r ∙ before_trans (cell h 1) (cell q 1) (cell r 1) (sym (comes_is h q) ∙ d) (sym (comes_is q r) ∙ e)

comes_through : (h q r : Row) → comes h q ≡ false → comes q r ≡ false → comes h r ≡ false
comes_through h q r d e =
    comes_is h r ∙ not_before_trans (cell h 1) (cell q 1) (cell r 1) (sym (comes_is h q) ∙ d) (sym (comes_is q r) ∙ e)

first_insert : (x y : Row) (ys : Table) → get_or (insert comes x (y ∷ ys)) 0 [] ≡ cond (comes y x) y x
unfolding insert
first_insert x y ys = by_cases (comes y x) (λ e. rw e) (λ e. rw e)

insert_yes : (x y : Row) (ys : Table) → comes y x ≡ true → insert comes x (y ∷ ys) ≡ y ∷ insert comes x ys
unfolding insert
insert_yes x y ys e = rw e

insert_no : (x y : Row) (ys : Table) → comes y x ≡ false → insert comes x (y ∷ ys) ≡ x ∷ y ∷ ys
unfolding insert
insert_no x y ys e = rw e

-- two rows put into a list: the first of all is the first of the list with the first of the two
insert_first : (r q : Row) (ys : Table) →
    get_or (insert comes r (insert comes q ys)) 0 [] ≡ get_or (insert comes (cond (comes q r) q r) ys) 0 []
unfolding insert
insert_first r q [] = first_insert r q []
insert_first r q (h ∷ ys) =
    by_cases (comes h q)
    (λ a.
    ap (λ (u : Table). get_or (insert comes r u) 0 []) (insert_yes q h ys a)
    ∙ first_insert r h (insert comes q ys)
    ∙ by_cases (comes q r) (λ b. rw (b, comes_trans h q r a b, a)) (λ b. rw b)
    ∙ sym (first_insert (cond (comes q r) q r) h ys))
    (λ a.
    ap (λ (u : Table). get_or (insert comes r u) 0 []) (insert_no q h ys a)
    ∙ first_insert r q (h ∷ ys)
    ∙ by_cases (comes q r) (λ b. rw (b, a)) (λ b. rw (b, comes_through h q r a b))
    ∙ sym (first_insert (cond (comes q r) q r) h ys))

pub sort_first : (r : Row) (g : Table) → get_or (sort comes (r ∷ g)) 0 [] ≡ least r g
unfolding sort insert least
sort_first r [] = refl
sort_first r (q ∷ g) =
    insert_first r q (sort comes g)
    ∙ ap (λ (b : Bool). get_or (insert comes (cond b q r) (sort comes g)) 0 []) (comes_is q r)
    ∙ sort_first (cond (before (cell q 1) (cell r 1)) q r) g

pub truth_of_lem :
    (xs : List ℤ) → 0 < length xs →
    truth (get_or xs 0 (pos 0) ∷ cond (eqb (length xs) 1) [] (get_or xs 0 (pos 0) ∷ [])) ≡ truth xs
unfolding truth truth_from
truth_of_lem [] h = absurd (omega arith)
truth_of_lem (x ∷ []) h = refl
truth_of_lem (x ∷ y ∷ ys) h = rw (ne_eqb (suc (suc (length ys))) 1 (λ e. omega arith)) (go (held x))
  where
    go : (h : Option Item) → truth_from h (x ∷ []) ≡ truth_from h (y ∷ ys)
    go (Some (Node r)) = refl
    go (Some (Truth b)) = refl
    go (Some (Integer z)) = refl
    go None = refl

module _ (t : Table) (some : 0 < length t) where
  abbrev group : Table
  group = group_of t 0 (in_front t 0)

  pub group_truth_is :
      (first n : ℕ) (item : ℤ) (alone : Bool) →
      get_or t first [] ≡ least (get_or t 0 []) (group_of (drop 1 t) 0 (in_front t 0)) → n ≡ length group →
      item ≡ cell_at t 2 first → alone ≡ eqb n 1 →
      truth (item ∷ cond alone [] (item ∷ [])) ≡ truth (items_in_order group)
  unfolding items_in_order
  group_truth_is first n item alone d e f g =
      let items : List ℤ = column (sort comes group) 2 in
      let long : length items ≡ length group = length_column (sort comes group) 2 ∙ length_sort comes group in
      let one : 0 < length group = omega (arith, ap length (group_front t 0 some)) in
      let head : get_or (sort comes group) 0 [] ≡ get_or t first [] =
      ap (λ (u : Table). get_or (sort comes u) 0 []) (group_front t 0 some)
      ∙ sort_first (get_or t 0 []) (group_of (drop 1 t) 0 (in_front t 0))
      ∙ sym d in
      let here : item ≡ get_or items 0 (pos 0) =
      f ∙ ap (λ (r : Row). cell r 2) (sym head) ∙ sym (get_d_column (sort comes group) 2 0) in
      let many : alone ≡ eqb (length items) 1 = g ∙ ap (λ (k : ℕ). eqb k 1) (e ∙ sym long) in
      ap₂ (λ (z : ℤ) (b : Bool). truth (z ∷ cond b [] (z ∷ []))) here many ∙ truth_of_lem items (omega arith)
