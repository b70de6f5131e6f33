-- Roots: the rows of level 0, by rising rank (`roots`, `member`).
--     roots_from_lem                  the roots, as code passes the ranks
--     roots_none, roots_skip, roots_take   no rank; a rank that is no root; a rank that is one
--     roots_right                 each root is a rank of level 0
--     roots_whole                 each rank of level 0 is a root
--     roots_rise                  they stand by rising rank
--     root_at, root_none          the cell of the root of fragment k, by the root that was found
use Prim.Native.Nat.{ℕ, zero, suc, ◌+◌, ◌-◌, ◌≤◌, ◌<◌}
use native.Mathlib.Decide.{dec_lt, ℕ_discrete}
use native.Mathlib.Omega.{arith}
use mathlib.Core.List.{List, [], ◌∷◌, ◌++◌}
use mathlib.Core.Logic.{◌⊎◌, inl, inr}
use mathlib.Core.Path.{◌≡◌, refl, sym, ◌∙◌, ap}
use lib.Dec.{eqb}
use borrow.Author.Tests.{eq-eqb, ne_eqb}
use Rattle.cells.specs.Cell.{node_cell}
use Rattle.laws.specs.Lists.{filter, below, Rising}
use Rattle.laws.proofs.Lists.{rising_kept, rising_below}
use Rattle.laws.specs.Attempt.{fails, gives, attempt}
use Rattle.meaning.specs.Catalogue.{Catalogue}
use Rattle.meaning.specs.World.{roots, member, root_of}
use Rattle.doc_rows.specs.Ranks.{ranks, roots_from}

ranks_last : (n r : ℕ) → ranks r (suc n) ≡ ranks r n ++ ((r + n) ∷ [])
unfolding ranks
ranks_last zero r = let e : r ≡ r + 0 = omega arith in ap (λ (v : ℕ). v ∷ []) e
ranks_last (suc n) r =
    let e : suc r + n ≡ r + suc n = omega arith in
    ap (λ (vs : List ℕ). r ∷ vs) (ranks_last n (suc r) ∙ ap (λ (v : ℕ). ranks (suc r) n ++ (v ∷ [])) e)

below_ranks : (n : ℕ) → below n ≡ ranks 0 n
unfolding below ranks
below_ranks zero = refl
below_ranks (suc n) =
    let e : n ≡ 0 + n = omega arith in
    ap (λ (vs : List ℕ). vs ++ (n ∷ [])) (below_ranks n) ∙ ap (λ (v : ℕ). ranks 0 n ++ (v ∷ [])) e
    ∙ sym (ranks_last n 0)

pub roots_from_lem : (c : Catalogue) → roots c ≡ roots_from c 0 c.rows
unfolding roots roots_from
roots_from_lem c = ap (filter (λ v. eqb (c.level v) 0)) (below_ranks c.rows)

module _ {A : Type 0} where
  member_none : (k : ℕ) (v : A) → member [] k ≡ gives v → ⊥
  unfolding member
  member_none k v e = let z : ◌≡◌ {A = ℕ} 0 1 = cc in omega arith

  member_first : (x : A) (xs : List A) → member (x ∷ xs) 0 ≡ gives x
  unfolding member
  member_first x xs = refl

  member_next : (x : A) (xs : List A) (k : ℕ) → member (x ∷ xs) (suc k) ≡ member xs k
  unfolding member
  member_next x xs k = refl

  member_cons : (x : A) (xs : List A) (k : ℕ) (v : A) → member (x ∷ xs) k ≡ gives v
      → (x ≡ v) ⊎ ((j : ℕ) × (k ≡ suc j) × (member xs j ≡ gives v))
  unfolding member
  member_cons x xs zero v e = inl (cc)
  member_cons x xs (suc k) v e = inr (k, refl, e)

module _ (c : Catalogue) where
  pub roots_none : (r : ℕ) → roots_from c r zero ≡ []
  unfolding roots_from filter ranks
  roots_none r = refl

  pub roots_take : (r n : ℕ) → c.level r ≡ 0 → roots_from c r (suc n) ≡ r ∷ roots_from c (suc r) n
  unfolding roots_from filter ranks
  roots_take r n h = rw (eq-eqb (c.level r) 0 h)

  pub roots_skip : (r n : ℕ) → (c.level r ≡ 0 → ⊥) → roots_from c r (suc n) ≡ roots_from c (suc r) n
  unfolding roots_from filter ranks
  roots_skip r n h = rw (ne_eqb (c.level r) 0 h)

  -- of n ranks from r on
  abbrev RankedBelow : ℕ → ℕ → ℕ → Type 0
  RankedBelow n r v = (r ≤ v) × (v < r + n) × (c.level v ≡ 0)

  wider : (n r v : ℕ) → RankedBelow n (suc r) v → RankedBelow (suc n) r v
  wider n r v h = (omega arith, omega arith, h.2)

  right_from : (n r k v : ℕ) → member (roots_from c r n) k ≡ gives v → RankedBelow n r v
  right_from zero r k v e = absurd (member_none k v (ap (λ (xs : List ℕ). member xs k) (sym (roots_none r)) ∙ e))
  right_from (suc n) r k v e = go (right_from n (suc r)) (ℕ_discrete (c.level r) 0)
    where
      take : ((j w : ℕ) → member (roots_from c (suc r) n) j ≡ gives w → RankedBelow n (suc r) w) → c.level r ≡ 0
          → (r ≡ v) ⊎ ((j : ℕ) × (k ≡ suc j) × (member (roots_from c (suc r) n) j ≡ gives v)) → RankedBelow (suc n) r v
      take ih h (inl s) = (omega arith, omega arith, ap c.level (sym s) ∙ h)
      take ih h (inr s) = wider n r v (ih s.0 v s.2)

      go : ((j w : ℕ) → member (roots_from c (suc r) n) j ≡ gives w → RankedBelow n (suc r) w) → Dec (c.level r ≡ 0)
          → RankedBelow (suc n) r v
      go ih (yes h) =
          take ih h
          (member_cons r (roots_from c (suc r) n) k v (ap (λ (xs : List ℕ). member xs k) (sym (roots_take r n h)) ∙ e))
      go ih (no h) = wider n r v (ih k v (ap (λ (xs : List ℕ). member xs k) (sym (roots_skip r n h)) ∙ e))

  pub roots_right : (k v : ℕ) → member (roots c) k ≡ gives v → (v < c.rows) × (c.level v ≡ 0)
  roots_right k v e =
      let h = right_from c.rows 0 k v (ap (λ (xs : List ℕ). member xs k) (sym (roots_from_lem c)) ∙ e) in
      (omega arith, h.2)

  whole_from : (n r v : ℕ) → RankedBelow n r v → (k : ℕ) × (member (roots_from c r n) k ≡ gives v)
  whole_from zero r v h = absurd (omega arith)
  whole_from (suc n) r v h = go (whole_from n (suc r) v) (ℕ_discrete (c.level r) 0) (dec_lt r v)
    where
      go : (RankedBelow n (suc r) v → (k : ℕ) × (member (roots_from c (suc r) n) k ≡ gives v))
          → Dec (c.level r ≡ 0) → Dec (r < v) → (k : ℕ) × (member (roots_from c r (suc n)) k ≡ gives v)
      go ih (yes z) (yes l) =
          let s = ih (l, omega arith, h.2) in
          let k = s.0 in
          (suc k, ap (λ (xs : List ℕ). member xs (suc k)) (roots_take r n z) ∙ member_next r _ k ∙ s.1)
      go ih (yes z) (no l) =
          let same : r ≡ v = omega arith in
          (0, ap (λ (xs : List ℕ). member xs 0) (roots_take r n z) ∙ member_first r _ ∙ ap gives same)
      go ih (no z) (yes l) =
          let s = ih (l, omega arith, h.2) in
          (s.0, ap (λ (xs : List ℕ). member xs s.0) (roots_skip r n z) ∙ s.1)
      go ih (no z) (no l) = let same : r ≡ v = omega arith in absurd (z (ap c.level same ∙ h.2))

  pub roots_whole : (v : ℕ) → v < c.rows → c.level v ≡ 0 → (k : ℕ) × (member (roots c) k ≡ gives v)
  roots_whole v h z =
      let s = whole_from c.rows 0 v (omega arith, omega arith, z) in
      (s.0, ap (λ (xs : List ℕ). member xs s.0) (roots_from_lem c) ∙ s.1)

  pub roots_rise : Rising (λ i k. i < k) (roots c)
  unfolding roots
  roots_rise = rising_kept (λ r. eqb (c.level r) 0) (λ i k. i < k) (below c.rows) (rising_below c.rows)

  -- what `root` finds, as an item's cell
  pub root_at : (k v : ℕ) → gives v ≡ member (roots c) (k - 1) → root_of c k ≡ gives (node_cell v)
  unfolding root_of attempt
  root_at k v e = rw (← e)

  pub root_none : (k : ℕ) → fails ≡ member (roots c) (k - 1) → root_of c k ≡ fails
  unfolding root_of attempt
  root_none k e = rw (← e)
