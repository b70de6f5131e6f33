-- The exact sizes (`deeper` and `sizes_exact` of document 01's catalogue).
--     deeper_none, deeper_more   the count at a row that ends it, at a row that it counts
--     deeper_few                 no more rows are counted than there are
--     deeper_in                  the rows counted are deeper
--     deeper_end                 the row that ends the count is not
--     sizes                      what the check of the sizes gives
use Prim.Native.Nat.{ℕ, zero, suc, ◌+◌, ◌-◌, ◌≤◌, ◌<◌}
use native.Mathlib.Decide.{dec_le, dec_lt}
use native.Mathlib.Omega.{arith}
use mathlib.Core.Path.{◌≡◌, refl, ap, subst}
use lib.Dec.{eqb}
use borrow.Author.Tests.{le-ltb, lt-ltb, eqb-true}
use Rattle.laws.specs.Attempt.{reads}
use Rattle.meaning.specs.Catalogue.{Catalogue, deeper, sizes_exact}
use Rattle.doc_rows.proofs.Rows.{unless_reads}

module _ (c : Catalogue) (l : ℕ) where
  pub deeper_none : (r n : ℕ) → c.level r ≤ l → deeper c l r (suc n) ≡ 0
  unfolding deeper
  deeper_none r n h = rw (le-ltb l (c.level r) h)

  pub deeper_more : (r n : ℕ) → l < c.level r → deeper c l r (suc n) ≡ suc (deeper c l (suc r) n)
  unfolding deeper
  deeper_more r n h = rw (lt-ltb l (c.level r) h)

  pub deeper_zero : (r : ℕ) → deeper c l r zero ≡ 0
  unfolding deeper
  deeper_zero r = refl

  pub deeper_few : (n r : ℕ) → deeper c l r n ≤ n
  deeper_few zero r = omega (arith, deeper_zero r)
  deeper_few (suc n) r = go (deeper_few n (suc r)) (dec_le (c.level r) l)
    where
      go : deeper c l (suc r) n ≤ n → Dec (c.level r ≤ l) → deeper c l r (suc n) ≤ suc n
      go ih (yes h) = omega (arith, deeper_none r n h)
      go ih (no h) = omega (arith, deeper_more r n (omega arith))

  pub deeper_in : (n r v : ℕ) → r ≤ v → v < r + deeper c l r n → l < c.level v
  deeper_in zero r v h k = absurd (omega (arith, deeper_zero r))
  deeper_in (suc n) r v h k = go (deeper_in n (suc r) v) (dec_le (c.level r) l) (dec_lt r v)
    where
      go : (suc r ≤ v → v < suc r + deeper c l (suc r) n → l < c.level v) → Dec (c.level r ≤ l) → Dec (r < v)
          → l < c.level v
      go ih (yes low) d = absurd (omega (arith, deeper_none r n low))
      go ih (no low) (yes later) = ih later (omega (arith, deeper_more r n (omega arith)))
      go ih (no low) (no later) = let same : r ≡ v = omega arith in omega (arith, ap c.level same)

  pub deeper_end : (n r : ℕ) → deeper c l r n < n → c.level (r + deeper c l r n) ≤ l
  deeper_end zero r h = absurd (omega arith)
  deeper_end (suc n) r h = go (deeper_end n (suc r)) (dec_le (c.level r) l)
    where
      go : (deeper c l (suc r) n < n → c.level (suc r + deeper c l (suc r) n) ≤ l) → Dec (c.level r ≤ l)
          → c.level (r + deeper c l r (suc n)) ≤ l
      go ih (yes low) =
          let here : r + deeper c l r (suc n) ≡ r = omega (arith, deeper_none r n low) in
          omega (arith, ap c.level here)
      go ih (no low) =
          let more : deeper c l r (suc n) ≡ suc (deeper c l (suc r) n) = deeper_more r n (omega arith) in
          let there : r + deeper c l r (suc n) ≡ suc r + deeper c l (suc r) n = omega arith in
          omega (arith, ap c.level there, ih (omega arith))

abbrev pub ExactSizes : Catalogue → ℕ → ℕ → Type 0
ExactSizes c v rest = c.size v ≡ deeper c (c.level v) (suc v) rest

pub sizes : (n : ℕ) (c : Catalogue) (r : ℕ) (d : Catalogue) → sizes_exact c r n ≡ reads d
    → (d ≡ c) × ((v : ℕ) → r ≤ v → v < r + n → ExactSizes c v (r + n - suc v))
unfolding sizes_exact
sizes zero c r d e = (cc, λ v h k. absurd (omega arith))
sizes (suc n) c r d e =
    let s = unless_reads (eqb (c.size r) (deeper c (c.level r) (suc r) n)) 4 _ (sizes_exact c (suc r) n) d e in
    let ih = sizes n c (suc r) d s.1 in
    (ih.0, λ v h k. go ih.1 (eqb-true _ _ s.0) v h k (dec_lt r v))
  where
    go : ((v : ℕ) → suc r ≤ v → v < suc r + n → ExactSizes c v (suc r + n - suc v)) → ExactSizes c r n
        → (v : ℕ) → r ≤ v → v < r + suc n → Dec (r < v) → ExactSizes c v (r + suc n - suc v)
    go later here v h k (yes l) =
        let same : suc r + n - suc v ≡ r + suc n - suc v = omega arith in
        subst (ExactSizes c v) same (later v l (omega arith))
    go later here v h k (no l) =
        let same : r ≡ v = omega arith in
        let rest : n ≡ r + suc n - suc v = omega arith in
        subst (ExactSizes c v) rest (subst (λ (w : ℕ). ExactSizes c w n) same here)
