-- The definitions, turn by turn, as this crate's loops go through the rows: of n rows the one of rank r is at hand.
--     root_start, root_end, root_skip, root_here, root_next   the roots
--     fragment_first, fragment_found, fragment_back           the fragment
use Prim.Native.Nat.{ℕ, zero, suc, ◌+◌, ◌-◌, ◌≤◌, ◌<◌}
use native.Mathlib.Numerals.{add-one}
use native.Mathlib.Omega.{arith}
use mathlib.Core.List.{List}
use mathlib.Core.Path.{◌≡◌, sym, ◌∙◌, ap}
use Rattle.laws.specs.Attempt.{fails, gives}
use Rattle.meaning.specs.Catalogue.{Catalogue, catalogue_of}
use Rattle.meaning.specs.World.{roots, member, fragment}
use Rattle.doc_rows.specs.Fields.{level_at}
use Rattle.doc_rows.specs.Ranks.{roots_from}
use Rattle.doc_rows.proofs.FieldLaws.{rows_field, level_field}
use Rattle.doc_rows.proofs.Fragments.{fragment_here, fragment_before, fragment_low}
use Rattle.doc_rows.proofs.Roots.{roots_from_lem, roots_none, roots_skip, roots_take}

module _ (doc : List ℕ) (n : ℕ) where
  abbrev cat : Catalogue
  cat = catalogue_of doc n

  module _ (r : ℕ) where
    pub root_end : (k : ℕ) → n ≤ r → member (roots_from cat r (n - r)) k ≡ fails
    unfolding member
    root_end k h =
        let e : n - r ≡ zero = omega arith in
        rw (e, roots_none cat r)

    -- a level that was read
    module _ {l : ℕ} (read : l ≡ level_at doc r) where
      is_root : l ≡ 0 → cat.level r ≡ 0
      is_root z = level_field doc n r ∙ sym read ∙ z

      no_root : (l ≡ 0 → ⊥) → cat.level r ≡ 0 → ⊥
      no_root z y = z (read ∙ sym (level_field doc n r) ∙ y)

      pub root_skip : (k : ℕ) → r < n → (l ≡ 0 → ⊥)
          → member (roots_from cat r (n - r)) k ≡ member (roots_from cat (r + 1) (n - (r + 1))) k
      root_skip k h z =
          let e : n - r ≡ suc (n - (r + 1)) = omega arith in
          rw (e, add-one r) (ap (λ (xs : List ℕ). member xs k) (roots_skip cat r (n - suc r) (no_root z)))

      root_first : r < n → l ≡ 0 → member (roots_from cat r (n - r)) 0 ≡ gives r
      unfolding member
      root_first h z =
          let e : n - r ≡ suc (n - (r + 1)) = omega arith in
          rw (e, roots_take cat r (n - (r + 1)) (is_root z))

      pub root_here : (k : ℕ) → r < n → l ≡ 0 → k ≡ 0 → member (roots_from cat r (n - r)) k ≡ gives r
      root_here k h z e = ap (member (roots_from cat r (n - r))) e ∙ root_first h z

      root_after : (k : ℕ) → r < n → l ≡ 0
          → member (roots_from cat r (n - r)) (suc k) ≡ member (roots_from cat (r + 1) (n - (r + 1))) k
      unfolding member
      root_after k h z =
          let e : n - r ≡ suc (n - (r + 1)) = omega arith in
          rw (e, add-one r) (ap (λ (xs : List ℕ). member xs (suc k)) (roots_take cat r (n - suc r) (is_root z)))

      pub root_next : (k : ℕ) → r < n → l ≡ 0 → (k ≡ 0 → ⊥)
          → member (roots_from cat r (n - r)) k ≡ member (roots_from cat (r + 1) (n - (r + 1))) (k - 1)
      root_next k h z f =
          let e : k ≡ suc (k - 1) = omega arith in
          ap (member (roots_from cat r (n - r))) e ∙ root_after (k - 1) h z

      pub fragment_found : l ≡ 0 → r ≡ fragment cat r
      fragment_found z = sym (fragment_here cat r (is_root z))

      pub fragment_back : 0 < r → (l ≡ 0 → ⊥) → fragment cat (r - 1) ≡ fragment cat r
      fragment_back h z =
          let e : suc (r - 1) ≡ r = omega arith in
          sym (fragment_before cat (r - 1) (λ y. no_root z (ap cat.level (sym e) ∙ y))) ∙ ap (fragment cat) e

    pub fragment_first : r ≤ 0 → r ≡ fragment cat r
    fragment_first h = omega (arith, fragment_low cat r)

  pub root_start : (k : ℕ) → member (roots_from cat 0 (n - 0)) k ≡ member (roots cat) k
  root_start k =
      let e : n - 0 ≡ cat.rows = omega (arith, rows_field doc n) in
      ap (λ (m : ℕ). member (roots_from cat 0 m) k) e ∙ ap (λ (xs : List ℕ). member xs k) (sym (roots_from_lem cat))
