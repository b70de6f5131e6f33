-- From the statements of parts to that of the part they make: steps, products, sums, comparisons, lists.
--     regroup                           words behind words, with what follows behind both
--     primary_steps, step_steps         a path
--     steps_factors, times_factors      a product
--     factors_terms, plus_terms         a sum
--     terms_sides, compare_sides        a comparison
--     single_items, comma_items         a list
use Prim.Native.Nat.{ℕ, ◌≤◌, ◌<◌}
use mathlib.Core.Path.{◌≡◌, refl, subst}
use mathlib.Core.List.{List, ◌∷◌, ◌++◌, append_assoc}
use mathlib.Core.Bool.{Bool, true, false}
use native.Mathlib.Omega.{arith}
use lib.Dec.{eqb}
use lib.ListN.{length}
use Rattle.codes.specs.declared.Axis.{Axis}
use Rattle.grammar.specs.Words.{Kind, Word, comma_sign, slash_sign, axis_sign, axis_word, NodeTest, node_test_words, tested}
use Rattle.grammar.specs.Words.{Comparer, eq, lt, Adder, plus, minus, Multiplier, times, idiv, comparer_word, compares}
use Rattle.grammar.specs.Words.{adder_word, adds, multiplier_word, multiplies}
use Rattle.grammar.specs.Records.{record_qs, record_qo, record_qx}
use Rattle.grammar.specs.Spelled.{Spells}
use Rattle.parsing.specs.declared.Ends.{Ends}
use Rattle.parsing.specs.declared.Next.{Next}
use Rattle.parsing.specs.declared.Next.TheVariants.{Slash, Star, Idiv, Plus, Minus, Eq, Lt, Comma}
use Rattle.parsing.specs.Reader.{Res, Reader, then, tightness, operation, kind_of, test_kind, Went, went}
use Rattle.parsing.specs.Reader.{more_steps, read_path, more_factors, read_product, more_terms, read_sum, read_single}
use Rattle.parsing.specs.Reader.{more_items, readers, read_expr}
use Rattle.parsing.proofs.CompleteWords.{Reached, reached, reached_then}
use Rattle.parsing.proofs.CompleteNext.{follow, behind, allows, allows_freely, sound_follow, read_next_lem}
use Rattle.parsing.proofs.CompleteLeaves.{read_step_lem}
use Rattle.parsing.proofs.CompleteLevels.{Open, open_from, open_then, part_of, Loose, Primary, Steps, Factors}
use Rattle.parsing.proofs.CompleteLevels.{Terms, Sides, Single, Items, steps_closed, closed, turn_on}
use Rattle.parsing.proofs.CompleteLevels.{steps_inside, either_false, loose_comma}

-- words behind words, with what follows behind both
pub regroup : (k : Kind) (ws us vs : List Word) (t : List ℕ) → Spells k ((ws ++ us) ++ vs) t
    → Spells k (ws ++ (us ++ vs)) t
regroup k ws us vs t sp = subst (λ x. Spells k x t) (append_assoc ws us vs) sp

-- where a chain stands at once
open_at : (loop : ℕ → Reader Went) (k : Kind) (vs : List Word) (m l : ℕ) (t : List ℕ) → length t ≤ m → length t < l
    → Spells k vs t → Open (loop m t) loop k vs l
open_at loop k vs m l t h s sp =
    record { left = m; at = t; reads = refl; enough = h; spells = sp; shorter = s }

-- Path

step_on : (xs : List ℕ) (x : Axis) (y : NodeTest) (e : Ends) (c : Bool) (n : Next) (vs : List Word) (l m : ℕ)
    (t : List ℕ)
    → length t ≤ l → length t < m → allows e c n ≡ true
    → Spells (kind_of Slash) (axis_word x ∷ axis_sign ∷ (node_test_words y ++ follow n vs)) t
    → Open (more_steps (readers l) e c xs Slash t)
    (λ l. more_steps (readers l) e c (record_qx x (tested y) ++ xs) n) (kind_of n) (behind n vs) m
step_on xs x y e c n vs l m t h s a sp =
    open_then _
    (read_step_lem x y (follow n vs) t (sound_follow n vs) sp)
    (λ u su lu.
    open_then _
    (read_next_lem e c (test_kind (tested y)) vs u n a su)
    (λ v sv lv.
    steps_inside l e c (kind_of n) (behind n vs) m (record_qx x (tested y) ++ xs) n v (omega arith)
    (omega arith)
    sv))

module _ {ws : List Word} {xs : List ℕ} {d : ℕ} where
  pub primary_steps : Primary ws xs d → Steps ws xs d
  primary_steps p = record {
    reads =
        λ m k e c n vs t l a sp.
        open_then _
        (p.reads m k (follow n vs) t l (sound_follow n vs) sp)
        (λ u su lu.
        open_then _ (read_next_lem e c p.ends vs u n a su)
        (λ v sv lv.
        open_at (λ l. more_steps (readers l) e c xs n) (kind_of n) (behind n vs) m (length t) v (omega arith)
        (omega arith)
        sv));
  }

  pub step_steps : (x : Axis) (y : NodeTest) → Steps ws xs d
      → Steps (ws ++ (slash_sign ∷ axis_word x ∷ axis_sign ∷ node_test_words y)) (record_qx x (tested y) ++ xs) d
  step_steps x y p = record {
    reads =
        λ m k e c n vs t l a sp.
        let o =
        p.reads m k e c Slash (axis_word x ∷ axis_sign ∷ (node_test_words y ++ follow n vs)) t l refl
        (regroup k ws (slash_sign ∷ axis_word x ∷ axis_sign ∷ node_test_words y) (follow n vs) t sp)
        in
        open_from o.reads
        (step_on xs x y e c n vs o.left (length t) o.at o.enough o.shorter a o.spells);
  }

  -- Multiplicative

  steps_reached : Steps ws xs d → (m : ℕ) (k : Kind) (e : Ends) (c : Bool) (n : Next) (vs : List Word) (t : List ℕ)
      → length t ≤ m → allows e c n ≡ true → eqb (tightness n) 4 ≡ false → Spells k (ws ++ follow n vs) t
      → Reached (read_path (readers m) d e c false k t) (part_of xs n) (kind_of n) (behind n vs) (length t)
  steps_reached p m k e c n vs t l a f sp = steps_closed e c xs n f (p.reads m k e c n vs t l a sp)

  pub steps_factors : Steps ws xs d → Factors ws xs d
  steps_factors p = record {
    reads =
        λ m k e c n vs t l a f sp.
        open_then _ (steps_reached p m k e c n vs t l a f sp)
        (λ u su lu.
        open_at (λ l. more_factors (readers l) d e c xs n) (kind_of n) (behind n vs) m (length t) u (omega arith)
        (omega arith)
        su);
  }

  -- Additive

  factors_reached : Factors ws xs d → (m : ℕ) (k : Kind) (e : Ends) (c : Bool) (n : Next) (vs : List Word)
      (t : List ℕ) → length t ≤ m → allows e c n ≡ true → eqb (tightness n) 4 ≡ false → eqb (tightness n) 3 ≡ false
      → Spells k (ws ++ follow n vs) t
      → Reached (read_product (readers m) d e c false k t) (part_of xs n) (kind_of n) (behind n vs) (length t)
  factors_reached p m k e c n vs t l a f g sp =
      closed 3 (λ l. read_path (readers l) d e c false) (λ l. (readers l).factors d e c) xs n g
      (p.reads m k e c n vs t l a f sp)

  pub factors_terms : Factors ws xs d → Terms ws xs d
  factors_terms p = record {
    reads =
        λ m k e c n vs t l a f g sp.
        open_then _
        (factors_reached p m k e c n vs t l a f g sp)
        (λ u su lu.
        open_at (λ l. more_terms (readers l) d e c xs n) (kind_of n) (behind n vs) m (length t) u (omega arith)
        (omega arith)
        su);
  }

  -- Comparison

  terms_reached : Terms ws xs d → (m : ℕ) (k : Kind) (e : Ends) (c : Bool) (n : Next) (vs : List Word) (t : List ℕ)
      → length t ≤ m → allows e c n ≡ true → eqb (tightness n) 4 ≡ false → eqb (tightness n) 3 ≡ false
      → eqb (tightness n) 2 ≡ false → Spells k (ws ++ follow n vs) t
      → Reached (read_sum (readers m) d e c false k t) (part_of xs n) (kind_of n) (behind n vs) (length t)
  terms_reached p m k e c n vs t l a f g h sp =
      closed 2 (λ l. read_product (readers l) d e c false) (λ l. (readers l).terms d e c) xs n h
      (p.reads m k e c n vs t l a f g sp)

  pub terms_sides : Terms ws xs d → Sides ws xs d
  terms_sides p = record {
    reads =
        λ m k e n vs t l a s sp.
        reached_then _
        (terms_reached p m k e false n vs t l (allows_freely e n a) s.unstepped s.unmultiplied s.unadded sp)
        (λ u su lu.
        record {
          at = u;
          reads = either_false (eqb (tightness n) 1) _ (went xs n) u s.uncompared;
          spells = su;
          shorter = lu;
        });
  }

  -- Expr

  pub single_items : Single ws xs d → Items ws xs d
  single_items p = record {
    reads =
        λ m k e n vs t l b a s sp.
        open_then _ (p.reads m k e n vs t l a s sp)
        (λ u su lu.
        open_at (λ l. more_items (readers l) d e xs n) (kind_of n) (behind n vs) m (length t) u (omega arith)
        (omega arith)
        su);
  }

-- One side more

module _ (xs : List ℕ) {us : List Word} {ys : List ℕ} {d : ℕ} where
  -- behind operator q of a product
  times_on : (q : Next) → eqb (tightness q) 3 ≡ true → Steps us ys d → (e : Ends) (c : Bool) (n : Next)
      (vs : List Word) (r : Res Went) (m : ℕ) → allows e c n ≡ true → eqb (tightness n) 4 ≡ false
      → Open r (λ l. more_factors (readers l) d e c xs q) (kind_of q) (us ++ follow n vs) m
      → Open r (λ l. more_factors (readers l) d e c (operation q ++ (xs ++ ys)) n) (kind_of n) (behind n vs) m
  times_on q h p e c n vs r m a f o =
      turn_on 3 (λ l. read_path (readers l) d e c false) (λ l. (readers l).factors d e c) xs ys q n (λ l xs n t. refl) h
      (λ l t b sp. steps_reached p l (kind_of q) e c n vs t b a f sp)
      o

  -- .. of a sum
  plus_on : (q : Next) → eqb (tightness q) 2 ≡ true → Factors us ys d → (e : Ends) (c : Bool) (n : Next)
      (vs : List Word) (r : Res Went) (m : ℕ) → allows e c n ≡ true → eqb (tightness n) 4 ≡ false
      → eqb (tightness n) 3 ≡ false
      → Open r (λ l. more_terms (readers l) d e c xs q) (kind_of q) (us ++ follow n vs) m
      → Open r (λ l. more_terms (readers l) d e c (operation q ++ (xs ++ ys)) n) (kind_of n) (behind n vs) m
  plus_on q h p e c n vs r m a f g o =
      turn_on 2 (λ l. read_product (readers l) d e c false) (λ l. (readers l).terms d e c) xs ys q n (λ l xs n t. refl) h
      (λ l t b sp. factors_reached p l (kind_of q) e c n vs t b a f g sp)
      o

  -- .. of a comparison
  compare_on : (q : Next) → Terms us ys d → (e : Ends) (n : Next) (vs : List Word) (l m : ℕ) (t : List ℕ)
      → length t ≤ l → length t < m → allows e true n ≡ true → Loose n
      → Spells (kind_of q) (us ++ follow n vs) t
      → Reached
      (then (read_sum (readers l) d e true false (kind_of q) t)
      (λ w. went (operation q ++ (xs ++ w.made)) w.next))
      (part_of (operation q ++ (xs ++ ys)) n)
      (kind_of n)
      (behind n vs)
      m
  compare_on q p e n vs l m t h b a s sp =
      reached_then _
      (terms_reached p l (kind_of q) e true n vs t h a s.unstepped s.unmultiplied s.unadded sp)
      (λ u su lu. reached su (omega arith))

  -- .. of a list
  comma_on : Single us ys d → (e : Ends) (n : Next) (vs : List Word) (r : Res Went) (m : ℕ)
      → allows e true n ≡ true → Loose n
      → Open r (λ l. more_items (readers l) d e xs Comma) (kind_of Comma) (us ++ follow n vs) m
      → Open r (λ l. more_items (readers l) d e (record_qs ++ (xs ++ ys)) n) (kind_of n) (behind n vs) m
  comma_on p e n vs r m a s o =
      turn_on 0 (λ l. read_single (readers l) d e) (λ l. (readers l).items d e) xs ys Comma n (λ l xs n t. refl) refl
      (λ l t b sp. p.reads l (kind_of Comma) e n vs t b a s sp)
      o

module _ {ws us : List Word} {xs ys : List ℕ} {d : ℕ} where
  pub times_factors : (o : Multiplier) → Factors ws xs d → Steps us ys d
      → Factors (ws ++ (multiplier_word o ∷ us)) (record_qo (multiplies o) ++ (xs ++ ys)) d
  times_factors times p q = record {
    reads =
        λ m k e c n vs t l a f sp.
        times_on xs Star refl q e c n vs (read_product (readers m) d e c false k t) (length t) a f
        (p.reads m k e c Star (us ++ follow n vs) t l refl refl (regroup k ws (follow Star us) (follow n vs) t sp));
  }
  times_factors idiv p q = record {
    reads =
        λ m k e c n vs t l a f sp.
        times_on xs Idiv refl q e c n vs (read_product (readers m) d e c false k t) (length t) a f
        (p.reads m k e c Idiv (us ++ follow n vs) t l refl refl (regroup k ws (follow Idiv us) (follow n vs) t sp));
  }

  pub plus_terms : (o : Adder) → Terms ws xs d → Factors us ys d
      → Terms (ws ++ (adder_word o ∷ us)) (record_qo (adds o) ++ (xs ++ ys)) d
  plus_terms plus p q = record {
    reads =
        λ m k e c n vs t l a f g sp.
        plus_on xs Plus refl q e c n vs (read_sum (readers m) d e c false k t) (length t) a f g
        (p.reads m k e c Plus (us ++ follow n vs) t l refl refl refl
        (regroup k ws (follow Plus us) (follow n vs) t sp));
  }
  plus_terms minus p q = record {
    reads =
        λ m k e c n vs t l a f g sp.
        plus_on xs Minus refl q e c n vs (read_sum (readers m) d e c false k t) (length t) a f g
        (p.reads m k e c Minus (us ++ follow n vs) t l refl refl refl
        (regroup k ws (follow Minus us) (follow n vs) t sp));
  }

  pub compare_sides : (o : Comparer) → Terms ws xs d → Terms us ys d
      → Sides (ws ++ (comparer_word o ∷ us)) (record_qo (compares o) ++ (xs ++ ys)) d
  compare_sides eq p q = record {
    reads =
        λ m k e n vs t l a s sp.
        reached_then _
        (terms_reached p m k e false Eq (us ++ follow n vs) t l refl refl refl refl
        (regroup k ws (follow Eq us) (follow n vs) t sp))
        (λ u su lu. compare_on xs Eq q e n vs m (length t) u (omega arith) lu a s su);
  }
  compare_sides lt p q = record {
    reads =
        λ m k e n vs t l a s sp.
        reached_then _
        (terms_reached p m k e false Lt (us ++ follow n vs) t l refl refl refl refl
        (regroup k ws (follow Lt us) (follow n vs) t sp))
        (λ u su lu. compare_on xs Lt q e n vs m (length t) u (omega arith) lu a s su);
  }

  -- .. of a list
  pub comma_items : Items ws xs d → Single us ys d → Items (ws ++ (comma_sign ∷ us)) (record_qs ++ (xs ++ ys)) d
  comma_items p q = record {
    reads =
        λ m k e n vs t l b a s sp.
        comma_on xs q e n vs (read_expr (readers m) d e k t) (length t) a s
        (p.reads m k e Comma (us ++ follow n vs) t l b b
        loose_comma
        (regroup k ws (follow Comma us) (follow n vs) t sp));
  }
