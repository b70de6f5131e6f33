-- The readers of chains: paths, products, sums, comparisons and lists.
--     item_operator .. factor_operator     the operators of each chain
--     turned            a chain of any tightness
--     stopped           .. where nothing is left to read it with
--     path_judged ..    the readers of each level; pre: what is read of it already
use Prim.Native.Nat.{ℕ, suc}
use mathlib.Core.Path.{◌≡◌, refl, ap, ◌∙◌, subst}
use mathlib.Core.List.{List, [], ◌∷◌, ◌++◌, append_assoc, append-nil}
use mathlib.Core.Bool.{Bool, true, false}
use lib.Dec.{eqb}
use Rattle.laws.proofs.Booleans.{by_cases, clash}
use Rattle.grammar.specs.Words.{Kind, symbol, eq, lt, plus, minus, times, idiv}
use Rattle.grammar.specs.Records.{record_qx}
use Rattle.grammar.specs.Grammar.{Level, expr, single, comparison, additive, multiplicative, path, words, records}
use Rattle.grammar.specs.Grammar.{comma, a_comparison, an_additive, compared, a_product, added, a_path, multiplied}
use Rattle.parsing.specs.declared.Ends.{Ends}
use Rattle.parsing.specs.declared.Next.{Next}
use Rattle.parsing.specs.declared.Next.TheVariants.{Slash, Star, Idiv, Plus, Minus, Eq, Lt, Comma, Close, Return}
use Rattle.parsing.specs.declared.Next.TheVariants.{Else, End}
use Rattle.parsing.specs.Reader.{Res, stuck, Reader, then, either, Readers, Operand, Went, went, turn, tightness}
use Rattle.parsing.specs.Reader.{operation, kind_of, test_kind, read_next, read_step, more_steps, read_path}
use Rattle.parsing.specs.Reader.{more_factors, read_product, more_terms, read_sum, more_sides, read_sides}
use Rattle.parsing.proofs.SoundJudged.{Judged, mapped, inhabited, given, then_judged}
use Rattle.parsing.proofs.SoundWords.{entry_judged}
use Rattle.parsing.proofs.SoundSteps.{step_judged}
use Rattle.parsing.proofs.SoundNext.{finished_none, next_judged, loosen, uncompared, allowed_before}
use Rattle.parsing.proofs.SoundParts.{Primed, Arrived, Operator, arrived, extended, lifted, entered_primed}
use Rattle.parsing.proofs.SoundParts.{walked}
use Rattle.parsing.proofs.SoundPrimary.{Right, primary_judged, false_judged}

pub item_operator : {d : ℕ} (n : Next) → eqb (tightness n) 0 ≡ true → Operator expr single expr d n
unfolding words records
item_operator Slash h = clash h refl
item_operator Star h = clash h refl
item_operator Idiv h = clash h refl
item_operator Plus h = clash h refl
item_operator Minus h = clash h refl
item_operator Eq h = clash h refl
item_operator Lt h = clash h refl
item_operator Comma h =
    record { make = comma; spells = λ p q. refl; means = λ p q. refl; opens = λ more x f. f }
item_operator Close h = clash h refl
item_operator Return h = clash h refl
item_operator Else h = clash h refl
item_operator End h = clash h refl

side_operator : {d : ℕ} (n : Next) → eqb (tightness n) 1 ≡ true → Operator additive additive comparison d n
unfolding words records
side_operator Slash h = clash h refl
side_operator Star h = clash h refl
side_operator Idiv h = clash h refl
side_operator Plus h = clash h refl
side_operator Minus h = clash h refl
side_operator Eq h =
    record { make = compared eq; spells = λ p q. refl; means = λ p q. refl; opens = λ more x f. f }
side_operator Lt h =
    record { make = compared lt; spells = λ p q. refl; means = λ p q. refl; opens = λ more x f. f }
side_operator Comma h = clash h refl
side_operator Close h = clash h refl
side_operator Return h = clash h refl
side_operator Else h = clash h refl
side_operator End h = clash h refl

pub term_operator : {d : ℕ} (n : Next) → eqb (tightness n) 2 ≡ true → Operator additive multiplicative additive d n
unfolding words records
term_operator Slash h = clash h refl
term_operator Star h = clash h refl
term_operator Idiv h = clash h refl
term_operator Plus h =
    record { make = added plus; spells = λ p q. refl; means = λ p q. refl; opens = λ more x f. f }
term_operator Minus h =
    record { make = added minus; spells = λ p q. refl; means = λ p q. refl; opens = λ more x f. f }
term_operator Eq h = clash h refl
term_operator Lt h = clash h refl
term_operator Comma h = clash h refl
term_operator Close h = clash h refl
term_operator Return h = clash h refl
term_operator Else h = clash h refl
term_operator End h = clash h refl

pub factor_operator : {d : ℕ} (n : Next) → eqb (tightness n) 3 ≡ true → Operator multiplicative path multiplicative d n
unfolding words records
factor_operator Slash h = clash h refl
factor_operator Star h =
    record { make = multiplied times; spells = λ p q. refl; means = λ p q. refl; opens = λ more x f. f }
factor_operator Idiv h =
    record { make = multiplied idiv; spells = λ p q. refl; means = λ p q. refl; opens = λ more x f. f }
factor_operator Plus h = clash h refl
factor_operator Minus h = clash h refl
factor_operator Eq h = clash h refl
factor_operator Lt h = clash h refl
factor_operator Comma h = clash h refl
factor_operator Close h = clash h refl
factor_operator Return h = clash h refl
factor_operator Else h = clash h refl
factor_operator End h = clash h refl

pub only : (n : Next) → eqb (tightness n) 4 ≡ true → n ≡ Slash
only Slash h = refl
only Star h = clash h refl
only Idiv h = clash h refl
only Plus h = clash h refl
only Minus h = clash h refl
only Eq h = clash h refl
only Lt h = clash h refl
only Comma h = clash h refl
only Close h = clash h refl
only Return h = clash h refl
only Else h = clash h refl
only End h = clash h refl

-- Chains in general

module _ {l m l' : Level} {d i : ℕ} {e : Ends} {c : Bool} {k : Kind} {s xs : List ℕ} {n : Next} where
  -- n goes on the chain: the side behind it, and again; or it does not
  pub turned : {c' : Bool} {u : List ℕ} {side : Kind → Reader Went} (again : List ℕ → Next → Reader Went)
      → Arrived l d (suc i) e c k s u (record { made = xs; next = n })
      → ((k' : Kind) (t : List ℕ) → Judged (Arrived m d (suc i) e c' k') t (side k' t))
      → ((s' v : List ℕ) (w : Went) → eqb (tightness n) i ≡ true → Arrived m d (suc i) e c' (kind_of n) s' v w
      → Judged (λ s'' x w'. Arrived l' d i e c k (s ++ s' ++ s'') x w') v
      (again (operation n ++ (xs ++ w.made)) w.next v))
      → (eqb (tightness n) i ≡ false → Arrived l' d i e c k s u (record { made = xs; next = n }))
      → Judged (λ s' v w. Arrived l' d i e c k (s ++ s') v w) u (turn i side again xs n u)
  turned {c'} {u} {side} again a sides more stay = go (eqb (tightness n) i) refl
    where
      go : (b : Bool) → eqb (tightness n) i ≡ b
          → Judged (λ s' v w. Arrived l' d i e c k (s ++ s') v w) u
          (either b (λ t. then (side (kind_of n) t) (λ w. again (operation n ++ (xs ++ w.made)) w.next))
          (went xs n) u)
      go true h =
          then_judged (sides (kind_of n) u)
          (λ w s' v b.
          mapped (λ s'' x w' f. subst (λ z. Arrived l' d i e c k z x w') (append_assoc s s' s'') f)
          (more s' v w h b))
      go false h = given (record { made = xs; next = n }) (rw (append-nil s) (stay h))

  -- where nothing is left to read with, `1` and the end are behind an operator
  pub stopped : {u x : List ℕ} {w : Went} → ((b : Next) → eqb (tightness b) i ≡ true → Operator l m l' d b)
      → Arrived l d (suc i) e c k s u (record { made = xs; next = n }) → Arrived m d i e c (kind_of n) x [] w
      → (eqb (tightness n) i ≡ false → Arrived l' d i e c k s [] (record { made = xs; next = n }))
      → Judged (λ s' v w. Arrived l' d i e c k (s ++ s') v w) u (stuck u)
  stopped {u} {x} {w} operator a b stay =
      by_cases (eqb (tightness n) i)
      (λ h.
      inhabited x (record { made = operation n ++ (xs ++ w.made); next = w.next })
      (extended (operator n h) a b b.allowed b.loose))
      (λ h. inhabited [] (record { made = xs; next = n }) (rw (append-nil s) (stay h)))

-- the first part of a chain, then the chain
pub begun : {l l' : Level} {d i j : ℕ} {e : Ends} {c c' : Bool} {k : Kind} {t : List ℕ} {r : Res Went}
    (pre : List ℕ) (more : List ℕ → Next → Reader Went) → Judged (λ s u w. Arrived l d i e c k (pre ++ s) u w) t r
    → ((s u : List ℕ) (w : Went) → Arrived l d i e c k s u w
    → Judged (λ s' v w'. Arrived l' d j e c' k (s ++ s') v w') u (more w.made w.next u))
    → Judged (λ s u w. Arrived l' d j e c' k (pre ++ s) u w) t (then r (λ w. more w.made w.next))
begun {l} {l'} {d} {i} {j} {e} {c} {c'} {k} pre more first chain =
    then_judged first
    (λ w s u a.
    mapped (λ s' v w' f. subst (λ z. Arrived l' d j e c' k z v w') (append_assoc pre s s') f)
    (chain (pre ++ s) u w a))

-- the same, with nothing left of the text
pub rested : {l : Level} {d i : ℕ} {e : Ends} {c : Bool} {k : Kind} {s u : List ℕ} {w : Went}
    → Arrived l d i e c k s u w → Arrived l d i e c k s [] w
rested {w = w} a =
    record {
      part = a.part;
      meant = a.meant;
      behind = a.behind;
      allowed = a.allowed;
      loose = a.loose;
      finished = finished_none w.next;
      filled = a.filled;
    }

-- Each chain

module _ (rd : Readers) (right : Right rd) where
  pub steps_judged : {d : ℕ} {e : Ends} {c : Bool} {k : Kind} {s u xs : List ℕ} {n : Next}
      → Arrived path d 5 e c k s u (record { made = xs; next = n })
      → Judged (λ s' v w. Arrived path d 4 e c k (s ++ s') v w) u (more_steps rd e c xs n u)
  steps_judged {d} {e} {c} {k} {s} {u} {xs} {n} a = go (eqb (tightness n) 4) refl
    where
      go : (b : Bool) → eqb (tightness n) 4 ≡ b
          → Judged (λ s' v w. Arrived path d 4 e c k (s ++ s') v w) u
          (either b
          (λ t.
          then (read_step t)
          (λ st u.
          then (read_next e c (test_kind st.test) u)
          (λ m. rd.steps e c (record_qx st.axis st.test ++ xs) m)))
          (went xs n) u)
      go true h =
          then_judged (step_judged u)
          (λ st s₁ u₁ f.
          then_judged (next_judged e c (test_kind st.test) u₁)
          (λ m s₂ u₂ g.
          mapped
          (λ s₃ v w b.
          subst (λ z. Arrived path d 4 e c k z v w)
          (append_assoc s (s₁ ++ s₂) s₃ ∙ ap (λ z. s ++ z) (append_assoc s₁ s₂ s₃)) b)
          (right.of_steps
          (walked (subst (λ z. Arrived path d 5 e c k s u (record { made = xs; next = z })) (only n h) a) f g))))
      go false h =
          given (record { made = xs; next = n })
          (rw (append-nil s) (lifted a a.part refl refl (loosen 4 n h a.loose)))

  -- what a path begins with: pre is read of it already
  path_of : (d : ℕ) (e : Ends) (c : Bool) (k : Kind) (pre : List ℕ) {t : List ℕ} {r : Res Operand}
      → Judged (λ s u o. Primed d k (pre ++ s) u o) t r
      → Judged (λ s u w. Arrived path d 4 e c k (pre ++ s) u w) t
      (then r (λ o u. then (read_next e c o.kind u) (λ n. more_steps rd e c o.made n)))
  path_of d e c k pre first =
      then_judged first
      (λ o s u p.
      then_judged (next_judged e c o.kind u)
      (λ n s' v f.
      mapped
      (λ s'' x w a.
      subst (λ z. Arrived path d 4 e c k z x w)
      (append_assoc (pre ++ s) s' s'' ∙ append_assoc pre s (s' ++ s'')) a)
      (steps_judged (arrived p f))))

  pub path_judged : (d : ℕ) (e : Ends) (c : Bool) (k : Kind) (t : List ℕ)
      → Judged (Arrived path d 4 e c k) t (read_path rd d e c false k t)
  path_judged d e c k t =
      path_of d e c k []
      (mapped (λ s u o h. entered_primed h) (entry_judged k (primary_judged rd right d) t))

  pub false_path : (d : ℕ) (e : Ends) (c : Bool) (k : Kind) (t : List ℕ)
      → Judged (λ s u w. Arrived path d 4 e c symbol (102 ∷ s) u w) t (read_path rd d e c true k t)
  false_path d e c k t = path_of d e c symbol (102 ∷ []) (false_judged d t)

  pub factors_judged : {d : ℕ} {e : Ends} {c : Bool} {k : Kind} {s u xs : List ℕ} {n : Next}
      → Arrived multiplicative d 4 e c k s u (record { made = xs; next = n })
      → Judged (λ s' v w. Arrived multiplicative d 3 e c k (s ++ s') v w) u (more_factors rd d e c xs n u)
  factors_judged {d} {e} {c} {n = n} a =
      turned (rd.factors d e c) a (path_judged d e c)
      (λ s' v w h b. right.of_factors (extended (factor_operator n h) a b b.allowed b.loose))
      (λ h. lifted a a.part refl refl (loosen 3 n h a.loose))

  product_of : {d : ℕ} {e : Ends} {c : Bool} {k : Kind} (begins : Bool) (k' : Kind) (pre : List ℕ) {t : List ℕ}
      → Judged (λ s u w. Arrived path d 4 e c k (pre ++ s) u w) t (read_path rd d e c begins k' t)
      → Judged (λ s u w. Arrived multiplicative d 3 e c k (pre ++ s) u w) t (read_product rd d e c begins k' t)
  unfolding words records
  product_of {d} {e} {c} begins k' pre first =
      begun pre (more_factors rd d e c) first
      (λ s u w a. factors_judged (lifted a (a_path a.part) refl refl a.loose))

  pub product_judged : (d : ℕ) (e : Ends) (c : Bool) (k : Kind) (t : List ℕ)
      → Judged (Arrived multiplicative d 3 e c k) t (read_product rd d e c false k t)
  product_judged d e c k t = product_of false k [] (path_judged d e c k t)

  pub terms_judged : {d : ℕ} {e : Ends} {c : Bool} {k : Kind} {s u xs : List ℕ} {n : Next}
      → Arrived additive d 3 e c k s u (record { made = xs; next = n })
      → Judged (λ s' v w. Arrived additive d 2 e c k (s ++ s') v w) u (more_terms rd d e c xs n u)
  terms_judged {d} {e} {c} {n = n} a =
      turned (rd.terms d e c) a (product_judged d e c)
      (λ s' v w h b. right.of_terms (extended (term_operator n h) a b b.allowed b.loose))
      (λ h. lifted a a.part refl refl (loosen 2 n h a.loose))

  sum_of : {d : ℕ} {e : Ends} {c : Bool} {k : Kind} (begins : Bool) (k' : Kind) (pre : List ℕ) {t : List ℕ}
      → Judged (λ s u w. Arrived path d 4 e c k (pre ++ s) u w) t (read_path rd d e c begins k' t)
      → Judged (λ s u w. Arrived additive d 2 e c k (pre ++ s) u w) t (read_sum rd d e c begins k' t)
  unfolding words records
  sum_of {d} {e} {c} begins k' pre first =
      begun pre (more_terms rd d e c) (product_of begins k' pre first)
      (λ s u w a. terms_judged (lifted a (a_product a.part) refl refl a.loose))

  pub sum_judged : (d : ℕ) (e : Ends) (c : Bool) (k : Kind) (t : List ℕ)
      → Judged (Arrived additive d 2 e c k) t (read_sum rd d e c false k t)
  sum_judged d e c k t = sum_of false k [] (path_judged d e c k t)

  pub sides_of : {d : ℕ} {e : Ends} {k : Kind} (begins : Bool) (k' : Kind) (pre : List ℕ) {t : List ℕ}
      → Judged (λ s u w. Arrived path d 4 e false k (pre ++ s) u w) t (read_path rd d e false begins k' t)
      → Judged (λ s u w. Arrived single d 1 e false k (pre ++ s) u w) t (read_sides rd d e begins k' t)
  unfolding words records
  sides_of {d} {e} {k} begins k' pre first =
      mapped (λ s u w a. lifted a (a_comparison a.part) refl refl a.loose)
      (begun pre (more_sides rd d e) (sum_of begins k' pre first) (λ s u w a. sides a))
    where
      sides : {s u : List ℕ} {w : Went} → Arrived additive d 2 e false k s u w
          → Judged (λ s' v w'. Arrived comparison d 1 e false k (s ++ s') v w') u
          (more_sides rd d e w.made w.next u)
      sides {s} {u} {w} a =
          turned went a (sum_judged d e true)
          (λ s' v w' h b.
          given (record { made = operation w.next ++ (w.made ++ w'.made); next = w'.next })
          (rw (append-nil (s ++ s'))
          (extended (side_operator w.next h) a b (allowed_before b.allowed)
          (uncompared b.allowed b.loose))))
          (λ h. lifted a (an_additive a.part) refl refl (loosen 1 w.next h a.loose))
