-- The readers of Singles and of lists, and with them all readers.
--     single_judged, items_judged, expr_judged     the readers of each level
--     right_readers                                all readers are right, however many bytes they are for
use Prim.Native.Nat.{ℕ, zero, suc}
use mathlib.Core.Path.{◌≡◌, refl, sym, ap, ◌∙◌, subst}
use mathlib.Core.List.{List, [], ◌∷◌, ◌++◌, append_assoc, append-nil}
use mathlib.Core.Bool.{Bool, true, false}
use lib.Dec.{eqb}
use Rattle.laws.proofs.Booleans.{by_cases, clash}
use Rattle.grammar.specs.Words.{Kind, symbol, word, name, Word, Var, for_word, let_word, if_word, in_word, becomes_sign}
use Rattle.grammar.specs.Words.{dollar_sign, variable_word, open_sign, then_word, return_word, else_word}
use Rattle.grammar.specs.Records.{record_qf, record_qt, record_qi, record_ql, record_qx}
use Rattle.grammar.specs.Grammar.{expr, single, multiplicative, path, Part, words, records, a_single, for_in, let_be}
use Rattle.grammar.specs.Grammar.{if_then, a_comparison, an_additive, a_product, a_path}
use Rattle.parsing.specs.declared.Ends.{Ends}
use Rattle.parsing.specs.declared.Ends.TheVariants.{WithList, WithReturn, WithElse}
use Rattle.parsing.specs.declared.Next.{Next}
use Rattle.parsing.specs.declared.Next.TheVariants.{Return, Else}
use Rattle.parsing.specs.Reader.{stuck, Readers, readers, Went, tightness, kind_of, test_kind, read_binding}
use Rattle.parsing.specs.Reader.{read_choice, read_single, more_items, read_expr}
use Rattle.parsing.proofs.SoundJudged.{Judged, complete, mapped, inhabited, given, byte_judged, then_judged}
use Rattle.parsing.proofs.SoundWords.{Spelt, spelt_append, spelt_bytes, entry_judged, letters_then, smalls}
use Rattle.parsing.proofs.SoundWords.{word_then}
use Rattle.parsing.proofs.SoundSteps.{step_judged, variable_judged}
use Rattle.parsing.proofs.SoundNext.{next_bytes, loosen, end_of, loose_end, final}
use Rattle.parsing.proofs.SoundParts.{Arrived, extended, led, lifted, entered_part, ended_spelt, walked}
use Rattle.parsing.proofs.SoundParts.{following_end, fresh}
use Rattle.parsing.proofs.SoundPrimary.{Right, list_ends}
use Rattle.parsing.proofs.SoundChains.{item_operator, term_operator, factor_operator, only, turned, stopped}
use Rattle.parsing.proofs.SoundChains.{begun, rested, path_judged, false_path, sides_of, steps_judged}
use Rattle.parsing.proofs.SoundChains.{factors_judged, terms_judged}

return_ends : {d : ℕ} {k : Kind} {s u : List ℕ} {w : Went} → (a : Arrived single d 1 WithReturn false k s u w)
    → Spelt k (words a.part ++ (return_word ∷ [])) word s
return_ends a = ended_spelt Return (λ more x h. h) a (final (λ h. clash h refl) a.loose a.allowed)

else_ends : {d : ℕ} {k : Kind} {s u : List ℕ} {w : Went} → (a : Arrived single d 1 WithElse false k s u w)
    → Spelt k (words a.part ++ (else_word ∷ [])) word s
else_ends a = ended_spelt Else (λ more x h. h) a (final (λ h. clash h refl) a.loose a.allowed)

regrouped : (pre a b c d e : List ℕ)
    → pre ++ (a ++ (b ++ (c ++ d))) ++ e ≡ pre ++ (a ++ (b ++ (c ++ (d ++ (e ++ [])))))
regrouped pre a b c d e = simp (append_assoc, append-nil)

module _ (rd : Readers) (right : Right rd) where
  -- for and let: word w₀, a variable and word w
  binding_judged : (d : ℕ) (e : Ends) (w₀ w : Word) (r : ℕ → List ℕ)
      (make : Var → Part single d → Part single d → Part single d) → w₀.kind ≡ word → smalls w.bytes ≡ true
      → ((v : Var) (p q : Part single d) → words (make v p q)
      ≡ w₀ ∷ dollar_sign ∷ variable_word v ∷ w ∷ (words p ++ (return_word ∷ words q)))
      → ((v : Var) (p q : Part single d) → records (make v p q) ≡ r v.number ++ (records p ++ records q))
      → (t : List ℕ)
      → Judged (λ s u g. Arrived single d 1 e false symbol (w₀.bytes ++ s) u g) t (read_binding rd d e r w t)
  binding_judged d e w₀ w r make kind small spells means =
      word_then word dollar_sign refl
      (λ s₁ u₁ h₁.
      then_judged (variable_judged u₁)
      (λ v s₂ u₂ h₂.
      word_then name w small
      (λ s₃ u₃ h₃.
      then_judged (right.of_single d WithReturn w.kind u₃)
      (λ f s₄ u₄ a.
      then_judged (right.of_single d e word u₄)
      (λ g s₅ u₅ b.
      given (record { made = r v ++ (f.made ++ g.made); next = g.next })
      (subst
      (λ z.
      Arrived single d 1 e false symbol z u₅
      (record { made = r v ++ (f.made ++ g.made); next = g.next }))
      (regrouped w₀.bytes s₁ s₂ s₃ s₄ s₅)
      (led
      (spelt_append (subst (λ z. Spelt symbol (w₀ ∷ []) z w₀.bytes) kind (spelt_bytes w₀))
      (spelt_append h₁ (spelt_append h₂.spelt (spelt_append h₃ (return_ends a))))) b
      (make h₂.variable a.part b.part)
      (spells h₂.variable a.part b.part
      ∙ ap (λ z. w₀ ∷ dollar_sign ∷ variable_word h₂.variable ∷ w ∷ z)
      (sym (append_assoc (words a.part) (return_word ∷ []) (words b.part))))
      (means h₂.variable a.part b.part
      ∙ rw (h₂.meant, a.meant, b.meant))))))) u₂))

  for_judged : (d : ℕ) (e : Ends) (t : List ℕ)
      → Judged (λ s u g. Arrived single d 1 e false symbol (for_word.bytes ++ s) u g) t
      (read_binding rd d e record_qf in_word t)
  unfolding words records
  for_judged d e = binding_judged d e for_word in_word record_qf for_in refl refl (λ v p q. refl) (λ v p q. refl)

  let_judged : (d : ℕ) (e : Ends) (t : List ℕ)
      → Judged (λ s u g. Arrived single d 1 e false symbol (let_word.bytes ++ s) u g) t
      (read_binding rd d e record_qt becomes_sign t)
  unfolding words records
  let_judged d e = binding_judged d e let_word becomes_sign record_qt let_be refl refl (λ v p q. refl) (λ v p q. refl)

  choice_judged : (d : ℕ) (e : Ends) (t : List ℕ)
      → Judged (λ s u g. Arrived single d 1 e false symbol (if_word.bytes ++ s) u g) t (read_choice rd d e t)
  unfolding words records
  choice_judged d e =
      word_then word open_sign refl
      (λ s₁ u₁ h₁.
      then_judged (right.of_expr d WithList symbol u₁)
      (λ f₀ s₂ u₂ c.
      word_then symbol then_word refl
      (λ s₃ u₃ h₃.
      then_judged (right.of_single d WithElse word u₃)
      (λ f s₄ u₄ a.
      then_judged (right.of_single d e word u₄)
      (λ g s₅ u₅ b.
      given (record { made = record_qi ++ (f₀.made ++ (f.made ++ g.made)); next = g.next })
      (subst
      (λ z.
      Arrived single d 1 e false symbol z u₅
      (record { made = record_qi ++ (f₀.made ++ (f.made ++ g.made)); next = g.next }))
      (regrouped if_word.bytes s₁ s₂ s₃ s₄ s₅)
      (led
      (spelt_append (spelt_bytes if_word)
      (spelt_append h₁ (spelt_append (list_ends c) (spelt_append h₃ (else_ends a))))) b
      (if_then c.part a.part b.part)
      (simp append_assoc)
      (rw (c.meant, a.meant, b.meant))))))) u₂))

  pub single_judged : (d : ℕ) (e : Ends) (k : Kind) (t : List ℕ)
      → Judged (Arrived single d 1 e false k) t (read_single rd d e k t)
  single_judged d e k t =
      mapped (λ s u w h. entered_part h)
      (entry_judged k
      (byte_judged 102 refl
      (byte_judged 111 refl (letters_then (114 ∷ []) refl (for_judged d e))
      (λ u. sides_of rd right true symbol (102 ∷ []) (false_path rd right d e false symbol u)))
      (byte_judged 108 refl (letters_then (101 ∷ 116 ∷ []) refl (let_judged d e))
      (byte_judged 105 refl (letters_then (102 ∷ []) refl (choice_judged d e))
      (λ u. sides_of rd right false symbol [] (path_judged rd right d e false symbol u))))) t)

  pub items_judged : {d : ℕ} {e : Ends} {k : Kind} {s u xs : List ℕ} {n : Next}
      → Arrived expr d 1 e false k s u (record { made = xs; next = n })
      → Judged (λ s' v w. Arrived expr d 0 e false k (s ++ s') v w) u (more_items rd d e xs n u)
  items_judged {d} {e} {n = n} a =
      turned (rd.items d e) a (single_judged d e)
      (λ s' v w h b. right.of_items (extended (item_operator n h) a b b.allowed b.loose))
      (λ h. lifted a a.part refl refl (loosen 0 n h a.loose))

  pub expr_judged : (d : ℕ) (e : Ends) (k : Kind) (t : List ℕ)
      → Judged (Arrived expr d 0 e false k) t (read_expr rd d e k t)
  unfolding words records
  expr_judged d e k t =
      begun [] (more_items rd d e) (single_judged d e k t)
      (λ s u w a. items_judged (lifted a (a_single a.part) refl refl a.loose))

-- All readers

module _ (d i : ℕ) (e : Ends) (c : Bool) (k : Kind) where
  fresh_bytes : List ℕ
  fresh_bytes = 32 ∷ 49 ∷ 32 ∷ next_bytes (end_of e)

  abbrev fresh_went : Went
  fresh_went = record { made = record_ql 1; next = end_of e }

  fresh_product : Arrived multiplicative d i e c k fresh_bytes [] fresh_went
  unfolding words records fresh_bytes
  fresh_product = let a = fresh d i e c k in lifted a (a_path a.part) refl refl a.loose

  fresh_single : Arrived single d i e c k fresh_bytes [] fresh_went
  unfolding words records
  fresh_single =
      let a = fresh_product in
      lifted a (a_comparison (an_additive (a_product a.part))) refl refl a.loose

  fresh_expr : Arrived expr d i e c k fresh_bytes [] fresh_went
  unfolding words records
  fresh_expr = let a = fresh_single in lifted a (a_single a.part) refl refl a.loose

steps_stopped : {d : ℕ} {e : Ends} {c : Bool} {k : Kind} {s u xs : List ℕ} {n : Next}
    → Arrived path d 5 e c k s u (record { made = xs; next = n })
    → Judged (λ s' v w. Arrived path d 4 e c k (s ++ s') v w) u (stuck u)
steps_stopped {d} {e} {c} {k} {s} {u} {xs} {n} a =
    by_cases (eqb (tightness n) 4)
    (λ h.
    let (x, st, f) = complete (step_judged []) in
    let b =
    walked (subst (λ z. Arrived path d 5 e c k s u (record { made = xs; next = z })) (only n h) a) f
    (following_end e c (test_kind st.test))
    in
    inhabited (x ++ (32 ∷ next_bytes (end_of e)))
    (record { made = record_qx st.axis st.test ++ xs; next = end_of e })
    (lifted b b.part refl refl (loose_end e 4)))
    (λ h.
    inhabited [] (record { made = xs; next = n })
    (rw (append-nil s) (rested (lifted a a.part refl refl (loosen 4 n h a.loose)))))

pub right_readers : (left : ℕ) → Right (readers left)
right_readers zero =
    record {
      of_expr = λ d e k t. inhabited (fresh_bytes d 0 e false k) _ (fresh_expr d 0 e false k);
      of_single = λ d e k t. inhabited (fresh_bytes d 1 e false k) _ (fresh_single d 1 e false k);
      of_items = λ {d} {e} {k} {s} {u} {xs} {n} a.
          stopped item_operator a (fresh_single d 0 e false (kind_of n))
          (λ h. rested (lifted a a.part refl refl (loosen 0 n h a.loose)));
      of_terms = λ {d} {e} {c} {k} {s} {u} {xs} {n} a.
          stopped term_operator a (fresh_product d 2 e c (kind_of n))
          (λ h. rested (lifted a a.part refl refl (loosen 2 n h a.loose)));
      of_factors = λ {d} {e} {c} {k} {s} {u} {xs} {n} a.
          stopped factor_operator a (fresh d 3 e c (kind_of n))
          (λ h. rested (lifted a a.part refl refl (loosen 3 n h a.loose)));
      of_steps = steps_stopped;
    }
right_readers (suc left) =
    let right = right_readers left in
    let rd = readers left in
    record {
      of_expr = expr_judged rd right;
      of_single = single_judged rd right;
      of_items = items_judged rd right;
      of_terms = terms_judged rd right;
      of_factors = factors_judged rd right;
      of_steps = steps_judged rd right;
    }
