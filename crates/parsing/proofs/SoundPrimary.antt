-- The reader of primaries.
--     Right rd          the readers of parts inside and of chains are judged: they read parts of the grammar, and where
--                       they are stuck what they read begins one
--     primary_judged    .. and so are primaries
use Prim.Native.Nat.{ℕ, zero, suc, ◌+◌, ◌*◌, ◌≤◌, ◌<◌}
use mathlib.Core.Path.{◌≡◌, refl, sym, ap, ◌∙◌, subst}
use mathlib.Core.List.{List, [], ◌∷◌, ◌++◌, append_assoc, append-nil}
use mathlib.Core.Bool.{Bool, true, false}
use native.Mathlib.Omega.{arith}
use lib.Dec.{eqb}
use borrow.Author.Tests.{eqb-true, eqb-false}
use Rattle.laws.proofs.Booleans.{clash}
use Rattle.laws.proofs.Lists.{all_append}
use Rattle.laws.proofs.Filters.{map_append}
use Rattle.grammar.specs.Numerals.{Digits, value_from, value, digit_bytes}
use Rattle.grammar.specs.Words.{Kind, symbol, word, name, Word, integer_word, negative_word, dollar_sign, open_sign}
use Rattle.grammar.specs.Words.{close_sign, truth_word, root_word, count_word, data_word}
use Rattle.grammar.specs.Records.{minus_bits, record_ql, record_qb, record_qe, record_qr, record_qv, record_qc, record_qd}
use Rattle.grammar.specs.Grammar.{Level, expr, single, additive, multiplicative, path, primary, Part, words, records}
use Rattle.grammar.specs.Grammar.{integer, negative, variable, truth, empty, root_of, counted, valued, group}
use Rattle.laws.specs.Characters.{is_digit, is_letter, first}
use Rattle.grammar.specs.Spelled.{joins, Parted}
use Rattle.parsing.specs.declared.Ends.{Ends}
use Rattle.parsing.specs.declared.Ends.TheVariants.{WithList, WithCall}
use Rattle.parsing.specs.declared.Next.{Next}
use Rattle.parsing.specs.declared.Next.TheVariants.{Close}
use Rattle.parsing.specs.Reader.{halt, Readers, Operand, Went, operand, read_truth, read_false, read_root}
use Rattle.parsing.specs.Reader.{read_deeper, read_group, read_call, read_primary}
use Rattle.parsing.proofs.SoundJudged.{Judged, mapped, inhabited, given, either_judged, look_judged, byte_judged}
use Rattle.parsing.proofs.SoundJudged.{then_judged}
use Rattle.parsing.proofs.SoundWords.{Spelt, Entered, Filled, filled_left, spelt_append, spelt_bytes}
use Rattle.parsing.proofs.SoundWords.{spelt_word, entered_word, entered_spelt, entry_judged, letters_then}
use Rattle.parsing.proofs.SoundWords.{word_then, brackets_judged}
use Rattle.parsing.proofs.SoundNumbers.{Numbered, digits_judged, number_judged, numbered_one}
use Rattle.parsing.proofs.SoundSteps.{Bound, variable_judged}
use Rattle.parsing.proofs.SoundNext.{final}
use Rattle.parsing.proofs.SoundParts.{Primed, Arrived, ended_spelt}

pub record Right (rd : Readers) : Type 0 where
  pub of_expr : (d : ℕ) (e : Ends) (k : Kind) (t : List ℕ) → Judged (Arrived expr d 0 e false k) t (rd.expr d e k t)
  pub of_single : (d : ℕ) (e : Ends) (k : Kind) (t : List ℕ)
      → Judged (Arrived single d 1 e false k) t (rd.single d e k t)
  pub of_items : {d : ℕ} {e : Ends} {k : Kind} {s u xs : List ℕ} {n : Next}
      → Arrived expr d 1 e false k s u (record { made = xs; next = n })
      → Judged (λ s' v w. Arrived expr d 0 e false k (s ++ s') v w) u (rd.items d e xs n u)
  pub of_terms : {d : ℕ} {e : Ends} {c : Bool} {k : Kind} {s u xs : List ℕ} {n : Next}
      → Arrived additive d 3 e c k s u (record { made = xs; next = n })
      → Judged (λ s' v w. Arrived additive d 2 e c k (s ++ s') v w) u (rd.terms d e c xs n u)
  pub of_factors : {d : ℕ} {e : Ends} {c : Bool} {k : Kind} {s u xs : List ℕ} {n : Next}
      → Arrived multiplicative d 4 e c k s u (record { made = xs; next = n })
      → Judged (λ s' v w. Arrived multiplicative d 3 e c k (s ++ s') v w) u (rd.factors d e c xs n u)
  pub of_steps : {d : ℕ} {e : Ends} {c : Bool} {k : Kind} {s u xs : List ℕ} {n : Next}
      → Arrived path d 5 e c k s u (record { made = xs; next = n })
      → Judged (λ s' v w. Arrived path d 4 e c k (s ++ s') v w) u (rd.steps e c xs n u)

-- Numbers

numbered_filled : (most : ℕ) (s : List ℕ) (n : ℕ) → Numbered most s n → Filled s
unfolding digit_bytes
numbered_filled most s n h = subst Filled (sym h.bytes) tt

primed_integer : (d : ℕ) (s u : List ℕ) (n : ℕ) → Numbered 2147483647 s n
    → Primed d symbol s u (record { made = record_ql n; kind = word })
unfolding words records
primed_integer d s u n h =
    record {
      part = integer h.number (subst (λ z. z ≤ 2147483647) h.meant h.least);
      meant = ap record_ql (sym h.meant);
      spelt = rw h.bytes (spelt_bytes (integer_word h.number));
      filled = numbered_filled 2147483647 s n h;
    }

primed_negative : (d : ℕ) (s u : List ℕ) (n : ℕ) → Numbered 2147483648 s n
    → Primed d symbol (45 ∷ s) u (record { made = record_ql (minus_bits n); kind = word })
unfolding words records
primed_negative d s u n h =
    record {
      part = negative h.number (subst (λ z. z ≤ 2147483648) h.meant h.least);
      meant = ap (λ z. record_ql (minus_bits z)) (sym h.meant);
      spelt = rw h.bytes (spelt_bytes (negative_word h.number));
      filled = tt;
    }

pub primed_one : (d : ℕ) (u : List ℕ) → Primed d symbol (49 ∷ []) u (record { made = record_ql 1; kind = word })
primed_one d u = primed_integer d (49 ∷ []) u 1 (numbered_one 2147483647 (omega arith))

-- Variables, true and false

primed_variable : (d : ℕ) (s u : List ℕ) (v : ℕ) → Bound s v
    → Primed d symbol (36 ∷ s) u (record { made = record_qv v; kind = name })
unfolding words records
primed_variable d s u v h =
    record {
      part = variable h.variable;
      meant = ap record_qv h.meant;
      spelt = spelt_append (spelt_bytes dollar_sign) h.spelt;
      filled = tt;
    }

primed_true : (d : ℕ) (s u : List ℕ) → Spelt word (open_sign ∷ close_sign ∷ []) symbol s
    → Primed d symbol (116 ∷ 114 ∷ 117 ∷ 101 ∷ s) u (record { made = record_qb true; kind = symbol })
unfolding words records
primed_true d s u h =
    record { part = truth true; meant = refl; spelt = spelt_append (spelt_bytes (truth_word true)) h; filled = tt }

primed_false : (d : ℕ) (s u : List ℕ) → Spelt word (open_sign ∷ close_sign ∷ []) symbol s
    → Primed d symbol (102 ∷ 97 ∷ 108 ∷ 115 ∷ 101 ∷ s) u (record { made = record_qb false; kind = symbol })
unfolding words records
primed_false d s u h =
    record { part = truth false; meant = refl; spelt = spelt_append (spelt_bytes (truth_word false)) h; filled = tt }

pub true_judged : (d : ℕ) (t : List ℕ)
    → Judged (λ s u o. Primed d symbol (116 ∷ s) u o) t (read_truth true (114 ∷ 117 ∷ 101 ∷ []) t)
true_judged d =
    letters_then (114 ∷ 117 ∷ 101 ∷ []) refl
    (brackets_judged (record { made = record_qb true; kind = symbol }) (primed_true d))

pub false_judged : (d : ℕ) (t : List ℕ) → Judged (λ s u o. Primed d symbol (102 ∷ s) u o) t (read_false t)
false_judged d =
    letters_then (97 ∷ 108 ∷ 115 ∷ 101 ∷ []) refl
    (brackets_judged (record { made = record_qb false; kind = symbol }) (primed_false d))

-- root

primed_root : (d : ℕ) (s₀ s₁ s₂ u : List ℕ) (n : Digits) → 1 ≤ value n → value n ≤ 255
    → Spelt word (open_sign ∷ []) symbol s₀ → Spelt symbol (integer_word n ∷ []) word s₁
    → Spelt word (close_sign ∷ []) symbol s₂
    → Primed d symbol ((114 ∷ 111 ∷ 111 ∷ 116 ∷ []) ++ (s₀ ++ (s₁ ++ s₂))) u
    (record { made = record_qr (value n); kind = symbol })
unfolding words records
primed_root d s₀ s₁ s₂ u n some small h₀ h₁ h₂ =
    record {
      part = root_of n some small;
      meant = refl;
      spelt = spelt_append (spelt_bytes root_word) (spelt_append h₀ (spelt_append h₁ h₂));
      filled = tt;
    }

-- one more digit, behind zeros
one_more : Digits → Digits
one_more n =
    record {
      first = n.first;
      others = n.others ++ (1 ∷ []);
      small = all_append (λ d. d < 10) (n.first ∷ n.others) (1 ∷ []) n.small (omega arith, tt);
    }

value_snoc : (v : ℕ) (ds : List ℕ) (d : ℕ) → value_from v (ds ++ (d ∷ [])) ≡ value_from v ds * 10 + d
unfolding value_from
value_snoc v [] d = refl
value_snoc v (x ∷ ds) d = value_snoc (v * 10 + x) ds d

one_more_value : (n : Digits) → value (one_more n) ≡ value n * 10 + 1
unfolding one_more value
one_more_value n = value_snoc 0 (n.first ∷ n.others) 1

one_more_bytes : (n : Digits) → digit_bytes (one_more n) ≡ digit_bytes n ++ (49 ∷ [])
unfolding one_more digit_bytes
one_more_bytes n = map_append (λ (d : ℕ). 48 + d) (n.first ∷ n.others) (1 ∷ [])

parted_symbol : (s w : List ℕ) → Parted symbol s w
unfolding joins
parted_symbol [] w = refl
parted_symbol (b ∷ s) w = tt

one_more_spelt : {s u : List ℕ} {k : ℕ} (h : Entered symbol (λ s u n. Numbered 255 s n) s u k)
    → Spelt symbol (integer_word (one_more h.inside.number) ∷ []) word (s ++ (49 ∷ []))
one_more_spelt {s} h =
    let n = h.inside.number in
    let same : h.spaces ++ digit_bytes (one_more n) ≡ s ++ (49 ∷ []) =
    ap (λ z. h.spaces ++ z) (one_more_bytes n)
    ∙ (sym (append_assoc h.spaces (digit_bytes n) (49 ∷ []))
    ∙ (ap (λ z. h.spaces ++ z ++ (49 ∷ [])) (sym h.inside.bytes)
    ∙ ap (λ z. z ++ (49 ∷ [])) (sym h.cut)))
    in
    subst (λ z. Spelt symbol (integer_word (one_more n) ∷ []) word z) same
    (spelt_word symbol (integer_word (one_more n)) h.spaces h.spaced
    (parted_symbol h.spaces (digit_bytes (one_more n))))

close_spelt : Spelt word (close_sign ∷ []) symbol (41 ∷ [])
unfolding joins is_letter is_digit first
close_spelt = spelt_word word close_sign [] tt refl

root_judged : (d : ℕ) (t : List ℕ)
    → Judged (λ s u o. Primed d symbol ((114 ∷ 111 ∷ 111 ∷ 116 ∷ []) ++ s) u o) t (read_root t)
root_judged d =
    word_then word open_sign refl
    (λ s₀ u₀ h₀.
    then_judged (entry_judged symbol (number_judged 255 (omega arith)) u₀)
    (λ k s₁ u₁ h₁.
    either_judged (eqb k 0) (λ e. halted s₀ h₀ s₁ k h₁ e)
    (λ e. word_then word close_sign refl (λ s₂ u₂ h₂. closed s₀ h₀ s₁ k h₁ e s₂ u₂ h₂)) u₁))
  where
    halted : (s₀ : List ℕ) → Spelt word (open_sign ∷ []) symbol s₀ → (s₁ : List ℕ) {u : List ℕ} (k : ℕ)
        → Entered symbol (λ s u n. Numbered 255 s n) s₁ u k → eqb k 0 ≡ true → (t : List ℕ)
        → Judged (λ s u o. Primed d symbol ((114 ∷ 111 ∷ 111 ∷ 116 ∷ []) ++ (s₀ ++ (s₁ ++ s))) u o) t (halt t)
    halted s₀ h₀ s₁ k h₁ e t =
        let n = h₁.inside.number in
        let zero_value : value (one_more n) ≡ 1 =
        one_more_value n
        ∙ ap (λ z. z * 10 + 1) (sym h₁.inside.meant ∙ eqb-true k 0 e)
        in
        inhabited (49 ∷ 41 ∷ []) (record { made = record_qr (value (one_more n)); kind = symbol })
        (rw (← (append_assoc s₁ (49 ∷ []) (41 ∷ [])))
        (primed_root d s₀ (s₁ ++ (49 ∷ [])) (41 ∷ []) [] (one_more n) (rw zero_value (omega arith))
        (rw zero_value (omega arith)) h₀ (one_more_spelt h₁) close_spelt))

    closed : (s₀ : List ℕ) → Spelt word (open_sign ∷ []) symbol s₀ → (s₁ : List ℕ) {u : List ℕ} (k : ℕ)
        → Entered symbol (λ s u n. Numbered 255 s n) s₁ u k → eqb k 0 ≡ false → (s₂ t : List ℕ)
        → Spelt word (close_sign ∷ []) symbol s₂
        → Judged (λ s u o. Primed d symbol ((114 ∷ 111 ∷ 111 ∷ 116 ∷ []) ++ (s₀ ++ (s₁ ++ (s₂ ++ s)))) u o) t
        (operand (record_qr k) symbol t)
    closed s₀ h₀ s₁ k h₁ e s₂ t h₂ =
        let n = h₁.inside.number in
        let same : k ≡ value n = h₁.inside.meant in
        let other : k ≡ 0 → ⊥ = eqb-false k 0 e in
        given (record { made = record_qr k; kind = symbol })
        (rw (append-nil s₂, same)
        (primed_root d s₀ s₁ s₂ t n (omega arith) (subst (λ z. z ≤ 255) same h₁.inside.least) h₀
        (entered_word (integer_word n) h₁ h₁.inside.bytes) h₂))

-- Parentheses

-- behind ( : the rest of a primary that begins with it
record Inside (d : ℕ) (s u : List ℕ) (o : Operand) : Type 0 where
  part : Part primary d
  others : List Word
  opened : words part ≡ open_sign ∷ others
  meant : records part ≡ o.made
  spelt : Spelt symbol others o.kind s
  filled : Filled s

inside_empty : (d : ℕ) (u : List ℕ) → Inside d (41 ∷ []) u (record { made = record_qe; kind = symbol })
unfolding words records
inside_empty d u =
    record {
      part = empty;
      others = close_sign ∷ [];
      opened = refl;
      meant = refl;
      spelt = spelt_bytes close_sign;
      filled = tt;
    }

pub list_ends : {l : Level} {d : ℕ} {k : Kind} {s u : List ℕ} {w : Went} → (a : Arrived l d 0 WithList false k s u w)
    → Spelt k (words a.part ++ (close_sign ∷ [])) symbol s
list_ends a =
    ended_spelt Close (λ more x h. h) a
    (final (λ h. a.loose) (λ low high. a.loose (omega arith) high) a.allowed)

call_ends : {l : Level} {d : ℕ} {k : Kind} {s u : List ℕ} {w : Went} → (a : Arrived l d 1 WithCall false k s u w)
    → Spelt k (words a.part ++ (close_sign ∷ [])) symbol s
call_ends a = ended_spelt Close (λ more x h. h) a (final (λ h. clash h refl) a.loose a.allowed)

module _ (rd : Readers) (right : Right rd) where
  deeper_judged : (d : ℕ) (t : List ℕ) → Judged (Inside d) t (read_deeper rd d t)
  unfolding words records
  deeper_judged zero t = inhabited (41 ∷ []) _ (inside_empty zero [])
  deeper_judged (suc d) t =
      then_judged (right.of_expr d WithList symbol t)
      (λ w s u a.
      given (record { made = w.made; kind = symbol })
      (rw (append-nil s)
      (record {
        part = group a.part;
        others = words a.part ++ (close_sign ∷ []);
        opened = refl;
        meant = a.meant;
        spelt = list_ends a;
        filled = a.filled;
      })))

  group_judged : (d : ℕ) (t : List ℕ) → Judged (λ s u o. Primed d symbol (40 ∷ s) u o) t (read_group rd d t)
  group_judged d t =
      mapped
      (λ s u o h.
      record {
        part = h.inside.part;
        meant = h.inside.meant;
        spelt = rw h.inside.opened
            (spelt_append (spelt_bytes open_sign) (entered_spelt h h.inside.filled h.inside.spelt));
        filled = tt;
      })
      (entry_judged symbol
      (byte_judged 41 refl (λ u. given (record { made = record_qe; kind = symbol }) (inside_empty d u))
      (deeper_judged d)) t)

  -- count and data
  call_judged : (d : ℕ) (w : Word) (r : List ℕ) (make : Part single d → Part primary d) → w.kind ≡ word
      → Filled w.bytes
      → ((p : Part single d) → words (make p) ≡ w ∷ open_sign ∷ (words p ++ (close_sign ∷ [])))
      → ((p : Part single d) → records (make p) ≡ r ++ records p) → (t : List ℕ)
      → Judged (λ s u o. Primed d symbol (w.bytes ++ s) u o) t (read_call rd d r t)
  call_judged d w r make kind some spells means =
      word_then word open_sign refl
      (λ s₀ u₀ h₀.
      then_judged (right.of_single d WithCall symbol u₀)
      (λ g s u a.
      given (record { made = r ++ g.made; kind = symbol })
      (record {
        part = make a.part;
        meant = means a.part ∙ ap (λ z. r ++ z) a.meant;
        spelt = rw (append-nil s, spells a.part)
            (spelt_append (subst (λ z. Spelt symbol (w ∷ []) z w.bytes) kind (spelt_bytes w))
            (spelt_append h₀ (call_ends a)));
        filled = subst (λ z. Filled (w.bytes ++ (s₀ ++ z))) (sym (append-nil s))
            (filled_left w.bytes (s₀ ++ s) some);
      })))

  count_judged : (d : ℕ) (t : List ℕ)
      → Judged (λ s u o. Primed d symbol (count_word.bytes ++ s) u o) t (read_call rd d record_qc t)
  unfolding words records
  count_judged d = call_judged d count_word record_qc counted refl tt (λ p. refl) (λ p. refl)

  data_judged : (d : ℕ) (t : List ℕ)
      → Judged (λ s u o. Primed d symbol (data_word.bytes ++ s) u o) t (read_call rd d record_qd t)
  unfolding words records
  data_judged d = call_judged d data_word record_qd valued refl tt (λ p. refl) (λ p. refl)

  pub primary_judged : (d : ℕ) (t : List ℕ) → Judged (Primed d symbol) t (read_primary rd d t)
  primary_judged d =
      look_judged is_digit
      (λ t e.
      then_judged (digits_judged 2147483647 (omega arith) t e)
      (λ n s u h.
      given (record { made = record_ql n; kind = word }) (rw (append-nil s) (primed_integer d s u n h))))
      (λ t e.
      byte_judged 45 refl
      (λ t.
      then_judged (number_judged 2147483648 (omega arith) t)
      (λ n s u h.
      given (record { made = record_ql (minus_bits n); kind = word })
      (rw (append-nil s) (primed_negative d s u n h))))
      (byte_judged 36 refl
      (λ t.
      then_judged (variable_judged t)
      (λ v s u h.
      given (record { made = record_qv v; kind = name })
      (rw (append-nil s) (primed_variable d s u v h))))
      (byte_judged 116 refl (true_judged d)
      (byte_judged 102 refl (false_judged d)
      (byte_judged 40 refl (group_judged d)
      (byte_judged 114 refl (letters_then (111 ∷ 111 ∷ 116 ∷ []) refl (root_judged d))
      (byte_judged 99 refl (letters_then (111 ∷ 117 ∷ 110 ∷ 116 ∷ []) refl (count_judged d))
      (byte_judged 100 refl (letters_then (97 ∷ 116 ∷ 97 ∷ []) refl (data_judged d))
      (λ u. inhabited (49 ∷ []) _ (primed_one d []))))))))) t)
