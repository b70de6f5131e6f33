-- Primaries: each is read.
--     operand_of xs k          an operand: its records and the kind of its last word
--     at-..                   where the reader goes on, by the first bytes
--     opens_with              a primary by what comes of the reader behind its first word
--     integer_primary, ..     each production
--     Begins ws               words that a list can have: the first begins with no space and no `)`
--     spells_on               past the spaces, the same words are spelled
use Prim.Native.Nat.{ℕ, suc, ◌≤◌, ◌<◌}
use mathlib.Core.Path.{◌≡◌, refl, ap, subst, ◌∙◌}
use mathlib.Core.List.{List, [], ◌∷◌, ◌++◌, append_assoc}
use mathlib.Core.Bool.{Bool, true, false}
use native.Mathlib.Omega.{arith}
use lib.Dec.{eqb}
use lib.ListN.{length}
use borrow.Author.Tests.{ne_eqb}
use Rattle.grammar.specs.Numerals.{Digits, value, digit_bytes}
use Rattle.grammar.specs.Words.{Kind, symbol, word, name, Word, open_sign, close_sign, dollar_sign, Var, variable_word}
use Rattle.grammar.specs.Words.{true_word, false_word, truth_word, root_word, count_word, data_word, integer_word}
use Rattle.grammar.specs.Words.{negative_word}
use Rattle.grammar.specs.Records.{minus_bits, record_ql, record_qb, record_qe, record_qr, record_qv, record_qc, record_qd}
use Rattle.laws.specs.Characters.{is_space, is_digit, first}
use Rattle.grammar.specs.Spelled.{joins, Spells}
use Rattle.parsing.specs.declared.Ends.TheVariants.{WithList, WithCall}
use Rattle.parsing.specs.declared.Next.TheVariants.{Close}
use Rattle.parsing.specs.Reader.{ok, Reader, then, rest, either, entry, byte, halt, read_word, brackets, numeral}
use Rattle.parsing.specs.Reader.{number, read_variable, Operand, operand, Readers, readers, read_root, read_deeper}
use Rattle.parsing.specs.Reader.{read_group, read_call, read_primary}
use Rattle.parsing.proofs.CompleteWords.{Reached, reached, reached_from, reached_then, reached_more, Solid}
use Rattle.parsing.proofs.CompleteWords.{Sound, entered, no_digit}
use Rattle.parsing.proofs.CompleteNumbers.{numeral_reads, number_reads, digits_solid, typed_digits, typed_some}
use Rattle.parsing.proofs.CompleteNumbers.{typed_amount, first_digit}
use Rattle.parsing.proofs.CompleteLeaves.{read_open, read_close, read_brackets, read_variable_lem, open_solid}
use Rattle.parsing.proofs.CompleteLeaves.{close_solid}
use Rattle.parsing.proofs.CompleteLevels.{loose_close, Primary, Single, Items, either_true, either_false}
use Rattle.parsing.proofs.CompleteLevels.{single_inside, items_inside}

abbrev pub operand_of : List ℕ → Kind → Operand
operand_of xs k = record { made = xs; kind = k }

-- numbers as they are typed

typed_numeral : (most : ℕ) (n : Digits) (r : List ℕ) → value n ≤ most → is_digit (first r) ≡ false
    → numeral most 0 (digit_bytes n ++ r) ≡ ok (value n) r
typed_numeral most n r h e =
    let v = typed_amount n in
    numeral_reads most 0 (digit_bytes n) r (typed_digits n) (omega arith) e ∙ ap (λ x. ok x r) v

typed_number : (most : ℕ) (n : Digits) (r : List ℕ) → value n ≤ most → is_digit (first r) ≡ false
    → number most (digit_bytes n ++ r) ≡ ok (value n) r
typed_number most n r h e =
    let v = typed_amount n in
    number_reads most (digit_bytes n) r (typed_some n) (typed_digits n) (omega arith) e ∙ ap (λ x. ok x r) v

-- where the reader of a primary goes on, by its first bytes
module _ (rd : Readers) (d : ℕ) (u : List ℕ) where
  at_digits : is_digit (first u) ≡ true
      → read_primary rd d u ≡ then (numeral 2147483647 0 u) (λ n. operand (record_ql n) word)
  at_digits e = either_true (is_digit (first u)) _ _ u e

  at_minus : read_primary rd d (45 ∷ u)
      ≡ then (number 2147483648 u) (λ n. operand (record_ql (minus_bits n)) word)
  unfolding first rest is_digit
  at_minus = refl

  at_dollar : read_primary rd d (dollar_sign.bytes ++ u) ≡ then (read_variable u) (λ v. operand (record_qv v) name)
  unfolding first rest is_digit
  at_dollar = refl

  at_truth : (b : Bool) → read_primary rd d ((truth_word b).bytes ++ u) ≡ brackets (operand_of (record_qb b) symbol) u
  unfolding first rest is_digit
  at_truth true = refl
  at_truth false = refl

  at_open : read_primary rd d (open_sign.bytes ++ u) ≡ read_group rd d u
  unfolding first rest is_digit
  at_open = refl

  at_root : read_primary rd d (root_word.bytes ++ u) ≡ read_root u
  unfolding first rest is_digit
  at_root = refl

  at_count : read_primary rd d (count_word.bytes ++ u) ≡ read_call rd d record_qc u
  unfolding first rest is_digit
  at_count = refl

  at_data : read_primary rd d (data_word.bytes ++ u) ≡ read_call rd d record_qd u
  unfolding first rest is_digit
  at_data = refl

-- a primary whose first word is w, by what comes of the reader behind it
opens_with : (w : Word) (us : List Word) (xs : List ℕ) (d : ℕ) (j : Kind) → Solid w.bytes
    → (f : ℕ → Reader Operand)
    → ((m : ℕ) (r : List ℕ) → read_primary (readers m) d (w.bytes ++ r) ≡ f m r)
    → ((m : ℕ) (vs : List Word) (t : List ℕ) → length t < m → Sound vs → Spells w.kind (us ++ vs) t
    → Reached (f m t) (operand_of xs j) j vs (suc (length t)))
    → Primary (w ∷ us) xs d
opens_with w us xs d j h f e g = record {
  ends = j;
  reads =
      λ m k vs t l s sp.
      entered k w (us ++ vs) t (read_primary (readers m) d) h sp
      (λ r sr a b.
      reached_from (e m r)
      (reached_more (g m vs r (omega arith) s sr) (omega arith)));
}

-- the empty sequence

abbrev behind_open : ℕ → Readers → Reader Operand
behind_open d rd = byte 41 (operand record_qe symbol) (read_deeper rd d)

closed_at : (d : ℕ) (rd : Readers) (r : List ℕ)
    → behind_open d rd (close_sign.bytes ++ r) ≡ ok (operand_of record_qe symbol) r
unfolding first rest
closed_at d rd r = refl

-- root

read_fragment : (n : Digits) → value n ≤ 255 → (vs : List Word) (t : List ℕ)
    → Spells symbol (integer_word n ∷ close_sign ∷ vs) t
    → Reached (entry symbol (number 255) t) (value n) word (close_sign ∷ vs) (length t)
read_fragment n h vs t sp =
    entered symbol (integer_word n) (close_sign ∷ vs) t
    (number 255)
    (digits_solid (digit_bytes n) (typed_some n) (typed_digits n))
    sp
    (λ r sr a b.
    record {
      at = r;
      reads = typed_number 255 n r h (no_digit word (close_sign ∷ vs) r tt close_solid sr);
      spells = sr;
      shorter = b;
    })

abbrev behind_fragment : ℕ → Reader Operand
behind_fragment k =
    either (eqb k 0) halt (λ v. then (read_word word close_sign v) (λ closed. operand (record_qr k) symbol))

read_root_lem : (n : Digits) → 1 ≤ value n → value n ≤ 255 → (vs : List Word) (t : List ℕ)
    → Spells word (open_sign ∷ integer_word n ∷ close_sign ∷ vs) t
    → Reached (read_root t) (operand_of (record_qr (value n)) symbol) symbol vs (length t)
read_root_lem n g h vs t sp =
    reached_then _
    (read_open word (integer_word n ∷ close_sign ∷ vs) t sp)
    (λ u su lu.
    reached_then behind_fragment (read_fragment n h vs u su)
    (λ v sv lv.
    reached_from (either_false (eqb (value n) 0) halt _ v (ne_eqb (value n) 0 (λ z. omega arith)))
    (reached_then _ (read_close word vs v sv)
    (λ w sw lw.
    reached sw (omega arith)))))

-- No part inside

module _ {d : ℕ} where
  pub integer_primary : (n : Digits) → value n ≤ 2147483647 → Primary (integer_word n ∷ []) (record_ql (value n)) d
  integer_primary n h = record {
    ends = word;
    reads =
        λ m k vs t l s sp.
        entered k (integer_word n) vs t
        (read_primary (readers m) d)
        (digits_solid (digit_bytes n) (typed_some n) (typed_digits n))
        sp
        (λ r sr a b.
        record {
          at = r;
          reads =
              at_digits (readers m) d (digit_bytes n ++ r)
              (first_digit (digit_bytes n) r (typed_some n) (typed_digits n))
              ∙ ap (λ x. then x (λ n. operand (record_ql n) word))
              (typed_numeral 2147483647 n r h (no_digit word vs r tt s sr));
          spells = sr;
          shorter = b;
        });
  }

  pub negative_primary : (n : Digits) → value n ≤ 2147483648
      → Primary (negative_word n ∷ []) (record_ql (minus_bits (value n))) d
  unfolding is_space
  negative_primary n h = record {
    ends = word;
    reads =
        λ m k vs t l s sp.
        entered k (negative_word n)
        vs
        t
        (read_primary (readers m) d)
        refl
        sp
        (λ r sr a b.
        record {
          at = r;
          reads =
              at_minus (readers m) d (digit_bytes n ++ r)
              ∙ ap (λ x. then x (λ n. operand (record_ql (minus_bits n)) word))
              (typed_number 2147483648 n r h (no_digit word vs r tt s sr));
          spells = sr;
          shorter = b;
        });
  }

  pub variable_primary : (v : Var) → Primary (dollar_sign ∷ variable_word v ∷ []) (record_qv v.number) d
  unfolding is_space
  variable_primary v =
      opens_with dollar_sign (variable_word v ∷ []) (record_qv v.number) d name refl
      (λ m r. then (read_variable r) (λ v. operand (record_qv v) name))
      (λ m r. at_dollar (readers m) d r)
      (λ m vs t l s sp.
      reached_then _ (read_variable_lem v vs t sp)
      (λ u su lu. reached su (omega arith)))

  pub truth_primary : (b : Bool) → Primary (truth_word b ∷ open_sign ∷ close_sign ∷ []) (record_qb b) d
  unfolding is_space
  truth_primary true =
      opens_with true_word (open_sign ∷ close_sign ∷ []) (record_qb true) d symbol refl
      (λ m r. brackets (operand_of (record_qb true) symbol) r)
      (λ m r. at_truth (readers m) d r true)
      (λ m vs t l s sp. reached_more (read_brackets (operand_of (record_qb true) symbol) vs t sp) (omega arith))
  truth_primary false =
      opens_with false_word (open_sign ∷ close_sign ∷ []) (record_qb false) d symbol refl
      (λ m r. brackets (operand_of (record_qb false) symbol) r)
      (λ m r. at_truth (readers m) d r false)
      (λ m vs t l s sp. reached_more (read_brackets (operand_of (record_qb false) symbol) vs t sp) (omega arith))

  pub empty_primary : Primary (open_sign ∷ close_sign ∷ []) record_qe d
  empty_primary =
      opens_with open_sign (close_sign ∷ []) record_qe d symbol open_solid (λ m r. read_group (readers m) d r)
      (λ m r. at_open (readers m) d r)
      (λ m vs t l s sp.
      entered symbol close_sign vs t
      (behind_open d (readers m))
      close_solid
      sp
      (λ r sr a b.
      record { at = r; reads = closed_at d (readers m) r; spells = sr; shorter = omega arith }))

  pub root_primary : (n : Digits) → 1 ≤ value n → value n ≤ 255
      → Primary (root_word ∷ open_sign ∷ integer_word n ∷ close_sign ∷ []) (record_qr (value n)) d
  unfolding is_space
  root_primary n g h =
      opens_with root_word (open_sign ∷ integer_word n ∷ close_sign ∷ []) (record_qr (value n)) d symbol refl
      (λ m r. read_root r)
      (λ m r. at_root (readers m) d r)
      (λ m vs t l s sp. reached_more (read_root_lem n g h vs t sp) (omega arith))

-- Parts inside

module _ {ws : List Word} {xs : List ℕ} {d : ℕ} where
  read_call_lem : Single ws xs d → (q : List ℕ) (m : ℕ) (vs : List Word) (t : List ℕ) → length t < m
      → Spells word (open_sign ∷ ((ws ++ (close_sign ∷ [])) ++ vs)) t
      → Reached (read_call (readers m) d q t) (operand_of (q ++ xs) symbol) symbol vs (length t)
  read_call_lem p q m vs t l sp =
      reached_then _
      (read_open word ((ws ++ (close_sign ∷ [])) ++ vs) t sp)
      (λ u su lu.
      reached_then _
      (single_inside p m symbol WithCall Close vs u (omega arith) refl loose_close
      (subst (λ x. Spells symbol x u) (append_assoc ws (close_sign ∷ []) vs) su))
      (λ v sv lv. reached sv (omega arith)))

  pub count_primary : Single ws xs d
      → Primary (count_word ∷ open_sign ∷ (ws ++ (close_sign ∷ []))) (record_qc ++ xs) d
  unfolding is_space
  count_primary p =
      opens_with count_word (open_sign ∷ (ws ++ (close_sign ∷ []))) (record_qc ++ xs) d symbol refl
      (λ m r. read_call (readers m) d record_qc r)
      (λ m r. at_count (readers m) d r)
      (λ m vs t l s sp. reached_more (read_call_lem p record_qc m vs t l sp) (omega arith))

  pub data_primary : Single ws xs d → Primary (data_word ∷ open_sign ∷ (ws ++ (close_sign ∷ []))) (record_qd ++ xs) d
  unfolding is_space
  data_primary p =
      opens_with data_word (open_sign ∷ (ws ++ (close_sign ∷ []))) (record_qd ++ xs) d symbol refl
      (λ m r. read_call (readers m) d record_qd r)
      (λ m r. at_data (readers m) d r)
      (λ m vs t l s sp. reached_more (read_call_lem p record_qd m vs t l sp) (omega arith))

-- Grouping

-- the first byte is no space and not `)`
abbrev pub Beginning : List ℕ → Type 0
Beginning [] = ⊥
Beginning (b ∷ bs) = (is_space b ≡ false) × (eqb b 41 ≡ false)

abbrev pub Begins : List Word → Type 0
Begins [] = ⊥
Begins (w ∷ ws) = Beginning w.bytes

beginning_solid : (bs : List ℕ) → Beginning bs → Solid bs
beginning_solid [] h = h
beginning_solid (b ∷ bs) h = h.0

deeper_at : (rd : Readers) (d : ℕ) (bs r : List ℕ) → Beginning bs
    → behind_open (suc d) rd (bs ++ r)
    ≡ then (rd.expr d WithList symbol (bs ++ r)) (λ w. operand w.made symbol)
unfolding first
deeper_at rd d [] r h = absurd h
deeper_at rd d (b ∷ bs) r h = rw h.1

-- past the spaces, the same words
pub spells_on : (w : Word) (vs : List Word) (r : List ℕ) → Spells w.kind vs r
    → Spells symbol (w ∷ vs) (w.bytes ++ r)
unfolding Spells joins
spells_on w vs r sp = ([], r, refl, tt, refl, sp)

read_group_lem : {xs : List ℕ} {d : ℕ} (ws : List Word) → Begins ws → Items ws xs d → (m : ℕ) (vs : List Word)
    (t : List ℕ) → length t < m
    → Spells symbol ((ws ++ (close_sign ∷ [])) ++ vs) t
    → Reached (read_group (readers m) (suc d) t) (operand_of xs symbol) symbol vs (suc (length t))
read_group_lem [] b p m vs t l sp = absurd b
read_group_lem {xs} {d} (w ∷ ws) b p m vs t l sp =
    entered symbol w
    ((ws ++ (close_sign ∷ [])) ++ vs)
    t
    (behind_open (suc d) (readers m))
    (beginning_solid w.bytes b)
    sp
    (λ r sr g h.
    reached_from (deeper_at (readers m) d w.bytes r b)
    (reached_then _
    (items_inside p m symbol WithList Close vs (w.bytes ++ r) (omega arith) refl refl loose_close refl
    (subst (λ x. Spells symbol (w ∷ x) (w.bytes ++ r)) (append_assoc ws (close_sign ∷ []) vs)
    (spells_on w ((ws ++ (close_sign ∷ [])) ++ vs) r sr)))
    (λ v sv lv. reached sv (omega arith))))

pub group_primary : {xs : List ℕ} {d : ℕ} (ws : List Word) → Begins ws → Items ws xs d
    → Primary (open_sign ∷ (ws ++ (close_sign ∷ []))) xs (suc d)
group_primary {xs} {d} ws b p =
    opens_with open_sign (ws ++ (close_sign ∷ [])) xs (suc d) symbol open_solid (λ m r. read_group (readers m) (suc d) r)
    (λ m r. at_open (readers m) (suc d) r)
    (λ m vs t l s sp. read_group_lem ws b p m vs t l sp)
