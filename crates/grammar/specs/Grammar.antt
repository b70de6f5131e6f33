-- The grammar of typed queries (document 02, L1), without a reader: a production is a constructor, and beside each
-- other stand the words that it is spelled with and the records that it is read as.
--     Level         the left sides of the grammar
--     Part l d      a part of a text, of level l, with d more grouping parentheses allowed inside it
--     most_groups    grouping parentheses that may be open: 32
--     words p       the words of a part, in order
--     records p     the record bytes that a part is read as, in prefix order
--
--     Text           ::= Expr                                                        32 grouping parentheses allowed
--     Expr           ::= Single | Expr "," Single                                    QS, left
--     Single         ::= "for" "$" Var "in" Single "return" Single                   QF
--                      | "let" "$" Var ":=" Single "return" Single                   QT
--                      | "if" "(" Expr ")" "then" Single "else" Single               QI
--                      | Comparison
--     Comparison     ::= Additive | Additive ("eq" | "lt") Additive                  QO 5 6, at most one
--     Additive       ::= Multiplicative | Additive ("+" | "-") Multiplicative        QO 1 2, left
--     Multiplicative ::= Path | Multiplicative ("*" | "idiv") Path                   QO 3 4, left
--     Path           ::= Primary | Path "/" Axis "::" Test                           QX, left
--     Axis           ::= "child" | "descendant" | "descendant-or-self" | "self"
--                      | "parent" | "ancestor" | "following" | "preceding"           1 to 8
--     Test           ::= "node" "(" ")" | "*" | "text" "(" ")" | Name                0, 1, 2, 3
--     Primary        ::= Integer | Negative                                          QL
--                      | "$" Var                                                     QV
--                      | "true" "(" ")" | "false" "(" ")"                            QB
--                      | "(" ")"                                                     QE
--                      | "root" "(" Fragment ")"                                     QR
--                      | "count" "(" Single ")" | "data" "(" Single ")"              QC, QD
--                      | "(" Expr ")"                                                the only grouping parentheses
--
--     Integer  digits, 0 to 2147483647     Negative  "-" directly before digits, 0 to 2147483648, one word
--     Fragment digits, 1 to 255            Name      "n" directly before digits, 0 to 65535, no leading zero
--     Var      one of a to h
use Rattle.std.specs.Prelude.{ℕ, suc, ◌≤◌, List, [], ◌∷◌, ◌++◌, Bool}
use Rattle.codes.specs.declared.Axis.{Axis}
use Rattle.grammar.specs.Numerals.{Digits, value}
use Rattle.grammar.specs.Words.{Word, Var, Comparer, Adder, Multiplier, NodeTest, compares, adds, multiplies}
use Rattle.grammar.specs.Words.{tested, comma_sign, dollar_sign, becomes_sign, open_sign, close_sign, slash_sign}
use Rattle.grammar.specs.Words.{axis_sign, for_word, in_word, return_word, let_word, if_word, then_word, else_word}
use Rattle.grammar.specs.Words.{root_word, count_word, data_word, variable_word, comparer_word, adder_word}
use Rattle.grammar.specs.Words.{multiplier_word, axis_word, node_test_words, integer_word, negative_word, truth_word}
use Rattle.grammar.specs.Records.{minus_bits, record_ql, record_qb, record_qe, record_qr, record_qv, record_qs}
use Rattle.grammar.specs.Records.{record_qt, record_qf, record_qi, record_qo, record_qc, record_qd, record_qx}

pub data Level : Type 0 where
  expr single comparison additive multiplicative path primary : Level

pub data Part : Level → ℕ → Type 0 where
  -- Expr
  a_single : {d : ℕ} → Part single d → Part expr d
  comma : {d : ℕ} → Part expr d → Part single d → Part expr d
  -- Single
  for_in : {d : ℕ} → Var → Part single d → Part single d → Part single d
  let_be : {d : ℕ} → Var → Part single d → Part single d → Part single d
  if_then : {d : ℕ} → Part expr d → Part single d → Part single d → Part single d
  a_comparison : {d : ℕ} → Part comparison d → Part single d
  -- Comparison
  an_additive : {d : ℕ} → Part additive d → Part comparison d
  compared : {d : ℕ} → Comparer → Part additive d → Part additive d → Part comparison d
  -- Additive
  a_product : {d : ℕ} → Part multiplicative d → Part additive d
  added : {d : ℕ} → Adder → Part additive d → Part multiplicative d → Part additive d
  -- Multiplicative
  a_path : {d : ℕ} → Part path d → Part multiplicative d
  multiplied : {d : ℕ} → Multiplier → Part multiplicative d → Part path d → Part multiplicative d
  -- Path
  a_primary : {d : ℕ} → Part primary d → Part path d
  stepped : {d : ℕ} → Part path d → Axis → NodeTest → Part path d
  -- Primary
  integer : {d : ℕ} (n : Digits) → value n ≤ 2147483647 → Part primary d
  negative : {d : ℕ} (n : Digits) → value n ≤ 2147483648 → Part primary d
  variable : {d : ℕ} → Var → Part primary d
  truth : {d : ℕ} → Bool → Part primary d
  empty : {d : ℕ} → Part primary d
  root_of : {d : ℕ} (n : Digits) → 1 ≤ value n → value n ≤ 255 → Part primary d
  counted : {d : ℕ} → Part single d → Part primary d
  valued : {d : ℕ} → Part single d → Part primary d
  group : {d : ℕ} → Part expr d → Part primary (suc d)

abbrev pub most_groups : ℕ
most_groups = 32

unfoldable pub words : {l : Level} {d : ℕ} → Part l d → List Word
words (a_single p) = words p
words (comma p q) = words p ++ (comma_sign ∷ words q)
words (for_in v p q) = for_word ∷ dollar_sign ∷ variable_word v ∷ in_word ∷ (words p ++ (return_word ∷ words q))
words (let_be v p q) = let_word ∷ dollar_sign ∷ variable_word v ∷ becomes_sign ∷ (words p ++ (return_word ∷ words q))
words (if_then c p q) =
    if_word ∷ open_sign ∷ (words c ++ (close_sign ∷ then_word ∷ (words p ++ (else_word ∷ words q))))
words (a_comparison p) = words p
words (an_additive p) = words p
words (compared o p q) = words p ++ (comparer_word o ∷ words q)
words (a_product p) = words p
words (added o p q) = words p ++ (adder_word o ∷ words q)
words (a_path p) = words p
words (multiplied o p q) = words p ++ (multiplier_word o ∷ words q)
words (a_primary p) = words p
words (stepped p x t) = words p ++ (slash_sign ∷ axis_word x ∷ axis_sign ∷ node_test_words t)
words (integer n small) = integer_word n ∷ []
words (negative n small) = negative_word n ∷ []
words (variable v) = dollar_sign ∷ variable_word v ∷ []
words (truth b) = truth_word b ∷ open_sign ∷ close_sign ∷ []
words empty = open_sign ∷ close_sign ∷ []
words (root_of n some small) = root_word ∷ open_sign ∷ integer_word n ∷ close_sign ∷ []
words (counted p) = count_word ∷ open_sign ∷ (words p ++ (close_sign ∷ []))
words (valued p) = data_word ∷ open_sign ∷ (words p ++ (close_sign ∷ []))
words (group p) = open_sign ∷ (words p ++ (close_sign ∷ []))

unfoldable pub records : {l : Level} {d : ℕ} → Part l d → List ℕ
records (a_single p) = records p
records (comma p q) = record_qs ++ (records p ++ records q)
records (for_in v p q) = record_qf v.number ++ (records p ++ records q)
records (let_be v p q) = record_qt v.number ++ (records p ++ records q)
records (if_then c p q) = record_qi ++ (records c ++ (records p ++ records q))
records (a_comparison p) = records p
records (an_additive p) = records p
records (compared o p q) = record_qo (compares o) ++ (records p ++ records q)
records (a_product p) = records p
records (added o p q) = record_qo (adds o) ++ (records p ++ records q)
records (a_path p) = records p
records (multiplied o p q) = record_qo (multiplies o) ++ (records p ++ records q)
records (a_primary p) = records p
records (stepped p x t) = record_qx x (tested t) ++ records p
records (integer n small) = record_ql (value n)
records (negative n small) = record_ql (minus_bits (value n))
records (variable v) = record_qv v.number
records (truth b) = record_qb b
records empty = record_qe
records (root_of n some small) = record_qr (value n)
records (counted p) = record_qc ++ records p
records (valued p) = record_qd ++ records p
records (group p) = records p
