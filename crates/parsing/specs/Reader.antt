-- The reader of typed queries over what is left of the text, in the shape of the code. It is not believed: it is proved
-- to read what the grammar says. Each function is one expression of those in the first list, so that what it answers
-- depends on no byte behind the first one that it leaves.
--     Res A                     ok: what was read and what is left after it; stuck: what is left at the refusal
--     Reader A                  from what is left of a text
--     give a, halt              a, and nothing is read; the refusal
--     then r f                  what comes next, on what was read and what is left; else the same refusal
--     either b m n              m or n, by a test
--     look is m n               m where the first byte is such, else n
--     rest t, past m            the text without its first byte; m past the first byte
--     skip t                    the text without the spaces that it begins with
--     entry k m                 m past the spaces; with no space the word must not join one of kind k directly before
--     ended t, at_end m n        the text has ended; m where it has, else n
--
--     byte c m n                m past the first byte where that is c, else n
--     allowed b c m n           .. where b holds, too
--     letters cs                the bytes cs: the rest of a word
--     spelled cs a              .. and a
--     read_word k w              word w, behind one of kind k
--     brackets a                ( ) behind a word of letters, and a
--     numeral most v            the digits that come, behind digits of value v; refused at the digit that passes most
--     number most               .. one digit at least
--     is_variable b              a to h
--     read_variable              a variable behind $
--     read_axis, read_test        an axis; a test
--     read_name                  the number of a name, behind its n
--     test_kind t                the kind of a test's last word
--     read_step                 a step: axis, ::, test
--
--     by_text, by_comma, by_close, by_return, by_else     what a part may end with
--     tightness n               what chain a word goes on with: 0 of commas, 1 compared, 2 of terms, 3 of factors,
--                               4 of steps; 5 none
--     operation n               the record of an operator of two operands
--     next_words n               the word itself
--     kind_of n                  its kind
--     read_next e c k            the word after an operand that ends in kind k; c: no comparison may come
--
--     Operand, operand          an operand: its records, and the kind of its last word
--     Went, went                a part: its records, and the word behind it
--     Readers                   the readers of parts inside, and of chains behind the first turn
--     read_group .. read_expr     the readers of each level: d grouping parentheses allowed, e how it ends, k before it
--     turn i side again xs n    a chain of tightness i with records xs so far and word n behind them: where n is its
--                               operator, the side behind that, and again
--     more_steps, more_factors, more_terms, more_sides, more_items     .. each chain
--     readers left              the readers for texts of at most so many bytes
--     read t                    the records of a text; or refusal 9, at its length less what is left
use Rattle.std.specs.Prelude.{ℕ, zero, suc, ◌+◌, ◌-◌, ◌*◌, List, [], ◌∷◌, ◌++◌, Bool, true, false, not, ◌&&◌, ◌||◌, leb, eqb, length}
use Rattle.laws.specs.Attempt.{Reading, refuses, reads}
use Rattle.codes.specs.declared.Function.TheVariants.{Add, Subtract, Multiply, Divide, Equal, Less}
use Rattle.codes.specs.declared.Axis.{Axis}
use Rattle.codes.specs.declared.Axis.TheVariants.{Child, Descendant, DescendantOrSelf, Itself}
use Rattle.codes.specs.declared.Axis.TheVariants.{Parent, Ancestor, Following, Preceding}
use Rattle.codes.specs.declared.Test.{Test}
use Rattle.codes.specs.declared.Test.TheVariants.{AnyNode, Element, Text, Named}
use Rattle.grammar.specs.Words.{Kind, symbol, word, name, Word, open_sign, close_sign, dollar_sign, becomes_sign, axis_sign}
use Rattle.grammar.specs.Words.{comma_sign, plus_sign, minus_sign, star_sign, slash_sign, idiv_word, eq_word, lt_word}
use Rattle.grammar.specs.Words.{in_word, then_word, return_word, else_word}
use Rattle.grammar.specs.Records.{minus_bits, record_ql, record_qb, record_qe, record_qr, record_qv, record_qs, record_qt}
use Rattle.grammar.specs.Records.{record_qf, record_qi, record_qo, record_qc, record_qd, record_qx}
use Rattle.grammar.specs.Grammar.{most_groups}
use Rattle.laws.specs.Characters.{is_space, is_digit, first}
use Rattle.grammar.specs.Spelled.{joins}
use Rattle.parsing.specs.declared.Ends.{Ends}
use Rattle.parsing.specs.declared.Ends.TheVariants.{WithText, WithList, WithCall, WithReturn, WithElse}
use Rattle.parsing.specs.declared.Next.{Next}
use Rattle.parsing.specs.declared.Next.TheVariants.{Slash, Star, Idiv, Plus, Minus, Eq, Lt, Comma, Close}
use Rattle.parsing.specs.declared.Next.TheVariants.{Return, Else, End}
use Rattle.parsing.specs.declared.Step.{Step}

pub data Res (A : Type 0) : Type 0 where
  ok : A → List ℕ → Res A
  stuck : List ℕ → Res A

abbrev pub Reader : Type 0 → Type 0
Reader A = List ℕ → Res A

-- What readers are made of

abbrev pub then : {A B : Type 0} → Res A → (A → Reader B) → Res B
then (ok a t) f = f a t
then (stuck t) f = stuck t

unfoldable pub rest : List ℕ → List ℕ
rest [] = []
rest (b ∷ t) = t

unfoldable pub ended : List ℕ → Bool
ended [] = true
ended (b ∷ t) = false

unfoldable pub skip : List ℕ → List ℕ
skip [] = []
skip (b ∷ t) = elim (is_space b) [ true ↦ skip t | false ↦ b ∷ t ]

module _ {A : Type 0} where
  abbrev pub give : A → Reader A
  give a t = ok a t

  abbrev pub halt : Reader A
  halt t = stuck t

  abbrev pub either : Bool → Reader A → Reader A → Reader A
  either true m n t = m t
  either false m n t = n t

  abbrev pub look : (ℕ → Bool) → Reader A → Reader A → Reader A
  look is m n t = either (is (first t)) m n t

  abbrev pub past : Reader A → Reader A
  past m t = m (rest t)

  abbrev pub entry : Kind → Reader A → Reader A
  entry k m = look is_space (λ t. m (skip t)) (look (joins k) halt m)

  abbrev pub at_end : Reader A → Reader A → Reader A
  at_end m n t = either (ended t) m n t

  abbrev pub byte : ℕ → Reader A → Reader A → Reader A
  byte c m n = look (λ x. eqb x c) (past m) n

  abbrev pub allowed : Bool → ℕ → Reader A → Reader A → Reader A
  allowed b c m n = look (λ x. b && eqb x c) (past m) n

-- Words

abbrev pub letters : List ℕ → Reader (Unit {0})
letters [] t = ok tt t
letters (c ∷ cs) t = byte c (letters cs) halt t

abbrev pub read_word : Kind → Word → Reader (Unit {0})
read_word k w = entry k (letters w.bytes)

module _ {A : Type 0} where
  abbrev pub spelled : List ℕ → A → Reader A
  spelled cs a t = then (letters cs t) (λ done. give a)

  abbrev pub brackets : A → Reader A
  brackets a t = then (read_word word open_sign t) (λ opened u. then (read_word symbol close_sign u) (λ closed. give a))

abbrev pub numeral : ℕ → ℕ → Reader ℕ
numeral most v [] = ok v []
numeral most v (b ∷ t) =
    either (is_digit b)
    (either (leb (v * 10 + (b - 48)) most) (λ u. numeral most (v * 10 + (b - 48)) t) halt)
    (give v) (b ∷ t)

abbrev pub number : ℕ → Reader ℕ
number most = look is_digit (numeral most 0) halt

unfoldable pub is_variable : ℕ → Bool
is_variable b = leb 97 b && leb b 104

abbrev pub read_variable : Reader ℕ
read_variable = entry symbol (look is_variable (λ t. ok (first t - 97) (rest t)) halt)

-- `descendant` may go on with `-or-self`; `parent` and `preceding` begin alike
abbrev pub read_axis : Reader Axis
read_axis =
    byte 99 (spelled (104 ∷ 105 ∷ 108 ∷ 100 ∷ []) Child)
    (byte 100
    (λ t.
    then (letters (101 ∷ 115 ∷ 99 ∷ 101 ∷ 110 ∷ 100 ∷ 97 ∷ 110 ∷ 116 ∷ []) t)
    (λ done.
    byte 45 (spelled (111 ∷ 114 ∷ 45 ∷ 115 ∷ 101 ∷ 108 ∷ 102 ∷ []) DescendantOrSelf) (give Descendant)))
    (byte 115 (spelled (101 ∷ 108 ∷ 102 ∷ []) Itself)
    (byte 112
    (byte 97 (spelled (114 ∷ 101 ∷ 110 ∷ 116 ∷ []) Parent)
    (byte 114 (spelled (101 ∷ 99 ∷ 101 ∷ 100 ∷ 105 ∷ 110 ∷ 103 ∷ []) Preceding) halt))
    (byte 97 (spelled (110 ∷ 99 ∷ 101 ∷ 115 ∷ 116 ∷ 111 ∷ 114 ∷ []) Ancestor)
    (byte 102 (spelled (111 ∷ 108 ∷ 108 ∷ 111 ∷ 119 ∷ 105 ∷ 110 ∷ 103 ∷ []) Following) halt)))))

-- behind a 0 no digit may come
abbrev pub read_name : Reader ℕ
read_name = byte 48 (look is_digit halt (give 0)) (number 65535)

-- `node` and a name begin alike
abbrev pub read_test : Reader Test
read_test =
    byte 110
    (byte 111 (λ t. then (letters (100 ∷ 101 ∷ []) t) (λ done. brackets AnyNode))
    (λ t. then (read_name t) (λ n. give (Named n))))
    (byte 42 (give Element)
    (byte 116 (λ t. then (letters (101 ∷ 120 ∷ 116 ∷ []) t) (λ done. brackets Text)) halt))

abbrev pub test_kind : Test → Kind
test_kind AnyNode = symbol
test_kind Element = symbol
test_kind Text = symbol
test_kind (Named n) = name

abbrev pub read_step : Reader Step
read_step t =
    then (entry symbol read_axis t)
    (λ x u.
    then (read_word word axis_sign u)
    (λ done v. then (entry symbol read_test v) (λ p. give (record { axis = x; test = p }))))

-- The word after an operand

abbrev pub by_text : Ends → Bool
by_text WithText = true
by_text WithList = false
by_text WithCall = false
by_text WithReturn = false
by_text WithElse = false

abbrev pub by_comma : Ends → Bool
by_comma WithText = true
by_comma WithList = true
by_comma WithCall = false
by_comma WithReturn = false
by_comma WithElse = false

abbrev pub by_close : Ends → Bool
by_close WithText = false
by_close WithList = true
by_close WithCall = true
by_close WithReturn = false
by_close WithElse = false

abbrev pub by_return : Ends → Bool
by_return WithText = false
by_return WithList = false
by_return WithCall = false
by_return WithReturn = true
by_return WithElse = false

abbrev pub by_else : Ends → Bool
by_else WithText = false
by_else WithList = false
by_else WithCall = false
by_else WithReturn = false
by_else WithElse = true

abbrev pub tightness : Next → ℕ
tightness Slash = 4
tightness Star = 3
tightness Idiv = 3
tightness Plus = 2
tightness Minus = 2
tightness Eq = 1
tightness Lt = 1
tightness Comma = 0
tightness Close = 5
tightness Return = 5
tightness Else = 5
tightness End = 5

-- a step's record has its axis and test, and what ends a part has none
abbrev pub operation : Next → List ℕ
operation Slash = []
operation Star = record_qo Multiply
operation Idiv = record_qo Divide
operation Plus = record_qo Add
operation Minus = record_qo Subtract
operation Eq = record_qo Equal
operation Lt = record_qo Less
operation Comma = record_qs
operation Close = []
operation Return = []
operation Else = []
operation End = []

abbrev pub next_words : Next → List Word
next_words Slash = slash_sign ∷ []
next_words Star = star_sign ∷ []
next_words Idiv = idiv_word ∷ []
next_words Plus = plus_sign ∷ []
next_words Minus = minus_sign ∷ []
next_words Eq = eq_word ∷ []
next_words Lt = lt_word ∷ []
next_words Comma = comma_sign ∷ []
next_words Close = close_sign ∷ []
next_words Return = return_word ∷ []
next_words Else = else_word ∷ []
next_words End = []

abbrev pub kind_of : Next → Kind
kind_of Slash = symbol
kind_of Star = symbol
kind_of Idiv = word
kind_of Plus = symbol
kind_of Minus = symbol
kind_of Eq = word
kind_of Lt = word
kind_of Comma = symbol
kind_of Close = symbol
kind_of Return = word
kind_of Else = word
kind_of End = symbol

-- `eq` and `else` begin alike
abbrev pub read_next : Ends → Bool → Kind → Reader Next
read_next e c k =
    entry k
    (byte 47 (give Slash)
    (byte 42 (give Star)
    (byte 105 (spelled (100 ∷ 105 ∷ 118 ∷ []) Idiv)
    (byte 43 (give Plus)
    (byte 45 (give Minus)
    (allowed (not c || by_else e) 101
    (allowed (not c) 113 (give Eq) (allowed (by_else e) 108 (spelled (115 ∷ 101 ∷ []) Else) halt))
    (allowed (not c) 108 (spelled (116 ∷ []) Lt)
    (allowed (by_comma e) 44 (give Comma)
    (allowed (by_close e) 41 (give Close)
    (allowed (by_return e) 114 (spelled (101 ∷ 116 ∷ 117 ∷ 114 ∷ 110 ∷ []) Return)
    (either (by_text e) (at_end (give End) halt) halt)))))))))))

-- Parts

pub record Operand : Type 0 where
  pub made : List ℕ
  pub kind : Kind

pub record Went : Type 0 where
  pub made : List ℕ
  pub next : Next

abbrev pub operand : List ℕ → Kind → Reader Operand
operand xs k = give (record { made = xs; kind = k })

abbrev pub went : List ℕ → Next → Reader Went
went xs n = give (record { made = xs; next = n })

pub record Readers : Type 0 where
  pub expr : ℕ → Ends → Kind → Reader Went
  pub single : ℕ → Ends → Kind → Reader Went
  pub items : ℕ → Ends → List ℕ → Next → Reader Went
  pub terms : ℕ → Ends → Bool → List ℕ → Next → Reader Went
  pub factors : ℕ → Ends → Bool → List ℕ → Next → Reader Went
  pub steps : Ends → Bool → List ℕ → Next → Reader Went

abbrev pub turn : ℕ → (Kind → Reader Went) → (List ℕ → Next → Reader Went) → List ℕ → Next → Reader Went
turn i side again xs n =
    either (eqb (tightness n) i)
    (λ t. then (side (kind_of n) t) (λ w. again (operation n ++ (xs ++ w.made)) w.next))
    (went xs n)

-- behind true, and behind the f of false
abbrev pub read_truth : Bool → List ℕ → Reader Operand
read_truth b cs t =
    then (letters cs t) (λ done. brackets (record { made = record_qb b; kind = symbol }))

abbrev pub read_false : Reader Operand
read_false = read_truth false (97 ∷ 108 ∷ 115 ∷ 101 ∷ [])

-- behind root; behind zeros alone only a digit can come
abbrev pub read_root : Reader Operand
read_root t =
    then (read_word word open_sign t)
    (λ opened u.
    then (entry symbol (number 255) u)
    (λ k.
    either (eqb k 0) halt
    (λ v. then (read_word word close_sign v) (λ closed. operand (record_qr k) symbol))))

module _ (rd : Readers) where
  -- behind ( : the empty sequence, or a list while parentheses are left
  abbrev pub read_deeper : ℕ → Reader Operand
  read_deeper zero = halt
  read_deeper (suc d) = λ t. then (rd.expr d WithList symbol t) (λ w. operand w.made symbol)

  abbrev pub read_group : ℕ → Reader Operand
  read_group d = entry symbol (byte 41 (operand record_qe symbol) (read_deeper d))

  -- behind count and data, with the record of each
  abbrev pub read_call : ℕ → List ℕ → Reader Operand
  read_call d r t =
      then (read_word word open_sign t)
      (λ done u. then (rd.single d WithCall symbol u) (λ w. operand (r ++ w.made) symbol))

  abbrev pub read_primary : ℕ → Reader Operand
  read_primary d =
      look is_digit (λ t. then (numeral 2147483647 0 t) (λ n. operand (record_ql n) word))
      (byte 45 (λ t. then (number 2147483648 t) (λ n. operand (record_ql (minus_bits n)) word))
      (byte 36 (λ t. then (read_variable t) (λ v. operand (record_qv v) name))
      (byte 116 (read_truth true (114 ∷ 117 ∷ 101 ∷ []))
      (byte 102 read_false
      (byte 40 (read_group d)
      (byte 114 (λ t. then (letters (111 ∷ 111 ∷ 116 ∷ []) t) (λ done. read_root))
      (byte 99 (λ t. then (letters (111 ∷ 117 ∷ 110 ∷ 116 ∷ []) t) (λ done. read_call d record_qc))
      (byte 100 (λ t. then (letters (97 ∷ 116 ∷ 97 ∷ []) t) (λ done. read_call d record_qd)) halt))))))))

  -- Path; begun: the f of a false is taken already
  abbrev pub more_steps : Ends → Bool → List ℕ → Next → Reader Went
  more_steps e c xs n =
      either (eqb (tightness n) 4)
      (λ t.
      then (read_step t)
      (λ s u.
      then (read_next e c (test_kind s.test) u)
      (λ m. rd.steps e c (record_qx s.axis s.test ++ xs) m)))
      (went xs n)

  abbrev pub read_path : ℕ → Ends → Bool → Bool → Kind → Reader Went
  read_path d e c begun k t =
      then (either begun read_false (entry k (read_primary d)) t)
      (λ o u. then (read_next e c o.kind u) (λ n. more_steps e c o.made n))

  -- Multiplicative
  abbrev pub more_factors : ℕ → Ends → Bool → List ℕ → Next → Reader Went
  more_factors d e c = turn 3 (read_path d e c false) (rd.factors d e c)

  abbrev pub read_product : ℕ → Ends → Bool → Bool → Kind → Reader Went
  read_product d e c begun k t = then (read_path d e c begun k t) (λ w. more_factors d e c w.made w.next)

  -- Additive
  abbrev pub more_terms : ℕ → Ends → Bool → List ℕ → Next → Reader Went
  more_terms d e c = turn 2 (read_product d e c false) (rd.terms d e c)

  abbrev pub read_sum : ℕ → Ends → Bool → Bool → Kind → Reader Went
  read_sum d e c begun k t = then (read_product d e c begun k t) (λ w. more_terms d e c w.made w.next)

  -- Comparison: behind the operator none may come again
  abbrev pub more_sides : ℕ → Ends → List ℕ → Next → Reader Went
  more_sides d e = turn 1 (read_sum d e true false) went

  abbrev pub read_sides : ℕ → Ends → Bool → Kind → Reader Went
  read_sides d e begun k t = then (read_sum d e false begun k t) (λ w. more_sides d e w.made w.next)

  -- Single: behind for and let, with the record of each and the word behind its variable
  abbrev pub read_binding : ℕ → Ends → (ℕ → List ℕ) → Word → Reader Went
  read_binding d e r w t =
      then (read_word word dollar_sign t)
      (λ signed t₁.
      then (read_variable t₁)
      (λ v t₂.
      then (read_word name w t₂)
      (λ done t₃.
      then (rd.single d WithReturn w.kind t₃)
      (λ a t₄.
      then (rd.single d e word t₄) (λ b. went (r v ++ (a.made ++ b.made)) b.next)))))

  -- .. behind if
  abbrev pub read_choice : ℕ → Ends → Reader Went
  read_choice d e t =
      then (read_word word open_sign t)
      (λ opened t₁.
      then (rd.expr d WithList symbol t₁)
      (λ c t₂.
      then (read_word symbol then_word t₂)
      (λ done t₃.
      then (rd.single d WithElse word t₃)
      (λ a t₄.
      then (rd.single d e word t₄)
      (λ b. went (record_qi ++ (c.made ++ (a.made ++ b.made))) b.next)))))

  -- `for` and `false` begin alike
  abbrev pub read_single : ℕ → Ends → Kind → Reader Went
  read_single d e k =
      entry k
      (byte 102
      (byte 111 (λ t. then (letters (114 ∷ []) t) (λ done. read_binding d e record_qf in_word))
      (read_sides d e true symbol))
      (byte 108 (λ t. then (letters (101 ∷ 116 ∷ []) t) (λ done. read_binding d e record_qt becomes_sign))
      (byte 105 (λ t. then (letters (102 ∷ []) t) (λ done. read_choice d e)) (read_sides d e false symbol))))

  -- Expr
  abbrev pub more_items : ℕ → Ends → List ℕ → Next → Reader Went
  more_items d e = turn 0 (read_single d e) (rd.items d e)

  abbrev pub read_expr : ℕ → Ends → Kind → Reader Went
  read_expr d e k t = then (read_single d e k t) (λ w. more_items d e w.made w.next)

-- what is left falls at each part inside and at each turn, as the text does
abbrev pub readers : ℕ → Readers
readers zero =
    record {
      expr = λ d e k. halt;
      single = λ d e k. halt;
      items = λ d e xs n. halt;
      terms = λ d e c xs n. halt;
      factors = λ d e c xs n. halt;
      steps = λ e c xs n. halt;
    }
readers (suc left) =
    let rd = readers left in
    record {
      expr = read_expr rd;
      single = read_single rd;
      items = more_items rd;
      terms = more_terms rd;
      factors = more_factors rd;
      steps = more_steps rd;
    }

abbrev pub answer : ℕ → Res Went → Reading (List ℕ)
answer n (ok w t) = reads w.made
answer n (stuck t) = refuses 9 (n - length t)

abbrev pub read : List ℕ → Reading (List ℕ)
read t = answer (length t) (read_expr (readers (length t)) most_groups WithText symbol t)
