-- What writing the text of the expression at an offset asks and leaves (document 02, L1).
--     inner q                the texts of a query's operands, with what stands between them
--     pair_text k a b         two operands of a record
--     choice_text c a b       the three operands of QI
--     Room end t             the position runs on from `end` past the text t, with 64 bytes to spare
--     Asked p f end          there is a tree, and room for its text f
--     AskedOperands, AskedTwo, AskedThree     the same of a record's operands
--     Makes p f x end y r    the tree's text f is written over x from `end` on and leaves y; r says where its records
--                            and its text end
--     MakesOperands, MakesTwo, MakesThree     the same of a record's operands
--     Lays rd next o k z     the operands o of the tree z .0 of a record k, read by rd from next on: their texts, and
--                            that they end at z.1
use Rattle.std.specs.Prelude.{ℕ, ◌+◌, ◌^◌, ◌<◌, ◌≡◌, List, [], ◌++◌, length}
use Rattle.laws.specs.Attempt.{gives}
use Rattle.meaning.specs.Query.{Query, QL, QE, QR, QV, QS, QT, QF, QI, QO, QC, QD, QX}
use Rattle.pen.specs.Penned.{Pens}
use Rattle.grammar.specs.Words.{return_word, else_word}
use Rattle.grammar.specs.Grammar.{expr, single, path}
use Rattle.grammar.specs.Written.{spaced, function_word, left_level, right_level, then_text, comma_text, text_of}
use Rattle.query_records.specs.declared.Record.{Record}
use Rattle.query_records.specs.declared.Operands.{Operands}
use Rattle.query_records.specs.declared.Operands.TheVariants.{None, Variable, One, Two, Binding, Three}
use Rattle.query_records.specs.Decoded.{record_of}
use Rattle.query_walks.specs.Parse.{Parsed, trees}
use Rattle.levels.specs.Levels.{first_of, second_of}
use Rattle.phrases.specs.Phrases.{between_of}
use Rattle.wording.specs.declared.Spot.{Spot}

unfoldable pub inner : Query → List ℕ
inner (QL at z) = []
inner (QE at) = []
inner (QR at k) = []
inner (QV at v) = []
inner (QS at a b) = text_of expr a ++ (comma_text ++ text_of single b)
inner (QT at v a b) = text_of single a ++ (spaced return_word ++ text_of single b)
inner (QF at v a b) = text_of single a ++ (spaced return_word ++ text_of single b)
inner (QI at c a b) = text_of expr c ++ (then_text ++ (text_of single a ++ (spaced else_word ++ text_of single b)))
inner (QO at f a b) = text_of (left_level f) a ++ (spaced (function_word f) ++ text_of (right_level f) b)
inner (QC at a) = text_of single a
inner (QD at a) = text_of single a
inner (QX at x t a) = text_of path a

unfoldable pub pair_text : Record → Query → Query → List ℕ
pair_text k a b = text_of (first_of k) a ++ (between_of (record_of k) ++ text_of (second_of k) b)

unfoldable pub choice_text : Query → Query → Query → List ℕ
choice_text c a b = text_of expr c ++ (then_text ++ (text_of single a ++ (spaced else_word ++ text_of single b)))

abbrev pub Room : ℕ → List ℕ → Type 0
Room end t = end + length t + 64 < 2 ^ 64

pub record Asked (p : Parsed) (f : Query → List ℕ) (end : ℕ) : Type 0 where
  pub found : Query × ℕ
  pub given : p ≡ gives found
  pub room : Room end (f found.0)

pub record AskedOperands (rd : ℕ → Parsed) (at : ℕ) (k : Record) (end : ℕ) : Type 0 where
  pub place : ℕ
  pub asked : Asked (trees rd place at (record_of k)) inner end

pub record AskedTwo (rd : ℕ → Parsed) (at : ℕ) (k : Record) (end : ℕ) : Type 0 where
  pub a : Query × ℕ
  pub b : Query × ℕ
  pub first : rd at ≡ gives a
  pub second : rd a.1 ≡ gives b
  pub room : Room end (pair_text k a.0 b.0)

pub record AskedThree (rd : ℕ → Parsed) (at end : ℕ) : Type 0 where
  pub c : Query × ℕ
  pub a : Query × ℕ
  pub b : Query × ℕ
  pub first : rd at ≡ gives c
  pub second : rd c.1 ≡ gives a
  pub third : rd a.1 ≡ gives b
  pub room : Room end (choice_text c.0 a.0 b.0)

pub record Makes (p : Parsed) (f : Query → List ℕ) (x : List ℕ) (end : ℕ) (y : List ℕ) (r : Spot) : Type 0 where
  pub wrote : (z : Query × ℕ) → p ≡ gives z → Pens end (f z.0) x y r.end
  pub after : (z : Query × ℕ) → p ≡ gives z → r.next ≡ z.1

pub record MakesOperands
    (rd : ℕ → Parsed) (at : ℕ) (k : Record) (x : List ℕ) (end : ℕ) (y : List ℕ) (r : Spot) : Type 0 where
  pub made : (place : ℕ) → Makes (trees rd place at (record_of k)) inner x end y r

pub record MakesTwo
    (rd : ℕ → Parsed) (at : ℕ) (k : Record) (x : List ℕ) (end : ℕ) (y : List ℕ) (r : Spot) : Type 0 where
  pub wrote :
      (a b : Query × ℕ) → rd at ≡ gives a → rd a.1 ≡ gives b → Pens end (pair_text k a.0 b.0) x y r.end
  pub after : (a b : Query × ℕ) → rd at ≡ gives a → rd a.1 ≡ gives b → r.next ≡ b.1

pub record MakesThree (rd : ℕ → Parsed) (at : ℕ) (x : List ℕ) (end : ℕ) (y : List ℕ) (r : Spot) : Type 0 where
  pub wrote :
      (c a b : Query × ℕ) → rd at ≡ gives c → rd c.1 ≡ gives a → rd a.1 ≡ gives b →
      Pens end (choice_text c.0 a.0 b.0) x y r.end
  pub after :
      (c a b : Query × ℕ) → rd at ≡ gives c → rd c.1 ≡ gives a → rd a.1 ≡ gives b → r.next ≡ b.1

unfoldable pub Lays : (ℕ → Parsed) → ℕ → Operands → Record → Query × ℕ → Type 0
Lays rd next None k z = (next ≡ z.1) × (inner z.0 ≡ [])
Lays rd next (Variable u) k z = (next ≡ z.1) × (inner z.0 ≡ [])
Lays rd next One k z =
    (a : Query × ℕ) × (rd next ≡ gives a) × (a.1 ≡ z.1) × (inner z.0 ≡ text_of (first_of k) a.0)
Lays rd next Two k z =
    (a : Query × ℕ) × (b : Query × ℕ) ×
    (rd next ≡ gives a) × (rd a.1 ≡ gives b) × (b.1 ≡ z.1) × (inner z.0 ≡ pair_text k a.0 b.0)
Lays rd next (Binding u) k z =
    (a : Query × ℕ) × (b : Query × ℕ) ×
    (rd next ≡ gives a) × (rd a.1 ≡ gives b) × (b.1 ≡ z.1) × (inner z.0 ≡ pair_text k a.0 b.0)
Lays rd next Three k z =
    (c : Query × ℕ) × (a : Query × ℕ) × (b : Query × ℕ) ×
    (rd next ≡ gives c) × (rd c.1 ≡ gives a) × (rd a.1 ≡ gives b) × (b.1 ≡ z.1) ×
    (inner z.0 ≡ choice_text c.0 a.0 b.0)
