-- The text of a record's tree, by its pieces, and the texts of its operands.
--     trees_whole       parentheses where its level is looser, round what stands before, the operands, and what stands
--                       after
--     trees_lays        the operands' texts, with what stands between them
use Prim.Native.Nat.{ℕ}
use mathlib.Core.Path.{◌≡◌, refl, sym, ap, ◌∙◌, subst}
use mathlib.Core.Bool.{Bool}
use mathlib.Core.List.{List, [], ◌∷◌, ◌++◌, append-nil}
use Rattle.laws.specs.Attempt.{gives}
use Rattle.laws.proofs.Outcomes.{gives_same}
use Rattle.meaning.specs.Query.{Query, QS, QT, QF, QI, QO, QC, QD, QX}
use Rattle.grammar.specs.Grammar.{Level, primary}
use Rattle.grammar.specs.Written.{looser, enclosed, text_of}
use Rattle.grammar.proofs.Writing.{primary_tightest}
use Rattle.query_records.specs.declared.Record.{Record}
use Rattle.query_records.specs.declared.Record.TheVariants.{Literal, Empty, Root, Variable, Sequence, Let, For, If}
use Rattle.query_records.specs.declared.Record.TheVariants.{Apply, Count, Data, Step}
use Rattle.query_records.specs.declared.Operands.{Operands}
use Rattle.query_records.specs.Decoded.{record_of, operands_of}
use Rattle.query_walks.specs.Parse.{Parsed, lone, pair, triple, trees}
use Rattle.query_walks.proofs.Parsing.{lone_gives, pair_gives, triple_gives}
use Rattle.levels.specs.Levels.{own_of, first_of}
use Rattle.phrases.specs.Phrases.{head_of, between_of, tail_of}
use Rattle.wording.specs.Wording.{inner, pair_text, choice_text, Lays}

-- a primary stands by itself
alone : (l : Level) (t : List ℕ) → enclosed (looser primary l) t ≡ t
unfolding enclosed
alone l t = rw (primary_tightest l) (append-nil t)

module _ (l : Level) (k : Record) where
  -- a query's text, by the pieces of its record
  abbrev Pieces : Query × ℕ → Type 0
  Pieces z =
      text_of l z.0
      ≡ enclosed (looser (own_of k) l) (head_of (record_of k) ++ (inner z.0 ++ tail_of (record_of k)))

  one_pieces :
      (f : Query → Query) (p : Parsed) (z : Query × ℕ) → ((a : Query) (n : ℕ) → Pieces (f a, n)) →
      lone f p ≡ gives z → Pieces z
  one_pieces f p z h e =
      let (x, q, s) = lone_gives f p z e in
      subst Pieces s (h x.0 x.1)

  two_pieces :
      (f : Query → Query → Query) (p : Parsed) (rd : ℕ → Parsed) (z : Query × ℕ) →
      ((a b : Query) (n : ℕ) → Pieces (f a b, n)) → pair f p rd ≡ gives z → Pieces z
  two_pieces f p rd z h e =
      let (x, y, q, r, s) = pair_gives f p rd z e in
      subst Pieces s (h x.0 y.0 y.1)

  three_pieces :
      (f : Query → Query → Query → Query) (p : Parsed) (rd : ℕ → Parsed) (z : Query × ℕ) →
      ((c a b : Query) (n : ℕ) → Pieces (f c a b, n)) → triple f p rd rd ≡ gives z → Pieces z
  three_pieces f p rd z h e =
      let (w, x, y, q, r, s, t) = triple_gives f p rd rd z e in
      subst Pieces t (h w.0 x.0 y.0 y.1)

-- what stands round the operands, where nothing stands after them
ended : (b : Bool) (h i : List ℕ) → enclosed b (h ++ i) ≡ enclosed b (h ++ (i ++ []))
ended b h i = ap (λ (s : List ℕ). enclosed b (h ++ s)) (sym (append-nil i))

-- a text without operands
whole_text : (l : Level) (h : List ℕ) → h ≡ enclosed (looser primary l) (h ++ ([] ++ []))
whole_text l h = sym (append-nil h) ∙ sym (alone l (h ++ []))

pub trees_whole :
    (l : Level) (k : Record) (rd : ℕ → Parsed) (at next : ℕ) (z : Query × ℕ) →
    trees rd at next (record_of k) ≡ gives z →
    text_of l z.0 ≡ enclosed (looser (own_of k) l) (head_of (record_of k) ++ (inner z.0 ++ tail_of (record_of k)))
unfolding trees record_of head_of tail_of inner text_of
trees_whole l (Literal i) rd at next z e =
    subst (Pieces l (Literal i)) (gives_same e) (whole_text l (head_of (record_of (Literal i))))
trees_whole l Empty rd at next z e = subst (Pieces l Empty) (gives_same e) (whole_text l (40 ∷ 41 ∷ []))
trees_whole l (Root k) rd at next z e =
    subst (Pieces l (Root k)) (gives_same e) (whole_text l (head_of (record_of (Root k))))
trees_whole l (Variable v) rd at next z e =
    subst (Pieces l (Variable v)) (gives_same e) (whole_text l (head_of (record_of (Variable v))))
trees_whole l Sequence rd at next z e =
    two_pieces l Sequence (QS at) (rd next) rd z (λ a b n. ended _ [] (inner (QS at a b))) e
trees_whole l (Let v) rd at next z e =
    two_pieces l (Let v) (QT at v) (rd next) rd z
    (λ a b n. ended _ (head_of (record_of (Let v))) (inner (QT at v a b))) e
trees_whole l (For v) rd at next z e =
    two_pieces l (For v) (QF at v) (rd next) rd z
    (λ a b n. ended _ (head_of (record_of (For v))) (inner (QF at v a b))) e
trees_whole l If rd at next z e =
    three_pieces l If (QI at) (rd next) rd z (λ c a b n. ended _ (head_of (record_of If)) (inner (QI at c a b))) e
trees_whole l (Apply f) rd at next z e =
    two_pieces l (Apply f) (QO at f) (rd next) rd z (λ a b n. ended _ [] (inner (QO at f a b))) e
trees_whole l Count rd at next z e =
    one_pieces l Count (QC at) (rd next) z (λ a n. sym (alone l (text_of l (QC at a)))) e
trees_whole l Data rd at next z e =
    one_pieces l Data (QD at) (rd next) z (λ a n. sym (alone l (text_of l (QD at a)))) e
trees_whole l (Step x t) rd at next z e = one_pieces l (Step x t) (QX at x t) (rd next) z (λ a n. refl) e

-- Operands

module _ (rd : ℕ → Parsed) (next : ℕ) (k : Record) where
  abbrev Laid : Operands → Query × ℕ → Type 0
  Laid o z = Lays rd next o k z

  one_lays :
      (f : Query → Query) (z : Query × ℕ) → ((a : Query) → inner (f a) ≡ text_of (first_of k) a) →
      lone f (rd next) ≡ gives z → Laid Operands.One z
  unfolding Lays
  one_lays f z h e =
      let (x, p, s) = lone_gives f (rd next) z e in
      subst (Laid Operands.One) s (x, p, refl, h x.0)

  two_lays :
      (f : Query → Query → Query) (z : Query × ℕ) → ((a b : Query) → inner (f a b) ≡ pair_text k a b) →
      pair f (rd next) rd ≡ gives z → Laid Operands.Two z
  unfolding Lays
  two_lays f z h e =
      let (x, y, p, q, s) = pair_gives f (rd next) rd z e in
      subst (Laid Operands.Two) s (x, y, p, q, refl, h x.0 y.0)

  binding_lays :
      (u : ℕ) (f : Query → Query → Query) (z : Query × ℕ) → ((a b : Query) → inner (f a b) ≡ pair_text k a b) →
      pair f (rd next) rd ≡ gives z → Laid (Operands.Binding u) z
  unfolding Lays
  binding_lays u f z h e =
      let (x, y, p, q, s) = pair_gives f (rd next) rd z e in
      subst (Laid (Operands.Binding u)) s (x, y, p, q, refl, h x.0 y.0)

  three_lays :
      (f : Query → Query → Query → Query) (z : Query × ℕ) →
      ((c a b : Query) → inner (f c a b) ≡ choice_text c a b) → triple f (rd next) rd rd ≡ gives z →
      Laid Operands.Three z
  unfolding Lays
  three_lays f z h e =
      let (w, x, y, p, q, r, s) = triple_gives f (rd next) rd rd z e in
      subst (Laid Operands.Three) s (w, x, y, p, q, r, refl, h w.0 x.0 y.0)

pub trees_lays :
    (k : Record) (rd : ℕ → Parsed) (at next : ℕ) (z : Query × ℕ) → trees rd at next (record_of k) ≡ gives z →
    Lays rd next (operands_of (record_of k)) k z
unfolding trees record_of operands_of inner pair_text choice_text between_of Lays
trees_lays (Literal i) rd at next z e =
    subst (Lays rd next Operands.None (Literal i)) (gives_same e) (refl, refl)
trees_lays Empty rd at next z e = subst (Lays rd next Operands.None Empty) (gives_same e) (refl, refl)
trees_lays (Root k) rd at next z e = subst (Lays rd next Operands.None (Root k)) (gives_same e) (refl, refl)
trees_lays (Variable v) rd at next z e =
    subst (Lays rd next (Operands.Variable v) (Variable v)) (gives_same e) (refl, refl)
trees_lays Sequence rd at next z e = two_lays rd next Sequence (QS at) z (λ a b. refl) e
trees_lays (Let v) rd at next z e = binding_lays rd next (Let v) v (QT at v) z (λ a b. refl) e
trees_lays (For v) rd at next z e = binding_lays rd next (For v) v (QF at v) z (λ a b. refl) e
trees_lays If rd at next z e = three_lays rd next If (QI at) z (λ c a b. refl) e
trees_lays (Apply f) rd at next z e = two_lays rd next (Apply f) (QO at f) z (λ a b. refl) e
trees_lays Count rd at next z e = one_lays rd next Count (QC at) z (λ a. refl) e
trees_lays Data rd at next z e = one_lays rd next Data (QD at) z (λ a. refl) e
trees_lays (Step x t) rd at next z e = one_lays rd next (Step x t) (QX at x t) z (λ a. refl) e
