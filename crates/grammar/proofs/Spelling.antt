-- Laws of spelled words: the words of a written text are parted by one space, or one of two is a symbol.
--     spells_word, spells_space     one word more; one space more
--     spelt_word                    a word by itself
--     spelt_heading, spelt_between, spelt_closing     a text behind a beginning; two with words between; one with words
--                                   behind it
--     signs_apart                   a comma, a slash or a closing parenthesis joins no word before it
--     for_heading, let_heading, if_heading, count_heading, data_heading, open_heading     the beginnings
--     comma_between, word_between, then_between       the words between
--     close_closing, step_closing                     the words behind
--     truth_spelt, empty_spelt, variable_spelt, root_spelt      the texts without operands
use Prim.Native.Nat.{ℕ, ◌+◌}
use mathlib.Core.Path.{◌≡◌, refl, sym, ap, ◌∙◌, subst}
use mathlib.Core.List.{List, [], ◌∷◌, ◌++◌, append_assoc}
use mathlib.Core.Bool.{Bool, true, false, ◌||◌}
use lib.Dec.{eqb}
use Rattle.codes.specs.declared.Axis.{Axis}
use Rattle.grammar.specs.Words.{Kind, symbol, word, name, Word, Var, NodeTest, any_node, element}
use Rattle.grammar.specs.Words.{text_node, named}
use Rattle.grammar.specs.Words.{tested, comma_sign, dollar_sign, becomes_sign, open_sign, close_sign, slash_sign}
use Rattle.grammar.specs.Words.{star_sign, axis_sign, for_word, in_word, let_word, if_word, then_word}
use Rattle.grammar.specs.Words.{node_word, text_word, root_word, count_word, data_word, variable_word}
use Rattle.grammar.specs.Words.{axis_word, name_word, node_test_words, truth_word, fixed}
use Rattle.laws.specs.Characters.{is_space, is_digit, is_letter, first}
use Rattle.grammar.specs.Spelled.{joins, Spells}
use Rattle.grammar.specs.Written.{spaced, dollar, truth_text, test_text, step_text, for_head, let_head, if_head}
use Rattle.grammar.specs.Written.{then_text, count_head, data_head, comma_text}
use Rattle.grammar.specs.Parts.{After, Spelt, Heading, Between, Closing}

-- One word, one space

pub spells_word :
    (k : Kind) (w : Word) (ws : List Word) (u : List ℕ) → joins k (first w.bytes) ≡ false → Spells w.kind ws u →
    Spells k (w ∷ ws) (w.bytes ++ u)
unfolding Spells
spells_word k w ws u j h = ([], u, refl, tt, j, h)

pub spells_space : (k : Kind) (ws : List Word) (t : List ℕ) → Spells symbol ws t → Spells k ws (32 ∷ t)
unfolding Spells is_space
spells_space k [] t h = (refl, h)
spells_space k (w ∷ ws) t (s, r, e, b, a, h) = (32 ∷ s, r, ap (λ (x : List ℕ). 32 ∷ x) e, (refl, b), tt, h)

-- behind a symbol, or a space, a word joins nothing
first_word :
    (w : Word) (ws : List Word) (u : List ℕ) → Spells w.kind ws u → Spells symbol (w ∷ ws) (w.bytes ++ u)
unfolding joins
first_word w ws u h = spells_word symbol w ws u refl h

-- a word, then a space
word_space : (w : Word) (ws : List Word) (u : List ℕ) → Spells symbol ws u → Spells symbol (w ∷ ws) (w.bytes ++
    (32 ∷ u))
word_space w ws u h = first_word w ws (32 ∷ u) (spells_space w.kind ws u h)

-- what joins no word before it
pub signs_apart : (k : Kind) (b : ℕ) → (is_letter b || is_digit b || eqb b 45) ≡ false → joins k b ≡ false
unfolding joins
signs_apart symbol b h = refl
signs_apart word b h = go (is_letter b || is_digit b) (eqb b 45) h
  where
    go : (x y : Bool) → (x || y) ≡ false → x ≡ false
    go true y e = e
    go false y e = refl
signs_apart name b h = h

-- Texts one after another

pub spelt_word : (w : Word) → Spelt (w ∷ []) w.bytes
spelt_word w = record { before = λ ws u h. first_word w ws u (h w.kind) }

pub spelt_heading : {hs ps : List Word} {m t : List ℕ} → Heading hs m → Spelt ps t → Spelt (hs ++ ps) (m ++ t)
spelt_heading {hs} {ps} {m} {t} h p =
    record {
      before = λ ws u a.
          subst (λ (x : List Word). Spells symbol x ((m ++ t) ++ u)) (sym (append_assoc hs ps ws))
          (subst (λ (x : List ℕ). Spells symbol (hs ++ (ps ++ ws)) x) (sym (append_assoc m t u))
          (h.before (ps ++ ws) (t ++ u) (p.before ws u a)));
    }

pub spelt_between :
    {cs ps qs : List Word} {m t s : List ℕ} → Between cs m → Spelt ps t → Spelt qs s →
    Spelt (ps ++ (cs ++ qs)) (t ++ (m ++ s))
spelt_between {cs} {ps} {qs} {m} {t} {s} c p q =
    record {
      before = λ ws u a.
          subst (λ (x : List Word). Spells symbol x ((t ++ (m ++ s)) ++ u))
          (sym (append_assoc ps (cs ++ qs) ws ∙ ap (λ (x : List Word). ps ++ x) (append_assoc cs qs ws)))
          (subst (λ (x : List ℕ). Spells symbol (ps ++ (cs ++ (qs ++ ws))) x)
          (sym (append_assoc t (m ++ s) u ∙ ap (λ (x : List ℕ). t ++ x) (append_assoc m s u)))
          (p.before (cs ++ (qs ++ ws)) (m ++ (s ++ u)) (c.before (qs ++ ws) (s ++ u) (q.before ws u a))));
    }

pub spelt_closing : {cs ps : List Word} {m t : List ℕ} → Closing cs m → Spelt ps t → Spelt (ps ++ cs) (t ++ m)
spelt_closing {cs} {ps} {m} {t} c p =
    record {
      before = λ ws u a.
          subst (λ (x : List Word). Spells symbol x ((t ++ m) ++ u)) (sym (append_assoc ps cs ws))
          (subst (λ (x : List ℕ). Spells symbol (ps ++ (cs ++ ws)) x) (sym (append_assoc t m u))
          (p.before (cs ++ ws) (m ++ u) (c.before ws u a)));
    }

-- Beginnings

pub for_heading : (v : Var) → Heading (for_word ∷ dollar_sign ∷ variable_word v ∷ in_word ∷ []) (for_head v.number)
unfolding for_head
for_heading v =
    record {
      before = λ ws u h.
          word_space for_word _ _
          (first_word dollar_sign _ _
          (first_word (variable_word v) _ _ (spells_space name _ _ (word_space in_word ws u h))));
    }

pub let_heading : (v : Var) → Heading (let_word ∷ dollar_sign ∷ variable_word v ∷ becomes_sign ∷ []) (let_head v.number)
unfolding let_head
let_heading v =
    record {
      before = λ ws u h.
          word_space let_word _ _
          (first_word dollar_sign _ _
          (first_word (variable_word v) _ _ (spells_space name _ _ (word_space becomes_sign ws u h))));
    }

pub if_heading : Heading (if_word ∷ open_sign ∷ []) if_head
if_heading = record { before = λ ws u h. word_space if_word _ _ (first_word open_sign ws u h) }

-- an opening parenthesis joins no word before it
open_after : (k : Kind) (ws : List Word) (u : List ℕ) → Spells symbol ws u → Spells k (open_sign ∷ ws) (40 ∷ u)
unfolding is_letter is_digit first
open_after k ws u h = spells_word k open_sign ws u (signs_apart k 40 refl) h

close_after : (k : Kind) (ws : List Word) (u : List ℕ) → Spells symbol ws u → Spells k (close_sign ∷ ws) (41 ∷ u)
unfolding is_letter is_digit first
close_after k ws u h = spells_word k close_sign ws u (signs_apart k 41 refl) h

pub count_heading : Heading (count_word ∷ open_sign ∷ []) count_head
count_heading = record { before = λ ws u h. first_word count_word _ _ (open_after word ws u h) }

pub data_heading : Heading (data_word ∷ open_sign ∷ []) data_head
data_heading = record { before = λ ws u h. first_word data_word _ _ (open_after word ws u h) }

pub open_heading : Heading (open_sign ∷ []) (40 ∷ [])
open_heading = record { before = λ ws u h. first_word open_sign ws u h }

-- Words between

pub comma_between : Between (comma_sign ∷ []) comma_text
unfolding is_letter is_digit first
comma_between =
    record {
      before = λ ws u h k.
          spells_word k comma_sign ws (32 ∷ u) (signs_apart k 44 refl) (spells_space symbol ws u h);
    }

pub word_between : (w : Word) → Between (w ∷ []) (spaced w)
word_between w =
    record {
      before = λ ws u h k.
          subst (λ (x : List ℕ). Spells k (w ∷ ws) (32 ∷ x)) (sym (append_assoc w.bytes (32 ∷ []) u))
          (spells_space k (w ∷ ws) _ (word_space w ws u h));
    }

pub then_between : Between (close_sign ∷ then_word ∷ []) then_text
then_between =
    record {
      before = λ ws u h k.
          close_after k (then_word ∷ ws) _ (spells_space symbol (then_word ∷ ws) _ (word_space then_word ws u h));
    }

-- Words behind

pub close_closing : Closing (close_sign ∷ []) (41 ∷ [])
close_closing = record { before = λ ws u h k. close_after k ws u (h symbol) }

both_after : (k : Kind) (ws : List Word) (u : List ℕ) → After ws u → Spells k (open_sign ∷ close_sign ∷ ws) (40 ∷ 41 ∷ u)
both_after k ws u h = open_after k _ _ (close_after symbol ws u (h symbol))

test_spelt : (t : NodeTest) → Spelt (node_test_words t) (test_text (tested t))
unfolding test_text
test_spelt any_node = record { before = λ ws u h. first_word node_word _ _ (both_after word ws u h) }
test_spelt element = spelt_word star_sign
test_spelt text_node = record { before = λ ws u h. first_word text_word _ _ (both_after word ws u h) }
test_spelt (named n small) = spelt_word (name_word n)

pub step_closing :
    (x : Axis) (t : NodeTest) →
    Closing (slash_sign ∷ axis_word x ∷ axis_sign ∷ node_test_words t) (step_text x (tested t))
unfolding is_letter is_digit first step_text
step_closing x t =
    record {
      before = λ ws u h k.
          let test = (test_spelt t).before ws u h in
          let axis : Spells symbol (axis_word x ∷ axis_sign ∷ (node_test_words t ++ ws)) ((axis_word x).bytes ++
          (58 ∷ 58 ∷ (test_text (tested t) ++ u))) =
          first_word (axis_word x) _ (58 ∷ 58 ∷ (test_text (tested t) ++ u))
          (spells_word (axis_word x).kind axis_sign _ _ (signs_apart (axis_word x).kind 58 refl) test)
          in
          spells_word k slash_sign _ _ (signs_apart k 47 refl)
          (subst (Spells symbol (axis_word x ∷ axis_sign ∷ (node_test_words t ++ ws)))
          (sym (append_assoc (axis_word x).bytes (58 ∷ 58 ∷ test_text (tested t)) u)) axis);
    }

-- Without operands

pub truth_spelt : (b : Bool) → Spelt (truth_word b ∷ open_sign ∷ close_sign ∷ []) (truth_text b)
truth_spelt true = record { before = λ ws u h. first_word (truth_word true) _ _ (both_after word ws u h) }
truth_spelt false = record { before = λ ws u h. first_word (truth_word false) _ _ (both_after word ws u h) }

pub empty_spelt : Spelt (open_sign ∷ close_sign ∷ []) (40 ∷ 41 ∷ [])
empty_spelt = record { before = λ ws u h. both_after symbol ws u h }

pub variable_spelt : (v : Var) → Spelt (dollar_sign ∷ variable_word v ∷ []) (dollar v.number)
variable_spelt v =
    record { before = λ ws u h. first_word dollar_sign _ _ (first_word (variable_word v) ws u (h name)) }

pub root_spelt : (bs : List ℕ) → Spelt (root_word ∷ open_sign ∷ fixed bs ∷ close_sign ∷ [])
    (root_word.bytes ++ (40 ∷ (bs ++ (41 ∷ []))))
root_spelt bs =
    spelt_heading root_heading (spelt_closing close_closing (spelt_word (fixed bs)))
  where
    root_heading : Heading (root_word ∷ open_sign ∷ []) (root_word.bytes ++ (40 ∷ []))
    root_heading = record { before = λ ws u h. first_word root_word _ _ (open_after word ws u h) }
