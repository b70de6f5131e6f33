-- Variables and steps as readers read them.
--     Bound s v           bytes s spell the variable of number v
--     Tested s p          bytes s, not none, spell the test p
--     Stepped s st        bytes s spell the step st, behind its /
use Prim.Native.Nat.{ℕ, ◌+◌, ◌-◌, ◌≤◌}
use mathlib.Core.Path.{◌≡◌, refl, ap, subst}
use mathlib.Core.List.{List, [], ◌∷◌, append-nil}
use mathlib.Core.Bool.{true}
use native.Mathlib.Omega.{arith}
use lib.Dec.{leb}
use borrow.Author.Tests.{leb-true}
use Rattle.laws.proofs.Booleans.{clash, both_true}
use Rattle.codes.specs.declared.Axis.{Axis}
use Rattle.codes.specs.declared.Axis.TheVariants.{Child, Descendant, DescendantOrSelf, Itself, Parent, Ancestor}
use Rattle.codes.specs.declared.Axis.TheVariants.{Following, Preceding}
use Rattle.codes.specs.declared.Test.{Test}
use Rattle.codes.specs.declared.Test.TheVariants.{AnyNode, Element, Text, Named}
use Rattle.grammar.specs.Words.{symbol, word, name, Var, NodeTest, any_node, element, text_node, named, tested}
use Rattle.grammar.specs.Words.{variable_word, axis_word, axis_sign, node_test_words, name_word, node_word, text_word, star_sign}
use Rattle.grammar.specs.Words.{open_sign, close_sign}
use Rattle.laws.specs.Characters.{first}
use Rattle.parsing.specs.declared.Step.{Step}
use Rattle.parsing.specs.Reader.{ok, rest, is_variable, read_variable, read_axis, read_test, test_kind, read_step}
use Rattle.parsing.proofs.SoundJudged.{Judged, passes, mapped, inhabited, given, look_judged, byte_judged}
use Rattle.parsing.proofs.SoundJudged.{then_judged}
use Rattle.parsing.proofs.SoundWords.{Spelt, Filled, spelt_append, spelt_bytes, entered_word, entered_spelt}
use Rattle.parsing.proofs.SoundWords.{entry_judged, letters_then, spelled_judged, word_judged, brackets_judged}
use Rattle.parsing.proofs.SoundNumbers.{Canonical, name_judged}

-- Variables

pub record Bound (s : List ℕ) (v : ℕ) : Type 0 where
  pub variable : Var
  pub meant : variable.number ≡ v
  pub spelt : Spelt symbol (variable_word variable ∷ []) name s

record Letter (s : List ℕ) (v : ℕ) : Type 0 where
  variable : Var
  meant : variable.number ≡ v
  bytes : s ≡ (variable_word variable).bytes

letter : (t : List ℕ) → is_variable (first t) ≡ true
    → Judged (λ s u v. Letter s v) t (ok (first t - 97) (rest t))
unfolding first rest is_variable
letter [] e = clash e refl
letter (b ∷ t) e =
    let (l, h) = both_true (leb 97 b) (leb b 104) e in
    let low : 97 ≤ b = leb-true 97 b l in
    let high : b ≤ 104 = leb-true b 104 h in
    let same : b ≡ 97 + (b - 97) = omega arith in
    passes (b ∷ []) refl
    (record {
      variable = record { number = b - 97; small = omega arith };
      meant = refl;
      bytes = ap (λ z. z ∷ []) same;
    })

pub variable_judged : (t : List ℕ) → Judged (λ s u v. Bound s v) t (read_variable t)
variable_judged t =
    mapped
    (λ s u v e.
    record {
      variable = e.inside.variable;
      meant = e.inside.meant;
      spelt = entered_word (variable_word e.inside.variable) e e.inside.bytes;
    })
    (entry_judged symbol (look_judged is_variable letter (λ u e. inhabited (97 ∷ []) 0 first_letter)) t)
  where
    first_letter : Letter (97 ∷ []) 0
    first_letter = record { variable = record { number = 0; small = omega arith }; meant = refl; bytes = refl }

-- Axes

pub axis_judged : (t : List ℕ) → Judged (λ s u x. s ≡ (axis_word x).bytes) t (read_axis t)
axis_judged =
    byte_judged 99 refl (spelled_judged (104 ∷ 105 ∷ 108 ∷ 100 ∷ []) Child refl (λ u. refl))
    (byte_judged 100 refl
    (letters_then (101 ∷ 115 ∷ 99 ∷ 101 ∷ 110 ∷ 100 ∷ 97 ∷ 110 ∷ 116 ∷ []) refl
    (byte_judged 45 refl
    (spelled_judged (111 ∷ 114 ∷ 45 ∷ 115 ∷ 101 ∷ 108 ∷ 102 ∷ []) DescendantOrSelf refl (λ u. refl))
    (λ u. given Descendant refl)))
    (byte_judged 115 refl (spelled_judged (101 ∷ 108 ∷ 102 ∷ []) Itself refl (λ u. refl))
    (byte_judged 112 refl
    (byte_judged 97 refl (spelled_judged (114 ∷ 101 ∷ 110 ∷ 116 ∷ []) Parent refl (λ u. refl))
    (byte_judged 114 refl
    (spelled_judged (101 ∷ 99 ∷ 101 ∷ 100 ∷ 105 ∷ 110 ∷ 103 ∷ []) Preceding refl (λ u. refl))
    (λ u. inhabited (97 ∷ 114 ∷ 101 ∷ 110 ∷ 116 ∷ []) Parent refl)))
    (byte_judged 97 refl
    (spelled_judged (110 ∷ 99 ∷ 101 ∷ 115 ∷ 116 ∷ 111 ∷ 114 ∷ []) Ancestor refl (λ u. refl))
    (byte_judged 102 refl
    (spelled_judged (111 ∷ 108 ∷ 108 ∷ 111 ∷ 119 ∷ 105 ∷ 110 ∷ 103 ∷ []) Following refl (λ u. refl))
    (λ u. inhabited (99 ∷ 104 ∷ 105 ∷ 108 ∷ 100 ∷ []) Child refl))))))

axis_kind : (x : Axis) → (axis_word x).kind ≡ word
axis_kind Child = refl
axis_kind Descendant = refl
axis_kind DescendantOrSelf = refl
axis_kind Itself = refl
axis_kind Parent = refl
axis_kind Ancestor = refl
axis_kind Following = refl
axis_kind Preceding = refl

-- Tests

pub record Tested (s : List ℕ) (p : Test) : Type 0 where
  pub test : NodeTest
  pub meant : tested test ≡ p
  pub spelt : Spelt symbol (node_test_words test) (test_kind p) s
  pub filled : Filled s

tested_any : (s : List ℕ) → Spelt word (open_sign ∷ close_sign ∷ []) symbol s
    → Tested (110 ∷ 111 ∷ 100 ∷ 101 ∷ s) AnyNode
tested_any s h =
    record { test = any_node; meant = refl; spelt = spelt_append (spelt_bytes node_word) h; filled = tt }

tested_text : (s : List ℕ) → Spelt word (open_sign ∷ close_sign ∷ []) symbol s
    → Tested (116 ∷ 101 ∷ 120 ∷ 116 ∷ s) Text
tested_text s h =
    record { test = text_node; meant = refl; spelt = spelt_append (spelt_bytes text_word) h; filled = tt }

tested_element : Tested (42 ∷ []) Element
tested_element = record { test = element; meant = refl; spelt = spelt_bytes star_sign; filled = tt }

tested_named : (s : List ℕ) (n : ℕ) → Canonical s n → Tested (110 ∷ s) (Named n)
tested_named s n h =
    record {
      test = named n h.least;
      meant = refl;
      spelt = rw h.bytes (spelt_bytes (name_word n));
      filled = tt;
    }

pub test_judged : (t : List ℕ) → Judged (λ s u p. Tested s p) t (read_test t)
test_judged =
    byte_judged 110 refl
    (byte_judged 111 refl
    (letters_then (100 ∷ 101 ∷ []) refl (brackets_judged AnyNode (λ s u h. tested_any s h)))
    (λ t. then_judged (name_judged t) (λ n s u h. given (Named n) (rw (append-nil s) (tested_named s n h)))))
    (byte_judged 42 refl (λ u. given Element tested_element)
    (byte_judged 116 refl
    (letters_then (101 ∷ 120 ∷ 116 ∷ []) refl (brackets_judged Text (λ s u h. tested_text s h)))
    (λ u. inhabited (42 ∷ []) Element tested_element)))

-- Steps

pub record Stepped (s : List ℕ) (st : Step) : Type 0 where
  pub test : NodeTest
  pub meant : tested test ≡ st.test
  pub spelt : Spelt symbol (axis_word st.axis ∷ axis_sign ∷ node_test_words test) (test_kind st.test) s

pub step_judged : (t : List ℕ) → Judged (λ s u st. Stepped s st) t (read_step t)
step_judged t =
    then_judged (entry_judged symbol axis_judged t)
    (λ x s u e.
    then_judged (word_judged word axis_sign refl u)
    (λ done s₁ u₁ h.
    then_judged (entry_judged symbol test_judged u₁)
    (λ p s₂ u₂ e₂.
    given (record { axis = x; test = p })
    (record {
      test = e₂.inside.test;
      meant = e₂.inside.meant;
      spelt = rw (append-nil s₂)
          (spelt_append
          (subst (λ k. Spelt symbol (axis_word x ∷ []) k s) (axis_kind x)
          (entered_word (axis_word x) e e.inside))
          (spelt_append h (entered_spelt e₂ e₂.inside.filled e₂.inside.spelt)));
    }))))
