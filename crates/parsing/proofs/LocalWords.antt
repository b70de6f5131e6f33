-- The readers of words are local: each is one expression of what readers are made of.
use Prim.Native.Nat.{ℕ, ◌+◌, ◌-◌, ◌*◌}
use mathlib.Core.Path.{refl, subst}
use mathlib.Core.Logic.{⊎_elim}
use mathlib.Core.List.{List, [], ◌∷◌}
use mathlib.Core.Bool.{Bool, true, false, not, ◌||◌}
use lib.Dec.{leb}
use Rattle.laws.proofs.Booleans.{clash}
use Rattle.codes.specs.declared.Test.TheVariants.{AnyNode, Element, Text, Named}
use Rattle.grammar.specs.Words.{Kind, symbol, word, Word, open_sign, close_sign}
use Rattle.laws.specs.Characters.{is_digit, first}
use Rattle.parsing.specs.declared.Ends.{Ends}
use Rattle.parsing.specs.declared.Next.TheVariants.{Slash, Star, Idiv, Plus, Minus, Eq, Lt, Comma, Close}
use Rattle.parsing.specs.declared.Next.TheVariants.{Return, Else, End}
use Rattle.parsing.specs.Reader.{ok, rest, ended, give, halt, either, letters}
use Rattle.parsing.specs.Reader.{read_word, spelled, brackets, numeral, number, is_variable, read_variable}
use Rattle.parsing.specs.Reader.{read_name, read_test, by_text, by_comma, by_close, by_return}
use Rattle.parsing.specs.Reader.{by_else, read_next}
use Rattle.parsing.proofs.Local.{Suffix, whole, after, left, Likeness, Alike, passed, halted, gone, Local}
use Rattle.parsing.proofs.Local.{suffix_rest, local_then, local_give, local_halt}
use Rattle.parsing.proofs.Local.{local_either, local_look, local_end, local_byte, local_allowed, local_entry}

module _ {x : Likeness} {n : ℕ} where
  pub local_letters : (cs : List ℕ) → Local x n (letters cs) (letters cs)
  local_letters [] = local_give tt
  local_letters (c ∷ cs) = local_byte c (local_letters cs) local_halt

  pub local_word : (k : Kind) (w : Word) → Local x n (read_word k w) (read_word k w)
  local_word k w = local_entry k (local_letters w.bytes)

  module _ {A : Type 0} where
    pub local_spelled : (cs : List ℕ) (a : A) → Local x n (spelled cs a) (spelled cs a)
    local_spelled cs a = local_then (local_letters cs) (λ done. local_give a)

    pub local_brackets : (a : A) → Local x n (brackets a) (brackets a)
    local_brackets a =
        local_then (local_word word open_sign)
        (λ opened. local_then (local_word symbol close_sign) (λ closed. local_give a))

-- Numbers

module _ (most : ℕ) where
  pub numeral_behind : (v : ℕ) (t : List ℕ) → Suffix (left (numeral most v t)) t
  numeral_behind v [] = whole
  numeral_behind v (b ∷ t) = go (is_digit b) (leb more most) (numeral_behind more t)
    where
      more : ℕ
      more = v * 10 + (b - 48)

      go :
          (digit fits : Bool) → Suffix (left (numeral most more t)) t
          → Suffix
          (left (either digit (either fits (λ u. numeral most more t) halt) (give v) (b ∷ t)))
          (b ∷ t)
      go true true h = after b h
      go true false h = whole
      go false fits h = whole

  module _ (x : Likeness) where
    numeral_cons :
        (v b : ℕ) (t u : List ℕ)
        → (x.like t u → Alike x (numeral most (v * 10 + (b - 48)) t) (numeral most (v * 10 + (b - 48)) u))
        → x.like (b ∷ t) (b ∷ u) → Alike x (numeral most v (b ∷ t)) (numeral most v (b ∷ u))
    unfolding rest
    numeral_cons v b t u further l = go (is_digit b) (leb more most)
      where
        more : ℕ
        more = v * 10 + (b - 48)

        go :
            (digit fits : Bool)
            → Alike x
            (either digit (either fits (λ s. numeral most more t) halt) (give v) (b ∷ t))
            (either digit (either fits (λ s. numeral most more u) halt) (give v) (b ∷ u))
        go true true =
            ⊎_elim further (λ g. gone (x.deeper (numeral_behind more t) g)) (x.onward l)
        go true false = halted l
        go false fits = passed v l

    numeral_alike : (v : ℕ) (t u : List ℕ) → x.like t u → Alike x (numeral most v t) (numeral most v u)
    unfolding first ended
    numeral_alike v [] [] l = passed v l
    numeral_alike v [] (b ∷ u) l = clash refl (x.same_end l)
    numeral_alike v (b ∷ t) [] l = clash (x.same_end l) refl
    numeral_alike v (b ∷ t) (a ∷ u) l =
        subst
        (λ (e : ℕ). x.like (b ∷ t) (e ∷ u) → Alike x (numeral most v (b ∷ t)) (numeral most v (e ∷ u)))
        (x.same_first l)
        (numeral_cons v b t u (numeral_alike (v * 10 + (b - 48)) t u)) l

module _ {x : Likeness} {n : ℕ} where
  pub local_numeral : (most v : ℕ) → Local x n (numeral most v) (numeral most v)
  local_numeral most v =
      record { alike = λ {t} {t'} short l. numeral_alike most x v t t' l; behind = numeral_behind most v }

  pub local_number : (most : ℕ) → Local x n (number most) (number most)
  local_number most = local_look is_digit (local_numeral most 0) local_halt

  -- the first byte is what is read, and is passed
  local_taken : Local x n (λ t. ok (first t - 97) (rest t)) (λ t. ok (first t - 97) (rest t))
  local_taken =
      record {
        alike = λ {t} {t'} short l.
            subst (λ (c : ℕ). Alike x (ok (first t - 97) (rest t)) (ok (c - 97) (rest t'))) (x.same_first l)
            (⊎_elim (passed (first t - 97)) (λ g. gone g) (x.onward l));
        behind = suffix_rest;
      }

  pub local_variable : Local x n read_variable read_variable
  local_variable = local_entry symbol (local_look is_variable local_taken local_halt)

  -- Tests

  pub local_name : Local x n read_name read_name
  local_name = local_byte 48 (local_look is_digit local_halt (local_give 0)) (local_number 65535)

  pub local_test : Local x n read_test read_test
  local_test =
      local_byte 110
      (local_byte 111 (local_then (local_letters (100 ∷ 101 ∷ [])) (λ done. local_brackets AnyNode))
      (local_then local_name (λ k. local_give (Named k))))
      (local_byte 42 (local_give Element)
      (local_byte 116 (local_then (local_letters (101 ∷ 120 ∷ 116 ∷ [])) (λ done. local_brackets Text)) local_halt))

  -- The word after an operand

  pub local_next : (e : Ends) (c : Bool) (k : Kind) → Local x n (read_next e c k) (read_next e c k)
  local_next e c k =
      local_entry k
      (local_byte 47 (local_give Slash)
      (local_byte 42 (local_give Star)
      (local_byte 105 (local_spelled (100 ∷ 105 ∷ 118 ∷ []) Idiv)
      (local_byte 43 (local_give Plus)
      (local_byte 45 (local_give Minus)
      (local_allowed (not c || by_else e) 101
      (local_allowed (not c) 113 (local_give Eq)
      (local_allowed (by_else e) 108 (local_spelled (115 ∷ 101 ∷ []) Else) local_halt))
      (local_allowed (not c) 108 (local_spelled (116 ∷ []) Lt)
      (local_allowed (by_comma e) 44 (local_give Comma)
      (local_allowed (by_close e) 41 (local_give Close)
      (local_allowed (by_return e) 114 (local_spelled (101 ∷ 116 ∷ 117 ∷ 114 ∷ 110 ∷ []) Return)
      (local_either (by_text e) (local_end (local_give End) local_halt) local_halt)))))))))))
