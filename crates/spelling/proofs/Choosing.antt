-- Each reader that looks at a byte, by the byte that it sees.
use Prim.Native.Nat.{ℕ, ◌-◌, ◌≤◌}
use mathlib.Core.Path.{◌≡◌, refl}
use mathlib.Core.List.{List, [], ◌∷◌}
use mathlib.Core.Bool.{Bool, true, false, not, ◌&&◌, ◌||◌}
use lib.Dec.{leb, eqb}
use borrow.Author.Tests.{ne_eqb, leb-true}
use Rattle.laws.proofs.Booleans.{both_true}
use Rattle.codes.specs.declared.Axis.TheVariants.{Descendant}
use Rattle.parsing.specs.declared.Ends.{Ends}
use Rattle.parsing.specs.declared.Ends.TheVariants.{WithText, WithList, WithCall, WithReturn, WithElse}
use Rattle.parsing.specs.declared.Next.TheVariants.{Lt, Comma, Close, Return}
use Rattle.laws.specs.Characters.{first}
use Rattle.parsing.specs.Reader.{ok, stuck, Reader, rest, ended, look, halt, is_variable, read_axis, read_test}
use Rattle.parsing.specs.Reader.{by_text, by_comma, by_close, by_return, by_else}
use Rattle.spelling.specs.Answers.{or_self, parent_rest, node_rest, named_rest, else_rest, equal_rest, one_word}
use Rattle.spelling.specs.Answers.{more_word}
use Rattle.spelling.specs.Answers.{equal_word, last_word, close_word, end_word, next_word}

and_false : (a : Bool) → (a && false) ≡ false
and_false true = refl
and_false false = refl

pub variable_few : (b : ℕ) → is_variable b ≡ true → (97 ≤ b) × (b ≤ 104)
unfolding is_variable
variable_few b e =
    let h = both_true (leb 97 b) (leb b 104) e in
    (leb-true 97 b h.0, leb-true b 104 h.1)

abbrev pub a_variable : Reader ℕ
a_variable = look is_variable (λ t. ok (first t - 97) (rest t)) halt

module _ (t : List ℕ) (b : ℕ) (seen : first t ≡ b) where
  pub variable_off : is_variable b ≡ false → a_variable t ≡ stuck t
  variable_off e = rw (seen, e)

  pub variable_is : is_variable b ≡ true → a_variable t ≡ ok (b - 97) (rest t)
  variable_is e = rw (seen, e, seen)

  unseen : (k : ℕ) → (b ≡ k → ⊥) → eqb (first t) k ≡ false
  unseen k h = rw seen (ne_eqb b k h)

  pub self_other : (b ≡ 45 → ⊥) → or_self t ≡ ok Descendant t
  self_other h = rw (unseen 45 h)

  pub parent_other : ((Unit {0} × (b ≡ 97 → ⊥)) × (b ≡ 114 → ⊥)) → parent_rest t ≡ stuck t
  parent_other h = rw (unseen 97 h.0.1, unseen 114 h.1)

  pub axis_other :
      ((((((Unit {0} × (b ≡ 99 → ⊥)) × (b ≡ 100 → ⊥)) × (b ≡ 115 → ⊥)) × (b ≡ 112 → ⊥)) × (b ≡ 97 → ⊥))
      × (b ≡ 102 → ⊥))
      → read_axis t ≡ stuck t
  axis_other h =
      rw (
        unseen 99 h.0.0.0.0.0.1,
        unseen 100 h.0.0.0.0.1,
        unseen 115 h.0.0.0.1,
        unseen 112 h.0.0.1,
        unseen 97 h.0.1,
        unseen 102 h.1,
      )

  pub node_other : (b ≡ 111 → ⊥) → node_rest t ≡ named_rest t
  node_other h = rw (unseen 111 h)

  pub test_other : (((Unit {0} × (b ≡ 110 → ⊥)) × (b ≡ 42 → ⊥)) × (b ≡ 116 → ⊥)) → read_test t ≡ stuck t
  test_other h = rw (unseen 110 h.0.0.1, unseen 42 h.0.1, unseen 116 h.1)

  pub else_other : (b ≡ 108 → ⊥) → else_rest true t ≡ stuck t
  else_other h = rw (unseen 108 h)

  pub equal_other : (o : Bool) → (b ≡ 113 → ⊥) → equal_rest true o t ≡ else_rest o t
  equal_other o h = rw (unseen 113 h)

  pub next_other : (e : Ends) (c : Bool)
      → (((((Unit {0} × (b ≡ 47 → ⊥)) × (b ≡ 42 → ⊥)) × (b ≡ 105 → ⊥)) × (b ≡ 43 → ⊥)) × (b ≡ 45 → ⊥))
      → next_word e c t ≡ end_word e c t
  next_other e c h =
      rw (
        unseen 47 h.0.0.0.0.1,
        unseen 42 h.0.0.0.1,
        unseen 105 h.0.0.1,
        unseen 43 h.0.1,
        unseen 45 h.1,
      )

  pub end_other : (e : Ends) (c : Bool) → ((Unit {0} × (b ≡ 101 → ⊥)) × (b ≡ 108 → ⊥)) → end_word e c t ≡ close_word e t
  end_other e c h =
      rw (
        unseen 101 h.0.1,
        and_false (not c || by_else e),
        unseen 108 h.1,
        and_false (not c),
      )

pub equal_on : (p o : Bool) (t u : List ℕ) → rest t ≡ u → (p || o) ≡ true → equal_word p o t ≡ equal_rest p o u
equal_on p o t u e h = rw (h, e)

module _ (u : List ℕ) where
  pub end_equal : (e : Ends) (c : Bool) → end_word e c (101 ∷ u) ≡ equal_word (not c) (by_else e) (101 ∷ u)
  unfolding first rest ended
  end_equal WithText true = refl
  end_equal WithText false = refl
  end_equal WithList true = refl
  end_equal WithList false = refl
  end_equal WithCall true = refl
  end_equal WithCall false = refl
  end_equal WithReturn true = refl
  end_equal WithReturn false = refl
  end_equal WithElse true = refl
  end_equal WithElse false = refl

  pub end_less : (e : Ends) (c : Bool) → end_word e c (108 ∷ u) ≡ more_word (not c) (116 ∷ []) Lt (108 ∷ u)
  unfolding first rest ended
  end_less WithText true = refl
  end_less WithText false = refl
  end_less WithList true = refl
  end_less WithList false = refl
  end_less WithCall true = refl
  end_less WithCall false = refl
  end_less WithReturn true = refl
  end_less WithReturn false = refl
  end_less WithElse true = refl
  end_less WithElse false = refl

  pub close_comma : (e : Ends) → close_word e (44 ∷ u) ≡ one_word (by_comma e) Comma (44 ∷ u)
  unfolding first rest ended
  close_comma WithText = refl
  close_comma WithList = refl
  close_comma WithCall = refl
  close_comma WithReturn = refl
  close_comma WithElse = refl

  pub close_close : (e : Ends) → close_word e (41 ∷ u) ≡ one_word (by_close e) Close (41 ∷ u)
  unfolding first rest ended
  close_close WithText = refl
  close_close WithList = refl
  close_close WithCall = refl
  close_close WithReturn = refl
  close_close WithElse = refl

  pub close_return : (e : Ends)
      → close_word e (114 ∷ u) ≡ more_word (by_return e) (101 ∷ 116 ∷ 117 ∷ 114 ∷ 110 ∷ []) Return (114 ∷ u)
  unfolding first rest ended
  close_return WithText = refl
  close_return WithList = refl
  close_return WithCall = refl
  close_return WithReturn = refl
  close_return WithElse = refl

pub close_end : (e : Ends) → close_word e [] ≡ last_word (by_text e) []
unfolding first rest ended
close_end WithText = refl
close_end WithList = refl
close_end WithCall = refl
close_end WithReturn = refl
close_end WithElse = refl

pub close_other : (e : Ends) (b : ℕ) (u : List ℕ) → (b ≡ 44 → ⊥) → (b ≡ 41 → ⊥) → (b ≡ 114 → ⊥)
    → close_word e (b ∷ u) ≡ stuck (b ∷ u)
unfolding first rest ended
close_other WithText b u h k l = simp (ne_eqb b 44 h, ne_eqb b 41 k, ne_eqb b 114 l)
close_other WithList b u h k l = simp (ne_eqb b 44 h, ne_eqb b 41 k, ne_eqb b 114 l)
close_other WithCall b u h k l = simp (ne_eqb b 44 h, ne_eqb b 41 k, ne_eqb b 114 l)
close_other WithReturn b u h k l = simp (ne_eqb b 44 h, ne_eqb b 41 k, ne_eqb b 114 l)
close_other WithElse b u h k l = refl
