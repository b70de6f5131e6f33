-- Reading what holds no part: variables, axes, tests, steps, brackets.
--     read_brackets, read_variable_lem, read_axis_lem, read_test_lem, read_step_lem
use Prim.Native.Nat.{ℕ, ◌+◌, ◌-◌, ◌≤◌}
use mathlib.Core.Path.{◌≡◌, refl, ap, subst, ◌∙◌}
use mathlib.Core.List.{List, ◌∷◌, ◌++◌}
use mathlib.Core.Bool.{true, false}
use native.Mathlib.Omega.{arith}
use lib.Dec.{eqb}
use lib.ListN.{length}
use borrow.Author.Tests.{le-leb, ne_eqb}
use Rattle.codes.specs.declared.Axis.{Axis}
use Rattle.codes.specs.declared.Axis.TheVariants.{Child, Descendant, DescendantOrSelf, Itself, Parent, Ancestor}
use Rattle.codes.specs.declared.Axis.TheVariants.{Following, Preceding}
use Rattle.codes.specs.declared.Test.TheVariants.{AnyNode, Element, Text, Named}
use Rattle.pen.specs.Decimal.{decimal}
use Rattle.grammar.specs.Words.{Kind, symbol, word, name, Word, open_sign, close_sign, axis_sign, Var, variable_word}
use Rattle.grammar.specs.Words.{NodeTest, any_node, element, text_node, named, node_test_words, tested, axis_word}
use Rattle.grammar.specs.Words.{node_word, text_word, star_sign, name_word}
use Rattle.laws.specs.Characters.{is_space, is_digit, first}
use Rattle.laws.proofs.Characters.{digit_few}
use Rattle.grammar.specs.Spelled.{Spells}
use Rattle.parsing.specs.Reader.{ok, Reader, then, rest, look, entry, give, halt, read_word, brackets}
use Rattle.parsing.specs.Reader.{is_variable, read_variable, read_axis, read_name, read_test, test_kind, read_step}
use Rattle.parsing.proofs.CompleteWords.{Reached, reached, reached_from, reached_then, reached_more, Solid}
use Rattle.parsing.proofs.CompleteWords.{Sound, entered, read_word_lem, no_space, space_low, first_of}
use Rattle.parsing.proofs.CompleteWords.{no_digit}
use Rattle.parsing.proofs.CompleteNumbers.{name_reads, decimal_first}

pub open_solid : Solid open_sign.bytes
unfolding is_space
open_solid = refl

pub close_solid : Solid close_sign.bytes
unfolding is_space
close_solid = refl

pub read_open : (k : Kind) (vs : List Word) (t : List ℕ) → Spells k (open_sign ∷ vs) t
    → Reached (read_word k open_sign t) tt symbol vs (length t)
read_open k vs t sp = read_word_lem k open_sign vs t open_solid sp

pub read_close : (k : Kind) (vs : List Word) (t : List ℕ) → Spells k (close_sign ∷ vs) t
    → Reached (read_word k close_sign t) tt symbol vs (length t)
read_close k vs t sp = read_word_lem k close_sign vs t close_solid sp

pub read_brackets : {A : Type 0} (a : A) (vs : List Word) (t : List ℕ) → Spells word (open_sign ∷ close_sign ∷ vs) t
    → Reached (brackets a t) a symbol vs (length t)
read_brackets a vs t sp =
    reached_then _
    (read_open word (close_sign ∷ vs) t sp)
    (λ u su lu.
    reached_then _ (read_close symbol vs u su)
    (λ v sv lv. reached sv (omega arith)))

-- variables

is_variable_lem : (b : ℕ) → 97 ≤ b → b ≤ 104 → is_variable b ≡ true
unfolding is_variable
is_variable_lem b h k = rw (le-leb 97 b h, le-leb b 104 k)

abbrev variable_at : Reader ℕ
variable_at = look is_variable (λ t. ok (first t - 97) (rest t)) halt

variable_at_lem : (v : Var) (r : List ℕ) → variable_at ((97 + v.number) ∷ r) ≡ ok v.number r
unfolding first rest
variable_at_lem v r =
    let e : is_variable (97 + v.number) ≡ true = is_variable_lem (97 + v.number) (omega arith) (omega (arith, v.small)) in
    let d : 97 + v.number - 97 ≡ v.number = omega arith in
    rw e (ap (λ x. ok x r) d)

pub read_variable_lem : (v : Var) (vs : List Word) (t : List ℕ) → Spells symbol (variable_word v ∷ vs) t
    → Reached (read_variable t) v.number name vs (length t)
read_variable_lem v vs t sp =
    entered symbol (variable_word v) vs t variable_at
    (no_space (97 + v.number) (omega arith)) sp
    (λ r sr l s. record { at = r; reads = variable_at_lem v r; spells = sr; shorter = s })

-- axes

axis_at : (x : Axis) (r : List ℕ) → eqb (first r) 45 ≡ false → read_axis ((axis_word x).bytes ++ r) ≡ ok x r
unfolding first rest
axis_at Child r e = refl
axis_at Descendant r e = rw e
axis_at DescendantOrSelf r e = refl
axis_at Itself r e = refl
axis_at Parent r e = refl
axis_at Ancestor r e = refl
axis_at Following r e = refl
axis_at Preceding r e = refl

axis_solid : (x : Axis) → Solid (axis_word x).bytes
unfolding is_space
axis_solid Child = refl
axis_solid Descendant = refl
axis_solid DescendantOrSelf = refl
axis_solid Itself = refl
axis_solid Parent = refl
axis_solid Ancestor = refl
axis_solid Following = refl
axis_solid Preceding = refl

axis_kind : (x : Axis) → (axis_word x).kind ≡ word
axis_kind Child = refl
axis_kind Descendant = refl
axis_kind DescendantOrSelf = refl
axis_kind Itself = refl
axis_kind Parent = refl
axis_kind Ancestor = refl
axis_kind Following = refl
axis_kind Preceding = refl

axis_sign_solid : Solid axis_sign.bytes
unfolding is_space
axis_sign_solid = refl

no_minus : (k : Kind) (vs : List Word) (t : List ℕ) → Spells k (axis_sign ∷ vs) t → eqb (first t) 45 ≡ false
unfolding first
no_minus k vs t sp =
    first_of (λ b. eqb b 45 ≡ false) k (axis_sign ∷ vs) t axis_sign_solid sp
    (λ b e. ne_eqb b 45 (λ d. omega (arith, space_low b e))) refl (λ j. refl)

pub read_axis_lem : (x : Axis) (vs : List Word) (t : List ℕ) → Spells symbol (axis_word x ∷ axis_sign ∷ vs) t
    → Reached (entry symbol read_axis t) x word (axis_sign ∷ vs) (length t)
read_axis_lem x vs t sp =
    subst (λ k. Reached (entry symbol read_axis t) x k (axis_sign ∷ vs) (length t)) (axis_kind x)
    (entered symbol (axis_word x) (axis_sign ∷ vs) t
    read_axis (axis_solid x) sp
    (λ r sr l s.
    record { at = r; reads = axis_at x r (no_minus (axis_word x).kind vs r sr); spells = sr; shorter = s }))

-- tests

node_at : (r : List ℕ) → read_test (node_word.bytes ++ r) ≡ brackets AnyNode r
unfolding first rest
node_at r = refl

text_at : (r : List ℕ) → read_test (text_word.bytes ++ r) ≡ brackets Text r
unfolding first rest
text_at r = refl

star_at : (r : List ℕ) → read_test (star_sign.bytes ++ r) ≡ ok Element r
unfolding first rest
star_at r = refl

-- behind the n, where a digit comes
name_at : (u : List ℕ) → is_digit (first u) ≡ true → read_test (110 ∷ u) ≡ then (read_name u) (λ n. give (Named n))
unfolding first rest
name_at u e =
    let d : eqb (first u) 111 ≡ false = ne_eqb (first u) 111 (λ c. omega (arith, digit_few (first u) e)) in
    rw d

pub read_test_lem : (x : NodeTest) (vs : List Word) (t : List ℕ) → Sound vs → Spells symbol (node_test_words x ++ vs) t
    → Reached (entry symbol read_test t) (tested x) (test_kind (tested x)) vs (length t)
unfolding is_space
read_test_lem any_node vs t h sp =
    entered symbol node_word (open_sign ∷ close_sign ∷ vs) t read_test refl sp
    (λ r sr l s.
    reached_from (node_at r)
    (reached_more (read_brackets AnyNode vs r sr) (omega arith)))
read_test_lem element vs t h sp =
    entered symbol star_sign vs t read_test refl sp
    (λ r sr l s. record { at = r; reads = star_at r; spells = sr; shorter = s })
read_test_lem text_node vs t h sp =
    entered symbol text_word (open_sign ∷ close_sign ∷ vs) t read_test refl sp
    (λ r sr l s.
    reached_from (text_at r)
    (reached_more (read_brackets Text vs r sr) (omega arith)))
read_test_lem (named n small) vs t h sp =
    entered symbol (name_word n) vs t read_test refl sp
    (λ r sr l s.
    record {
      at = r;
      reads =
          name_at (decimal n ++ r) (decimal_first n r)
          ∙ ap (λ y. then y (λ n. give (Named n))) (name_reads n r small (no_digit name vs r tt h sr));
      spells = sr;
      shorter = s;
    })

pub read_step_lem : (x : Axis) (y : NodeTest) (vs : List Word) (t : List ℕ) → Sound vs
    → Spells symbol (axis_word x ∷ axis_sign ∷ (node_test_words y ++ vs)) t
    → Reached (read_step t) (record { axis = x; test = tested y }) (test_kind (tested y)) vs (length t)
read_step_lem x y vs t h sp =
    reached_then _
    (read_axis_lem x (node_test_words y ++ vs) t sp)
    (λ u su lu.
    reached_then _
    (read_word_lem word axis_sign (node_test_words y ++ vs) u axis_sign_solid su)
    (λ v sv lv.
    reached_then _ (read_test_lem y vs v h sv)
    (λ w sw lw.
    reached sw (omega arith))))
