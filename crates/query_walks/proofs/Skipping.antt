-- What `skip` and `free` lean on: the operands of the record at an offset, their ends, and their free variables.
--     parse_deep, parse_unsound    no tree at depth 0, or where no record is
--     parse_sound       the operands of the record that was read
--     past_one, past_two, past_binding, past_three     the end of a tree, from the ends of its operands
--     free_none, free_variable, free_one, free_two, free_binding, free_three    its free variables, from theirs
use Rattle.std.specs.Prelude.{Option, Some, None}
use Prim.Native.Nat.{ℕ, ◌-◌, ◌<◌}
use mathlib.Core.Path.{◌≡◌, refl, sym, ◌∙◌, ap, subst}
use mathlib.Core.Bool.{Bool, true, false, not, ◌&&◌}
use mathlib.Core.List.{List}
use native.Mathlib.Omega.{arith}
use native.Mathlib.Decide.{ℕ_discrete, dec_lt}
use borrow.Author.Tests.{eq-eqb, ne_eqb}
use lib.Dec.{eqb}
use lib.ListN.{length, get_or, set, replicate, get_or-replicate, get_or-eq_default}
use lib.Seq.{get_or-set_same, get_or-set_other, set_out}
use Rattle.cells.specs.Bytes.{word}
use Rattle.laws.specs.Attempt.{gives}
use Rattle.meaning.specs.Query.{Query, record_of, free}
use Rattle.query_records.specs.declared.Decoded.{Decoded}
use Rattle.query_records.specs.declared.Operands.{Operands}
use Rattle.query_records.specs.declared.Operands.TheVariants.{None, Variable, One, Two, Binding, Three}
use Rattle.query_records.specs.Decoded as Code
use Rattle.query_records.specs.Decoded.{Means, operands_of}
use Rattle.query_walks.specs.Parse.{Parsed, parse, Past, Free, Either}
use Rattle.laws.proofs.Outcomes.{fails_gives}
use Rattle.query_walks.proofs.Parsing.{trees_spans}
use Rattle.query_walks.proofs.Callers.{unfound_parses, found_parses, shallow_parses}
use Rattle.query_walks.specs.Statements.{Spans}

-- The record at an offset

pub parse_deep : (bs : List ℕ) (at d : ℕ) → d ≡ 0 → (x : Query × ℕ) → parse d bs at ≡ gives x → ⊥
parse_deep bs at d z x p = fails_gives x (sym (shallow_parses bs at d z) ∙ p)

module _ (bs : List ℕ) (at : ℕ) (r : Option Decoded) (m : Means r (record_of bs at (word bs at 2))) (d : ℕ) where
  pub parse_unsound : r ≡ None → (x : Query × ℕ) → parse d bs at ≡ gives x → ⊥
  parse_unsound h x p = fails_gives x (sym (unfound_parses bs at r m h d) ∙ p)

  pub parse_sound :
      (f : Decoded) (o p : Operands) → r ≡ Some f → (d ≡ 0 → ⊥) →
      o ≡ operands_of (Code.record_of f.kind) → o ≡ p →
      (x : Query × ℕ) → parse d bs at ≡ gives x → Spans (parse (d - 1) bs) f.next p x.0 x.1
  parse_sound f o p h z q s x t =
      subst (λ (o : Operands). Spans (parse (d - 1) bs) f.next o x.0 x.1) (sym q ∙ s)
      (trees_spans (parse (d - 1) bs) f.next (Code.record_of f.kind) at x
      (sym (found_parses bs at r m f h d z) ∙ t))

-- The end of a tree

module _ (rd : ℕ → Parsed) (next : ℕ) (q : Query) (e : ℕ) where
  pub past_one : (a : ℕ) → Past (rd next) a → Spans rd next One q e → a ≡ e
  unfolding Spans
  past_one a g (x, p, n, f) = g x p ∙ n

  -- the second of two operands is read from where the first ends
  then : (a : ℕ) (x y : Query × ℕ) → Past (rd next) a → rd next ≡ gives x → rd x.1 ≡ gives y → rd a ≡ gives y
  then a x y g p s = ap rd (g x p) ∙ s

  pub past_two : (a b : ℕ) → Past (rd next) a → Past (rd a) b → Spans rd next Two q e → b ≡ e
  unfolding Spans
  past_two a b g h (x, y, p, s, n, f) = h y (then a x y g p s) ∙ n

  pub past_binding : (u a b : ℕ) → Past (rd next) a → Past (rd a) b → Spans rd next (Binding u) q e → b ≡ e
  unfolding Spans
  past_binding u a b g h (x, y, p, s, n, f) = h y (then a x y g p s) ∙ n

pub past_three :
    (rd : ℕ → Parsed) (next : ℕ) (q : Query) (e a b c : ℕ) →
    Past (rd next) a → Past (rd a) b → Past (rd b) c → Spans rd next Three q e → c ≡ e
unfolding Spans
past_three rd next q e a b c g h i (w, x, y, p, s, t, n, f) =
    let l = then rd next q e a w x g p s in
    i y (then rd a q e b x y h l t) ∙ n

-- Its free variables

-- the flags of a tree's free variables
abbrev Flagged : List Bool → Query → Type 0
Flagged fs q = (v : ℕ) → v < 8 → get_or fs v false ≡ free v q

set_clear : (fs : List Bool) (u : ℕ) → get_or (set fs u false) u false ≡ false
set_clear fs u = go (dec_lt u (length fs))
  where
    go : Dec (u < length fs) → get_or (set fs u false) u false ≡ false
    go (yes h) = get_or-set_same fs u false false h
    go (no h) = rw (set_out fs u false (omega arith)) (get_or-eq_default fs false (omega arith))

clear_flag : (fs : List Bool) (u v : ℕ) → get_or (set fs u false) v false ≡ not (eqb v u) && get_or fs v false
clear_flag fs u v = go (ℕ_discrete v u)
  where
    go : Dec (v ≡ u) → get_or (set fs u false) v false ≡ not (eqb v u) && get_or fs v false
    go (yes h) = rw (h, eq-eqb u u refl) (set_clear fs u)
    go (no h) = rw (ne_eqb v u h) (get_or-set_other fs u v false false h)

only_flag : (u v : ℕ) → v < 8 → get_or (set (replicate 8 false) u true) v false ≡ eqb v u
only_flag u v l = go (ℕ_discrete v u)
  where
    go : Dec (v ≡ u) → get_or (set (replicate 8 false) u true) v false ≡ eqb v u
    go (yes h) = rw (h, eq-eqb u u refl) (get_or-set_same (replicate 8 false) u true false (omega arith))
    go (no h) =
        rw (ne_eqb v u h)
        (get_or-set_other (replicate 8 false) u v true false h ∙ get_or-replicate 8 v false false l)

module _ (rd : ℕ → Parsed) (next : ℕ) (q : Query) (e : ℕ) where
  pub free_none : Spans rd next None q e → Flagged (replicate 8 false) q
  unfolding Spans
  free_none (n, f) v l = get_or-replicate 8 v false false l ∙ sym (f v)

  pub free_variable : (u : ℕ) → Spans rd next (Variable u) q e → Flagged (set (replicate 8 false) u true) q
  unfolding Spans
  free_variable u (n, f) v l = only_flag u v l ∙ sym (f v)

  pub free_one : (fs : List Bool) → Free (rd next) fs → Spans rd next One q e → Flagged fs q
  unfolding Spans
  free_one fs g (x, p, n, f) v l = g x p v l ∙ sym (f v)

  pub free_two :
      (a : ℕ) (fs gs hs : List Bool) → Past (rd next) a → Free (rd next) fs → Free (rd a) gs → Either fs gs hs →
      Spans rd next Two q e → Flagged hs q
  unfolding Spans
  free_two a fs gs hs k g h i (x, y, p, s, n, f) v l =
      rw (i v l, g x p v l, h y (then rd next q e a x y k p s) v l) (sym (f v))

  pub free_binding :
      (u a : ℕ) (fs gs hs : List Bool) →
      Past (rd next) a → Free (rd next) fs → Free (rd a) gs → Either fs (set gs u false) hs →
      Spans rd next (Binding u) q e → Flagged hs q
  unfolding Spans
  free_binding u a fs gs hs k g h i (x, y, p, s, n, f) v l =
      rw (i v l, clear_flag gs u v, g x p v l, h y (then rd next q e a x y k p s) v l) (sym (f v))

  pub free_three :
      (a b : ℕ) (fs gs hs is js : List Bool) → Past (rd next) a → Past (rd a) b →
      Free (rd next) fs → Free (rd a) gs → Free (rd b) hs → Either fs gs is → Either is hs js →
      Spans rd next Three q e → Flagged js q
  unfolding Spans
  free_three a b fs gs hs is js k m g h i j o (w, x, y, p, s, t, n, f) v l =
      let c = then rd next q e a w x k p s in
      rw (o v l, j v l, g w p v l, h x c v l, i y (then rd a q e b x y m c t) v l) (sym (f v))
