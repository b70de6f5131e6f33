-- The whole reader is local: where it is stuck, it is stuck there whatever bytes come behind the one that it is stuck
-- at; and what it leaves is an end of the text.
--     same               texts are alike where they are equal: nothing is beyond
--     Like c w w' t t'   the same bytes, then c, then w in t and w' in t'
--     place c w w'       such texts are alike; beyond is what is no longer than w
--     inner_any          the readers of any `left` are local
--     stuck_whatever     a local reader that is stuck at c ∷ w is stuck at c ∷ w' where w' comes for w
--     passed_whatever    .. one that passes and leaves c ∷ w passes and leaves c ∷ w'
--     expr_stuck, expr_passed, expr_behind, expr_parts     .. of the reader of texts
use Prim.Native.Nat.{ℕ, zero, suc, ◌≤◌, ◌<◌}
use mathlib.Core.Path.{◌≡◌, refl, ap}
use mathlib.Core.Logic.{◌⊎◌, inl, inr}
use mathlib.Core.List.{List, [], ◌∷◌, ◌++◌}
use native.Mathlib.Omega.{arith}
use lib.ListN.{length}
use Rattle.grammar.specs.Words.{Kind}
use Rattle.laws.specs.Characters.{first}
use Rattle.parsing.specs.declared.Ends.{Ends}
use Rattle.parsing.specs.Reader.{Res, ok, stuck, Reader, rest, ended, Went, Readers, read_expr, readers}
use Rattle.parsing.proofs.Local.{Suffix, left, Likeness, Alike, passed, halted, gone, Local}
use Rattle.parsing.proofs.Local.{suffix_length, suffix_parts, local_halt, local_less}
use Rattle.parsing.proofs.LocalParts.{Inner, local_expr, takes_single, local_items, local_terms, local_factors}
use Rattle.parsing.proofs.LocalParts.{local_steps}

-- The readers of any `left`

module _ {x : Likeness} {n : ℕ} where
  pub inner_next :
      (a b : ℕ) → Inner x n (readers a) (readers b) → Inner x (suc n) (readers (suc a)) (readers (suc b))
  inner_next a b inner =
      record {
        expr = local_expr inner;
        single = λ d e k. (takes_single inner d e k).local;
        items = local_items inner;
        terms = local_terms inner;
        factors = local_factors inner;
        steps = local_steps inner;
      }

  pub inner_less : {rd rd' : Readers} → Inner x (suc n) rd rd' → Inner x n rd rd'
  inner_less inner =
      record {
        expr = λ d e k. local_less (inner.expr d e k);
        single = λ d e k. local_less (inner.single d e k);
        items = λ d e xs m. local_less (inner.items d e xs m);
        terms = λ d e c xs m. local_less (inner.terms d e c xs m);
        factors = λ d e c xs m. local_less (inner.factors d e c xs m);
        steps = λ e c xs m. local_less (inner.steps e c xs m);
      }

pub inner_any : {x : Likeness} (most n : ℕ) → Inner x n (readers most) (readers most)
inner_any zero n =
    record {
      expr = λ d e k. local_halt;
      single = λ d e k. local_halt;
      items = λ d e xs m. local_halt;
      terms = λ d e c xs m. local_halt;
      factors = λ d e c xs m. local_halt;
      steps = λ e c xs m. local_halt;
    }
inner_any (suc most) zero = inner_less (inner_next most most (inner_any most zero))
inner_any (suc most) (suc n) = inner_next most most (inner_any most n)

-- Equal texts

abbrev pub same : Likeness
same =
    record {
      like = λ t t'. t ≡ t';
      beyond = λ u. ⊥;
      same_first = ap first;
      same_end = ap ended;
      onward = λ e. inl (ap rest e);
      deeper = λ end g. g;
    }

-- Texts that are the same as far as a place

pub data Like (c : ℕ) (w w' : List ℕ) : List ℕ → List ℕ → Type 0 where
  here : Like c w w' (c ∷ w) (c ∷ w')
  there : {t t' : List ℕ} (b : ℕ) → Like c w w' t t' → Like c w w' (b ∷ t) (b ∷ t')

module _ {c : ℕ} {w w' : List ℕ} where
  pub like_first : {t t' : List ℕ} → Like c w w' t t' → first t ≡ first t'
  unfolding first
  like_first here = refl
  like_first (there b l) = refl

  pub like_ended : {t t' : List ℕ} → Like c w w' t t' → ended t ≡ ended t'
  unfolding ended
  like_ended here = refl
  like_ended (there b l) = refl

  pub like_onward : {t t' : List ℕ} → Like c w w' t t' → Like c w w' (rest t) (rest t') ⊎ (length (rest t) ≤ length w)
  unfolding rest
  like_onward here = inr (omega arith)
  like_onward (there b l) = inl l

  like_long : {t t' : List ℕ} → Like c w w' t t' → length w < length t
  like_long here = omega arith
  like_long (there b l) = omega (arith, like_long l)

  -- as short as can be
  like_least : {t t' : List ℕ} → Like c w w' t t' → length t ≤ suc (length w) → t' ≡ c ∷ w'
  like_least here h = refl
  like_least (there b l) h = absurd (omega (arith, like_long l))

pub like_texts : (s : List ℕ) (c : ℕ) (w w' : List ℕ) → Like c w w' (s ++ (c ∷ w)) (s ++ (c ∷ w'))
like_texts [] c w w' = here
like_texts (b ∷ s) c w w' = there b (like_texts s c w w')

abbrev pub place : ℕ → List ℕ → List ℕ → Likeness
place c w w' =
    record {
      like = Like c w w';
      beyond = λ u. length u ≤ length w;
      same_first = like_first;
      same_end = like_ended;
      onward = like_onward;
      deeper = λ end g. omega (arith, suffix_length end);
    }

module _ {A : Type 0} (c : ℕ) (w w' : List ℕ) where
  alike_stuck : {r r' : Res A} → Alike (place c w w') r r' → r ≡ stuck (c ∷ w) → r' ≡ stuck (c ∷ w')
  alike_stuck (passed a l) e = let z : ◌≡◌ {A = ℕ} 0 1 = cc in absurd (omega arith)
  alike_stuck (halted l) e = ap stuck (like_least l (omega (arith, ap (λ (r : Res A). length (left r)) e)))
  alike_stuck (gone g) e = absurd (omega (arith, g, ap (λ (r : Res A). length (left r)) e))

  alike_passed :
      {r r' : Res A} (a : A) → Alike (place c w w') r r' → r ≡ ok a (c ∷ w) → r' ≡ ok a (c ∷ w')
  alike_passed a (passed b {t} {t'} l) e =
      let long : length t ≡ suc (length w) = ap (λ (r : Res A). length (left r)) e in
      let end : t' ≡ c ∷ w' = like_least l (omega arith) in
      let again : b ≡ a = cc in
      rw (end, again)
  alike_passed a (halted l) e = let z : ◌≡◌ {A = ℕ} 0 1 = cc in absurd (omega arith)
  alike_passed a (gone g) e = absurd (omega (arith, g, ap (λ (r : Res A). length (left r)) e))

  module _ {f : Reader A} (local : (n : ℕ) → Local (place c w w') n f f) (s : List ℕ) where
    both : Alike (place c w w') (f (s ++ (c ∷ w))) (f (s ++ (c ∷ w')))
    both = (local (suc (length (s ++ (c ∷ w))))).alike (omega arith) (like_texts s c w w')

    pub stuck_whatever : f (s ++ (c ∷ w)) ≡ stuck (c ∷ w) → f (s ++ (c ∷ w')) ≡ stuck (c ∷ w')
    stuck_whatever e = alike_stuck both e

    pub passed_whatever : (a : A) → f (s ++ (c ∷ w)) ≡ ok a (c ∷ w) → f (s ++ (c ∷ w')) ≡ ok a (c ∷ w')
    passed_whatever a e = alike_passed a both e

-- The reader of texts

module _ (most d : ℕ) (e : Ends) (k : Kind) where
  expr_local : {x : Likeness} (n : ℕ) → Local x n (read_expr (readers most) d e k) (read_expr (readers most) d e k)
  expr_local n = local_less (local_expr (inner_any most n) d e k)

  pub expr_behind : (t : List ℕ) → Suffix (left (read_expr (readers most) d e k t)) t
  expr_behind t = (expr_local {x = same} 0).behind t

  -- where it is stuck or passes, some bytes of the text stand before what is left
  pub expr_parts : (t : List ℕ) → (s : List ℕ) × (t ≡ s ++ left (read_expr (readers most) d e k t))
  expr_parts t = suffix_parts (expr_behind t)

  module _ (s : List ℕ) (c : ℕ) (w w' : List ℕ) where
    pub expr_stuck :
        read_expr (readers most) d e k (s ++ (c ∷ w)) ≡ stuck (c ∷ w)
        → read_expr (readers most) d e k (s ++ (c ∷ w')) ≡ stuck (c ∷ w')
    expr_stuck h = stuck_whatever c w w' expr_local s h

    pub expr_passed :
        (a : Went)
        → read_expr (readers most) d e k (s ++ (c ∷ w)) ≡ ok a (c ∷ w)
        → read_expr (readers most) d e k (s ++ (c ∷ w')) ≡ ok a (c ∷ w')
    expr_passed a h = passed_whatever c w w' expr_local s a h
