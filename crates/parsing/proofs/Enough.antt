-- The readers of any two numbers that reach the text's length answer alike on it, so that `left` limits nothing.
--     enough                     the readers of a and b bytes answer alike on texts shorter than n, where n is neither
--                                above a nor above b
--     expr_enough, single_enough, items_enough, terms_enough, factors_enough, steps_enough
--                                .. the readers of each kind on a text of at most a and at most b bytes
use Prim.Native.Nat.{ℕ, zero, suc, ◌≤◌, ◌<◌}
use mathlib.Core.Path.{◌≡◌, refl, ap}
use mathlib.Core.List.{List}
use mathlib.Core.Bool.{Bool}
use native.Mathlib.Omega.{arith}
use lib.ListN.{length}
use Rattle.grammar.specs.Words.{Kind}
use Rattle.parsing.specs.declared.Ends.{Ends}
use Rattle.parsing.specs.declared.Next.{Next}
use Rattle.parsing.specs.Reader.{Res, ok, stuck, Reader, Readers, readers, read_expr, read_single, more_items}
use Rattle.parsing.specs.Reader.{more_terms, more_factors, more_steps}
use Rattle.parsing.proofs.Local.{Likeness, Alike, passed, halted, gone, Local}
use Rattle.parsing.proofs.LocalParts.{Inner}
use Rattle.parsing.proofs.LocalReader.{same, inner_next, inner_any}

-- of no text at all any two readers are alike
module _ {x : Likeness} {n : ℕ} where
  local_none : {A : Type 0} {f f' : Reader A} → Local x n f f → Local x zero f f'
  local_none h = record { alike = λ short l. absurd (omega arith); behind = h.behind }

  inner_none : {rd rd' : Readers} → Inner x n rd rd → Inner x zero rd rd'
  inner_none inner =
      record {
        expr = λ d e k. local_none (inner.expr d e k);
        single = λ d e k. local_none (inner.single d e k);
        items = λ d e xs m. local_none (inner.items d e xs m);
        terms = λ d e c xs m. local_none (inner.terms d e c xs m);
        factors = λ d e c xs m. local_none (inner.factors d e c xs m);
        steps = λ e c xs m. local_none (inner.steps e c xs m);
      }

pub enough : {x : Likeness} (n a b : ℕ) → n ≤ a → n ≤ b → Inner x n (readers a) (readers b)
enough zero a b h k = inner_none (inner_any a zero)
enough (suc n) zero b h k = absurd (omega arith)
enough (suc n) (suc a) zero h k = absurd (omega arith)
enough (suc n) (suc a) (suc b) h k = inner_next a b (enough n a b (omega arith) (omega arith))

alike_same : {A : Type 0} {r r' : Res A} → Alike same r r' → r ≡ r'
alike_same (passed a e) = ap (ok a) e
alike_same (halted e) = ap stuck e
alike_same (gone g) = absurd g

pub local_same : {A : Type 0} {f f' : Reader A} {n : ℕ} → Local same n f f' → (t : List ℕ) → length t < n → f t ≡ f' t
local_same h t short = alike_same (h.alike short refl)

module _ (a b : ℕ) (t : List ℕ) (fits : length t ≤ a) (fits' : length t ≤ b) where
  inner_same : Inner same (suc (length t)) (readers (suc a)) (readers (suc b))
  inner_same = enough (suc (length t)) (suc a) (suc b) (omega arith) (omega arith)

  pub expr_enough : (d : ℕ) (e : Ends) (k : Kind) → read_expr (readers a) d e k t ≡ read_expr (readers b) d e k t
  expr_enough d e k = local_same (inner_same.expr d e k) t (omega arith)

  pub single_enough : (d : ℕ) (e : Ends) (k : Kind) → read_single (readers a) d e k t ≡ read_single (readers b) d e k t
  single_enough d e k = local_same (inner_same.single d e k) t (omega arith)

  module _ (e : Ends) (xs : List ℕ) (m : Next) where
    pub items_enough : (d : ℕ) → more_items (readers a) d e xs m t ≡ more_items (readers b) d e xs m t
    items_enough d = local_same (inner_same.items d e xs m) t (omega arith)

    pub terms_enough : (d : ℕ) (c : Bool) → more_terms (readers a) d e c xs m t ≡ more_terms (readers b) d e c xs m t
    terms_enough d c = local_same (inner_same.terms d e c xs m) t (omega arith)

    pub factors_enough :
        (d : ℕ) (c : Bool) → more_factors (readers a) d e c xs m t ≡ more_factors (readers b) d e c xs m t
    factors_enough d c = local_same (inner_same.factors d e c xs m) t (omega arith)

    pub steps_enough : (c : Bool) → more_steps (readers a) e c xs m t ≡ more_steps (readers b) e c xs m t
    steps_enough c = local_same (inner_same.steps e c xs m) t (omega arith)
