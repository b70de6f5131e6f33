-- Where the reader refuses, a text of the grammar begins with all before it.
--     viable           .. with the bytes before the place of the refusal, which is in the text or at its end
--     refuses_nine     a text is refused with 9 alone
use Prim.Native.Nat.{ℕ, ◌+◌, ◌-◌, ◌≤◌}
use mathlib.Core.Path.{◌≡◌, sym, ap, ◌∙◌, subst}
use mathlib.Core.List.{List, ◌++◌}
use mathlib.Core.Bool.{false}
use native.Mathlib.Omega.{arith}
use lib.ListN.{length, take, length-append}
use lib.Seq.{take_at}
use Rattle.laws.specs.Attempt.{Reading, refuses}
use Rattle.laws.proofs.Outcomes.{refuses_reads}
use Rattle.grammar.specs.Words.{symbol}
use Rattle.grammar.specs.Grammar.{expr, most_groups}
use Rattle.grammar.specs.Typed.{Typed, Begins}
use Rattle.parsing.specs.declared.Ends.TheVariants.{WithText}
use Rattle.parsing.specs.Reader.{Res, ok, stuck, Went, readers, read_expr, answer, read}
use Rattle.parsing.proofs.SoundJudged.{Judged, passes, halts}
use Rattle.parsing.proofs.SoundParts.{Arrived}
use Rattle.parsing.proofs.Sound.{text_judged, arrived_typed}

same_place : {A : Type 0} (n p m q : ℕ) → ◌≡◌ {A = Reading A} (refuses n p) (refuses m q) → p ≡ q
same_place n p m q e = cc

same_number : {A : Type 0} (n p m q : ℕ) → ◌≡◌ {A = Reading A} (refuses n p) (refuses m q) → n ≡ m
same_number n p m q e = cc

viable_from : (t : List ℕ) (p : ℕ) (r : Res Went) → Judged (Arrived expr most_groups 0 WithText false symbol) t r
    → answer (length t) r ≡ refuses 9 p → (p ≤ length t) × Begins (take p t)
viable_from t p (ok w u) (passes s cut a) e = absurd (refuses_reads 9 p w.made (sym e))
viable_from t p (stuck u) (halts s x w cut a) e =
    let place : length t - length u ≡ p = same_place 9 (length t - length u) 9 p e in
    let long : length t ≡ length s + length u = ap length cut ∙ length-append s u in
    let here : length s ≡ p = omega arith in (
      omega arith,
      record {
        more = x;
        bytes = w.made;
        typed = subst (λ z. Typed (z ++ x) w.made) (sym (ap (take p) cut ∙ take_at s u p here)) (arrived_typed a).1;
      },
    )

pub viable : (t : List ℕ) (p : ℕ) → read t ≡ refuses 9 p → (p ≤ length t) × Begins (take p t)
viable t p e = viable_from t p _ (text_judged t) e

nine_from : (l n p : ℕ) (r : Res Went) → answer l r ≡ refuses n p → n ≡ 9
nine_from l n p (ok w u) e = absurd (refuses_reads n p w.made (sym e))
nine_from l n p (stuck u) e = sym (same_number 9 (l - length u) n p e)

pub refuses_nine : (t : List ℕ) (n p : ℕ) → read t ≡ refuses n p → n ≡ 9
refuses_nine t n p e = nine_from (length t) n p (read_expr (readers (length t)) most_groups WithText symbol t) e
