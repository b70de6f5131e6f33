-- What the reader reads is what the grammar says.
--     text_judged     the answer on a text
--     arrived_typed   a list that ends with the text is a whole text
--     sound           records that are read are those of a derivation of the text
use Prim.Native.Nat.{ℕ, ◌-◌}
use mathlib.Core.Path.{◌≡◌, refl, sym, ap, ◌∙◌, subst}
use mathlib.Core.List.{List, [], ◌++◌, append-nil}
use mathlib.Core.Bool.{false}
use native.Mathlib.Omega.{arith}
use lib.ListN.{length}
use Rattle.laws.specs.Attempt.{reads}
use Rattle.laws.proofs.Outcomes.{reads_same, refuses_reads}
use Rattle.grammar.specs.Words.{symbol}
use Rattle.grammar.specs.Grammar.{expr, most_groups, words}
use Rattle.grammar.specs.Spelled.{Spells}
use Rattle.grammar.specs.Typed.{Typed}
use Rattle.parsing.specs.declared.Ends.TheVariants.{WithText}
use Rattle.parsing.specs.declared.Next.TheVariants.{End}
use Rattle.parsing.specs.Reader.{Res, ok, stuck, Went, next_words, readers, read_expr, answer, read}
use Rattle.parsing.proofs.SoundJudged.{Judged, passes, halts}
use Rattle.parsing.proofs.SoundNext.{After, Finished, final}
use Rattle.parsing.proofs.SoundParts.{Arrived}
use Rattle.parsing.proofs.SoundSingles.{right_readers, expr_judged}

pub text_judged : (t : List ℕ)
    → Judged (Arrived expr most_groups 0 WithText false symbol) t
    (read_expr (readers (length t)) most_groups WithText symbol t)
text_judged t = expr_judged (readers (length t)) (right_readers (length t)) most_groups WithText symbol t

-- a whole text
pub arrived_typed : {s u : List ℕ} {w : Went} → Arrived expr most_groups 0 WithText false symbol s u w
    → (u ≡ []) × Typed s w.made
unfolding Spells
arrived_typed {s} {u} {w} a =
    let last : w.next ≡ End = final (λ h. a.loose) (λ low high. a.loose (omega arith) high) a.allowed in (
      subst (λ z. Finished z u) last a.finished,
      record {
        part = a.part;
        meant = a.meant;
        spelled = rw (append-nil (words a.part), append-nil s) at
            (subst
            (λ z. After z [] [] → Spells symbol (words a.part ++ (next_words z ++ [])) (s ++ [])) last
            (a.behind [] []) (refl, tt));
      },
    )

sound_from : (n : ℕ) (t bs : List ℕ) (r : Res Went)
    → Judged (Arrived expr most_groups 0 WithText false symbol) t r → answer n r ≡ reads bs → Typed t bs
sound_from n t bs (ok w u) (passes s cut a) e =
    let (none, typed) = arrived_typed a in
    subst (λ z. Typed z bs) (sym (cut ∙ (ap (λ z. s ++ z) none ∙ append-nil s)))
    (subst (λ z. Typed s z) (reads_same e) typed)
sound_from n t bs (stuck u) (halts s x w cut a) e = absurd (refuses_reads 9 (n - length u) bs e)

pub sound : (t bs : List ℕ) → read t ≡ reads bs → Typed t bs
sound t bs e = sound_from (length t) t bs _ (text_judged t) e
