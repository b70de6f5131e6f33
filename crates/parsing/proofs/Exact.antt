-- What the reader refuses is outside the grammar, and its place is the one that the grammar says: from that it reads
-- every text of the grammar, that it reads nothing else, and that what it has read of a text begins one of the grammar.
--     whole most t      the reader of texts, for at most so many bytes
--     nine              the reader refuses with 9 alone
--     Refused t p       t is refused at p: the bytes before, those behind, the reader stuck between
--     refused_parts     a refused text has these parts
--     refused_before    .. the first are as many as the place says
--     still_refused     a text that is refused at p is refused at p whatever comes behind the byte there
--     begins_take       what begins a text of the grammar does so cut anywhere
--     place_only        no text is outside the grammar at two places
--     Reads             the three facts
--     outside           a refused text is outside, at that place
--     only_one          a text is read as one list of records at most
--     typed_or_outside  each text is typed or outside
--     not_both          .. never both
--     decided           the call has one outcome
use Prim.Native.Nat.{ℕ, suc, ◌+◌, ◌-◌, ◌≤◌, ◌<◌}
use mathlib.Core.Path.{◌≡◌, refl, sym, ap, ap₂, subst, ◌∙◌}
use mathlib.Core.Logic.{◌⊎◌, inl, inr}
use mathlib.Core.List.{List, [], ◌∷◌, ◌++◌, append_assoc}
use native.Mathlib.Omega.{arith}
use lib.ListN.{length, take, drop, length-append, take-append-drop}
use lib.Seq.{take-take, take_at}
use Rattle.laws.specs.Attempt.{Reading, refuses, reads}
use Rattle.laws.proofs.Outcomes.{refuses_reads, reads_same}
use Rattle.meaning.specs.Query.{query_read}
use Rattle.meaning.specs.Calls.{Outcome, refusal}
use Rattle.grammar.specs.Words.{symbol}
use Rattle.grammar.specs.Grammar.{most_groups}
use Rattle.grammar.specs.Typed.{Typed, Begins, Outside, records_outcome, TypedCall, outside as called-outside, inside}
use Rattle.parsing.specs.declared.Ends.TheVariants.{WithText}
use Rattle.parsing.specs.Reader.{Res, ok, stuck, Went, read_expr, readers, answer, read}
use Rattle.parsing.proofs.Local.{Suffix, left, suffix_parts}
use Rattle.parsing.proofs.LocalReader.{expr_stuck, expr_behind}
use Rattle.parsing.proofs.Enough.{expr_enough}

-- The reader of texts

pub whole : ℕ → List ℕ → Res Went
whole most t = read_expr (readers most) most_groups WithText symbol t

pub read_whole : (t : List ℕ) → read t ≡ answer (length t) (whole (length t) t)
unfolding whole
read_whole t = refl

whole_behind : (most : ℕ) (t : List ℕ) → Suffix (left (whole most t)) t
unfolding whole
whole_behind most t = expr_behind most most_groups WithText symbol t

whole_enough : (a b : ℕ) (t : List ℕ) → length t ≤ a → length t ≤ b → whole a t ≡ whole b t
unfolding whole
whole_enough a b t h k = expr_enough a b t h k most_groups WithText symbol

whole_stuck :
    (most : ℕ) (s : List ℕ) (c : ℕ) (w w' : List ℕ)
    → whole most (s ++ (c ∷ w)) ≡ stuck (c ∷ w) → whole most (s ++ (c ∷ w')) ≡ stuck (c ∷ w')
unfolding whole
whole_stuck most s c w w' e = expr_stuck most most_groups WithText symbol s c w w' e

answer_nine : (n k p : ℕ) (r : Res Went) → answer n r ≡ refuses k p → k ≡ 9
answer_nine n k p (ok w u) e = absurd (refuses_reads k p w.made (sym e))
answer_nine n k p (stuck u) e = cc

answer_stuck :
    (n k p : ℕ) (r : Res Went) → answer n r ≡ refuses k p → (r ≡ stuck (left r)) × (p ≡ n - length (left r))
answer_stuck n k p (ok w u) e = absurd (refuses_reads k p w.made (sym e))
answer_stuck n k p (stuck u) e = (refl, cc)

pub nine : (t : List ℕ) (k p : ℕ) → read t ≡ refuses k p → k ≡ 9
nine t k p e = answer_nine (length t) k p (whole (length t) t) (sym (read_whole t) ∙ e)

-- A refusal stands whatever comes behind its place

refused_there :
    (s : List ℕ) (c : ℕ) (w more : List ℕ) → whole (length (s ++ (c ∷ w))) (s ++ (c ∷ w)) ≡ stuck (c ∷ w)
    → read (s ++ (c ∷ more)) ≡ refuses 9 (length s)
refused_there s c w more e =
    let t : List ℕ = s ++ (c ∷ w) in
    let t' : List ℕ = s ++ (c ∷ more) in
    let n : ℕ = length t + length t' in
    let far : whole n t ≡ stuck (c ∷ w) = whole_enough n (length t) t (omega arith) (omega arith) ∙ e in
    let there : whole (length t') t' ≡ stuck (c ∷ more) =
    whole_enough (length t') n t' (omega arith) (omega arith) ∙ whole_stuck n s c w more far
    in
    let at : length t' - length (c ∷ more) ≡ length s = simp length-append (omega arith) in
    read_whole t' ∙ ap (answer (length t')) there ∙ ap (refuses 9) at

cut : (s : List ℕ) (c : ℕ) (w more : List ℕ) → take (suc (length s)) (s ++ (c ∷ w)) ++ more ≡ s ++ (c ∷ more)
cut [] c w more = refl
cut (b ∷ s) c w more = ap (λ (l : List ℕ). b ∷ l) (cut s c w more)

-- a refused text: what was read of it, what is left, and the place between
pub record Refused (t : List ℕ) (p : ℕ) : Type 0 where
  pub before : List ℕ
  pub after : List ℕ
  pub parts : t ≡ before ++ after
  pub seam : length before ≡ p
  pub stops : whole (length t) t ≡ stuck after

pub refused_parts : (t : List ℕ) (k p : ℕ) → read t ≡ refuses k p → Refused t p
refused_parts t k p e =
    let r : Res Went = whole (length t) t in
    let found : (r ≡ stuck (left r)) × (p ≡ length t - length (left r)) =
    answer_stuck (length t) k p r (sym (read_whole t) ∙ e)
    in
    let cuts : (s : List ℕ) × (t ≡ s ++ left r) = suffix_parts (whole_behind (length t) t) in
    let long : length t ≡ length cuts.0 + length (left r) =
    ap length cuts.1 ∙ length-append cuts.0 (left r)
    in
    record { before = cuts.0; after = left r; parts = cuts.1; seam = omega arith; stops = found.0 }

pub refused_before : (t : List ℕ) (p : ℕ) (r : Refused t p) → take p t ≡ r.before
refused_before t p r =
    ap (take p) r.parts ∙ take_at r.before r.after p r.seam

pub still_refused :
    (t : List ℕ) (k p : ℕ) → read t ≡ refuses k p → p < length t → (more : List ℕ)
    → read (take (suc p) t ++ more) ≡ refuses 9 p
still_refused t k p e h more =
    let r : Refused t p = refused_parts t k p e in
    go r.before r.after r.parts r.seam r.stops
  where
    go :
        (s u : List ℕ) → t ≡ s ++ u → length s ≡ p → whole (length t) t ≡ stuck u
        → read (take (suc p) t ++ more) ≡ refuses 9 p
    go s [] parts seam stops = absurd (omega (arith, ap length parts, length-append s []))
    go s (c ∷ w) parts seam stops =
        let begun : take (suc p) t ++ more ≡ s ++ (c ∷ more) =
        ap₂ (λ (n : ℕ) (l : List ℕ). take (suc n) l ++ more) (sym seam) parts ∙ cut s c w more
        in
        ap read begun
        ∙ refused_there s c w more (subst (λ (l : List ℕ). whole (length l) l ≡ stuck (c ∷ w)) parts stops)
        ∙ ap (refuses 9) seam

-- What the grammar says of places

pub begins_take : (n : ℕ) (t : List ℕ) → Begins t → Begins (take n t)
begins_take n t b =
    record {
      more = drop n t ++ b.more;
      bytes = b.bytes;
      typed = subst (λ (l : List ℕ). Typed l b.bytes) parts b.typed;
    }
  where
    parts : t ++ b.more ≡ take n t ++ (drop n t ++ b.more)
    parts =
        ap (λ (l : List ℕ). l ++ b.more) (sym (take-append-drop n t))
        ∙ append_assoc (take n t) (drop n t) b.more

not_before : (t : List ℕ) (p q : ℕ) → Outside t p → Outside t q → ¬ (p < q)
not_before t p q o o' h =
    o.ends (omega (arith, o'.within))
    (subst Begins (take-take (suc p) q t h) (begins_take (suc p) (take q t) o'.begins))

pub place_only : (t : List ℕ) (p q : ℕ) → Outside t p → Outside t q → p ≡ q
place_only t p q o o' = omega (arith, not_before t p q o o', not_before t q p o' o)

pub not_both : (t bs : List ℕ) (p : ℕ) → Typed t bs → Outside t p → ⊥
not_both t bs p typed o = o.untyped bs typed

-- What follows from the three facts

pub record Reads : Type 0 where
  pub complete : (t bs : List ℕ) → Typed t bs → read t ≡ reads bs
  pub viable : (t : List ℕ) (p : ℕ) → read t ≡ refuses 9 p → (p ≤ length t) × Begins (take p t)
  pub sound : (t bs : List ℕ) → read t ≡ reads bs → Typed t bs

module _ (facts : Reads) where
  pub outside : (t : List ℕ) (p : ℕ) → read t ≡ refuses 9 p → Outside t p
  outside t p e =
      record {
        untyped = λ bs typed. refuses_reads 9 p bs (sym e ∙ facts.complete t bs typed);
        within = (facts.viable t p e).0;
        begins = (facts.viable t p e).1;
        ends = λ h b.
            refuses_reads 9 p b.bytes
            (sym (still_refused t 9 p e h b.more)
            ∙ facts.complete (take (suc p) t ++ b.more) b.bytes b.typed);
      }

  pub only_one : (t bs bs' : List ℕ) → Typed t bs → Typed t bs' → bs ≡ bs'
  only_one t bs bs' h k = reads_same (sym (facts.complete t bs h) ∙ facts.complete t bs' k)

  pub typed_or_outside : (t : List ℕ) → ((bs : List ℕ) × Typed t bs) ⊎ ((p : ℕ) × Outside t p)
  typed_or_outside t = go (read t) refl
    where
      go : (r : Reading (List ℕ)) → read t ≡ r → ((bs : List ℕ) × Typed t bs) ⊎ ((p : ℕ) × Outside t p)
      go (refuses k p) e = inr (p, outside t p (e ∙ ap (λ (n : ℕ). refuses n p) (nine t k p e)))
      go (reads bs) e = inl (bs, facts.sound t bs e)

  pub decided : (t : List ℕ) (lent : ℕ) (o o' : Outcome ℕ) → TypedCall t lent o → TypedCall t lent o' → o ≡ o'
  decided t lent o o' (called-outside p h e) (called-outside q k f) =
      e ∙ ap (refusal 0 lent 9) (place_only t p q h k) ∙ sym f
  decided t lent o o' (called-outside p h e) (inside bs k f) = absurd (not_both t bs p k h)
  decided t lent o o' (inside bs h e) (called-outside p k f) = absurd (not_both t bs p h k)
  decided t lent o o' (inside bs h e) (inside bs' k f) =
      e ∙ ap (λ (xs : List ℕ). records_outcome lent xs (query_read xs)) (only_one t bs bs' h k) ∙ sym f
