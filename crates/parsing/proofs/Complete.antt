-- The reader is complete: a text of the grammar is read as its records, whatever derivation gives them. So a text of
-- the grammar is never refused, and it has one reading.
--     starts p          the first word of a part begins as its level asks
--     stated p          a part's words are read as its records
--     complete_within   a text of the grammar is read as its records by the readers for texts of as many bytes or more
--     complete          .. by the reader
--     never_refused     .. and not refused
--     the_only_one      two readings of a text are equal
use Prim.Native.Nat.{ℕ, ◌≤◌}
use mathlib.Core.Path.{◌≡◌, refl, sym, ap, subst, ◌∙◌}
use mathlib.Core.Logic.{inl, inr}
use mathlib.Core.List.{List, [], ◌∷◌, ◌++◌, append-nil}
use mathlib.Core.Bool.{true, false}
use native.Mathlib.Omega.{arith}
use lib.ListN.{length}
use borrow.Author.Tests.{ne_eqb}
use Rattle.laws.specs.Attempt.{reads, refuses}
use Rattle.grammar.specs.Numerals.{digit_bytes}
use Rattle.grammar.specs.Words.{Word, symbol}
use Rattle.grammar.specs.Grammar.{Level, expr, single, comparison, additive, multiplicative, path, primary, Part}
use Rattle.grammar.specs.Grammar.{a_single, comma, for_in, let_be, if_then, a_comparison, an_additive, compared}
use Rattle.grammar.specs.Grammar.{a_product, added, a_path, multiplied, a_primary, stepped, integer, negative}
use Rattle.grammar.specs.Grammar.{variable, truth, empty, root_of, counted, valued, group, most_groups, words, records}
use Rattle.laws.specs.Characters.{is_space, AllDigits}
use Rattle.laws.proofs.Characters.{digit_few}
use Rattle.grammar.specs.Spelled.{Spells}
use Rattle.grammar.specs.Typed.{Typed}
use Rattle.parsing.specs.declared.Ends.TheVariants.{WithText}
use Rattle.parsing.specs.declared.Next.TheVariants.{End}
use Rattle.parsing.specs.Reader.{readers, read_expr, answer, read}
use Rattle.parsing.proofs.CompleteWords.{Reached, no_space}
use Rattle.parsing.proofs.CompleteNumbers.{Some, typed_digits, typed_some}
use Rattle.parsing.proofs.CompleteLevels.{part_of, loose_end, Primary, Steps, Factors, Terms, Sides, Single}
use Rattle.parsing.proofs.CompleteLevels.{Items, items_closed}
use Rattle.parsing.proofs.CompleteChains.{primary_steps, step_steps, steps_factors, times_factors}
use Rattle.parsing.proofs.CompleteChains.{factors_terms, plus_terms, terms_sides, compare_sides, single_items}
use Rattle.parsing.proofs.CompleteChains.{comma_items}
use Rattle.parsing.proofs.CompletePrimaries.{Beginning, Begins, integer_primary, negative_primary}
use Rattle.parsing.proofs.CompletePrimaries.{variable_primary, truth_primary, empty_primary, root_primary}
use Rattle.parsing.proofs.CompletePrimaries.{count_primary, data_primary, group_primary}
use Rattle.parsing.proofs.CompleteSingles.{LeadingBytes, Leads, for_single, let_single, if_single}
use Rattle.parsing.proofs.CompleteSingles.{sides_single}

-- The first word of a part

abbrev Starts : Level → List Word → Type 0
Starts expr ws = Begins ws
Starts single ws = Begins ws
Starts comparison ws = Leads ws
Starts additive ws = Leads ws
Starts multiplicative ws = Leads ws
Starts path ws = Leads ws
Starts primary ws = Leads ws

begins_append : (ws us : List Word) → Begins ws → Begins (ws ++ us)
begins_append [] us h = absurd h
begins_append (w ∷ ws) us h = h

leads_append : (ws us : List Word) → Leads ws → Leads (ws ++ us)
leads_append [] us h = absurd h
leads_append (w ∷ ws) us h = h

leading_begins : (bs : List ℕ) → LeadingBytes bs → Beginning bs
leading_begins [] h = h
leading_begins (b ∷ bs) h = (h.solid, h.unclosed)

leads_begins : (ws : List Word) → Leads ws → Begins ws
leads_begins [] h = h
leads_begins (w ∷ ws) h = leading_begins w.bytes h

digits_lead : (bs : List ℕ) → Some bs → AllDigits bs → LeadingBytes bs
digits_lead [] n h = absurd n
digits_lead (b ∷ []) n h =
    let f = digit_few b h.0 in
    record {
      solid = no_space b (omega arith);
      unclosed = ne_eqb b 41 (λ z. omega arith);
      no_if = ne_eqb b 105 (λ z. omega arith);
      no_let = ne_eqb b 108 (λ z. omega arith);
      no_for = ne_eqb b 102 (λ z. omega arith);
    }
digits_lead (b ∷ c ∷ bs) n h =
    let f = digit_few b h.0 in
    record {
      solid = no_space b (omega arith);
      unclosed = ne_eqb b 41 (λ z. omega arith);
      no_if = ne_eqb b 105 (λ z. omega arith);
      no_let = ne_eqb b 108 (λ z. omega arith);
      no_for = inl (ne_eqb b 102 (λ z. omega arith));
    }

negative_lead : (bs : List ℕ) → LeadingBytes (45 ∷ bs)
unfolding is_space
negative_lead [] = record { solid = refl; unclosed = refl; no_if = refl; no_let = refl; no_for = refl }
negative_lead (b ∷ bs) = record { solid = refl; unclosed = refl; no_if = refl; no_let = refl; no_for = inl refl }

starts : {l : Level} {d : ℕ} (p : Part l d) → Starts l (words p)
unfolding words is_space
starts (a_single p) = starts p
starts (comma p q) = begins_append (words p) _ (starts p)
starts (for_in v p q) = (refl, refl)
starts (let_be v p q) = (refl, refl)
starts (if_then c p q) = (refl, refl)
starts (a_comparison p) = leads_begins (words p) (starts p)
starts (an_additive p) = starts p
starts (compared o p q) = leads_append (words p) _ (starts p)
starts (a_product p) = starts p
starts (added o p q) = leads_append (words p) _ (starts p)
starts (a_path p) = starts p
starts (multiplied o p q) = leads_append (words p) _ (starts p)
starts (a_primary p) = starts p
starts (stepped p x t) = leads_append (words p) _ (starts p)
starts (integer n small) = digits_lead (digit_bytes n) (typed_some n) (typed_digits n)
starts (negative n small) = negative_lead (digit_bytes n)
starts (variable v) = record { solid = refl; unclosed = refl; no_if = refl; no_let = refl; no_for = refl }
starts (truth true) = record { solid = refl; unclosed = refl; no_if = refl; no_let = refl; no_for = inl refl }
starts (truth false) = record { solid = refl; unclosed = refl; no_if = refl; no_let = refl; no_for = inr refl }
starts empty = record { solid = refl; unclosed = refl; no_if = refl; no_let = refl; no_for = refl }
starts (root_of n some small) =
    record { solid = refl; unclosed = refl; no_if = refl; no_let = refl; no_for = inl refl }
starts (counted p) = record { solid = refl; unclosed = refl; no_if = refl; no_let = refl; no_for = inl refl }
starts (valued p) = record { solid = refl; unclosed = refl; no_if = refl; no_let = refl; no_for = inl refl }
starts (group p) = record { solid = refl; unclosed = refl; no_if = refl; no_let = refl; no_for = refl }

-- Every part is read

abbrev Stated : Level → List Word → List ℕ → ℕ → Type 0
Stated expr ws xs d = Items ws xs d
Stated single ws xs d = Single ws xs d
Stated comparison ws xs d = Sides ws xs d
Stated additive ws xs d = Terms ws xs d
Stated multiplicative ws xs d = Factors ws xs d
Stated path ws xs d = Steps ws xs d
Stated primary ws xs d = Primary ws xs d

stated : {l : Level} {d : ℕ} (p : Part l d) → Stated l (words p) (records p) d
unfolding words records
stated (a_single p) = single_items (stated p)
stated (comma p q) = comma_items (stated p) (stated q)
stated (for_in v p q) = for_single (stated p) (stated q) v
stated (let_be v p q) = let_single (stated p) (stated q) v
stated (if_then c p q) = if_single (stated p) (stated q) (stated c)
stated (a_comparison p) = sides_single (words p) (starts p) (stated p)
stated (an_additive p) = terms_sides (stated p)
stated (compared o p q) = compare_sides o (stated p) (stated q)
stated (a_product p) = factors_terms (stated p)
stated (added o p q) = plus_terms o (stated p) (stated q)
stated (a_path p) = steps_factors (stated p)
stated (multiplied o p q) = times_factors o (stated p) (stated q)
stated (a_primary p) = primary_steps (stated p)
stated (stepped p x t) = step_steps x t (stated p)
stated (integer n small) = integer_primary n small
stated (negative n small) = negative_primary n small
stated (variable v) = variable_primary v
stated (truth b) = truth_primary b
stated empty = empty_primary
stated (root_of n some small) = root_primary n some small
stated (counted p) = count_primary (stated p)
stated (valued p) = data_primary (stated p)
stated (group p) = group_primary (words p) (starts p) (stated p)

-- The text

-- by readers for texts of more bytes, too
pub complete_within : (m : ℕ) (t bs : List ℕ) → length t ≤ m → Typed t bs
    → Reached (read_expr (readers m) most_groups WithText symbol t) (part_of bs End) symbol [] (length t)
complete_within m t bs l h =
    let p = h.part in
    subst
    (λ xs. Reached (read_expr (readers m) most_groups WithText symbol t) (part_of xs End) symbol [] (length t))
    h.meant
    (items_closed (stated p) m symbol WithText End [] t l refl refl loose_end refl
    (subst (λ ws. Spells symbol ws t) (sym (append-nil (words p))) h.spelled))

pub complete : (t bs : List ℕ) → Typed t bs → read t ≡ reads bs
complete t bs h = ap (answer (length t)) (complete_within (length t) t bs (omega arith) h).reads

pub never_refused : (t bs : List ℕ) (n p : ℕ) → Typed t bs → read t ≡ refuses n p → ⊥
never_refused t bs n p h e =
    let c : read t ≡ reads bs = complete t bs h in
    let z : ◌≡◌ {A = ℕ} 0 1 = cc in
    omega arith

pub the_only_one : (t bs cs : List ℕ) → Typed t bs → Typed t cs → bs ≡ cs
the_only_one t bs cs h g =
    let e : reads bs ≡ reads cs = sym (complete t bs h) ∙ complete t cs g in
    cc
