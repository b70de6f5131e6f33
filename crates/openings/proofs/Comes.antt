-- How an operand begins, by the byte that comes.
--     whole_read               an operand that is read whole
--     opens_whole, opens_none, opens_list, opens_call     what each answer says
--     opens_up                 what the exit of a `?` hands up
--     opens_by, opens_left     the same answer of an equal definition; of what is left
--     call_at                  a call, up to its parenthesis and behind it
--     group_rest                behind ( and spaces
--     group_at, group_empty, group_none, group_list     .. by the byte that comes
--     digit_seen               a digit that was looked at
--     digit_on, primary_other  an operand that begins with a digit; with none of its bytes
use Prim.Native.Nat.{ℕ, zero, suc, ◌-◌}
use mathlib.Core.Path.{◌≡◌, refl, sym, ◌∙◌, ap}
use mathlib.Core.List.{List, ◌∷◌, ◌++◌}
use mathlib.Core.Bool.{Bool, true, false}
use native.Mathlib.Omega.{arith}
use lib.Dec.{eqb}
use lib.ListN.{drop}
use borrow.Author.Tests.{ne_eqb}
use Rattle.std.specs.Prelude.{Result, Ok, Err}
use Rattle.std.specs.Result.{IsErrAnd}
use Rattle.numerals.specs.declared.Stuck.{Stuck}
use Rattle.spelling.specs.declared.Before.{Before}
use Rattle.numerals.specs.Texts as texts
use Rattle.grammar.specs.Words.{symbol, word, open_sign}
use Rattle.grammar.specs.Records.{record_qe}
use Rattle.laws.specs.Characters.{first, is_digit}
use Rattle.parsing.specs.declared.Ends.TheVariants.{WithList, WithCall}
use Rattle.parsing.specs.Reader.{Res, ok, stuck, Reader, then, rest, byte, letters, read_word}
use Rattle.parsing.specs.Reader.{Readers, Operand, operand}
use Rattle.parsing.specs.Reader.{read_call, read_deeper, read_group, read_primary}
use Rattle.spelling.proofs.Bridging.{looks_first}
use Rattle.spelling.proofs.Answering.{entry_symbol, spaces_skip, handed_up}
use Rattle.operands.specs.declared.Part.{Part}
use Rattle.operands.specs.Going.{Halts, ReadsOperand}
use Rattle.operands.specs.Single.{number_operand}
use Rattle.operands.proofs.Follows.{part_by, part_stuck}
use Rattle.openings.specs.declared.Opening.{Opening}
use Rattle.openings.specs.declared.Opening.TheVariants as opening
use Rattle.openings.specs.Opened.{opened_word, called_part, ListComes, CallComes, OpeningIs, Opens}

-- an operand that is read whole
abbrev pub whole_read : Result (Part Before) Stuck → Result Opening Stuck
whole_read (Ok p) = Ok (opening.Whole p)
whole_read (Err s) = Err s

module _ {text before after : List ℕ} {made : ℕ} (rd : Readers) (d : ℕ) {def : Res Operand} where
  pub opens_whole : (r : Result (Part Before) Stuck) → ReadsOperand text before after made def r
      → Opens text before after made rd d def (whole_read r)
  unfolding OpeningIs
  opens_whole (Ok p) h = record { opens = h }
  opens_whole (Err s) h = record { opens = h }

  pub opens_none : {k : Stuck} → Halts text def k.0 → Opens text before after made rd d def (Err k)
  unfolding OpeningIs
  opens_none h = record { opens = part_stuck _ h }

  -- what the exit of a `?` hands up
  pub opens_up : {k : Stuck} (r : Result Opening Stuck) → IsErrAnd r (λ (y : Stuck). y ≡ k) → Halts text def k.0
      → Opens text before after made rd d def r
  opens_up r h s = rw (handed_up r h) (opens_none s)

  pub opens_list : {from parens : ℕ} → ListComes text before after rd def from parens
      → Opens text before after made rd d def (Ok (opening.List from parens))
  unfolding OpeningIs
  opens_list h = record { opens = h }

  pub opens_call : {from to : ℕ} → CallComes text before after made rd d def from to
      → Opens text before after made rd d def (Ok (opening.Call from to))
  unfolding OpeningIs
  opens_call h = record { opens = h }

pub opens_by : {text before after : List ℕ} {made : ℕ} {rd : Readers} {d : ℕ} {def other : Res Operand}
    (r : Result Opening Stuck)
    → other ≡ def
    → Opens text before after made rd d def r
    → Opens text before after made rd d other r
unfolding OpeningIs
opens_by (Ok (opening.Whole p)) e h = record { opens = part_by (Ok p) e h.opens }
opens_by (Ok (opening.List from parens)) e h =
    let k = h.opens in
    record { opens = record { means = e ∙ k.means; inside = k.inside; same = k.same } }
opens_by (Ok (opening.Call from to)) e h =
    let k = h.opens in
    record { opens = record { mark = k.mark; means = e ∙ k.means; inside = k.inside; added = k.added } }
opens_by (Err s) e h = record { opens = part_by (Err s) e h.opens }

pub opens_left : {text before after : List ℕ} {made : ℕ} {rd : Readers} {d : ℕ} {def : Res Operand}
    (r : Result Opening Stuck) (f : Reader Operand) {t u : List ℕ}
    → t ≡ u
    → f u ≡ def
    → Opens text before after made rd d def r
    → Opens text before after made rd d (f t) r
opens_left r f e g h = opens_by r (ap f e ∙ g) h

module _ (rd : Readers) (d : ℕ) (r : List ℕ) where
  abbrev pub call_rest : Unit {0} → Reader Operand
  call_rest done u = then (rd.single d WithCall symbol u) (λ w. operand (r ++ w.made) symbol)

  opened_by : (m : Res (Unit {0}))
      → then m (λ done. read_call rd d r) ≡ then (then m (λ done. read_word word open_sign)) call_rest
  opened_by (ok x t) = refl
  opened_by (stuck t) = refl

  pub call_at : (cs t : List ℕ) → called_part rd d cs r t ≡ then (opened_word cs t) call_rest
  call_at cs t = opened_by (letters cs t)

module _ (rd : Readers) (d : ℕ) where
  abbrev pub group_rest : Reader Operand
  group_rest = byte 41 (operand record_qe symbol) (read_deeper rd d)

  pub group_at : (text : List ℕ) (at from : ℕ) → drop from text ≡ texts.drop_spaces (drop at text)
      → read_group rd d (drop at text) ≡ group_rest (drop from text)
  group_at text at from e = entry_symbol group_rest (drop at text) ∙ ap group_rest (spaces_skip text at from e)

  pub group_empty : (t u : List ℕ) → t ≡ 41 ∷ u → group_rest t ≡ ok (record { made = record_qe; kind = symbol }) u
  unfolding first rest
  group_empty t u e = rw e

  module _ (t : List ℕ) (b : ℕ) (seen : first t ≡ b) (other : b ≡ 41 → ⊥) where
    group_other : group_rest t ≡ read_deeper rd d t
    group_other =
        let e : eqb (first t) 41 ≡ false = rw seen (ne_eqb b 41 other) in
        rw e

    pub group_none : d ≡ 0 → group_rest t ≡ stuck t
    group_none e = group_other ∙ rw e

    pub group_list : (d ≡ 0 → ⊥)
        → group_rest t ≡ then (rd.expr (d - 1) WithList symbol t) (λ w. operand w.made symbol)
    group_list h = group_other ∙ deeper d h
      where
        deeper : (n : ℕ) → (n ≡ 0 → ⊥)
            → read_deeper rd n t ≡ then (rd.expr (n - 1) WithList symbol t) (λ w. operand w.made symbol)
        deeper zero k = absurd (k refl)
        deeper (suc n) k = let e : suc n - 1 ≡ n = omega arith in rw e

pub digit_seen : (text : List ℕ) (at b : ℕ) → texts.Looks text at b → (r : Bool) → r ≡ is_digit b
    → is_digit (first (drop at text)) ≡ r
digit_seen text at b looks r e = rw (looks_first text at b looks) (sym e)

module _ (rd : Readers) (d : ℕ) (t : List ℕ) where
  pub digit_on : is_digit (first t) ≡ true → read_primary rd d t ≡ number_operand 2147483647 false t
  digit_on e = rw e

  module _ (b : ℕ) (seen : first t ≡ b) where
    unseen : (k : ℕ) → (b ≡ k → ⊥) → eqb (first t) k ≡ false
    unseen k h = rw seen (ne_eqb b k h)

    pub primary_other : is_digit (first t) ≡ false
        → ((((((((Unit {0} × (b ≡ 45 → ⊥)) × (b ≡ 36 → ⊥)) × (b ≡ 116 → ⊥)) × (b ≡ 102 → ⊥)) × (b ≡ 40 → ⊥))
        × (b ≡ 114 → ⊥))
        × (b ≡ 99 → ⊥))
        × (b ≡ 100 → ⊥))
        → read_primary rd d t ≡ stuck t
    primary_other e h =
        rw (
          e,
          unseen 45 h.0.0.0.0.0.0.0.1,
          unseen 36 h.0.0.0.0.0.0.1,
          unseen 116 h.0.0.0.0.0.1,
          unseen 102 h.0.0.0.0.1,
          unseen 40 h.0.0.0.1,
          unseen 114 h.0.0.1,
          unseen 99 h.0.1,
          unseen 100 h.1,
        )
