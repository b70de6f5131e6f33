-- How a Single begins, by the byte and the word that come.
--     begins_binding, begins_choice, begins_sides, begins_stuck     what each answer says
--     begins_by, begins_left   the same answer of an equal definition; of what is left
--     begins_up                what the exit of a `?` hands up
--     begins_on                a reader behind one that is past what it reads
--     sign_at, variable_at, word_at, rest_at     the words of a binding, one after another
--     choice_at                if, up to its parenthesis and behind it
--     for_other, single_other  what begins with f and is no for; what begins with no word of a Single
--     single_at_lem                a Single, past the spaces
use Prim.Native.Nat.{ℕ}
use mathlib.Core.Path.{◌≡◌, refl, ◌∙◌, ap}
use mathlib.Core.List.{List, [], ◌∷◌}
use mathlib.Core.Bool.{Bool, true, false}
use lib.Dec.{eqb}
use lib.ListN.{drop}
use Rattle.std.specs.Prelude.{Result, Ok, Err}
use Rattle.std.specs.Result.{IsErrAnd}
use Rattle.numerals.specs.declared.Stuck.{Stuck}
use borrow.Author.Tests.{ne_eqb}
use Rattle.grammar.specs.Words.{Kind, symbol, word, name, open_sign, dollar_sign}
use Rattle.grammar.specs.Records.{record_qi}
use Rattle.laws.specs.Characters.{first}
use Rattle.parsing.specs.declared.Ends.{Ends}
use Rattle.parsing.specs.Reader.{Res, ok, stuck, Reader, then, entry, letters, read_word, read_variable, Readers, Went}
use Rattle.parsing.specs.Reader.{read_sides, read_choice, read_single}
use Rattle.spelling.specs.Answers.{Reads, entered, kind_is}
use Rattle.spelling.specs.declared.Before.{Before}
use Rattle.spelling.proofs.Answering.{entry_then, handed_up}
use Rattle.operands.specs.Going.{Halts}
use Rattle.operands.proofs.Follows.{halts_by, past_then}
use Rattle.beginnings.specs.declared.Beginning.{Beginning}
use Rattle.beginnings.specs.declared.Beginning.TheVariants as beginning
use Rattle.openings.specs.Opened.{opened_word}
use Rattle.beginnings.specs.Begun.{BindingComes, ChoiceComes, SidesCome, BeginningIs, Begins}
use Rattle.beginnings.specs.Begun.{binding_rest, binding_word, binding_variable, binding_sign}
use Rattle.beginnings.specs.Begun.{choice_rest, choice_part, for_part, single_word}

module _ {text before after : List ℕ} {made : ℕ} (rd : Readers) (d : ℕ) (e : Ends) {def : Res Went} where
  pub begins_binding : {from to : ℕ} (k : Before) → BindingComes text before after made rd d e def from to (kind_is k)
      → Begins text before after made rd d e def (Ok (beginning.Binding from to k))
  unfolding BeginningIs
  begins_binding k h = record { begins = h }

  pub begins_choice : {from to : ℕ} → ChoiceComes text before after made rd d e def from to
      → Begins text before after made rd d e def (Ok (beginning.Choice from to))
  unfolding BeginningIs
  begins_choice h = record { begins = h }

  pub begins_sides : {from : ℕ} {begun : Bool} → SidesCome text before after rd d e def from begun
      → Begins text before after made rd d e def (Ok (beginning.Sides from begun))
  unfolding BeginningIs
  begins_sides h = record { begins = h }

  pub begins_stuck : {k : Stuck} → Halts text def k.0 → Begins text before after made rd d e def (Err k)
  unfolding BeginningIs
  begins_stuck h = record { begins = h }

  -- what the exit of a `?` hands up
  pub begins_up : {k : Stuck} (r : Result Beginning Stuck) → IsErrAnd r (λ (y : Stuck). y ≡ k) → Halts text def k.0
      → Begins text before after made rd d e def r
  begins_up r h s = rw (handed_up r h) (begins_stuck s)

module _ {text before after : List ℕ} {made : ℕ} {rd : Readers} {d : ℕ} {e : Ends} where
  pub begins_by : {def other : Res Went} (r : Result Beginning Stuck) → other ≡ def
      → Begins text before after made rd d e def r
      → Begins text before after made rd d e other r
  unfolding BeginningIs
  begins_by (Ok (beginning.Binding from to k)) g h =
      let b = h.begins in
      record { begins = record { mark = b.mark; means = g ∙ b.means; inside = b.inside; added = b.added } }
  begins_by (Ok (beginning.Choice from to)) g h =
      let b = h.begins in
      record { begins = record { mark = b.mark; means = g ∙ b.means; inside = b.inside; added = b.added } }
  begins_by (Ok (beginning.Sides from begun)) g h =
      let b = h.begins in
      record { begins = record { means = g ∙ b.means; inside = b.inside; same = b.same } }
  begins_by (Err s) g h = record { begins = halts_by g h.begins }

  pub begins_left : {def : Res Went} (r : Result Beginning Stuck) (f : Reader Went) {t u : List ℕ}
      → t ≡ u
      → f u ≡ def
      → Begins text before after made rd d e def r
      → Begins text before after made rd d e (f t) r
  begins_left r f l g h = begins_by r (ap f l ∙ g) h

  module _ {A : Type 0} {m : Res A} (f : A → Reader Went) {p : ℕ} where
    pub begins_on : {a : A} (r : Result Beginning Stuck) → Reads text m (ok a (drop p text)) p
        → Begins text before after made rd d e (f a (drop p text)) r
        → Begins text before after made rd d e (then m f) r
    begins_on r done h = begins_by r (past_then f done) h

-- The words of a binding, one after another
module _ {text : List ℕ} (rd : Readers) (d : ℕ) (e : Ends) (ws : List ℕ) (k : Kind) {p : ℕ} where
  module _ (r : ℕ → List ℕ) where
    pub sign_at : {m : Res (Unit {0})} → Reads text m (ok tt (drop p text)) p
        → then m (λ done. binding_sign rd d e r ws k) ≡ binding_sign rd d e r ws k (drop p text)
    sign_at h = past_then (λ done. binding_sign rd d e r ws k) h

    pub variable_at : (t : List ℕ) → Reads text (read_word word dollar_sign t) (ok tt (drop p text)) p
        → binding_sign rd d e r ws k t ≡ binding_variable rd d e r ws k (drop p text)
    variable_at t h = past_then (λ signed. binding_variable rd d e r ws k) h

    pub word_at : (t : List ℕ) {v : ℕ} → Reads text (read_variable t) (ok v (drop p text)) p
        → binding_variable rd d e r ws k t ≡ binding_word rd d e (r v) ws k (drop p text)
    word_at t h = past_then (λ v. binding_word rd d e (r v) ws k) h

  pub rest_at : (bs t : List ℕ) → Reads text (entry name (letters ws) t) (ok tt (drop p text)) p
      → binding_word rd d e bs ws k t ≡ binding_rest rd d e bs k (drop p text)
  rest_at bs t h = past_then (λ done. binding_rest rd d e bs k) h

module _ (rd : Readers) (d : ℕ) (e : Ends) where
  opened_by : (m : Res (Unit {0}))
      → then m (λ done. read_choice rd d e)
      ≡ then (then m (λ done. read_word word open_sign)) (choice_rest rd d e record_qi)
  opened_by (ok x t) = refl
  opened_by (stuck t) = refl

  pub choice_at : (t : List ℕ)
      → choice_part rd d e t ≡ then (opened_word (102 ∷ []) t) (choice_rest rd d e record_qi)
  choice_at t = opened_by (letters (102 ∷ []) t)

  pub single_at_lem : (k : Kind) (t : List ℕ)
      → read_single rd d e k t ≡ then (entered k t) (λ done. single_word rd d e)
  single_at_lem k t = entry_then k (single_word rd d e) t

  module _ (t : List ℕ) (b : ℕ) (seen : first t ≡ b) where
    unseen : (k : ℕ) → (b ≡ k → ⊥) → eqb (first t) k ≡ false
    unseen k h = rw seen (ne_eqb b k h)

    pub for_other : (b ≡ 111 → ⊥) → for_part rd d e t ≡ read_sides rd d e true symbol t
    for_other h = rw (unseen 111 h)

    pub single_other : (((Unit {0} × (b ≡ 102 → ⊥)) × (b ≡ 108 → ⊥)) × (b ≡ 105 → ⊥))
        → single_word rd d e t ≡ read_sides rd d e false symbol t
    single_other h = rw (unseen 102 h.0.0.1, unseen 108 h.0.1, unseen 105 h.1)
