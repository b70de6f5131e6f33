-- Singles: each production is read.
--     for_single, let_single, if_single, sides_single     each production
--     Leading b bs      bytes that an operand can begin with: the first is no space, not `)`, and none that a let or an
--                       if begins with; where it is an f, the second is no o
--     Leads ws          .. of the first word
use Prim.Native.Nat.{ℕ, ◌≤◌, ◌<◌}
use mathlib.Core.Path.{◌≡◌, refl, sym, subst, ◌∙◌}
use mathlib.Core.Logic.{◌⊎◌, inl, inr}
use mathlib.Core.List.{List, [], ◌∷◌, ◌++◌}
use mathlib.Core.Bool.{true, false}
use native.Mathlib.Omega.{arith}
use lib.Dec.{eqb}
use lib.ListN.{length}
use borrow.Author.Tests.{eqb-true}
use Rattle.laws.proofs.Booleans.{by_cases}
use Rattle.grammar.specs.Words.{symbol, word, name, Word, open_sign, close_sign, dollar_sign, becomes_sign, Var}
use Rattle.grammar.specs.Words.{variable_word, for_word, let_word, if_word, in_word, return_word, then_word, else_word}
use Rattle.grammar.specs.Records.{record_qf, record_qt, record_qi}
use Rattle.laws.specs.Characters.{is_space, is_digit, first}
use Rattle.grammar.specs.Spelled.{joins, Spells}
use Rattle.parsing.specs.declared.Ends.{Ends}
use Rattle.parsing.specs.declared.Ends.TheVariants.{WithList, WithReturn, WithElse}
use Rattle.parsing.specs.declared.Next.{Next}
use Rattle.parsing.specs.declared.Next.TheVariants.{Close, Return, Else}
use Rattle.parsing.specs.Reader.{Reader, then, rest, byte, letters, kind_of, Went, went, Readers, readers}
use Rattle.parsing.specs.Reader.{read_sides, read_binding, read_choice}
use Rattle.parsing.proofs.CompleteWords.{Reached, reached, reached_from, reached_then, reached_more, Solid}
use Rattle.parsing.proofs.CompleteWords.{entered, read_word_lem}
use Rattle.parsing.proofs.CompleteNext.{follow, behind, allows}
use Rattle.parsing.proofs.CompleteLeaves.{read_open, read_variable_lem}
use Rattle.parsing.proofs.CompleteLevels.{loose_close, loose_return, loose_else, part_of, Loose, Sides, Single}
use Rattle.parsing.proofs.CompleteLevels.{Items, single_inside, items_inside}
use Rattle.parsing.proofs.CompleteChains.{regroup}
use Rattle.parsing.proofs.CompletePrimaries.{spells_on}

-- past the spaces
abbrev single_at : Readers → ℕ → Ends → Reader Went
single_at rd d e =
    byte 102
    (byte 111 (λ t. then (letters (114 ∷ []) t) (λ done. read_binding rd d e record_qf in_word))
    (read_sides rd d e true symbol))
    (byte 108 (λ t. then (letters (101 ∷ 116 ∷ []) t) (λ done. read_binding rd d e record_qt becomes_sign))
    (byte 105 (λ t. then (letters (102 ∷ []) t) (λ done. read_choice rd d e)) (read_sides rd d e false symbol)))

module _ (rd : Readers) (d : ℕ) (e : Ends) (u : List ℕ) where
  at_for : single_at rd d e (for_word.bytes ++ u) ≡ read_binding rd d e record_qf in_word u
  unfolding first rest
  at_for = refl

  at_let : single_at rd d e (let_word.bytes ++ u) ≡ read_binding rd d e record_qt becomes_sign u
  unfolding first rest
  at_let = refl

  at_if : single_at rd d e (if_word.bytes ++ u) ≡ read_choice rd d e u
  unfolding first rest
  at_if = refl

  -- the f of a false is taken already
  begun : read_sides rd d e true symbol u ≡ read_sides rd d e false symbol (102 ∷ u)
  unfolding first rest is_space is_digit joins
  begun = refl

dollar_solid : Solid dollar_sign.bytes
unfolding is_space
dollar_solid = refl

then_solid : Solid then_word.bytes
unfolding is_space
then_solid = refl

-- for and let

module _ {ws us : List Word} {xs ys : List ℕ} {d : ℕ} (p : Single ws xs d) (q : Single us ys d) where
  -- the second part, behind the first
  read_last : (made : List ℕ → List ℕ) (m : ℕ) (e : Ends) (n : Next) (vs : List Word) (b : ℕ) (t : List ℕ)
      → length t < m → length t < b → allows e true n ≡ true → Loose n → Spells word (us ++ follow n vs) t
      → Reached (then ((readers m).single d e word t) (λ w. went (made w.made) w.next)) (part_of (made ys) n)
      (kind_of n)
      (behind n vs)
      b
  read_last made m e n vs b t l g a s sp =
      reached_then _ (single_inside q m word e n vs t l a s sp)
      (λ u su lu. reached su (omega arith))

  read_binding_lem : (o : ℕ → List ℕ) (w : Word) → Solid w.bytes → (v : Var) (m : ℕ) (e : Ends) (n : Next)
      (vs : List Word) (t : List ℕ) → length t ≤ m → allows e true n ≡ true → Loose n
      → Spells word (dollar_sign ∷ variable_word v ∷ w ∷ ((ws ++ (return_word ∷ us)) ++ follow n vs)) t
      → Reached (read_binding (readers m) d e o w t) (part_of (o v.number ++ (xs ++ ys)) n) (kind_of n) (behind n vs)
      (length t)
  read_binding_lem o w h v m e n vs t l a s sp =
      reached_then _
      (read_word_lem word dollar_sign (variable_word v ∷ w ∷ ((ws ++ (return_word ∷ us)) ++ follow n vs)) t dollar_solid sp)
      (λ t₁ s₁ l₁.
      reached_then _
      (read_variable_lem v (w ∷ ((ws ++ (return_word ∷ us)) ++ follow n vs)) t₁ s₁)
      (λ t₂ s₂ l₂.
      reached_then _
      (read_word_lem name w ((ws ++ (return_word ∷ us)) ++ follow n vs) t₂ h s₂)
      (λ t₃ s₃ l₃.
      reached_then _
      (single_inside p m w.kind WithReturn Return (us ++ follow n vs) t₃ (omega arith) refl loose_return
      (regroup w.kind ws (return_word ∷ us) (follow n vs) t₃ s₃))
      (λ t₄ s₄ l₄.
      read_last (λ zs. o v.number ++ (xs ++ zs)) m e n vs (length t) t₄ (omega arith) (omega arith) a
      s
      s₄))))

  pub for_single : (v : Var)
      → Single (for_word ∷ dollar_sign ∷ variable_word v ∷ in_word ∷ (ws ++ (return_word ∷ us)))
      (record_qf v.number ++ (xs ++ ys))
      d
  unfolding is_space
  for_single v = record {
    reads =
        λ m k e n vs t l a s sp.
        entered
        k
        for_word
        (dollar_sign ∷ variable_word v ∷ in_word ∷ ((ws ++ (return_word ∷ us)) ++ follow n vs))
        t
        (single_at (readers m) d e)
        refl
        sp
        (λ r sr g h.
        reached_from (at_for (readers m) d e r)
        (reached_more (read_binding_lem record_qf in_word refl v m e n vs r (omega arith) a s sr) (omega arith)));
  }

  pub let_single : (v : Var)
      → Single (let_word ∷ dollar_sign ∷ variable_word v ∷ becomes_sign ∷ (ws ++ (return_word ∷ us)))
      (record_qt v.number ++ (xs ++ ys))
      d
  unfolding is_space
  let_single v = record {
    reads =
        λ m k e n vs t l a s sp.
        entered
        k
        let_word
        (dollar_sign ∷ variable_word v ∷ becomes_sign ∷ ((ws ++ (return_word ∷ us)) ++ follow n vs))
        t
        (single_at (readers m) d e)
        refl
        sp
        (λ r sr g h.
        reached_from (at_let (readers m) d e r)
        (reached_more (read_binding_lem record_qt becomes_sign refl v m e n vs r (omega arith) a s sr) (omega arith)));
  }

  -- if

  module _ {cs : List Word} {zs : List ℕ} (c : Items cs zs d) where
    read_choice_lem : (m : ℕ) (e : Ends) (n : Next) (vs : List Word) (t : List ℕ) → length t ≤ m
        → allows e true n ≡ true → Loose n
        → Spells word (open_sign ∷ ((cs ++ (close_sign ∷ then_word ∷ (ws ++ (else_word ∷ us)))) ++ follow n vs)) t
        → Reached (read_choice (readers m) d e t) (part_of (record_qi ++ (zs ++ (xs ++ ys))) n) (kind_of n) (behind n vs)
        (length t)
    read_choice_lem m e n vs t l a s sp =
        reached_then
        _
        (read_open word ((cs ++ (close_sign ∷ then_word ∷ (ws ++ (else_word ∷ us)))) ++ follow n vs) t sp)
        (λ t₁ s₁ l₁.
        reached_then _
        (items_inside c m symbol WithList Close (then_word ∷ ((ws ++ (else_word ∷ us)) ++ follow n vs)) t₁ (omega arith)
        refl
        refl
        loose_close
        refl
        (regroup symbol cs (close_sign ∷ then_word ∷ (ws ++ (else_word ∷ us))) (follow n vs) t₁ s₁))
        (λ t₂ s₂ l₂.
        reached_then _
        (read_word_lem symbol then_word ((ws ++ (else_word ∷ us)) ++ follow n vs) t₂ then_solid s₂)
        (λ t₃ s₃ l₃.
        reached_then _
        (single_inside p m word WithElse Else (us ++ follow n vs) t₃ (omega arith) refl loose_else
        (regroup word ws (else_word ∷ us) (follow n vs) t₃ s₃))
        (λ t₄ s₄ l₄.
        read_last (λ os. record_qi ++ (zs ++ (xs ++ os))) m e n vs (length t) t₄ (omega arith) (omega arith)
        a
        s
        s₄))))

    pub if_single : Single (if_word ∷ open_sign ∷ (cs ++ (close_sign ∷ then_word ∷ (ws ++ (else_word ∷ us)))))
        (record_qi ++ (zs ++ (xs ++ ys)))
        d
    unfolding is_space
    if_single = record {
      reads =
          λ m k e n vs t l a s sp.
          entered k if_word
          (open_sign ∷ ((cs ++ (close_sign ∷ then_word ∷ (ws ++ (else_word ∷ us)))) ++ follow n vs))
          t
          (single_at (readers m) d e)
          refl
          sp
          (λ r sr g h.
          reached_from (at_if (readers m) d e r)
          (reached_more (read_choice_lem m e n vs r (omega arith) a s sr) (omega arith)));
    }

-- A comparison

-- behind a first byte b
abbrev pub Second : ℕ → List ℕ → Type 0
Second b [] = eqb b 102 ≡ false
Second b (c ∷ cs) = (eqb b 102 ≡ false) ⊎ (eqb c 111 ≡ false)

pub record Leading (b : ℕ) (bs : List ℕ) : Type 0 where
  pub solid : is_space b ≡ false
  pub unclosed : eqb b 41 ≡ false
  pub no_if : eqb b 105 ≡ false
  pub no_let : eqb b 108 ≡ false
  pub no_for : Second b bs

abbrev pub LeadingBytes : List ℕ → Type 0
LeadingBytes [] = ⊥
LeadingBytes (b ∷ bs) = Leading b bs

abbrev pub Leads : List Word → Type 0
Leads [] = ⊥
Leads (w ∷ ws) = LeadingBytes w.bytes

leading_solid : (bs : List ℕ) → LeadingBytes bs → Solid bs
leading_solid [] h = h
leading_solid (b ∷ bs) h = h.solid

module _ (rd : Readers) (d : ℕ) (e : Ends) where
  no_word : (b : ℕ) (u : List ℕ) → eqb b 102 ≡ false → eqb b 108 ≡ false → eqb b 105 ≡ false
      → single_at rd d e (b ∷ u) ≡ read_sides rd d e false symbol (b ∷ u)
  unfolding first
  no_word b u f g h = rw (f, g, h)

  no_o : (c : ℕ) (u : List ℕ) → eqb c 111 ≡ false
      → single_at rd d e (102 ∷ c ∷ u) ≡ read_sides rd d e true symbol (c ∷ u)
  unfolding first rest
  no_o c u f = rw f

  sides_at : (bs r : List ℕ) → LeadingBytes bs → single_at rd d e (bs ++ r) ≡ read_sides rd d e false symbol (bs ++ r)
  sides_at [] r h = absurd h
  sides_at (b ∷ []) r h = no_word b r h.no_for h.no_let h.no_if
  sides_at (b ∷ c ∷ bs) r h = go h.no_for
    where
      go : (eqb b 102 ≡ false) ⊎ (eqb c 111 ≡ false)
          → single_at rd d e (b ∷ c ∷ (bs ++ r)) ≡ read_sides rd d e false symbol (b ∷ c ∷ (bs ++ r))
      go (inl f) = no_word b (c ∷ (bs ++ r)) f h.no_let h.no_if
      go (inr f) =
          by_cases (eqb b 102)
          (λ y.
          subst
          (λ x. single_at rd d e (x ∷ c ∷ (bs ++ r)) ≡ read_sides rd d e false symbol (x ∷ c ∷ (bs ++ r)))
          (sym (eqb-true b 102 y))
          (no_o c (bs ++ r) f ∙ begun rd d e (c ∷ (bs ++ r))))
          (λ z. no_word b (c ∷ (bs ++ r)) z h.no_let h.no_if)

pub sides_single : {xs : List ℕ} {d : ℕ} (ws : List Word) → Leads ws → Sides ws xs d → Single ws xs d
sides_single [] b p = absurd b
sides_single {xs} {d} (w ∷ ws) b p = record {
  reads =
      λ m k e n vs t l a s sp.
      entered k w (ws ++ follow n vs) t
      (single_at (readers m) d e)
      (leading_solid w.bytes b)
      sp
      (λ r sr g h.
      reached_from (sides_at (readers m) d e w.bytes r b)
      (reached_more
      (p.reads m symbol e n vs (w.bytes ++ r) (omega arith) a s (spells_on w (ws ++ follow n vs) r sr))
      g));
}
