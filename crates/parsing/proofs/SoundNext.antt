-- The word after an operand, as the reader reads it.
--     Allowed e c n      word n may come behind an operand in a part that ends as e says; c: no comparison may come
--     After n more x     bytes x spell the words more behind n; nothing is behind the end
--     Finished n u       behind the end of the text nothing is left
--     Following e c k s u n     bytes s, behind a word of kind k, are spaces and word n, with u left
--     Loose i n          n goes on no chain of tightness i or more
--     end_of e            the word that ends a part
--     final              what is allowed and goes on no chain ends the part
use Prim.Native.Nat.{ℕ, suc, ◌≤◌, ◌<◌}
use mathlib.Core.Path.{◌≡◌, refl}
use mathlib.Core.List.{List, [], ◌∷◌, ◌++◌, append-nil}
use mathlib.Core.Bool.{Bool, true, false, not, ◌||◌}
use native.Mathlib.Omega.{arith}
use lib.Dec.{eqb}
use borrow.Author.Tests.{eqb-false}
use Rattle.laws.proofs.Booleans.{clash}
use Rattle.grammar.specs.Words.{Kind, symbol, word, Word, comma_sign, close_sign, plus_sign, minus_sign, star_sign}
use Rattle.grammar.specs.Words.{slash_sign, idiv_word, eq_word, lt_word, return_word, else_word}
use Rattle.laws.specs.Characters.{Spaces}
use Rattle.grammar.specs.Spelled.{Spells}
use Rattle.parsing.specs.declared.Ends.{Ends}
use Rattle.parsing.specs.declared.Ends.TheVariants.{WithText, WithList, WithCall, WithReturn, WithElse}
use Rattle.parsing.specs.declared.Next.{Next}
use Rattle.parsing.specs.declared.Next.TheVariants.{Slash, Star, Idiv, Plus, Minus, Eq, Lt, Comma, Close, Return}
use Rattle.parsing.specs.declared.Next.TheVariants.{Else, End}
use Rattle.parsing.specs.Reader.{give, halt, either, byte, ended, at_end, spelled, allowed, by_text, by_comma}
use Rattle.parsing.specs.Reader.{by_close, by_return, by_else, tightness, next_words, read_next}
use Rattle.parsing.proofs.SoundJudged.{Judged, mapped, inhabited, given, either_judged, byte_judged}
use Rattle.parsing.proofs.SoundJudged.{allowed_judged}
use Rattle.parsing.proofs.SoundWords.{Entered, entered_word, entry_judged, spelled_judged, all_spaces}

pub data Allowed (e : Ends) (c : Bool) : Next → Type 0 where
  slash : Allowed e c Slash
  star : Allowed e c Star
  idiv : Allowed e c Idiv
  plus : Allowed e c Plus
  minus : Allowed e c Minus
  eq : not c ≡ true → Allowed e c Eq
  lt : not c ≡ true → Allowed e c Lt
  comma : by_comma e ≡ true → Allowed e c Comma
  close : by_close e ≡ true → Allowed e c Close
  return : by_return e ≡ true → Allowed e c Return
  else : by_else e ≡ true → Allowed e c Else
  end : by_text e ≡ true → Allowed e c End

abbrev pub After : Next → List Word → List ℕ → Type 0
After Slash more x = Spells symbol more x
After Star more x = Spells symbol more x
After Idiv more x = Spells word more x
After Plus more x = Spells symbol more x
After Minus more x = Spells symbol more x
After Eq more x = Spells word more x
After Lt more x = Spells word more x
After Comma more x = Spells symbol more x
After Close more x = Spells symbol more x
After Return more x = Spells word more x
After Else more x = Spells word more x
After End more x = (more ≡ []) × Spaces x

abbrev pub Finished : Next → List ℕ → Type 0
Finished Slash u = Unit {0}
Finished Star u = Unit {0}
Finished Idiv u = Unit {0}
Finished Plus u = Unit {0}
Finished Minus u = Unit {0}
Finished Eq u = Unit {0}
Finished Lt u = Unit {0}
Finished Comma u = Unit {0}
Finished Close u = Unit {0}
Finished Return u = Unit {0}
Finished Else u = Unit {0}
Finished End u = u ≡ []

pub finished_none : (n : Next) → Finished n []
finished_none Slash = tt
finished_none Star = tt
finished_none Idiv = tt
finished_none Plus = tt
finished_none Minus = tt
finished_none Eq = tt
finished_none Lt = tt
finished_none Comma = tt
finished_none Close = tt
finished_none Return = tt
finished_none Else = tt
finished_none End = refl

abbrev pub next_bytes : Next → List ℕ
next_bytes Slash = 47 ∷ []
next_bytes Star = 42 ∷ []
next_bytes Idiv = 105 ∷ 100 ∷ 105 ∷ 118 ∷ []
next_bytes Plus = 43 ∷ []
next_bytes Minus = 45 ∷ []
next_bytes Eq = 101 ∷ 113 ∷ []
next_bytes Lt = 108 ∷ 116 ∷ []
next_bytes Comma = 44 ∷ []
next_bytes Close = 41 ∷ []
next_bytes Return = 114 ∷ 101 ∷ 116 ∷ 117 ∷ 114 ∷ 110 ∷ []
next_bytes Else = 101 ∷ 108 ∷ 115 ∷ 101 ∷ []
next_bytes End = []

pub record Following (e : Ends) (c : Bool) (k : Kind) (s u : List ℕ) (n : Next) : Type 0 where
  pub allowed : Allowed e c n
  pub finished : Finished n u
  pub behind : (more : List Word) (x : List ℕ) → After n more x → Spells k (next_words n ++ more) (s ++ x)

-- The word itself

record Alone (e : Ends) (c : Bool) (s u : List ℕ) (n : Next) : Type 0 where
  allowed : Allowed e c n
  finished : Finished n u
  bytes : s ≡ next_bytes n

end_judged : (e : Ends) (c : Bool) → by_text e ≡ true → (t : List ℕ)
    → Judged (Alone e c) t (at_end (give End) halt t)
unfolding ended
end_judged e c h [] = given End (record { allowed = end h; finished = refl; bytes = refl })
end_judged e c h (b ∷ t) = inhabited [] End (record { allowed = end h; finished = refl; bytes = refl })

-- behind the e of eq and else
e_judged : (e : Ends) (c : Bool) → (not c || by_else e) ≡ true → (x : List ℕ) × (n : Next) × Alone e c (101 ∷ x) [] n
e_judged e true h = (108 ∷ 115 ∷ 101 ∷ [], Else, record { allowed = else h; finished = tt; bytes = refl })
e_judged e false h = (113 ∷ [], Eq, record { allowed = eq refl; finished = tt; bytes = refl })

alone_judged : (e : Ends) (c : Bool) (t : List ℕ) → Judged (Alone e c) t
    (byte 47 (give Slash)
    (byte 42 (give Star)
    (byte 105 (spelled (100 ∷ 105 ∷ 118 ∷ []) Idiv)
    (byte 43 (give Plus)
    (byte 45 (give Minus)
    (allowed (not c || by_else e) 101
    (allowed (not c) 113 (give Eq) (allowed (by_else e) 108 (spelled (115 ∷ 101 ∷ []) Else) halt))
    (allowed (not c) 108 (spelled (116 ∷ []) Lt)
    (allowed (by_comma e) 44 (give Comma)
    (allowed (by_close e) 41 (give Close)
    (allowed (by_return e) 114 (spelled (101 ∷ 116 ∷ 117 ∷ 114 ∷ 110 ∷ []) Return)
    (either (by_text e) (at_end (give End) halt) halt)))))))))) t)
alone_judged e c =
    byte_judged 47 refl (λ u. given Slash (record { allowed = slash; finished = tt; bytes = refl }))
    (byte_judged 42 refl (λ u. given Star (record { allowed = star; finished = tt; bytes = refl }))
    (byte_judged 105 refl
    (spelled_judged (100 ∷ 105 ∷ 118 ∷ []) Idiv refl
    (λ u. record { allowed = idiv; finished = tt; bytes = refl }))
    (byte_judged 43 refl (λ u. given Plus (record { allowed = plus; finished = tt; bytes = refl }))
    (byte_judged 45 refl (λ u. given Minus (record { allowed = minus; finished = tt; bytes = refl }))
    (allowed_judged (not c || by_else e) 101 refl
    (λ some.
    allowed_judged (not c) 113 refl
    (λ h u. given Eq (record { allowed = eq h; finished = tt; bytes = refl }))
    (allowed_judged (by_else e) 108 refl
    (λ h.
    spelled_judged (115 ∷ 101 ∷ []) Else refl
    (λ u. record { allowed = else h; finished = tt; bytes = refl }))
    (λ u. let (x, n, h) = e_judged e c some in inhabited x n h)))
    (allowed_judged (not c) 108 refl
    (λ h. spelled_judged (116 ∷ []) Lt refl (λ u. record { allowed = lt h; finished = tt; bytes = refl }))
    (allowed_judged (by_comma e) 44 refl
    (λ h u. given Comma (record { allowed = comma h; finished = tt; bytes = refl }))
    (allowed_judged (by_close e) 41 refl
    (λ h u. given Close (record { allowed = close h; finished = tt; bytes = refl }))
    (allowed_judged (by_return e) 114 refl
    (λ h.
    spelled_judged (101 ∷ 116 ∷ 117 ∷ 114 ∷ 110 ∷ []) Return refl
    (λ u. record { allowed = return h; finished = tt; bytes = refl }))
    (either_judged (by_text e) (λ h. end_judged e c h)
    (λ h u. inhabited (47 ∷ []) Slash (record { allowed = slash; finished = tt; bytes = refl }))))))))))))

-- Behind an operand

module _ {e : Ends} {c : Bool} {k : Kind} {s u : List ℕ} where
  entered_next : (n : Next) (h : Entered k (Alone e c) s u n) (more : List Word) (x : List ℕ) → After n more x
      → Spells k (next_words n ++ more) (s ++ x)
  unfolding Spells
  entered_next Slash h more x f = (entered_word slash_sign h h.inside.bytes).behind more x f
  entered_next Star h more x f = (entered_word star_sign h h.inside.bytes).behind more x f
  entered_next Idiv h more x f = (entered_word idiv_word h h.inside.bytes).behind more x f
  entered_next Plus h more x f = (entered_word plus_sign h h.inside.bytes).behind more x f
  entered_next Minus h more x f = (entered_word minus_sign h h.inside.bytes).behind more x f
  entered_next Eq h more x f = (entered_word eq_word h h.inside.bytes).behind more x f
  entered_next Lt h more x f = (entered_word lt_word h h.inside.bytes).behind more x f
  entered_next Comma h more x f = (entered_word comma_sign h h.inside.bytes).behind more x f
  entered_next Close h more x f = (entered_word close_sign h h.inside.bytes).behind more x f
  entered_next Return h more x f = (entered_word return_word h h.inside.bytes).behind more x f
  entered_next Else h more x f = (entered_word else_word h h.inside.bytes).behind more x f
  entered_next End h more x (none, spaced) =
      rw (h.cut, h.inside.bytes, append-nil h.spaces, none) (all_spaces h.spaces x h.spaced spaced)

pub next_judged : (e : Ends) (c : Bool) (k : Kind) (t : List ℕ) → Judged (Following e c k) t (read_next e c k t)
next_judged e c k t =
    mapped
    (λ s u n h.
    record {
      allowed = h.inside.allowed;
      finished = h.inside.finished;
      behind = entered_next n h;
    })
    (entry_judged k (alone_judged e c) t)

-- Chains

abbrev pub Loose : ℕ → Next → Type 0
Loose i n = i ≤ tightness n → tightness n < 5 → ⊥

pub loose_any : (n : Next) → Loose 5 n
loose_any n low high = omega arith

pub loosen : (i : ℕ) (n : Next) → eqb (tightness n) i ≡ false → Loose (suc i) n → Loose i n
loosen i n e h low high =
    let other : tightness n ≡ i → ⊥ = eqb-false (tightness n) i e in
    h (omega arith) high

abbrev pub end_of : Ends → Next
end_of WithText = End
end_of WithList = Close
end_of WithCall = Close
end_of WithReturn = Return
end_of WithElse = Else

end_close : (e : Ends) → by_close e ≡ true → Close ≡ end_of e
end_close WithText h = clash h refl
end_close WithList h = refl
end_close WithCall h = refl
end_close WithReturn h = clash h refl
end_close WithElse h = clash h refl

end_return : (e : Ends) → by_return e ≡ true → Return ≡ end_of e
end_return WithText h = clash h refl
end_return WithList h = clash h refl
end_return WithCall h = clash h refl
end_return WithReturn h = refl
end_return WithElse h = clash h refl

end_else : (e : Ends) → by_else e ≡ true → Else ≡ end_of e
end_else WithText h = clash h refl
end_else WithList h = clash h refl
end_else WithCall h = clash h refl
end_else WithReturn h = clash h refl
end_else WithElse h = refl

end_text : (e : Ends) → by_text e ≡ true → End ≡ end_of e
end_text WithText h = refl
end_text WithList h = clash h refl
end_text WithCall h = clash h refl
end_text WithReturn h = clash h refl
end_text WithElse h = clash h refl

pub allowed_end : (e : Ends) (c : Bool) → Allowed e c (end_of e)
allowed_end WithText c = end refl
allowed_end WithList c = close refl
allowed_end WithCall c = close refl
allowed_end WithReturn c = return refl
allowed_end WithElse c = else refl

pub loose_end : (e : Ends) (i : ℕ) → Loose i (end_of e)
loose_end WithText i low high = omega arith
loose_end WithList i low high = omega arith
loose_end WithCall i low high = omega arith
loose_end WithReturn i low high = omega arith
loose_end WithElse i low high = omega arith

pub final : {e : Ends} {c : Bool} {n : Next} → (by_comma e ≡ true → Loose 0 n) → Loose 1 n → Allowed e c n
    → n ≡ end_of e
final f l slash = absurd (l (omega arith) (omega arith))
final f l star = absurd (l (omega arith) (omega arith))
final f l idiv = absurd (l (omega arith) (omega arith))
final f l plus = absurd (l (omega arith) (omega arith))
final f l minus = absurd (l (omega arith) (omega arith))
final f l (eq h) = absurd (l (omega arith) (omega arith))
final f l (lt h) = absurd (l (omega arith) (omega arith))
final f l (comma h) = absurd (f h (omega arith) (omega arith))
final {e} f l (close h) = end_close e h
final {e} f l (return h) = end_return e h
final {e} f l (else h) = end_else e h
final {e} f l (end h) = end_text e h

-- behind a comparison no other may come
pub uncompared : {e : Ends} {n : Next} → Allowed e true n → Loose 2 n → Loose 1 n
uncompared slash l low high = l (omega arith) high
uncompared star l low high = l (omega arith) high
uncompared idiv l low high = l (omega arith) high
uncompared plus l low high = l (omega arith) high
uncompared minus l low high = l (omega arith) high
uncompared (eq h) l low high = clash h refl
uncompared (lt h) l low high = clash h refl
uncompared (comma h) l low high = l (omega arith) high
uncompared (close h) l low high = l (omega arith) high
uncompared (return h) l low high = l (omega arith) high
uncompared (else h) l low high = l (omega arith) high
uncompared (end h) l low high = l (omega arith) high

pub allowed_before : {e : Ends} {n : Next} → Allowed e true n → Allowed e false n
allowed_before slash = slash
allowed_before star = star
allowed_before idiv = idiv
allowed_before plus = plus
allowed_before minus = minus
allowed_before (eq h) = eq refl
allowed_before (lt h) = lt refl
allowed_before (comma h) = comma h
allowed_before (close h) = close h
allowed_before (return h) = return h
allowed_before (else h) = else h
allowed_before (end h) = end h
