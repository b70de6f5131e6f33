-- Reading the word after an operand.
--     follow n vs         word n, and words vs behind it; nothing behind the end
--     behind n vs         the words behind n
--     allows e c n        word n may come where a part ends with e; c: no comparison may come
--     next_at e c          the reader of the next word, past the spaces
--     read_next_lem           the next word is read
use Prim.Native.Nat.{ℕ, suc}
use mathlib.Core.Path.{◌≡◌, refl, ◌∙◌}
use mathlib.Core.List.{List, [], ◌∷◌, ◌++◌}
use mathlib.Core.Bool.{Bool, true, false, not, ◌||◌}
use native.Mathlib.Omega.{arith}
use lib.ListN.{length}
use Rattle.grammar.specs.Words.{Kind, Word, close_sign, comma_sign, plus_sign, minus_sign, star_sign, slash_sign, idiv_word}
use Rattle.grammar.specs.Words.{eq_word, lt_word, return_word, else_word}
use Rattle.laws.specs.Characters.{is_space, first}
use Rattle.grammar.specs.Spelled.{Spells}
use Rattle.laws.proofs.Booleans.{clash}
use Rattle.parsing.specs.declared.Ends.{Ends}
use Rattle.parsing.specs.declared.Ends.TheVariants.{WithText, WithList, WithCall, WithReturn, WithElse}
use Rattle.parsing.specs.declared.Next.{Next}
use Rattle.parsing.specs.declared.Next.TheVariants.{Slash, Star, Idiv, Plus, Minus, Eq, Lt, Comma, Close}
use Rattle.parsing.specs.declared.Next.TheVariants.{Return, Else, End}
use Rattle.parsing.specs.Reader.{ok, Reader, rest, either, byte, spelled, give, halt, allowed, at_end, ended}
use Rattle.parsing.specs.Reader.{read_next, by_text, by_comma, by_close, by_return, by_else, kind_of}
use Rattle.parsing.proofs.CompleteWords.{Reached, Solid, Sound, entered, enter_end}

abbrev pub follow : Next → List Word → List Word
follow Slash vs = slash_sign ∷ vs
follow Star vs = star_sign ∷ vs
follow Idiv vs = idiv_word ∷ vs
follow Plus vs = plus_sign ∷ vs
follow Minus vs = minus_sign ∷ vs
follow Eq vs = eq_word ∷ vs
follow Lt vs = lt_word ∷ vs
follow Comma vs = comma_sign ∷ vs
follow Close vs = close_sign ∷ vs
follow Return vs = return_word ∷ vs
follow Else vs = else_word ∷ vs
follow End vs = []

abbrev pub behind : Next → List Word → List Word
behind Slash vs = vs
behind Star vs = vs
behind Idiv vs = vs
behind Plus vs = vs
behind Minus vs = vs
behind Eq vs = vs
behind Lt vs = vs
behind Comma vs = vs
behind Close vs = vs
behind Return vs = vs
behind Else vs = vs
behind End vs = []

abbrev pub allows : Ends → Bool → Next → Bool
allows e c Slash = true
allows e c Star = true
allows e c Idiv = true
allows e c Plus = true
allows e c Minus = true
allows e c Eq = not c
allows e c Lt = not c
allows e c Comma = by_comma e
allows e c Close = by_close e
allows e c Return = by_return e
allows e c Else = by_else e
allows e c End = by_text e

-- what may come behind a comparison may come before it
pub allows_freely : (e : Ends) (n : Next) → allows e true n ≡ true → allows e false n ≡ true
allows_freely e Slash h = refl
allows_freely e Star h = refl
allows_freely e Idiv h = refl
allows_freely e Plus h = refl
allows_freely e Minus h = refl
allows_freely e Eq h = refl
allows_freely e Lt h = refl
allows_freely e Comma h = h
allows_freely e Close h = h
allows_freely e Return h = h
allows_freely e Else h = h
allows_freely e End h = h

pub sound_follow : (n : Next) (vs : List Word) → Sound (follow n vs)
unfolding is_space
sound_follow Slash vs = refl
sound_follow Star vs = refl
sound_follow Idiv vs = refl
sound_follow Plus vs = refl
sound_follow Minus vs = refl
sound_follow Eq vs = refl
sound_follow Lt vs = refl
sound_follow Comma vs = refl
sound_follow Close vs = refl
sound_follow Return vs = refl
sound_follow Else vs = refl
sound_follow End vs = tt

abbrev next_at : Ends → Bool → Reader Next
next_at e c =
    byte 47 (give Slash)
    (byte 42 (give Star)
    (byte 105 (spelled (100 ∷ 105 ∷ 118 ∷ []) Idiv)
    (byte 43 (give Plus)
    (byte 45 (give Minus)
    (allowed (not c || by_else e) 101
    (allowed (not c) 113 (give Eq) (allowed (by_else e) 108 (spelled (115 ∷ 101 ∷ []) Else) halt))
    (allowed (not c) 108 (spelled (116 ∷ []) Lt)
    (allowed (by_comma e) 44 (give Comma)
    (allowed (by_close e) 41 (give Close)
    (allowed (by_return e) 114 (spelled (101 ∷ 116 ∷ 117 ∷ 114 ∷ 110 ∷ []) Return)
    (either (by_text e) (at_end (give End) halt) halt))))))))))

module _ (r : List ℕ) where
  at_slash : (e : Ends) (c : Bool) → next_at e c (slash_sign.bytes ++ r) ≡ ok Slash r
  unfolding first rest
  at_slash e c = refl

  at_star : (e : Ends) (c : Bool) → next_at e c (star_sign.bytes ++ r) ≡ ok Star r
  unfolding first rest
  at_star e c = refl

  at_idiv : (e : Ends) (c : Bool) → next_at e c (idiv_word.bytes ++ r) ≡ ok Idiv r
  unfolding first rest
  at_idiv e c = refl

  at_plus : (e : Ends) (c : Bool) → next_at e c (plus_sign.bytes ++ r) ≡ ok Plus r
  unfolding first rest
  at_plus e c = refl

  at_minus : (e : Ends) (c : Bool) → next_at e c (minus_sign.bytes ++ r) ≡ ok Minus r
  unfolding first rest
  at_minus e c = refl

  at_eq : (e : Ends) (c : Bool) → not c ≡ true → next_at e c (eq_word.bytes ++ r) ≡ ok Eq r
  unfolding first rest
  at_eq e true h = clash h refl
  at_eq e false h = refl

  at_lt : (e : Ends) (c : Bool) → not c ≡ true → next_at e c (lt_word.bytes ++ r) ≡ ok Lt r
  unfolding first rest
  at_lt e true h = clash h refl
  at_lt e false h = refl

  at_comma : (e : Ends) (c : Bool) → by_comma e ≡ true → next_at e c (comma_sign.bytes ++ r) ≡ ok Comma r
  unfolding first rest
  at_comma WithText true h = refl
  at_comma WithText false h = refl
  at_comma WithList true h = refl
  at_comma WithList false h = refl
  at_comma WithCall c h = clash h refl
  at_comma WithReturn c h = clash h refl
  at_comma WithElse c h = clash h refl

  at_close : (e : Ends) (c : Bool) → by_close e ≡ true → next_at e c (close_sign.bytes ++ r) ≡ ok Close r
  unfolding first rest
  at_close WithText c h = clash h refl
  at_close WithList true h = refl
  at_close WithList false h = refl
  at_close WithCall true h = refl
  at_close WithCall false h = refl
  at_close WithReturn c h = clash h refl
  at_close WithElse c h = clash h refl

  at_return : (e : Ends) (c : Bool) → by_return e ≡ true → next_at e c (return_word.bytes ++ r) ≡ ok Return r
  unfolding first rest
  at_return WithText c h = clash h refl
  at_return WithList c h = clash h refl
  at_return WithCall c h = clash h refl
  at_return WithReturn true h = refl
  at_return WithReturn false h = refl
  at_return WithElse c h = clash h refl

  at_else : (e : Ends) (c : Bool) → by_else e ≡ true → next_at e c (else_word.bytes ++ r) ≡ ok Else r
  unfolding first rest
  at_else WithText c h = clash h refl
  at_else WithList c h = clash h refl
  at_else WithCall c h = clash h refl
  at_else WithReturn c h = clash h refl
  at_else WithElse true h = refl
  at_else WithElse false h = refl

at_end_lem : (e : Ends) (c : Bool) → by_text e ≡ true → next_at e c [] ≡ ok End []
unfolding first ended
at_end_lem WithText true h = refl
at_end_lem WithText false h = refl
at_end_lem WithList c h = clash h refl
at_end_lem WithCall c h = clash h refl
at_end_lem WithReturn c h = clash h refl
at_end_lem WithElse c h = clash h refl

-- a next word other than the end
next_word : (n : Next) (w : Word) (e : Ends) (c : Bool) (k : Kind) (vs : List Word) (t : List ℕ)
    → Solid w.bytes → ((r : List ℕ) → next_at e c (w.bytes ++ r) ≡ ok n r) → Spells k (w ∷ vs) t
    → Reached (read_next e c k t) n w.kind vs (suc (length t))
next_word n w e c k vs t h f sp =
    entered k w vs t (next_at e c) h sp
    (λ r sl l s. record { at = r; reads = f r; spells = sl; shorter = omega arith })

module _ (e : Ends) (c : Bool) (k : Kind) (vs : List Word) (t : List ℕ) where
  pub read_next_lem : (n : Next) → allows e c n ≡ true → Spells k (follow n vs) t
      → Reached (read_next e c k t) n (kind_of n) (behind n vs) (suc (length t))
  unfolding Spells
  read_next_lem Slash h sp = next_word Slash slash_sign e c k vs t (sound_follow Slash vs) (λ r. at_slash r e c) sp
  read_next_lem Star h sp = next_word Star star_sign e c k vs t (sound_follow Star vs) (λ r. at_star r e c) sp
  read_next_lem Idiv h sp = next_word Idiv idiv_word e c k vs t (sound_follow Idiv vs) (λ r. at_idiv r e c) sp
  read_next_lem Plus h sp = next_word Plus plus_sign e c k vs t (sound_follow Plus vs) (λ r. at_plus r e c) sp
  read_next_lem Minus h sp = next_word Minus minus_sign e c k vs t (sound_follow Minus vs) (λ r. at_minus r e c) sp
  read_next_lem Eq h sp = next_word Eq eq_word e c k vs t (sound_follow Eq vs) (λ r. at_eq r e c h) sp
  read_next_lem Lt h sp = next_word Lt lt_word e c k vs t (sound_follow Lt vs) (λ r. at_lt r e c h) sp
  read_next_lem Comma h sp = next_word Comma comma_sign e c k vs t (sound_follow Comma vs) (λ r. at_comma r e c h) sp
  read_next_lem Close h sp = next_word Close close_sign e c k vs t (sound_follow Close vs) (λ r. at_close r e c h) sp
  read_next_lem Return h sp = next_word Return return_word e c k vs t (sound_follow Return vs) (λ r. at_return r e c h) sp
  read_next_lem Else h sp = next_word Else else_word e c k vs t (sound_follow Else vs) (λ r. at_else r e c h) sp
  read_next_lem End h sp =
      record { at = []; reads = enter_end k t (next_at e c) sp ∙ at_end_lem e c h; spells = tt; shorter = omega arith }
