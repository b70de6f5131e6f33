-- Reading a text that spells known words: what comes of the readers that the others are made of.
--     Reached r a k vs m      r is a read, and what is left spells vs behind kind k, in fewer than m bytes
--     reached                 .. at once
--     reached_then            .. then what comes next
--     reached_from, reached_more     .. of another that is equal; in fewer than more bytes
--     Solid bs                bytes that a word can have: the first is there, and no space
--     skip_solid, skip_spaces spaces in front are skipped, and no other byte
--     entered                 past the spaces before a word, its bytes are in front
--     enter_end               .. behind the last word, nothing is
--     letters_read, read_word_lem bytes, a word are read
--     space_low, no_space     spaces are at most 32
--     Sound vs                words that may follow: none, or the first is solid
--     Lettered k              a word of kind k ends in a letter or digit
--     Head P k vs             the first byte of the first word is P, where it does not join one of kind k
--     first_of                what is true of every space, of the end and of the first word's first byte is true of the
--                             first byte of what spells the words
--     no_digit                behind a letter or digit no digit comes
use Prim.Native.Nat.{ℕ, ◌+◌, ◌≤◌, ◌<◌}
use mathlib.Core.Path.{◌≡◌, refl, sym, ap, subst, ◌∙◌}
use mathlib.Core.List.{List, [], ◌∷◌, ◌++◌}
use mathlib.Core.Bool.{true, false, ◌||◌}
use native.Mathlib.Omega.{arith}
use lib.Dec.{eqb}
use lib.ListN.{length, length-append}
use borrow.Author.Tests.{eq-eqb, eqb-true}
use Rattle.grammar.specs.Words.{Kind, symbol, word, name, Word}
use Rattle.laws.specs.Characters.{is_space, is_digit, is_letter, first, Spaces}
use Rattle.grammar.specs.Spelled.{joins, Parted, Spells}
use Rattle.laws.proofs.Booleans.{by_cases, clash, or_left, or_right}
use Rattle.laws.proofs.Characters.{low_digit}
use Rattle.parsing.specs.Reader.{Res, ok, Reader, then, rest, skip, entry, letters, read_word}

pub record Reached {A : Type 0} (r : Res A) (a : A) (k : Kind) (vs : List Word) (m : ℕ) : Type 0 where
  pub at : List ℕ
  pub reads : r ≡ ok a at
  pub spells : Spells k vs at
  pub shorter : length at < m

pub reached_then :
    {A B : Type 0} {r : Res A} {a : A} {k j : Kind} {vs us : List Word} {m l : ℕ} {b : B} (f : A → Reader B)
    → Reached r a k vs m
    → ((at : List ℕ) → Spells k vs at → length at < m → Reached (f a at) b j us l)
    → Reached (then r f) b j us l
reached_then {j = j} {us = us} {l = l} {b = b} f h g =
    subst (λ x. Reached (then x f) b j us l) (sym h.reads) (g h.at h.spells h.shorter)

-- what is read at once
pub reached : {A : Type 0} {a : A} {k : Kind} {vs : List Word} {t : List ℕ} {m : ℕ} → Spells k vs t → length t < m
    → Reached (ok a t) a k vs m
reached {t = t} h l = record { at = t; reads = refl; spells = h; shorter = l }

-- of another that is equal
pub reached_from : {A : Type 0} {q r : Res A} {a : A} {k : Kind} {vs : List Word} {m : ℕ} → q ≡ r
    → Reached r a k vs m → Reached q a k vs m
reached_from e h = record { at = h.at; reads = e ∙ h.reads; spells = h.spells; shorter = h.shorter }

pub reached_more : {A : Type 0} {r : Res A} {a : A} {k : Kind} {vs : List Word} {m l : ℕ} → Reached r a k vs m → m ≤ l
    → Reached r a k vs l
reached_more h e = record { at = h.at; reads = h.reads; spells = h.spells; shorter = omega (arith, h.shorter) }

abbrev pub Solid : List ℕ → Type 0
Solid [] = ⊥
Solid (b ∷ bs) = is_space b ≡ false

pub skip_solid : (bs r : List ℕ) → Solid bs → skip (bs ++ r) ≡ bs ++ r
unfolding skip
skip_solid [] r h = absurd h
skip_solid (b ∷ bs) r h = rw (h, skip)

pub skip_spaces : (s u : List ℕ) → Spaces s → skip (s ++ u) ≡ skip u
unfolding skip
skip_spaces [] u h = refl
skip_spaces (b ∷ s) u h = rw (h.0, skip) (skip_spaces s u h.1)

solid_some : (bs r : List ℕ) → Solid bs → length r < length (bs ++ r)
solid_some [] r h = absurd h
solid_some (b ∷ bs) r h = omega (arith, length-append bs r)

module _ {A : Type 0} where
  -- no space in front
  entry_here : (k : Kind) (m : Reader A) (bs r : List ℕ) → Solid bs → joins k (first bs) ≡ false
      → entry k m (bs ++ r) ≡ m (bs ++ r)
  unfolding first
  entry_here k m [] r h j = absurd h
  entry_here k m (b ∷ bs) r h j = rw (h, j)

  entry_spaced : (k : Kind) (m : Reader A) (b : ℕ) (s u : List ℕ) → is_space b ≡ true
      → entry k m (b ∷ (s ++ u)) ≡ m (skip (b ∷ (s ++ u)))
  unfolding first
  entry_spaced k m b s u h = rw h

  entry_past : (k : Kind) (w : Word) (m : Reader A) (s r : List ℕ) → Solid w.bytes → Spaces s → Parted k s w.bytes
      → entry k m (s ++ (w.bytes ++ r)) ≡ m (w.bytes ++ r)
  entry_past k w m [] r h sp ap' = entry_here k m w.bytes r h ap'
  entry_past k w m (b ∷ s) r h sp ap' =
      entry_spaced k m b s (w.bytes ++ r) sp.0
      ∙ ap m (skip_spaces (b ∷ s) (w.bytes ++ r) sp ∙ skip_solid w.bytes r h)

  enter : (P : Res A → Type 0) (k : Kind) (w : Word) (vs : List Word) (t : List ℕ) (m : Reader A)
      → Solid w.bytes → Spells k (w ∷ vs) t
      → ((r : List ℕ) → Spells w.kind vs r → length (w.bytes ++ r) ≤ length t → length r < length t
      → P (m (w.bytes ++ r)))
      → P (entry k m t)
  unfolding Spells
  enter P k w vs t m h (s, r, e, sp, apart, sl) f =
      let q : length t ≡ length s + length (w.bytes ++ r) = ap length e ∙ length-append s (w.bytes ++ r) in
      let l = solid_some w.bytes r h in
      subst P (sym (ap (entry k m) e ∙ entry_past k w m s r h sp apart)) (f r sl (omega arith) (omega arith))

pub entered : {A : Type 0} {a : A} {j : Kind} {us : List Word} {l : ℕ} (k : Kind) (w : Word) (vs : List Word)
    (t : List ℕ) (m : Reader A) → Solid w.bytes → Spells k (w ∷ vs) t
    → ((r : List ℕ) → Spells w.kind vs r → length (w.bytes ++ r) ≤ length t → length r < length t
    → Reached (m (w.bytes ++ r)) a j us l)
    → Reached (entry k m t) a j us l
entered {a = a} {j = j} {us = us} {l = l} k w vs t m h sp f = enter (λ x. Reached x a j us l) k w vs t m h sp f

pub letters_read : (cs r : List ℕ) → letters cs (cs ++ r) ≡ ok tt r
unfolding first rest
letters_read [] r = refl
letters_read (c ∷ cs) r = rw (eq-eqb c c refl) (letters_read cs r)

pub read_word_lem : (k : Kind) (w : Word) (vs : List Word) (t : List ℕ) → Solid w.bytes → Spells k (w ∷ vs) t
    → Reached (read_word k w t) tt w.kind vs (length t)
read_word_lem k w vs t h sp =
    entered k w vs t (letters w.bytes) h sp
    (λ r sl l s. record { at = r; reads = letters_read w.bytes r; spells = sl; shorter = s })

-- bytes

space_is : (P : ℕ → Type 0) → P 32 → P 9 → P 10 → P 13 → (b : ℕ) → is_space b ≡ true → P b
unfolding is_space
space_is P p q r s b e =
    by_cases (eqb b 32) (λ d. subst P (sym (eqb-true b 32 d)) p)
    (λ d.
    by_cases (eqb b 9) (λ c. subst P (sym (eqb-true b 9 c)) q)
    (λ c.
    by_cases (eqb b 10) (λ a. subst P (sym (eqb-true b 10 a)) r)
    (λ a. subst P (sym (eqb-true b 13 (rw (d, c, a) at e))) s)))

pub space_low : (b : ℕ) → is_space b ≡ true → b ≤ 32
space_low b e = space_is (λ x. x ≤ 32) (omega arith) (omega arith) (omega arith) (omega arith) b e

pub no_space : (b : ℕ) → 32 < b → is_space b ≡ false
no_space b h = by_cases (is_space b) (λ e. absurd (omega (arith, space_low b e))) (λ e. e)

-- what may follow

abbrev pub Sound : List Word → Type 0
Sound [] = Unit {0}
Sound (w ∷ ws) = Solid w.bytes

abbrev pub Lettered : Kind → Type 0
Lettered symbol = ⊥
Lettered word = Unit {0}
Lettered name = Unit {0}

unjoined : (k : Kind) (b : ℕ) → Lettered k → joins k b ≡ false → is_digit b ≡ false
unfolding joins
unjoined symbol b h e = absurd h
unjoined word b h e =
    by_cases (is_digit b) (λ d. clash (or_right (is_letter b) (is_digit b) d) e) (λ d. d)
unjoined name b h e =
    by_cases (is_digit b)
    (λ d. clash (or_left (is_letter b || is_digit b) (eqb b 45) (or_right (is_letter b) (is_digit b) d)) e)
    (λ d. d)

-- the first byte of what spells words: a space, or none, or the first byte of the first word, which does not join
abbrev pub Head : (ℕ → Type 0) → Kind → List Word → Type 0
Head P k [] = Unit {0}
Head P k (w ∷ ws) = joins k (first w.bytes) ≡ false → P (first w.bytes)

pub first_of : (P : ℕ → Type 0) (k : Kind) (vs : List Word) (t : List ℕ) → Sound vs → Spells k vs t
    → ((b : ℕ) → is_space b ≡ true → P b) → P 256 → Head P k vs
    → P (first t)
unfolding Spells first
first_of P k [] [] h sp f g j = g
first_of P k [] (b ∷ t) h sp f g j = f b sp.0
first_of P k (w ∷ ws) t h ([], r, e, s, apart, sl) f g j = go w.bytes h e (j apart)
  where
    go : (bs : List ℕ) → Solid bs → t ≡ bs ++ r → P (first bs) → P (first t)
    go [] n q p = absurd n
    go (b ∷ bs) n q p = subst (λ x. P (first x)) (sym q) p
first_of P k (w ∷ ws) t h (b ∷ s, r, e, (n, ns), apart, sl) f g j = subst (λ x. P (first x)) (sym e) (f b n)

undigit_head : (k : Kind) (vs : List Word) → Lettered k → Head (λ b. is_digit b ≡ false) k vs
undigit_head k [] l = tt
undigit_head k (w ∷ ws) l = λ j. unjoined k (first w.bytes) l j

pub no_digit : (k : Kind) (vs : List Word) (t : List ℕ) → Lettered k → Sound vs → Spells k vs t
    → is_digit (first t) ≡ false
unfolding is_digit
no_digit k vs t l h sp =
    first_of (λ b. is_digit b ≡ false) k vs t h sp (λ b e. low_digit b (omega (arith, space_low b e))) refl
    (undigit_head k vs l)

-- behind the last word
ended : {A : Type 0} (k : Kind) (m : Reader A) → entry k m [] ≡ m []
unfolding first is_space joins is_letter is_digit
ended symbol m = refl
ended word m = refl
ended name m = refl

skip_all : (s : List ℕ) → Spaces s → skip s ≡ []
unfolding skip
skip_all [] h = refl
skip_all (b ∷ s) h = rw (h.0, skip) (skip_all s h.1)

entry_all : {A : Type 0} (k : Kind) (b : ℕ) (t : List ℕ) (m : Reader A) → Spaces (b ∷ t) → entry k m (b ∷ t) ≡ m []
unfolding first
entry_all k b t m h = rw h.0 (ap m (skip_all (b ∷ t) h))

pub enter_end : {A : Type 0} (k : Kind) (t : List ℕ) (m : Reader A) → Spells k [] t → entry k m t ≡ m []
unfolding Spells
enter_end k [] m h = ended k m
enter_end k (b ∷ t) m h = entry_all k b t m h
