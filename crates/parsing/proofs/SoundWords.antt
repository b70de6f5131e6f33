-- Words as readers read them, and as texts spell them.
--     Spelt k ws k' s      bytes s, behind a word of kind k, spell the words ws, the last of kind k': whatever words
--                          more the bytes x spell behind that, s ++ x spell both
--     Entered k G s u a    spaces, then bytes that G reads, parted from a word of kind k
--     spelt_append, spelt_word, spelt_bytes     words one after another; spaces and a word; a word
--     entry_judged, letters_judged, ..          the readers of words
use Prim.Native.Nat.{ℕ}
use mathlib.Core.Path.{◌≡◌, refl, sym, ap, ◌∙◌, subst}
use mathlib.Core.List.{List, [], ◌∷◌, ◌++◌, append_assoc, append-nil}
use mathlib.Core.Bool.{Bool, true, false, not, ◌&&◌}
use lib.Dec.{eqb}
use borrow.Author.Tests.{not-true}
use Rattle.laws.proofs.Booleans.{clash, both_true}
use Rattle.grammar.specs.Words.{Kind, symbol, word, name, Word, open_sign, close_sign}
use Rattle.laws.specs.Characters.{is_space, is_digit, is_letter, first, Spaces}
use Rattle.grammar.specs.Spelled.{joins, Parted, Spells}
use Rattle.parsing.specs.Reader.{Res, Reader, then, halt, skip, entry, letters, read_word, spelled, brackets}
use Rattle.parsing.proofs.SoundJudged.{Judged, passes, halts, complete, shift, mapped, inhabited, given}
use Rattle.parsing.proofs.SoundJudged.{look_judged, byte_judged, then_judged}

pub record Spelt (k : Kind) (ws : List Word) (k' : Kind) (s : List ℕ) : Type 0 where
  pub behind : (more : List Word) (x : List ℕ) → Spells k' more x → Spells k (ws ++ more) (s ++ x)

pub record Entered {A : Type 0} (k : Kind) (G : List ℕ → List ℕ → A → Type 0) (s u : List ℕ) (a : A) : Type 0 where
  pub spaces : List ℕ
  pub body : List ℕ
  pub cut : s ≡ spaces ++ body
  pub spaced : Spaces spaces
  pub parted : Parted k spaces body
  pub inside : G body u a

-- Spelling

pub spelt_append : {k k' k'' : Kind} {ws ws' : List Word} {s s' : List ℕ} → Spelt k ws k' s → Spelt k' ws' k'' s'
    → Spelt k (ws ++ ws') k'' (s ++ s')
spelt_append {ws = ws} {ws' = ws'} {s = s} {s' = s'} f g =
    record {
      behind = λ more x h.
          rw (append_assoc ws ws' more, append_assoc s s' x)
          (f.behind (ws' ++ more) (s' ++ x) (g.behind more x h));
    }

pub spelt_word : (k : Kind) (w : Word) (s : List ℕ) → Spaces s → Parted k s w.bytes
    → Spelt k (w ∷ []) w.kind (s ++ w.bytes)
unfolding Spells
spelt_word k w s spaced parted =
    record {
      behind = λ more x h. (s, x, append_assoc s w.bytes x, spaced, parted, h);
    }

pub spelt_bytes : (w : Word) → Spelt symbol (w ∷ []) w.kind w.bytes
unfolding joins
spelt_bytes w = spelt_word symbol w [] tt refl

pub all_spaces : (s s' : List ℕ) → Spaces s → Spaces s' → Spaces (s ++ s')
all_spaces [] s' h h' = h'
all_spaces (b ∷ s) s' h h' = (h.0, all_spaces s s' h.1 h')

-- spaces before words
pub spells_spaces : (k : Kind) (b : ℕ) (s : List ℕ) (ws : List Word) (y : List ℕ) → Spaces (b ∷ s)
    → Spells symbol ws y → Spells k ws ((b ∷ s) ++ y)
unfolding Spells
spells_spaces k b s [] y spaced h = all_spaces (b ∷ s) y spaced h
spells_spaces k b s (w ∷ ws) y spaced (s', r, cut, spaced', parted, h) = (
  (b ∷ s) ++ s',
  r,
  ap (λ z. b ∷ (s ++ z)) cut ∙ ap (λ z. b ∷ z) (sym (append_assoc s s' (w.bytes ++ r))),
  all_spaces (b ∷ s) s' spaced spaced',
  tt,
  h,
)

-- Entering a word

joins_none : (k : Kind) → joins k 256 ≡ false
unfolding joins is_letter is_digit
joins_none symbol = refl
joins_none word = refl
joins_none name = refl

first_parted : (k : Kind) (t s u : List ℕ) → t ≡ s ++ u → joins k (first t) ≡ false → joins k (first s) ≡ false
unfolding first
first_parted k t [] u cut e = joins_none k
first_parted k t (b ∷ s) u cut e = sym (ap (λ z. joins k (first z)) cut) ∙ e

skip_cut : (t : List ℕ) → (s : List ℕ) × (t ≡ s ++ skip t) × Spaces s
unfolding skip
skip_cut [] = ([], refl, tt)
skip_cut (b ∷ t) = go (is_space b) refl (skip_cut t)
  where
    go : (p : Bool) → is_space b ≡ p → ((s : List ℕ) × (t ≡ s ++ skip t) × Spaces s)
        → (s : List ℕ) × (b ∷ t ≡ s ++ elim p [ true ↦ skip t | false ↦ b ∷ t ]) × Spaces s
    go true e (s, cut, spaced) = (b ∷ s, ap (λ z. b ∷ z) cut, (e, spaced))
    go false e h = ([], refl, tt)

skip_some : (t : List ℕ) → is_space (first t) ≡ true
    → (b : ℕ) × (s : List ℕ) × (t ≡ b ∷ (s ++ skip t)) × Spaces (b ∷ s)
unfolding skip first is_space
skip_some [] e = clash e refl
skip_some (b ∷ t) e =
    let (s, cut, spaced) = skip_cut t in
    (b, s, rw (e, skip) (ap (λ z. b ∷ z) cut), (e, spaced))

pub spaced_one : Spaces (32 ∷ [])
unfolding is_space
spaced_one = (refl, tt)

-- words that are behind no other, behind one that they do not join
rekind : (k : Kind) (ws : List Word) (t : List ℕ) → joins k (first t) ≡ false → Spells symbol ws t → Spells k ws t
unfolding Spells
rekind k [] t e h = h
rekind k (w ∷ ws) t e ([], r, cut, spaced, parted, h) =
    ([], r, cut, spaced, first_parted k t w.bytes r cut e, h)
rekind k (w ∷ ws) t e (b ∷ s, r, cut, spaced, parted, h) = (b ∷ s, r, cut, spaced, tt, h)

abbrev pub Filled : List ℕ → Type 0
Filled [] = ⊥
Filled (b ∷ s) = Unit {0}

pub filled_right : (s s' : List ℕ) → Filled s' → Filled (s ++ s')
filled_right [] s' h = h
filled_right (b ∷ s) s' h = tt

pub filled_left : (s s' : List ℕ) → Filled s → Filled (s ++ s')
filled_left [] s' h = absurd h
filled_left (b ∷ s) s' h = tt

pub spells_parted : (k : Kind) (s y : List ℕ) → Spaces s → Parted k s y → Filled y → (ws : List Word) (x : List ℕ)
    → Spells symbol ws (y ++ x) → Spells k ws (s ++ y ++ x)
unfolding first
spells_parted k [] [] spaced parted some ws x h = absurd some
spells_parted k [] (b ∷ y) spaced parted some ws x h = rekind k ws (b ∷ (y ++ x)) parted h
spells_parted k (b ∷ s) y spaced parted some ws x h =
    rw (append_assoc s y x) (spells_spaces k b s ws (y ++ x) spaced h)

pub entered_spells : {A : Type 0} {G : List ℕ → List ℕ → A → Type 0} {k : Kind} {s u : List ℕ} {a : A}
    (e : Entered k G s u a) → Filled e.body → (ws : List Word) (x : List ℕ) → Spells symbol ws (e.body ++ x)
    → Spells k ws (s ++ x)
entered_spells {k = k} e some ws x h =
    subst (λ z. Spells k ws (z ++ x)) (sym e.cut)
    (spells_parted k e.spaces e.body e.spaced e.parted some ws x h)

pub entered_spelt : {A : Type 0} {G : List ℕ → List ℕ → A → Type 0} {k k' : Kind} {ws : List Word} {s u : List ℕ}
    {a : A} (e : Entered k G s u a) → Filled e.body → Spelt symbol ws k' e.body → Spelt k ws k' s
entered_spelt {ws = ws} e some f =
    record { behind = λ more x h. entered_spells e some (ws ++ more) x (f.behind more x h) }

pub entered_filled : {A : Type 0} {G : List ℕ → List ℕ → A → Type 0} {k : Kind} {s u : List ℕ} {a : A}
    (e : Entered k G s u a) → Filled e.body → Filled s
entered_filled e some = subst Filled (sym e.cut) (filled_right e.spaces e.body some)

module _ {A : Type 0} {G : List ℕ → List ℕ → A → Type 0} where
  pub unspaced : {k : Kind} {t : List ℕ} {r : Res A} → joins k (first t) ≡ false → Judged G t r
      → Judged (Entered k G) t r
  unfolding first
  unspaced {k} {t} e (passes {u = u} s cut h) =
      passes s cut
      (record { spaces = []; body = s; cut = refl; spaced = tt; parted = first_parted k t s u cut e; inside = h })
  unspaced e (halts [] x a cut h) =
      halts [] (32 ∷ x) a cut
      (record { spaces = 32 ∷ []; body = x; cut = refl; spaced = spaced_one; parted = tt; inside = h })
  unspaced {k} {t} e (halts {u = u} (b ∷ s) x a cut h) =
      halts (b ∷ s) x a cut
      (record {
        spaces = [];
        body = (b ∷ s) ++ x;
        cut = refl;
        spaced = tt;
        parted = first_parted k t (b ∷ s) u cut e;
        inside = h;
      })

  pub entry_judged : {m : Reader A} (k : Kind) → ((t : List ℕ) → Judged G t (m t)) → (t : List ℕ)
      → Judged (Entered k G) t (entry k m t)
  entry_judged {m} k f =
      look_judged is_space
      (λ t e.
      let (b, s, cut, spaced) = skip_some t e in
      shift (b ∷ s) cut
      (mapped
      (λ s' u a h.
      record {
        spaces = b ∷ s;
        body = s';
        cut = refl;
        spaced = spaced;
        parted = tt;
        inside = h;
      })
      (f (skip t))))
      (λ t e. look_judged (joins k) (λ u j. apart u) (λ u j. unspaced j (f u)) t)
    where
      apart : (u : List ℕ) → Judged (Entered k G) u (halt u)
      apart u =
          let (x, a, h) = complete (f []) in
          inhabited (32 ∷ x) a
          (record { spaces = 32 ∷ []; body = x; cut = refl; spaced = spaced_one; parted = tt; inside = h })

-- Letters

abbrev pub smalls : List ℕ → Bool
smalls [] = true
smalls (c ∷ cs) = not (eqb 256 c) && smalls cs

pub letters_judged : (cs : List ℕ) → smalls cs ≡ true → (t : List ℕ) → Judged (λ s u done. s ≡ cs) t (letters cs t)
letters_judged [] small t = given tt refl
letters_judged (c ∷ cs) small t =
    byte_judged c (not-true (eqb 256 c) (both_true (not (eqb 256 c)) (smalls cs) small).0)
    (λ u. mapped (λ s v a e. ap (λ z. c ∷ z) e)
    (letters_judged cs (both_true (not (eqb 256 c)) (smalls cs) small).1 u)) (λ u. inhabited (c ∷ cs) tt refl) t

module _ {A : Type 0} {F : List ℕ → List ℕ → A → Type 0} where
  pub letters_then : {m : Reader A} (cs : List ℕ) → smalls cs ≡ true
      → ((u : List ℕ) → Judged (λ s v a. F (cs ++ s) v a) u (m u)) → (t : List ℕ)
      → Judged F t (then (letters cs t) (λ done. m))
  letters_then cs small f t =
      then_judged (letters_judged cs small t)
      (λ done s u e. mapped (λ s' v a h. subst (λ z. F (z ++ s') v a) (sym e) h) (f u))

  pub spelled_judged : (cs : List ℕ) (a : A) → smalls cs ≡ true → ((u : List ℕ) → F cs u a) → (t : List ℕ)
      → Judged F t (spelled cs a t)
  spelled_judged cs a small f = letters_then cs small (λ u. given a (rw (append-nil cs) (f u)))

pub entered_word : {A : Type 0} {G : List ℕ → List ℕ → A → Type 0} {k : Kind} {s u : List ℕ} {a : A} (w : Word)
    (e : Entered k G s u a) → e.body ≡ w.bytes → Spelt k (w ∷ []) w.kind s
entered_word {k = k} w e same =
    subst (λ z. Spelt k (w ∷ []) w.kind z) (ap (λ z. e.spaces ++ z) (sym same) ∙ sym e.cut)
    (spelt_word k w e.spaces e.spaced (subst (λ z. Parted k e.spaces z) same e.parted))

pub word_judged : (k : Kind) (w : Word) → smalls w.bytes ≡ true → (t : List ℕ)
    → Judged (λ s u done. Spelt k (w ∷ []) w.kind s) t (read_word k w t)
word_judged k w small t =
    mapped (λ s u a e. entered_word w e e.inside) (entry_judged k (letters_judged w.bytes small) t)

module _ {A : Type 0} {F : List ℕ → List ℕ → A → Type 0} where
  -- a word, then what comes behind it
  pub word_then : {m : Reader A} (k : Kind) (w : Word) → smalls w.bytes ≡ true
      → ((s u : List ℕ) → Spelt k (w ∷ []) w.kind s → Judged (λ s' v a. F (s ++ s') v a) u (m u)) → (t : List ℕ)
      → Judged F t (then (read_word k w t) (λ done. m))
  word_then k w small f t = then_judged (word_judged k w small t) (λ done s u h. f s u h)

pub brackets_judged : {A : Type 0} {F : List ℕ → List ℕ → A → Type 0} (a : A)
    → ((s u : List ℕ) → Spelt word (open_sign ∷ close_sign ∷ []) symbol s → F s u a) → (t : List ℕ)
    → Judged F t (brackets a t)
brackets_judged {F = F} a f =
    word_then word open_sign refl
    (λ s u h. word_then symbol close_sign refl
    (λ s' v h'. given a
    (rw (append-nil s') (f (s ++ s') v (spelt_append h h')))) u)
