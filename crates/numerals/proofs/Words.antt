-- Laws of spaces and words in a text, and of places.
--     spaces_passed        spaces in front are passed
--     spaces_split         a text is spaces and what is left behind them
--     spaces_stopped       what is left opens with no space
--     spaces_still         where no space is in front, nothing is passed
--     after_reads          a word is read, whatever follows
--     after_is             a word read: the text is its bytes and what is left
--     after_stuck          stuck behind bytes of the word, where the next of them does not stand
--     after_local, after_halts     nothing behind the word, or behind the byte where reading is stuck, is looked at
--     place_left           a place is told by how much is left there
--     numeral_told, canonical_told     a number that the code read is at most the bound, and ends behind its start
use Prim.Native.Nat.{ℕ, ◌-◌, ◌≤◌, ◌<◌}
use mathlib.Core.Path.{◌≡◌, refl, sym, ap, subst, ◌∙◌}
use mathlib.Core.List.{List, [], ◌∷◌, ◌++◌, append_cancel_right, head-eq_of_cons-eq, nil≢cons}
use mathlib.Core.Bool.{false}
use native.Mathlib.Omega.{arith}
use lib.Dec.{eqb}
use lib.ListN.{length, drop, length-drop}
use borrow.Author.Tests.{eqb-true, eqb-false, eq-eqb, ne_eqb}
use Rattle.laws.proofs.Booleans.{by_cases}
use Rattle.numerals.specs.Numerals.{Res, is, stuck, numeral, canonical}
use Rattle.laws.specs.Characters.{is_space, Spaces}
use Rattle.numerals.specs.Texts.{drop_spaces, after, Differs}
use Rattle.numerals.specs.Answers.{told_numeral}
use Rattle.std.specs.Prelude.{Ok}
use Rattle.numerals.proofs.Splitting.{numeral_is, numeral_shorter, canonical_is, canonical_shorter}

pub spaces_passed : (s t : List ℕ) → Spaces s → drop_spaces (s ++ t) ≡ drop_spaces t
unfolding drop_spaces
spaces_passed [] t h = refl
spaces_passed (b ∷ s) t h = rw h.0 (spaces_passed s t h.1)

pub spaces_split : (t : List ℕ) → (s : List ℕ) × (t ≡ s ++ drop_spaces t) × Spaces s
unfolding drop_spaces
spaces_split [] = ([], refl, tt)
spaces_split (b ∷ t) =
    by_cases (is_space b)
    (λ e. let k = spaces_split t in rw e (b ∷ k.0, ap (λ (l : List ℕ). b ∷ l) k.1, (e, k.2)))
    (λ e. rw e ([], refl, tt))

pub spaces_stopped : (t : List ℕ) (b : ℕ) (u : List ℕ) → drop_spaces t ≡ b ∷ u → is_space b ≡ false
unfolding drop_spaces
spaces_stopped [] b u e = absurd (nil≢cons e)
spaces_stopped (c ∷ t) b u e =
    by_cases (is_space c)
    (λ h. spaces_stopped t b u (rw h at e))
    (λ h. ap is_space (sym (head-eq_of_cons-eq (rw h at e))) ∙ h)

pub spaces_still : (b : ℕ) (t : List ℕ) → is_space b ≡ false → drop_spaces (b ∷ t) ≡ b ∷ t
unfolding drop_spaces
spaces_still b t e = rw e

pub after_reads : (w u : List ℕ) → after w (w ++ u) ≡ is tt u
unfolding after
after_reads [] u = refl
after_reads (b ∷ w) u = rw (eq-eqb b b refl) (after_reads w u)

-- what an answer says of the text
abbrev AfterSays : List ℕ → List ℕ → Res (Unit {0}) → Type 0
AfterSays w t (is x u) = t ≡ w ++ u
AfterSays w t (stuck u) = Differs w t u

after_step : (b : ℕ) (w t : List ℕ) (r : Res (Unit {0})) → AfterSays w t r → AfterSays (b ∷ w) (b ∷ t) r
after_step b w t (is x u) e = ap (λ (l : List ℕ). b ∷ l) e
after_step b w t (stuck u) d = record {
  same = b ∷ d.same;
  wanted = d.wanted;
  unread = d.unread;
  word = ap (λ (l : List ℕ). b ∷ l) d.word;
  whole = ap (λ (l : List ℕ). b ∷ l) d.whole;
  differs = d.differs;
}

after_says : (w t : List ℕ) → AfterSays w t (after w t)
unfolding after
after_says [] t = refl
after_says (c ∷ w) [] = record {
  same = [];
  wanted = c;
  unread = w;
  word = refl;
  whole = refl;
  differs = λ v e. nil≢cons e;
}
after_says (c ∷ w) (b ∷ t) =
    by_cases (eqb b c)
    (λ e.
    rw e (subst (λ (n : ℕ). AfterSays (n ∷ w) (b ∷ t) (after w t)) (eqb-true b c e)
    (after_step b w t (after w t) (after_says w t))))
    (λ e.
    rw e (record {
      same = [];
      wanted = c;
      unread = w;
      word = refl;
      whole = refl;
      differs = λ v d. eqb-false b c e (head-eq_of_cons-eq d);
    }))

pub after_is : (w t u : List ℕ) → after w t ≡ is tt u → t ≡ w ++ u
after_is w t u e = subst (AfterSays w t) e (after_says w t)

pub after_stuck : (w t u : List ℕ) → after w t ≡ stuck u → Differs w t u
after_stuck w t u e = subst (AfterSays w t) e (after_says w t)

pub after_local : (w s u u' : List ℕ) → after w (s ++ u) ≡ is tt u → after w (s ++ u') ≡ is tt u'
after_local w s u u' e =
    ap (λ (l : List ℕ). after w (l ++ u')) (append_cancel_right s w u (after_is w (s ++ u) u e)) ∙ after_reads w u'

-- bytes of the word, then one that is not its next
after_differs : (s : List ℕ) (c : ℕ) (r : List ℕ) (b : ℕ) (v : List ℕ) → (b ≡ c → ⊥)
    → after (s ++ (c ∷ r)) (s ++ (b ∷ v)) ≡ stuck (b ∷ v)
unfolding after
after_differs [] c r b v h = rw (ne_eqb b c h)
after_differs (a ∷ s) c r b v h = rw (eq-eqb a a refl) (after_differs s c r b v h)

pub after_halts : (w s : List ℕ) (b : ℕ) (v v' : List ℕ) → after w (s ++ (b ∷ v)) ≡ stuck (b ∷ v)
    → after w (s ++ (b ∷ v')) ≡ stuck (b ∷ v')
after_halts w s b v v' e =
    let d = after_stuck w (s ++ (b ∷ v)) (b ∷ v) e in
    let k : s ≡ d.same = append_cancel_right s d.same (b ∷ v) d.whole in
    ap (λ (l : List ℕ). after w (l ++ (b ∷ v'))) k
    ∙ ap (λ (l : List ℕ). after l (d.same ++ (b ∷ v'))) d.word
    ∙ after_differs d.same d.wanted d.unread b v'
    (λ z. d.differs v (ap (λ (n : ℕ). n ∷ v) z))

pub place_left : (text : List ℕ) (p : ℕ) → p ≤ length text → p ≡ length text - length (drop p text)
place_left text p h = omega (arith, length-drop p text)

-- what is left is less: the place lies further on
further : (text : List ℕ) (at p : ℕ) → length (drop p text) < length (drop at text) → at < p
further text at p h = omega (arith, length-drop at text, length-drop p text)

module _ (text : List ℕ) (at most v next : ℕ) where
  pub numeral_told : told_numeral text (Ok (record { what = v; next = next })) ≡ numeral most (drop at text)
      → (v ≤ most) × (at < next)
  unfolding told_numeral
  numeral_told e = (
    (numeral_is most v (drop at text) (drop next text) (sym e)).1.held,
    further text at next (numeral_shorter most v (drop at text) (drop next text) (sym e)),
  )

  pub canonical_told : told_numeral text (Ok (record { what = v; next = next })) ≡ canonical most (drop at text)
      → (v ≤ most) × (at < next)
  unfolding told_numeral
  canonical_told e = (
    (canonical_is most v (drop at text) (drop next text) (sym e)).0.held,
    further text at next (canonical_shorter most v (drop at text) (drop next text) (sym e)),
  )
