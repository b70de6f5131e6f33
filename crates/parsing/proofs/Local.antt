-- What a reader answers depends on no byte behind the first one that it leaves, and what it leaves is an end of the
-- text: the words for it, and the laws of what readers are made of. The same words say that two readers answer alike
-- on short texts.
--     Suffix u t         u is t without some of its first bytes
--     left r             what an outcome leaves of the text
--     Likeness           two texts that a reader cannot tell apart while what is left is not beyond some place
--     Alike x r r'       outcomes of the same kind with the same result and like texts left; or beyond
--     Local x n f f'     alike outcomes of like texts shorter than n; and f leaves an end of the text
--     Within n r         where r passes, less than n bytes are left
--     Shrinks f          where f passes, it has read a byte at least
--     local-..           the laws, for each thing that readers are made of; ..-shorter: what comes behind a byte that
--                        was read need answer alike only for shorter texts
use Prim.Native.Nat.{ℕ, suc, ◌≤◌, ◌<◌}
use mathlib.Core.Path.{◌≡◌, refl, subst}
use mathlib.Core.Logic.{◌⊎◌, inl, inr, ⊎_elim}
use mathlib.Core.List.{List, [], ◌∷◌, ◌++◌}
use mathlib.Core.Bool.{Bool, true, false, ◌&&◌}
use native.Mathlib.Omega.{arith}
use lib.Dec.{eqb}
use lib.ListN.{length}
use Rattle.laws.proofs.Booleans.{clash}
use Rattle.grammar.specs.Words.{Kind}
use Rattle.laws.specs.Characters.{is_space, first}
use Rattle.grammar.specs.Spelled.{joins}
use Rattle.parsing.specs.Reader.{Res, ok, stuck, Reader, then, rest, ended, skip, give, halt, either, look, past}
use Rattle.parsing.specs.Reader.{entry, at_end, byte, allowed}

pub data Suffix (u : List ℕ) : List ℕ → Type 0 where
  whole : Suffix u u
  after : {t : List ℕ} (b : ℕ) → Suffix u t → Suffix u (b ∷ t)

abbrev pub left : {A : Type 0} → Res A → List ℕ
left (ok a t) = t
left (stuck t) = t

pub record Likeness : Type 1 where
  pub like : List ℕ → List ℕ → Type 0
  pub beyond : List ℕ → Type 0
  pub same_first : {t t' : List ℕ} → like t t' → first t ≡ first t'
  pub same_end : {t t' : List ℕ} → like t t' → ended t ≡ ended t'
  pub onward : {t t' : List ℕ} → like t t' → like (rest t) (rest t') ⊎ beyond (rest t)
  pub deeper : {t u : List ℕ} → Suffix u t → beyond t → beyond u

pub data Alike (x : Likeness) {A : Type 0} : Res A → Res A → Type 0 where
  passed : (a : A) {t t' : List ℕ} → x.like t t' → Alike x (ok a t) (ok a t')
  halted : {t t' : List ℕ} → x.like t t' → Alike x (stuck t) (stuck t')
  gone : {r r' : Res A} → x.beyond (left r) → Alike x r r'

pub record Local (x : Likeness) (n : ℕ) {A : Type 0} (f f' : Reader A) : Type 0 where
  pub alike : {t t' : List ℕ} → length t < n → x.like t t' → Alike x (f t) (f' t')
  pub behind : (t : List ℕ) → Suffix (left (f t)) t

abbrev pub Within : {A : Type 0} → ℕ → Res A → Type 0
Within n (ok a u) = length u < n
Within n (stuck u) = Unit {0}

abbrev pub Shrinks : {A : Type 0} → Reader A → Type 0
Shrinks f = (t : List ℕ) → Within (length t) (f t)

-- Ends of a text

pub suffix_both : {s t u : List ℕ} → Suffix s t → Suffix t u → Suffix s u
suffix_both h whole = h
suffix_both h (after b k) = after b (suffix_both h k)

pub suffix_length : {u t : List ℕ} → Suffix u t → length u ≤ length t
suffix_length whole = omega arith
suffix_length (after b h) = omega (arith, suffix_length h)

pub suffix_rest : (t : List ℕ) → Suffix (rest t) t
unfolding rest
suffix_rest [] = whole
suffix_rest (b ∷ t) = after b whole

pub suffix_skip : (t : List ℕ) → Suffix (skip t) t
unfolding skip
suffix_skip [] = whole
suffix_skip (b ∷ t) = go (is_space b) (suffix_skip t)
  where
    go : (space : Bool) → Suffix (skip t) t → Suffix (elim space [ true ↦ skip t | false ↦ b ∷ t ]) (b ∷ t)
    go true h = after b h
    go false h = whole

-- where u is an end of t, t is some bytes and then u
pub suffix_parts : {u t : List ℕ} → Suffix u t → (s : List ℕ) × (t ≡ s ++ u)
suffix_parts whole = ([], refl)
suffix_parts (after b h) = (b ∷ (suffix_parts h).0, rw (← (suffix_parts h).1))

-- Like texts

module _ (x : Likeness) where
  -- past their first byte, that is the same
  skip_cons :
      (b : ℕ) (t u : List ℕ) → (x.like t u → x.like (skip t) (skip u) ⊎ x.beyond (skip t))
      → x.like (b ∷ t) (b ∷ u) → x.like (skip (b ∷ t)) (skip (b ∷ u)) ⊎ x.beyond (skip (b ∷ t))
  unfolding rest skip
  skip_cons b t u further l = go (is_space b)
    where
      go :
          (space : Bool)
          → x.like (elim space [ true ↦ skip t | false ↦ b ∷ t ]) (elim space [ true ↦ skip u | false ↦ b ∷ u ])
          ⊎ x.beyond (elim space [ true ↦ skip t | false ↦ b ∷ t ])
      go true = ⊎_elim further (λ g. inr (x.deeper (suffix_skip t) g)) (x.onward l)
      go false = inl l

  pub like_skip : (t u : List ℕ) → x.like t u → x.like (skip t) (skip u) ⊎ x.beyond (skip t)
  unfolding first ended skip
  like_skip [] [] l = inl l
  like_skip [] (b ∷ u) l = clash refl (x.same_end l)
  like_skip (b ∷ t) [] l = clash (x.same_end l) refl
  like_skip (b ∷ t) (a ∷ u) l =
      subst
      (λ (e : ℕ).
      x.like (b ∷ t) (e ∷ u) → x.like (skip (b ∷ t)) (skip (e ∷ u)) ⊎ x.beyond (skip (b ∷ t)))
      (x.same_first l)
      (skip_cons b t u (like_skip t u)) l

-- What passes on what was read

pub within_behind : {A : Type 0} (n : ℕ) (r : Res A) → length (left r) < n → Within n r
within_behind n (ok a u) h = h
within_behind n (stuck u) h = tt

pub within_less : {A : Type 0} (n m : ℕ) (r : Res A) → n ≤ m → Within n r → Within m r
within_less n m (ok a u) h k = omega arith
within_less n m (stuck u) h k = tt

module _ {x : Likeness} {A B : Type 0} {f f' : A → Reader B} where
  then_behind :
      {n : ℕ} → ((a : A) → Local x n (f a) (f' a)) → (r : Res A) → Suffix (left (then r f)) (left r)
  then_behind h (ok a u) = (h a).behind u
  then_behind h (stuck u) = whole

  then_alike :
      {n : ℕ} {r r' : Res A}
      → ((a : A) → Local x n (f a) (f' a)) → Alike x r r' → Within n r → Alike x (then r f) (then r' f')
  then_alike h (passed a l) short = (h a).alike short l
  then_alike h (halted l) short = halted l
  then_alike h (gone {r = r} g) short = gone (x.deeper (then_behind h r) g)

  pub local_then :
      {n : ℕ} {m m' : Reader A}
      → Local x n m m' → ((a : A) → Local x n (f a) (f' a)) → Local x n (λ t. then (m t) f) (λ t. then (m' t) f')
  local_then {n} {m} k h =
      record {
        alike = λ {t} short l.
            then_alike h (k.alike short l)
            (within_behind n (m t) (omega (arith, suffix_length (k.behind t))));
        behind = λ t. suffix_both (then_behind h (m t)) (k.behind t);
      }

  pub local_then_shorter :
      {n : ℕ} {m m' : Reader A}
      → Local x (suc n) m m' → Shrinks m → ((a : A) → Local x n (f a) (f' a))
      → Local x (suc n) (λ t. then (m t) f) (λ t. then (m' t) f')
  local_then_shorter {n} {m} k shrinks h =
      record {
        alike = λ {t} short l.
            then_alike h (k.alike short l) (within_less (length t) n (m t) (omega arith) (shrinks t));
        behind = λ t. suffix_both (then_behind h (m t)) (k.behind t);
      }

-- The others

module _ {x : Likeness} {n : ℕ} {A : Type 0} where
  pub local_give : (a : A) → Local x n (give a) (give a)
  local_give a = record { alike = λ short l. passed a l; behind = λ t. whole }

  pub local_halt : Local x n {A = A} halt halt
  local_halt = record { alike = λ short l. halted l; behind = λ t. whole }

  module _ {m m' : Reader A} where
    pub local_less : Local x (suc n) m m' → Local x n m m'
    local_less h = record { alike = λ short l. h.alike (omega arith) l; behind = h.behind }

    pub local_past : Local x n m m' → Local x n (past m) (past m')
    local_past h =
        record {
          alike = λ {t} short l.
              ⊎_elim
              (λ k. h.alike (omega (arith, suffix_length (suffix_rest t))) k)
              (λ g. gone (x.deeper (h.behind (rest t)) g))
              (x.onward l);
          behind = λ t. suffix_both (h.behind (rest t)) (suffix_rest t);
        }

    pub local_skip : Local x n m m' → Local x n (λ t. m (skip t)) (λ t. m' (skip t))
    local_skip h =
        record {
          alike = λ {t} {t'} short l.
              ⊎_elim
              (λ k. h.alike (omega (arith, suffix_length (suffix_skip t))) k)
              (λ g. gone (x.deeper (h.behind (skip t)) g))
              (like_skip x t t' l);
          behind = λ t. suffix_both (h.behind (skip t)) (suffix_skip t);
        }

  module _ {m m' k k' : Reader A} where
    pub local_either : (b : Bool) → Local x n m m' → Local x n k k' → Local x n (either b m k) (either b m' k')
    local_either true h j = h
    local_either false h j = j

    pub local_look :
        (is : ℕ → Bool) → Local x n m m' → Local x n k k' → Local x n (look is m k) (look is m' k')
    local_look is h j =
        record {
          alike = λ {t} {t'} short l.
              subst (λ (c : ℕ). Alike x (look is m k t) (either (is c) m' k' t')) (x.same_first l)
              ((local_either (is (first t)) h j).alike short l);
          behind = λ t. (local_either (is (first t)) h j).behind t;
        }

    pub local_end : Local x n m m' → Local x n k k' → Local x n (at_end m k) (at_end m' k')
    local_end h j =
        record {
          alike = λ {t} {t'} short l.
              subst (λ (b : Bool). Alike x (at_end m k t) (either b m' k' t')) (x.same_end l)
              ((local_either (ended t) h j).alike short l);
          behind = λ t. (local_either (ended t) h j).behind t;
        }

  pub local_byte :
      (c : ℕ) {m m' k k' : Reader A}
      → Local x n m m' → Local x n k k' → Local x n (byte c m k) (byte c m' k')
  local_byte c h j = local_look (λ b. eqb b c) (local_past h) j

  pub local_allowed :
      (may : Bool) (c : ℕ) {m m' k k' : Reader A}
      → Local x n m m' → Local x n k k' → Local x n (allowed may c m k) (allowed may c m' k')
  local_allowed may c h j = local_look (λ b. may && eqb b c) (local_past h) j

  pub local_entry : (k : Kind) {m m' : Reader A} → Local x n m m' → Local x n (entry k m) (entry k m')
  local_entry k h = local_look is_space (local_skip h) (local_look (joins k) local_halt h)

-- past a byte that is there

module _ {x : Likeness} {n : ℕ} {A : Type 0} where
  either_shorter :
      {m m' k k' : Reader A} (is : ℕ → Bool) → is 256 ≡ false → (b : Bool) (t t' : List ℕ) → is (first t) ≡ b
      → Local x n m m' → Local x (suc n) k k' → length t < suc n → x.like t t'
      → Alike x (either b (past m) k t) (either b (past m') k' t')
  unfolding first rest
  either_shorter is none true [] t' e h j short l = clash e none
  either_shorter is none true (a ∷ t) t' e h j short l =
      ⊎_elim (λ k. h.alike (omega arith) k) (λ g. gone (x.deeper (h.behind t) g)) (x.onward l)
  either_shorter is none false t t' e h j short l = j.alike short l

  pub local_look_shorter :
      (is : ℕ → Bool) {m m' k k' : Reader A} → is 256 ≡ false → Local x n m m' → Local x (suc n) k k'
      → Local x (suc n) (look is (past m) k) (look is (past m') k')
  local_look_shorter is {m} {m'} {k} {k'} none h j =
      record {
        alike = λ {t} {t'} short l.
            subst (λ (c : ℕ). Alike x (look is (past m) k t) (either (is c) (past m') k' t')) (x.same_first l)
            (either_shorter is none (is (first t)) t t' refl h j short l);
        behind = λ t. go t (is (first t));
      }
    where
      go : (t : List ℕ) (b : Bool) → Suffix (left (either b (past m) k t)) t
      go t true = suffix_both (h.behind (rest t)) (suffix_rest t)
      go t false = j.behind t

  pub local_byte_shorter :
      (c : ℕ) {m m' k k' : Reader A} → eqb 256 c ≡ false → Local x n m m' → Local x (suc n) k k'
      → Local x (suc n) (byte c m k) (byte c m' k')
  local_byte_shorter c none h j = local_look_shorter (λ b. eqb b c) none h j
