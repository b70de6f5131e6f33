-- Local readers that have read a byte at least where they pass.
--     Takes x n f f'     local, and where f passes it has read a byte
--     takes-..           the laws, for each thing that readers are made of; what comes behind the byte is only local
use Prim.Native.Nat.{ℕ, suc, ◌+◌, ◌-◌, ◌*◌}
use mathlib.Core.Path.{◌≡◌, refl}
use mathlib.Core.List.{List, [], ◌∷◌}
use mathlib.Core.Bool.{Bool, true, false}
use native.Mathlib.Omega.{arith}
use lib.Dec.{leb, eqb}
use lib.ListN.{length}
use Rattle.laws.proofs.Booleans.{clash}
use Rattle.grammar.specs.Words.{Kind}
use Rattle.laws.specs.Characters.{is_space, is_digit, first}
use Rattle.grammar.specs.Spelled.{joins}
use Rattle.parsing.specs.Reader.{Res, ok, stuck, Reader, then, rest, skip, give, halt, either, look, past, entry}
use Rattle.parsing.specs.Reader.{byte, letters, numeral}
use Rattle.parsing.proofs.Local.{Likeness, Local, Within, Shrinks, within_less, within_behind}
use Rattle.parsing.proofs.Local.{suffix_length, suffix_skip, local_then, local_then_shorter}
use Rattle.parsing.proofs.Local.{local_halt, local_look, local_entry, local_byte_shorter}
use Rattle.parsing.proofs.LocalWords.{numeral_behind, local_letters, local_numeral}

no_digit : is_digit 256 ≡ false
unfolding is_digit
no_digit = refl

pub record Takes (x : Likeness) (n : ℕ) {A : Type 0} (f f' : Reader A) : Type 0 where
  pub local : Local x n f f'
  pub shrinks : Shrinks f

module _ {x : Likeness} {A B : Type 0} {f f' : A → Reader B} where
  -- .. of what was read before, within the same bytes
  within_then :
      {n : ℕ} → ((a : A) → Local x n (f a) (f' a)) → (bound : ℕ) (r : Res A) → Within bound r → Within bound (then r f)
  within_then h bound (ok a u) k = within_behind bound (f a u) (omega (arith, suffix_length ((h a).behind u)))
  within_then h bound (stuck u) k = tt

  -- behind a byte that was read, for texts shorter by one
  pub local_behind :
      {n : ℕ} {m m' : Reader A}
      → Takes x (suc n) m m' → ((a : A) → Local x n (f a) (f' a))
      → Local x (suc n) (λ t. then (m t) f) (λ t. then (m' t) f')
  local_behind k h = local_then_shorter k.local k.shrinks h

  pub takes_then :
      {n : ℕ} {m m' : Reader A}
      → Takes x n m m' → ((a : A) → Local x n (f a) (f' a)) → Takes x n (λ t. then (m t) f) (λ t. then (m' t) f')
  takes_then {m = m} k h =
      record {
        local = local_then k.local h;
        shrinks = λ t. within_then h (length t) (m t) (k.shrinks t);
      }

module _ {x : Likeness} {n : ℕ} {A : Type 0} where
  pub takes_halt : Takes x n {A = A} halt halt
  takes_halt = record { local = local_halt; shrinks = λ t. tt }

  pub takes_either :
      (b : Bool) {m m' k k' : Reader A}
      → Takes x n m m' → Takes x n k k' → Takes x n (either b m k) (either b m' k')
  takes_either true h j = h
  takes_either false h j = j

  pub takes_entry : (k : Kind) {m m' : Reader A} → Takes x n m m' → Takes x n (entry k m) (entry k m')
  takes_entry k {m} h =
      record {
        local = local_entry k h.local;
        shrinks = λ t. go t (is_space (first t));
      }
    where
      beside : (t : List ℕ) (b : Bool) → Within (length t) (either b halt m t)
      beside t true = tt
      beside t false = h.shrinks t

      go : (t : List ℕ) (b : Bool) → Within (length t) (either b (λ u. m (skip u)) (look (joins k) halt m) t)
      go t true =
          within_less (length (skip t)) (length t) (m (skip t)) (suffix_length (suffix_skip t)) (h.shrinks (skip t))
      go t false = beside t (joins k (first t))

  pub takes_byte :
      (c : ℕ) {m m' k k' : Reader A} → eqb 256 c ≡ false → Local x n m m' → Takes x (suc n) k k'
      → Takes x (suc n) (byte c m k) (byte c m' k')
  unfolding first rest
  takes_byte c {m} {m'} {k} none h j =
      record {
        local = local_byte_shorter c none h j.local;
        shrinks = λ t. go t (eqb (first t) c) refl;
      }
    where
      go : (t : List ℕ) (b : Bool) → eqb (first t) c ≡ b → Within (length t) (either b (past m) k t)
      go [] true e = clash e none
      go (a ∷ t) true e = within_behind (length (a ∷ t)) (m t) (omega (arith, suffix_length (h.behind t)))
      go t false e = j.shrinks t

-- digits where there is one
shrinks_numeral : (most v : ℕ) (t : List ℕ) → is_digit (first t) ≡ true → Within (length t) (numeral most v t)
unfolding first
shrinks_numeral most v [] e = clash e no_digit
shrinks_numeral most v (b ∷ t) e = go (is_digit b) (leb more most) e
  where
    more : ℕ
    more = v * 10 + (b - 48)

    go :
        (digit fits : Bool) → digit ≡ true
        → Within
        (length (b ∷ t))
        (either digit (either fits (λ u. numeral most more t) halt) (give v) (b ∷ t))
    go true true e =
        within_behind (length (b ∷ t)) (numeral most more t)
        (omega (arith, suffix_length (numeral_behind most more t)))
    go true false e = tt
    go false fits e = clash e refl

module _ {x : Likeness} {n : ℕ} where
  pub takes_letters :
      (c : ℕ) (cs : List ℕ) → eqb 256 c ≡ false → Takes x (suc n) (letters (c ∷ cs)) (letters (c ∷ cs))
  takes_letters c cs none = takes_byte c none (local_letters cs) takes_halt

  pub takes_digits :
      {A : Type 0} {f f' : ℕ → Reader A} {k k' : Reader A} (most : ℕ)
      → ((v : ℕ) → Local x n (f v) (f' v)) → Takes x n k k'
      → Takes x n
      (look is_digit (λ t. then (numeral most 0 t) f) k)
      (look is_digit (λ t. then (numeral most 0 t) f') k')
  takes_digits {A} {f} {f'} {k} most h j =
      record {
        local = local_look is_digit (local_then (local_numeral most 0) h) j.local;
        shrinks = λ t. go t (is_digit (first t)) refl;
      }
    where
      go :
          (t : List ℕ) (b : Bool) → is_digit (first t) ≡ b
          → Within (length t) (either b (λ u. then (numeral most 0 u) f) k t)
      go t true e = within_then h (length t) (numeral most 0 t) (shrinks_numeral most 0 t e)
      go t false e = j.shrinks t
