-- Laws of what the functions write: bytes, part by part.
--     pens_byte, pens_past     one byte, where there is room and where there is none
--     pens_none, pens_more     nothing, and one part after another
--     pens_as, pens_first      bytes, or the first of them, by another name
--     pens_length              the lent bytes stay as many as they were
--     pens_cleared             what is written from 0 on, then zeros from its end on: padded with zeros
--     bytes_of_join             a number of m + n bytes: what is past the last n bytes, then those
--     word_more, word_whole    a word, byte by byte
use Prim.Native.Nat.{ℕ, zero, suc, ◌+◌, ◌/◌, ◌%◌, ◌^◌, ◌≤◌, ◌<◌}
use mathlib.Core.Path.{◌≡◌, refl, sym, ap, ap₂, subst, ◌∙◌}
use mathlib.Core.List.{List, [], ◌∷◌, ◌++◌, append_assoc, append-nil}
use native.Mathlib.Nat.{add-suc, add-zero, zero-add, add_assoc, pow-suc, div-one, div-div-eq-div-mul, mul_comm}
use native.Mathlib.Numerals.{add-one}
use lib.ListN.{length, set, take, get_or, length-append}
use lib.Seq.{set_out, take-suc, take_all}
use Rattle.cells.specs.Bytes.{bytes_of}
use Rattle.laws.specs.Rows.{padded}
use Rattle.pen.specs.Penned.{penned, Pens}
use Rattle.pen.proofs.Penned.{penned_append, penned_length, cleared_penned}

-- one byte

pub pens_byte : (xs : List ℕ) (at b : ℕ) → Pens at (b ∷ []) xs (set xs at b) (at + 1)
unfolding penned
pens_byte xs at b = record { ends = refl; leaves = refl }

pub pens_past : (xs : List ℕ) (at b : ℕ) → length xs ≤ at → Pens at (b ∷ []) xs xs (at + 1)
unfolding penned
pens_past xs at b h = record { ends = refl; leaves = sym (set_out xs at b h) }

-- one part after another

pub pens_none : (xs : List ℕ) (at : ℕ) → Pens at [] xs xs at
unfolding penned
pens_none xs at = record { ends = sym (add-zero at); leaves = refl }

pub pens_more :
    {at m n : ℕ} {xs ys before between after : List ℕ} → Pens at xs before between m → Pens m ys between after n →
    Pens at (xs ++ ys) before after n
pens_more {at} {m} {n} {xs} {ys} {before} {between} {after} p q =
    record {
      ends =
          q.ends
          ∙ ap (λ (k : ℕ). k + length ys) p.ends
          ∙ add_assoc at (length xs) (length ys)
          ∙ ap (λ (k : ℕ). at + k) (sym (length-append xs ys));
      leaves =
          q.leaves
          ∙ ap₂ (λ (l : List ℕ) (k : ℕ). penned l k ys) p.leaves p.ends
          ∙ sym (penned_append before at xs ys);
    }

pub pens_as :
    {at n : ℕ} {xs ys before after : List ℕ} → xs ≡ ys → Pens at xs before after n → Pens at ys before after n
pens_as {at} {n} {xs} {ys} {before} {after} e p = subst (λ (l : List ℕ). Pens at l before after n) e p

pub pens_first :
    {at n x y : ℕ} {xs before after : List ℕ} → x ≡ y →
    Pens at (x ∷ xs) before after n → Pens at (y ∷ xs) before after n
pens_first {at} {n} {x} {y} {xs} e p = pens_as (ap (λ (b : ℕ). b ∷ xs) e) p

-- all that is lent

pub pens_length : {at n : ℕ} {ys before after : List ℕ} → Pens at ys before after n → length after ≡ length before
pens_length {at} {n} {ys} {before} p = ap length p.leaves ∙ penned_length before at ys

pub pens_cleared :
    {n : ℕ} {ys before after : List ℕ} → Pens 0 ys before after n → length ys ≤ length before →
    padded 0 (length after) (take n after) ≡ padded 0 (length before) ys
pens_cleared {n} {ys} {before} {after} p h =
    ap₂ (λ (k : ℕ) (l : List ℕ). padded 0 k (take n l)) (pens_length p) p.leaves
    ∙ ap (λ (k : ℕ). padded 0 (length before) (take k (penned before 0 ys))) (p.ends ∙ zero-add (length ys))
    ∙ cleared_penned (length before) 0 before ys h

-- numbers as bytes

pub bytes_of_join : (m n u : ℕ) → bytes_of (m + n) u ≡ bytes_of m (u / 256 ^ n) ++ bytes_of n u
unfolding bytes_of
bytes_of_join m zero u = rw (add-zero m, div-one u) (sym (append-nil (bytes_of m u)))
bytes_of_join m (suc n) u =
    rw (add-suc m n)
    (ap (λ (l : List ℕ). l ++ (u % 256 ∷ [])) (bytes_of_join m n (u / 256))
    ∙ append_assoc (bytes_of m (u / 256 / 256 ^ n)) (bytes_of n (u / 256)) (u % 256 ∷ [])
    ∙ ap (λ (v : ℕ). bytes_of m v ++ (bytes_of n (u / 256) ++ (u % 256 ∷ []))) over)
  where
    over : u / 256 / 256 ^ n ≡ u / 256 ^ suc n
    over = div-div-eq-div-mul u 256 (256 ^ n) ∙ ap (λ (k : ℕ). u / k) (mul_comm 256 (256 ^ n) ∙ sym (pow-suc 256 n))

-- a word, byte by byte

pub word_more :
    {at m n b : ℕ} {before between after : List ℕ} (word : List ℕ) (i : ℕ) → i < length word → b ≡ get_or word i 0 →
    Pens at (take i word) before between m → Pens m (b ∷ []) between after n →
    Pens at (take (i + 1) word) before after n
word_more {at} {m} {n} {b} word i h e p q =
    pens_as
    (ap (λ (v : ℕ). take i word ++ (v ∷ [])) e
    ∙ sym (take-suc word i 0 h)
    ∙ ap (λ (k : ℕ). take k word) (sym (add-one i)))
    (pens_more p q)

pub word_whole :
    {at n : ℕ} {before after : List ℕ} (word : List ℕ) (i : ℕ) → length word ≤ i →
    Pens at (take i word) before after n → Pens at word before after n
word_whole word i h p = pens_as (take_all i word h) p
