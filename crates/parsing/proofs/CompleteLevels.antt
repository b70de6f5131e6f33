-- What it means that words are read as records at each level. Nothing here speaks of parts: of words ws and records
-- xs it says that the level's reader, on every text that spells ws and what may follow, comes to xs.
--     Open r loop k vs m      r is what the loop gives at a place behind which vs is spelled, behind kind k, in fewer
--                             than m bytes and in no more than its readers are for
--     open_then, open_from    .. then what comes next; .. of another that is equal
--     part_of xs n             a part's records and the word behind it
--     Loose n                 word n goes on with no chain but that of commas
--     loose-..                .. so do a comma and the words that end a part
--     Primary, Steps, Factors, Terms, Sides, Single, Items ws xs d     each level, d grouping parentheses allowed
--     either_true, either_false     a test that is known
--     closed, steps_closed    a chain that is not gone on with
--     turn_on                 a chain that is: one side more
--     steps_inside, single_inside, items_inside     a shorter text is read by the readers of parts inside
--     items_closed            a list that is not gone on with
use Prim.Native.Nat.{ℕ, zero, suc, ◌≤◌, ◌<◌}
use mathlib.Core.Path.{◌≡◌, refl, ap, ◌∙◌}
use mathlib.Core.List.{List, ◌++◌}
use mathlib.Core.Bool.{Bool, true, false}
use native.Mathlib.Omega.{arith}
use lib.Dec.{eqb}
use lib.ListN.{length}
use Rattle.grammar.specs.Words.{Kind, Word}
use Rattle.grammar.specs.Spelled.{Spells}
use Rattle.parsing.specs.declared.Ends.{Ends}
use Rattle.parsing.specs.declared.Next.{Next}
use Rattle.parsing.specs.declared.Next.TheVariants.{Comma, Close, Return, Else, End}
use Rattle.parsing.specs.Reader.{Res, Reader, then, either, entry, tightness, operation, kind_of, Went, went}
use Rattle.parsing.specs.Reader.{turn, read_primary, more_steps, read_path, more_factors, read_product, more_terms}
use Rattle.parsing.specs.Reader.{read_sum, read_sides, read_single, more_items, read_expr, readers, by_comma}
use Rattle.parsing.proofs.CompleteWords.{Reached, Sound}
use Rattle.parsing.proofs.CompleteNext.{follow, behind, allows}

pub record Open (r : Res Went) (loop : ℕ → Reader Went) (k : Kind) (vs : List Word) (m : ℕ) : Type 0 where
  pub left : ℕ
  pub at : List ℕ
  pub reads : r ≡ loop left at
  pub enough : length at ≤ left
  pub spells : Spells k vs at
  pub shorter : length at < m

pub open_from : {q r : Res Went} {loop : ℕ → Reader Went} {k : Kind} {vs : List Word} {m : ℕ} → q ≡ r
    → Open r loop k vs m → Open q loop k vs m
open_from e h =
    record {
      left = h.left;
      at = h.at;
      reads = e ∙ h.reads;
      enough = h.enough;
      spells = h.spells;
      shorter = h.shorter;
    }

pub open_then : {A : Type 0} {r : Res A} {a : A} {k j : Kind} {vs us : List Word} {m l : ℕ} {loop : ℕ → Reader Went}
    (f : A → Reader Went) → Reached r a k vs m
    → ((at : List ℕ) → Spells k vs at → length at < m → Open (f a at) loop j us l)
    → Open (then r f) loop j us l
open_then f h g = open_from (ap (λ x. then x f) h.reads) (g h.at h.spells h.shorter)

-- The levels

abbrev pub part_of : List ℕ → Next → Went
part_of xs n = record { made = xs; next = n }

pub record Loose (n : Next) : Type 0 where
  pub unstepped : eqb (tightness n) 4 ≡ false
  pub unmultiplied : eqb (tightness n) 3 ≡ false
  pub unadded : eqb (tightness n) 2 ≡ false
  pub uncompared : eqb (tightness n) 1 ≡ false

pub loose_comma : Loose Comma
loose_comma = record { unstepped = refl; unmultiplied = refl; unadded = refl; uncompared = refl }

pub loose_close : Loose Close
loose_close = record { unstepped = refl; unmultiplied = refl; unadded = refl; uncompared = refl }

pub loose_return : Loose Return
loose_return = record { unstepped = refl; unmultiplied = refl; unadded = refl; uncompared = refl }

pub loose_else : Loose Else
loose_else = record { unstepped = refl; unmultiplied = refl; unadded = refl; uncompared = refl }

pub loose_end : Loose End
loose_end = record { unstepped = refl; unmultiplied = refl; unadded = refl; uncompared = refl }

pub record Primary (ws : List Word) (xs : List ℕ) (d : ℕ) : Type 0 where
  pub ends : Kind
  pub reads :
      (m : ℕ) (k : Kind) (vs : List Word) (t : List ℕ) → length t ≤ m → Sound vs → Spells k (ws ++ vs) t
      → Reached (entry k (read_primary (readers m) d) t) (record { made = xs; kind = ends }) ends vs (length t)

pub record Steps (ws : List Word) (xs : List ℕ) (d : ℕ) : Type 0 where
  pub reads :
      (m : ℕ) (k : Kind) (e : Ends) (c : Bool) (n : Next) (vs : List Word) (t : List ℕ) → length t ≤ m
      → allows e c n ≡ true → Spells k (ws ++ follow n vs) t
      → Open (read_path (readers m) d e c false k t) (λ l. more_steps (readers l) e c xs n) (kind_of n) (behind n vs)
      (length t)

pub record Factors (ws : List Word) (xs : List ℕ) (d : ℕ) : Type 0 where
  pub reads :
      (m : ℕ) (k : Kind) (e : Ends) (c : Bool) (n : Next) (vs : List Word) (t : List ℕ) → length t ≤ m
      → allows e c n ≡ true → eqb (tightness n) 4 ≡ false → Spells k (ws ++ follow n vs) t
      → Open (read_product (readers m) d e c false k t) (λ l. more_factors (readers l) d e c xs n) (kind_of n)
      (behind n vs)
      (length t)

pub record Terms (ws : List Word) (xs : List ℕ) (d : ℕ) : Type 0 where
  pub reads :
      (m : ℕ) (k : Kind) (e : Ends) (c : Bool) (n : Next) (vs : List Word) (t : List ℕ) → length t ≤ m
      → allows e c n ≡ true → eqb (tightness n) 4 ≡ false → eqb (tightness n) 3 ≡ false
      → Spells k (ws ++ follow n vs) t
      → Open (read_sum (readers m) d e c false k t) (λ l. more_terms (readers l) d e c xs n) (kind_of n) (behind n vs)
      (length t)

pub record Sides (ws : List Word) (xs : List ℕ) (d : ℕ) : Type 0 where
  pub reads :
      (m : ℕ) (k : Kind) (e : Ends) (n : Next) (vs : List Word) (t : List ℕ) → length t ≤ m
      → allows e true n ≡ true → Loose n → Spells k (ws ++ follow n vs) t
      → Reached (read_sides (readers m) d e false k t) (part_of xs n) (kind_of n) (behind n vs) (length t)

pub record Single (ws : List Word) (xs : List ℕ) (d : ℕ) : Type 0 where
  pub reads :
      (m : ℕ) (k : Kind) (e : Ends) (n : Next) (vs : List Word) (t : List ℕ) → length t ≤ m
      → allows e true n ≡ true → Loose n → Spells k (ws ++ follow n vs) t
      → Reached (read_single (readers m) d e k t) (part_of xs n) (kind_of n) (behind n vs) (length t)

pub record Items (ws : List Word) (xs : List ℕ) (d : ℕ) : Type 0 where
  pub reads :
      (m : ℕ) (k : Kind) (e : Ends) (n : Next) (vs : List Word) (t : List ℕ) → length t ≤ m
      → by_comma e ≡ true → allows e true n ≡ true → Loose n → Spells k (ws ++ follow n vs) t
      → Open (read_expr (readers m) d e k t) (λ l. more_items (readers l) d e xs n) (kind_of n) (behind n vs)
      (length t)

-- Chains

pub either_true : {A : Type 0} (b : Bool) (p q : Reader A) (t : List ℕ) → b ≡ true → either b p q t ≡ p t
either_true b p q t e = rw e

pub either_false : {A : Type 0} (b : Bool) (p q : Reader A) (t : List ℕ) → b ≡ false → either b p q t ≡ q t
either_false b p q t e = rw e

pub steps_closed : {r : Res Went} {k : Kind} {vs : List Word} {m : ℕ} (e : Ends) (c : Bool) (xs : List ℕ) (n : Next)
    → eqb (tightness n) 4 ≡ false → Open r (λ l. more_steps (readers l) e c xs n) k vs m
    → Reached r (part_of xs n) k vs m
steps_closed e c xs n h o =
    record {
      at = o.at;
      reads = o.reads ∙ either_false (eqb (tightness n) 4) _ (went xs n) o.at h;
      spells = o.spells;
      shorter = o.shorter;
    }

-- a chain of tightness i, its sides and what comes behind a turn by the readers for texts of so many bytes
module _ (i : ℕ) (side : ℕ → Kind → Reader Went) (again : ℕ → List ℕ → Next → Reader Went) where
  pub closed : {r : Res Went} {k : Kind} {vs : List Word} {m : ℕ} (xs : List ℕ) (n : Next)
      → eqb (tightness n) i ≡ false → Open r (λ l. turn i (side l) (again l) xs n) k vs m
      → Reached r (part_of xs n) k vs m
  closed xs n h o =
      record {
        at = o.at;
        reads = o.reads ∙ either_false (eqb (tightness n) i) _ (went xs n) o.at h;
        spells = o.spells;
        shorter = o.shorter;
      }

  abbrev Again : Type 0
  Again = (l : ℕ) (xs : List ℕ) (n : Next) (t : List ℕ) → again (suc l) xs n t ≡ turn i (side l) (again l) xs n t

  inside : (l : ℕ) (k : Kind) (vs : List Word) (m : ℕ) (xs : List ℕ) (n : Next) (t : List ℕ) → Again → length t < l
      → length t < m → Spells k vs t → Open (again l xs n t) (λ l. turn i (side l) (again l) xs n) k vs m
  inside zero k vs m xs n t f h s sp = absurd (omega arith)
  inside (suc l) k vs m xs n t f h s sp =
      record { left = l; at = t; reads = f l xs n t; enough = omega arith; spells = sp; shorter = s }

  pub turn_on : {r : Res Went} {j : Kind} {us vs : List Word} {m : ℕ} (xs ys : List ℕ) (p n : Next) → Again
      → eqb (tightness p) i ≡ true
      → ((l : ℕ) (t : List ℕ) → length t ≤ l → Spells (kind_of p) us t
      → Reached (side l (kind_of p) t) (part_of ys n) j vs (length t))
      → Open r (λ l. turn i (side l) (again l) xs p) (kind_of p) us m
      → Open r (λ l. turn i (side l) (again l) (operation p ++ (xs ++ ys)) n) j vs m
  turn_on {j = j} {vs = vs} {m = m} xs ys p n f h g o =
      let a = o.left in
      open_from (o.reads ∙ either_true (eqb (tightness p) i) _ (went xs p) o.at h)
      (open_then _ (g a o.at o.enough o.spells)
      (λ t st lt.
      inside a j vs m (operation p ++ (xs ++ ys)) n t f (omega (arith, o.enough)) (omega (arith, o.shorter)) st))

-- The readers of parts inside

pub steps_inside : (l : ℕ) (e : Ends) (c : Bool) (k : Kind) (vs : List Word) (m : ℕ) (xs : List ℕ) (n : Next)
    (t : List ℕ) → length t < l → length t < m → Spells k vs t
    → Open ((readers l).steps e c xs n t) (λ l. more_steps (readers l) e c xs n) k vs m
steps_inside zero e c k vs m xs n t h s sp = absurd (omega arith)
steps_inside (suc l) e c k vs m xs n t h s sp =
    record { left = l; at = t; reads = refl; enough = omega arith; spells = sp; shorter = s }

module _ {ws : List Word} {xs : List ℕ} {d : ℕ} where
  pub single_inside : (p : Single ws xs d) (m : ℕ) (k : Kind) (e : Ends) (n : Next) (vs : List Word) (t : List ℕ)
      → length t < m → allows e true n ≡ true → Loose n → Spells k (ws ++ follow n vs) t
      → Reached ((readers m).single d e k t) (part_of xs n) (kind_of n) (behind n vs) (length t)
  single_inside p zero k e n vs t h a s sp = absurd (omega arith)
  single_inside p (suc m) k e n vs t h a s sp = p.reads m k e n vs t (omega arith) a s sp

  pub items_closed : (p : Items ws xs d) (m : ℕ) (k : Kind) (e : Ends) (n : Next) (vs : List Word) (t : List ℕ)
      → length t ≤ m → by_comma e ≡ true → allows e true n ≡ true → Loose n → eqb (tightness n) 0 ≡ false
      → Spells k (ws ++ follow n vs) t
      → Reached (read_expr (readers m) d e k t) (part_of xs n) (kind_of n) (behind n vs) (length t)
  items_closed p m k e n vs t h b a s z sp =
      closed 0 (λ l. read_single (readers l) d e) (λ l. (readers l).items d e) xs n z (p.reads m k e n vs t h b a s sp)

  pub items_inside : (p : Items ws xs d) (m : ℕ) (k : Kind) (e : Ends) (n : Next) (vs : List Word) (t : List ℕ)
      → length t < m → by_comma e ≡ true → allows e true n ≡ true → Loose n → eqb (tightness n) 0 ≡ false
      → Spells k (ws ++ follow n vs) t
      → Reached ((readers m).expr d e k t) (part_of xs n) (kind_of n) (behind n vs) (length t)
  items_inside p zero k e n vs t h b a s z sp = absurd (omega arith)
  items_inside p (suc m) k e n vs t h b a s z sp = items_closed p m k e n vs t (omega arith) b a s z sp
