-- Laws of marking: ranks that are marked one after another, and the ranks of a list of cells.
--     among_more       one rank more
--     any_among, among_any     some rank of a list passes exactly when a rank among them does
--     holds_more       one rank more is marked
--     any_holds        marks and ranks are asked alike
--     ranks_append     the ranks of a list are those of its parts
--     one_more, one_fails_lem      one cell more
--     marked_none, marked_more, marked_fails     the same, cell by cell through a list
--     rank_node, rank_far, rank_other, rank_item, rank_stray     the rank of what a cell holds, case
--     by case
use Rattle.std.specs.Prelude.{Option, Some, None, Ok}
use Prim.Native.Nat.{ℕ, suc, ◌+◌, ◌≤◌, ◌<◌}
use mathlib.Core.Path.{◌≡◌, refl, sym, ap, ◌∙◌}
use mathlib.Core.Logic.{◌⊎◌, inl, inr}
use mathlib.Core.List.{List, [], ◌∷◌, ◌++◌}
use mathlib.Core.Bool.{Bool, true, false, ◌||◌, or-false}
use native.Mathlib.Decide.{ℕ_discrete}
use native.Mathlib.Numerals.{add-one}
use native.Mathlib.Omega.{arith}
use lib.Dec.{eqb, ltb}
use lib.IntN.{ℤ, pos}
use lib.ListN.{length, get_or, set, take, drop, replicate}
use Rattle.std.proofs.lemmas.List.{get_or_append_left, get_or-replicate, length-replicate, length-take-le}
use lib.Seq.{get_or-set_same, get_or-set_other, take-suc, split_at}
use borrow.Author.Tests.{eqb-true, eq-eqb, ne_eqb, lt-ltb, le-ltb, ltb-true}
use Rattle.cells.specs.Cell.{held}
use Rattle.cells.specs.declared.Rank.{Rank}
use Rattle.cells.specs.declared.Item.{Item}
use Rattle.cells.specs.declared.Item.TheVariants.{Integer, Truth, Node}
use Rattle.laws.specs.Lists.{any}
use Rattle.laws.proofs.Booleans.{clash}
use Rattle.laws.specs.Attempt.{Attempt, fails, gives, attempt, provided}
use Rattle.meaning.specs.Catalogue.{Catalogue}
use Rattle.meaning.specs.World.{rank_in, rank_of, ranks_of}
use Rattle.nodesets.specs.Nodes.{ranks}
use Rattle.nodesets.specs.Nodes.{among, MarkSet, FromOne, FromAll}
use Rattle.nodesets.proofs.Tests.{or_cases, or_left, or_right}
use Rattle.nodesets.proofs.Ranks.{any_append, any_is}

one_only : (p : ℕ → Bool) (r : ℕ) → any p (r ∷ []) ≡ p r
unfolding any
one_only p r = or-false (p r)

pub among_more : (rs : List ℕ) (r v : ℕ) → among (rs ++ (r ∷ [])) v ≡ (among rs v || eqb r v)
among_more rs r v =
    any_append (λ x. eqb x v) rs (r ∷ []) ∙ ap (λ b. among rs v || b) (one_only (λ x. eqb x v) r)

pub any_among :
    (p : ℕ → Bool) (rs : List ℕ) → any p rs ≡ true → (x : ℕ) × (among rs x ≡ true) × (p x ≡ true)
unfolding any
any_among p [] t = clash t refl
any_among p (r ∷ rs) t = by_place (or_cases (p r) (any p rs) t) (any_among p rs)
  where
    by_place :
        (p r ≡ true) ⊎ (any p rs ≡ true) → (any p rs ≡ true → (x : ℕ) × (among rs x ≡ true) × (p x ≡ true))
        → (x : ℕ) × (among (r ∷ rs) x ≡ true) × (p x ≡ true)
    by_place (inl k) ih = (r, or_left (among rs r) (eq-eqb r r refl), k)
    by_place (inr k) ih = let w = ih k in (w.0, or_right (eqb r w.0) w.1, w.2)

pub among_any : (p : ℕ → Bool) (rs : List ℕ) (x : ℕ) → among rs x ≡ true → p x ≡ true → any p rs ≡ true
unfolding any
among_any p [] x t k = clash t refl
among_any p (r ∷ rs) x t k = by_place (or_cases (eqb r x) (among rs x) t) (λ j. among_any p rs x j k)
  where
    by_place : (eqb r x ≡ true) ⊎ (among rs x ≡ true) → (among rs x ≡ true → any p rs ≡ true) → (p r || any p rs) ≡ true
    by_place (inl e) ih = or_left (any p rs) (ap p (eqb-true r x e) ∙ k)
    by_place (inr j) ih = or_right (p r) (ih j)

none_among : (v : ℕ) → among [] v ≡ false
unfolding any
none_among v = refl

pub holds_none : (n : ℕ) (ms : List Bool) → ((v : ℕ) → v < n → get_or ms v false ≡ false) → MarkSet n [] ms
holds_none n ms f =
    record { marks = λ v h. f v h ∙ sym (none_among v); there = λ v t. clash t (none_among v) }

-- the first n flags, all taken away, before the rest
pub cleared :
    (n : ℕ) (ms off rest : List Bool) → off ≡ replicate (length (take n ms)) false → n ≤ length ms
    → MarkSet n [] (off ++ rest)
cleared n ms off rest e h =
    holds_none n (off ++ rest)
    (λ v k. get_or_append_left off rest false v (omega (arith, long)) ∙ at v k)
  where
    long : length off ≡ n
    long = ap length e ∙ length-replicate (length (take n ms)) false ∙ length-take-le n ms h

    at : (v : ℕ) → v < n → get_or off v false ≡ false
    at v k = rw e (get_or-replicate (length (take n ms)) v false false (omega (arith, length-take-le n ms h)))

module _ (n : ℕ) (rs : List ℕ) (ms : List Bool) (o : MarkSet n rs ms) where
  pub holds_more : (r : ℕ) → r < n → n ≤ length ms → MarkSet n (rs ++ (r ∷ [])) (set ms r true)
  holds_more r h long =
      record {
        marks = λ v j. by_place v j (ℕ_discrete v r) ∙ sym (among_more rs r v);
        there = λ v t. inside v (or_cases (among rs v) (eqb r v) (sym (among_more rs r v) ∙ t));
      }
    where
      by_place : (v : ℕ) → v < n → Dec (v ≡ r) → get_or (set ms r true) v false ≡ (among rs v || eqb r v)
      by_place v j (yes e) =
          ap (λ y. get_or (set ms r true) y false) e
          ∙ get_or-set_same ms r true false (omega arith)
          ∙ sym (or_right (among rs v) (eq-eqb r v (sym e)))
      by_place v j (no e) =
          get_or-set_other ms r v true false e
          ∙ o.marks v j
          ∙ sym (ap (λ b. among rs v || b) (ne_eqb r v (λ d. e (sym d))) ∙ or-false (among rs v))

      inside : (v : ℕ) → (among rs v ≡ true) ⊎ (eqb r v ≡ true) → v < n
      inside v (inl t) = o.there v t
      inside v (inr t) = omega (arith, eqb-true r v t)

  pub any_holds : (p : ℕ → Bool) → any p rs ≡ any p (ranks n ms)
  any_holds p =
      any_is p ms n (any p rs)
      (λ t. let w = any_among p rs t in
      (w.0, o.there w.0 w.1, o.marks w.0 (o.there w.0 w.1) ∙ w.1, w.2))
      (λ x h m k. among_any p rs x (sym (o.marks x h) ∙ m) k)

same_attempt : {A : Type 0} (a : Attempt A) → a ≡ attempt a (λ x. gives x)
unfolding attempt
same_attempt fails = refl
same_attempt (gives x) = refl

-- the ranks of a member and of two parts, whichever are joined first
regroup :
    (a : Attempt ℕ) (b d : Attempt (List ℕ))
    → attempt a (λ r. attempt (attempt b (λ rs. attempt d (λ ts. gives (rs ++ ts)))) (λ qs. gives (r ∷ qs)))
    ≡ attempt (attempt a (λ r. attempt b (λ rs. gives (r ∷ rs)))) (λ rs. attempt d (λ ts. gives (rs ++ ts)))
unfolding attempt
regroup fails b d = refl
regroup (gives r) fails d = refl
regroup (gives r) (gives rs) fails = refl
regroup (gives r) (gives rs) (gives ts) = refl

joined : (a b : Attempt (List ℕ)) → Attempt (List ℕ)
joined a b = attempt a (λ rs. attempt b (λ ts. gives (rs ++ ts)))

joined_none : (b : Attempt (List ℕ)) → b ≡ joined (gives []) b
unfolding joined attempt
joined_none b = same_attempt b

joined_gives : {a b : Attempt (List ℕ)} {rs ts : List ℕ} → a ≡ gives rs → b ≡ gives ts → joined a b ≡ gives (rs ++ ts)
unfolding joined attempt
joined_gives d e = rw (d, e)

joined_fails : (a : Attempt (List ℕ)) {b : Attempt (List ℕ)} → b ≡ fails → joined a b ≡ fails
unfolding joined attempt
joined_fails fails d = refl
joined_fails (gives rs) d = rw d

module _ (c : Catalogue) where
  pub ranks_none : ranks_of c [] ≡ gives []
  unfolding ranks_of
  ranks_none = refl

  ranks_fail : (x : ℤ) (ys : List ℤ) → rank_of c x ≡ fails → ranks_of c (x ∷ ys) ≡ fails
  unfolding ranks_of attempt
  ranks_fail x ys e = rw e

  ranks_one : (x : ℤ) (r : ℕ) → rank_of c x ≡ gives r → ranks_of c (x ∷ []) ≡ gives (r ∷ [])
  unfolding ranks_of attempt
  ranks_one x r e = rw e

  ranks_append : (xs ys : List ℤ) → ranks_of c (xs ++ ys) ≡ joined (ranks_of c xs) (ranks_of c ys)
  unfolding ranks_of joined
  ranks_append [] ys = joined_none (ranks_of c ys)
  ranks_append (x ∷ xs) ys = rw (ranks_append xs ys) (regroup (rank_of c x) (ranks_of c xs) (ranks_of c ys))

  module _ (xs : List ℤ) (old : List Bool) (all : FromAll c xs (Ok tt) old) where
    pub one_more :
        (x : ℤ) (new : List Bool) → c.rows ≤ length old → FromOne c x (Ok tt) old new
        → FromAll c (xs ++ (x ∷ [])) (Ok tt) new
    one_more x new long one = (
      all.0 ++ (one.0 ∷ []),
      ranks_append xs (x ∷ []) ∙ joined_gives all.1 (ranks_one x one.0 one.1),
      rw one.3 (holds_more c.rows all.0 old all.2 one.0 one.2 long),
    )

    pub one_fails_lem : (x : ℤ) (ys : List ℤ) → rank_of c x ≡ fails → ranks_of c (xs ++ (x ∷ ys)) ≡ fails
    one_fails_lem x ys e = ranks_append xs (x ∷ ys) ∙ joined_fails (ranks_of c xs) (ranks_fail x ys e)

  pub marked_none : (ms : List Bool) → MarkSet c.rows [] ms → FromAll c [] (Ok tt) ms
  marked_none ms o = ([], ranks_none, o)

  -- the cells up to i, and the cell at i
  module _ (xs : List ℤ) (i : ℕ) (h : i < length xs) (old : List Bool) (all : FromAll c (take i xs) (Ok tt) old) where
    pub marked_more :
        (new : List Bool) → c.rows ≤ length old → FromOne c (get_or xs i (pos 0)) (Ok tt) old new
        → FromAll c (take (i + 1) xs) (Ok tt) new
    marked_more new long one =
        rw (add-one i, take-suc xs i (pos 0) h) (one_more (take i xs) old all (get_or xs i (pos 0)) new long one)

    pub marked_fails : rank_of c (get_or xs i (pos 0)) ≡ fails → ranks_of c xs ≡ fails
    marked_fails e =
        ap (ranks_of c) (split_at xs i (pos 0) h)
        ∙ one_fails_lem (take i xs) old all (get_or xs i (pos 0)) (drop (suc i) xs) e

  -- the rank of an item
  module _ {item : Item} where
    pub rank_node :
        {r : Rank} {n : ℕ} → item ≡ Node r → c.rows ≡ n → r.0 < n → gives r.0 ≡ rank_in c (Some item)
    unfolding rank_in provided
    rank_node {r} {n} e d h = rw (e, d, lt-ltb r.0 n h)

    pub rank_far : {r : Rank} {n : ℕ} → item ≡ Node r → c.rows ≡ n → n ≤ r.0 → fails ≡ rank_in c (Some item)
    unfolding rank_in provided
    rank_far {r} {n} e d h = rw (e, d, le-ltb r.0 n h)

    pub rank_other :
        ((z : ℤ) × (item ≡ Integer z)) ⊎ ((b : Bool) × (item ≡ Truth b)) → fails ≡ rank_in c (Some item)
    unfolding rank_in
    rank_other (inl e) = rw e.1
    rank_other (inr e) = rw e.1

  pub rank_stray : (x : ℤ) → held x ≡ None → fails ≡ rank_of c x
  unfolding rank_of rank_in
  rank_stray x e = rw e

  pub rank_item : (x : ℤ) {item : Item} → held x ≡ Some item → rank_in c (Some item) ≡ rank_of c x
  unfolding rank_of
  rank_item x e = rw e

  by_rank : (k r : ℕ) (t : Bool) → ltb k c.rows ≡ t → provided t (gives k) ≡ gives r → r < c.rows
  unfolding provided
  by_rank k r true d f = let e : k ≡ r = cc in omega (arith, ltb-true k c.rows d)
  by_rank k r false d f = let z : ◌≡◌ {A = ℕ} 0 1 = cc in absurd (omega arith)

  by_held : (r : ℕ) (h : Option Item) → rank_in c h ≡ gives r → r < c.rows
  unfolding rank_in
  by_held r (Some (Node k)) f = by_rank k.0 r (ltb k.0 c.rows) refl f
  by_held r (Some (Truth b)) f = let z : ◌≡◌ {A = ℕ} 0 1 = cc in absurd (omega arith)
  by_held r (Some (Integer i)) f = let z : ◌≡◌ {A = ℕ} 0 1 = cc in absurd (omega arith)
  by_held r None f = let z : ◌≡◌ {A = ℕ} 0 1 = cc in absurd (omega arith)

  pub rank_below : (x : ℤ) (r : ℕ) → rank_of c x ≡ gives r → r < c.rows
  unfolding rank_of
  rank_below x r e = by_held r (held x) e
