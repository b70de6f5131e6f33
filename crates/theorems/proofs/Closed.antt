-- What an accepted query is (document 01, 'Query records').
--     closed_read          what `read` reads is well
--     accepted             what `query_read` reads is accepted
--     free_bound           a variable that is free in a closed query is bound outside, and is one of 0 to 7
--     eval_free            a query means the same where its free variables hold the same
--     evaluate_free        .. and counts the same
--     eval_closed          a closed query means the same where the variables bound outside hold the same
use Prim.Native.Nat.{ℕ, zero, suc, ◌+◌, ◌-◌, ◌<◌, max}
use mathlib.Core.Path.{◌≡◌, refl, sym, ap, subst}
use mathlib.Core.List.{List, [], ◌∷◌, ◌++◌}
use mathlib.Core.Bool.{Bool, true, false, not, cond, ◌&&◌, ◌||◌, false≢true}
use mathlib.Core.Logic.{◌⊎◌, inl, inr, ⊎_elim}
use native.Mathlib.Omega.{arith}
use borrow.Author.Tests.{ltb-true, eqb-true, eq-eqb}
use lib.Dec.{ltb, eqb}
use lib.IntN.{ℤ, pos}
use lib.ListN.{length}
use Rattle.laws.specs.Lists.{any}
use Rattle.cells.specs.Bytes.{word}
use Rattle.laws.specs.Attempt.{Attempt, gives, attempt, each, Reading, reads, work, trying, Given, Found}
use Rattle.meaning.specs.World.{World}
use Rattle.meaning.specs.Query as Q
use Rattle.meaning.specs.Query.{Query, QL, QE, QR, QV, QS, QT, QF, QI, QO, QC, QD, QX, Record, Read, Operand}
use Rattle.meaning.specs.Query.{bound, free, leaf, one, two, three, operands, read, query_read, record_of}
use Rattle.meaning.specs.Query.{record_at, sized, variable_of}
use Rattle.meaning.specs.Meaning.{Env, bind, apply, values, eval}
use Rattle.meaning.specs.Counted.{Standing, stand, adding, loop, evaluate}
use Rattle.laws.proofs.Outcomes.{given_fails, given_gives, given_cond, given_provided, given_attempt}
use Rattle.laws.proofs.Outcomes.{given_any}
use Rattle.laws.proofs.Outcomes.{found_refuses, found_reads, found_unless, found_refusing}
use Rattle.laws.proofs.Outcomes.{found_reading}
use Rattle.laws.proofs.Booleans.{or_left, or_right}
use Rattle.theorems.specs.Closed.{Closed, records, depth, Well, Accepted}

-- A record's own variable is below 8

abbrev Named : Record → Type 0
Named (Q.literal z) = Unit {0}
Named Q.empty = Unit {0}
Named (Q.root k) = Unit {0}
Named (Q.variable v) = v < 8
Named Q.sequence = Unit {0}
Named (Q.letting v) = v < 8
Named (Q.for v) = v < 8
Named Q.choice = Unit {0}
Named (Q.function f) = Unit {0}
Named Q.counting = Unit {0}
Named Q.values = Unit {0}
Named (Q.step x t) = Unit {0}

sized_named :
    (bs : List ℕ) (at n : ℕ) (r : Attempt Record) → Given Named r → Given (λ x. Named x.0) (sized bs at n r)
unfolding sized
sized_named bs at n r h = given_provided _ (λ _. given_attempt h (λ x h'. given_gives h'))

-- a record of one byte that is a variable
variable_named :
    (bs : List ℕ) (at v : ℕ) (f : ℕ → Record) → ((u : ℕ) → u < 8 → Named (f u))
    → Given (λ x. Named x.0) (sized bs at 3 (attempt (variable_of v) (λ u. gives (f u))))
unfolding variable_of
variable_named bs at v f h =
    sized_named bs at 3 _
    (given_attempt {P = λ u. u < 8} (given_provided _ (λ t. given_gives (ltb-true v 8 t))) (λ u l. given_gives (h u l)))

-- a record that has no variable
plain_named :
    {A : Type 0} (bs : List ℕ) (at n : ℕ) (a : Attempt A) (f : A → Record) → ((x : A) → Named (f x))
    → Given (λ x. Named x.0) (sized bs at n (attempt a (λ x. gives (f x))))
plain_named bs at n a f h = sized_named bs at n _ (given_any a (λ x. given_gives (h x)))

record_named : (bs : List ℕ) (at mark : ℕ) → Given (λ x. Named x.0) (record_of bs at mark)
unfolding record_of
record_named bs at mark =
    given_cond (eqb mark Q.mark_ql) (sized_named bs at 6 _ (given_gives tt))
    (given_cond (eqb mark Q.mark_qb) (plain_named bs at 3 _ _ (λ b. tt))
    (given_cond (eqb mark Q.mark_qe) (sized_named bs at 2 _ (given_gives tt))
    (given_cond (eqb mark Q.mark_qr) (plain_named bs at 3 _ _ (λ k. tt))
    (given_cond (eqb mark Q.mark_qv) (variable_named bs at _ Q.variable (λ u l. l))
    (given_cond (eqb mark Q.mark_qs) (sized_named bs at 2 _ (given_gives tt))
    (given_cond (eqb mark Q.mark_qt) (variable_named bs at _ Q.letting (λ u l. l))
    (given_cond (eqb mark Q.mark_qf) (variable_named bs at _ Q.for (λ u l. l))
    (given_cond (eqb mark Q.mark_qi) (sized_named bs at 2 _ (given_gives tt))
    (given_cond (eqb mark Q.mark_qo) (plain_named bs at 3 _ _ (λ f. tt))
    (given_cond (eqb mark Q.mark_qc) (sized_named bs at 2 _ (given_gives tt))
    (given_cond (eqb mark Q.mark_qd) (sized_named bs at 2 _ (given_gives tt))
    (given_cond (eqb mark Q.mark_qx)
    (sized_named bs at 6 _
    (given_any _ (λ x. given_any _ (λ t. given_gives tt))))
    given_fails))))))))))))

-- one, two and three operands, by what is known of each
one_found :
    {P Q : Read → Type 0} (f : Query → Query) (a : Reading Read) → Found P a
    → ((x : Read) → P x → Q (record { tree = f x.tree; next = x.next; records = x.records })) → Found Q (one f a)
unfolding one leaf
one_found f a h k = found_reading h (λ x i. found_reads (k x i))

two_found :
    {P Q : Read → Type 0} {R : Read → Read → Type 0} (f : Query → Query → Query) (a : Reading Read)
    (b : ℕ → ℕ → Reading Read) → Found P a → ((x : Read) → P x → Found (R x) (b x.records x.next))
    → ((x y : Read) → P x → R x y → Q (record { tree = f x.tree y.tree; next = y.next; records = y.records }))
    → Found Q (two f a b)
unfolding two
two_found f a b h k q = found_reading h (λ x i. one_found _ _ (k x i) (λ y j. q x y i j))

module _ (d : ℕ) (rd : Operand) (h : (vs : List ℕ) (n at : ℕ) → Found (Well d vs n) (rd vs n at)) where
  leaf_well :
      (vs : List ℕ) (n next : ℕ) (q : Query) → n < 128 → Closed q vs → records q ≡ 1 → depth q ≡ 1
      → Found (Well (suc d) vs n) (leaf q next (suc n))
  unfolding leaf
  leaf_well vs n next q l c r e =
      found_reads (record { closed = c; counted = omega arith; few = omega arith; nested = omega arith })

  one_well :
      (vs : List ℕ) (n next : ℕ) (f : Query → Query) → ((x : Query) → Closed x vs → Closed (f x) vs)
      → ((x : Query) → records (f x) ≡ suc (records x)) → ((x : Query) → depth (f x) ≡ suc (depth x))
      → Found (Well (suc d) vs n) (one f (rd vs (suc n) next))
  one_well vs n next f c r e =
      one_found f _ (h vs (suc n) next)
      (λ x i. record {
        closed = c x.tree i.closed;
        counted = omega (arith, r x.tree, i.counted);
        few = i.few;
        nested = omega (arith, e x.tree, i.nested);
      })

  two_well :
      (vs us : List ℕ) (n next : ℕ) (f : Query → Query → Query)
      → ((x y : Query) → Closed x vs → Closed y us → Closed (f x y) vs)
      → ((x y : Query) → records (f x y) ≡ suc (records x + records y))
      → ((x y : Query) → depth (f x y) ≡ suc (max (depth x) (depth y)))
      → Found (Well (suc d) vs n) (two f (rd vs (suc n) next) (rd us))
  two_well vs us n next f c r e =
      two_found f _ _ (h vs (suc n) next) (λ x i. h us x.records x.next)
      (λ x y i j. record {
        closed = c x.tree y.tree i.closed j.closed;
        counted = omega (arith, r x.tree y.tree, i.counted, j.counted);
        few = j.few;
        nested = omega (arith, e x.tree y.tree, i.nested, j.nested);
      })

  choice_well :
      (vs : List ℕ) (at n next : ℕ) → Found (Well (suc d) vs n) (three (QI at) (rd vs (suc n) next) (rd vs) (rd vs))
  unfolding three
  choice_well vs at n next =
      found_reading (h vs (suc n) next)
      (λ x i.
      two_found _ _ _ (h vs x.records x.next) (λ y j. h vs y.records y.next)
      (λ y z j k. record {
        closed = (i.closed, j.closed, k.closed);
        counted = omega (arith, i.counted, j.counted, k.counted);
        few = k.few;
        nested = omega (arith, i.nested, j.nested, k.nested);
      }))

  operands_well :
      (vs : List ℕ) (at n next : ℕ) (r : Record) → n < 128 → Named r
      → Found (Well (suc d) vs n) (operands rd vs at (suc n) next r)
  unfolding operands
  operands_well vs at n next (Q.literal z) l k = leaf_well vs n next (QL at z) l tt refl refl
  operands_well vs at n next Q.empty l k = leaf_well vs n next (QE at) l tt refl refl
  operands_well vs at n next (Q.root i) l k = leaf_well vs n next (QR at i) l tt refl refl
  operands_well vs at n next (Q.variable v) l k =
      found_unless (bound v vs) 3 at (λ b. leaf_well vs n next (QV at v) l (b, k) refl refl)
  operands_well vs at n next Q.sequence l k =
      two_well vs vs n next (QS at) (λ x y c c'. (c, c')) (λ x y. refl) (λ x y. refl)
  operands_well vs at n next (Q.letting v) l k =
      two_well vs (v ∷ vs) n next (QT at v) (λ x y c c'. (k, c, c')) (λ x y. refl) (λ x y. refl)
  operands_well vs at n next (Q.for v) l k =
      two_well vs (v ∷ vs) n next (QF at v) (λ x y c c'. (k, c, c')) (λ x y. refl) (λ x y. refl)
  operands_well vs at n next Q.choice l k = choice_well vs at n next
  operands_well vs at n next (Q.function f) l k =
      two_well vs vs n next (QO at f) (λ x y c c'. (c, c')) (λ x y. refl) (λ x y. refl)
  operands_well vs at n next Q.counting l k = one_well vs n next (QC at) (λ x c. c) (λ x. refl) (λ x. refl)
  operands_well vs at n next Q.values l k = one_well vs n next (QD at) (λ x c. c) (λ x. refl) (λ x. refl)
  operands_well vs at n next (Q.step x t) l k = one_well vs n next (QX at x t) (λ y c. c) (λ y. refl) (λ y. refl)

read_well : (d : ℕ) (bs vs : List ℕ) (n at : ℕ) → Found (Well d vs n) (read d bs vs n at)
unfolding read record_at
read_well zero bs vs n at =
    found_reading (found_refusing 1 at (record_named bs at (word bs at 2))) (λ r k. found_refuses)
read_well (suc d) bs vs n at =
    found_reading (found_refusing 1 at (record_named bs at (word bs at 2)))
    (λ r k.
    found_unless (ltb n 128) 2 at
    (λ t. operands_well d (read d bs) (read_well d bs) vs at n r.1 r.0 (ltb-true n 128 t) k))

pub closed_read :
    (d : ℕ) (bs vs : List ℕ) (n at : ℕ) (r : Read) → read d bs vs n at ≡ reads r → Well d vs n r
closed_read d bs vs n at r e = (read_well d bs vs n at).found r e

query_accepted : (bs : List ℕ) → Found Accepted (query_read bs)
unfolding query_read
query_accepted bs =
    found_reading (read_well 32 bs [] 0 0)
    (λ x w.
    found_unless (eqb x.next (length bs)) 1 x.next
    (λ _.
    found_reads (record {
      closed = w.closed;
      counted = omega (arith, w.counted);
      few = omega (arith, w.counted, w.few);
      nested = w.nested;
    })))

pub accepted : (bs : List ℕ) (r : Read) → query_read bs ≡ reads r → Accepted r
accepted bs r e = (query_accepted bs).found r e

-- Free variables

-- one of two that hold
or_true : (a b : Bool) → a || b ≡ true → (a ≡ true) ⊎ (b ≡ true)
or_true true b e = inl refl
or_true false b e = inr e

-- bound inside by u, and so free only where it is not u
under : (v u : ℕ) (a b : Bool) → a || (not (eqb v u) && b) ≡ true → (a ≡ true) ⊎ ((eqb v u ≡ false) × (b ≡ true))
under v u true b e = inl refl
under v u false b e = go (eqb v u) refl e
  where
    go : (t : Bool) → eqb v u ≡ t → not t && b ≡ true → (false ≡ true) ⊎ ((eqb v u ≡ false) × (b ≡ true))
    go true h e = absurd (false≢true e)
    go false h e = inr (h, e)

-- a variable free in a closed query is bound outside, and below 8
abbrev Outer : ℕ → List ℕ → Type 0
Outer v vs = (bound v vs ≡ true) × (v < 8)

outer_cons : (v u : ℕ) (vs : List ℕ) → eqb v u ≡ false → Outer v (u ∷ vs) → Outer v vs
unfolding bound any
outer_cons v u vs e h = (subst (λ (t : Bool). t || any (λ x. eqb v x) vs ≡ true) e h.0, h.1)

pub free_bound : (q : Query) (vs : List ℕ) (v : ℕ) → Closed q vs → free v q ≡ true → (bound v vs ≡ true) × (v < 8)
unfolding free
free_bound (QL at z) vs v c f = absurd (false≢true f)
free_bound (QE at) vs v c f = absurd (false≢true f)
free_bound (QR at k) vs v c f = absurd (false≢true f)
free_bound (QV at u) vs v c f = subst (λ (x : ℕ). Outer x vs) (sym (eqb-true v u f)) c
free_bound (QS at a b) vs v c f = ⊎_elim (free_bound a vs v c.0) (free_bound b vs v c.1) (or_true _ _ f)
free_bound (QT at u a b) vs v c f =
    ⊎_elim (free_bound a vs v c.1) (λ h. outer_cons v u vs h.0 (free_bound b (u ∷ vs) v c.2 h.1))
    (under v u _ _ f)
free_bound (QF at u a b) vs v c f =
    ⊎_elim (free_bound a vs v c.1) (λ h. outer_cons v u vs h.0 (free_bound b (u ∷ vs) v c.2 h.1))
    (under v u _ _ f)
free_bound (QI at q a b) vs v c f =
    ⊎_elim (λ g. ⊎_elim (free_bound q vs v c.0) (free_bound a vs v c.1) (or_true _ _ g))
    (free_bound b vs v c.2)
    (or_true _ _ f)
free_bound (QO at g a b) vs v c f = ⊎_elim (free_bound a vs v c.0) (free_bound b vs v c.1) (or_true _ _ f)
free_bound (QC at a) vs v c f = free_bound a vs v c f
free_bound (QD at a) vs v c f = free_bound a vs v c f
free_bound (QX at x t a) vs v c f = free_bound a vs v c f

-- A query means the same where its free variables hold the same

abbrev AgreeOn : (ℕ → Bool) → Env → Env → Type 0
AgreeOn free e e' = (v : ℕ) → free v ≡ true → e v ≡ e' v

-- the variables that are free in q
abbrev frees : Query → ℕ → Bool
frees q v = free v q

module _ (f g : ℕ → Bool) {e e' : Env} where
  agree_left : AgreeOn (λ v. f v || g v) e e' → AgreeOn f e e'
  agree_left h v t = h v (or_left (f v) (g v) t)

  agree_right : AgreeOn (λ v. f v || g v) e e' → AgreeOn g e e'
  agree_right h v t = h v (or_right (f v) (g v) t)

  -- under a binding of u
  agree_bind :
      (u : ℕ) (xs : List ℤ) → AgreeOn (λ v. f v || (not (eqb v u) && g v)) e e'
      → AgreeOn g (bind u xs e) (bind u xs e')
  unfolding bind
  agree_bind u xs h v t = go (eqb v u) (h v)
    where
      go : (b : Bool) → (f v || (not b && g v) ≡ true → e v ≡ e' v) → cond b xs (e v) ≡ cond b xs (e' v)
      go true k = refl
      go false k = k (or_right (f v) (g v) t)

pub eval_free :
    (w : World) (q : Query) (e e' : Env) → ((v : ℕ) → free v q ≡ true → e v ≡ e' v) → eval w e q ≡ eval w e' q
unfolding eval free
eval_free w (QL at z) e e' h = refl
eval_free w (QE at) e e' h = refl
eval_free w (QR at k) e e' h = refl
eval_free w (QV at u) e e' h = ap gives (h u (eq-eqb u u refl))
eval_free w (QS at a b) e e' h =
    let p = eval_free w a e e' (agree_left (frees a) _ h) in
    let q = eval_free w b e e' (agree_right (frees a) (frees b) h) in
    λ i. attempt (p i) (λ xs. attempt (q i) (λ ys. gives (xs ++ ys)))
eval_free w (QT at u a b) e e' h =
    let p = eval_free w a e e' (agree_left (frees a) _ h) in
    let q : (xs : List ℤ) → eval w (bind u xs e) b ≡ eval w (bind u xs e') b =
    λ xs. eval_free w b (bind u xs e) (bind u xs e') (agree_bind (frees a) (frees b) u xs h)
    in
    λ i. attempt (p i) (λ xs. q xs i)
eval_free w (QF at u a b) e e' h =
    let p = eval_free w a e e' (agree_left (frees a) _ h) in
    let q : (x : ℤ) → eval w (bind u (x ∷ []) e) b ≡ eval w (bind u (x ∷ []) e') b =
    λ x. eval_free w b (bind u (x ∷ []) e) (bind u (x ∷ []) e') (agree_bind (frees a) (frees b) u (x ∷ []) h)
    in
    λ i. attempt (p i) (λ xs. each (λ x. q x i) xs)
eval_free w (QI at c a b) e e' h =
    let k = agree_left (λ v. free v c || free v a) (frees b) h in
    let o = eval_free w c e e' (agree_left (frees c) (frees a) k) in
    let p = eval_free w a e e' (agree_right (frees c) (frees a) k) in
    let q = eval_free w b e e' (agree_right (λ v. free v c || free v a) (frees b) h) in
    λ i. attempt (o i) (λ xs. attempt (w.truth xs) (λ t. cond t (p i) (q i)))
eval_free w (QO at f a b) e e' h =
    let p = eval_free w a e e' (agree_left (frees a) _ h) in
    let q = eval_free w b e e' (agree_right (frees a) (frees b) h) in
    λ i. attempt (p i) (λ xs. attempt (q i) (λ ys. apply w f xs ys))
eval_free w (QC at a) e e' h =
    ap (λ (r : Attempt (List ℤ)). attempt r (λ xs. gives (pos (length xs) ∷ []))) (eval_free w a e e' h)
eval_free w (QD at a) e e' h =
    ap (λ (r : Attempt (List ℤ)). attempt r (λ xs. values w xs)) (eval_free w a e e' h)
eval_free w (QX at x t a) e e' h =
    ap (λ (r : Attempt (List ℤ)). attempt r (λ xs. w.step x t xs)) (eval_free w a e e' h)

-- .. and it counts the same
pub evaluate_free :
    (w : World) (room : ℕ) (q : Query) (e e' : Env) → ((v : ℕ) → free v q ≡ true → e v ≡ e' v)
    → evaluate w room e q ≡ evaluate w room e' q
unfolding evaluate free
evaluate_free w room (QL at z) e e' h = refl
evaluate_free w room (QE at) e e' h = refl
evaluate_free w room (QR at k) e e' h = refl
evaluate_free w room (QV at u) e e' h = ap (λ (xs : List ℤ). adding room at 0 xs) (h u (eq-eqb u u refl))
evaluate_free w room (QS at a b) e e' h =
    let p = evaluate_free w room a e e' (agree_left (frees a) _ h) in
    let q : (s : Standing) → evaluate w (room - length s.items) e b ≡ evaluate w (room - length s.items) e' b =
    λ s. evaluate_free w (room - length s.items) b e e' (agree_right (frees a) (frees b) h)
    in
    λ i.
    work (p i)
    (λ s.
    work (q s i) (λ t. stand (s.items ++ t.items) (max s.count (length s.items + t.count))))
evaluate_free w room (QT at u a b) e e' h =
    let p = evaluate_free w room a e e' (agree_left (frees a) _ h) in
    let q :
    (s : Standing)
    → evaluate w (room - length s.items) (bind u s.items e) b
    ≡ evaluate w (room - length s.items) (bind u s.items e') b =
    λ s.
    evaluate_free w (room - length s.items) b (bind u s.items e) (bind u s.items e')
    (agree_bind (frees a) (frees b) u s.items h)
    in
    λ i.
    work (p i) (λ s. work (q s i) (λ t. stand t.items (max s.count (length s.items + t.count))))
evaluate_free w room (QF at u a b) e e' h =
    let p = evaluate_free w room a e e' (agree_left (frees a) _ h) in
    let q :
    (left : ℕ) (x : ℤ)
    → evaluate w left (bind u (x ∷ []) e) b ≡ evaluate w left (bind u (x ∷ []) e') b =
    λ left x.
    evaluate_free w left b (bind u (x ∷ []) e) (bind u (x ∷ []) e')
    (agree_bind (frees a) (frees b) u (x ∷ []) h)
    in
    λ i. work (p i) (λ s. loop (λ left x. q left x i) room (length s.items) s.count [] s.items)
evaluate_free w room (QI at c a b) e e' h =
    let k = agree_left (λ v. free v c || free v a) (frees b) h in
    let o = evaluate_free w room c e e' (agree_left (frees c) (frees a) k) in
    let p = evaluate_free w room a e e' (agree_right (frees c) (frees a) k) in
    let q = evaluate_free w room b e e' (agree_right (λ v. free v c || free v a) (frees b) h) in
    λ i.
    work (o i)
    (λ s.
    trying at (w.truth s.items)
    (λ t. work (cond t (p i) (q i)) (λ u. stand u.items (max s.count u.count))))
evaluate_free w room (QO at f a b) e e' h =
    let p = evaluate_free w room a e e' (agree_left (frees a) _ h) in
    let q : (s : Standing) → evaluate w (room - length s.items) e b ≡ evaluate w (room - length s.items) e' b =
    λ s. evaluate_free w (room - length s.items) b e e' (agree_right (frees a) (frees b) h)
    in
    λ i.
    work (p i)
    (λ s.
    work (q s i)
    (λ t.
    trying at (apply w f s.items t.items)
    (λ xs. stand xs (max s.count (length s.items + t.count)))))
evaluate_free w room (QC at a) e e' h =
    λ i.
    work (evaluate_free w room a e e' h i)
    (λ s.
    work (adding room at 0 (pos (length s.items) ∷ [])) (λ t. stand t.items (max s.count t.count)))
evaluate_free w room (QD at a) e e' h =
    λ i. work (evaluate_free w room a e e' h i) (λ s. trying at (values w s.items) (λ xs. stand xs s.count))
evaluate_free w room (QX at x t a) e e' h =
    λ i.
    work (evaluate_free w room a e e' h i)
    (λ s.
    trying at (w.step x t s.items)
    (λ xs.
    work (adding room at (length s.items) xs) (λ u. stand u.items (max s.count u.count))))

-- only what the bound variables hold matters
pub eval_closed :
    (w : World) (q : Query) (vs : List ℕ) (e e' : Env) → Closed q vs
    → ((v : ℕ) → v < 8 → bound v vs ≡ true → e v ≡ e' v) → eval w e q ≡ eval w e' q
eval_closed w q vs e e' c h =
    eval_free w q e e' (λ v f. h v (free_bound q vs v c f).1 (free_bound q vs v c f).0)
