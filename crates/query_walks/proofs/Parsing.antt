-- Laws of `parse`: a tree is taken apart by its operands, more depth changes nothing, and a tree ends after its offset
-- and within the bytes.
--     lone_gives, pair_gives, triple_gives    the operands of a tree that is given
--     parse_more              more levels allowed: the same tree
--     trees_spans             every tree is spanned by its operands
--     parse_next              the offset after a tree is greater than its own, and at most the number of bytes
use Prim.Native.Nat.{ℕ, zero, suc, ◌≤◌, ◌<◌}
use mathlib.Core.Path.{◌≡◌, refl, subst}
use mathlib.Core.Bool.{false, not, ◌&&◌, ◌||◌}
use mathlib.Core.List.{List}
use native.Mathlib.Omega.{arith}
use lib.Dec.{eqb}
use lib.ListN.{length}
use Rattle.cells.specs.Bytes.{word}
use Rattle.laws.specs.Attempt.{Attempt, gives, attempt}
use Rattle.meaning.specs.Query.{Query, QL, QE, QR, QS, QT, QF, QI, QO, QC, QD, QX, Record, literal, empty, root}
use Rattle.meaning.specs.Query.{variable, sequence, letting, for, choice, function, counting, values, step, record_of}
use Rattle.meaning.specs.Query.{free}
use Rattle.query_records.specs.declared.Operands.{Operands}
use Rattle.query_records.specs.declared.Operands.TheVariants.{None, Variable, One, Two, Binding, Three}
use Rattle.query_records.specs.Decoded.{operands_of}
use Rattle.query_walks.specs.Parse.{Parsed, lone, pair, triple, trees, parse}
use Rattle.laws.proofs.Outcomes.{fails_gives, gives_same}
use Rattle.query_records.proofs.Outcomes.{attempt_apart}
use Rattle.query_walks.specs.Statements.{More, Spans}
use Rattle.query_records.proofs.Fields.{record_sound}

-- The operands of a tree that is given

pub lone_gives :
    (f : Query → Query) (a : Parsed) (y : Query × ℕ) → lone f a ≡ gives y →
    (x : Query × ℕ) × (a ≡ gives x) × ((f x.0, x.1) ≡ y)
unfolding lone
lone_gives f a y e =
    let (x, p, q) = attempt_apart a (λ x. gives (f x.0, x.1)) y e in
    (x, p, gives_same q)

pub pair_gives :
    (f : Query → Query → Query) (a : Parsed) (b : ℕ → Parsed) (z : Query × ℕ) → pair f a b ≡ gives z →
    (x : Query × ℕ) × (y : Query × ℕ) × (a ≡ gives x) × (b x.1 ≡ gives y) × ((f x.0 y.0, y.1) ≡ z)
unfolding pair
pair_gives f a b z e =
    let (x, p, q) = attempt_apart a (λ x. lone (f x.0) (b x.1)) z e in
    let (y, s, t) = lone_gives (f x.0) (b x.1) z q in
    (x, y, p, s, t)

pub triple_gives :
    (f : Query → Query → Query → Query) (c : Parsed) (a b : ℕ → Parsed) (z : Query × ℕ) → triple f c a b ≡ gives z →
    (w : Query × ℕ) × (x : Query × ℕ) × (y : Query × ℕ) ×
    (c ≡ gives w) × (a w.1 ≡ gives x) × (b x.1 ≡ gives y) × ((f w.0 x.0 y.0, y.1) ≡ z)
unfolding triple
triple_gives f c a b z e =
    let (w, p, q) = attempt_apart c (λ w. pair (f w.0) (a w.1) b) z e in
    let (x, y, s, t, u) = pair_gives (f w.0) (a w.1) b z q in
    (w, x, y, p, s, t, u)

-- More depth

attempt_more :
    {A B : Type 0} (a b : Attempt A) (f g : A → Attempt B) →
    More a b → ((x : A) → More (f x) (g x)) → More (attempt a f) (attempt b g)
unfolding attempt
attempt_more a b f g h k y e =
    let (x, p, q) = attempt_apart a f y e in
    rw (h x p) (k x y q)

same_more : {A : Type 0} (a : Attempt A) → More a a
same_more a x e = e

module _ (rd pd : ℕ → Parsed) (h : (at : ℕ) → More (rd at) (pd at)) where
  lone_more : (f : Query → Query) (next : ℕ) → More (lone f (rd next)) (lone f (pd next))
  unfolding lone
  lone_more f next = attempt_more (rd next) (pd next) _ _ (h next) (λ x. same_more (gives (f x.0, x.1)))

  pair_more : (f : Query → Query → Query) (next : ℕ) → More (pair f (rd next) rd) (pair f (pd next) pd)
  unfolding pair
  pair_more f next = attempt_more (rd next) (pd next) _ _ (h next) (λ x. lone_more (f x.0) x.1)

  triple_more :
      (f : Query → Query → Query → Query) (next : ℕ) → More (triple f (rd next) rd rd) (triple f (pd next) pd pd)
  unfolding triple
  triple_more f next = attempt_more (rd next) (pd next) _ _ (h next) (λ x. pair_more (f x.0) x.1)

  trees_more : (k : Record) (at next : ℕ) → More (trees rd at next k) (trees pd at next k)
  unfolding trees
  trees_more (literal z) at next = λ x e. e
  trees_more empty at next = λ x e. e
  trees_more (root k) at next = λ x e. e
  trees_more (variable v) at next = λ x e. e
  trees_more sequence at next = pair_more (QS at) next
  trees_more (letting v) at next = pair_more (QT at v) next
  trees_more (for v) at next = pair_more (QF at v) next
  trees_more choice at next = triple_more (QI at) next
  trees_more (function f) at next = pair_more (QO at f) next
  trees_more counting at next = lone_more (QC at) next
  trees_more values at next = lone_more (QD at) next
  trees_more (step x t) at next = lone_more (QX at x t) next

pub parse_more : (d e : ℕ) (bs : List ℕ) → d ≤ e → (at : ℕ) → More (parse d bs at) (parse e bs at)
unfolding parse
parse_more zero e bs h at = λ x p. absurd (fails_gives x p)
parse_more (suc d) zero bs h at = absurd (omega arith)
parse_more (suc d) (suc e) bs h at =
    let the_record = record_of bs at (word bs at 2) in
    attempt_more the_record the_record _ _ (same_more the_record)
    (λ r. trees_more (parse d bs) (parse e bs) (parse_more d e bs (omega arith)) r.0 at r.1)

-- Operands

module _ (rd : ℕ → Parsed) (next : ℕ) where
  abbrev Spanned : Operands → Query × ℕ → Type 0
  Spanned o y = Spans rd next o y.0 y.1

  none_spans : (q : Query) (y : Query × ℕ) → ((v : ℕ) → free v q ≡ false) → gives (q, next) ≡ gives y → Spanned None y
  unfolding Spans
  none_spans q y h e = subst (Spanned None) (gives_same e) (refl, h)

  one_spans :
      (f : Query → Query) (y : Query × ℕ) → ((v : ℕ) (a : Query) → free v (f a) ≡ free v a) →
      lone f (rd next) ≡ gives y → Spanned One y
  unfolding Spans
  one_spans f y h e =
      let (x, p, q) = lone_gives f (rd next) y e in
      subst (Spanned One) q (x, p, refl, λ v. h v x.0)

  two_spans :
      (f : Query → Query → Query) (y : Query × ℕ) → ((v : ℕ) (a b : Query) → free v (f a b) ≡ free v a || free v b) →
      pair f (rd next) rd ≡ gives y → Spanned Two y
  unfolding Spans
  two_spans f z h e =
      let (x, y, p, q, s) = pair_gives f (rd next) rd z e in
      subst (Spanned Two) s (x, y, p, q, refl, λ v. h v x.0 y.0)

  binding_spans :
      (u : ℕ) (f : Query → Query → Query) (y : Query × ℕ) →
      ((v : ℕ) (a b : Query) → free v (f a b) ≡ free v a || (not (eqb v u) && free v b)) →
      pair f (rd next) rd ≡ gives y → Spanned (Binding u) y
  unfolding Spans
  binding_spans u f z h e =
      let (x, y, p, q, s) = pair_gives f (rd next) rd z e in
      subst (Spanned (Binding u)) s (x, y, p, q, refl, λ v. h v x.0 y.0)

  three_spans :
      (f : Query → Query → Query → Query) (y : Query × ℕ) →
      ((v : ℕ) (c a b : Query) → free v (f c a b) ≡ free v c || free v a || free v b) →
      triple f (rd next) rd rd ≡ gives y → Spanned Three y
  unfolding Spans
  three_spans f z h e =
      let (w, x, y, p, q, s, t) = triple_gives f (rd next) rd rd z e in
      subst (Spanned Three) t (w, x, y, p, q, s, refl, λ v. h v w.0 x.0 y.0)

  pub trees_spans : (k : Record) (at : ℕ) (y : Query × ℕ) → trees rd at next k ≡ gives y → Spanned (operands_of k) y
  unfolding trees operands_of Spans free
  trees_spans (literal z) at y e = none_spans (QL at z) y (λ v. refl) e
  trees_spans empty at y e = none_spans (QE at) y (λ v. refl) e
  trees_spans (root k) at y e = none_spans (QR at k) y (λ v. refl) e
  trees_spans (variable u) at y e =
      subst (Spanned (Variable u)) (gives_same e) (refl, λ v. refl)
  trees_spans sequence at y e = two_spans (QS at) y (λ v a b. refl) e
  trees_spans (letting u) at y e = binding_spans u (QT at u) y (λ v a b. refl) e
  trees_spans (for u) at y e = binding_spans u (QF at u) y (λ v a b. refl) e
  trees_spans choice at y e = three_spans (QI at) y (λ v c a b. refl) e
  trees_spans (function f) at y e = two_spans (QO at f) y (λ v a b. refl) e
  trees_spans counting at y e = one_spans (QC at) y (λ v a. refl) e
  trees_spans values at y e = one_spans (QD at) y (λ v a. refl) e
  trees_spans (step x t) at y e = one_spans (QX at x t) y (λ v a. refl) e

-- Offsets

abbrev Goes : List ℕ → (ℕ → Parsed) → Type 0
Goes bs rd = (at : ℕ) (x : Query × ℕ) → rd at ≡ gives x → (at < x.1) × (x.1 ≤ length bs)

spans_next :
    (bs : List ℕ) (rd : ℕ → Parsed) (next : ℕ) (o : Operands) (q : Query) (e : ℕ) →
    Goes bs rd → next ≤ length bs → Spans rd next o q e → (next ≤ e) × (e ≤ length bs)
unfolding Spans
spans_next bs rd next None q e g h (p, f) = omega arith
spans_next bs rd next (Variable u) q e g h (p, f) = omega arith
spans_next bs rd next One q e g h (x, p, n, f) = let i = g next x p in omega arith
spans_next bs rd next Two q e g h (x, y, p, s, n, f) = let i = g next x p in let j = g x.1 y s in omega arith
spans_next bs rd next (Binding u) q e g h (x, y, p, s, n, f) = let i = g next x p in let j = g x.1 y s in omega arith
spans_next bs rd next Three q e g h (w, x, y, p, s, t, n, f) =
    let i = g next w p in
    let j = g w.1 x s in
    let k = g x.1 y t in
    omega arith

pub parse_next :
    (d : ℕ) (bs : List ℕ) (at : ℕ) (x : Query × ℕ) → parse d bs at ≡ gives x → (at < x.1) × (x.1 ≤ length bs)
unfolding parse
parse_next zero bs at y e = absurd (fails_gives y e)
parse_next (suc d) bs at y e =
    let (r, p, q) = attempt_apart (record_of bs at (word bs at 2)) (λ r. trees (parse d bs) at r.1 r.0) y e in
    let g = record_sound bs at (word bs at 2) r p in
    let s = trees_spans (parse d bs) r.1 r.0 at y q in
    let i = spans_next bs (parse d bs) r.1 (operands_of r.0) y.0 y.1 (parse_next d bs) g.within s in
    omega arith
