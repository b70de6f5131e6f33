-- What a rule writes, from what its operands and its own operators write.
--     wrote_is             equal operators
--     then_append          operators in two parts, then a rule's
--     one_made, two_made   one operand, or two, then the rule's last operators
--     let_made, for_made, branch_made, choice_made    QT; QF; a branch of QI; QI
use Prim.Native.Nat.{ℕ, ◌+◌}
use mathlib.Core.Path.{◌≡◌, refl, ap, ap₂, ◌∙◌, subst}
use mathlib.Core.List.{List, [], ◌∷◌, ◌++◌, append_assoc}
use native.Mathlib.Omega.{arith}
use lib.ListN.{length, set, length-append}
use Rattle.meaning.specs.Plan.{Op, RU}
use Rattle.meaning.specs.Query.{Query, QT, QF, QI}
use Rattle.meaning.specs.Translation.{Made, Tables, next, hold, free_in, others_in, lifts, lifted, head_f, tail_f}
use Rattle.meaning.specs.Translation.{head_i}
use Rattle.meaning.specs.Translation.{then, tr}
use Rattle.query_walks.specs.Parse.{Parsed}
use Rattle.adding.specs.declared.Pen.{Pen}
use Rattle.adding.specs.declared.Output.{Output}
use Rattle.lifting.specs.declared.Lifted.{Lifted}
use Rattle.adding.specs.Ruled.{Wrote, Ruled}
use Rattle.lifting.specs.Lifts.{HoldsTables}
use Rattle.carrying.specs.Carried.{IntoBranch, IntoBody}
use Rattle.scopes.specs.Choices.{choice}
use Rattle.adding.proofs.Adding.{ruled_then}
use Rattle.lifting.proofs.Lifting.{hold_holds}
use Rattle.translating.specs.Translating.{Tree, Two, Three, Makes, MakesBranch, branched}
use Rattle.translating.proofs.Rooms.{moved}
use Rattle.translating.proofs.Splitting.{ruled_is}

pub wrote_is : {os ps : List Op} {x y : List ℕ} {p q : Pen} → os ≡ ps → Wrote os x p y q → Wrote ps x p y q
wrote_is {x = x} {y} {p} {q} e w = subst (λ (os : List Op). Wrote os x p y q) e w

pub then_append : (os ps : List Op) (m : Made) → then (os ++ ps) m ≡ then os (then ps m)
unfolding then
then_append os ps m = ap (λ (l : List Op). record { ops = l; result = m.result }) (append_assoc os ps m.ops)

-- equal numbers, equal tables
tail_is : (t : ℕ → ℕ → Made) {n m a b : ℕ} → n ≡ m → a ≡ b → t n a ≡ t m b
tail_is t e d = ap₂ t e d

tails_is : (t : ℕ → ℕ → ℕ → Made) {n m a b c d : ℕ} → n ≡ m → a ≡ b → c ≡ d → t n a c ≡ t m b d
tails_is t e d f = cc

pub one_made :
    (tail : ℕ → ℕ → Made) (a : Query) (l : ℕ) (e : Tables) {end : ℕ} {x y z : List ℕ} {p : Pen} {r u : Output} →
    Ruled (tr a p.operators l e) end x p y r →
    Ruled (tail r.pen.operators r.table) r.next y r.pen z u →
    Ruled
    (let x = tr a p.operators l e in then x.ops (tail (next p.operators x) x.result)) end x p z u
unfolding next
one_made tail a l e g t = ruled_then g.wrote (ruled_is (tail_is tail g.wrote.count g.table) g.after t)

module _
    (rd : ℕ → Parsed) {at l : ℕ} {ts x y : List ℕ} {p : Pen} {r : Output} (o : Two rd at)
    (m : Makes (rd at) l ts x p y r)
    (e : Tables) (h : HoldsTables ts e) where
  -- a's part
  first : Ruled (tr o.a.q p.operators l e) o.a.end x p y r
  first = m.made o.a e h

  -- b's part, by the numbers of the definitions
  second :
      {k : ℕ} {us z : List ℕ} {s : Output} → Makes (rd r.next) k us y r.pen z s → (f : Tables)
      → HoldsTables us f →
      Ruled (tr o.b.q (next p.operators (tr o.a.q p.operators l e)) k f) o.b.end y r.pen z s
  unfolding next
  second {k} g f i =
      ruled_is (ap (λ (n : ℕ). tr o.b.q n k f) first.wrote.count) refl (g.made (moved rd first.after
      o.b) f i)

  pub two_made :
      (tail : ℕ → ℕ → ℕ → Made) {z w : List ℕ} {s u : Output} → Makes (rd r.next) l ts y r.pen z s →
      Ruled (tail s.pen.operators r.table s.table) s.next z s.pen w u →
      Ruled
      (let x = tr o.a.q p.operators l e in
      let y = tr o.b.q (next p.operators x) l e in
      then x.ops (then y.ops (tail (next (next p.operators x) y) x.result y.result))) o.b.end x p w u
  unfolding next
  two_made tail g t =
      let b = second g e h in
      let k = next p.operators (tr o.a.q p.operators l e) in
      let n = length (tr o.b.q k l e).ops in
      ruled_then first.wrote
      (ruled_then b.wrote
      (ruled_is (tails_is tail (b.wrote.count ∙ ap (λ (i : ℕ). i + n) first.wrote.count) first.table
      b.table)
      b.after t))

  pub let_made :
      (v : ℕ) {z : List ℕ} {s : Output} → length ts ≡ 8 → Makes (rd r.next) l (set ts v r.table) y r.pen z s →
      Ruled (tr (QT 0 v o.a.q o.b.q) p.operators l e) o.b.end x p z s
  unfolding tr
  let_made v k g =
      let x = tr o.a.q p.operators l e in
      let i = hold_holds ts e v r.table k h in
      ruled_then first.wrote
      (ruled_is (ap (λ (t : ℕ). tr o.b.q (next p.operators x) l (hold v t e)) first.table) refl
      (second g (hold v r.table e) i))

  module _
      (v : ℕ) {z w b t : List ℕ} {q : Pen} {a : Lifted} {s u : Output}
      (head : Wrote (head_f r.pen.operators r.table) y r.pen z q)
      (carried : IntoBody (rd r.next) v (r.pen.operators + 2) (r.pen.operators + 4) ts z q w a)
      (body : Makes (rd r.next) (r.pen.operators + 3) a.tables w a.pen b s)
      (tail : Ruled (tail_f s.pen.operators s.table (r.pen.operators + 4)) s.next b s.pen t u) where
    -- the number after a's operators, the variables to be lifted, and the number after their operators
    m' : ℕ
    m' = next p.operators (tr o.a.q p.operators l e)

    us : List ℕ
    us = others_in v o.b.q

    k' : ℕ
    unfolding m' us
    k' = m' + 5 + length (lifts e (m' + 4) (4 ∷ 1 ∷ 2 ∷ []) (m' + 5) us)

    at_m : r.pen.operators ≡ m'
    unfolding m' next
    at_m = first.wrote.count

    at_head : q.operators ≡ m' + 5
    unfolding head_f
    at_head = omega (arith, head.count, at_m)

    tree : Tree (rd r.next)
    tree = moved rd first.after o.b

    head' : Wrote (head_f m' (tr o.a.q p.operators l e).result) y r.pen z q
    head' = wrote_is (ap₂ head_f at_m first.table) head

    lift' : Wrote (lifts e (m' + 4) (4 ∷ 1 ∷ 2 ∷ []) (m' + 5) us) z q w a.pen
    unfolding us tree
    lift' =
        wrote_is (ap₂ (λ (i j : ℕ). lifts e (i + 4) (4 ∷ 1 ∷ 2 ∷ []) j us) at_m at_head)
        (carried.wrote o.b.q o.b.end tree.given e h)

    at_lift : a.pen.operators ≡ k'
    unfolding k'
    at_lift = lift'.count ∙ ap (λ (i : ℕ). i + length (lifts e (m' + 4) (4 ∷ 1 ∷ 2 ∷ []) (m' + 5) us)) at_head

    body' : Ruled (tr o.b.q k' (m' + 3) (hold v (m' + 2) (lifted e (m' + 5) us))) o.b.end w a.pen b s
    unfolding tree us
    body' =
        ruled_is (alike at_lift at_m at_head) refl
        (body.made tree (hold v (r.pen.operators + 2) (lifted e q.operators us))
        (carried.holds o.b.q o.b.end tree.given e h))
      where
        alike :
            {i j k i' j' k'' : ℕ} → i ≡ i' → j ≡ j' → k ≡ k'' →
            tr o.b.q i (j + 3) (hold v (j + 2) (lifted e k us))
            ≡ tr o.b.q i' (j' + 3) (hold v (j' + 2) (lifted e k'' us))
        alike d f g = rw (d, f, g)

    at_body : s.pen.operators ≡ next k' (tr o.b.q k' (m' + 3) (hold v (m' + 2) (lifted e (m' + 5) us)))
    unfolding next
    at_body =
        body'.wrote.count
        ∙ ap (λ (i : ℕ). i + length (tr o.b.q k' (m' + 3) (hold v (m' + 2) (lifted e (m' + 5) us))).ops) at_lift

    pub for_made : Ruled (tr (QF 0 v o.a.q o.b.q) p.operators l e) o.b.end x p t u
    unfolding tr m' us k'
    for_made =
        ruled_then first.wrote
        (ruled_then head'
        (ruled_then lift'
        (ruled_then body'.wrote
        (ruled_is (tails_is (λ n b m. tail_f n b (m + 4)) at_body body'.table at_m) body'.after tail))))

-- A branch of QI

pub branch_made :
    {d : Parsed} {l : ℕ} {ts x y z : List ℕ} {p : Pen} {a : Lifted} {r : Output} → IntoBranch d l ts x p y a →
    Makes d l a.tables y a.pen z r →
    (t : Tree d) (e : Tables) → HoldsTables ts e → Ruled (branched t.q p.operators l e) t.end x p z r
unfolding branched
branch_made {l = l} {p = p} carried body t e h =
    let w = carried.wrote t.q t.end t.given e h in
    let i = carried.holds t.q t.end t.given e h in
    let f = lifted e p.operators (free_in t.q) in
    ruled_then w (ruled_is (ap (λ (n : ℕ). tr t.q n l f) w.count) refl (body.made t f i))

-- QI by its branches

abbrev choice_of : Query → Query → Query → ℕ → ℕ → Tables → Made
choice_of c a b n l e =
    let z = tr c n l e in
    let m = next n z in
    let x = branched a (m + 4) (m + 2) e in
    let j = next (m + 4) x in
    let y = branched b j (m + 3) e in
    then z.ops (then (head_i m l z.result)
    (then x.ops (then y.ops (choice (next j y) x.result y.result))))

-- the number after operators in two parts
after_both : (i : ℕ) (os ps : List Op) → i + length (os ++ ps) ≡ i + length os + length ps
after_both i os ps = simp length-append (omega arith)

-- the union of two branches, the second's operators in two parts
union_append :
    (t i : ℕ) (lift : List Op) (y : Made) →
    then (lift ++ y.ops) (choice (i + length (lift ++ y.ops)) t y.result)
    ≡ then lift (then y.ops (record { ops = RU t y.result ∷ []; result = i + length lift + length y.ops }))
unfolding choice
union_append t i lift y =
    then_append lift y.ops _
    ∙ ap (λ (n : ℕ). then lift (then y.ops (record { ops = RU t y.result ∷ []; result = n }))) (after_both i lift
    y.ops)

choice_is : (c a b : Query) (n l : ℕ) (e : Tables) → choice_of c a b n l e ≡ tr (QI 0 c a b) n l e
unfolding tr branched next then
choice_is c a b n l e =
    let z = tr c n l e in
    let m = n + length z.ops in
    let liftA = lifts e (m + 2) (0 ∷ 1 ∷ 2 ∷ []) (m + 4) (free_in a) in
    let x = tr a (m + 4 + length liftA) (m + 2) (lifted e (m + 4) (free_in a)) in
    let j = m + 4 + length liftA + length x.ops in
    let liftB = lifts e (m + 3) (0 ∷ 1 ∷ 2 ∷ []) j (free_in b) in
    let y = tr b (j + length liftB) (m + 3) (lifted e j (free_in b)) in
    ap (λ (r : Made). then z.ops (then (head_i m l z.result) r))
    (ap
    (λ (i : ℕ).
    let y = branched b i (m + 3) e in
    then (liftA ++ x.ops) (then y.ops (choice (next i y) x.result y.result)))
    (after_both (m + 4) liftA x.ops)
    ∙ ap (λ (r : Made). then (liftA ++ x.ops) r) (union_append x.result j liftB y)
    ∙ then_append liftA x.ops _)

module _
    (rd : ℕ → Parsed) {at l : ℕ} {ts x y z w b t : List ℕ} {p q : Pen} {r s k u : Output} (o : Three rd at)
    (c : Makes (rd at) l ts x p y r)
    (head : Wrote (head_i r.pen.operators l r.table) y r.pen z q)
    (yea : MakesBranch (rd r.next) (r.pen.operators + 2) ts z q w s)
    (nay : MakesBranch (rd s.next) (r.pen.operators + 3) ts w s.pen b k)
    (tail : Ruled (choice k.pen.operators s.table k.table) k.next b k.pen t u)
    (e : Tables) (h : HoldsTables ts e) where
  condition : Ruled (tr o.c.q p.operators l e) o.c.end x p y r
  condition = c.made o.c e h

  m'' : ℕ
  m'' = next p.operators (tr o.c.q p.operators l e)

  at_c : r.pen.operators ≡ m''
  unfolding m'' next
  at_c = condition.wrote.count

  at_loops : q.operators ≡ m'' + 4
  unfolding head_i
  at_loops = omega (arith, head.count, at_c)

  head'' : Wrote (head_i m'' l (tr o.c.q p.operators l e).result) y r.pen z q
  head'' = wrote_is (ap₂ (λ (n t : ℕ). head_i n l t) at_c condition.table) head

  yea' : Ruled (branched o.a.q (m'' + 4) (m'' + 2) e) o.a.end z q w s
  yea' =
      ruled_is (ap₂ (λ (n m : ℕ). branched o.a.q n (m + 2) e) at_loops at_c) refl
      (yea.made (moved rd condition.after o.a) e h)

  j'' : ℕ
  unfolding m''
  j'' = next (m'' + 4) (branched o.a.q (m'' + 4) (m'' + 2) e)

  at_a : s.pen.operators ≡ j''
  unfolding j'' next
  at_a = yea'.wrote.count ∙ ap (λ (n : ℕ). n + length (branched o.a.q (m'' + 4) (m'' + 2) e).ops) at_loops

  nay' : Ruled (branched o.b.q j'' (m'' + 3) e) o.b.end w s.pen b k
  nay' =
      ruled_is (ap₂ (λ (n m : ℕ). branched o.b.q n (m + 3) e) at_a at_c) refl
      (nay.made (moved rd yea'.after o.b) e h)

  at_b : k.pen.operators ≡ next j'' (branched o.b.q j'' (m'' + 3) e)
  unfolding next
  at_b = nay'.wrote.count ∙ ap (λ (n : ℕ). n + length (branched o.b.q j'' (m'' + 3) e).ops) at_a

  pub choice_made : Ruled (tr (QI 0 o.c.q o.a.q o.b.q) p.operators l e) o.b.end x p t u
  unfolding m'' j''
  choice_made =
      ruled_is (choice_is o.c.q o.a.q o.b.q p.operators l e) refl
      (ruled_then condition.wrote
      (ruled_then head''
      (ruled_then yea'.wrote
      (ruled_then nay'.wrote
      (ruled_is (tails_is choice at_b yea'.table nay'.table) nay'.after tail)))))
