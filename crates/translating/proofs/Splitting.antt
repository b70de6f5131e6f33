-- The record at an offset decides what is asked of its operands, and what they leave decides what it leaves.
--     ruled_is                          an equal rule
--     Alike1, Alike2, Alike3            two expressions of the same operands that have the same plan
--     leaf_room, leaf_makes             a record without operands
--     one_asked, one_makes .. three_makes    one with one operand, with two, with three
use Prim.Native.Nat.{ℕ, ◌*◌}
use mathlib.Core.Path.{◌≡◌, sym, ap, ◌∙◌}
use mathlib.Core.List.{List}
use native.Mathlib.Omega.{arith}
use Rattle.laws.specs.Attempt.{gives}
use Rattle.meaning.specs.Query.{Query}
use Rattle.meaning.specs.Translation.{Made, Tables, tr}
use Rattle.theorems.specs.Closed.{records}
use Rattle.laws.proofs.Outcomes.{gives_same}
use Rattle.query_walks.specs.Parse.{Parsed, lone, pair, triple}
use Rattle.query_walks.proofs.Parsing.{lone_gives, pair_gives, triple_gives}
use Rattle.adding.specs.declared.Pen.{Pen}
use Rattle.adding.specs.declared.Output.{Output}
use Rattle.adding.specs.Ruled.{PenRoom, Ruled}
use Rattle.translating.specs.Translating.{Tree, Two, Three, Asked, AskedOne, AskedTwo, AskedThree, Translates}
use Rattle.translating.specs.Translating.{Makes}
use Rattle.translating.specs.Translating.{MakesOne, MakesTwo, MakesThree}

pub ruled_is :
    {m k : Made} {next last : ℕ} {x y : List ℕ} {p : Pen} {r : Output} → m ≡ k → next ≡ last → Ruled m next x p y r →
    Ruled k last x p y r
ruled_is {next = next} {last = last} e d g =
    record { wrote = rw e at g.wrote; table = g.table ∙ ap (λ (k : Made). k.result) e; after = g.after ∙ d }

-- the same tree, and the same offset after it
same_room : {p : Pen} (q k : Query) → records q ≡ records k → PenRoom p (37 * records k) → PenRoom p (37 * records q)
same_room q k e h = record { few = omega (arith, e, h.few); short = h.short }

-- Records without operands

module _ (q : Query) (next : ℕ) {d : Parsed} (e : d ≡ gives (q, next)) where
  leaf_is : (t : Tree d) → ◌≡◌ {A = Query × ℕ} (q, next) (t.q, t.end)
  leaf_is t = gives_same (sym e ∙ t.given)

  pub leaf_room : records q ≡ 1 → {p : Pen} → Asked d p → PenRoom p 37
  leaf_room one h =
      let same : records q ≡ records h.tree.q = ap (λ (z : Query × ℕ). records z.0) (leaf_is h.tree) in
      record { few = omega (arith, h.room.few, same, one); short = h.room.short }

  pub leaf_makes :
      {l : ℕ} {ts x y : List ℕ} {p : Pen} {r : Output} → Translates q next l ts x p y r → Makes d l ts x p y r
  leaf_makes {l} {p = p} g = record {
    made = λ t e h.
        let s = leaf_is t in
        ruled_is (ap (λ (z : Query × ℕ). tr z.0 p.operators l e) s) (ap (λ (z : Query × ℕ). z.1) s) (g e h);
  }

-- Records with operands

pub record Alike1 (f g : Query → Query) : Type 0 where
  pub count : (a : Query) → records (f a) ≡ records (g a)
  pub plan : (a : Query) (n l : ℕ) (e : Tables) → tr (f a) n l e ≡ tr (g a) n l e

pub record Alike2 (f g : Query → Query → Query) : Type 0 where
  pub count : (a b : Query) → records (f a b) ≡ records (g a b)
  pub plan : (a b : Query) (n l : ℕ) (e : Tables) → tr (f a b) n l e ≡ tr (g a b) n l e

pub record Alike3 (f g : Query → Query → Query → Query) : Type 0 where
  pub count : (c a b : Query) → records (f c a b) ≡ records (g c a b)
  pub plan : (c a b : Query) (n l : ℕ) (e : Tables) → tr (f c a b) n l e ≡ tr (g c a b) n l e

module _ {f g : Query → Query} (same : Alike1 f g) {d : Parsed} (a : Parsed) (e : d ≡ lone g a) where
  -- the operand of a tree
  record Split1 (t : Tree d) : Type 0 where
    operand : Tree a
    tree : ◌≡◌ {A = Query × ℕ} (g operand.q, operand.end) (t.q, t.end)

  split1 : (t : Tree d) → Split1 t
  split1 t =
      let (x, p, s) = lone_gives g a (t.q, t.end) (sym e ∙ t.given) in
      record { operand = record { q = x.0; end = x.1; given = p }; tree = s }

  pub one_asked : {p : Pen} → Asked d p → AskedOne f a p
  one_asked h =
      let s = split1 h.tree in
      record {
        operand = s.operand;
        room =
            same_room (f s.operand.q) h.tree.q
            (same.count s.operand.q ∙ ap (λ (z : Query × ℕ). records z.0) s.tree) h.room;
      }

  pub one_makes :
      {l : ℕ} {ts x y : List ℕ} {p : Pen} {r : Output} → MakesOne f a l ts x p y r → Makes d l ts x p y r
  one_makes {l} {p = p} m = record {
    made = λ t e h.
        let s = split1 t in
        ruled_is
        (same.plan s.operand.q p.operators l e ∙ ap (λ (z : Query × ℕ). tr z.0 p.operators l e) s.tree)
        (ap (λ (z : Query × ℕ). z.1) s.tree)
        (m.made s.operand e h);
  }

module _
    {f g : Query → Query → Query} (same : Alike2 f g) {d : Parsed} (rd : ℕ → Parsed) (at : ℕ) (e : d ≡ pair g
    (rd at) rd) where
  record Split2 (t : Tree d) : Type 0 where
    operands : Two rd at
    tree : ◌≡◌ {A = Query × ℕ} (g operands.a.q operands.b.q, operands.b.end) (t.q, t.end)

  split2 : (t : Tree d) → Split2 t
  split2 t =
      let (x, y, p, s, u) = pair_gives g (rd at) rd (t.q, t.end) (sym e ∙ t.given) in
      record {
        operands =
            record {
              a = record { q = x.0; end = x.1; given = p };
              b = record { q = y.0; end = y.1; given = s };
            };
        tree = u;
      }

  pub two_asked : {p : Pen} → Asked d p → AskedTwo f rd at p
  two_asked h =
      let s = split2 h.tree in
      record {
        operands = s.operands;
        room =
            same_room (f s.operands.a.q s.operands.b.q) h.tree.q
            (same.count s.operands.a.q s.operands.b.q ∙ ap (λ (z : Query × ℕ). records z.0) s.tree)
            h.room;
      }

  pub two_makes :
      {l : ℕ} {ts x y : List ℕ} {p : Pen} {r : Output} → MakesTwo f rd at l ts x p y r → Makes d l ts x p y r
  two_makes {l} {p = p} m = record {
    made = λ t e h.
        let s = split2 t in
        ruled_is
        (same.plan s.operands.a.q s.operands.b.q p.operators l e
        ∙ ap (λ (z : Query × ℕ). tr z.0 p.operators l e) s.tree)
        (ap (λ (z : Query × ℕ). z.1) s.tree)
        (m.made s.operands e h);
  }

module _
    {f g : Query → Query → Query → Query} (same : Alike3 f g) {d : Parsed} (rd : ℕ → Parsed) (at : ℕ)
    (e : d ≡ triple g (rd at) rd rd) where
  record Split3 (t : Tree d) : Type 0 where
    operands : Three rd at
    tree :
        ◌≡◌ {A = Query × ℕ} (g operands.c.q operands.a.q operands.b.q, operands.b.end) (t.q, t.end)

  split3 : (t : Tree d) → Split3 t
  split3 t =
      let (w, x, y, p, s, u, v) = triple_gives g (rd at) rd rd (t.q, t.end) (sym e ∙ t.given) in
      record {
        operands =
            record {
              c = record { q = w.0; end = w.1; given = p };
              a = record { q = x.0; end = x.1; given = s };
              b = record { q = y.0; end = y.1; given = u };
            };
        tree = v;
      }

  pub three_asked : {p : Pen} → Asked d p → AskedThree f rd at p
  three_asked h =
      let s = split3 h.tree in
      record {
        operands = s.operands;
        room =
            same_room (f s.operands.c.q s.operands.a.q s.operands.b.q) h.tree.q
            (same.count s.operands.c.q s.operands.a.q s.operands.b.q
            ∙ ap (λ (z : Query × ℕ). records z.0) s.tree)
            h.room;
      }

  pub three_makes :
      {l : ℕ} {ts x y : List ℕ} {p : Pen} {r : Output} → MakesThree f rd at l ts x p y r → Makes d l ts x p y r
  three_makes {l} {p = p} m = record {
    made = λ t e h.
        let s = split3 t in
        ruled_is
        (same.plan s.operands.c.q s.operands.a.q s.operands.b.q p.operators l e
        ∙ ap (λ (z : Query × ℕ). tr z.0 p.operators l e) s.tree)
        (ap (λ (z : Query × ℕ). z.1) s.tree)
        (m.made s.operands e h);
  }
