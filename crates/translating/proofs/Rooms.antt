-- Laws of the room that is left for operators: a query's operators are at most 37 for each of its records.
--     room_less            less room
--     room_after           the room after an expression's operators
--     moved                a tree, read from an equal offset
--     ruled_own            what an operand leaves, over the row's own tables
--     only_asked, one_room                  one operand: its room, and the room after it
--     first_asked, second_asked, two_room   two operands: the room of each, and the room after both
--     head_room, body_asked, body_room      QF's body: the room for lifting, for the body, and after it
--     branch_asked                          a branch of QI: the room for it, after lifting
--     condition_asked, then_asked, else_asked, choice_room    QI: the room of each operand, and after them
use Prim.Native.Nat.{ℕ, suc, ◌+◌, ◌*◌, ◌≤◌}
use mathlib.Core.Path.{◌≡◌, ap, ◌∙◌}
use mathlib.Core.List.{List, [], ◌∷◌}
use native.Mathlib.Omega.{arith}
use lib.ListN.{length, length-append}
use Rattle.meaning.specs.Query.{Query, QI}
use Rattle.meaning.specs.Translation.{Tables, tr, then, lifts, lifted, free_in, head_f, head_i}
use Rattle.theorems.specs.Closed.{records}
use Rattle.theorems.proofs.PlanBound.{tr_bound, length_lifts, length_free_in}
use Rattle.query_walks.specs.Parse.{Parsed}
use Rattle.adding.specs.declared.Pen.{Pen}
use Rattle.adding.specs.declared.Output.{Output}
use Rattle.lifting.specs.declared.Lifted.{Lifted}
use Rattle.adding.specs.Ruled.{PenRoom, Wrote, Ruled}
use Rattle.lifting.specs.Lifts.{tables_of}
use Rattle.carrying.specs.Carried.{IntoBranch, IntoBody}
use Rattle.adding.proofs.Adding.{wrote_room}
use Rattle.carrying.proofs.Carrying.{own, into_branch_room, into_body_room}
use Rattle.translating.specs.Translating.{Tree, Asked, AskedOne, AskedTwo, AskedThree, AskedBranch}
use Rattle.translating.specs.Translating.{Makes, MakesBranch, branched}

pub room_less : {p : Pen} {k : ℕ} (j : ℕ) → PenRoom p k → j ≤ k → PenRoom p j
room_less j h l = record { few = omega arith; short = h.short }

pub room_after :
    (q : Query) (n l : ℕ) (e : Tables) {next : ℕ} {x y : List ℕ} {p : Pen} {r : Output} →
    Ruled (tr q n l e) next x p y r → (j k : ℕ) → PenRoom p k → 37 * records q + j ≤ k → PenRoom r.pen j
room_after q n l e g j k h b = wrote_room g.wrote j k h (omega (arith, tr_bound q n l e))

abbrev pub moved : (rd : ℕ → Parsed) {m n : ℕ} → m ≡ n → Tree (rd n) → Tree (rd m)
moved rd e t = record { q = t.q; end = t.end; given = ap rd e ∙ t.given }

-- what an operand leaves, over the row's own tables
pub ruled_own :
    {d : Parsed} {l : ℕ} {ts x y : List ℕ} {p : Pen} {r : Output} → Makes d l ts x p y r → (t : Tree d) →
    Ruled (tr t.q p.operators l (tables_of ts)) t.end x p y r
ruled_own {ts = ts} m t = m.made t (tables_of ts) (own ts)

module _ (f : Query → Query) (more : (a : Query) → records (f a) ≡ suc (records a)) where
  pub only_asked : {d : Parsed} {p : Pen} → AskedOne f d p → Asked d p
  only_asked h =
      record { tree = h.operand; room = room_less _ h.room (omega (arith, more h.operand.q)) }

  pub one_room :
      {d : Parsed} {l : ℕ} {ts x y : List ℕ} {p : Pen} {r : Output} → AskedOne f d p → Makes d l ts x p y r →
      PenRoom r.pen 37
  one_room h m =
      let t = h.operand in
      room_after t.q _ _ _ (ruled_own m t) 37 _ h.room (omega (arith, more t.q))

module _ (f : Query → Query → Query) (more : (a b : Query) → records (f a b) ≡ suc (records a + records b)) where
  pub first_asked : {rd : ℕ → Parsed} {at : ℕ} {p : Pen} → AskedTwo f rd at p → Asked (rd at) p
  first_asked h =
      let o = h.operands in
      record { tree = o.a; room = room_less _ h.room (omega (arith, more o.a.q o.b.q)) }

  module _
      (rd : ℕ → Parsed) (at : ℕ) (p : Pen) (h : AskedTwo f rd at p) {l : ℕ} {ts x y : List ℕ} {r : Output}
      (m : Makes (rd at) l ts x p y r) where
    -- the room for b and for the rule's own operators
    pub first_room : PenRoom r.pen (37 * suc (records h.operands.b.q))
    first_room =
        let o = h.operands in
        room_after o.a.q _ _ _ (ruled_own m o.a) _ _ h.room (omega (arith, more o.a.q o.b.q))

    -- b's tree, where a ends
    abbrev pub second_tree : Tree (rd r.next)
    second_tree = moved rd (ruled_own m h.operands.a).after h.operands.b

    pub second_asked : Asked (rd r.next) r.pen
    second_asked = record { tree = second_tree; room = room_less _ first_room (omega arith) }

    pub two_room :
        {l' : ℕ} {ts' z : List ℕ} {s : Output} → Makes (rd r.next) l' ts' y r.pen z s → PenRoom s.pen 37
    two_room g = room_after h.operands.b.q _ _ _ (ruled_own g second_tree) 37 _ first_room (omega arith)

    -- QF: after its first operators and the lifted variables
    module _
        (n t : ℕ) {z : List ℕ} {q : Pen} (g : Wrote (head_f n t) y r.pen z q) where
      pub head_room : PenRoom q (32 + 37 * records h.operands.b.q)
      unfolding head_f
      head_room = wrote_room g _ _ first_room (omega arith)

      module _
          {v o k : ℕ} {us w : List ℕ} {a : Lifted} (i : IntoBody (rd r.next) v o k us z q w a) where
        lifted_room : PenRoom a.pen (16 + 37 * records h.operands.b.q)
        lifted_room =
            into_body_room second_tree.q second_tree.end second_tree.given i _ _ head_room (omega arith)

        pub body_asked : Asked (rd r.next) a.pen
        body_asked = record { tree = second_tree; room = room_less _ lifted_room (omega arith) }

        pub body_room :
            {l' : ℕ} {ts' v : List ℕ} {s : Output} → Makes (rd r.next) l' ts' w a.pen v s → PenRoom s.pen 16
        body_room m = room_after h.operands.b.q _ _ _ (ruled_own m second_tree) 16 _ lifted_room (omega arith)

-- A branch of QI

pub branch_asked :
    {d : Parsed} {l : ℕ} {us x y : List ℕ} {p : Pen} {a : Lifted} → AskedBranch d p → IntoBranch d l us x p y a →
    Asked d a.pen
branch_asked h i =
    let t = h.tree in
    record { tree = t; room = into_branch_room t.q t.end t.given i _ _ h.room (omega arith) }

branch_bound : (q : Query) (n l : ℕ) (e : Tables) → length (branched q n l e).ops ≤ 16 + 37 * records q
unfolding branched then
branch_bound q n l e =
    let lift = lifts e l (0 ∷ 1 ∷ 2 ∷ []) n (free_in q) in
    simp length-append
    (omega (
      arith,
      length_lifts e l (0 ∷ 1 ∷ 2 ∷ []) n (free_in q),
      length_free_in q,
      tr_bound q (n + length lift) l (lifted e n (free_in q)),
    ))

-- what a branch leaves, over the row's own tables
branch_own :
    {d : Parsed} {l : ℕ} {ts x y : List ℕ} {p : Pen} {r : Output} → MakesBranch d l ts x p y r → (t : Tree d) →
    Ruled (branched t.q p.operators l (tables_of ts)) t.end x p y r
branch_own {ts = ts} m t = m.made t (tables_of ts) (own ts)

branch_room :
    {d : Parsed} {l : ℕ} {ts x y : List ℕ} {p : Pen} {r : Output} (m : MakesBranch d l ts x p y r) (t : Tree d)
    (j k : ℕ) → PenRoom p k → 16 + 37 * records t.q + j ≤ k → PenRoom r.pen j
branch_room {l = l} {ts = ts} {p = p} m t j k h b =
    wrote_room (branch_own m t).wrote j k h (omega (arith, branch_bound t.q p.operators l (tables_of ts)))

module _ (rd : ℕ → Parsed) (at : ℕ) (p : Pen) (h : AskedThree (QI 0) rd at p) where
  -- the room for all of QI
  all_room :
      PenRoom p (37 * suc (records h.operands.c.q + records h.operands.a.q + records h.operands.b.q))
  all_room = h.room

  pub condition_asked : Asked (rd at) p
  condition_asked = record { tree = h.operands.c; room = room_less _ all_room (omega arith) }

  module _ {l : ℕ} {ts x y : List ℕ} {r : Output} (m : Makes (rd at) l ts x p y r) where
    pub condition_room : PenRoom r.pen (37 * suc (records h.operands.a.q + records h.operands.b.q))
    condition_room =
        room_after h.operands.c.q _ _ _ (ruled_own m h.operands.c) _ _ all_room (omega arith)

    module _ (n k t : ℕ) {z : List ℕ} {q : Pen} (g : Wrote (head_i n k t) y r.pen z q) where
      loops_room : PenRoom q (33 + 37 * (records h.operands.a.q + records h.operands.b.q))
      unfolding head_i
      loops_room = wrote_room g _ _ condition_room (omega arith)

      abbrev then_tree : Tree (rd r.next)
      then_tree = moved rd (ruled_own m h.operands.c).after h.operands.a

      pub then_asked : AskedBranch (rd r.next) q
      then_asked = record { tree = then_tree; room = room_less _ loops_room (omega arith) }

      module _ {l' : ℕ} {ts' w : List ℕ} {s : Output} (i : MakesBranch (rd r.next) l' ts' z q w s) where
        then_room : PenRoom s.pen (17 + 37 * records h.operands.b.q)
        then_room = branch_room i then_tree _ _ loops_room (omega arith)

        abbrev else_tree : Tree (rd s.next)
        else_tree = moved rd (branch_own i then_tree).after h.operands.b

        pub else_asked : AskedBranch (rd s.next) s.pen
        else_asked = record { tree = else_tree; room = room_less _ then_room (omega arith) }

        pub choice_room :
            {l'' : ℕ} {ts'' v : List ℕ} {u : Output} → MakesBranch (rd s.next) l'' ts'' w s.pen v u
            → PenRoom u.pen 1
        choice_room j = branch_room j else_tree 1 _ then_room (omega arith)
