-- What translating the expression at an offset asks and leaves (document 01, 'Translation').
--     Tree d                 the tree that reading gives, and the offset after it
--     Two rd at, Three rd at      two trees, three, one after another, from an offset on
--     Asked d p              there is a tree, and room for its operators: at most 37 for each of its records
--     AskedOne, AskedTwo, AskedThree    the same of an expression's operands, the expression being f of them
--     Translates q next l ts x p y r    q's operators are written over x where p stands, under the loop's table l and
--                            the variables' tables ts; y is left, and r tells q's result, where writing stands, and
--                            next
--     Makes, MakesOne, MakesTwo, MakesThree    the same of what is read
--     branched q n l e       the operators of a branch of QI: its variables' from table l on, then its own
--     AskedBranch, MakesBranch    the same of a branch of QI: the variables free in it are lifted first
use Rattle.std.specs.Prelude.{ℕ, ◌+◌, ◌*◌, ◌≡◌, List, [], ◌∷◌, length}
use Rattle.laws.specs.Attempt.{gives}
use Rattle.meaning.specs.Query.{Query}
use Rattle.meaning.specs.Translation.{Made, Tables, tr, then, lifts, lifted, free_in}
use Rattle.theorems.specs.Closed.{records}
use Rattle.query_walks.specs.Parse.{Parsed}
use Rattle.adding.specs.declared.Pen.{Pen}
use Rattle.adding.specs.declared.Output.{Output}
use Rattle.adding.specs.Ruled.{PenRoom, Ruled}
use Rattle.lifting.specs.Lifts.{HoldsTables}

pub record Tree (d : Parsed) : Type 0 where
  pub q : Query
  pub end : ℕ
  pub given : d ≡ gives (q, end)

pub record Two (rd : ℕ → Parsed) (at : ℕ) : Type 0 where
  pub a : Tree (rd at)
  pub b : Tree (rd a.end)

pub record Three (rd : ℕ → Parsed) (at : ℕ) : Type 0 where
  pub c : Tree (rd at)
  pub a : Tree (rd c.end)
  pub b : Tree (rd a.end)

pub record Asked (d : Parsed) (p : Pen) : Type 0 where
  pub tree : Tree d
  pub room : PenRoom p (37 * records tree.q)

pub record AskedOne (f : Query → Query) (d : Parsed) (p : Pen) : Type 0 where
  pub operand : Tree d
  pub room : PenRoom p (37 * records (f operand.q))

pub record AskedTwo (f : Query → Query → Query) (rd : ℕ → Parsed) (at : ℕ) (p : Pen) : Type 0 where
  pub operands : Two rd at
  pub room : PenRoom p (37 * records (f operands.a.q operands.b.q))

pub record AskedThree (f : Query → Query → Query → Query) (rd : ℕ → Parsed) (at : ℕ) (p : Pen) : Type 0 where
  pub operands : Three rd at
  pub room : PenRoom p (37 * records (f operands.c.q operands.a.q operands.b.q))

abbrev pub Translates : Query → (next l : ℕ) → (ts x : List ℕ) → Pen → (y : List ℕ) → Output → Type 0
Translates q next l ts x p y r = (e : Tables) → HoldsTables ts e → Ruled (tr q p.operators l e) next x p y r

pub record Makes (d : Parsed) (l : ℕ) (ts x : List ℕ) (p : Pen) (y : List ℕ) (r : Output) : Type 0 where
  pub made : (t : Tree d) → Translates t.q t.end l ts x p y r

pub record MakesOne
    (f : Query → Query) (d : Parsed) (l : ℕ) (ts x : List ℕ) (p : Pen) (y : List ℕ) (r : Output) : Type 0 where
  pub made : (t : Tree d) → Translates (f t.q) t.end l ts x p y r

pub record MakesTwo
    (f : Query → Query → Query) (rd : ℕ → Parsed) (at l : ℕ) (ts x : List ℕ) (p : Pen) (y : List ℕ) (r : Output) :
    Type 0 where
  pub made : (o : Two rd at) → Translates (f o.a.q o.b.q) o.b.end l ts x p y r

pub record MakesThree
    (f : Query → Query → Query → Query) (rd : ℕ → Parsed) (at l : ℕ) (ts x : List ℕ) (p : Pen) (y : List ℕ)
    (r : Output) :
    Type 0 where
  pub made : (o : Three rd at) → Translates (f o.c.q o.a.q o.b.q) o.b.end l ts x p y r

unfoldable pub branched : Query → ℕ → ℕ → Tables → Made
branched q n l e =
    let lift = lifts e l (0 ∷ 1 ∷ 2 ∷ []) n (free_in q) in
    then lift (tr q (n + length lift) l (lifted e n (free_in q)))

pub record AskedBranch (d : Parsed) (p : Pen) : Type 0 where
  pub tree : Tree d
  pub room : PenRoom p (16 + 37 * records tree.q)

pub record MakesBranch (d : Parsed) (l : ℕ) (ts x : List ℕ) (p : Pen) (y : List ℕ) (r : Output) : Type 0 where
  pub made :
      (t : Tree d) (e : Tables) → HoldsTables ts e → Ruled (branched t.q p.operators l e) t.end x p y r
