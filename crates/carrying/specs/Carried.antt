-- What carrying variables into an operand leaves (document 01, 'Translation': QF and QI lift the variables free in an
-- operand). d is the operand as it is read, ts the row of the variables' tables; the operators are written over x where
-- p stands, y is left, and r has the tables in the operand and where writing stands.
--     IntoBranch d l ts x p y r         into a branch of QI under the loop's table l: the variables free in it are
--                                       lifted
--     IntoBody d v own map ts x p y r   into the body of QF by its map table: the variables free in it are lifted, but
--                                       for its own, v, which has table own
use Rattle.std.specs.Prelude.{ℕ, ◌≡◌, List, [], ◌∷◌}
use Rattle.laws.specs.Attempt.{gives}
use Rattle.meaning.specs.Query.{Query}
use Rattle.meaning.specs.Translation.{Tables, hold, lifts, lifted, free_in, others_in}
use Rattle.query_walks.specs.Parse.{Parsed}
use Rattle.adding.specs.declared.Pen.{Pen}
use Rattle.lifting.specs.declared.Lifted.{Lifted}
use Rattle.adding.specs.Ruled.{Wrote}
use Rattle.lifting.specs.Lifts.{HoldsTables}

pub record IntoBranch (d : Parsed) (l : ℕ) (ts x : List ℕ) (p : Pen) (y : List ℕ) (r : Lifted) : Type 0 where
  pub wrote :
      (q : Query) (end : ℕ) → d ≡ gives (q, end) → (e : Tables) → HoldsTables ts e →
      Wrote (lifts e l (0 ∷ 1 ∷ 2 ∷ []) p.operators (free_in q)) x p y r.pen
  pub holds :
      (q : Query) (end : ℕ) → d ≡ gives (q, end) → (e : Tables) → HoldsTables ts e →
      HoldsTables r.tables (lifted e p.operators (free_in q))

pub record IntoBody
    (d : Parsed) (v own map : ℕ) (ts x : List ℕ) (p : Pen) (y : List ℕ) (r : Lifted) : Type 0 where
  pub wrote :
      (q : Query) (end : ℕ) → d ≡ gives (q, end) → (e : Tables) → HoldsTables ts e →
      Wrote (lifts e map (4 ∷ 1 ∷ 2 ∷ []) p.operators (others_in v q)) x p y r.pen
  pub holds :
      (q : Query) (end : ℕ) → d ≡ gives (q, end) → (e : Tables) → HoldsTables ts e →
      HoldsTables r.tables (hold v own (lifted e p.operators (others_in v q)))
