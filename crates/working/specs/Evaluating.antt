-- What working out a part of a query promises (document 01, 'Query records', 'Room').
--     behind w room e b q s      the evaluation of q behind what stands as s, which binding b binds
--     both w room e b p q        the evaluation of p, and of q behind it
--     Is o e top cells r         answer r, read from the cells, is outcome o, and its tree ends at offset e
--     IsPair o e top cells p     the same of two operands
--     Works w t top room s before after r    nothing below top has changed, and what r says fits the room; for every
--                                store that scope s holds, r is the evaluation of the tree that t gives
--     Pairs w rd at b top room s before after p    the same of two trees that rd gives one behind the other from `at`
--                                on; the second sees the items of the first in the variable of binding b
--     turn w e v q left x        what a turn of a `for` works out, for item x of its variable v
--     Turns w t v top room n count next s before after p    the same of the turns of a `for`: its body is the tree that
--                                t gives, and the n items from top on are those of its variable v, counted `count`
use Rattle.std.specs.Prelude.{ℕ, ◌-◌, ◌≡◌, List, [], ◌∷◌, ℤ, length, take, Option, Result}
use Rattle.codes.specs.declared.refusals.Stop.{Stop}
use Rattle.laws.specs.Rows.{row}
use Rattle.laws.specs.Attempt.{gives, Work}
use Rattle.meaning.specs.World.{World}
use Rattle.meaning.specs.Query.{Query}
use Rattle.meaning.specs.Meaning.{Env, bind}
use Rattle.meaning.specs.Counted.{Standing, evaluate, loop}
use Rattle.query_walks.specs.Parse.{Parsed}
use Rattle.stack.specs.declared.Stood.{Stood}
use Rattle.stack.specs.declared.Pair.{Pair}
use Rattle.stack.specs.Stack.{Paired, stood, paired, Fit, FitPair, Ends, EndsPair}
use Rattle.stack.specs.Moves.{pairing}
use Rattle.stack.specs.Moves as Moves
use Rattle.working_parts.specs.declared.Scope.{Scope}
use Rattle.working_parts.specs.Scopes.{HoldsEnv, binding}

pub record Is (o : Work Standing) (e top : ℕ) (cells : List ℤ) (r : Result Stood Stop) : Type 0 where
  pub stands : stood cells top r ≡ o
  pub ends : Ends r e

pub record IsPair (o : Work Paired) (e top : ℕ) (cells : List ℤ) (p : Result Pair Stop) : Type 0 where
  pub stands : paired cells top p ≡ o
  pub ends : EndsPair p e

pub record Works
    (w : World) (t : Parsed) (top room : ℕ) (s : Scope) (before after : List ℤ) (r : Result Stood Stop)
    : Type 0 where
  pub kept : take top after ≡ take top before
  pub fit : Fit top room r
  pub means :
      (e : Env) → HoldsEnv before s e → (x : Query × ℕ) → t ≡ gives x →
      Is (evaluate w (room - top) e x.0) x.1 top after r

-- the second of two operands, in the room that the items of the first leave
unfoldable pub behind : World → ℕ → Env → Option ℕ → Query → Standing → Work Standing
behind w room e b q s = evaluate w (room - length s.items) (binding b s.items e) q

unfoldable pub both : World → ℕ → Env → Option ℕ → Query → Query → Work Paired
both w room e b p q = pairing (evaluate w room e p) (behind w room e b q)

pub record Pairs
    (w : World) (rd : ℕ → Parsed) (at : ℕ) (b : Option ℕ) (top room : ℕ) (s : Scope) (before after : List ℤ)
    (p : Result Pair Stop)
    : Type 0 where
  pub kept : take top after ≡ take top before
  pub fit : FitPair top room p
  pub means :
      (e : Env) → HoldsEnv before s e → (x y : Query × ℕ) → rd at ≡ gives x → rd x.1 ≡ gives y →
      IsPair (both w (room - top) e b x.0 y.0) y.1 top after p

-- what a turn of a `for` works out, for one item of its variable
abbrev pub turn : World → Env → ℕ → Query → ℕ → ℤ → Work Standing
turn w e v q left x = evaluate w left (bind v (x ∷ []) e) q

pub record Turns
    (w : World) (t : Parsed) (v top room n count next : ℕ) (s : Scope) (before after : List ℤ)
    (p : Result Pair Stop)
    : Type 0 where
  pub kept : take top after ≡ take top before
  pub fit : FitPair top room p
  pub ends : EndsPair p next
  pub means :
      (e : Env) → HoldsEnv before s e → (x : Query × ℕ) → t ≡ gives x →
      Moves.kept (paired after top p) ≡ loop (turn w e v x.0) (room - top) n count [] (row before top n)
