-- Laws of variables that are carried into an operand.
--     set_eight                        a row of eight with another table was one before
--     branch_carried, body_carried     from the flags of the free variables, and what lifting leaves
--     own                              the row's own tables
--     into_branch_room, into_body_room     the room after the variables' operators, which are at most 16
use Prim.Native.Nat.{ℕ, ◌+◌, ◌≤◌}
use mathlib.Core.Path.{◌≡◌, refl, sym, ap, ◌∙◌}
use mathlib.Core.Bool.{Bool, false}
use mathlib.Core.List.{List, [], ◌∷◌}
use native.Mathlib.Omega.{arith}
use lib.ListN.{length, set, length-set}
use Rattle.laws.specs.Attempt.{gives}
use Rattle.meaning.specs.Query.{Query}
use Rattle.meaning.specs.Translation.{lifted, free_in, others_in}
use Rattle.theorems.proofs.PlanBound.{length_lifts, length_free_in, length_others_in}
use Rattle.query_walks.specs.Parse.{Parsed, Free}
use Rattle.adding.specs.declared.Pen.{Pen}
use Rattle.lifting.specs.declared.Lifted.{Lifted}
use Rattle.adding.specs.Ruled.{PenRoom}
use Rattle.lifting.specs.Lifts.{Lifts, HoldsTables, tables_of, flagged}
use Rattle.adding.proofs.Adding.{wrote_room}
use Rattle.lifting.proofs.Lifting.{hold_holds, flagged_free, flagged_others, lifts_wrote, lifts_holds}
use Rattle.carrying.specs.Carried.{IntoBranch, IntoBody}

-- a row of eight with another table was one before
pub set_eight : (ts row : List ℕ) (v t : ℕ) → row ≡ set ts v t → length row ≡ 8 → length ts ≡ 8
set_eight ts row v t e h = sym (length-set ts v t) ∙ sym (ap length e) ∙ h

pub branch_carried :
    {d : Parsed} {l : ℕ} {ts : List ℕ} (fs : List Bool) {x y : List ℕ} {p : Pen} {r : Lifted} → Free d fs →
    Lifts ts l (0 ∷ 1 ∷ 2 ∷ []) (flagged fs 8) x p y r → IntoBranch d l ts x p y r
branch_carried {l = l} {ts} fs {x} {y} {p} {r} free lift = record {
  wrote = λ q end g e h.
      lifts_wrote ts l (0 ∷ 1 ∷ 2 ∷ []) fs x y p r lift e h (free_in q) (flagged_free fs q (free (q, end) g));
  holds = λ q end g e h.
      lifts_holds ts l (0 ∷ 1 ∷ 2 ∷ []) fs x y p r lift e h (free_in q) (flagged_free fs q (free (q, end) g));
}

pub body_carried :
    {d : Parsed} (v own : ℕ) {map : ℕ} {ts : List ℕ} (fs row : List Bool) {x y : List ℕ} {p : Pen} {a : Lifted}
    (inner : List ℕ) → length fs ≡ 8 → Free d fs → row ≡ set fs v false →
    Lifts ts map (4 ∷ 1 ∷ 2 ∷ []) (flagged row 8) x p y a → inner ≡ set a.tables v own → length inner ≡ 8 →
    IntoBody d v own map ts x p y (record { tables = inner; pen = a.pen })
body_carried v own {map} {ts} fs row {x} {y} {p} {a} inner flags free without lift held eight = record {
  wrote = λ q end g e h.
      lifts_wrote ts map (4 ∷ 1 ∷ 2 ∷ []) row x y p a lift e h (others_in v q)
      (ap (λ (bs : List Bool). flagged bs 8) without ∙ flagged_others fs v q flags (free (q, end) g));
  holds = λ q end g e h.
      rw held
      (hold_holds a.tables (lifted e p.operators (others_in v q)) v own
      (set_eight a.tables inner v own held eight)
      (lifts_holds ts map (4 ∷ 1 ∷ 2 ∷ []) row x y p a lift e h (others_in v q)
      (ap (λ (bs : List Bool). flagged bs 8) without ∙ flagged_others fs v q flags (free (q, end) g))));
}

-- The room after them

-- the row's own tables
pub own : (ts : List ℕ) → HoldsTables ts (tables_of ts)
own ts v h = refl

module _ {d : Parsed} {ts x y : List ℕ} {p : Pen} {r : Lifted} (q : Query) (end : ℕ) (g : d ≡ gives (q, end)) where
  pub into_branch_room :
      {l : ℕ} → IntoBranch d l ts x p y r → (j k : ℕ) → PenRoom p k → 16 + j ≤ k → PenRoom r.pen j
  into_branch_room {l} c j k h b =
      wrote_room (c.wrote q end g (tables_of ts) (own ts)) j k h
      (omega (
        arith,
        length_lifts (tables_of ts) l (0 ∷ 1 ∷ 2 ∷ []) p.operators (free_in q),
        length_free_in q,
      ))

  pub into_body_room :
      {v own map : ℕ} → IntoBody d v own map ts x p y r → (j k : ℕ) → PenRoom p k → 16 + j ≤ k → PenRoom r.pen j
  into_body_room {v} {map = map} c j k h b =
      wrote_room (c.wrote q end g (tables_of ts) (own ts)) j k h
      (omega (
        arith,
        length_lifts (tables_of ts) map (4 ∷ 1 ∷ 2 ∷ []) p.operators (others_in v q),
        length_others_in v q,
      ))
