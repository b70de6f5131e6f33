-- A written plan that reads back (document 01, 'Query records' and 'Plan operators').
--     ClosedFields q vs   q is closed under the variables vs, and its fields are in their ranges
--     widths_of ps         the widths of the tables of operators ps
--     places at os ws     operators with the offsets where their records start, from at on, and with widths ws
--     PlanBack os ps      the plan os is sound, its bytes are bytes, and they read as ps, which are os in place
--     TranslatedPlan ..   the first m lent bytes are the plan of the query, which has n operators, at most 512
use Rattle.std.specs.Prelude.{ℕ, ◌+◌, ◌≤◌, ◌≡◌, List, [], ◌∷◌, ◌++◌, map, length, take}
use Rattle.laws.specs.Attempt.{gives, reads}
use Rattle.meaning.specs.Query.{Query, Read, read, query_read}
use Rattle.meaning.specs.Plan.{Op, Placed, plan_read}
use Rattle.meaning.specs.Translation.{plan}
use Rattle.meaning.specs.Written.{operator_bytes, written}
use Rattle.meaning.specs.Calls.{translate_call}
use Rattle.theorems.specs.Closed.{Closed}
use Rattle.theorems.specs.PlanBytes.{Byte}
use Rattle.theorems.specs.PlanFields.{WidthFits, Fields}
use Rattle.theorems.specs.PlanWidths.{Every, widths}

abbrev pub widths_of : List Placed → List ℕ
widths_of ps = map (λ (p : Placed). p.width) ps

pub record ClosedFields (q : Query) (vs : List ℕ) : Type 0 where
  pub closed : Closed q vs
  pub fields : Fields q

-- operators with their offsets and the widths of their tables
unfoldable pub places : ℕ → List Op → List ℕ → List Placed
places at [] ws = []
places at (o ∷ os) [] = []
places at (o ∷ os) (w ∷ ws) = record { at = at; op = o; width = w } ∷ places (at + length (operator_bytes o)) os ws

-- the plan of an accepted query: it is sound, its bytes are bytes, and they read back as its operators
pub record PlanBack (os : List Op) (ps : List Placed) : Type 0 where
  pub front : List ℕ
  pub sound : widths [] os ≡ gives (front ++ (3 ∷ []))
  pub each : Every WidthFits (front ++ (3 ∷ []))
  pub bytes : Every Byte (written os)
  pub room : length (written os) ≤ 6144
  pub back : plan_read (written os) ≡ reads ps
  pub ops : map (λ (p : Placed). p.op) ps ≡ os
  pub placed : ps ≡ places 0 os (front ++ (3 ∷ []))

pub record TranslatedPlan (query : List ℕ) (lent n m : ℕ) : Type 0 where
  pub read : Read
  pub accepted : query_read query ≡ reads read
  pub operators : n ≡ length (plan read.tree)
  pub within : n ≤ 512
  pub bytes : take m (translate_call query lent).left ≡ written (plan read.tree)
