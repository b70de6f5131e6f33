-- Words of the promises (document 01, 'What the contracts owe'): what passes its checks, what it then means, and what
-- an answer says. Crate `promises` states the promises in them.
--     Passed query doc        a query and a catalogue that pass their checks
--     means i, stands i       .. the items that the query means; the most items that stand at once
--     PlanPassed bytes doc    a plan and a catalogue that pass their checks
--     makes i, fills i        .. the tables that the operators make; the cells that they fill
--     evaluation i lent       .. the evaluation in the lent cells
--     the_run i lent           .. the run in the lent cells
--     Refused n a             answer a is refusal n, at some place
--     Cleared z call          a call leaves as much as it was lent, all z where it refuses
--     StoodTables ts lent left ..   what a run's answer says of the lent cells, where its tables are ts
--     items_at left start n    the item column of n rows of three cells from cell start on
--     Alike a r e             a run and an evaluation both answer 7, and a fails; or both give the items that a gives
--     HeldOutcome o a left    an answer and a slice in hand, of which a contract says that they are those of outcome o
--     SixBelow k call         6 exactly where the smaller of lent cells and 65,536 is below k; else one answer
use Rattle.std.specs.Prelude.{ℕ, ◌-◌, ◌*◌, ◌≤◌, ◌<◌, ◌≡◌, List, [], ◌∷◌, map, ℤ, pos, length, take, replicate}
use Rattle.laws.specs.Lists.{gather}
use Rattle.laws.specs.Rows.{rows_at, padded, flat}
use Rattle.laws.specs.Attempt.{Attempt, fails, reads, Work}
use Rattle.laws.specs.Attempt as Attempt
use Rattle.meaning.specs.Catalogue.{Catalogue, catalogue_read}
use Rattle.meaning.specs.World.{world_of}
use Rattle.meaning.specs.Query.{Read, query_read}
use Rattle.meaning.specs.Meaning.{eval}
use Rattle.meaning.specs.Counted.{Standing, evaluate}
use Rattle.meaning.specs.Plan.{Placed, plan_read}
use Rattle.meaning.specs.Operators.{Table, column}
use Rattle.meaning.specs.Run.{run, Filled, running}
use Rattle.meaning.specs.Calls.{Answer, gives, refused, Outcome, room, last_table}
use Rattle.agreement.specs.Room.{standing, filling}

pub record Passed (query doc : List ℕ) : Type 0 where
  pub read : Read
  pub query_reads : query_read query ≡ reads read
  pub catalogue : Catalogue
  pub doc_reads : catalogue_read doc ≡ reads catalogue

pub record PlanPassed (bytes doc : List ℕ) : Type 0 where
  pub placed : List Placed
  pub plan_reads : plan_read bytes ≡ reads placed
  pub catalogue : Catalogue
  pub doc_reads : catalogue_read doc ≡ reads catalogue

module _ {query doc : List ℕ} (i : Passed query doc) where
  abbrev pub means : Attempt (List ℤ)
  means = eval (world_of i.catalogue) (λ v. []) i.read.tree

  abbrev pub stands : ℕ
  stands = standing (world_of i.catalogue) (λ v. []) i.read.tree

  abbrev pub evaluation : ℕ → Work Standing
  evaluation lent = evaluate (world_of i.catalogue) (room lent) (λ v. []) i.read.tree

module _ {bytes doc : List ℕ} (i : PlanPassed bytes doc) where
  abbrev pub makes : Attempt (List Table)
  makes = run (world_of i.catalogue) (map (λ (p : Placed). p.op) i.placed) []

  abbrev pub fills : ℕ
  fills = filling (world_of i.catalogue) i.placed []

  abbrev pub the_run : ℕ → Work Filled
  the_run lent = running (world_of i.catalogue) (room lent) i.placed [] 0

abbrev pub Refused : ℕ → Answer → Type 0
Refused n a = (place : ℕ) × (a ≡ refused n place)

pub record Cleared {A : Type 0} (z : A) (call : ℕ → Outcome A) : Type 0 where
  pub long : (lent : ℕ) → length (call lent).left ≡ lent
  pub zeroed : (lent n place : ℕ) → (call lent).answer ≡ refused n place → (call lent).left ≡ replicate lent z

-- all tables stand end to end, zeros after them; the answer names the last one's start and rows, and the cells filled.
-- A last table without rows starts at the cells filled
pub record StoodTables (ts : List Table) (lent : ℕ) (left : List ℤ) (start rows filled : ℕ) : Type 0 where
  pub cells : left ≡ padded (pos 0) lent (gather flat ts)
  pub count : filled ≡ length (gather flat ts)
  pub begins : start ≡ filled - rows * 3
  pub last : rows_at left start rows 3 ≡ last_table ts

unfoldable pub items_at : List ℤ → ℕ → ℕ → List ℤ
items_at left start rows = column (rows_at left start rows 3) 2

pub data Alike (a : Attempt (List ℤ)) (r e : Outcome ℤ) : Type 0 where
  both_fail : a ≡ fails → Refused 7 r.answer → Refused 7 e.answer → Alike a r e
  both_give : (items : List ℤ) (start filled count : ℕ) → a ≡ Attempt.gives items
      → r.answer ≡ gives (start ∷ length items ∷ filled ∷ []) → e.answer ≡ gives (length items ∷ count ∷ [])
      → items_at r.left start (length items) ≡ items → take (length items) e.left ≡ items → Alike a r e

pub record HeldOutcome {A : Type 0} (o : Outcome A) (answer : Answer) (left : List A) : Type 0 where
  pub answers : answer ≡ o.answer
  pub leaves : left ≡ o.left

pub record SixBelow (count : ℕ) (call : ℕ → Outcome ℤ) : Type 0 where
  pub below : (lent : ℕ) → room lent < count → Refused 6 (call lent).answer
  pub enough : (lent : ℕ) → count ≤ room lent → ¬ (Refused 6 (call lent).answer)
  pub one : (lent lent' : ℕ) → count ≤ room lent → count ≤ room lent' → (call lent).answer ≡ (call lent').answer
