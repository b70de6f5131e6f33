-- What the operators of a plan come to, and what they leave in the cells (document 01, 'Room').
--     TellsFilled f cells start rows filled     the tables f stand in the cells from 0 on and fill so many of them; the
--                            last starts there and has so many rows
--     Walks o cells r        r is the outcome o of the operators; where all are done, their tables stand in the cells
--     operators_in m          the operators that a reading gives; none where it refuses
--     operators_of bs         the operators of a plan that is sound
--     AcceptedPlan bs        it is
--     carried_out plan doc rows room      the outcome of the operators of a plan over a catalogue of so many rows
--     refused_at u at         the refusal of an operator at an offset, which laid no table for the reason u
use Rattle.std.specs.Prelude.{ℕ, ◌*◌, ◌-◌, ◌≤◌, ◌≡◌, List, [], ℤ, length, take, Result, Ok, Err}
use Rattle.codes.specs.declared.refusals.Stop.{Stop}
use Rattle.laws.specs.Attempt.{Reading, refuses, reads, Work, full, failed, done}
use Rattle.laws.specs.Lists.{gather}
use Rattle.laws.specs.Rows.{flat}
use Rattle.meaning.specs.Calls.{last_table}
use Rattle.meaning.specs.Catalogue.{catalogue_of}
use Rattle.meaning.specs.Plan.{Placed, plan_read}
use Rattle.meaning.specs.Run.{Filled, running}
use Rattle.meaning.specs.World.{world_of}
use Rattle.tables.specs.declared.Unlaid.{Unlaid}
use Rattle.tables.specs.declared.Unlaid.TheVariants.{Full, Fails}
use Rattle.running.specs.declared.Tables.{Tables}

pub record TellsFilled (f : Filled) (cells : List ℤ) (start rows filled : ℕ) : Type 0 where
  pub count : filled ≡ f.filled
  pub last : rows ≡ length (last_table f.tables)
  pub from : start ≡ filled - rows * 3
  pub tables : take filled cells ≡ gather flat f.tables
  pub within : filled ≤ length cells

unfoldable pub Walks : Work Filled → List ℤ → Result Tables Stop → Type 0
Walks o cells (Ok t) = (f : Filled) × (o ≡ done f) × TellsFilled f cells t.start t.rows t.filled
Walks o cells (Err (Stop.Full p)) = o ≡ full p
Walks o cells (Err (Stop.Failed p)) = o ≡ failed p

unfoldable pub operators_in : Reading (List Placed) → List Placed
operators_in (refuses n p) = []
operators_in (reads ps) = ps

abbrev pub operators_of : List ℕ → List Placed
operators_of bs = operators_in (plan_read bs)

abbrev pub AcceptedPlan : List ℕ → Type 0
AcceptedPlan bs = plan_read bs ≡ reads (operators_of bs)

abbrev pub carried_out : List ℕ → List ℕ → (rows room : ℕ) → Work Filled
carried_out plan doc rows room = running (world_of (catalogue_of doc rows)) room (operators_of plan) [] 0

abbrev pub refused_at : Unlaid → ℕ → Stop
refused_at Full at = Stop.Full at
refused_at Fails at = Stop.Failed at
