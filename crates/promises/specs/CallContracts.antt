-- How the page cites a contract: not by a copy of its text, but by what Rattle itself reads off the source's `ensures`
-- for a caller. That reading is `Learnt` of the function: a statement on the arguments (`given`), the answer, and what
-- the arguments are at the end (`end`), each in the order of the source. `now` is what a slice holds.
--     Catalogued, Checked, Translated     what `catalogue::check`, `queries::check` and `translate` answer
--     Ran, Evaluated, Typed, Written      .. `run`, `evaluate`, `read` and `write`
--     Rows, Plan, Records, Text          .. where no refusal is answered
--     CatalogueAllows doc a              the contract of `catalogue::check` allows answer a to these bytes
--     QueryAllows query a                .. of `queries::check`
--     TranslateAllows query b a b'       .. of `translator::translate`, lent bytes b, to answer a and leave b'
--     RunAllows plan doc w a w'          .. of `runner::run`, lent cells w, to answer a and leave w'
--     EvaluateAllows query doc w a w'    .. of `evaluator::evaluate`
--     ReadAllows text b a b'             .. of `reader::read`, lent bytes b, to answer a and leave b'
--     WriteAllows query t a t'           .. of `wording::write`, lent bytes t, to answer a and leave t'
--     TellAllows query doc w k t n ..    .. of `printing::tell`, lent cells w, cells k and bytes t besides the plan's,
--                                        to answer n and leave plan', work', kept' and text'
use Rattle.std.specs.Prelude.{ℕ, ◌≡◌, List, ℤ, Result, Ok}
use contract.Lifetimes.{Lfts}
use denote.Triple.Clauses.{AtExit}
use borrow.Fn.Kinds.{Dens, ended_of}
use Rattle.codes.specs.declared.refusals.Refusal.{Refusal}
use Rattle.catalogue.proofs.check.Reads as CatalogueCheck
use Rattle.catalogue.proofs.check.Kinds as CatalogueKinds
use Rattle.queries.proofs.check.Reads as QueryCheck
use Rattle.queries.proofs.check.Kinds as QueryKinds
use Rattle.translator.specs.declared.Translated.{Translated as Made}
use Rattle.translator.proofs.translate.Reads as Translate
use Rattle.translator.proofs.translate.Kinds as TranslateKinds
use Rattle.running.specs.declared.Tables.{Tables}
use Rattle.runner.proofs.run.Reads as Run
use Rattle.runner.proofs.run.Kinds as RunKinds
use Rattle.evaluator.specs.declared.Evaluated.{Evaluated as Given}
use Rattle.evaluator.proofs.evaluate.Reads as Evaluate
use Rattle.evaluator.proofs.evaluate.Kinds as EvaluateKinds
use Rattle.reader.specs.declared.Typed.{Typed as Recorded}
use Rattle.reader.proofs.read.Reads as Read
use Rattle.reader.proofs.read.Kinds as ReadKinds
use Rattle.wording.proofs.write.Reads as Write
use Rattle.wording.proofs.write.Kinds as WriteKinds
use Rattle.printing.proofs.tell.Reads as Tell
use Rattle.printing.proofs.tell.Kinds as TellKinds

-- the answers: what was asked for, or a refusal
abbrev pub Catalogued : Type 0
Catalogued = Result ℕ Refusal

abbrev pub Rows : ℕ → Catalogued
Rows n = Ok n

abbrev pub Checked : Type 0
Checked = Result ℕ Refusal

abbrev pub Translated : Type 0
Translated = Result Made Refusal

abbrev pub Plan : ℕ → ℕ → Translated
Plan n m = Ok (record { operators = n; bytes = m })

abbrev pub Ran : Type 0
Ran = Result Tables Refusal

abbrev pub Evaluated : Type 0
Evaluated = Result Given Refusal

abbrev pub Typed : Type 0
Typed = Result Recorded Refusal

abbrev pub Records : ℕ → ℕ → Typed
Records n m = Ok (record { records = n; bytes = m })

abbrev pub Written : Type 0
Written = Result ℕ Refusal

abbrev pub Text : ℕ → Written
Text n = Ok n

pub record CatalogueAllows (doc : List ℕ) (answer : Catalogued) : Type 0 where
  pub lifetimes : Lfts 1
  pub given : Dens lifetimes CatalogueKinds.ps
  pub end : AtExit (ended_of 1 CatalogueKinds.ps CatalogueKinds.r) lifetimes
  pub contract : CatalogueCheck.Learnt lifetimes given answer end
  pub of_doc : given.0.now ≡ doc

pub record QueryAllows (query : List ℕ) (answer : Checked) : Type 0 where
  pub lifetimes : Lfts 1
  pub given : Dens lifetimes QueryKinds.ps
  pub end : AtExit (ended_of 1 QueryKinds.ps QueryKinds.r) lifetimes
  pub contract : QueryCheck.Learnt lifetimes given answer end
  pub of_query : given.0.now ≡ query

pub record TranslateAllows (query bytes : List ℕ) (answer : Translated) (bytes' : List ℕ) : Type 0 where
  pub lifetimes : Lfts 2
  pub given : Dens lifetimes TranslateKinds.ps
  pub end : AtExit (ended_of 2 TranslateKinds.ps TranslateKinds.r) lifetimes
  pub contract : Translate.Learnt lifetimes given answer end
  pub of_query : given.0.now ≡ query
  pub lent : given.1.0.now ≡ bytes
  pub left : end.1.0.now ≡ bytes'

pub record RunAllows (plan doc : List ℕ) (work : List ℤ) (answer : Ran) (work' : List ℤ) : Type 0 where
  pub lifetimes : Lfts 3
  pub given : Dens lifetimes RunKinds.ps
  pub end : AtExit (ended_of 3 RunKinds.ps RunKinds.r) lifetimes
  pub contract : Run.Learnt lifetimes given answer end
  pub of_plan : given.0.now ≡ plan
  pub of_doc : given.1.0.now ≡ doc
  pub lent : given.1.1.0.now ≡ work
  pub left : end.1.1.0.now ≡ work'

pub record EvaluateAllows (query doc : List ℕ) (work : List ℤ) (answer : Evaluated) (work' : List ℤ) : Type 0 where
  pub lifetimes : Lfts 3
  pub given : Dens lifetimes EvaluateKinds.ps
  pub end : AtExit (ended_of 3 EvaluateKinds.ps EvaluateKinds.r) lifetimes
  pub contract : Evaluate.Learnt lifetimes given answer end
  pub of_query : given.0.now ≡ query
  pub of_doc : given.1.0.now ≡ doc
  pub lent : given.1.1.0.now ≡ work
  pub left : end.1.1.0.now ≡ work'

pub record ReadAllows (text query : List ℕ) (answer : Typed) (query' : List ℕ) : Type 0 where
  pub lifetimes : Lfts 2
  pub given : Dens lifetimes ReadKinds.ps
  pub end : AtExit (ended_of 2 ReadKinds.ps ReadKinds.r) lifetimes
  pub contract : Read.Learnt lifetimes given answer end
  pub of_text : given.0.now ≡ text
  pub lent : given.1.0.now ≡ query
  pub left : end.1.0.now ≡ query'

pub record WriteAllows (query text : List ℕ) (answer : Written) (text' : List ℕ) : Type 0 where
  pub lifetimes : Lfts 2
  pub given : Dens lifetimes WriteKinds.ps
  pub end : AtExit (ended_of 2 WriteKinds.ps WriteKinds.r) lifetimes
  pub contract : Write.Learnt lifetimes given answer end
  pub of_query : given.0.now ≡ query
  pub lent : given.1.0.now ≡ text
  pub left : end.1.0.now ≡ text'

pub record TellAllows (query doc : List ℕ) (work kept : List ℤ) (text : List ℕ) (n : ℕ) (plan' : List ℕ)
    (work' kept' : List ℤ) (text' : List ℕ) : Type 0 where
  pub lifetimes : Lfts 6
  pub given : Dens lifetimes TellKinds.ps
  pub end : AtExit (ended_of 6 TellKinds.ps TellKinds.r) lifetimes
  pub contract : Tell.Learnt lifetimes given n end
  pub of_query : given.0.now ≡ query
  pub of_doc : given.1.0.now ≡ doc
  pub lent_cells : given.1.1.1.0.now ≡ work
  pub lent_kept : given.1.1.1.1.0.now ≡ kept
  pub lent_text : given.1.1.1.1.1.0.now ≡ text
  pub left_plan : end.1.1.0.now ≡ plan'
  pub left_cells : end.1.1.1.0.now ≡ work'
  pub left_kept : end.1.1.1.1.0.now ≡ kept'
  pub left_text : end.1.1.1.1.1.0.now ≡ text'
