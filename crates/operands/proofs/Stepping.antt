-- Steps behind an operand.
--     root_on                 the parenthesis behind a fragment's number
--     step_follows            one step, with its record and the word behind it
--     Runs                    the loop so far: what the definition gives of ys, its rest gives of other bytes
--     steps_off               no step comes
--     steps_on                a step, then what the readers of shorter texts give
--     steps_zero, steps_suc   those readers
--     run_start, run_ends, run_stuck, run_more     the loop over a chain
use Prim.Native.Nat.{ℕ, zero, suc, ◌-◌, ◌≤◌}
use mathlib.Core.Path.{◌≡◌, refl, sym, ◌∙◌}
use mathlib.Core.List.{List, ◌++◌}
use mathlib.Core.Bool.{Bool}
use native.Mathlib.Omega.{arith}
use lib.ListN.{length, drop}
use borrow.Author.Tests.{ne_eqb, eq-eqb}
use Rattle.codes.specs.declared.Axis.{Axis}
use Rattle.codes.specs.declared.Test.{Test}
use Rattle.grammar.specs.Words.{Kind, symbol, word, close_sign}
use Rattle.grammar.specs.Records.{record_qr, record_qx}
use Rattle.parsing.specs.declared.Ends.{Ends}
use Rattle.parsing.specs.declared.Next.{Next}
use Rattle.parsing.specs.declared.Step.{Step}
use Rattle.parsing.specs.Reader.{Res, ok, stuck, Reader, then, Went, went, operand, read_word, read_step, read_next}
use Rattle.parsing.specs.Reader.{test_kind, tightness, Readers, readers, more_steps}
use Rattle.std.specs.Prelude.{Result, Ok, Err}
use Rattle.numerals.specs.declared.Read.{Read}
use Rattle.numerals.specs.declared.Stuck.{Stuck}
use Rattle.spelling.specs.Answers.{Reads, ReadsValue}
use Rattle.recording.specs.Recorded.{most_bytes, Inserts}
use Rattle.operands.specs.declared.Part.{Part}
use Rattle.operands.specs.Going.{Goes, Halts, PartGoes, Putting, part_value, counted_read}
use Rattle.operands.specs.Single.{root_close, one_step}
use Rattle.operands.proofs.Follows.{part_by, past_then, counted_part, part_read, part_stuck, halts_by}

pub root_none : (k : ℕ) (t : List ℕ) → k ≡ 0 → root_close k t ≡ stuck t
root_none k t e = rw (eq-eqb k 0 e)

pub root_on : (k : ℕ) (t : List ℕ) → (k ≡ 0 → ⊥)
    → root_close k t ≡ then (read_word word close_sign t) (λ closed. operand (record_qr k) symbol)
root_on k t h = rw (ne_eqb k 0 h)

pub step_follows : (text before after : List ℕ) (start made to at p : ℕ) (e : Ends) (c : Bool) (k : Kind) (x : Axis)
    (t : Test) (ys : List ℕ) (next : Result (Read Next) Stuck) (r : Result (Part Next) Stuck)
    → Reads text (read_step (drop at text)) (ok (record { axis = x; test = t }) (drop p text)) p
    → Inserts (record_qx x t) start made before after to
    → k ≡ test_kind t
    → ReadsValue text next (read_next e c k (drop p text))
    → r ≡ counted_read next to
    → PartGoes part_value text made (one_step e c ys (drop at text)) (Putting before after start made ys) r
step_follows text before after start made to at p e c k x t ys next r s i same n told =
    let f : Step → Reader Went =
    λ s u.
    then (read_next e c (test_kind s.test) u) (λ m. went (record_qx s.axis s.test ++ ys) m) in
    let reads : ReadsValue text next (read_next e c (test_kind t) (drop p text)) = rw (sym same) n in
    rw told
    (part_by (counted_read next to) (past_then f s)
    (counted_part (Putting before after start made ys) (record_qx x t ++ ys) next reads i.grows i.within
    (record { puts = λ xs from held. i.inserts xs ys from held })))

pub record Runs (before after : List ℕ) (start made to : ℕ) (ys : List ℕ) (def : Res Went) (more : List ℕ → Res Went)
    : Type 0 where
  pub bytes : List ℕ
  pub means : def ≡ more bytes
  pub put : Putting before after start made ys to bytes

module _ (rd : Readers) (e : Ends) (c : Bool) (xs : List ℕ) (n : Next) (t : List ℕ) where
  pub steps_off : (tightness n ≡ 4 → ⊥) → more_steps rd e c xs n t ≡ ok (record { made = xs; next = n }) t
  steps_off h = rw (ne_eqb (tightness n) 4 h)

  next_by : (bs : List ℕ) (m : Res Next)
      → then m (λ n. rd.steps e c bs n) ≡ then (then m (λ n. went bs n)) (λ w. rd.steps e c w.made w.next)
  next_by bs (ok n u) = refl
  next_by bs (stuck u) = refl

  step_by : (m : Res Step)
      → then m
      (λ s u.
      then (read_next e c (test_kind s.test) u)
      (λ m. rd.steps e c (record_qx s.axis s.test ++ xs) m))
      ≡ then
      (then m
      (λ s u.
      then (read_next e c (test_kind s.test) u)
      (λ m. went (record_qx s.axis s.test ++ xs) m)))
      (λ w. rd.steps e c w.made w.next)
  step_by (ok s u) =
      next_by (record_qx s.axis s.test ++ xs) (read_next e c (test_kind s.test) u)
  step_by (stuck u) = refl

  pub steps_on : tightness n ≡ 4
      → more_steps rd e c xs n t ≡ then (one_step e c xs t) (λ w. rd.steps e c w.made w.next)
  steps_on h = rw (eq-eqb (tightness n) 4 h) (step_by (read_step t))

pub steps_then : (rd : Readers) (e : Ends) (c : Bool) (w : Went) (t : List ℕ) {m : Res Went} → m ≡ ok w t
    → then m (λ w. rd.steps e c w.made w.next) ≡ rd.steps e c w.made w.next t
steps_then rd e c w t h = rw h

module _ (e : Ends) (c : Bool) (xs : List ℕ) (n : Next) (t : List ℕ) where
  pub steps_zero : (l : ℕ) → l ≡ 0 → (readers l).steps e c xs n t ≡ stuck t
  steps_zero zero h = refl
  steps_zero (suc l) h = absurd (omega arith)

  pub steps_suc : (l : ℕ) → (l ≡ 0 → ⊥) → (readers l).steps e c xs n t ≡ more_steps (readers (l - 1)) e c xs n t
  steps_suc zero h = absurd (h refl)
  steps_suc (suc l) h = let e : suc l - 1 ≡ l = omega arith in rw e

-- The loop over a chain: its start, one more turn, and its ends
pub run_start : {bytes ys : List ℕ} {start made : ℕ} (more : List ℕ → Res Went)
    → Runs bytes bytes start made made ys (more ys) more
run_start {bytes} {ys} more =
    record { bytes = ys; means = refl; put = record { puts = λ xs from held. held } }

module _ {text before after : List ℕ} {start made to : ℕ} {ys : List ℕ} {def : Res Went} {more : List ℕ → Res Went}
    (run : Runs before after start made to ys def more) where
  pub run_ends : {at : ℕ} (n : Next) → ((zs : List ℕ) → more zs ≡ ok (part_value n zs) (drop at text))
      → at ≤ length text
      → made ≤ to
      → to ≤ most_bytes
      → PartGoes part_value text made def (Putting before after start made ys)
      (Ok (record { behind = n; next = at; made = to }))
  run_ends n f h l m =
      part_read (Putting before after start made ys)
      (record {
        bytes = run.bytes;
        means = run.means ∙ f run.bytes;
        inside = h;
        grows = l;
        within = m;
        kept = run.put;
      })

  pub run_stuck : (keeps : ℕ → List ℕ → Type 0) {k : Stuck} (r : Result (Part Next) Stuck) → r ≡ Err k
      → ((zs : List ℕ) → Halts text (more zs) k.0)
      → PartGoes part_value text made def keeps r
  run_stuck keeps r e f = rw e (part_stuck keeps (halts_by run.means (f run.bytes)))

  pub run_more : {last : List ℕ} {at next : ℕ} {n : Next} (one more' : List ℕ → Res Went)
      → ((zs : List ℕ) → Goes text to (one zs) (part_value n) (Putting after last start to zs next) at next)
      → ((zs ws : List ℕ) → one zs ≡ ok (part_value n ws) (drop at text) → more zs ≡ more' ws)
      → Runs before last start made next ys def more'
  run_more one more' g f =
      let turn = g run.bytes in
      record {
        bytes = turn.bytes;
        means = run.means ∙ f run.bytes turn.bytes turn.means;
        put =
            record { puts = λ xs from held. turn.kept.puts xs from (run.put.puts xs from held) };
      }
