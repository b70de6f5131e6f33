-- Answers one after another.
--     operand_read                    an operand that is read, with its record added
--     part_read, part_stuck           an operand or a part that is read; one that is stuck
--     part_by, halts_by               the same answer of an equal definition
--     part_within                     an answer that says more
--     part_up                         what the exit of a `?` hands up
--     past_part, no_part              what an answer says, by case
--     stuck_then, off_then, past_then     a reader behind one that is stuck, or past what it reads
--     goes_then                       .. past an operand or a part
--     counted_part                    the word behind a part, with its record bytes
use Prim.Native.Nat.{ℕ, ◌≤◌}
use mathlib.Core.Path.{◌≡◌, sym, ◌∙◌}
use mathlib.Core.List.{List}
use native.Mathlib.Omega.{arith}
use lib.ListN.{length, drop}
use Rattle.std.specs.Prelude.{Result, Ok, Err}
use Rattle.std.specs.Result.{IsErrAnd}
use Rattle.numerals.specs.declared.Read.{Read}
use Rattle.numerals.specs.declared.Stuck.{Stuck}
use Rattle.numerals.specs.Answers.{read_place}
use Rattle.parsing.specs.declared.Next.{Next}
use Rattle.parsing.specs.Reader.{Res, ok, stuck, Reader, then, Operand, went}
use Rattle.spelling.specs.declared.Before.{Before}
use Rattle.spelling.specs.Answers.{Reads, ReadsValue, value_told}
use Rattle.spelling.proofs.Answering.{handed_up}
use Rattle.recording.specs.Recorded.{most_bytes, Adds}
use Rattle.operands.specs.declared.Part.{Part}
use Rattle.operands.specs.Going.{Goes, Halts, PartIs, PartGoes, ReadsOperand}
use Rattle.operands.specs.Going.{operand_value, part_value, counted_read}

goes_by : {A : Type 0} {text : List ℕ} {made : ℕ} {def other : Res A} {value : List ℕ → A} {keeps : List ℕ → Type 0}
    {at to : ℕ}
    → other ≡ def
    → Goes text made def value keeps at to
    → Goes text made other value keeps at to
goes_by e h =
    record {
      bytes = h.bytes;
      means = e ∙ h.means;
      inside = h.inside;
      grows = h.grows;
      within = h.within;
      kept = h.kept;
    }

pub halts_by : {A : Type 0} {text : List ℕ} {def other : Res A} {p : ℕ} → other ≡ def → Halts text def p
    → Halts text other p
halts_by e h = record { means = e ∙ h.means; inside = h.inside }

module _ {text before after : List ℕ} {made at to : ℕ} {def : Res Operand} where
  pub operand_read : (k : Before) (bs : List ℕ) → def ≡ ok (operand_value k bs) (drop at text) → at ≤ length text
      → Adds bs made before after to
      → ReadsOperand text before after made def (Ok (record { behind = k; next = at; made = to }))
  unfolding PartIs
  operand_read k bs e h a =
      record {
        goes =
            record {
              bytes = bs;
              means = e;
              inside = h;
              grows = a.grows;
              within = a.within;
              kept = record { adds = a.adds };
            };
      }

module _ {A B : Type 0} {value : A → List ℕ → B} {text : List ℕ} {made : ℕ} where
  pub part_read : {at to : ℕ} {def : Res B} (keeps : ℕ → List ℕ → Type 0) {n : A}
      → Goes text made def (value n) (keeps to) at to
      → PartGoes value text made def keeps (Ok (record { behind = n; next = at; made = to }))
  unfolding PartIs
  part_read keeps h = record { goes = h }

  pub part_stuck : {k : Stuck} {def : Res B} (keeps : ℕ → List ℕ → Type 0) → Halts text def k.0
      → PartGoes value text made def keeps (Err k)
  unfolding PartIs
  part_stuck keeps h = record { goes = h }

  pub part_by : {keeps : ℕ → List ℕ → Type 0} {def other : Res B} (r : Result (Part A) Stuck) → other ≡ def
      → PartGoes value text made def keeps r
      → PartGoes value text made other keeps r
  unfolding PartIs
  part_by (Ok p) e h = record { goes = goes_by e h.goes }
  part_by (Err k) e h = record { goes = halts_by e h.goes }

  pub part_within : {keeps : ℕ → List ℕ → Type 0} {def : Res B} (from : ℕ) (keeps' : ℕ → List ℕ → Type 0)
      (r : Result (Part A) Stuck)
      → from ≤ made
      → ((to : ℕ) (bs : List ℕ) → keeps to bs → keeps' to bs)
      → PartGoes value text made def keeps r
      → PartGoes value text from def keeps' r
  unfolding PartIs
  part_within from keeps' (Ok p) l f h =
      let g = h.goes in
      record {
        goes =
            record {
              bytes = g.bytes;
              means = g.means;
              inside = g.inside;
              grows = omega (arith, g.grows);
              within = g.within;
              kept = f p.made g.bytes g.kept;
            };
      }
  part_within from keeps' (Err k) l f h = record { goes = h.goes }

  -- what the exit of a `?` hands up
  pub part_up : {k : Stuck} {def : Res B} (keeps : ℕ → List ℕ → Type 0) (r : Result (Part A) Stuck)
      → IsErrAnd r (λ (y : Stuck). y ≡ k)
      → Halts text def k.0
      → PartGoes value text made def keeps r
  part_up keeps r h s = rw (handed_up r h) (part_stuck keeps s)

  module _ {keeps : ℕ → List ℕ → Type 0} {def : Res B} {r : Result (Part A) Stuck}
      (h : PartGoes value text made def keeps r) where
    is_part : (q : Result (Part A) Stuck) → r ≡ q → PartIs value text made def keeps q
    is_part q e = rw (sym e) h.goes

    pub past_part : {p : Part A} → r ≡ Ok p → Goes text made def (value p.behind) (keeps p.made) p.next p.made
    unfolding PartIs
    past_part {p} e = is_part (Ok p) e

    pub no_part : {k : Stuck} → r ≡ Err k → Halts text def k.0
    unfolding PartIs
    no_part {k} e = is_part (Err k) e

module _ {A B : Type 0} {text : List ℕ} {m : Res A} (f : A → Reader B) {p : ℕ} where
  pub stuck_then : Halts text m p → Halts text (then m f) p
  stuck_then h = record { means = rw h.means; inside = h.inside }

  pub off_then : Reads text m (stuck (drop p text)) p → Halts text (then m f) p
  off_then h = record { means = rw h.means; inside = h.inside }

  pub past_then : {a : A} → Reads text m (ok a (drop p text)) p → then m f ≡ f a (drop p text)
  past_then h = rw h.means

  pub goes_then : {made to : ℕ} {value : List ℕ → A} {keeps : List ℕ → Type 0} (g : Goes text made m value keeps p to)
      → then m f ≡ f (value g.bytes) (drop p text)
  goes_then g = rw g.means

pub counted_part : {text : List ℕ} {made to : ℕ} (keeps : ℕ → List ℕ → Type 0) (bs : List ℕ) {def : Res Next}
    (r : Result (Read Next) Stuck)
    → ReadsValue text r def
    → made ≤ to
    → to ≤ most_bytes
    → keeps to bs
    → PartGoes part_value text made (then def (λ m. went bs m)) keeps (counted_read r to)
unfolding PartIs value_told read_place
counted_part keeps bs (Ok n) h l m k =
    record {
      goes = record { bytes = bs; means = rw h.means; inside = h.inside; grows = l; within = m; kept = k };
    }
counted_part keeps bs (Err k') h l m k = record { goes = record { means = rw h.means; inside = h.inside } }
