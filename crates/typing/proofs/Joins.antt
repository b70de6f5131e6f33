-- Parts one after another, and what the array holds of both.
--     part_within        what a function adds behind `made`, as its caller promises it: its record bytes by `make`, at
--                        `keeps'`, of the definition that makes them so
--     adding_on          bytes added behind bytes that were added
--     adding_behind      bytes added behind an operation that was put in before others
--     putting_added      bytes put in the place of those that were added
--     ended_within       .. of a part as an operand
use Prim.Native.Nat.{ℕ, ◌≤◌}
use mathlib.Core.List.{List, ◌++◌, append_assoc}
use native.Mathlib.Omega.{arith}
use Rattle.std.specs.Prelude.{Result, Ok, Err}
use Rattle.grammar.specs.Words.{symbol}
use Rattle.numerals.specs.declared.Stuck.{Stuck}
use Rattle.parsing.specs.declared.Next.{Next}
use Rattle.parsing.specs.Reader.{Res, then, Went, went, operand}
use Rattle.recording.specs.Recorded.{Inserts}
use Rattle.operands.specs.declared.Part.{Part}
use Rattle.operands.specs.Going.{PartIs, PartGoes, Adding, Putting, operand_value, part_value}
use Rattle.typing.specs.Cycle.{ended_read}

module _ {text : List ℕ} {made : ℕ} {keeps : ℕ → List ℕ → Type 0} {def : Res Went} (make : List ℕ → List ℕ) (from : ℕ)
    (keeps' : ℕ → List ℕ → Type 0) where
  pub part_within : (r : Result (Part Next) Stuck) → from ≤ made
      → ((to : ℕ) (bs : List ℕ) → keeps to bs → keeps' to (make bs))
      → PartGoes part_value text made def keeps r
      → PartGoes part_value text from (then def (λ w. went (make w.made) w.next)) keeps' r
  unfolding PartIs
  part_within (Ok p) l f h =
      let g = h.goes in
      record {
        goes =
            record {
              bytes = make g.bytes;
              means = rw g.means;
              inside = g.inside;
              grows = omega (arith, g.grows);
              within = g.within;
              kept = f p.made g.bytes g.kept;
            };
      }
  part_within (Err s) l f h =
      record { goes = record { means = rw h.goes.means; inside = h.goes.inside } }

  pub ended_within : (r : Result (Part Next) Stuck) → from ≤ made
      → ((to : ℕ) (bs : List ℕ) → keeps to bs → keeps' to (make bs))
      → PartGoes part_value text made def keeps r
      → PartGoes operand_value text from (then def (λ w. operand (make w.made) symbol)) keeps' (ended_read r)
  unfolding PartIs
  ended_within (Ok p) l f h =
      let g = h.goes in
      record {
        goes =
            record {
              bytes = make g.bytes;
              means = rw g.means;
              inside = g.inside;
              grows = omega (arith, g.grows);
              within = g.within;
              kept = f p.made g.bytes g.kept;
            };
      }
  ended_within (Err s) l f h =
      record { goes = record { means = rw h.goes.means; inside = h.goes.inside } }

module _ {before between after : List ℕ} {made m to : ℕ} {ys bs : List ℕ} where
  pub adding_on : Adding before between made m ys → Adding between after m to bs
      → Adding before after made to (ys ++ bs)
  adding_on h k = record { adds = λ xs r. rw append_assoc at (k.adds (xs ++ ys) (h.adds xs r)) }

  pub putting_added : Adding before between made m ys → Putting between after made m ys to bs
      → Adding before after made to bs
  putting_added h k = record { adds = λ xs r. k.puts xs r.counts (h.adds xs r) }

pub adding_behind : {part before between after : List ℕ} {start made m to : ℕ} (ys : List ℕ) {bs : List ℕ}
    → Inserts part start made before between m
    → Adding between after m to bs
    → Putting before after start made ys to (part ++ (ys ++ bs))
adding_behind {part} {before} {between} {after} {start} {made} {m} {to} ys {bs} i k =
    record {
      puts =
          λ xs from held.
          rw (← append_assoc part ys bs)
          (rw append_assoc at (k.adds (xs ++ (part ++ ys)) (i.inserts xs ys from held)));
    }
