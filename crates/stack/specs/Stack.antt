-- The stack: what stands in the lent cells from `top` on (document 01, 'Room').
--     stood cells top r       what an answer says, read from the cells: the items that stand there and their count, or
--                             6, or 7
--     Paired                  the items of two operands, and the count of what stood while they were worked out
--     paired cells top p      what an answer for two operands says, read from the cells
--     Fit, FitPair            the count of an answer is within the room, and its items within its count
--     Ends r e, EndsPair p e     the operand, or the second of two, ends at offset e, where its items stand
--     At n e                  n is the offset e
--     Sums p                  the items of two operands are within their count
--     raising k s             the same items, where at least k stood
--     joining p               the items of both operands as those of one
--     besiding s t            the items of t as the second of two operands, behind those of s
--     Adds l s                the count of that, behind l items, fits a number
--     Lent top room cells     the stack stands within the room, and the room within the lent cells
--     Leaves top room o E before after r    the answer r says what outcome o is; nothing below top has changed;
--                             the operand ends where E says
use Rattle.std.specs.Prelude.{ℕ, ◌+◌, ◌^◌, ◌≤◌, ◌<◌, max, ◌≡◌, List, ℤ, length, take, Result, Ok, Err}
use Rattle.laws.specs.Rows.{row}
use Rattle.laws.specs.Attempt.{Work, full, failed, done}
use Rattle.codes.specs.declared.refusals.Stop.{Stop}
use Rattle.meaning.specs.Counted.{Standing, stand}
use Rattle.stack.specs.declared.Stood.{Stood}
use Rattle.stack.specs.declared.Pair.{Pair}

unfoldable pub stood : List ℤ → ℕ → Result Stood Stop → Work Standing
stood cells top (Ok s) = stand (row cells top s.length) s.count
stood cells top (Err (Stop.Full p)) = full p
stood cells top (Err (Stop.Failed p)) = failed p

pub record Paired : Type 0 where
  pub first : List ℤ
  pub second : List ℤ
  pub count : ℕ

unfoldable pub paired : List ℤ → ℕ → Result Pair Stop → Work Paired
paired cells top (Ok d) =
    done (record { first = row cells top d.first; second = row cells (top + d.first) d.second; count = d.count })
paired cells top (Err (Stop.Full p)) = full p
paired cells top (Err (Stop.Failed p)) = failed p

abbrev pub Fit : ℕ → ℕ → Result Stood Stop → Type 0
Fit top room (Ok s) = (s.length ≤ s.count) × (top + s.count ≤ room)
Fit top room (Err e) = Unit {0}

abbrev pub FitPair : ℕ → ℕ → Result Pair Stop → Type 0
FitPair top room (Ok d) = (d.first + d.second ≤ d.count) × (top + d.count ≤ room)
FitPair top room (Err e) = Unit {0}

abbrev pub Ends : Result Stood Stop → ℕ → Type 0
Ends (Ok s) e = s.next ≡ e
Ends (Err d) e = Unit {0}

abbrev pub EndsPair : Result Pair Stop → ℕ → Type 0
EndsPair (Ok d) e = d.next ≡ e
EndsPair (Err d) e = Unit {0}

abbrev pub At : ℕ → ℕ → Type 0
At n e = n ≡ e

abbrev pub Sums : Pair → Type 0
Sums d = d.first + d.second ≤ d.count

abbrev pub raising : ℕ → Stood → Stood
raising k s = record { length = s.length; count = max k s.count; next = s.next }

abbrev pub joining : Pair → Stood
joining d = record { length = d.first + d.second; count = d.count; next = d.next }

-- the second of two operands' items behind those of the first
abbrev pub besiding : Stood → Stood → Pair
besiding s t =
    record { first = s.length; second = t.length; count = max s.count (s.length + t.count); next = t.next }

-- their count is a number that the machine has
abbrev pub Adds : ℕ → Stood → Type 0
Adds l s = l + s.count < 2 ^ 64

pub record Lent (top room : ℕ) (cells : List ℤ) : Type 0 where
  pub low : top ≤ room
  pub lent : room ≤ length cells

pub record Leaves
    (top room : ℕ) (o : Work Standing) (E : ℕ → Type 0) (before after : List ℤ) (r : Result Stood Stop)
    : Type 0 where
  pub kept : take top after ≡ take top before
  pub fit : Fit top room r
  pub stands : stood after top r ≡ o
  pub ends : (e : ℕ) → E e → Ends r e
