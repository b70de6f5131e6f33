-- Runs in which somebody moves the rows of every table as it is made. A hand (`Hand`, crates/meaning/specs/Run.antt)
-- is told the tables so far and the new one, and so knows which operator is at work. `running` is the plain run: each
-- table stands as its operator makes it. In `running_by hand` each stands as the hand leaves it.
--     Permuted xs ys        ys has the members of xs, each as often, in some order
--     Permutes ts us        .. the tables us those of ts, table by table
--     Shuffles hand         the hand gives each table back with the same rows, in any order that it likes
--     SameWork a b          work a and work b answer 6 at one operator, or 7 at one operator, or are done with as many
--                           cells filled, each table with the same rows
--     Bagged w              in world w a step from the same items in another order is the same step
--     ShuffledRun           any plan whose plain run is tieless, any such hand, any room
use Rattle.std.specs.Prelude.{ℕ, ◌≡◌, ℤ}
use mathlib.Core.List.{List, [], ◌∷◌, map, Permᴰ}
use Rattle.codes.specs.declared.Axis.{Axis}
use Rattle.codes.specs.declared.Test.{Test}
use Rattle.laws.specs.Attempt.{Work, full, failed, done}
use Rattle.meaning.specs.World.{World}
use Rattle.meaning.specs.Plan.{Placed}
use Rattle.meaning.specs.Operators.{Table}
use Rattle.meaning.specs.Run.{Filled, Hand, running, running_by}
use Rattle.agreement.specs.Tieless.{Tieless}

abbrev pub Permuted : {A : Type 0} → List A → List A → Type 0
Permuted xs ys = Permᴰ xs ys

pub data Permutes : List Table → List Table → Type 0 where
  none : Permutes [] []
  more : {t u : Table} {ts us : List Table} → Permuted t u → Permutes ts us → Permutes (t ∷ ts) (u ∷ us)

abbrev pub Shuffles : Hand → Type 0
Shuffles hand = (ts : List Table) (t : Table) → Permuted t (hand ts t)

pub data SameWork (a b : Work Filled) : Type 0 where
  both_full : (place : ℕ) → a ≡ full place → b ≡ full place → SameWork a b
  both_failed : (place : ℕ) → a ≡ failed place → b ≡ failed place → SameWork a b
  both_done : (ts us : List Table) (n : ℕ) → a ≡ done (record { tables = ts; filled = n })
      → b ≡ done (record { tables = us; filled = n }) → Permutes ts us → SameWork a b

pub record Bagged (w : World) : Type 0 where
  pub step_bag : (axis : Axis) (test : Test) (xs ys : List ℤ) → Permuted xs ys
      → w.step axis test xs ≡ w.step axis test ys

abbrev pub ShuffledRun : Type 0
ShuffledRun =
    (w : World) → Bagged w → (ps : List Placed) → Tieless w (map (λ (p : Placed). p.op) ps) []
    → (room : ℕ) (hand : Hand) → Shuffles hand
    → SameWork (running w room ps [] 0) (running_by hand w room ps [] 0)
