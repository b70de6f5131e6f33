-- A run under way (document 01, 'Room'): what is left of the plan, on the tables that stand, gives what the whole
-- gives.
--     Going ..            the loop's invariant, with n tables in `filled` cells and the plan's next record at offset
--                         `at`
--     going_start         nothing has been done
--     turn_fails, turn_full, turn_more     the next operator fails; it passes the room; it has laid its table
--     going_end           at the end of the plan the tables that stand are those of the whole plan
--     last_stands, last_table_lem     the last of them: it is 3 wide, ends where the cells filled end, and has so many
--                                     rows
use Prim.Native.Nat.{ℕ, ◌+◌, ◌*◌, ◌≤◌, ◌<◌}
use mathlib.Core.Path.{◌≡◌, refl, sym, ap, ap₂, ◌∙◌}
use mathlib.Core.List.{List, [], ◌∷◌, ◌++◌, append-nil}
use mathlib.Core.Bool.{Bool}
use native.Mathlib.Omega.{arith}
use native.Mathlib.Numerals.{add-one}
use borrow.Author.Tests.{le-leb, lt-leb}
use lib.Dec.{leb, lit≤}
use lib.IntN.{ℤ}
use lib.ListN.{length, get_or}
use Rattle.laws.specs.Lists.{gather}
use Rattle.laws.proofs.Rows.{length_rows_at}
use Rattle.laws.specs.Attempt.{Attempt, fails, gives, reads, Work, full, failed, done, trying, within}
use Rattle.meaning.specs.Calls.{last_table}
use Rattle.meaning.specs.Operators.{Table, make}
use Rattle.meaning.specs.Plan.{Placed, plan_read}
use Rattle.meaning.specs.Run.{Filled, running, cells}
use Rattle.meaning.specs.World.{World}
use Rattle.laws.proofs.Outcomes.{reads_same}
use Rattle.tables.specs.declared.Stand.{Stand}
use Rattle.tables.specs.Layout.{table_at}
use Rattle.plan_records.specs.declared.Decoded.{Decoded}
use Rattle.plans.specs.Accepted.{Ahead, Turn, placed}
use Rattle.plan_records.specs.Decoded.{operator_of}
use Rattle.theorems.specs.PlanRead.{widths_of}
use Rattle.plans.proofs.Callers.{ahead_start, ahead_end, plan_last}
use Rattle.plans.proofs.Walking.{last_width, widths_more, widths_length}
use Rattle.directory.specs.Directory.{stand_at, entered, tables_in, widths_in, ListedTables, EndToEnd, Entry}
use Rattle.directory.proofs.Entries.{length_widths, width_of}

pub record Going (w : World) (room lent : ℕ) (plan : List ℕ) (all : List Placed)
    (work : List ℤ) (dir : List ℕ) (at n filled : ℕ) : Type 0 where
  pub before : List Placed
  pub left : List Placed
  pub ahead : Ahead plan before left at
  pub widths : widths_in dir n ≡ widths_of before
  pub same : running w room all [] 0 ≡ running w room left (tables_in work dir n) filled
  pub listed : ListedTables dir n filled
  pub ends : EndToEnd work dir n filled
  pub last : (m : ℕ) → n ≡ m + 1 → (stand_at dir m).at + (stand_at dir m).rows * (stand_at dir m).width ≡ filled
  pub fits : filled ≤ room
  pub long : length work ≡ lent

pub going_start :
    (w : World) (room : ℕ) (plan : List ℕ) (all : List Placed) (work : List ℤ) (dir : List ℕ) →
    plan_read plan ≡ reads all →
    length dir ≡ 1536 → Going w room (length work) plan all work dir 0 0 0
unfolding widths_in tables_in EndToEnd gather
going_start w room plan all work dir e d =
    record {
      before = [];
      left = all;
      ahead = ahead_start plan all e;
      widths = refl;
      same = refl;
      listed = record {
        few = lit≤ tt;
        long = d;
        inside = λ t h. absurd (omega arith);
        wide = λ t h. absurd
            (omega arith);
      };
      ends = refl;
      last = λ m h. absurd (omega arith);
      fits = omega arith;
      long = refl;
    }

-- the last of the tables that stand
last_append : (ts : List Table) (t : Table) → last_table (ts ++ (t ∷ [])) ≡ t
unfolding last_table
last_append [] t = refl
last_append (u ∷ []) t = refl
last_append (u ∷ v ∷ ts) t = last_append (v ∷ ts) t

pub last_table_lem : (work : List ℤ) (dir : List ℕ) (n m : ℕ) → n ≡ m + 1 →
    length (last_table (tables_in work dir n)) ≡ (stand_at dir m).rows
unfolding tables_in table_at
last_table_lem work dir n m e =
    ap (λ (k : ℕ). length (last_table (tables_in work dir k))) (e ∙ add-one m)
    ∙ ap length (last_append (tables_in work dir m) (table_at work (stand_at dir m)))
    ∙ length_rows_at work (stand_at dir m).at (stand_at dir m).rows (stand_at dir m).width

module _ (w : World) (room lent : ℕ) (plan : List ℕ) (all : List Placed) (work : List ℤ) (dir : List ℕ)
    (at n filled : ℕ)
    (g : Going w room lent plan all work dir at n filled) where
  abbrev ts : List Table
  ts = tables_in work dir n

  pub as_many : n ≡ length g.before
  as_many = sym (length_widths dir n) ∙ ap length g.widths ∙ widths_length g.before

  -- at the end of the plan
  module _ (end : length plan ≤ at) where
    pub going_end : running w room all [] 0 ≡ done (record { tables = ts; filled = filled })
    unfolding running
    going_end = g.same ∙ ap (λ (l : List Placed). running w room l ts filled) (ahead_end g.ahead end)

    module _ (e : plan_read plan ≡ reads all) where
      whole : g.before ≡ all
      whole =
          sym (append-nil g.before)
          ∙ ap (g.before ++◌) (sym (ahead_end g.ahead end))
          ∙ reads_same (sym g.ahead.whole ∙ e)

      pub some_table : 1 ≤ n
      some_table =
          let (p, ps, is, three) = plan_last plan all e in
          omega (arith, as_many, ap length whole, ap length is)

      pub last_stands : (m : ℕ) → n ≡ m + 1 → (stand_at dir m).at + (stand_at dir m).rows * 3 ≡ filled
      last_stands m k =
          let (p, ps, is, three) = plan_last plan all e in
          let same : m ≡ length ps = omega (arith, as_many, ap length whole, ap length is) in
          let wide : (stand_at dir m).width ≡ 3 =
          width_of dir n m (omega arith)
          ∙ ap₂ (λ (ws : List ℕ) (t : ℕ). get_or ws t 0) (g.widths ∙ ap widths_of (whole ∙ is)) same
          ∙ sym (last_width p ps)
          ∙ three in
          ap (λ (v : ℕ). (stand_at dir m).at + (stand_at dir m).rows * v) (sym wide) ∙ g.last m k

  -- the next operator
  module _ (f : Decoded) (t : Turn plan g.before g.left at f) where
    abbrev made : Attempt Table
    made = make w (operator_of plan f.operator) ts

    abbrev goes_on : Table → Work Filled
    goes_on u =
        within (leb (filled + length u * t.width) room) at (running w room t.after (ts ++ (u ∷ []))
        (filled + length u * t.width))

    turn_same : running w room all [] 0 ≡ trying at made goes_on
    unfolding running cells
    turn_same = g.same ∙ ap (λ (l : List Placed). running w room l ts filled) t.rest_is

    pub turn_fails : made ≡ fails → running w room all [] 0 ≡ failed at
    unfolding trying
    turn_fails e = turn_same ∙ ap (λ (a : Attempt Table). trying at a goes_on) e

    turn_gives : (u : Table) → made ≡ gives u → running w room all [] 0 ≡ goes_on u
    unfolding trying
    turn_gives u e = turn_same ∙ ap (λ (a : Attempt Table). trying at a goes_on) e

    by_room : Table → Bool → Work Filled
    by_room u b = within b at (running w room t.after (ts ++ (u ∷ [])) (filled + length u * t.width))

    pub turn_full :
        (u : Table) → made ≡ gives u → room < filled + length u * t.width → running w room all [] 0 ≡ full at
    unfolding within by_room
    turn_full u e h = turn_gives u e ∙ ap (by_room u) (lt-leb (filled + length u * t.width) room h)

    abbrev more : ℕ → List ℕ
    more k = entered dir n (record { at = filled; rows = k; width = t.width })

    newest :
        (k : ℕ) (after : List ℤ) → Entry room filled t.width k made work after dir n → (m : ℕ) → n + 1 ≡ m + 1 →
        (stand_at (more k) m).at + (stand_at (more k) m).rows * (stand_at (more k) m).width ≡ filled + k * t.width
    newest k after e m h =
        let j : m ≡ n = omega arith in
        ap (λ (q : Stand). q.at + q.rows * q.width) (ap (stand_at (more k)) j ∙ e.newest)

    pub turn_more :
        (k : ℕ) (after : List ℤ) → Entry room filled t.width k made work after dir n →
        Going w room lent plan all after (more k) f.next (n + 1) (filled + k * t.width)
    unfolding within by_room
    turn_more k after e =
        let u = e.table in
        let size : length u * t.width ≡ k * t.width = ap (◌* t.width) e.rows_are in
        let within_room : filled + length u * t.width ≤ room = omega (arith, e.fits) in
        record {
          before = g.before ++ (placed plan at f.operator t.width ∷ []);
          left = t.after;
          ahead = t.on;
          widths =
              e.widths
              ∙ ap (◌++ (t.width ∷ [])) g.widths
              ∙ sym (widths_more g.before (placed plan at f.operator t.width));
          same =
              turn_gives u e.made_is
              ∙ ap (by_room u) (le-leb (filled + length u * t.width) room within_room)
              ∙ ap₂ (λ (l : List Table) (x : ℕ). running w room t.after l (filled + x)) (sym e.tables) size;
          listed = e.listed;
          ends = e.ends g.ends;
          last = newest k after e;
          fits = e.fits;
          long = e.long ∙ g.long;
        }
