-- Plans that lean on order. No translator of document 01 writes them, but each passes the plan's check, and a hand
-- that turns one table round gives other items, or makes the run fail. So the theorem is no law of plans: it needs
-- that the plain run is tieless. And hands are what they should be.
--     turns_are_hands      turning one table round loses no row and adds none
--     still, still_run     the hand that moves nothing is a hand; its run is the plain run
--     unmarked, keyless, judged     three plans
--     lean                 what the plain run of each gives, and what the run with one table turned round gives
--     read_by_place        a translated plan's items are one list by rising place, and not as the last table stands
use Prim.Native.Nat.{ℕ, ◌+◌}
use mathlib.Core.Path.{◌≡◌, refl, ap, fun_ext}
use mathlib.Core.List.Permᴰ
use mathlib.Core.List.{List, [], ◌∷◌, ◌++◌, reverse}
use mathlib.Core.Bool.{Bool, true, false, cond}
use lib.Dec.{eqb, leb}
use lib.IntN.{ℤ, pos}
use lib.ListN.{length}
use Rattle.cells.specs.Cell.{true_cell}
use Rattle.laws.specs.Attempt.{Reading, reads, reading, Work, failed, done, work, trying, within}
use Rattle.meaning.specs.Catalogue.{catalogue_read}
use Rattle.meaning.specs.World.{World, world_of}
use Rattle.meaning.specs.Plan.{Op, RT, RA, RP, RU, RJ, RN, RE, RO, Placed, plan_read}
use Rattle.meaning.specs.Query.{Query, QL, QS}
use Rattle.meaning.specs.Operators.{Table, column, items_in_order, make}
use Rattle.meaning.specs.Run.{cells, Hand, running, running_by, turning}
use Rattle.meaning.specs.Translation.{plan}
use Rattle.meaning.specs.Calls.{last_table}
use Rattle.meaning.specs.Written.{written}
use Rattle.meaning.proofs.Examples.{told}
use Rattle.order.specs.Shuffled.{Permuted, Shuffles}

-- Hands

pub turns_are_hands : (k : ℕ) → Shuffles (turning k)
unfolding turning
turns_are_hands k ts t = go (eqb (length ts) k)
  where
    go : (b : Bool) → Permuted t (cond b (reverse t) t)
    go true = Permᴰ.symm (Permᴰ.reverse t)
    go false = Permᴰ.refl t

abbrev still : Hand
still ts t = t

pub still_is_a_hand : Shuffles still
still_is_a_hand ts t = Permᴰ.refl t

pub still_run : (w : World) (room : ℕ) (ps : List Placed) (ts : List Table) (n : ℕ)
    → running_by still w room ps ts n ≡ running w room ps ts n
unfolding running running_by
still_run w room [] ts n = refl
still_run w room (p ∷ ps) ts n =
    ap (trying p.at (make w p.op ts))
    (fun_ext (λ t. ap (within (leb (n + cells p t) room) p.at)
    (still_run w room ps (ts ++ (t ∷ [])) (n + cells p t))))

-- Plans

-- 1, 2 united without the mark that tells the sides apart
unmarked : List Op
unmarked =
    RT
    ∷ RA 0 (pos 1)
    ∷ RA 1 (pos 1)
    ∷ RA 0 (pos 1)
    ∷ RA 3 (pos 2)
    ∷ RU 2 4
    ∷ RN 5 0 (1 ∷ [])
    ∷ RP 6 (0 ∷ 3 ∷ 2 ∷ [])
    ∷ []

-- `for v in (1, 2) return v`, whose results are numbered by outer iteration alone
keyless : List Op
keyless =
    RT
    ∷ RA 0 (pos 1)
    ∷ RA 1 (pos 1)
    ∷ RA 0 (pos 1)
    ∷ RA 3 (pos 2)
    ∷ RA 2 (pos 1)
    ∷ RA 4 (pos 2)
    ∷ RU 5 6
    ∷ RN 7 0 (3 ∷ 1 ∷ [])
    ∷ RP 8 (0 ∷ 4 ∷ 2 ∷ [])
    ∷ RN 9 255 (0 ∷ 1 ∷ [])
    ∷ RA 10 (pos 1)
    ∷ RP 11 (3 ∷ 4 ∷ 2 ∷ [])
    ∷ RP 10 (3 ∷ [])
    ∷ RP 10 (0 ∷ 3 ∷ [])
    ∷ RJ 12 0 14 1
    ∷ RN 15 3 (3 ∷ [])
    ∷ RP 16 (3 ∷ 5 ∷ 2 ∷ [])
    ∷ RN 17 0 (1 ∷ [])
    ∷ RP 18 (0 ∷ 3 ∷ 2 ∷ [])
    ∷ []

-- the truth of a root and 5 at one place: of the two the first decides
judged : List Op
judged =
    RT
    ∷ RA 0 (pos 1)
    ∷ RO 1 1
    ∷ RA 1 (pos 5)
    ∷ RU 2 3
    ∷ RE 4
    ∷ RA 5 (pos 1)
    ∷ RP 6 (0 ∷ 2 ∷ 1 ∷ [])
    ∷ []

-- a catalogue of one row
one_root : List ℕ
one_root = 0x44 ∷ 0x4E ∷ 0 ∷ 0 ∷ 0 ∷ 1 ∷ 0 ∷ 0 ∷ 0 ∷ 1 ∷ []

-- a plan's bytes, read and run by a hand on that catalogue; then the last table, read in some way
ran : Hand → (Table → List ℤ) → List Op → Reading (Work (List ℤ))
ran hand look os =
    reading (plan_read (written os))
    (λ ps. reading (catalogue_read one_root)
    (λ c. reads (work (running_by hand (world_of c) 4000 ps [] 0) (λ f. done (look (last_table f.tables))))))

record Lean : Type 0 where
  united : ran still items_in_order unmarked ≡ reads (done (pos 1 ∷ pos 2 ∷ []))
  united_turned : ran (turning 5) items_in_order unmarked ≡ reads (done (pos 2 ∷ pos 1 ∷ []))
  returned : ran still items_in_order keyless ≡ reads (done (pos 1 ∷ pos 2 ∷ []))
  returned_turned : ran (turning 15) items_in_order keyless ≡ reads (done (pos 2 ∷ pos 1 ∷ []))
  decided : ran still items_in_order judged ≡ reads (done (true_cell ∷ []))
  decided_turned : ran (turning 4) items_in_order judged ≡ reads (failed 37)

lean : Lean
unfolding told ran one_root unmarked keyless judged running_by turning
lean =
    record {
      united = refl;
      united_turned = refl;
      returned = refl;
      returned_turned = refl;
      decided = refl;
      decided_turned = refl;
    }

-- The plan of (1, 2), its last table turned round

pair : Query
pair = QS 0 (QL 0 (pos 1)) (QL 0 (pos 2))

record ByPlace : Type 0 where
  by_place : ran (turning 11) items_in_order (plan pair) ≡ reads (done (pos 1 ∷ pos 2 ∷ []))
  as_it_stands : ran (turning 11) (λ t. column t 2) (plan pair) ≡ reads (done (pos 2 ∷ pos 1 ∷ []))

read_by_place : ByPlace
unfolding told ran one_root pair running_by turning
read_by_place = record { by_place = refl; as_it_stands = refl }
