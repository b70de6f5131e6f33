-- Where the table of an operator stands after a run (document 01, 'Room': the runner lays tables end to end).
--     asked_plan bs end n w     the plan that ends with operator n, whose record ends at `end`; three columns of its
--                              table follow where its width is not 3, as the last table's must be
--     cells s e                the cells from s up to e
--     placed s e room          the cells from s up to e, where they are in the room
--     place_of s r e w room     where the table of width w stands, after a run with start s, r rows and e cells
--     place_in a w room         where the table of width w stands, after the answer a to that plan
--     PlaceStands room p       the place is in the room
use Rattle.std.specs.Prelude.{ℕ, ◌+◌, ◌-◌, ◌*◌, ◌≤◌, List, [], ◌∷◌, ◌++◌, cond, ltb, eqb, take, get_or, Option, Some, None}
use Rattle.meaning.specs.Plan.{RP}
use Rattle.meaning.specs.Written.{operator_bytes}
use Rattle.meaning.specs.Calls.{Answer, gives, refused}
use Rattle.shown_tables.specs.declared.Place.{Place}

unfoldable pub asked_plan : List ℕ → ℕ → ℕ → ℕ → List ℕ
asked_plan bs end n w =
    cond (eqb w 3) (take end bs) (take end bs ++ operator_bytes (RP n (0 ∷ 0 ∷ 0 ∷ [])))

abbrev pub cells : ℕ → ℕ → Place
cells s e = record { start = s; end = e }

unfoldable pub placed : ℕ → ℕ → ℕ → Option Place
placed s e room = cond (ltb room e) None (Some (cells s e))

-- the last table of width 3 itself; else the cells before it, as many rows
unfoldable pub place_of : (s r e w room : ℕ) → Option Place
place_of s r e w room =
    cond (ltb e s) None
    (cond (eqb w 3) (placed s e room)
    (cond (ltb room r) None (cond (ltb s (r * w)) None (placed (s - r * w) s room))))

unfoldable pub place_in : Answer → ℕ → ℕ → Option Place
place_in (gives ns) w room = place_of (get_or ns 0 0) (get_or ns 1 0) (get_or ns 2 0) w room
place_in (refused n p) w room = None

abbrev pub PlaceStands : ℕ → Option Place → Type 0
PlaceStands room (Some p) = (p.start ≤ p.end) × (p.end ≤ room)
PlaceStands room None = Unit {0}
