-- One operator whose table is laid and entered.
--     rows_fit          rows that were laid are within the room
--     goes_on           laid and entered, at the width that was worked out
use Rattle.std.specs.Prelude.{Ok}
use Prim.Native.Nat.{ℕ, ◌+◌, ◌*◌, ◌≤◌}
use mathlib.Core.Path.{◌≡◌, refl, sym, ap, ◌∙◌, subst}
use mathlib.Core.List.{List}
use lib.IntN.{ℤ}
use Rattle.laws.specs.Attempt.{Attempt}
use Rattle.meaning.specs.Operators.{Table}
use Rattle.tables.specs.Layout.{Owes}
use Rattle.tables.proofs.Standing.{laid_fits}
use Rattle.directory.specs.Directory.{entered}
use Rattle.operators.specs.declared.Top.{Top}
use Rattle.laying.specs.Goes.{Goes}

pub rows_fit :
    (room at w : ℕ) (made : Attempt Table) (xs ys : List ℤ) (k : ℕ) → Owes room at w made xs ys (Ok k) →
    (v : ℕ) → v ≡ w → at + k * v ≤ room
rows_fit room at w made xs ys k owes v e =
    subst (λ (u : ℕ). at + k * u ≤ room) (sym e) (laid_fits room at w made xs ys k owes)

pub goes_on :
    (room : ℕ) (top : Top) (w : ℕ) (made : Attempt Table) (xs ys : List ℤ) (dir next : List ℕ) (k : ℕ) →
    Owes room top.cells w made xs ys (Ok k) → (v : ℕ) → v ≡ w →
    next ≡ entered dir top.tables (record { at = top.cells; rows = k; width = v }) →
    Goes room top w made xs ys dir next (Ok (record { tables = top.tables + 1; cells = top.cells + k * v }))
unfolding Goes
goes_on room top w made xs ys dir next k owes v e d = (
  k,
  owes,
  d ∙ ap (λ (u : ℕ). entered dir top.tables (record { at = top.cells; rows = k; width = u })) e,
  refl,
  ap (λ (u : ℕ). top.cells + k * u) e,
)
