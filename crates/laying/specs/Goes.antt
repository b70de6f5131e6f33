-- What one operator of a plan comes to (document 01, 'Room').
--     Goes room top w made ..     its table laid behind the tables that end at top, and entered; or that it passes the
--                                 room; or that it fails
use Rattle.std.specs.Prelude.{ℕ, ◌+◌, ◌*◌, ◌≡◌, List, ℤ, Result, Ok, Err}
use Rattle.laws.specs.Attempt.{Attempt}
use Rattle.meaning.specs.Operators.{Table}
use Rattle.tables.specs.declared.Unlaid.{Unlaid}
use Rattle.tables.specs.Layout.{Owes}
use Rattle.directory.specs.Directory.{entered}
use Rattle.operators.specs.declared.Top.{Top}

-- `made` is what its definition makes, w wide
unfoldable pub Goes :
    (room : ℕ) → Top → (w : ℕ) → Attempt Table → List ℤ → List ℤ → List ℕ → List ℕ → Result Top Unlaid → Type 0
Goes room top w made xs ys dir next (Ok more) =
    (k : ℕ)
    × Owes room top.cells w made xs ys (Ok k)
    × (next ≡ entered dir top.tables (record { at = top.cells; rows = k; width = w }))
    × (more.tables ≡ top.tables + 1)
    × (more.cells ≡ top.cells + k * w)
Goes room top w made xs ys dir next (Err e) = Owes room top.cells w made xs ys (Err e)
