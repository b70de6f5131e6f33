-- A record that is there, or cut, by the answer of `fits`.
--     fits_cut, fits_there     the bytes are not all there, or are
--     fits_room                they end within the slice
use Prim.Native.Nat.{ℕ, ◌+◌, ◌≤◌}
use mathlib.Core.Path.{◌≡◌, sym, ◌∙◌}
use mathlib.Core.Bool.{Bool, true, false, not}
use mathlib.Core.List.{List}
use borrow.Author.Tests.{not-true, not-false, leb-true}
use lib.ListN.{length}
use Rattle.cells.specs.Bytes.{fits}

module _ (t : Bool) (bs : List ℕ) (at n : ℕ) (e : t ≡ fits bs at n) where
  pub fits_cut : not t ≡ true → fits bs at n ≡ false
  fits_cut h = sym e ∙ not-true t h

  pub fits_there : not t ≡ false → fits bs at n ≡ true
  fits_there h = sym e ∙ not-false t h

  pub fits_room : not t ≡ false → at + n ≤ length bs
  unfolding fits
  fits_room h = leb-true (at + n) (length bs) (fits_there h)
