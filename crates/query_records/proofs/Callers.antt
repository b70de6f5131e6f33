-- What a caller of `read` learns of the record that it found.
--     found_gives       it is the record of the definitions
--     found_sound       it ends within the bytes, its fields in their ranges
--     found_small       its literal is an integer or a boolean
use Rattle.std.specs.Prelude.{Option, Some}
use Prim.Native.Nat.{ℕ}
use mathlib.Core.Path.{◌≡◌, sym, ◌∙◌, ap, subst}
use mathlib.Core.List.{List}
use Rattle.cells.specs.Bytes.{word}
use Rattle.laws.specs.Attempt.{gives}
use Rattle.meaning.specs.Query.{record_of}
use Rattle.query_records.specs.declared.Decoded.{Decoded}
use Rattle.query_records.specs.Decoded as Code
use Rattle.query_records.specs.Decoded.{reading_of, SmallLiteral, Smalls, Means}
use Rattle.query_records.specs.Fields.{SoundRecord}
use Rattle.query_records.proofs.Fields.{record_sound}

module _
    (bs : List ℕ) (at : ℕ) (r : Option Decoded) (m : Means r (record_of bs at (word bs at 2)))
    (f : Decoded) (h : r ≡ Some f) where
  pub found_gives : record_of bs at (word bs at 2) ≡ gives (Code.record_of f.kind, f.next)
  unfolding reading_of
  found_gives = sym m.means ∙ ap reading_of h

  pub found_sound : SoundRecord bs at (Code.record_of f.kind, f.next)
  found_sound = record_sound bs at (word bs at 2) (Code.record_of f.kind, f.next) found_gives

  pub found_small : SmallLiteral f.kind
  found_small = subst Smalls h m.small
