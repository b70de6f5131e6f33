-- The tree at an offset, from what `read` found there.
--     found_parses      the tree at its offset: the record's own operands, one level less
--     unfound_parses    no tree where `read` found no record
--     shallow_parses    no tree at depth 0
use Rattle.std.specs.Prelude.{Option, Some, None}
use Prim.Native.Nat.{ℕ, zero, suc, ◌-◌}
use mathlib.Core.Path.{◌≡◌, refl, sym, ◌∙◌, ap}
use mathlib.Core.List.{List}
use native.Mathlib.Omega.{arith}
use Rattle.cells.specs.Bytes.{word}
use Rattle.laws.specs.Attempt.{fails, attempt}
use Rattle.meaning.specs.Query.{record_of}
use Rattle.query_records.specs.declared.Decoded.{Decoded}
use Rattle.query_records.specs.Decoded as Code
use Rattle.query_records.specs.Decoded.{reading_of, Means}
use Rattle.query_records.proofs.Callers.{found_gives}
use Rattle.query_walks.specs.Parse.{trees, parse}

module _ (bs : List ℕ) (at : ℕ) (r : Option Decoded) (m : Means r (record_of bs at (word bs at 2))) where
  pub unfound_parses : r ≡ None → (d : ℕ) → parse d bs at ≡ fails
  unfolding parse attempt reading_of
  unfound_parses h zero = refl
  unfound_parses h (suc d) = rw (sym m.means ∙ ap reading_of h)

  pub found_parses :
      (f : Decoded) → r ≡ Some f → (d : ℕ) → (d ≡ 0 → ⊥) →
      parse d bs at ≡ trees (parse (d - 1) bs) at f.next (Code.record_of f.kind)
  unfolding parse attempt
  found_parses f h zero z = absurd (z refl)
  found_parses f h (suc d) z = let k : suc d - 1 ≡ d = omega arith in rw (k, found_gives bs at r m f h)

pub shallow_parses : (bs : List ℕ) (at d : ℕ) → d ≡ 0 → parse d bs at ≡ fails
unfolding parse
shallow_parses bs at d z = rw z
