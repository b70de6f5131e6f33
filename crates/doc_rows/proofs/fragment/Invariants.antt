-- `fragment` meets its contract. The invariant of its loop: v has the same fragment as the row that was asked for.
use Prim.Native.Nat.{ℕ}
use mathlib.Core.Path.{◌≡◌}
use Rattle.meaning.specs.Catalogue.{catalogue_of}
use Rattle.meaning.specs.World.{fragment}
use Rattle.doc_rows.proofs.fragment.Given as goal

abbrev pub invariant-loop-v : goal.invariant-loop-v
invariant-loop-v l =
    (n : ℕ) → fragment (catalogue_of l.doc n) l.v ≡ fragment (catalogue_of l.doc n) l.fn.r.0
