-- `mark_one` meets its contract: a rank of the catalogue has a flag.
use Prim.Native.Nat.{ℕ, ◌<◌}
use lib.IntN.{ℤ}
use Rattle.std.specs.Prelude.{Option, Some}
use Rattle.std.proofs.lemmas.Result.{err_from_is_err_and}
use Rattle.cells.specs.declared.Rank.{Rank}
use mathlib.Core.Path.{◌≡◌, refl, sym, ap, ◌∙◌}
use mathlib.Core.List.{[]}
use native.Mathlib.Omega.{arith}
use mir.Facts.{to_z-of_z}
use Rattle.laws.specs.Attempt.{gives}
use Rattle.meaning.specs.Catalogue.{Catalogue, catalogue_of}
use Rattle.meaning.specs.World.{rank_of}
use Rattle.nodesets.specs.Nodes.{found}
use Rattle.nodesets.proofs.Nodes.{rank_below}
use Rattle.nodesets.proofs.mark_one.Goals as goal

-- the rank that was found
ranked :
    {n : ℕ} {x y : ℤ} {f : Option Rank} {r : Rank} → ((d : Catalogue) → d.rows ≡ n → found f ≡ rank_of d x)
    → x ≡ y → f ≡ Some r → (d : Catalogue) → d.rows ≡ n → (rank_of d y ≡ gives r.0) × (r.0 < d.rows)
ranked {r = r} f z e d k =
    let rank = ap (rank_of d) (sym z) ∙ sym (f d k) ∙ ap found e in
    (rank, rank_below d _ _ rank)

pub bounds-marks-rank : goal.bounds-marks-rank
unfolding catalogue_of
bounds-marks-rank c =
    omega (
      arith,
      (ranked c.rank_of.ensures (to_z-of_z c.ranges.cell) c.in_ok-rank.ensures.ok_part
          (catalogue_of [] c.args.rows) refl).1,
    )

pub returns-in_err-rank : goal.returns-in_err-rank
returns-in_err-rank c =
    let p = err_from_is_err_and c.from_residual.result c.from_residual.ensures.1 in
    λ d e.
    rw p.1 (
      ap (rank_of d) (sym (to_z-of_z c.ranges.cell))
          ∙ sym (c.rank_of.ensures d e)
          ∙ ap found c.in_err-rank.ensures.ok_part,
      refl,
    )

pub returns : goal.returns
returns c =
    λ d e.
    let rank = ranked c.rank_of.ensures (to_z-of_z c.ranges.cell) c.in_ok-rank.ensures.ok_part d e in
    (c.in_ok-rank.rank.0, rank.0, rank.1, refl)
