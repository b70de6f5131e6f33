-- `step_parts::end_of` meets its contract: sizes are those of a sound catalogue, so the rows that a size covers are
-- there.
use Prim.Native.Nat.{◌+◌, ◌<◌}
use native.Mathlib.Omega.{arith}
use mathlib.Core.Path.{◌≡◌, sym, ◌∙◌}
use Rattle.meaning.specs.Catalogue.{catalogue_of}
use Rattle.doc_rows.proofs.FieldLaws.{size_field}
use Rattle.step_parts.proofs.end_of.Goals as goal

pub size-requires : goal.size-requires
size-requires c =
    omega arith

pub overflow_add-result : goal.overflow_add-result
overflow_add-result c =
    let size : c.size.result ≡ (catalogue_of c.args.doc.now c.args.rows).size c.args.v.0 = let args = c.args in
    c.size.ensures.0 ∙ sym (size_field args.doc.now args.rows args.v.0) in
    let there : c.args.v.0 + c.size.result < c.args.rows = rw size (c.requires.0.nested.fits c.args.v.0 c.requires.1) in
    omega (arith, there)

pub returns : goal.returns
returns c =
    let size : c.size.result ≡ (catalogue_of c.args.doc.now c.args.rows).size c.args.v.0 = let args = c.args in
    c.size.ensures.0 ∙ sym (size_field args.doc.now args.rows args.v.0) in
    let there : c.args.v.0 + c.size.result < c.args.rows = rw size (c.requires.0.nested.fits c.args.v.0 c.requires.1) in
    (omega (arith, size), there)
