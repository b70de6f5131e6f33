-- A row's test, read from its bytes.
--     signed_same     a signed number is a natural one where its bits are those of that number, and it is not negative
--     named_is        the test of a name: the kind, then the four bytes of prop
use Prim.Native.Nat.{ℕ, ◌+◌, ◌*◌, ◌-◌, ◌≤◌, ◌<◌}
use mathlib.Core.Path.{◌≡◌, refl, sym, ap}
use mathlib.Core.List.{List}
use mathlib.Core.Bool.{Bool, true, false, cond, ◌&&◌}
use lib.Dec.{ltb, eqb}
use borrow.Author.Tests.{eq-eqb, ne_eqb, lt-ltb, le-ltb}
use lib.IntN.{pos, negsuc}
use Rattle.cells.specs.Bytes.{word, signed, int4}
use Rattle.cells.specs.Cell.{same}
use Rattle.codes.specs.declared.Test.{Test}
use Rattle.codes.specs.declared.Test.TheVariants.{AnyNode, Element, Text, Named}
use Rattle.meaning.specs.Catalogue.{catalogue_of}
use Rattle.meaning.specs.World.{passes}
use Rattle.doc_rows.specs.Fields.{kind_at}

signed_same : (u m : ℕ) → same (signed 0x8000_0000 u) (pos m) ≡ (ltb u 0x8000_0000 && eqb u m)
unfolding same signed
signed_same u m = by_sign (ltb u 0x8000_0000)
  where
    by_sign : (t : Bool) → same (cond t (pos u) (negsuc (0x8000_0000 + 0x8000_0000 - 1 - u))) (pos m) ≡ (t && eqb u m)
    by_sign true = refl
    by_sign false = refl

module _ (doc : List ℕ) (n v : ℕ) where
  pub any_is_passed : {test : Test} → test ≡ AnyNode → true ≡ passes (catalogue_of doc n) test v
  unfolding passes
  any_is_passed e = rw e

  pub element_is :
      {test : Test} {k : ℕ} → test ≡ Element → k ≡ kind_at doc v → eqb k 1 ≡ passes (catalogue_of doc n) test v
  unfolding passes catalogue_of kind_at
  element_is e d = rw (e, d)

  pub text_is :
      {test : Test} {k : ℕ} → test ≡ Text → k ≡ kind_at doc v → eqb k 3 ≡ passes (catalogue_of doc n) test v
  unfolding passes catalogue_of kind_at
  text_is e d = rw (e, d)

  module _ (name : ℕ) {k : ℕ} (d : k ≡ kind_at doc v) where
    named_is :
        {u : ℕ} → u ≡ word doc (10 * v + 6) 4
        → (eqb k 1 && (ltb u 0x8000_0000 && eqb u name)) ≡ passes (catalogue_of doc n) (Named name) v
    unfolding passes catalogue_of int4 kind_at
    named_is e = rw (d, e) (ap (λ b. eqb (kind_at doc v) 1 && b) (sym (signed_same (word doc (10 * v + 6) 4) name)))

    pub named_other : ¬ (k ≡ 1) → false ≡ passes (catalogue_of doc n) (Named name) v
    named_other h = rw (ne_eqb k 1 h) at (named_is refl)

    module _ {u : ℕ} (e : u ≡ word doc (10 * v + 6) 4) (h : k ≡ 1) where
      pub named_below : 0x8000_0000 ≤ u → false ≡ passes (catalogue_of doc n) (Named name) v
      named_below l = rw (eq-eqb k 1 h, le-ltb u 0x8000_0000 l) at (named_is e)

      pub named_number : u < 0x8000_0000 → eqb u name ≡ passes (catalogue_of doc n) (Named name) v
      named_number l = rw (eq-eqb k 1 h, lt-ltb u 0x8000_0000 l) at (named_is e)
