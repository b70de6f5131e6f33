-- The fields that code reads are those of the catalogue in the bytes, however many rows it is taken to have.
--     fields                       all at once
--     size_field, level_field, kind_field, prop_field
use Prim.Native.Nat.{ℕ}
use mathlib.Core.List.{List}
use mathlib.Core.Path.{◌≡◌, refl}
use Rattle.meaning.specs.Catalogue.{catalogue_of}
use Rattle.doc_rows.specs.Fields.{size_at, level_at, kind_at, prop_at}

module _ (doc : List ℕ) (n : ℕ) where
  pub fields : catalogue_of doc n
      ≡ record { rows = n; size = size_at doc; level = level_at doc; kind = kind_at doc; prop = prop_at doc }
  unfolding catalogue_of size_at level_at kind_at prop_at
  fields = refl

  pub rows_field : (catalogue_of doc n).rows ≡ n
  unfolding catalogue_of
  rows_field = refl

  pub size_field : (r : ℕ) → (catalogue_of doc n).size r ≡ size_at doc r
  unfolding catalogue_of size_at
  size_field r = refl

  pub level_field : (r : ℕ) → (catalogue_of doc n).level r ≡ level_at doc r
  unfolding catalogue_of level_at
  level_field r = refl

  pub kind_field : (r : ℕ) → (catalogue_of doc n).kind r ≡ kind_at doc r
  unfolding catalogue_of kind_at
  kind_field r = refl

  pub prop_field : (r : ℕ) → (catalogue_of doc n).prop r ≡ prop_at doc r
  unfolding catalogue_of prop_at
  prop_field r = refl
