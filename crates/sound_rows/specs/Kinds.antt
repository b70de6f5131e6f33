-- What a row's kind asks of its other fields (document 01, 'Catalogue rows').
--     text_sound size level               a text has size 0 and level at least 1
--     kind_sound size level kind prop     an element has a name; a text is sound; there is no other kind
use Rattle.std.specs.Prelude.{ℕ, Bool, cond, ◌&&◌, leb, eqb, ℤ}
use Rattle.meaning.specs.Catalogue.{element, text, is_name}

unfoldable pub text_sound : ℕ → ℕ → Bool
text_sound size level = eqb size 0 && leb 1 level

unfoldable pub kind_sound : ℕ → ℕ → ℕ → ℤ → Bool
kind_sound size level kind prop = cond (eqb kind element) (is_name prop) (eqb kind text && eqb size 0 && leb 1 level)
