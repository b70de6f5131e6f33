-- What the check of a catalogue promises of it (document 01, 'Catalogue rows').
--     Own c r most     row r's own fields are sound, where its level may be at most `most`
--     Sound doc c      c is the catalogue that the bytes hold, sound as a whole
--       is             its rows are those of the bytes
--       few            there are at most 2,048
--       whole          they are all of the bytes
--       nested         sizes and levels fit together
--       kinds          every row is an element or a text
--       named          an element's prop is a name number
--       plain          a text has size 0 and level at least 1
--       ranged         a prop is an integer
use Rattle.std.specs.Prelude.{ℕ, ◌*◌, ◌≤◌, ◌<◌, true, List, ◌⊎◌, ◌≡◌, pos, length}
use Rattle.cells.specs.Cell.{in_range}
use Rattle.meaning.specs.Catalogue.{Catalogue, catalogue_of, element, text}
use Rattle.doc_rows.specs.Nested.{Nested}

-- row r is an element or a text; an element has a name; a text has size 0 and level at least 1
pub record Own (c : Catalogue) (r most : ℕ) : Type 0 where
  pub low : c.level r ≤ most
  pub shallow : c.level r ≤ 63
  pub kinds : (c.kind r ≡ element) ⊎ (c.kind r ≡ text)
  pub named : c.kind r ≡ element → (p : ℕ) × (c.prop r ≡ pos p) × (p < 65536)
  pub plain : c.kind r ≡ text → (c.size r ≡ 0) × (1 ≤ c.level r)

pub record Sound (doc : List ℕ) (c : Catalogue) : Type 0 where
  pub is : c ≡ catalogue_of doc c.rows
  pub few : c.rows ≤ 2048
  pub whole : 10 * c.rows ≡ length doc
  pub nested : Nested c.rows c.size c.level
  pub kinds : (r : ℕ) → r < c.rows → (c.kind r ≡ element) ⊎ (c.kind r ≡ text)
  pub named : (r : ℕ) → r < c.rows → c.kind r ≡ element → (p : ℕ) × (c.prop r ≡ pos p) × (p < 65536)
  pub plain : (r : ℕ) → r < c.rows → c.kind r ≡ text → (c.size r ≡ 0) × (1 ≤ c.level r)
  pub ranged : (r : ℕ) → in_range (c.prop r) ≡ true
