-- How words become a text (document 02, L1: 'spaces are free between words, needed only where two would join').
--     joins k b         a word of kind k would join one that begins with byte b: a letter or digit and a letter or
--                       digit, or a name and `-`
--     Parted k s w      s parts a word of kind k from one of bytes w: s is not empty, or the two do not join
--     Spells k ws t     t is the words ws one after another, spaces before, between and after them, at least one where
--                       two would join; a word of kind k stands directly before t
use Rattle.std.specs.Prelude.{ℕ, ◌≡◌, List, [], ◌∷◌, ◌++◌, Bool, false, ◌||◌, eqb}
use Rattle.laws.specs.Characters.{is_digit, is_letter, first, Spaces}
use Rattle.grammar.specs.Words.{Kind, symbol, word, name, Word}

unfoldable pub joins : Kind → ℕ → Bool
joins symbol b = false
joins word b = is_letter b || is_digit b
joins name b = is_letter b || is_digit b || eqb b 45

abbrev pub Parted : Kind → List ℕ → List ℕ → Type 0
Parted k [] w = joins k (first w) ≡ false
Parted k (b ∷ s) w = Unit {0}

unfoldable pub Spells : Kind → List Word → List ℕ → Type 0
Spells k [] t = Spaces t
Spells k (w ∷ ws) t =
    (s r : List ℕ) × (t ≡ s ++ (w.bytes ++ r)) × Spaces s × Parted k s w.bytes × Spells w.kind ws r
