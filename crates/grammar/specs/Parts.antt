-- What it is for a text to be written as a part of the grammar.
--     After ws u          whatever stands before, the words ws are spelled by u: u begins with a space or a symbol, or
--                         there is nothing
--     Spelt ps t          the words ps are spelled by t, in front of whatever may come after
--     Heading hs m        m spells the words hs, in front of any text
--     Between cs m        m spells the words cs, behind any word and in front of any text
--     Closing cs m        m spells the words cs, behind any word, in front of whatever may come after
--     Writes l d bs t     t is a part of level l with d more grouping parentheses allowed, and read as bs
use Rattle.std.specs.Prelude.{ℕ, ◌≡◌, List, ◌++◌}
use Rattle.grammar.specs.Words.{Kind, symbol, Word}
use Rattle.grammar.specs.Grammar.{Level, Part, words, records}
use Rattle.grammar.specs.Spelled.{Spells}

abbrev pub After : List Word → List ℕ → Type 0
After ws u = (k : Kind) → Spells k ws u

pub record Spelt (ps : List Word) (t : List ℕ) : Type 0 where
  pub before : (ws : List Word) (u : List ℕ) → After ws u → Spells symbol (ps ++ ws) (t ++ u)

pub record Heading (hs : List Word) (m : List ℕ) : Type 0 where
  pub before : (ws : List Word) (u : List ℕ) → Spells symbol ws u → Spells symbol (hs ++ ws) (m ++ u)

pub record Between (cs : List Word) (m : List ℕ) : Type 0 where
  pub before : (ws : List Word) (u : List ℕ) → Spells symbol ws u → After (cs ++ ws) (m ++ u)

pub record Closing (cs : List Word) (m : List ℕ) : Type 0 where
  pub before : (ws : List Word) (u : List ℕ) → After ws u → After (cs ++ ws) (m ++ u)

pub record Writes (l : Level) (d : ℕ) (bs t : List ℕ) : Type 0 where
  pub part : Part l d
  pub meant : records part ≡ bs
  pub spelt : Spelt (words part) t
