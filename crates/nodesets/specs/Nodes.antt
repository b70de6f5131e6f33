-- Mark sets: a list of flags, one for each rank; from cells to mark sets and back (document 01, 'Query records':
-- every item of a step's operand must be a node).
--     ranks n ms                the ranks below n that ms marks, rising
--     CellRoom ms n cells at w   the marked ranks below n have room from `at` on, w cells each
--     among rs v                rank v is one of rs
--     MarkSet n rs ms           ms marks exactly the ranks of rs, all of them below n
--     found f                   the rank that an answer names, or that there is none
--     FromOne c x m old new     what marking one cell answers and leaves
--     FromAll c xs m ms         what marking a list of cells answers, and the marks that it leaves where all are nodes
--     rows_of x rs               for each rank of rs the cells of a row: x, and the node's cell
--     ListedNodes g ms v n at old new   the n marked ranks below v stand from `at` on, as the cells that g makes of
--                                       them
use Rattle.std.specs.Prelude.{ℕ, ◌+◌, ◌*◌, ◌≤◌, ◌<◌, ◌≡◌, List, [], ◌∷◌, map, Bool, true, false, eqb, ℤ, length, get_or, set, Option, Some, None, Result, Ok, Err}
use Rattle.cells.specs.Cell.{node_cell}
use Rattle.cells.specs.declared.Rank.{Rank}
use Rattle.laws.specs.Lists.{filter, any, below}
use Rattle.laws.specs.Attempt.{Attempt, fails, gives}
use Rattle.laws.specs.Rows.{laid, flat}
use Rattle.meaning.specs.Catalogue.{Catalogue}
use Rattle.meaning.specs.World.{rank_of, ranks_of}
use Rattle.nodesets.specs.declared.NotANode.{NotANode}

unfoldable pub ranks : ℕ → List Bool → List ℕ
ranks n ms = filter (λ r. get_or ms r false) (below n)

-- the marked ranks have room, w cells each
pub record CellRoom (ms : List Bool) (n : ℕ) (cells : List ℤ) (at w : ℕ) : Type 0 where
  pub few : n ≤ 2048
  pub sources : n ≤ length ms
  pub fits : at + length (ranks n ms) * w ≤ length cells

abbrev pub among : List ℕ → ℕ → Bool
among rs v = any (λ x. eqb x v) rs

pub record MarkSet (n : ℕ) (rs : List ℕ) (ms : List Bool) : Type 0 where
  pub marks : (v : ℕ) → v < n → get_or ms v false ≡ among rs v
  pub there : (v : ℕ) → among rs v ≡ true → v < n

abbrev pub found : Option Rank → Attempt ℕ
found (Some r) = gives r.0
found None = fails

abbrev pub FromOne : Catalogue → ℤ → Result (Unit {0}) NotANode → List Bool → List Bool → Type 0
FromOne c x (Ok done) old new = (r : ℕ) × (rank_of c x ≡ gives r) × (r < c.rows) × (new ≡ set old r true)
FromOne c x (Err e) old new = (rank_of c x ≡ fails) × (new ≡ old)

abbrev pub FromAll : Catalogue → List ℤ → Result (Unit {0}) NotANode → List Bool → Type 0
FromAll c xs (Ok done) ms = (rs : List ℕ) × (ranks_of c xs ≡ gives rs) × MarkSet c.rows rs ms
FromAll c xs (Err e) ms = ranks_of c xs ≡ fails

-- per iteration, the step's nodes: the rows that RX adds, laid end to end
unfoldable pub rows_of : ℤ → List ℕ → List ℤ
rows_of x rs = flat (map (λ y. x ∷ y ∷ []) (map node_cell rs))

pub record ListedNodes (g : List ℕ → List ℤ) (ms : List Bool) (v n at : ℕ) (old new : List ℤ) : Type 0 where
  pub number : n ≡ length (ranks v ms)
  pub cells : new ≡ laid old at (g (ranks v ms))
