-- What the records that ask the catalogue, or what an item is, do with what their operands left (document 01, 'Query
-- records', 'Room'): clauses of `evaluate`, each as a function of its operands' outcomes.
--     rooted w room at k  QR: the root of fragment k
--     applied w at f p    QO: a function of the two
--     valued w at o       QD: each item's value
--     stepped w room at x t o     QX: a step
--     Reaches doc n x t xs ms m   m says whether every one of xs is a node; ms are the marks of the nodes that the step
--                                 reaches
--     Valued w before after t     t says whether each item has a value; those values in its place
use Rattle.std.specs.Prelude.{ℕ, ◌≡◌, Bool, List, [], ◌∷◌, map, ℤ, length, Option, Some, None, Result, Ok, Err}
use Rattle.cells.specs.Cell.{node_cell}
use Rattle.codes.specs.declared.Axis.{Axis}
use Rattle.codes.specs.declared.Function.{Function}
use Rattle.codes.specs.declared.Test.{Test}
use Rattle.laws.specs.Attempt.{fails, gives, Work, work, trying}
use Rattle.meaning.specs.Catalogue.{catalogue_of}
use Rattle.meaning.specs.World.{World, step}
use Rattle.meaning.specs.Meaning.{apply, values}
use Rattle.meaning.specs.Counted.{Standing, stand, adding}
use Rattle.nodesets.specs.declared.NotANode.{NotANode}
use Rattle.nodesets.specs.Nodes.{ranks}
use Rattle.stack.specs.Stack.{Paired}
use Rattle.stack.specs.Moves.{raised}

unfoldable pub rooted : World → ℕ → ℕ → ℕ → Work Standing
rooted w room at k = trying at (w.root k) (λ r. adding room at 0 (r ∷ []))

unfoldable pub applied : World → ℕ → Function → Work Paired → Work Standing
applied w at f p = work p (λ d. trying at (apply w f d.first d.second) (λ xs. stand xs d.count))

unfoldable pub valued : World → ℕ → Work Standing → Work Standing
valued w at o = work o (λ s. trying at (values w s.items) (λ xs. stand xs s.count))

unfoldable pub stepped : World → ℕ → ℕ → Axis → Test → Work Standing → Work Standing
stepped w room at x t o =
    work o
    (λ s. trying at (w.step x t s.items) (λ xs. raised s.count (adding room at (length s.items) xs)))

abbrev pub Reaches : List ℕ → ℕ → Axis → Test → List ℤ → List Bool → Result Unit NotANode → Type 0
Reaches doc n x t xs ms (Ok u) = step (catalogue_of doc n) x t xs ≡ gives (map node_cell (ranks n ms))
Reaches doc n x t xs ms (Err e) = step (catalogue_of doc n) x t xs ≡ fails

abbrev pub Valued : World → List ℤ → List ℤ → Option Unit → Type 0
Valued w before after (Some u) = values w before ≡ gives after
Valued w before after None = values w before ≡ fails
