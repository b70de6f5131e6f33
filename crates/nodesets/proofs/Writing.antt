-- Laws of writing marked ranks out, rising.
--     ranks_skip, ranks_take     the marked ranks below v + 1, where v is not marked, and where it is
--     ranks_room                 a marked rank below n adds to the ranks below n
--     laid_begin, laid_skip, laid_take     no rank yet, a rank that is not marked, one that is
--     node_take                  one that is, where each rank is the cell of its node
--     rows_begin, row_take       the same where each rank is a row, a cell and then that of its node
use Prim.Native.Nat.{ℕ, ◌+◌, ◌*◌, ◌<◌}
use mathlib.Core.Path.{◌≡◌, refl, sym, ap, ◌∙◌}
use mathlib.Core.List.{List, [], ◌∷◌, ◌++◌, map, append-nil, append_assoc, map-append}
use mathlib.Core.Bool.{Bool, true, false}
use native.Mathlib.Nat.{add_assoc}
use native.Mathlib.Numerals.{add-one}
use native.Mathlib.Omega.{arith}
use lib.IntN.{ℤ}
use lib.ListN.{length, get_or, set, length-map, length-append}
use Rattle.cells.specs.Cell.{node_cell}
use Rattle.laws.specs.Lists.{gather}
use Rattle.laws.specs.Rows.{laid, flat}
use Rattle.laws.proofs.Rows.{laid_nothing, set_more, length_snoc}
use Rattle.nodesets.specs.Nodes.{ranks, rows_of, ListedNodes}
use Rattle.nodesets.proofs.Ranks.{ranks_none, ranks_more, length_ranks_rises}

module _ (ms : List Bool) (v : ℕ) where
  pub ranks_skip : get_or ms v false ≡ false → ranks (v + 1) ms ≡ ranks v ms
  ranks_skip e = rw (add-one v, ranks_more v ms, e) (append-nil (ranks v ms))

  pub ranks_take : get_or ms v false ≡ true → ranks (v + 1) ms ≡ ranks v ms ++ (v ∷ [])
  ranks_take e = rw (add-one v, ranks_more v ms, e)

  pub ranks_room : (n : ℕ) → v < n → get_or ms v false ≡ true → length (ranks v ms) < length (ranks n ms)
  ranks_room n h e =
      omega (
        arith,
        length_ranks_rises n (v + 1) ms (omega arith),
        ap length (ranks_take e),
        length-append (ranks v ms) (v ∷ []),
      )

module _ (g : List ℕ → List ℤ) (ms : List Bool) (at : ℕ) (old : List ℤ) where
  pub laid_begin : g [] ≡ [] → ListedNodes g ms 0 0 at old old
  laid_begin e =
      record {
        number = sym (ap length (ranks_none ms));
        cells = sym (laid_nothing old at) ∙ ap (laid old at) (sym (ap g (ranks_none ms) ∙ e));
      }

  module _ (v n : ℕ) (new : List ℤ) (o : ListedNodes g ms v n at old new) where
    pub laid_skip : get_or ms v false ≡ false → ListedNodes g ms (v + 1) n at old new
    laid_skip e =
        record {
          number = o.number ∙ ap length (sym (ranks_skip ms v e));
          cells = o.cells ∙ ap (λ rs. laid old at (g rs)) (sym (ranks_skip ms v e));
        }

    pub laid_take :
        get_or ms v false ≡ true → (more : List ℤ) → g (ranks v ms ++ (v ∷ [])) ≡ g (ranks v ms) ++ more
        → (next : List ℤ) → next ≡ laid old at (g (ranks v ms) ++ more) → ListedNodes g ms (v + 1) (n + 1) at old next
    laid_take e more k next l =
        record {
          number = omega (arith, o.number, ap length (ranks_take ms v e), length-append (ranks v ms) (v ∷ []));
          cells = l ∙ ap (laid old at) (sym (ap g (ranks_take ms v e) ∙ k));
        }

-- the cells of the nodes, one after another
module _ (ms : List Bool) (at : ℕ) (old : List ℤ) (v n : ℕ) (new : List ℤ)
    (o : ListedNodes (map node_cell) ms v n at old new) where
  pub node_take :
      get_or ms v false ≡ true → at + n < length old
      → ListedNodes (map node_cell) ms (v + 1) (n + 1) at old (set new (at + n) (node_cell v))
  node_take e h =
      laid_take (map node_cell) ms at old v n new o e (node_cell v ∷ []) (map-append node_cell (ranks v ms) (v ∷ []))
      (set new (at + n) (node_cell v))
      (set_more old new at n (map node_cell (ranks v ms)) (node_cell v) o.cells
      (length-map (ranks v ms) node_cell ∙ sym o.number) h)

-- the cells of the nodes' rows
module _ (x : ℤ) where
  rows_none : rows_of x [] ≡ []
  unfolding rows_of flat gather
  rows_none = refl

  pub rows_begin : (ms : List Bool) (at : ℕ) (old : List ℤ) → ListedNodes (rows_of x) ms 0 0 at old old
  rows_begin ms at old = laid_begin (rows_of x) ms at old rows_none

  rows_snoc : (rs : List ℕ) (v : ℕ) → rows_of x (rs ++ (v ∷ [])) ≡ rows_of x rs ++ (x ∷ node_cell v ∷ [])
  unfolding rows_of flat gather
  rows_snoc [] v = refl
  rows_snoc (r ∷ rs) v = ap (λ (l : List ℤ). x ∷ node_cell r ∷ l) (rows_snoc rs v)

  length_rows : (rs : List ℕ) → length (rows_of x rs) ≡ 2 * length rs
  unfolding rows_of flat gather
  length_rows [] = refl
  length_rows (r ∷ rs) = omega (arith, length_rows rs)

  module _ (ms : List Bool) (at : ℕ) (old : List ℤ) (v n : ℕ) (new : List ℤ)
      (o : ListedNodes (rows_of x) ms v n at old new)
    where
      pub row_take :
          get_or ms v false ≡ true → at + 2 * n + 1 < length old
          → ListedNodes (rows_of x) ms (v + 1) (n + 1) at old
          (set (set new (at + 2 * n) x) (at + 2 * n + 1) (node_cell v))
      row_take e h =
          laid_take (rows_of x) ms at old v n new o e (x ∷ node_cell v ∷ []) (rows_snoc (ranks v ms) v)
          (set (set new (at + 2 * n) x) (at + 2 * n + 1) (node_cell v))
          (rw (add_assoc at (2 * n) 1)
          (set_more old (set new (at + 2 * n) x) at (2 * n + 1) (rows_of x (ranks v ms) ++ (x ∷ [])) (node_cell v) first
          (length_snoc (rows_of x (ranks v ms)) x (2 * n) long) (omega arith)
          ∙ ap (laid old at) (append_assoc (rows_of x (ranks v ms)) (x ∷ []) (node_cell v ∷ []))))
        where
          long : length (rows_of x (ranks v ms)) ≡ 2 * n
          long = omega (arith, length_rows (ranks v ms), o.number)

          first : set new (at + 2 * n) x ≡ laid old at (rows_of x (ranks v ms) ++ (x ∷ []))
          first = set_more old new at (2 * n) (rows_of x (ranks v ms)) x o.cells long (omega arith)
