-- Nodes of a group, marked row by row, and the rows of a step (RX).
--     rows_of_lem                            the rows of a catalogue
--     some_found                             there is a rank exactly where finding one succeeds
--     all_fails, all_next, all_end       a test of a whole column, row by row
--     from_yes, from_no                  the node of a row, where the row is of the group or not
--     Marking c whole left marks         the nodes of `whole` up to `left` are marked
--     marking_start, marking_more, marking_fails, marking_end    .. row by row
--     step_fails, step_full, step_laid   what RX owes for a group
use Rattle.std.specs.Prelude.{Option, Some, None, Result, Ok, Err}
use Rattle.std.specs.Option.{is_some}
use Prim.Native.Nat.{ℕ, suc, ◌+◌, ◌-◌, ◌*◌, ◌≤◌, ◌<◌}
use mathlib.Core.Path.{◌≡◌, refl, sym, ap, ap₂, ◌∙◌, subst}
use mathlib.Core.List.{List, [], ◌∷◌, ◌++◌, map, append-nil, append_assoc}
use mathlib.Core.Bool.{Bool, true, false, ◌&&◌}
use native.Mathlib.Omega.{arith}
use lib.IntN.{ℤ, pos}
use lib.ListN.{length, get_or, drop, drop_of_length-le, length-map}
use lib.Seq.{drop-cons}
use Rattle.cells.specs.Cell.{same, node_cell}
use Rattle.cells.specs.declared.Rank.{Rank}
use Rattle.codes.specs.declared.Axis.{Axis}
use Rattle.codes.specs.declared.Test.{Test}
use Rattle.laws.specs.Lists.{all}
use Rattle.laws.specs.Rows.{laid}
use Rattle.laws.proofs.Booleans.{by_cases}
use Rattle.laws.specs.Attempt.{Attempt, fails, gives, attempt}
use Rattle.meaning.specs.Catalogue.{Catalogue, catalogue_of}
use Rattle.meaning.specs.World as World
use Rattle.meaning.specs.World.{ranks_of, step}
use Rattle.meaning.specs.Operators.{Row, Table, cell, column, group_of}
use Rattle.nodesets.specs.declared.NotANode.{NotANode}
use Rattle.step_parts.specs.Steps.{Step}
use Rattle.nodesets.specs.Nodes.{ranks, found, MarkSet, FromOne, FromAll, rows_of}
use Rattle.nodesets.proofs.Nodes.{marked_none, one_more, one_fails_lem}
use Rattle.axes.proofs.Whole as Whole
use Rattle.tables.specs.declared.Unlaid.TheVariants.{Full, Fails}
use Rattle.tables.specs.Layout.{Wide, Owes}
use Rattle.tables.specs.Laying.{succeeds}
use Rattle.tables.specs.Order.{cell_at}
use Rattle.stepping.specs.Marking.{FromIf, FromRow}
use Rattle.tables.proofs.Reading.{length_column, get_d_column}
use Rattle.members.proofs.Members.{group_yes, group_no, owes_failed}

pub rows_of_lem : (doc : List ℕ) (n : ℕ) → (catalogue_of doc n).rows ≡ n
unfolding catalogue_of
rows_of_lem doc n = refl

pub some_found : (r : Option Rank) → is_some r ≡ succeeds (found r)
unfolding succeeds
some_found (Some r) = refl
some_found None = refl

-- a test of a whole column
module _ (p : ℤ → Bool) (t : Table) (c i : ℕ) where
  all_split : i < length t → all p (drop i (column t c)) ≡ (p (cell_at t c i) && all p (drop (i + 1) (column t c)))
  unfolding all
  all_split h =
      let next : suc i ≡ i + 1 = omega arith in
      ap (all p)
      (drop-cons (column t c) i (pos 0) (omega (arith, length_column t c))
      ∙ ap₂ (λ (x : ℤ) (j : ℕ). x ∷ drop j (column t c)) (get_d_column t c i) next)

  pub all_fails : i < length t → p (cell_at t c i) ≡ false → all p (drop i (column t c)) ≡ false
  all_fails h e = all_split h ∙ ap (◌&& all p (drop (i + 1) (column t c))) e

  pub all_next :
      i < length t → p (cell_at t c i) ≡ true → all p (drop i (column t c)) ≡ all p (drop (i + 1) (column t c))
  all_next h e = all_split h ∙ ap (◌&& all p (drop (i + 1) (column t c))) e

  pub all_end : length t ≤ i → all p (drop i (column t c)) ≡ true
  unfolding all
  all_end h = ap (all p) (drop_of_length-le (column t c) {i = i} (omega (arith, length_column t c)))

module _ (c : Catalogue) (x : ℤ) (r : Row) (m : Result (Unit {0}) NotANode) (old new : List Bool) where
  pub from_yes : same x (cell r 0) ≡ true → FromOne c (cell r 1) m old new → FromRow c x r m old new
  from_yes e h = subst (λ (b : Bool). FromIf b c (cell r 1) m old new) (sym e) h

  pub from_no : same x (cell r 0) ≡ false → m ≡ Ok tt → new ≡ old → FromRow c x r m old new
  from_no e d h = subst (λ (b : Bool). FromIf b c (cell r 1) m old new) (sym e) (d, h)

pub record Marking (c : Catalogue) (whole left : List ℤ) (marks : List Bool) : Type 0 where
  pub done : List ℤ
  pub from : FromAll c done (Ok tt) marks
  pub whole_is : whole ≡ done ++ left

pub marking_start :
    (c : Catalogue) (whole left : List ℤ) (marks : List Bool) → whole ≡ left → MarkSet c.rows [] marks →
    Marking c whole left marks
marking_start c whole left marks e h = record { done = []; from = marked_none c marks h; whole_is = e }

pub marking_end :
    (c : Catalogue) (whole left : List ℤ) (marks : List Bool) → left ≡ [] → Marking c whole left marks →
    FromAll c whole (Ok tt) marks
marking_end c whole left marks e m =
    subst (λ (l : List ℤ). FromAll c l (Ok tt) marks)
    (sym (m.whole_is ∙ ap (m.done ++◌) e ∙ append-nil m.done)) m.from

-- row i
module _ (c : Catalogue) (whole : List ℤ) (t : Table) (x : ℤ) (i : ℕ) (old new : List Bool) (here : i < length t)
    (m : Marking c whole (column (group_of (drop i t) 0 x) 1) old) where
  abbrev rest : List ℤ
  rest = column (group_of (drop (i + 1) t) 0 x) 1

  taken : same x (cell_at t 0 i) ≡ true → whole ≡ m.done ++ (cell_at t 1 i ∷ rest)
  unfolding column
  taken e = m.whole_is ∙ ap (λ (u : Table). m.done ++ column u 1) (group_yes t 0 x i here e)

  left : same x (cell_at t 0 i) ≡ false → whole ≡ m.done ++ rest
  left e = m.whole_is ∙ ap (λ (u : Table). m.done ++ column u 1) (group_no t 0 x i here e)

  pub marking_more : c.rows ≤ length old → FromRow c x (get_or t i []) (Ok tt) old new → Marking c whole rest new
  marking_more long h =
      by_cases (same x (cell_at t 0 i))
      (λ e.
      let one = subst (λ (b : Bool). FromIf b c (cell_at t 1 i) (Ok tt) old new) e h in
      record {
        done = m.done ++ (cell_at t 1 i ∷ []);
        from = one_more c m.done old m.from (cell_at t 1 i) new long one;
        whole_is = taken e ∙ sym (append_assoc m.done (cell_at t 1 i ∷ []) rest);
      })
      (λ e.
      let kept = subst (λ (b : Bool). FromIf b c (cell_at t 1 i) (Ok tt) old new) e h in
      record {
        done = m.done;
        from = subst (λ (ms : List Bool). FromAll c m.done (Ok tt) ms) (sym kept.1) m.from;
        whole_is = left e;
      })

  pub marking_fails : (a : NotANode) → FromRow c x (get_or t i []) (Err a) old new → ranks_of c whole ≡ fails
  marking_fails a h =
      by_cases (same x (cell_at t 0 i))
      (λ e.
      let one = subst (λ (b : Bool). FromIf b c (cell_at t 1 i) (Err a) old new) e h in
      ap (ranks_of c) (taken e) ∙ one_fails_lem c m.done old m.from (cell_at t 1 i) rest one.0)
      (λ e.
      let kept = subst (λ (b : Bool). FromIf b c (cell_at t 1 i) (Err a) old new) e h in
      let never : Err a ≡ Ok tt = kept.0 in
      cc)

-- what RX owes for the group of x with the nodes xs
abbrev step_rows : ℤ → List ℤ → Table
step_rows x ys = map (λ y. x ∷ y ∷ []) ys

wide_rows : (x : ℤ) (ys : List ℤ) → Wide 2 (step_rows x ys)
unfolding Wide
wide_rows x [] = tt
wide_rows x (y ∷ ys) = (refl, wide_rows x ys)

module _ (doc : List ℕ) (n : ℕ) (axis : Axis) (test : Test) (xs : List ℤ) (x : ℤ) (room at : ℕ) (work : List ℤ) where
  abbrev rows_made : Attempt Table
  rows_made = attempt (World.step (catalogue_of doc n) axis test xs) (λ ys. gives (step_rows x ys))

  no_step : ranks_of (catalogue_of doc n) xs ≡ fails → World.step (catalogue_of doc n) axis test xs ≡ fails
  unfolding step attempt
  no_step e = rw e

  pub step_fails :
      (m : Result (Unit {0}) NotANode) (ms : List Bool) → ((u : Unit {0}) → m ≡ Ok u → ⊥) →
      FromAll (catalogue_of doc n) xs m ms →
      Owes room at 2 rows_made work work (Err Fails)
  step_fails (Ok u) ms not f = absurd (not u refl)
  step_fails (Err e) ms not f =
      owes_failed room at 2 (World.step (catalogue_of doc n) axis test xs) (λ ys. gives (step_rows x ys)) work work refl
      (no_step f)

  module _ (from old new : List Bool) (f : FromAll (catalogue_of doc n) xs (Ok tt) from)
      (s : Step doc n axis test from old new) where
    nodes : List ℤ
    nodes = map node_cell (ranks n new)

    gives_nodes : World.step (catalogue_of doc n) axis test xs ≡ gives nodes
    unfolding nodes
    gives_nodes =
        Whole.step_gives doc n axis test from old new s xs f

    many : length (step_rows x nodes) ≡ length (ranks n new)
    unfolding nodes
    many = length-map nodes (λ y. x ∷ y ∷ []) ∙ length-map (ranks n new) node_cell

    pub step_full : (k : ℕ) → k ≡ length (ranks n new) → room < at + 2 * k →
        Owes room at 2 rows_made work work (Err Full)
    unfolding Owes attempt
    step_full k d h =
        record {
          table = step_rows x nodes;
          made_is = ap (λ (o : Attempt (List ℤ)). attempt o (λ ys. gives (step_rows x ys))) gives_nodes;
          past = omega (arith, many);
          long = refl;
        }

    pub step_laid :
        (k : ℕ) (z : ℤ) (after : List ℤ) → k ≡ length (ranks n new) → at + 2 * k ≤ room → z ≡ x →
        after ≡ laid work at (rows_of z (ranks n new)) → Owes room at 2 rows_made work after (Ok k)
    unfolding Owes attempt rows_of nodes
    step_laid k z after d h g l =
        record {
          table = step_rows x nodes;
          made_is = ap (λ (o : Attempt (List ℤ)). attempt o (λ ys. gives (step_rows x ys))) gives_nodes;
          rows_are = many ∙ sym d;
          wide = wide_rows x nodes;
          fits = omega arith;
          cells_are = l ∙ ap (λ (v : ℤ). laid work at (rows_of v (ranks n new))) g;
        }
