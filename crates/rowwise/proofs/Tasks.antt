-- Tasks, one by one: what is known of a task is known of its case.
--     task-..             the width, the fitness and the promise of an equal task
--     suits_worked        a task that suits reads columns only
--     suits_up            .. suits further up, too
--     made_laid           a task makes of a row what it made before rows were laid behind
--     some_succeeds       an answer that is there succeeds
--     settling_other      the tasks other than RF's never fail
--     settled_all         a task that fails on no row gives rows
--     fails_some          .. that fails on some row fails
use Rattle.std.specs.Prelude.{Result, Option, Some, None, is_some}
use Prim.Native.Nat.{ℕ, ◌+◌, ◌≤◌}
use mathlib.Core.Path.{◌≡◌, refl, sym, ap, ap₂, ◌∙◌, subst}
use mathlib.Core.List.{List, [], ◌∷◌, ◌++◌}
use mathlib.Core.Bool.{Bool, true, false, cond, ◌&&◌}
use native.Mathlib.Omega.{arith}
use lib.IntN.{ℤ}
use lib.ListN.{length}
use Rattle.codes.specs.declared.Function.{Function}
use Rattle.laws.specs.Lists.{any, all}
use Rattle.laws.specs.Rows.{row, laid}
use Rattle.laws.proofs.Rows.{row_laid, rows_at_laid}
use Rattle.laws.specs.Attempt.{Attempt, fails, gives, attempt, each}
use Rattle.meaning.specs.Catalogue.{Catalogue}
use Rattle.meaning.specs.Operators.{Row, Table, cell, same_row}
use Rattle.meaning.specs.World.{arith as function, value}
use Rattle.items.specs.Answers.{tried}
use Rattle.tables.specs.declared.Stand.{Stand}
use Rattle.rowwise.specs.declared.Task.{Task}
use Rattle.rowwise.specs.declared.Task.TheVariants.{Attach, Project, Minus, Select, Apply, Value}
use Rattle.tables.specs.declared.Unlaid.{Unlaid}
use Rattle.tables.specs.Layout.{table_at, Inside, Owes}
use Rattle.tables.specs.Laying.{succeeds, Settled, Decided}
use Rattle.rowwise.specs.Tasks.{made, wider, Suits, Worked, settling}
use Rattle.rowwise.specs.contracts.Task.{the_type}

module _ (task k : Task) (e : task ≡ k) where
  pub task_small : (w n : ℕ) → wider w task ≤ n → wider w k ≤ n
  task_small w n h = subst (λ (t : Task). wider w t ≤ n) e h

  pub task_wide : (w : ℕ) → wider w k ≡ wider w task
  task_wide w = ap (wider w) (sym e)

  pub task_suits : (plan : List ℕ) (top w : ℕ) → Suits plan top w task → Suits plan top w k
  task_suits plan top w h = subst (Suits plan top w) e h

  pub task_owes :
      (room at w : ℕ) (plan : List ℕ) (c : Catalogue) (xs ys : List ℤ) (r : Row) (o : Result ℕ Unlaid) →
      Owes room at (wider w k) (made plan c xs k r) xs ys o
      → Owes room at (wider w task) (made plan c xs task r) xs ys o
  task_owes room at w plan c xs ys r o h =
      subst (λ (t : Task). Owes room at (wider w t) (made plan c xs t r) xs ys o) (sym e) h

  pub task_worked : (w : ℕ) → Worked w task → Worked w k
  task_worked w h = subst (Worked w) e h

  pub task_settling : (c : Catalogue) (r : Row) → settling c k r ≡ settling c task r
  task_settling c r = ap (λ (t : Task). settling c t r) (sym e)

-- an answer that is there succeeds
pub some_succeeds : (t : Option ℤ) → is_some t ≡ succeeds (tried t)
unfolding succeeds
some_succeeds (Some z) = refl
some_succeeds None = refl

pub settling_other :
    (c : Catalogue) (r : Row) (task : Task) → ((f : Function) (k d : ℕ) → task ≡ Apply f k d → ⊥)
    → ((k : ℕ) → task ≡ Value k → ⊥) → true ≡ settling c task r
unfolding settling
settling_other c r (Attach z) g h = refl
settling_other c r (Project n k) g h = refl
settling_other c r (Minus s) g h = refl
settling_other c r (Select k) g h = refl
settling_other c r (Apply f k d) g h = absurd (g f k d refl)
settling_other c r (Value k) g h = absurd (h k refl)

pub suits_worked : (plan : List ℕ) (top w : ℕ) (task : Task) → Suits plan top w task → Worked w task
unfolding Suits Worked
suits_worked plan top w (Attach z) h = tt
suits_worked plan top w (Project n k) h = tt
suits_worked plan top w (Minus s) h = tt
suits_worked plan top w (Select k) h = tt
suits_worked plan top w (Apply f k d) h = h
suits_worked plan top w (Value k) h = h

pub suits_up : (plan : List ℕ) (top up w : ℕ) (task : Task) → top ≤ up → Suits plan top w task → Suits plan up w task
unfolding Suits Inside
suits_up plan top up w (Attach z) g h = tt
suits_up plan top up w (Project n k) g h = h
suits_up plan top up w (Minus s) g h = (omega arith, h.1)
suits_up plan top up w (Select k) g h = h
suits_up plan top up w (Apply f k d) g h = h
suits_up plan top up w (Value k) g h = h

module _ (plan : List ℕ) (c : Catalogue) (xs : List ℤ) (at : ℕ) (vs : List ℤ) (inside : at ≤ length xs) where
  table_laid : (s : Stand) → Inside at s → table_at (laid xs at vs) s ≡ table_at xs s
  unfolding table_at Inside
  table_laid s h = rows_at_laid xs at vs s.at s.rows s.width h inside

  made_over :
      (w : ℕ) (task : Task) (r : Row) → Suits plan at w task
      → made plan c (laid xs at vs) task r ≡ made plan c xs task r
  unfolding made Suits
  made_over w (Attach z) r h = refl
  made_over w (Project n k) r h = refl
  made_over w (Minus s) r h = ap (λ (t : Table). gives (cond (any (same_row r) t) [] (r ∷ []))) (table_laid s h.0)
  made_over w (Select k) r h = refl
  made_over w (Apply f k d) r h = refl
  made_over w (Value k) r h = refl

  pub made_laid :
      (ys : List ℤ) (a w : ℕ) (task : Task) → ys ≡ laid xs at vs → a + w ≤ at → Suits plan at w task →
      made plan c xs task (row xs a w) ≡ made plan c ys task (row ys a w)
  made_laid ys a w task e h s =
      sym (made_over w task (row xs a w) s)
      ∙ ap₂ (λ (zs : List ℤ) (r : Row). made plan c zs task r) (sym e)
      (sym (row_laid xs at vs a w h inside) ∙ ap (λ (l : List ℤ). row l a w) (sym e))

by_cell_lem : (o : Attempt ℤ) (g : ℤ → Table) → Decided (attempt o (λ z. gives (g z))) (succeeds o)
unfolding attempt succeeds Settled
by_cell_lem fails g = refl
by_cell_lem (gives z) g = (g z, refl)

by_task :
    (plan : List ℕ) (c : Catalogue) (xs : List ℤ) (task : Task) (r : Row)
    → Decided (made plan c xs task r) (settling c task r)
unfolding made settling Settled
by_task plan c xs (Attach z) r = (_, refl)
by_task plan c xs (Project n k) r = (_, refl)
by_task plan c xs (Minus s) r = (_, refl)
by_task plan c xs (Select k) r = (_, refl)
by_task plan c xs (Apply f k d) r = by_cell_lem (function f (cell r k) (cell r d)) (λ z. (r ++ (z ∷ [])) ∷ [])
by_task plan c xs (Value k) r = by_cell_lem (value c (cell r k)) (λ z. (r ++ (z ∷ [])) ∷ [])

by_rows :
    {A : Type 0} (f : A → Attempt Table) (p : A → Bool) → ((x : A) → Decided (f x) (p x)) → (xs : List A)
    → Decided (each f xs) (all p xs)
unfolding each all Settled attempt
by_rows f p d [] = ([], refl)
by_rows f p d (x ∷ xs) = go (f x) (each f xs) (p x) (all p xs) (d x) (by_rows f p d xs)
  where
    go : (o u : Attempt Table) (s t : Bool) → Decided o s → Decided u t
        → Decided (attempt o (λ ys. attempt u (λ zs. gives (ys ++ zs)))) (s && t)
    go o u true true h k = rw (h.1, k.1) (h.0 ++ k.0, refl)
    go o u true false h k = rw (h.1, k)
    go o u false t h k = rw h

module _ (plan : List ℕ) (c : Catalogue) (xs : List ℤ) (task : Task) (t : Table) where
  pub settled_all : all (settling c task) t ≡ true → Settled (each (made plan c xs task) t)
  settled_all e =
      subst (Decided (each (made plan c xs task) t)) e
      (by_rows (made plan c xs task) (settling c task) (by_task plan c xs task) t)

  pub fails_some : all (settling c task) t ≡ false → each (made plan c xs task) t ≡ fails
  fails_some e =
      subst (Decided (each (made plan c xs task) t)) e
      (by_rows (made plan c xs task) (settling c task) (by_task plan c xs task) t)
