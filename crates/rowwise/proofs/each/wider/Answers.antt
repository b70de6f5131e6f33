-- `rowwise::each::wider` meets its contract, task by task.
use Prim.Native.Nat.{ℕ, ◌+◌}
use mathlib.Core.Logic.{◌⊎◌, ⊎_elim}
use mathlib.Core.Path.{◌≡◌}
use native.Mathlib.Omega.{arith}
use lib.IntN.{ℤ}
use Rattle.codes.specs.declared.Function.{Function}
use Rattle.tables.specs.declared.Stand.{Stand}
use Rattle.rowwise.specs.declared.Task.{Task}
use Rattle.rowwise.specs.declared.Task.TheVariants.{Attach, Minus, Select, Apply, Value}
use Rattle.rowwise.specs.Tasks.{wider}
use Rattle.rowwise.proofs.Tasks.{task_wide}
use Rattle.rowwise.proofs.each.wider.Goals as goal

-- a task that adds a cell, and one that leaves the row's width
one_more : (w : ℕ) (task : Task) →
    ((z : ℤ) × (task ≡ Attach z))
    ⊎ (((f : Function) × (k : ℕ) × (d : ℕ) × (task ≡ Apply f k d)) ⊎ ((k : ℕ) × (task ≡ Value k))) →
    w + 1 ≡ wider w task
unfolding wider
one_more w task h =
    ⊎_elim (λ p. task_wide task (Attach p.0) p.1 w)
    (λ q.
    ⊎_elim (λ p. task_wide task (Apply p.0 p.1 p.2) p.3 w) (λ p. task_wide task (Value p.0) p.1 w) q)
    h

as_wide : (w : ℕ) (task : Task) → ((s : Stand) × (task ≡ Minus s)) ⊎ ((k : ℕ) × (task ≡ Select k)) → w ≡ wider w task
unfolding wider
as_wide w task h =
    ⊎_elim (λ p. task_wide task (Minus p.0) p.1 w) (λ p. task_wide task (Select p.0) p.1 w) h

pub overflow_add-result : goal.overflow_add-result
overflow_add-result c = omega (arith, one_more c.args.w c.args.task c.in-Attach.is)

pub returns-in-Attach : goal.returns-in-Attach
returns-in-Attach c = one_more c.args.w c.args.task c.in-Attach.is

pub returns-in-Project : goal.returns-in-Project
unfolding wider
returns-in-Project c = task_wide _ _ c.in-Project.is _

pub returns-in-Minus : goal.returns-in-Minus
returns-in-Minus c = as_wide c.args.w c.args.task c.in-Minus.is
