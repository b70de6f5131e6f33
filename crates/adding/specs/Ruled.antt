-- What operators that are added leave in the lent bytes (document 01, 'Translation').
--     operator_of o           an operator as the definitions have it
--     PenRoom p k            k more operators can be counted: of 5,000 operators, each at most 12 bytes long
--     Wrote os x p y r       the operators os are written over the bytes x where p stands; y is left, writing stands at
--                            r
--     Ruled m next x p y r   the same for a rule's operators; r names its result's table, and next as the offset after
use Rattle.std.specs.Prelude.{ℕ, ◌+◌, ◌*◌, ◌≤◌, ◌≡◌, List, length}
use Rattle.meaning.specs.Plan.{Op, RT, RA, RP, RU, RD, RS, RJ, RN, RF, RV, RC, RE, RK, RX, RO}
use Rattle.meaning.specs.Translation.{Made}
use Rattle.meaning.specs.Written.{written}
use Rattle.pen.specs.Penned.{Pens}
use Rattle.writing.specs.Listed.{columns_of, keys_of}
use Rattle.adding.specs.declared.Operator.{Operator}
use Rattle.adding.specs.declared.Operator.TheVariants.{First, Attach, Project, Union, Minus, Select, Join}
use Rattle.adding.specs.declared.Operator.TheVariants.{Number}
use Rattle.adding.specs.declared.Operator.TheVariants.{Apply, Value, Counts, Truths, Once, Step, Root}
use Rattle.adding.specs.declared.Pen.{Pen}
use Rattle.adding.specs.declared.Output.{Output}

unfoldable pub operator_of : Operator → Op
operator_of First = RT
operator_of (Attach t z) = RA t z
operator_of (Project t cs) = RP t (columns_of cs)
operator_of (Union t u) = RU t u
operator_of (Minus t u) = RD t u
operator_of (Select t c) = RS t c
operator_of (Join t c u d) = RJ t c u d
operator_of (Number t p ks) = RN t p (keys_of ks)
operator_of (Apply t f c d) = RF t f c d
operator_of (Value t c) = RV t c
operator_of (Counts t c) = RC t c
operator_of (Truths t) = RE t
operator_of (Once t c) = RK t c
operator_of (Step t axis test) = RX t axis test
operator_of (Root t k) = RO t k

pub record PenRoom (p : Pen) (k : ℕ) : Type 0 where
  pub few : p.operators + k ≤ 5000
  pub short : p.at ≤ 12 * p.operators

pub record Wrote (os : List Op) (x : List ℕ) (p : Pen) (y : List ℕ) (r : Pen) : Type 0 where
  pub count : r.operators ≡ p.operators + length os
  pub pens : Pens p.at (written os) x y r.at
  pub short : r.at + 12 * p.operators ≤ p.at + 12 * r.operators

pub record Ruled (m : Made) (next : ℕ) (x : List ℕ) (p : Pen) (y : List ℕ) (r : Output) : Type 0 where
  pub wrote : Wrote m.ops x p y r.pen
  pub table : r.table ≡ m.result
  pub after : r.next ≡ next
