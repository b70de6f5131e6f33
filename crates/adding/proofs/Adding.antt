-- Laws of operators written one after another.
--     operator_size        the record of an operator is at most 12 bytes long
--     pens_of              an operator's record, where it is known which operator it is
--     pens_cell            a cell that is read back from its bits
--     wrote_none           no operator
--     wrote_one            one operator, from what its writer leaves
--     wrote_then           operators, then more
--     wrote_room           the room after operators
--     wrote_length         the lent bytes stay as many as they were
--     wrote_cell           a cell that is read back from its bits
--     ruled_then           operators, then a rule's
use Prim.Native.Nat.{ℕ, ◌+◌, ◌≤◌}
use mathlib.Core.Path.{◌≡◌, refl, sym, ap, ◌∙◌, subst}
use mathlib.Core.List.{List, [], ◌∷◌, ◌++◌, append-nil}
use native.Mathlib.Omega.{arith}
use mir.Syntax.{w64}
use mir.Val.{SFits, to_z, of_z}
use mir.Facts.{to_z-of_z}
use lib.Dec.{lit≤}
use lib.IntN.{ℤ}
use lib.ListN.{length, length-append}
use Rattle.cells.specs.Bytes.{bytes_of}
use Rattle.laws.specs.Lists.{gather}
use Rattle.meaning.specs.Plan.{Op, RA}
use Rattle.meaning.specs.Translation.{Made, then}
use Rattle.meaning.specs.Written.{written, operator_bytes}
use Rattle.pen.specs.Penned.{penned, Pens}
use Rattle.writing.specs.Listed.{columns_of, keys_of}
use Rattle.writing.specs.declared.Columns.{Columns}
use Rattle.writing.specs.declared.Keys.{Keys}
use Rattle.pen.proofs.Penned.{penned_length}
use Rattle.writing.proofs.Putting.{pens_operators}
use Rattle.adding.specs.declared.Operator.{Operator}
use Rattle.adding.specs.declared.Operator.TheVariants.{First, Attach, Project, Union, Minus, Select, Join}
use Rattle.adding.specs.declared.Operator.TheVariants.{Number}
use Rattle.adding.specs.declared.Operator.TheVariants.{Apply, Value, Counts, Truths, Once, Step, Root}
use Rattle.adding.specs.declared.Pen.{Pen}
use Rattle.adding.specs.declared.Output.{Output}
use Rattle.adding.specs.Ruled.{operator_of, PenRoom, Wrote, Ruled}

written_one : (o : Op) → written (o ∷ []) ≡ operator_bytes o
unfolding written gather
written_one o = append-nil (operator_bytes o)

-- a projection, a numbering
columns_size : (t : ℕ) (cs : Columns) → length (operator_bytes (operator_of (Project t cs))) ≤ 12
unfolding operator_of operator_bytes bytes_of columns_of
columns_size t (Columns.One a) = lit≤ tt
columns_size t (Columns.Two a b) = lit≤ tt
columns_size t (Columns.Three a b c) = lit≤ tt
columns_size t (Columns.Four a b c d) = lit≤ tt

keys_size : (t p : ℕ) (ks : Keys) → length (operator_bytes (operator_of (Number t p ks))) ≤ 12
unfolding operator_of operator_bytes bytes_of keys_of
keys_size t p (Keys.One a) = lit≤ tt
keys_size t p (Keys.Two a b) = lit≤ tt

pub operator_size : (o : Operator) → length (operator_bytes (operator_of o)) ≤ 12
unfolding operator_of operator_bytes bytes_of
operator_size First = lit≤ tt
operator_size (Attach t z) = lit≤ tt
operator_size (Project t cs) = columns_size t cs
operator_size (Union t u) = lit≤ tt
operator_size (Minus t u) = lit≤ tt
operator_size (Select t c) = lit≤ tt
operator_size (Join t c u d) = lit≤ tt
operator_size (Number t p ks) = keys_size t p ks
operator_size (Apply t f c d) = lit≤ tt
operator_size (Value t c) = lit≤ tt
operator_size (Counts t c) = lit≤ tt
operator_size (Truths t) = lit≤ tt
operator_size (Once t c) = lit≤ tt
operator_size (Step t axis test) = lit≤ tt
operator_size (Root t k) = lit≤ tt

pub pens_of :
    {o k : Operator} {at r : ℕ} {x y : List ℕ} → o ≡ k → Pens at (operator_bytes (operator_of k)) x y r →
    Pens at (operator_bytes (operator_of o)) x y r
pens_of {at = at} {r = r} {x = x} {y = y} e h =
    subst (λ (o : Operator). Pens at (operator_bytes (operator_of o)) x y r) (sym e) h

pub pens_cell :
    (t : ℕ) (z : ℤ) {at r : ℕ} {x y : List ℕ} → SFits w64 z →
    Pens at (operator_bytes (RA t (to_z w64 (of_z w64 z)))) x y r → Pens at (operator_bytes (RA t z)) x y r
pens_cell t z {at} {r} {x} {y} h w = subst (λ (u : ℤ). Pens at (operator_bytes (RA t u)) x y r) (to_z-of_z h) w

pub wrote_none : (x : List ℕ) (p : Pen) → Wrote [] x p x p
unfolding penned written gather
wrote_none x p =
    record {
      count = omega arith;
      pens = record { ends = omega arith; leaves = refl };
      short = omega arith;
    }

pub wrote_one :
    (o : Operator) (p : Pen) (x y : List ℕ) (at : ℕ) → Pens p.at (operator_bytes (operator_of o)) x y at →
    Wrote (operator_of o ∷ []) x p y (record { operators = p.operators + 1; at = at })
wrote_one o p x y at h =
    record {
      count = refl;
      pens = subst (λ (l : List ℕ). Pens p.at l x y at) (sym (written_one (operator_of o))) h;
      short = omega (arith, h.ends, operator_size o);
    }

pub wrote_cell :
    (t : ℕ) (z : ℤ) {x y : List ℕ} {p q : Pen} → SFits w64 z →
    Wrote (RA t (to_z w64 (of_z w64 z)) ∷ []) x p y q → Wrote (RA t z ∷ []) x p y q
wrote_cell t z {x} {y} {p} {q} h w = subst (λ (u : ℤ). Wrote (RA t u ∷ []) x p y q) (to_z-of_z h) w

module _ {x y : List ℕ} {p q : Pen} {os : List Op} (f : Wrote os x p y q) where
  pub wrote_then : {z : List ℕ} {r : Pen} {ps : List Op} → Wrote ps y q z r → Wrote (os ++ ps) x p z r
  wrote_then {z} {r} {ps} g =
      record {
        count = simp length-append (omega arith);
        pens = pens_operators os ps f.pens g.pens;
        short = omega arith;
      }

  pub wrote_room : (j k : ℕ) → PenRoom p k → length os + j ≤ k → PenRoom q j
  wrote_room j k h l = record { few = omega arith; short = omega arith }

  pub wrote_length : length y ≡ length x
  wrote_length = ap length f.pens.leaves ∙ penned_length x p.at (written os)

  pub ruled_then :
      {z : List ℕ} {r : Output} {m : Made} {next : ℕ} → Ruled m next y q z r → Ruled (then os m) next x p z r
  unfolding then
  ruled_then g = record { wrote = wrote_then g.wrote; table = g.table; after = g.after }
