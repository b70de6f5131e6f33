-- What working out a record promises, from what its operands promise.
--     works_leaves      what is left behind operands, where it is what the record's clause says
--     works_as          the same tree, written otherwise
--     tree_is           the tree at a record that was read, by its kind
--     ranged_is         .. its fields are in their ranges
--     works_leaf        a record without operands
--     works_nothing     no tree: nothing is promised of it
--     works_one         a record of one operand
--     works_two         a record of two operands, one behind the other
--     works_stopped     a record whose first operand is refused
--     leaves_joined     QS: both operands' items as those of one
--     leaves_none       QE: no item
--     number_is, values_is, step_is, join_is, keep_is, apply_is      the clauses of `evaluate`
use Rattle.std.specs.Prelude.{Option, Some, None, Result, Ok, Err}
use Prim.Native.Nat.{ℕ, ◌+◌, ◌-◌, ◌≤◌, max}
use mathlib.Core.Path.{◌≡◌, refl, sym, ◌∙◌, ap, subst}
use mathlib.Core.List.{List, []}
use native.Mathlib.Omega.{arith}
use lib.IntN.{ℤ}
use lib.ListN.{length, take}
use Rattle.codes.specs.declared.Axis.{Axis}
use Rattle.codes.specs.declared.Function.{Function}
use Rattle.codes.specs.declared.Test.{Test}
use Rattle.codes.specs.declared.refusals.Stop.{Stop}
use Rattle.laws.specs.Rows.{row}
use Rattle.laws.specs.Attempt.{fails, gives, Work, full, failed, done, work}
use Rattle.meaning.specs.World.{World}
use Rattle.meaning.specs.Query as Query
use Rattle.meaning.specs.Query.{Query, QS, QT, QO, QC, QD, QX}
use Rattle.meaning.specs.Meaning.{Env}
use Rattle.meaning.specs.Counted.{Standing, stand, evaluate}
use Rattle.laws.proofs.Outcomes.{fails_gives, gives_same}
use Rattle.cells.specs.Bytes.{word}
use Rattle.query_records.specs.declared.Decoded.{Decoded}
use Rattle.query_records.specs.declared.Record.{Record}
use Rattle.query_records.specs.Decoded.{record_of, Means}
use Rattle.query_records.specs.Fields.{Ranged}
use Rattle.query_records.proofs.Callers.{found_sound}
use Rattle.query_walks.proofs.Callers.{found_parses}
use Rattle.query_walks.specs.Parse.{Parsed, lone, pair, parse, trees}
use Rattle.query_walks.proofs.Parsing.{lone_gives, pair_gives}
use Rattle.stack.specs.declared.Stood.{Stood}
use Rattle.stack.specs.declared.Pair.{Pair}
use Rattle.stack.specs.Stack.{Paired, stood, paired, FitPair, Ends, EndsPair, At, joining, Leaves}
use Rattle.stack.specs.Moves.{raised, pairing, joined, kept, counted}
use Rattle.stack_records.specs.Arms.{applied, valued, stepped}
use Rattle.stack.proofs.Leaving.{stood_joined}
use Rattle.working_parts.specs.declared.Scope.{Scope}
use Rattle.working_parts.specs.Scopes.{HoldsEnv, binding}
use Rattle.working.specs.Evaluating.{Works, behind, both, Pairs}

pub leaves_joined :
    (top room : ℕ) (cells : List ℤ) (d : Pair) → FitPair top room (Ok d) →
    Leaves top room (joined (paired cells top (Ok d))) (EndsPair (Ok d)) cells cells (Ok (joining d))
leaves_joined top room cells d f =
    record { kept = refl; fit = f; stands = stood_joined cells top d; ends = λ e h. h }

pub leaves_none :
    (top room n : ℕ) (cells : List ℤ) → top ≤ room →
    Leaves top room (stand [] 0) (At n) cells cells (Ok (record { length = 0; count = 0; next = n }))
unfolding stood row
leaves_none top room n cells h =
    record { kept = refl; fit = (omega arith, omega arith); stands = refl; ends = λ e d. d }

module _ (w : World) (t : Parsed) (top room : ℕ) (s : Scope) (before after : List ℤ) where
  -- what is left behind operands, where it is what the record's clause says
  pub works_leaves :
      (mid : List ℤ) (r : Result Stood Stop) (o : Work Standing) (E : ℕ → Type 0) → Leaves top room o E mid after r →
      take top mid ≡ take top before →
      ((e : Env) → HoldsEnv before s e → (x : Query × ℕ) → t ≡ gives x →
      (o ≡ evaluate w (room - top) e x.0) × E x.1) →
      Works w t top room s before after r
  works_leaves mid r o E l k h =
      record {
        kept = l.kept ∙ k;
        fit = l.fit;
        means = λ e g x p.
            let q = h e g x p in
            record { stands = l.stands ∙ q.0; ends = l.ends x.1 q.1 };
      }

  pub works_leaf :
      (r : Result Stood Stop) (q : Query) (n : ℕ) (o : Work Standing) → t ≡ gives (q, n) → Leaves top room o
      (At n) before after r →
      ((e : Env) → HoldsEnv before s e → o ≡ evaluate w (room - top) e q) → Works w t top room s before after r
  works_leaf r q n o p l h =
      works_leaves before r o (At n) l refl
      (λ e g x c.
      let d : (q, n) ≡ x = gives_same (sym p ∙ c) in
      (h e g ∙ ap (λ (y : Query × ℕ). evaluate w (room - top) e y.0) d, ap (λ (y : Query × ℕ). y.1) d))

  pub works_one :
      (mid : List ℤ) (m r : Result Stood Stop) (q : Query → Query) (a : Parsed) (f : Work Standing →
      Work Standing) → t ≡ lone q a →
      ((e : Env) (p : Query) → f (evaluate w (room - top) e p) ≡ evaluate w (room - top) e (q p)) →
      Works w a top room s before mid m → Leaves top room (f (stood mid top m)) (Ends m) mid after r →
      Works w t top room s before after r
  works_one mid m r q a f p h g l =
      works_leaves mid r (f (stood mid top m)) (Ends m) l g.kept
      (λ e k x c.
      let (y, u, d) = lone_gives q a x (sym p ∙ c) in
      let i = g.means e k y u in (
        ap f i.stands ∙ h e y.0 ∙ ap (λ (z : Query × ℕ). evaluate w (room - top) e z.0) d,
        subst (Ends m) (ap (λ (z : Query × ℕ). z.1) d) i.ends,
      ))

  pub works_two :
      (mid : List ℤ) (m : Result Pair Stop) (r : Result Stood Stop) (q : Query → Query → Query) (rd : ℕ → Parsed)
      (at : ℕ) (b : Option ℕ)
      (f : Work Paired → Work Standing) → t ≡ pair q (rd at) rd →
      ((e : Env) (p p' : Query) → f (both w (room - top) e b p p') ≡ evaluate w (room - top) e (q p p')) →
      Pairs w rd at b top room s before mid m → Leaves top room (f (paired mid top m)) (EndsPair m) mid after r →
      Works w t top room s before after r
  works_two mid m r q rd at b f p h g l =
      works_leaves mid r (f (paired mid top m)) (EndsPair m) l g.kept
      (λ e k z c.
      let (x, y, u, v, d) = pair_gives q (rd at) rd z (sym p ∙ c) in
      let i = g.means e k x y u v in (
        ap f i.stands ∙ h e x.0 y.0 ∙ ap (λ (z : Query × ℕ). evaluate w (room - top) e z.0) d,
        subst (EndsPair m) (ap (λ (z : Query × ℕ). z.1) d) i.ends,
      ))

pub works_as :
    (w : World) (t u : Parsed) (top room : ℕ) (s : Scope) (before after : List ℤ) (r : Result Stood Stop) →
    t ≡ u →
    Works w u top room s before after r → Works w t top room s before after r
works_as w t u top room s before after r e g = subst (λ (t : Parsed). Works w t top room s before after r) (sym e) g

-- no tree: nothing is promised of it
pub works_nothing :
    (w : World) (t : Parsed) (top room : ℕ) (s : Scope) (cells : List ℤ) (p : ℕ) → t ≡ fails →
    Works w t top room s cells cells (Err (Stop.Failed p))
works_nothing w t top room s cells p h =
    record { kept = refl; fit = tt; means = λ e g x c. absurd (fails_gives x (sym h ∙ c)) }

-- the first operand is refused, and so is the record
pub works_stopped :
    (w : World) (t a : Parsed) (top room : ℕ) (s : Scope) (before after : List ℤ) (m : Stop) →
    Works w a top room s before after (Err m) →
    ((x : Query × ℕ) → t ≡ gives x → (y : Query × ℕ) × (a ≡ gives y) × ((e : Env) →
    (g : Standing → Work Standing) × (work (evaluate w (room - top) e y.0) g ≡ evaluate w (room - top) e x.0))) →
    Works w t top room s before after (Err m)
unfolding stood work
works_stopped w t a top room s before after m g q =
    record {
      kept = g.kept;
      fit = tt;
      means = λ e k x c.
          let (y, u, d) = q x c in
          let (f, i) = d e in
          record { stands = stays m f ∙ ap (λ (o : Work Standing). work o f) (g.means e k y u).stands ∙ i; ends = tt };
    }
  where
    stays : (m : Stop) (f : Standing → Work Standing) → stood after top (Err m) ≡ work (stood after top (Err m)) f
    stays (Stop.Full p) f = refl
    stays (Stop.Failed p) f = refl

-- What is read at an offset

module _
    (bs : List ℕ) (at : ℕ) (r : Option Decoded) (m : Means r (Query.record_of bs at (word bs at 2))) (f : Decoded)
    (h : r ≡ Some f) (k : Record) (e : f.kind ≡ k)
  where
    pub tree_is :
        (d : ℕ) → (d ≡ 0 → ⊥) → parse d bs at ≡ trees (parse (d - 1) bs) at f.next (record_of k)
    tree_is d z =
        found_parses bs at r m f h d z
        ∙ ap (λ (k : Record). trees (parse (d - 1) bs) at f.next (record_of k)) e

    pub ranged_is : Ranged (record_of k)
    ranged_is = subst (λ (k : Record). Ranged (record_of k)) e (found_sound bs at r m f h).ranged

-- The clauses of `evaluate`

module _ (w : World) (room at : ℕ) (e : Env) where
  pub number_is : (p : Query) → counted room at (evaluate w room e p) ≡ evaluate w room e (QC at p)
  unfolding evaluate counted raised
  number_is p = refl

  pub values_is : (p : Query) → valued w at (evaluate w room e p) ≡ evaluate w room e (QD at p)
  unfolding evaluate valued
  values_is p = refl

  pub step_is :
      (x : Axis) (t : Test) (p : Query) →
      stepped w room at x t (evaluate w room e p) ≡ evaluate w room e (QX at x t p)
  unfolding evaluate stepped raised
  step_is x t p = refl

  -- what two operands leave, one behind the other
  abbrev two : Standing → Standing → Paired
  two s t = record { first = s.items; second = t.items; count = max s.count (length s.items + t.count) }

  -- what is done with both operands' items is done behind the second
  after_both :
      (h : Paired → Work Standing) (o : Work Standing) (f : Standing → Work Standing) →
      work (pairing o f) h ≡ work o (λ s. work (f s) (λ t. h (two s t)))
  unfolding work pairing
  after_both h (full p) f = refl
  after_both h (failed p) f = refl
  after_both h (done s) f = go (f s)
    where
      go : (o : Work Standing) → work (work o (λ t. done (two s t))) h ≡ work o (λ t. h (two s t))
      go (full p) = refl
      go (failed p) = refl
      go (done t) = refl

  pub join_is : (p q : Query) → joined (both w room e None p q) ≡ evaluate w room e (QS at p q)
  unfolding evaluate joined both behind binding
  join_is p q = after_both _ (evaluate w room e p) _

  pub keep_is : (v : ℕ) (p q : Query) → kept (both w room e (Some v) p q) ≡ evaluate w room e (QT at v p q)
  unfolding evaluate kept both behind binding
  keep_is v p q = after_both _ (evaluate w room e p) _

  pub apply_is :
      (f : Function) (p q : Query) → applied w at f (both w room e None p q) ≡ evaluate w room e (QO at f p q)
  unfolding evaluate applied both behind binding
  apply_is f p q = after_both _ (evaluate w room e p) _
