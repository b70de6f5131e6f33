-- Operators run one after another, and what the tables then hold.
--     Extends ts us                   us are the tables ts and further ones
--     Then w ts k n f rows ps r a     operators ps simulate a on any k tables that extend ts and have the rows at n
--     run_append, tieless_append      operators in two parts
--     has_kept, has_new, has_as       tables that are there stay; the table that is made; its rows as other rows
--     sim_end, sim_then, sim_try, sim_op    no operator; two parts; one operator, failing or not. What comes next is
--                                     told which rows were given
use Prim.Native.Nat.{ℕ, suc, ◌+◌, ◌≤◌, ◌<◌}
use mathlib.Core.Path.{◌≡◌, refl, sym, ap, ap₂, ◌∙◌, subst}
use mathlib.Core.List.{List, [], ◌∷◌, ◌++◌, map, append-nil, append_assoc}
use native.Mathlib.Omega.{arith}
use lib.ListN.{length, get_or, length-append, get_or-append}
use lib.Seq.{get_or_at}
use Rattle.laws.specs.Attempt.{Attempt, fails, gives, attempt}
use Rattle.laws.proofs.Outcomes.{fails_gives, gives_same}
use Rattle.meaning.specs.World.{World}
use Rattle.meaning.specs.Plan.{Op}
use Rattle.meaning.specs.Operators.{Row, Table, make}
use Rattle.meaning.specs.Run.{run}
use Rattle.agreement.specs.Typed.{Triple}
use Rattle.agreement.specs.Encoded.{encode, Has, HasRows}
use Rattle.agreement.specs.Tieless.{RowsApart, Tieless}
use Rattle.agreement.specs.Machine.{MachineRan, Simulates}
use Rattle.agreement.proofs.EncodedLists.{mapped_once}

pub record Extends (ts us : List Table) : Type 0 where
  pub longer : length ts ≤ length us
  pub kept : (k : ℕ) → k < length ts → get_or us k [] ≡ get_or ts k []

pub extends_self : (ts : List Table) → Extends ts ts
extends_self ts = record { longer = omega arith; kept = λ k h. refl }

pub extends_append : (ts us : List Table) → Extends ts (ts ++ us)
extends_append ts us =
    record {
      longer = omega (arith, length-append ts us);
      kept = λ k h. get_or-append ts us [] k h;
    }

pub extends_then : {ts us vs : List Table} → Extends ts us → Extends us vs → Extends ts vs
extends_then x y =
    record {
      longer = omega (arith, x.longer, y.longer);
      kept = λ k h. y.kept k (omega (arith, x.longer)) ∙ x.kept k h;
    }

-- tables that are there stay as they are
pub has_kept : {A : Type 0} {ts us : List Table} {n : ℕ} {f : A → Row} {rows : List A}
    → Extends ts us → Has ts n f rows → Has us n f rows
has_kept {n} x h = record { there = omega (arith, x.longer, h.there); holds = x.kept n h.there ∙ h.holds }

has_new : {A : Type 0} (ts : List Table) (n : ℕ) (f : A → Row) (rows : List A)
    → length ts ≡ n → Has (ts ++ (map f rows ∷ [])) n f rows
has_new ts n f rows e =
    record { there = omega (arith, length-append ts (map f rows ∷ [])); holds = get_or_at ts (map f rows) [] [] n e }

-- the same cells, as rows of another kind
pub has_as : {A B : Type 0} {ts : List Table} {n : ℕ} {f : A → Row} {rows : List A} (g : B → Row) (h : A → B)
    → ((r : A) → g (h r) ≡ f r) → Has ts n f rows → Has ts n g (map h rows)
has_as {f} {rows} g h e t = record { there = t.there; holds = t.holds ∙ sym (mapped_once g h f e rows) }

abbrev is_failing : Attempt (List Triple) → Type 0
is_failing fails = Unit {0}
is_failing (gives rows) = ⊥

abbrev given : Attempt (List Triple) → List Triple
given fails = []
given (gives rows) = rows

module _ (w : World) where
  pub run_append : (os ps : List Op) (ts : List Table)
      → run w (os ++ ps) ts ≡ attempt (run w os ts) (λ us. run w ps us)
  unfolding run attempt
  run_append [] ps ts = refl
  run_append (o ∷ os) ps ts = go (make w o ts) (λ t. run_append os ps (ts ++ (t ∷ [])))
    where
      go : (a : Attempt Table)
          → ((t : Table)
          → run w (os ++ ps) (ts ++ (t ∷ [])) ≡ attempt (run w os (ts ++ (t ∷ []))) (λ us. run w ps us))
          → attempt a (λ t. run w (os ++ ps) (ts ++ (t ∷ [])))
          ≡ attempt (attempt a (λ t. run w os (ts ++ (t ∷ [])))) (λ us. run w ps us)
      go fails h = refl
      go (gives t) h = h t

  tieless_append : (os ps : List Op) (ts : List Table) → Tieless w os ts
      → ((us : List Table) → run w os ts ≡ gives us → Tieless w ps us) → Tieless w (os ++ ps) ts
  unfolding run attempt
  tieless_append [] ps ts h k = k ts refl
  tieless_append (o ∷ os) ps ts h k =
      (h.0, λ t e. tieless_append os ps (ts ++ (t ∷ [])) (h.1 t e) (λ us d. k us (rw e d)))

  run_one : (o : Op) (ts : List Table) (t : Table) → make w o ts ≡ gives t
      → run w (o ∷ []) ts ≡ gives (ts ++ (t ∷ []))
  unfolding run attempt
  run_one o ts t e = rw e

  run_fails : (o : Op) (os : List Op) (ts : List Table) → make w o ts ≡ fails → run w (o ∷ os) ts ≡ fails
  unfolding run attempt
  run_fails o os ts e = rw e

  sim_gives : (os : List Op) (n : ℕ) (ts : List Table) (rows : List Triple) → Tieless w os ts
      → MachineRan w os n ts rows
      → Simulates w os n ts (gives rows)
  sim_gives os n ts rows h r =
      record {
        gave = λ us e. subst (MachineRan w os n ts) (ap given e) r;
        failed = λ e. absurd (subst is_failing (sym e) tt);
        apart = h;
      }

  sim_fails : (os : List Op) (n : ℕ) (ts : List Table) → Tieless w os ts → run w os ts ≡ fails
      → Simulates w os n ts fails
  sim_fails os n ts h e = record { gave = λ us d. absurd (subst is_failing d tt); failed = λ d. e; apart = h }

  -- what stands behind operators that have run
  behind : (os ps : List Op) (n : ℕ) (ts made : List Table) (a : Attempt (List Triple))
      → Tieless w os ts → run w os ts ≡ gives (ts ++ made) → length made ≡ length os
      → Simulates w ps n (ts ++ made) a → Simulates w (os ++ ps) n ts a
  unfolding attempt
  behind os ps n ts made a h e k s =
      record {
        gave = λ rows d. further rows (s.gave rows d);
        failed = λ d. run_append os ps ts ∙ rw e (s.failed d);
        apart = tieless_append os ps ts h (λ us d. subst (Tieless w ps) (gives_same (sym e ∙ d)) s.apart);
      }
    where
      further : (rows : List Triple) → MachineRan w ps n (ts ++ made) rows → MachineRan w (os ++ ps) n ts rows
      further rows r =
          record {
            made = made ++ r.made;
            runs = run_append os ps ts ∙ rw e (r.runs ∙ ap gives (append_assoc ts made r.made));
            long = length-append made r.made ∙ ap₂ ◌+◌ k r.long ∙ sym (length-append os ps);
            has = subst (λ (us : List Table). HasRows us n rows) (append_assoc ts made r.made) r.has;
          }

  pub sim_end : {ts : List Table} {n : ℕ} {rows : List Triple} → HasRows ts n rows → Simulates w [] n ts (gives rows)
  unfolding run
  sim_end {ts} {n} {rows} h =
      sim_gives [] n ts rows tt
      (record {
        made = [];
        runs = ap gives (sym (append-nil ts));
        long = refl;
        has = subst (λ (us : List Table). HasRows us n rows) (sym (append-nil ts)) h;
      })

  abbrev pub Then :
      {A : Type 0} → List Table → ℕ → ℕ → (A → Row) → List A → List Op → ℕ → Attempt (List Triple) → Type 0
  Then ts k n f rows ps r a =
      (us : List Table) → Extends ts us → length us ≡ k → Has us n f rows → Simulates w ps r us a

  pub sim_then : {os ps : List Op} {n r : ℕ} {ts : List Table} {a : Attempt (List Triple)}
      {k : List Triple → Attempt (List Triple)} {m : ℕ} → length ts ≡ m → Simulates w os n ts a
      → ((rows : List Triple) → a ≡ gives rows → Then ts (m + length os) n encode rows ps r (k rows))
      → Simulates w (os ++ ps) r ts (attempt a k)
  unfolding attempt
  sim_then {os} {ps} {n} {r} {ts} {a = fails} {k} {m} e s h =
      sim_fails (os ++ ps) r ts
      (tieless_append os ps ts s.apart (λ us d. absurd (fails_gives us (sym (s.failed refl) ∙ d))))
      (run_append os ps ts ∙ rw (s.failed refl))
  sim_then {os} {ps} {n} {r} {ts} {a = gives rows} {k} {m} e s h =
      let g = s.gave rows refl in
      behind os ps r ts g.made (k rows) s.apart g.runs g.long
      (h rows refl (ts ++ g.made) (extends_append ts g.made)
      (length-append ts g.made ∙ ap₂ ◌+◌ e g.long) g.has)

  module _ {A : Type 0} {f : A → Row} {o : Op} {ts : List Table} {os : List Op} {r n : ℕ} where
    pub sim_op : {a : Attempt (List Triple)} {rows : List A} → make w o ts ≡ gives (map f rows) → RowsApart o ts
        → length ts ≡ n → Then ts (suc n) n f rows os r a → Simulates w (o ∷ os) r ts a
    sim_op {a} {rows} e d l h =
        behind (o ∷ []) os r ts (map f rows ∷ []) a (d, λ t q. tt) (run_one o ts (map f rows) e) refl
        (h (ts ++ (map f rows ∷ [])) (extends_append ts (map f rows ∷ []))
        (omega (arith, length-append ts (map f rows ∷ []))) (has_new ts n f rows l))

    pub sim_try : {k : List A → Attempt (List Triple)} (a : Attempt (List A))
        → make w o ts ≡ attempt a (λ t. gives (map f t)) → RowsApart o ts → length ts ≡ n
        → ((rows : List A) → a ≡ gives rows → Then ts (suc n) n f rows os r (k rows))
        → Simulates w (o ∷ os) r ts (attempt a k)
    unfolding attempt
    sim_try fails e d l h =
        sim_fails (o ∷ os) r ts (d, λ t q. absurd (fails_gives t (sym e ∙ q))) (run_fails o os ts e)
    sim_try (gives rows) e d l h = sim_op e d l (h rows refl)
