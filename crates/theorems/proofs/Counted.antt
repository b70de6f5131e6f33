-- The counted evaluation agrees with the meaning, and the runner with running the operators (document 01, 'Room').
-- For the evaluation (evaluate, eval) and for the runner (running, run):
--     evaluate_done, evaluate_failed      an answer other than 6 is the meaning's
--     more_room, less_room                the count of a result is exactly the room that it needs
--     evaluate_gives, evaluate_fails      what the meaning comes to decides the answer at every room
--     running_done, running_failed, running_fits, running_more, running_less, running_gives, running_fails     the same
use Prim.Native.Nat.{ℕ, ◌+◌, ◌-◌, ◌≤◌, ◌<◌, max}
use mathlib.Core.Path.{◌≡◌, refl, sym, ◌∙◌, ap, subst}
use mathlib.Core.List.{List, [], ◌∷◌, ◌++◌, append_assoc, append-nil}
use mathlib.Core.Bool.{Bool, true, false, cond}
use native.Mathlib.Omega.{arith}
use lib.IntN.{ℤ, pos}
use lib.ListN.{length}
use Rattle.laws.specs.Attempt.{Attempt, fails, gives, attempt, each, Work, full, failed, done, work, trying}
use Rattle.laws.specs.Attempt.{within}
use Rattle.meaning.specs.World.{World}
use Rattle.meaning.specs.Query.{Query, QL, QE, QR, QV, QS, QT, QF, QI, QO, QC, QD, QX}
use Rattle.meaning.specs.Meaning.{Env, bind, eval}
use Rattle.meaning.specs.Counted.{Standing, stand, adding, loop, evaluate}
use Rattle.meaning.specs.Plan.{Placed}
use Rattle.meaning.specs.Operators.{Table}
use Rattle.meaning.specs.Run.{run, cells, Filled, running}
use Rattle.laws.proofs.Outcomes.{fails_gives, gives_same, full_done, full_failed, failed_done}
use Rattle.laws.proofs.Outcomes.{attempt_gives}
use Rattle.theorems.proofs.Counts.{stood, trial, tested, measured, done_fits, done_more}
use Rattle.theorems.specs.Counts.{Measured, Ended}
use Rattle.theorems.proofs.Counts.{done_less}
use Rattle.theorems.specs.Counted.{Like, items, count, tables, filled, operators, Gives, Fails, like_failed}
use Rattle.theorems.specs.Counted.{like_full, like_done}

-- Like work after like work, an attempt in front, a test of the room in front
module _ {A B C D : Type 0} {how : A → B} {how' : C → D} where
  like_work :
      {m : Work A} {a : Attempt B} {f : A → Work C} (g : B → Attempt D)
      → Like how m a → ((x : A) → Like how' (f x) (g (how x))) → Like how' (work m f) (attempt a g)
  unfolding work attempt
  like_work g like_full k = like_full
  like_work g like_failed k = like_failed
  like_work {f = f} g (like_done {x = x} e) k = subst (λ (y : B). Like how' (f x) (g y)) e (k x)

module _ {C D : Type 0} {how : C → D} where
  like_trying :
      {A : Type 0} {f : A → Work C} {g : A → Attempt D} (at : ℕ) (a : Attempt A)
      → ((x : A) → Like how (f x) (g x)) → Like how (trying at a f) (attempt a g)
  unfolding trying attempt
  like_trying at fails k = like_failed
  like_trying at (gives x) k = k x

  like_within : {m : Work C} {a : Attempt D} (b : Bool) (at : ℕ) → Like how m a → Like how (within b at m) a
  unfolding within
  like_within true at h = h
  like_within false at h = like_full

-- the last of the attempts
like_last :
    {C D : Type 0} {how : C → D} {f : D → Work C} (at : ℕ) (a : Attempt D) → ((y : D) → Like how (f y) (gives y))
    → Like how (trying at a f) a
like_last {how = how} at a k = subst (Like how _) (attempt_gives a) (like_trying at a k)

like_either :
    {A B : Type 0} {how : A → B} {m n : Work A} {a b : Attempt B} (t : Bool)
    → Like how m a → Like how n b → Like how (cond t m n) (cond t a b)
like_either true h k = h
like_either false h k = k

like_adding : (room at below : ℕ) (xs : List ℤ) → Like items (adding room at below xs) (gives xs)
unfolding adding stand
like_adding room at below xs = like_within _ at (like_done refl)

-- a new count changes nothing
like_counted :
    {m : Work Standing} {a : Attempt (List ℤ)} (count : Standing → ℕ) → Like items m a
    → Like items (work m (λ s. stand s.items (count s))) a
unfolding stand
like_counted {a = a} count h = subst (Like items _) (attempt_gives a) (like_work gives h (λ s. like_done refl))

-- results, then one turn's items, then the other turns' items
turns :
    (results : List ℤ) (a b : Attempt (List ℤ))
    → attempt a (λ ys. attempt b (λ zs. gives (results ++ ys ++ zs)))
    ≡ attempt (attempt a (λ ys. attempt b (λ zs. gives (ys ++ zs)))) (λ zs. gives (results ++ zs))
unfolding attempt
turns results fails b = refl
turns results (gives ys) fails = refl
turns results (gives ys) (gives zs) = ap gives (append_assoc results ys zs)

like_loop :
    (body : ℕ → ℤ → Work Standing) (f : ℤ → Attempt (List ℤ)) → ((room : ℕ) (x : ℤ) → Like items (body room x) (f x))
    → (room base count : ℕ) (results xs : List ℤ)
    → Like items (loop body room base count results xs) (attempt (each f xs) (λ zs. gives (results ++ zs)))
unfolding loop each stand
like_loop body f h room base count results [] = unfold attempt in like_done (sym (append-nil results))
like_loop body f h room base count results (x ∷ xs) =
    subst (Like items _) (turns results (f x) (each f xs))
    (like_work _ (h (room - (base + length results)) x)
    (λ s.
    like_loop body f h room base (max count (base + length results + s.count)) (results ++ s.items) xs))

pub evaluate_like : (w : World) (room : ℕ) (e : Env) (q : Query) → Like items (evaluate w room e q) (eval w e q)
unfolding evaluate eval stand
evaluate_like w room e (QL at z) = like_adding room at 0 (z ∷ [])
evaluate_like w room e (QE at) = like_done refl
evaluate_like w room e (QR at k) = like_trying at _ (λ r. like_adding room at 0 (r ∷ []))
evaluate_like w room e (QV at v) = like_adding room at 0 (e v)
evaluate_like w room e (QS at a b) =
    like_work _ (evaluate_like w room e a)
    (λ s. like_work _ (evaluate_like w (room - length s.items) e b) (λ t. like_done refl))
evaluate_like w room e (QT at v a b) =
    like_work _ (evaluate_like w room e a)
    (λ s. like_counted _ (evaluate_like w (room - length s.items) (bind v s.items e) b))
evaluate_like w room e (QF at v a b) =
    like_work _ (evaluate_like w room e a)
    (λ s. subst (Like items _) (attempt_gives _)
    (like_loop _ _ (λ left x. evaluate_like w left (bind v (x ∷ []) e) b) room (length s.items) s.count []
    s.items))
evaluate_like w room e (QI at c a b) =
    like_work _ (evaluate_like w room e c)
    (λ s. like_trying at _ (λ t. like_counted _ (like_either t (evaluate_like w room e a) (evaluate_like w room e b))))
evaluate_like w room e (QO at f a b) =
    like_work _ (evaluate_like w room e a)
    (λ s. like_work _ (evaluate_like w (room - length s.items) e b) (λ t. like_last at _ (λ xs. like_done refl)))
evaluate_like w room e (QC at a) =
    like_work _ (evaluate_like w room e a)
    (λ s. like_counted _ (like_adding room at 0 (pos (length s.items) ∷ [])))
evaluate_like w room e (QD at a) =
    like_work _ (evaluate_like w room e a) (λ s. like_last at _ (λ xs. like_done refl))
evaluate_like w room e (QX at x t a) =
    like_work _ (evaluate_like w room e a)
    (λ s. like_last at _ (λ xs. like_counted _ (like_adding room at (length s.items) xs)))

-- The runner: its count is the cells that the tables fill

pub running_like :
    (w : World) (room : ℕ) (ps : List Placed) (ts : List Table) (n : ℕ)
    → Like tables (running w room ps ts n) (run w (operators ps) ts)
unfolding running run
running_like w room [] ts n = like_done refl
running_like w room (p ∷ ps) ts n =
    like_trying p.at _ (λ t. like_within _ p.at (running_like w room ps (ts ++ (t ∷ [])) (n + cells p t)))

pub running_measured :
    (w : World) (ps : List Placed) (ts : List Table) (n : ℕ)
    → Measured n filled (λ f. Unit {0}) (λ room. running w room ps ts n)
unfolding running
running_measured w [] ts n = stood _ _ refl tt
running_measured w (p ∷ ps) ts n =
    trial n p.at
    (λ t _.
    tested n (n + cells p t) (n + cells p t) p.at (omega arith)
    (running_measured w ps (ts ++ (t ∷ [])) (n + cells p t)))

-- What likeness says of an answer

module _ {A B : Type 0} {how : A → B} where
  like_gives : {m : Work A} {a : Attempt B} (x : A) → Like how m a → m ≡ done x → a ≡ gives (how x)
  like_gives x (like_full {p = p}) e = absurd (full_done p x e)
  like_gives x (like_failed {p = p}) e = absurd (failed_done p x e)
  like_gives x (like_done {x = x'} {y = y} h) e = cc

  like_fails : {m : Work A} {a : Attempt B} (p : ℕ) → Like how m a → m ≡ failed p → a ≡ fails
  like_fails p (like_full {p = p'}) e = absurd (full_failed p' p e)
  like_fails p like_failed e = refl
  like_fails p (like_done {x = x} h) e = absurd (failed_done p x (sym e))

-- Measured work that is like an attempt at every room: what the attempt comes to decides the answer at each room

module _ {A B : Type 0} {c : ℕ} {cost : A → ℕ} {sound : A → Type 0} {how : A → B} {f : ℕ → Work A} {a : Attempt B}
    (m : Measured c cost sound f) (l : (room : ℕ) → Like how (f room) a) where
  like_outcome : Like how m.outcome a
  like_outcome = subst (λ (o : Work A). Like how o a) (m.enough m.need (omega arith)) (l m.need)

  giving : (y : B) → a ≡ gives y → Gives c cost how f y
  giving y e = go m.outcome m.ended like_outcome m.enough
    where
      go :
          (o : Work A) → Ended cost sound m.need o → Like how o a → ((room : ℕ) → m.need ≤ room → f room ≡ o)
          → Gives c cost how f y
      go (full p) d k en = absurd d
      go (failed p) d k en = absurd (fails_gives y (sym (like_fails p k refl) ∙ e))
      go (done x) d k en =
          record {
            result = x;
            given = gives_same (sym (like_gives x k refl) ∙ e);
            enough = λ room h. en room (omega (arith, d.0));
            short = λ room h s. m.short room h (omega (arith, d.0));
          }

  failing : a ≡ fails → Fails c f
  failing e = go m.outcome m.ended like_outcome m.enough
    where
      go :
          (o : Work A) → Ended cost sound m.need o → Like how o a → ((room : ℕ) → m.need ≤ room → f room ≡ o)
          → Fails c f
      go (full p) d k en = absurd d
      go (failed p) d k en = record { need = m.need; place = p; enough = en; short = m.short }
      go (done x) d k en = absurd (fails_gives (how x) (sym e ∙ like_gives x k refl))

-- The evaluation

module _ (w : World) (room : ℕ) (e : Env) (q : Query) where
  pub evaluate_done : (s : Standing) → evaluate w room e q ≡ done s → eval w e q ≡ gives s.items
  evaluate_done s d = like_gives s (evaluate_like w room e q) d

  pub evaluate_failed : (p : ℕ) → evaluate w room e q ≡ failed p → eval w e q ≡ fails
  evaluate_failed p d = like_fails p (evaluate_like w room e q) d

  pub more_room :
      (s : Standing) → evaluate w room e q ≡ done s → (room' : ℕ) → s.count ≤ room' → evaluate w room' e q ≡ done s
  more_room s d room' h = done_more (measured w e q) room s (omega arith) d room' h

  pub less_room :
      (s : Standing) → evaluate w room e q ≡ done s → (room' : ℕ) → room' < s.count
      → (p : ℕ) × (evaluate w room' e q ≡ full p)
  less_room s d room' h = done_less (measured w e q) room s (omega arith) d room' (omega arith) h

-- 6 exactly where the count passes the room before anything has failed
module _ (w : World) (e : Env) (q : Query) where
  pub evaluate_gives :
      (xs : List ℤ) → eval w e q ≡ gives xs → Gives 0 count items (λ room. evaluate w room e q) xs
  evaluate_gives xs d = giving (measured w e q) (λ room. evaluate_like w room e q) xs d

  pub evaluate_fails : eval w e q ≡ fails → Fails 0 (λ room. evaluate w room e q)
  evaluate_fails d = failing (measured w e q) (λ room. evaluate_like w room e q) d

-- The runner

module _ (w : World) (room : ℕ) (ps : List Placed) (ts : List Table) (n : ℕ) where
  pub running_done : (f : Filled) → running w room ps ts n ≡ done f → run w (operators ps) ts ≡ gives f.tables
  running_done f d = like_gives f (running_like w room ps ts n) d

  pub running_failed : (p : ℕ) → running w room ps ts n ≡ failed p → run w (operators ps) ts ≡ fails
  running_failed p d = like_fails p (running_like w room ps ts n) d

  pub running_fits : (f : Filled) → n ≤ room → running w room ps ts n ≡ done f → f.filled ≤ room
  running_fits f h d = done_fits (running_measured w ps ts n) room f h d

  pub running_more :
      (f : Filled) → n ≤ room → running w room ps ts n ≡ done f → (room' : ℕ) → f.filled ≤ room'
      → running w room' ps ts n ≡ done f
  running_more f h d room' l = done_more (running_measured w ps ts n) room f h d room' l

  pub running_less :
      (f : Filled) → n ≤ room → running w room ps ts n ≡ done f → (room' : ℕ) → n ≤ room' → room' < f.filled
      → (p : ℕ) × (running w room' ps ts n ≡ full p)
  running_less f h d room' h' l = done_less (running_measured w ps ts n) room f h d room' h' l

module _ (w : World) (ps : List Placed) (ts : List Table) (n : ℕ) where
  pub running_gives :
      (us : List Table) → run w (operators ps) ts ≡ gives us → Gives n filled tables (λ room. running w room ps ts n) us
  running_gives us d = giving (running_measured w ps ts n) (λ room. running_like w room ps ts n) us d

  pub running_fails : run w (operators ps) ts ≡ fails → Fails n (λ room. running w room ps ts n)
  running_fails d = failing (running_measured w ps ts n) (λ room. running_like w room ps ts n) d
