-- Work answers 6 exactly where the room is short of what it takes (document 01, 'Room').
--     Exact room k m            work m, in this room, answers 6 where the room is below k, and only there
--     exact-..                  the same through each form of work
--     evaluate_exact            the evaluation takes the items that stand at once
--     running_exact             the run takes the cells that the tables fill
--     standing_count            where the evaluation is done, its count is what stands at once
--     filling_filled            where the run is done, the cells filled are what is filled
use Prim.Native.Nat.{ℕ, ◌+◌, ◌-◌, ◌≤◌, ◌<◌, max}
use mathlib.Core.Path.{◌≡◌, refl, sym, ◌∙◌, subst}
use mathlib.Core.List.{List, [], ◌∷◌, ◌++◌}
use mathlib.Core.Bool.{Bool, true, false, cond}
use native.Mathlib.Omega.{arith}
use borrow.Author.Tests.{leb-true, leb-false, ltb-true, ltb-false}
use lib.Dec.{leb, ltb}
use lib.IntN.{ℤ, pos}
use lib.ListN.{length, length-append}
use Rattle.laws.proofs.Booleans.{by_cases}
use Rattle.laws.specs.Attempt.{Attempt, fails, gives, Work, full, failed, done, work, trying, within}
use Rattle.meaning.specs.World.{World}
use Rattle.meaning.specs.Query.{Query, QL, QE, QR, QV, QS, QT, QF, QI, QO, QC, QD, QX}
use Rattle.meaning.specs.Meaning.{Env, bind, eval}
use Rattle.meaning.specs.Counted.{Standing, stand, adding, loop, evaluate}
use Rattle.meaning.specs.Plan.{Placed}
use Rattle.meaning.specs.Operators.{Table, make}
use Rattle.meaning.specs.Run.{cells, Filled, running}
use Rattle.laws.proofs.Outcomes.{full_done, full_failed}
use Rattle.theorems.proofs.Counts.{counts}
use Rattle.theorems.specs.Counts.{Full}
use Rattle.theorems.proofs.Counted.{evaluate_like, more_room, less_room}
use Rattle.theorems.specs.Counted.{like_failed, like_done}
use Rattle.theorems.specs.Counted.{Like, items}
use Rattle.theorems.proofs.Counted.{running_more, running_less}
use Rattle.agreement.specs.Room.{after, turns, standing, filling}

pub data Exact {A : Type 0} (room k : ℕ) : Work A → Type 0 where
  short : {p : ℕ} → room < k → Exact room k (full p)
  failing : {p : ℕ} → k ≤ room → Exact room k (failed p)
  ending : {x : A} → k ≤ room → Exact room k (done x)

module _ {A : Type 0} {room : ℕ} where
  -- another number on the same side of the room
  exact_as : {k : ℕ} {m : Work A} (j : ℕ) → (room < k → room < j) → (k ≤ room → j ≤ room) → Exact room k m
      → Exact room j m
  exact_as j f g (short h) = short (f h)
  exact_as j f g (failing h) = failing (g h)
  exact_as j f g (ending h) = ending (g h)

  -- in the room that n items below it leave
  exact_above : {k : ℕ} {m : Work A} (n : ℕ) → n ≤ room → Exact (room - n) k m → Exact room (n + k) m
  exact_above n h (short l) = short (omega arith)
  exact_above n h (failing l) = failing (omega arith)
  exact_above n h (ending l) = ending (omega arith)

  exact_trying : {B : Type 0} {f : B → Work A} {k : B → ℕ} (at : ℕ) (a : Attempt B)
      → ((x : B) → a ≡ gives x → Exact room (k x) (f x)) → Exact room (after a k) (trying at a f)
  unfolding after trying
  exact_trying at fails h = failing (omega arith)
  exact_trying at (gives x) h = h x refl

  exact_either : {k j : ℕ} {m n : Work A} (t : Bool) → Exact room k m → Exact room j n
      → Exact room (cond t k j) (cond t m n)
  exact_either true h i = h
  exact_either false h i = i

  -- work, then work for what it gives
  exact_work : {B C : Type 0} {how : B → C} {k : ℕ} {m : Work B} {a : Attempt C} {f : B → Work A} (j : C → ℕ)
      → Exact room k m → Like how m a → ((x : B) → m ≡ done x → Exact room (j (how x)) (f x))
      → Exact room (max k (after a j)) (work m f)
  unfolding after work
  exact_work j (short h) l g = short (omega arith)
  exact_work j (failing h) like_failed g = failing (omega arith)
  exact_work {k = k} {f = f} j (ending {x = x} h) (like_done {y = y} e) g =
      exact_as (max k (j y)) (λ l. omega arith) (λ l. omega arith)
      (subst (λ z. Exact room (j z) (f x)) e (g x refl))

  -- .. work that takes no room
  exact_then : {B : Type 0} {k : ℕ} {m : Work B} {f : B → Work A} → Exact room k m → ((x : B) → Exact room 0 (f x))
      → Exact room k (work m f)
  unfolding work
  exact_then (short h) g = short h
  exact_then (failing h) g = failing h
  exact_then {k = k} (ending {x = x} h) g = exact_as k (λ l. absurd (omega arith)) (λ l. h) (g x)

  exact_tried : {B : Type 0} {f : B → Work A} (at : ℕ) (a : Attempt B) → ((x : B) → Exact room 0 (f x))
      → Exact room 0 (trying at a f)
  unfolding trying
  exact_tried at fails h = failing (omega arith)
  exact_tried at (gives x) h = h x

-- a test of the room first
exact_within : {A : Type 0} {room k : ℕ} {m : Work A} (n at : ℕ) → (room < n → room < k)
    → (n ≤ room → Exact room k m) → Exact room k (within (leb n room) at m)
unfolding within
exact_within {room = room} {k = k} {m = m} n at f g =
    by_cases (leb n room) (λ e. rw e (g (leb-true n room e))) (λ e. rw e (short (f (leb-false n room e))))

exact_adding : (room at below : ℕ) (xs : List ℤ) → Exact room (below + length xs) (adding room at below xs)
unfolding adding stand
exact_adding room at below xs = exact_within (below + length xs) at (λ l. l) (λ l. ending l)

-- items that stand already
exact_stand : {room : ℕ} (xs : List ℤ) (k : ℕ) → Exact room 0 (stand xs k)
unfolding stand
exact_stand xs k = ending (omega arith)

-- The turns of a `for`

module _ (body : ℕ → ℤ → Work Standing) (f : ℤ → Attempt (List ℤ)) (count : ℤ → ℕ)
    (exact : (room : ℕ) (x : ℤ) → Exact room (count x) (body room x))
    (like : (room : ℕ) (x : ℤ) → Like items (body room x) (f x))
    (fits : (room : ℕ) (x : ℤ) (s : Standing) → body room x ≡ done s → length s.items ≤ room) where
  exact_loop : (room base c : ℕ) (results xs : List ℤ) → base + length results ≤ room
      → Exact room (turns f count (base + length results) xs) (loop body room base c results xs)
  unfolding loop turns stand
  exact_loop room base c results [] h = ending (omega arith)
  exact_loop room base c results (x ∷ xs) h =
      let n = base + length results in
      exact_work (λ ys. turns f count (n + length ys) xs) (exact_above n h (exact (room - n) x)) (like (room - n) x)
      (λ s d.
      let e : base + length (results ++ s.items) ≡ n + length s.items =
      omega (arith, length-append results s.items) in
      subst
      (λ (k : ℕ).
      Exact room (turns f count k xs)
      (loop body room base (max c (n + s.count)) (results ++ s.items) xs)) e
      (exact_loop room base (max c (n + s.count)) (results ++ s.items) xs (omega (arith, e, fits (room - n) x s d))))

  exact_turns : (room base c : ℕ) (xs : List ℤ) → base ≤ room
      → Exact room (turns f count base xs) (loop body room base c [] xs)
  exact_turns room base c xs h =
      let e : base + length {A = ℤ} [] ≡ base = omega arith in
      subst (λ (k : ℕ). Exact room (turns f count k xs) (loop body room base c [] xs)) e
      (exact_loop room base c [] xs (omega arith))

-- The evaluation

fits : (w : World) (room : ℕ) (e : Env) (q : Query) (s : Standing) → evaluate w room e q ≡ done s
    → length s.items ≤ room
fits w room e q s d = omega (arith, (counts w room e q s d).0, (counts w room e q s d).1)

pub evaluate_exact : (w : World) (room : ℕ) (e : Env) (q : Query) → Exact room (standing w e q) (evaluate w room e q)
unfolding evaluate standing
evaluate_exact w room e (QL at z) = exact_adding room at 0 (z ∷ [])
evaluate_exact w room e (QE at) = exact_stand [] 0
evaluate_exact w room e (QR at k) = exact_trying at (w.root k) (λ r d. exact_adding room at 0 (r ∷ []))
evaluate_exact w room e (QV at v) =
    exact_as (length (e v)) (λ l. omega arith) (λ l. omega arith) (exact_adding room at 0 (e v))
evaluate_exact w room e (QS at a b) =
    exact_work _ (evaluate_exact w room e a) (evaluate_like w room e a)
    (λ s d. exact_then
    (exact_above (length s.items) (fits w room e a s d) (evaluate_exact w (room - length s.items) e b))
    (λ t. exact_stand _ _))
evaluate_exact w room e (QT at v a b) =
    exact_work (λ xs. length xs + standing w (bind v xs e) b) (evaluate_exact w room e a) (evaluate_like w room e a)
    (λ s d. exact_then
    (exact_above (length s.items) (fits w room e a s d)
    (evaluate_exact w (room - length s.items) (bind v s.items e) b))
    (λ t. exact_stand _ _))
evaluate_exact w room e (QF at v a b) =
    exact_work _ (evaluate_exact w room e a) (evaluate_like w room e a)
    (λ s d.
    exact_turns _ (λ x. eval w (bind v (x ∷ []) e) b) (λ x. standing w (bind v (x ∷ []) e) b)
    (λ left x. evaluate_exact w left (bind v (x ∷ []) e) b) (λ left x. evaluate_like w left (bind v (x ∷ []) e) b)
    (λ left x. fits w left (bind v (x ∷ []) e) b) room (length s.items) s.count s.items (fits w room e a s d))
evaluate_exact w room e (QI at c a b) =
    exact_work _ (evaluate_exact w room e c) (evaluate_like w room e c)
    (λ s d. exact_trying at (w.truth s.items)
    (λ t _. exact_then (exact_either t (evaluate_exact w room e a) (evaluate_exact w room e b))
    (λ u. exact_stand _ _)))
evaluate_exact w room e (QO at f a b) =
    exact_work _ (evaluate_exact w room e a) (evaluate_like w room e a)
    (λ s d. exact_then
    (exact_above (length s.items) (fits w room e a s d) (evaluate_exact w (room - length s.items) e b))
    (λ t. exact_tried at _ (λ xs. exact_stand _ _)))
evaluate_exact w room e (QC at a) =
    exact_work (λ xs. 1) (evaluate_exact w room e a) (evaluate_like w room e a)
    (λ s d. exact_then (exact_adding room at 0 (pos (length s.items) ∷ [])) (λ t. exact_stand _ _))
evaluate_exact w room e (QD at a) =
    exact_then (evaluate_exact w room e a) (λ s. exact_tried at _ (λ xs. exact_stand _ _))
evaluate_exact w room e (QX at x t a) =
    exact_work (λ xs. after (w.step x t xs) (λ ys. length xs + length ys)) (evaluate_exact w room e a)
    (evaluate_like w room e a)
    (λ s d. exact_trying at (w.step x t s.items)
    (λ ys _. exact_then (exact_adding room at (length s.items) ys) (λ u. exact_stand _ _)))

-- The run

run_exact : (w : World) (room : ℕ) (ps : List Placed) (ts : List Table) (n : ℕ) → n ≤ room
    → Exact room (n + filling w ps ts) (running w room ps ts n)
unfolding running filling after trying
run_exact w room [] ts n h = ending (omega arith)
run_exact w room (p ∷ ps) ts n h =
    go (λ t. filling w ps (ts ++ (t ∷ []))) (make w p.op ts)
    (λ t. run_exact w room ps (ts ++ (t ∷ [])) (n + cells p t))
  where
    go : {g : Table → Work Filled} (k : Table → ℕ) (a : Attempt Table)
        → ((t : Table) → n + cells p t ≤ room → Exact room (n + cells p t + k t) (g t))
        → Exact room (n + after a (λ t. cells p t + k t))
        (trying p.at a (λ t. within (leb (n + cells p t) room) p.at (g t)))
    go k fails ih = failing (omega arith)
    go k (gives t) ih =
        exact_within (n + cells p t) p.at (λ l. omega arith)
        (λ l. exact_as (n + (cells p t + k t)) (λ s. omega arith) (λ s. omega arith) (ih t l))

pub running_exact : (w : World) (room : ℕ) (ps : List Placed) → Exact room (filling w ps []) (running w room ps [] 0)
running_exact w room ps =
    exact_as (filling w ps []) (λ l. omega arith) (λ l. omega arith) (run_exact w room ps [] 0 (omega arith))

-- What an exact number says

module _ {A : Type 0} {room k : ℕ} where
  pub exact_short : {m : Work A} → Exact room k m → room < k → Full m
  exact_short (short {p = p} h) l = (p, refl)
  exact_short (failing h) l = absurd (omega arith)
  exact_short (ending h) l = absurd (omega arith)

  pub exact_enough : {m : Work A} → Exact room k m → k ≤ room → Full m → ⊥
  exact_enough (short h) l f = omega arith
  exact_enough (failing {p = p} h) l f = full_failed f.0 p (sym f.1)
  exact_enough (ending {x = x} h) l f = full_done f.0 x (sym f.1)

-- two numbers that are exact in every room are one
exact_one : {A : Type 0} {f : ℕ → Work A} (j k : ℕ) → ((room : ℕ) → Exact room j (f room))
    → ((room : ℕ) → k ≤ room → Full (f room) → ⊥) → ((room : ℕ) → room < k → Full (f room)) → j ≡ k
exact_one j k e g h =
    by_cases (ltb j k)
    (λ l. absurd (exact_enough (e j) (omega arith) (h j (ltb-true j k l))))
    (λ l. by_cases (ltb k j)
    (λ s. absurd (g k (omega arith) (exact_short (e k) (ltb-true k j s))))
    (λ s. omega (arith, ltb-false j k l, ltb-false k j s)))

-- what is counted in an answer

pub standing_count : (w : World) (room : ℕ) (e : Env) (q : Query) (s : Standing) → evaluate w room e q ≡ done s
    → standing w e q ≡ s.count
standing_count w room e q s d =
    exact_one (standing w e q) s.count (λ left. evaluate_exact w left e q)
    (λ left h f. full_done f.0 s (sym f.1 ∙ more_room w room e q s d left h))
    (λ left h. less_room w room e q s d left h)

pub filling_filled : (w : World) (room : ℕ) (ps : List Placed) (f : Filled) → running w room ps [] 0 ≡ done f
    → filling w ps [] ≡ f.filled
filling_filled w room ps f d =
    exact_one (filling w ps []) f.filled (λ left. running_exact w left ps)
    (λ left h g. full_done g.0 f (sym g.1 ∙ running_more w room ps [] 0 f (omega arith) d left h))
    (λ left h. running_less w room ps [] 0 f (omega arith) d left (omega arith) h)
