-- An operator that is read ends after its offset and within the bytes, and its own fields are in their ranges.
--     operator_ends     of the operator at an offset
use Prim.Native.Nat.{ℕ, ◌+◌, ◌≤◌, ◌<◌}
use mathlib.Core.Path.{◌≡◌}
use mathlib.Core.Bool.{true, ◌&&◌}
use mathlib.Core.List.{List}
use native.Mathlib.Omega.{arith}
use borrow.Author.Tests.{leb-true}
use lib.Dec.{eqb, leb}
use lib.ListN.{length}
use lib.IntN.{ℤ}
use Rattle.cells.specs.Bytes.{word, int8, fits, Bytes}
use Rattle.laws.specs.Attempt.{Attempt, gives, attempt, Given}
use Rattle.meaning.specs.Query.{fragment_of}
use Rattle.codes.specs.Codes.{function_of}
use Rattle.meaning.specs.Plan.{Op, sized, field, attach_at, project_at, number_at, function_at, step_at}
use Rattle.meaning.specs.Plan.{operator_of, operator_at}
use Rattle.meaning.specs.Plan.{mark_rt, mark_ra, mark_rp, mark_ru, mark_rd, mark_rs, mark_rj, mark_rn, mark_rf}
use Rattle.meaning.specs.Plan.{mark_rc, mark_re}
use Rattle.meaning.specs.Plan.{mark_rk, mark_rx, mark_ro}
use Rattle.theorems.specs.PlanFields.{Own}
use Rattle.laws.proofs.Booleans.{both_true}
use Rattle.cells.proofs.Bytes.{word_bound}
use Rattle.codes.proofs.Numbers.{name_fits}
use Rattle.laws.proofs.Outcomes.{given_fails, given_gives, given_cond, given_provided, given_attempt, given_any}
use Rattle.plan_records.specs.Fields.{EndsWithin}
use Rattle.plan_records.proofs.Columns.{columns_length}

within : (lo hi n : ℕ) → leb lo n && leb n hi ≡ true → (lo ≤ n) × (n ≤ hi)
within lo hi n t =
    let (l, u) = both_true _ _ t in
    (leb-true lo n l, leb-true n hi u)

module _ (bs : List ℕ) (h : Bytes bs) (at : ℕ) where
  sized_ends :
      (n : ℕ) (a : Attempt Op) → 0 < n → (at + n ≤ length bs → Given Own a) → Given (EndsWithin bs at) (sized bs at n a)
  unfolding sized fits
  sized_ends n a z g =
      given_provided _
      (λ t.
      let l : at + n ≤ length bs = leb-true (at + n) (length bs) t in
      given_attempt (g l) (λ o k. given_gives (record { after = omega arith; within = omega arith; own = k })))

  -- an operator whose fields have no range of their own
  plain : (n : ℕ) (o : Op) → 0 < n → Own o → Given (EndsWithin bs at) (sized bs at n (gives o))
  plain n o z k = sized_ends n (gives o) z (λ l. given_gives k)

  attach_own : (z : ℤ) → Given Own (attach_at bs at z)
  unfolding attach_at Own
  attach_own z = given_provided _ (λ t. given_gives t)

  project_own : (n : ℕ) → at + (5 + n) ≤ length bs → Given Own (project_at bs at n)
  unfolding project_at Own
  project_own n l =
      given_provided _
      (λ t. given_gives (omega (arith, within 1 6 n t, columns_length bs (at + 5) n (omega arith))))

  number_own : (n : ℕ) → at + (6 + n) ≤ length bs → Given Own (number_at bs at n)
  unfolding number_at Own
  number_own n l =
      given_provided _
      (λ t.
      let c = columns_length bs (at + 6) n (omega arith) in
      given_gives (omega (arith, within 1 2 n t), omega (arith, within 1 2 n t)))

  function_ends : (f : ℕ) → Given (EndsWithin bs at) (function_at bs at f)
  unfolding function_at Own
  function_ends f =
      given_cond (eqb f 7) (plain 6 _ (omega arith) tt)
      (sized_ends 7 _ (omega arith) (λ l. given_any (function_of f) (λ g. given_gives tt)))

  step_own : Given Own (step_at bs at)
  unfolding step_at Own
  step_own =
      given_any _
      (λ x.
      given_attempt (name_fits (field bs at 5) (word bs (at + 6) 2) (word_bound bs h (at + 6) 2))
      (λ y k. given_gives k))

  root_own : (t k : ℕ) → Given Own (attempt (fragment_of k) (λ k. gives (Op.RO t k)))
  unfolding fragment_of Own
  root_own t k = given_attempt (given_provided _ (λ e. given_gives (within 1 255 k e))) (λ j i. given_gives i)

  operator_given : (mark : ℕ) → Given (EndsWithin bs at) (operator_of bs at mark)
  unfolding operator_of Own
  operator_given mark =
      given_cond (eqb mark mark_rt) (plain 2 _ (omega arith) tt)
      (given_cond (eqb mark mark_ra) (sized_ends 12 _ (omega arith) (λ l. attach_own (int8 bs (at + 4))))
      (given_cond (eqb mark mark_rp) (sized_ends (5 + field bs at 4) _ (omega arith) (project_own (field bs at 4)))
      (given_cond (eqb mark mark_ru) (plain 6 _ (omega arith) tt)
      (given_cond (eqb mark mark_rd) (plain 6 _ (omega arith) tt)
      (given_cond (eqb mark mark_rs) (plain 5 _ (omega arith) tt)
      (given_cond (eqb mark mark_rj) (plain 8 _ (omega arith) tt)
      (given_cond (eqb mark mark_rn) (sized_ends (6 + field bs at 5) _ (omega arith) (number_own (field bs at 5)))
      (given_cond (eqb mark mark_rf) (function_ends (field bs at 4))
      (given_cond (eqb mark mark_rc) (plain 5 _ (omega arith) tt)
      (given_cond (eqb mark mark_re) (plain 4 _ (omega arith) tt)
      (given_cond (eqb mark mark_rk) (plain 5 _ (omega arith) tt)
      (given_cond (eqb mark mark_rx) (sized_ends 8 _ (omega arith) (λ l. step_own))
      (given_cond (eqb mark mark_ro) (sized_ends 5 _ (omega arith) (λ l. root_own _ (field bs at 4)))
      given_fails)))))))))))))

  pub operator_ends : (x : Op × ℕ) → operator_at bs at ≡ gives x → EndsWithin bs at x
  unfolding operator_at
  operator_ends x e = (operator_given (word bs at 2)).given x e
