-- The runner's items, kept in cells of their own, are printed as they stood in the runner's cells.
--     refusal_told    a refusal that is handed on is told
--     items_of        the items of an answer's last table
--     kept_none       after a refusal nothing is kept
--     not_asked, asked           after 6 the evaluator is not asked; else what it tells and leaves
--     rows_stand      the kept rows stand there
--     rows_room       the bytes that are enough for their lines
--     text_kept       the text of the kept items
use Rattle.std.specs.Prelude.{Result, Ok, Err}
use Rattle.std.specs.Result.{IsErrAnd}
use Rattle.std.proofs.lemmas.Result.{err_from_is_err_and}
use Prim.Native.Nat.{ℕ, ◌+◌, ◌*◌, ◌≤◌}
use mathlib.Core.Path.{◌≡◌, refl, sym, ap, ◌∙◌, subst}
use mathlib.Core.List.{List}
use mathlib.Core.Bool.{false}
use native.Mathlib.Omega.{arith}
use lib.IntN.{ℤ}
use lib.ListN.{length, get_or, take, drop}
use lib.Seq.{take_at, take_all}
use lib.Dec.{eqb}
use Rattle.codes.specs.Refusals.{number_of}
use Rattle.codes.specs.declared.refusals.Reason.{Reason}
use Rattle.codes.specs.declared.refusals.Refusal.{Refusal}
use Rattle.laws.specs.Rows.{rows_at, laid}
use Rattle.laws.proofs.Rows.{laid_nothing}
use Rattle.meaning.specs.Operators.{column}
use Rattle.meaning.specs.Calls.{Answer, gives, refused, Outcome, evaluate_call}
use Rattle.running.specs.declared.Tables.{Tables}
use Rattle.runner.specs.Answers.{answered}
use Rattle.verdicts.specs.declared.ToldRefusal.{ToldRefusal}
use Rattle.verdicts.specs.Compared.{Told, Gave, Refused, told, told_refusal, GaveStands, refused_with, agree, verdict}
use Rattle.lines.specs.Text.{first_lines, text}
use Rattle.lines.specs.Printed.{value_of, told_by}
use Rattle.lines.specs.Placed.{room_for}
use Rattle.lines.proofs.Kept.{length_column}
use Rattle.answers.specs.Second.{second, Within}

-- Telling

pub refusal_told : (r : Result ℕ ToldRefusal) (t : ToldRefusal) → IsErrAnd r (λ (x : ToldRefusal). x ≡ t)
    → told r ≡ Refused t.number t.place
refusal_told r t h =
    let p = err_from_is_err_and r h in
    rw (p.1, p.2) refl

-- Keeping

abbrev pub items_of : List ℤ → Answer → List ℤ
items_of cells a = column (rows_at cells (value_of 0 a) (value_of 1 a) 3) 2

pub kept_none : (ran : Result Tables Refusal) (r : Refusal) (cells ys : List ℤ) → ran ≡ Err r
    → ys ≡ laid ys 0 (items_of cells (answered ran))
unfolding answered value_of rows_at column
kept_none ran r cells ys e = rw e (sym (laid_nothing ys 0))

module _ (ran : Result Tables Refusal) (t : Tables) (e : ran ≡ Ok t) where
  pub kept_fits : (l k : ℕ) → Within (answered ran) l → value_of 1 (answered ran) ≤ k
      → (t.start + t.rows * 3 ≤ l) × (t.rows ≤ k)
  unfolding answered value_of
  kept_fits l k h g = (
    subst (λ (x : Result Tables Refusal). Within (answered x) l) e h,
    subst (λ (x : Result Tables Refusal). value_of 1 (answered x) ≤ k) e g,
  )

  pub kept_tables : (cells ys zs : List ℤ) → zs ≡ laid ys 0 (column (rows_at cells t.start t.rows 3) 2)
      → zs ≡ laid ys 0 (items_of cells (answered ran))
  unfolding answered value_of
  kept_tables cells ys zs h =
      h ∙ sym (ap (λ (x : Result Tables Refusal). laid ys 0 (items_of cells (answered x))) e)

-- Asking the evaluator

pub not_asked : (ran : Result Tables Refusal) (r : Refusal) (t : ToldRefusal) (cells : List ℤ) (query doc : List ℕ)
    → ran ≡ Err r → r.reason ≡ Reason.Room → t ≡ told_refusal r
    → (told (Err t) ≡ told_by 0 (second (answered ran) cells query doc).answer)
    × (cells ≡ (second (answered ran) cells query doc).left)
unfolding second answered told_by refused_with
not_asked ran r t cells query doc d e f =
    (rw (f, d, e) refl, rw (d, e) refl)

other_number : (x : Reason) → (x ≡ Reason.Room → ⊥) → eqb (number_of x) 6 ≡ false
other_number Reason.Record f = refl
other_number Reason.Excess f = refl
other_number Reason.Unbound f = refl
other_number Reason.Catalogue f = refl
other_number Reason.Plan f = refl
other_number Reason.Room f = absurd (f refl)
other_number Reason.Failure f = refl
other_number Reason.Longer f = refl
other_number Reason.Outside f = refl

module _ (cells zs : List ℤ) (query doc : List ℕ) (a : Answer) (t : Told) (d : t ≡ told_by 0 a)
    (e : a ≡ (evaluate_call query doc (length cells)).answer) (f : zs ≡ (evaluate_call query doc (length cells)).left) where
  pub asked_after : (ran : Answer) → second ran cells query doc ≡ evaluate_call query doc (length cells)
      → (t ≡ told_by 0 (second ran cells query doc).answer) × (zs ≡ (second ran cells query doc).left)
  asked_after ran h =
      let o = sym h in
      (d ∙ ap (told_by 0) (e ∙ ap (λ (x : Outcome ℤ). x.answer) o), f ∙ ap (λ (x : Outcome ℤ). x.left) o)

  pub asked_given : (ran : Result Tables Refusal) (ts : Tables) → ran ≡ Ok ts
      → (t ≡ told_by 0 (second (answered ran) cells query doc).answer)
      × (zs ≡ (second (answered ran) cells query doc).left)
  unfolding second answered told_by refused_with
  asked_given ran ts h = asked_after (answered ran) (rw h)

  pub asked_refused : (ran : Result Tables Refusal) (r : Refusal) → ran ≡ Err r → (r.reason ≡ Reason.Room → ⊥)
      → (t ≡ told_by 0 (second (answered ran) cells query doc).answer)
      × (zs ≡ (second (answered ran) cells query doc).left)
  unfolding second answered told_by refused_with
  asked_refused ran r h g = asked_after (answered ran) (rw (h, other_number r.reason g))

-- Printing

pub rows_stand : (a : Answer) (l : ℕ) → value_of 1 a ≤ l → GaveStands l (told_by 1 a)
unfolding value_of told_by
rows_stand (gives ns) l h = h
rows_stand (refused n p) l h = tt

pub rows_room : (a : Answer) (l : ℕ) → value_of 1 a ≤ 2730 → 87488 ≤ l → room_for (told_by 1 a) ≤ l
unfolding value_of told_by
rows_room (gives ns) l h k = omega arith
rows_room (refused n p) l h k = omega arith

-- the text looks at no more than the items that were given
text_taken : (t : Told) (n : ℕ) (xs ys : List ℤ) (e : Told) (zs : List ℤ) → take n xs ≡ take n ys
    → text t (Gave n) xs e zs ≡ text t (Gave n) ys e zs
unfolding text first_lines verdict agree refused_with
text_taken (Refused k p) n xs ys e zs h = refl
text_taken (Gave k) n xs ys (Gave m) zs h = rw h refl
text_taken (Gave k) n xs ys (Refused m p) zs h = rw h refl

text_untaken : (t : Told) (n p : ℕ) (xs ys : List ℤ) (e : Told) (zs : List ℤ)
    → text t (Refused n p) xs e zs ≡ text t (Refused n p) ys e zs
unfolding text first_lines verdict agree
text_untaken (Refused k q) n p xs ys e zs = refl
text_untaken (Gave k) n p xs ys e zs = refl

-- what was kept: the items, and the old cells behind them
take_kept : (ys xs : List ℤ) (n : ℕ) → length xs ≡ n → take n (laid ys 0 xs) ≡ take n xs
unfolding laid
take_kept ys xs n e = take_at xs (drop (0 + length xs) ys) n e ∙ sym (take_all n xs (omega (arith, e)))

pub text_kept : (t : Told) (a : Answer) (left ys : List ℤ) (e : Told) (zs : List ℤ)
    → text t (told_by 1 a) (laid ys 0 (column (rows_at left (value_of 0 a) (value_of 1 a) 3) 2)) e zs
    ≡ text t (told_by 1 a) (column (rows_at left (value_of 0 a) (value_of 1 a) 3) 2) e zs
unfolding value_of told_by
text_kept t (gives ns) left ys e zs =
    text_taken t _ _ _ e zs (take_kept ys _ _ (length_column left 3 2 (omega arith) (get_or ns 0 0) (get_or ns 1 0)))
text_kept t (refused n p) left ys e zs = text_untaken t n p _ _ e zs
