-- Laws of `Laying`, the one invariant of every loop that lays rows behind each other.
--     laying_start, laying_more, laying_end     the loop begins, lays some rows, ends
--     laying_full, laying_fails                 a turn passes the room, or fails
--     laying_stopped                            either of these
--     row_more, row_stopped, rows_laid          the same of a loop over the rows of a table
--     turns_start, turn_more, turn_stopped, turns_laid    .. of a `for` over them
--     counted_fits                              the rows are no more than the room
--     length_laying                             the cells stay as many
use Rattle.std.specs.Prelude.{Result, Ok, Err}
use Rattle.std.specs.Result.{IsErrAnd}
use Prim.Native.Nat.{ℕ, ◌+◌, ◌-◌, ◌*◌, ◌≤◌, ◌<◌}
use mathlib.Core.Path.{◌≡◌, refl, sym, ap, ap₂, ◌∙◌, subst}
use mathlib.Core.List.{List, [], ◌∷◌, ◌++◌, append_assoc, append-nil}
use native.Mathlib.Omega.{arith}
use native.Mathlib.Nat.{add-mul, zero-mul, mul-le-mul_right, le-mul_of_pos_right}
use lib.IntN.{ℤ}
use lib.ListN.{length, length-append}
use Rattle.laws.specs.Lists.{gather}
use Rattle.laws.specs.Rows.{row, rows_at, laid, flat}
use Rattle.laws.proofs.Rows.{laid_nothing, laid_more, length_laid}
use Rattle.laws.specs.Attempt.{Attempt, fails, gives, attempt, each}
use Rattle.meaning.specs.Operators.{Row, Table}
use Rattle.tables.specs.declared.Unlaid.{Unlaid}
use Rattle.tables.specs.declared.Unlaid.TheVariants.{Full, Fails}
use Rattle.tables.specs.Layout.{Wide, Owes}
use Rattle.tables.specs.Laying.{Settled, Laying}
use Rattle.tables.proofs.Promise.{flat_append, length_flat, wide_append, handed_up}
use Rattle.tables.proofs.Unrolled.{rows_head, rows_none}

-- rows that have cells are no more than the room
pub counted_fits : (room at w top n m : ℕ) → 0 < w → top ≡ at + n * w → top + m * w ≤ room → n + m ≤ room
counted_fits room at w top n m h e f = omega (arith, le-mul_of_pos_right (n + m) h, add-mul n m w)

-- attempts, one after another
attempt_same : {A : Type 0} (o : Attempt A) → o ≡ attempt o gives
unfolding attempt
attempt_same fails = refl
attempt_same (gives a) = refl

module _ {A : Type 0} (f : A → Attempt Table) (done : Table) (x : A) (left : List A) where
  each_more : (t : Table) → f x ≡ gives t
      → attempt (each f (x ∷ left)) (λ zs. gives (done ++ zs)) ≡ attempt (each f left) (λ zs. gives ((done ++ t) ++ zs))
  unfolding each attempt
  each_more t e = rw e (by_rest (each f left))
    where
      by_rest : (o : Attempt Table)
          → attempt (attempt o (λ zs. gives (t ++ zs))) (λ zs. gives (done ++ zs))
          ≡ attempt o (λ zs. gives ((done ++ t) ++ zs))
      by_rest fails = refl
      by_rest (gives u) = ap gives (sym (append_assoc done t u))

  each_fails : f x ≡ fails → attempt (each f (x ∷ left)) (λ zs. gives (done ++ zs)) ≡ fails
  unfolding each attempt
  each_fails e = rw e

-- what an attempt that goes on with rows gives is at least as long as those
longer : (o : Attempt Table) (done t : Table) → attempt o (λ zs. gives (done ++ zs)) ≡ gives t → length done ≤ length t
unfolding attempt
longer fails done t e = let z : ◌≡◌ {A = ℕ} 0 1 = cc in absurd (omega arith)
longer (gives u) done t e =
    let d : done ++ u ≡ t = cc in
    omega (arith, length-append done u, ap length d)

module _ {A : Type 0} (room at w : ℕ) (f : A → Attempt Table) (entry : List ℤ) where
  pub laying_start : (left : List A) → at ≤ room → Laying room at w f (each f left) entry left entry at 0
  unfolding Wide flat gather
  laying_start left h =
      record {
        done = [];
        wide = tt;
        rows_are = refl;
        top_is = omega (arith, zero-mul w);
        fits = h;
        cells_are = sym (laid_nothing entry at);
        whole_is = attempt_same (each f left);
      }

  module _ (whole : Attempt Table) (ys : List ℤ) (top n : ℕ) where
    -- the top is behind what is laid
    laid_up_to : {left : List A} (l : Laying room at w f whole entry left ys top n) → top ≡ at + length (flat l.done)
    laid_up_to l =
        omega (arith, length_flat w l.done l.wide, ap (λ (k : ℕ). k * w) l.rows_are)

    pub length_laying :
        {left : List A} → room ≤ length entry → Laying room at w f whole entry left ys top n
        → length ys ≡ length entry
    length_laying h l =
        let e = laid_up_to l in
        ap length l.cells_are ∙ length_laid entry at (flat l.done) (omega arith)

    pub laying_end : Laying room at w f whole entry [] ys top n → Owes room at w whole entry ys (Ok n)
    unfolding Owes each attempt
    laying_end l =
        record {
          table = l.done;
          made_is = l.whole_is ∙ ap gives (append-nil l.done);
          rows_are = l.rows_are;
          wide = l.wide;
          fits = omega arith;
          cells_are = l.cells_are;
        }

    module _ (x : A) (left : List A) (zs : List ℤ) (inside : room ≤ length entry)
        (l : Laying room at w f whole entry (x ∷ left) ys top n) where
      pub laying_more :
          (m : ℕ) → Owes room top w (f x) ys zs (Ok m)
          → Laying room at w f whole entry left zs (top + m * w) (n + m)
      unfolding Owes
      laying_more m o =
          let e = laid_up_to l in
          let d = l.done in
          let t = o.table in
          record {
            done = d ++ t;
            wide = wide_append w d t l.wide o.wide;
            rows_are = omega (arith, length-append d t, l.rows_are, o.rows_are);
            top_is = omega (arith, add-mul n m w);
            fits = o.fits;
            cells_are =
                o.cells_are
                ∙ ap (λ (v : List ℤ). laid v top (flat t)) l.cells_are
                ∙ ap (λ (k : ℕ). laid (laid entry at (flat d)) k (flat t)) e
                ∙ laid_more entry at (flat d) (flat t) (omega arith)
                ∙ ap (laid entry at) (sym (flat_append d t));
            whole_is = l.whole_is ∙ each_more f d x left t o.made_is;
          }

      pub laying_full :
          Settled whole → Owes room top w (f x) ys zs (Err Full) → Owes room at w whole entry zs (Err Full)
      unfolding Owes Settled
      laying_full s o =
          let d = l.done in
          let t = o.table in
          let e : attempt (each f left) (λ us. gives ((d ++ t) ++ us)) ≡ gives s.0 =
          sym (each_more f d x left t o.made_is) ∙ sym l.whole_is ∙ s.1 in
          let h : length d + length t ≤ length s.0 =
          omega (arith, longer (each f left) (d ++ t) s.0 e, length-append d t) in
          record {
            table = s.0;
            made_is = s.1;
            past =
                omega
                (arith, mul-le-mul_right w h, add-mul (length d) (length t) w, ap (λ (k : ℕ). k * w) l.rows_are);
            long = o.long ∙ length_laying inside l;
          }

      pub laying_fails : Owes room top w (f x) ys zs (Err Fails) → Owes room at w whole entry zs (Err Fails)
      unfolding Owes
      laying_fails o =
          record {
            made_is = l.whole_is ∙ each_fails f l.done x left o.made_is;
            long = o.long ∙ length_laying inside l;
          }

      -- a turn that lays no rows ends the loop with its answer
      pub laying_stopped :
          (e : Unlaid) → Settled whole → Owes room top w (f x) ys zs (Err e) → Owes room at w whole entry zs (Err e)
      laying_stopped Full s o = laying_full s o
      laying_stopped Fails s o = laying_fails o

-- a loop over the rows of a table
module _ (room at w : ℕ) (f : Row → Attempt Table) (entry : List ℤ) (whole : Attempt Table) (ys : List ℤ)
    (top n b left v : ℕ)
    (more : 0 < left) (inside : room ≤ length entry)
    (l : Laying room at w f whole entry (rows_at entry b left v) ys top n) where
  first_row : Laying room at w f whole entry (row entry b v ∷ rows_at entry (b + v) (left - 1) v) ys top n
  first_row = subst (λ (t : Table). Laying room at w f whole entry t ys top n) (rows_head entry b left v more) l

  pub row_more :
      (zs : List ℤ) (m : ℕ) → Owes room top w (f (row entry b v)) ys zs (Ok m) →
      Laying room at w f whole entry (rows_at entry (b + v) (left - 1) v) zs (top + m * w) (n + m)
  row_more zs m o =
      laying_more room at w f entry whole ys top n (row entry b v) (rows_at entry (b + v) (left - 1) v) zs inside
      first_row m o

  pub row_stopped :
      (zs : List ℤ) (e : Unlaid) → Settled whole → Owes room top w (f (row entry b v)) ys zs (Err e) →
      Owes room at w whole entry zs (Err e)
  row_stopped zs =
      laying_stopped room at w f entry whole ys top n (row entry b v) (rows_at entry (b + v) (left - 1) v) zs inside
      first_row

pub rows_laid :
    (room at w : ℕ) (f : Row → Attempt Table) (entry : List ℤ) (whole : Attempt Table) (ys : List ℤ)
    (top n b left v : ℕ) →
    left ≡ 0 → Laying room at w f whole entry (rows_at entry b left v) ys top n → Owes room at w whole entry ys (Ok n)
rows_laid room at w f entry whole ys top n b left v e l =
    laying_end room at w f entry whole ys top n
    (subst (λ (t : Table). Laying room at w f whole entry t ys top n) (rows_none entry b left v e) l)

-- a `for` over the rows of a table
next_turn : (b i v : ℕ) → b + i * v + v ≡ b + (i + 1) * v
next_turn b i v = omega (arith, add-mul i 1 v)

pub turns_start :
    (room at w : ℕ) (f : Row → Attempt Table) (entry : List ℤ) (b rows v : ℕ) → at ≤ room →
    Laying room at w f (each f (rows_at entry b rows v)) entry (rows_at entry (b + 0 * v) (rows - 0) v) entry at 0
turns_start room at w f entry b rows v h =
    let e : b ≡ b + 0 * v = omega (arith, zero-mul v) in
    let d : rows ≡ rows - 0 = omega arith in
    subst
    (λ (t : Table). Laying room at w f (each f (rows_at entry b rows v)) entry t entry at 0)
    (ap₂ (λ (k m : ℕ). rows_at entry k m v) e d)
    (laying_start room at w f entry (rows_at entry b rows v) h)

module _ (room at w : ℕ) (f : Row → Attempt Table) (entry : List ℤ) (whole : Attempt Table) (ys : List ℤ)
    (top n b rows v i : ℕ)
    (inside : room ≤ length entry)
    (l : Laying room at w f whole entry (rows_at entry (b + i * v) (rows - i) v) ys top n) where
  pub turn_more :
      (zs : List ℤ) (m : ℕ) → i < rows → Owes room top w (f (row entry (b + i * v) v)) ys zs (Ok m) →
      Laying room at w f whole entry (rows_at entry (b + (i + 1) * v) (rows - (i + 1)) v) zs (top + m * w) (n + m)
  turn_more zs m h o =
      let e : rows - i - 1 ≡ rows - (i + 1) = omega arith in
      subst
      (λ (t : Table). Laying room at w f whole entry t zs (top + m * w) (n + m))
      (ap₂ (λ (k m : ℕ). rows_at entry k m v) (next_turn b i v) e)
      (row_more room at w f entry whole ys top n (b + i * v) (rows - i) v (omega arith) inside l zs m o)

  pub turn_stopped :
      (zs : List ℤ) (e : Unlaid) (r : Result ℕ Unlaid) → i < rows → IsErrAnd r (λ (d : Unlaid). d ≡ e) → Settled whole →
      Owes room top w (f (row entry (b + i * v) v)) ys zs (Err e) → Owes room at w whole entry zs r
  turn_stopped zs e r h k s o =
      handed_up room at w whole entry zs r e k
      (row_stopped room at w f entry whole ys top n (b + i * v) (rows - i) v (omega arith) inside l zs e s o)

  pub turns_laid : rows ≤ i → Owes room at w whole entry ys (Ok n)
  turns_laid h = rows_laid room at w f entry whole ys top n (b + i * v) (rows - i) v (omega arith) l
