-- Tables laid whole.
--     table_full, table_laid                a table laid once more
--     second_stands                         a table laid behind another
--     both_first, both_second, both_laid    two tables, one after the other (RU)
use Rattle.std.specs.Prelude.{Result, Ok, Err}
use Prim.Native.Nat.{ℕ, ◌+◌, ◌*◌, ◌≤◌, ◌<◌}
use mathlib.Core.Path.{◌≡◌, refl, sym, ap, ◌∙◌, subst}
use mathlib.Core.List.{List, [], ◌∷◌, ◌++◌, append-nil}
use native.Mathlib.Omega.{arith}
use native.Mathlib.Nat.{zero-add}
use lib.IntN.{ℤ}
use lib.ListN.{length}
use Rattle.laws.specs.Rows.{row, laid}
use Rattle.laws.proofs.Rows.{length_rows_at}
use Rattle.laws.specs.Attempt.{Attempt, gives, attempt, each}
use Rattle.meaning.specs.Operators.{Table}
use Rattle.tables.specs.declared.Stand.{Stand}
use Rattle.tables.specs.declared.Unlaid.{Unlaid}
use Rattle.tables.specs.declared.Unlaid.TheVariants.{Full}
use Rattle.tables.specs.Layout.{table_at, Inside, Owes}
use Rattle.tables.specs.Laying.{Settled, Laying}
use Rattle.tables.proofs.Promise.{owes_is, owes_wide}
use Rattle.tables.proofs.Standing.{flat_rows_at, wide_rows_at, others_stand}
use Rattle.tables.proofs.Laying.{laying_start, laying_more, laying_end, laying_stopped}

-- a table laid once more
module _ (room at : ℕ) (s : Stand) (xs : List ℤ) (stands : Inside at s) (inside : at ≤ length xs) where
  pub table_full : room < at + s.rows * s.width → Owes room at s.width (gives (table_at xs s)) xs xs (Err Full)
  unfolding Owes table_at
  table_full h =
      record {
        table = table_at xs s;
        made_is = refl;
        past = rw (length_rows_at xs s.at s.rows s.width) h;
        long = refl;
      }

  pub table_laid :
      (ys : List ℤ) → at + s.rows * s.width ≤ room → ys ≡ laid xs at (row xs s.at (s.rows * s.width)) →
      Owes room at s.width (gives (table_at xs s)) xs ys (Ok s.rows)
  unfolding Owes table_at Inside
  table_laid ys h e =
      record {
        table = table_at xs s;
        made_is = refl;
        rows_are = length_rows_at xs s.at s.rows s.width;
        wide = wide_rows_at xs s.at s.rows s.width (omega arith);
        fits = h;
        cells_are = e ∙ ap (laid xs at) (sym (flat_rows_at xs s.at s.rows s.width));
      }

-- what a table gives behind another is what it gave before that was laid
pub second_stands :
    (room at w : ℕ) (m : Attempt Table) (xs ys zs : List ℤ) (n : ℕ) (u : Stand) (a : ℕ) (o : Result ℕ Unlaid) →
    room ≤ length xs → Owes room at w m xs ys (Ok n) → Inside at u → w ≡ u.width →
    Owes room a u.width (gives (table_at ys u)) ys zs o → Owes room a w (gives (table_at xs u)) ys zs o
second_stands room at w m xs ys zs n u a o h first i e p =
    owes_wide room a u.width w (gives (table_at xs u)) ys zs o (sym e)
    (owes_is room a u.width ys zs o (ap gives (sym (others_stand room at w m xs ys n h first u i))) p)

-- two tables, one after the other
module _ (room at w : ℕ) (t u : Table) (xs : List ℤ) (within : at ≤ room) (inside : room ≤ length xs) where
  both : Attempt Table
  both = each gives (t ∷ u ∷ [])

  both_is : gives (t ++ u) ≡ both
  unfolding both each attempt
  both_is = ap (λ (l : Table). gives (t ++ l)) (sym (append-nil u))

  start : Laying room at w gives both xs (t ∷ u ∷ []) xs at 0
  unfolding both
  start = laying_start room at w gives xs (t ∷ u ∷ []) within

  settled : Settled both
  unfolding Settled
  settled = (t ++ u, sym both_is)

  pub both_first :
      (ys : List ℤ) (e : Unlaid) → Owes room at w (gives t) xs ys (Err e) →
      Owes room at w (gives (t ++ u)) xs ys (Err e)
  both_first ys e p =
      owes_is room at w xs ys (Err e) both_is
      (laying_stopped room at w gives xs both xs at 0 t (u ∷ []) ys inside start e settled p)

  module _ (ys : List ℤ) (n : ℕ) (first : Owes room at w (gives t) xs ys (Ok n)) where
    next : Laying room at w gives both xs (u ∷ []) ys (at + n * w) n
    next =
        subst (λ (k : ℕ). Laying room at w gives both xs (u ∷ []) ys (at + n * w) k) (zero-add n)
        (laying_more room at w gives xs both xs at 0 t (u ∷ []) ys inside start n first)

    pub both_second :
        (zs : List ℤ) (e : Unlaid) → Owes room (at + n * w) w (gives u) ys zs (Err e) →
        Owes room at w (gives (t ++ u)) xs zs (Err e)
    both_second zs e p =
        owes_is room at w xs zs (Err e) both_is
        (laying_stopped room at w gives xs both ys (at + n * w) n u [] zs inside next e settled p)

    pub both_laid :
        (zs : List ℤ) (m : ℕ) → Owes room (at + n * w) w (gives u) ys zs (Ok m)
        → Owes room at w (gives (t ++ u)) xs zs (Ok (n + m))
    both_laid zs m p =
        owes_is room at w xs zs (Ok (n + m)) both_is
        (laying_end room at w gives xs both zs (at + n * w + m * w) (n + m)
        (laying_more room at w gives xs both ys (at + n * w) n u [] zs inside next m p))
