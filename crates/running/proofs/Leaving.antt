-- What the loop over a plan needs at each place, and what it leaves.
--     located_ok, located_err     what an operator came to, by its end of the tables or its refusal
--     never_unread          a sound plan is never unread before its end
--     read_sound            the operator that was read is sound for the tables that stand
--     under_512             .. and there is an entry for its table
--     turned_walks          the refusal of an operator is that of the whole run
--     turned_on             an operator that laid its table: the run goes on behind it
--     end_walks             at the end of the plan all tables stand
use Rattle.std.specs.Prelude.{Option, Some, None, Result, Ok, Err, MatchResult}
use Prim.Native.Nat.{ℕ, ◌+◌, ◌*◌, ◌≤◌, ◌<◌}
use mathlib.Core.Path.{◌≡◌, refl, sym, ap, ◌∙◌, subst}
use mathlib.Core.List.{List, []}
use native.Mathlib.Omega.{arith}
use mathlib.Core.Bool.{Bool}
use lib.IntN.{ℤ}
use lib.ListN.{length}
use Rattle.laws.specs.Attempt.{Attempt, reads}
use Rattle.meaning.specs.Operators.{Table, make}
use Rattle.meaning.specs.Plan.{Placed, operator_at, plan_read}
use Rattle.meaning.specs.Run.{running}
use Rattle.meaning.specs.World.{World}
use Rattle.tables.specs.Layout.{Owes}
use Rattle.step_parts.specs.Steps.{Ready}
use Rattle.plan_records.specs.declared.Decoded.{Decoded}
use Rattle.plans.specs.Accepted.{Turn}
use Rattle.plan_records.specs.Decoded.{operator_of, Means}
use Rattle.cells.specs.Bytes.{Bytes}
use Rattle.plans.proofs.Callers.{ahead_unread, ahead_turn}
use Rattle.directory.specs.Directory.{stand_at, entered, tables_in, EndToEnd}
use Rattle.directory.specs.Sound.{made_width, SoundOperator}
use Rattle.directory.proofs.Entries.{entry}
use Rattle.directory.proofs.Cases.{turn_sound}
use Rattle.operators.specs.declared.Top.{Top}
use Rattle.codes.specs.declared.refusals.Stop.{Stop}
use Rattle.tables.specs.declared.Unlaid.{Unlaid}
use Rattle.tables.specs.declared.Unlaid.TheVariants.{Full, Fails}
use Rattle.running.specs.Leaving.{Walks, refused_at}
use Rattle.laying.specs.Goes.{Goes}
use Rattle.running.proofs.Going.{Going, as_many, turn_fails, turn_full, turn_more, going_end, last_stands}
use Rattle.running.proofs.Going.{some_table, last_table_lem}

-- what an operator came to, by what `located` answers
module _ (t : Result Top Unlaid) (at : ℕ) where
  abbrev Located : Result Top Stop → Type 0
  Located r = MatchResult t (λ top. r ≡ Ok top) (λ u. r ≡ Err (refused_at u at))

  pub located_ok : (top : Top) → Located (Ok top) → t ≡ Ok top
  located_ok top h = go t refl h
    where
      go : (k : Result Top Unlaid) → t ≡ k →
          MatchResult k (λ more. ◌≡◌ {A = Result Top Stop} (Ok top) (Ok more))
          (λ u. ◌≡◌ {A = Result Top Stop} (Ok top) (Err (refused_at u at))) →
          t ≡ Ok top
      go (Ok more) e p = cc
      go (Err u) e p = cc

  pub located_err : (s : Stop) → Located (Err s) → (u : Unlaid) × (t ≡ Err u) × (s ≡ refused_at u at)
  located_err s h = go t refl h
    where
      go : (k : Result Top Unlaid) → t ≡ k →
          MatchResult k (λ more. ◌≡◌ {A = Result Top Stop} (Err s) (Ok more))
          (λ u. ◌≡◌ {A = Result Top Stop} (Err s) (Err (refused_at u at))) →
          (u : Unlaid) × (t ≡ Err u) × (s ≡ refused_at u at)
      go (Ok more) e p = absurd cc
      go (Err u) e p = (u, e, cc)

-- the lent marks stay as many
pub ready_kept :
    (doc : List ℕ) (n : ℕ) (from to from₀ to₀ : List Bool) → Ready doc n from₀ to₀ → length from ≡ length from₀ →
    length to ≡ length to₀ →
    Ready doc n from to
ready_kept doc n from to from₀ to₀ r e d =
    record { known = r.known; sources = omega (arith, r.sources); targets = omega (arith, r.targets) }

module _ (w : World) (room lent : ℕ) (plan : List ℕ) (all : List Placed) (work : List ℤ) (dir : List ℕ)
    (at n filled : ℕ)
    (g : Going w room lent plan all work dir at n filled) (before : at < length plan)
    (r : Option Decoded) (m : Means plan r (operator_at plan at)) where
  pub never_unread : r ≡ None → ⊥
  never_unread e = ahead_unread g.ahead before m e

  -- the operator that was read
  module _ (b : Bytes plan) (d : Decoded) (e : r ≡ Some d) where
    the_turn : Turn plan g.before g.left at d
    the_turn = ahead_turn g.ahead before m b d e

    fits : SoundOperator plan dir n d.operator × (made_width dir d.operator ≡ the_turn.width)
    fits = turn_sound plan dir n g.before g.left at d the_turn g.widths

    pub read_sound : SoundOperator plan dir n d.operator
    read_sound = fits.0

    pub under_512 : n < 512
    under_512 = omega (arith, the_turn.few, as_many w room lent plan all work dir at n filled g)

    abbrev made : Attempt Table
    made = make w (operator_of plan d.operator) (tables_in work dir n)

    abbrev wide : ℕ
    wide = made_width dir d.operator

    abbrev top : Top
    top = record { tables = n; cells = filled }

    module _ (after : List ℤ) (next : List ℕ) where
      pub turned_walks :
          (u : Unlaid) (q : Stop) → q ≡ refused_at u at → Goes room top wide made work after dir next (Err u) →
          Walks (running w room all [] 0) after (Err q)
      unfolding Goes Owes Walks
      turned_walks Full q i o =
          let past = subst (λ (v : ℕ). room < filled + length o.table * v) fits.1 o.past in
          let stopped = turn_full w room lent plan all work dir at n filled g d the_turn o.table o.made_is past in
          subst (λ (s : Stop). Walks (running w room all [] 0) after (Err s)) (sym i) stopped
      turned_walks Fails q i o =
          subst (λ (s : Stop). Walks (running w room all [] 0) after (Err s)) (sym i)
          (turn_fails w room lent plan all work dir at n filled g d the_turn o.made_is)

      pub turned_on :
          (more : Top) → room ≤ length work → Goes room top wide made work after dir next (Ok more) →
          Going w room lent plan all after next d.next more.tables more.cells
      unfolding Goes
      turned_on more inside o =
          let (k, p, d2, n2, f2) = o in
          let wide_is = fits.1 in
          let laid = subst (λ (v : ℕ). Owes room filled v made work after (Ok k)) wide_is p in
          let e =
          entry room filled the_turn.width k made work after dir n inside laid under_512 the_turn.wide.low
          the_turn.wide.high
          g.listed in
          going_is (d2 ∙ ap (λ (v : ℕ). entered dir n (record { at = filled; rows = k; width = v })) wide_is) n2
          (f2 ∙ ap (λ (v : ℕ). filled + k * v) wide_is)
          (turn_more w room lent plan all work dir at n filled g d the_turn k after e)
        where
          going_is :
              {dir₁ dir₂ : List ℕ} {n₁ n₂ f₁ f₂ : ℕ} → dir₁ ≡ dir₂ → n₁ ≡ n₂ → f₁ ≡ f₂ →
              Going w room lent plan all after dir₂ d.next n₂ f₂ →
              Going w room lent plan all after dir₁ d.next n₁ f₁
          going_is {dir₂ = dir₂} {n₁ = n₁} {n₂ = n₂} {f₁ = f₁} {f₂ = f₂} x y z h =
              subst (λ (l : List ℕ). Going w room lent plan all after l d.next n₁ f₁) (sym x)
              (subst (λ (a : ℕ). Going w room lent plan all after dir₂ d.next a f₁) (sym y)
              (subst (λ (b : ℕ). Going w room lent plan all after dir₂ d.next n₂ b) (sym z) h))

      pub turned_counts : (more : Top) → Goes room top wide made work after dir next (Ok more) → more.tables ≡ n + 1
      unfolding Goes
      turned_counts more o = o.3

-- at the end of the plan
module _ (w : World) (room lent : ℕ) (plan : List ℕ) (all : List Placed) (work : List ℤ) (dir : List ℕ)
    (at n filled : ℕ)
    (g : Going w room lent plan all work dir at n filled) (end : length plan ≤ at)
    (e : plan_read plan ≡ reads all) where
  pub some : 1 ≤ n
  some = some_table w room lent plan all work dir at n filled g end e

  pub end_walks :
      (m : ℕ) → n ≡ m + 1 → room ≤ lent →
      Walks (running w room all [] 0) work
      (Ok (record { start = (stand_at dir m).at; rows = (stand_at dir m).rows; filled = filled }))
  unfolding Walks EndToEnd
  end_walks m k inside =
      let stops = last_stands w room lent plan all work dir at n filled g end e m k in
      let fits = g.fits in (
        record { tables = tables_in work dir n; filled = filled },
        going_end w room lent plan all work dir at n filled g end,
        record {
          count = refl;
          last = sym (last_table_lem work dir n m k);
          from = omega arith;
          tables = g.ends;
          within = omega (arith, g.long);
        },
      )
