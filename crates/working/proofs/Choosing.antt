-- QI: what `choice` promises.
--     choice_stopped      its condition is refused
--     choice_untrue       its condition has no truth
--     choice_chosen       the chosen branch; the other is passed over
--     choice_broken       .. and is refused
use Rattle.std.specs.Prelude.{Result, Ok, Err}
use Prim.Native.Nat.{ℕ, ◌+◌, ◌-◌, ◌≤◌}
use mathlib.Core.Path.{◌≡◌, refl, sym, ◌∙◌, ap, subst}
use mathlib.Core.Bool.{Bool, true, false, cond}
use mathlib.Core.List.{List}
use lib.IntN.{ℤ}
use Rattle.codes.specs.declared.refusals.Stop.{Stop}
use Rattle.laws.specs.Rows.{row}
use Rattle.laws.specs.Attempt.{Attempt, fails, gives, trying, Work, work}
use Rattle.meaning.specs.World.{World}
use Rattle.meaning.specs.Query.{Query, QI}
use Rattle.meaning.specs.Query as Query
use Rattle.meaning.specs.Meaning.{Env}
use Rattle.meaning.specs.Counted.{Standing, stand, evaluate}
use Rattle.query_walks.specs.Parse.{Parsed, trees, Past}
use Rattle.query_walks.proofs.Parsing.{triple_gives}
use Rattle.stack.specs.declared.Stood.{Stood}
use Rattle.stack.specs.Stack.{stood, Ends, At, raising, Leaves}
use Rattle.stack.specs.Moves.{raised}
use Rattle.stack.proofs.Leaving.{leaves_raised, leaves_refused}
use Rattle.working_parts.specs.declared.Scope.{Scope}
use Rattle.working_parts.specs.Scopes.{Scoped, HoldsEnv}
use Rattle.working_parts.specs.Endings.{ending_at}
use Rattle.working.specs.Evaluating.{Works}
use Rattle.working_parts.proofs.Scoping.{holds_kept}
use Rattle.working.proofs.Working.{works_leaves, works_stopped}

-- what an operand leaves, and the same with another end
leaves_worked :
    (w : World) (t : Parsed) (top room : ℕ) (s : Scope) (before after : List ℤ) (m : Result Stood Stop) →
    Works w t top room s before after m → Leaves top room (stood after top m) (Ends m) before after m
leaves_worked w t top room s before after m g =
    record { kept = g.kept; fit = g.fit; stands = refl; ends = λ e h. h }

-- a branch's items where at least k stood, their operand ending at n; or its refusal
unfoldable branched : ℕ → ℕ → Result Stood Stop → Result Stood Stop
branched k n (Ok m) = Ok (raising k (ending_at n m))
branched k n (Err e) = Err e

leaves_branched :
    (top room k n : ℕ) (o : Work Standing) (before after : List ℤ) (m : Result Stood Stop) → top + k ≤ room →
    Leaves top room o (Ends m) before after m → Leaves top room (raised k o) (At n) before after (branched k n m)
unfolding branched stood
leaves_branched top room k n o before after (Ok m) h g =
    leaves_raised top room (At n) before after k o (ending_at n m) h
    (record { kept = g.kept; fit = g.fit; stands = g.stands; ends = λ e d. d })
leaves_branched top room k n o before after (Err (Stop.Full p)) h g =
    leaves_refused top room (At n) before after k o (Stop.Full p)
    (record { kept = g.kept; fit = tt; stands = g.stands; ends = λ e d. tt })
leaves_branched top room k n o before after (Err (Stop.Failed p)) h g =
    leaves_refused top room (At n) before after k o (Stop.Failed p)
    (record { kept = g.kept; fit = tt; stands = g.stands; ends = λ e d. tt })

module _ (w : World) (rd : ℕ → Parsed) (place at top room : ℕ) (s : Scope) (before mid : List ℤ) where
  pub choice_stopped :
      (m : Stop) → Works w (rd at) top room s before mid (Err m) →
      Works w (trees rd place at Query.choice) top room s before mid (Err m)
  unfolding trees evaluate
  choice_stopped m g =
      works_stopped w _ (rd at) top room s before mid m g
      (λ z c.
      let (x, a, b, p, i, j, d) = triple_gives (QI place) (rd at) rd rd z c in
      (x, p, λ e. (_, ap (λ (z : Query × ℕ). evaluate w (room - top) e z.0) d)))

  -- what is done with the truth of the condition, where k stood
  abbrev judged : ℕ → Env → Query → Query → Attempt Bool → Work Standing
  judged k e p q t = trying place t (λ b. raised k (cond b (evaluate w (room - top) e p) (evaluate w (room - top) e q)))

  module _ (a : Stood) (g : Works w (rd at) top room s before mid (Ok a)) where
    decides :
        (e : Env) → HoldsEnv before s e → (x y z : Query × ℕ) → rd at ≡ gives x →
        judged a.count e y.0 z.0 (w.truth (row mid top a.length)) ≡ evaluate w (room - top) e (QI place x.0 y.0 z.0)
    unfolding evaluate stood stand work raised
    decides e h x y z p =
        ap (λ (o : Work Standing). work o (λ s. judged s.count e y.0 z.0 (w.truth s.items)))
        (g.means e h x p).stands

    pub choice_untrue :
        w.truth (row mid top a.length) ≡ fails →
        Works w (trees rd place at Query.choice) top room s before mid (Err (Stop.Failed place))
    unfolding trees trying stood
    choice_untrue f =
        record {
          kept = g.kept;
          fit = tt;
          means = λ e h z c.
              let (x, y, o, p, i, j, d) = triple_gives (QI place) (rd at) rd rd z c in
              record {
                stands =
                    ap (judged a.count e y.0 o.0) (sym f)
                    ∙ decides e h x y o p
                    ∙ ap (λ (z : Query × ℕ). evaluate w (room - top) e z.0) d;
                ends = tt;
              };
        }

    module _ (sc : Scoped top s) (past end : ℕ) (u : Past (rd a.next) past) (v : Past (rd past) end) where
      -- the branch that is chosen, worked out where the condition stood
      picked :
          (b : Bool) (after : List ℤ) (m : Result Stood Stop) → w.truth (row mid top a.length) ≡ gives b →
          Works w (rd (cond b a.next past)) top room s mid after m →
          Works w (trees rd place at Query.choice) top room s before after (branched a.count end m)
      unfolding trees trying
      picked b after m f q =
          works_leaves w _ top room s before after mid _ (raised a.count (stood after top m)) (At end)
          (leaves_branched top room a.count end (stood after top m) mid after m g.fit.1
          (leaves_worked w _ top room s mid after m q))
          g.kept
          (λ e h z c.
          let (x, y, o, p, i, j, d) = triple_gives (QI place) (rd at) rd rd z c in
          let here : rd a.next ≡ gives y = ap rd (g.means e h x p).ends ∙ i in
          let there : rd past ≡ gives o = ap rd (u y here) ∙ j in (
            ap (raised a.count) (stands b q e (holds_kept top s e before mid sc g.kept h) y o here there)
                ∙ ap (judged a.count e y.0 o.0) (sym f)
                ∙ decides e h x y o p
                ∙ ap (λ (z : Query × ℕ). evaluate w (room - top) e z.0) d,
            v o there ∙ ap (λ (z : Query × ℕ). z.1) d,
          ))
        where
          stands :
              (b : Bool) → Works w (rd (cond b a.next past)) top room s mid after m → (e : Env) → HoldsEnv mid s e →
              (y o : Query × ℕ) → rd a.next ≡ gives y → rd past ≡ gives o →
              stood after top m ≡ cond b (evaluate w (room - top) e y.0) (evaluate w (room - top) e o.0)
          stands true q e h y o i j = (q.means e h y i).stands
          stands false q e h y o i j = (q.means e h o j).stands

      module _
          (b : Bool) (after : List ℤ) (at-branch : ℕ) (f : w.truth (row mid top a.length) ≡ gives b)
          (i : at-branch ≡ cond b a.next past)
        where
          pub choice_chosen :
              (m o r : Stood) → Works w (rd at-branch) top room s mid after (Ok m) → o ≡ ending_at end m →
              r ≡ raising a.count o → Works w (trees rd place at Query.choice) top room s before after (Ok r)
          unfolding branched
          choice_chosen m o r q h k =
              subst (λ (r : Stood). Works w (trees rd place at Query.choice) top room s before after (Ok r))
              (sym (k ∙ ap (raising a.count) h))
              (picked b after (Ok m) f
              (subst (λ (n : ℕ). Works w (rd n) top room s mid after (Ok m)) i q))

          pub choice_broken :
              (m : Stop) → Works w (rd at-branch) top room s mid after (Err m) →
              Works w (trees rd place at Query.choice) top room s before after (Err m)
          unfolding branched
          choice_broken m q =
              picked b after (Err m) f (subst (λ (n : ℕ). Works w (rd n) top room s mid after (Err m)) i q)
