-- Two operands, one behind the other: what `two` promises.
--     take_lower          what is kept up to a place is kept up to a lower one
--     pairs_stopped       the first operand is refused
--     pairs_both          the second is worked out behind the items of the first
--     pairs_broken        .. and is refused
use Rattle.std.specs.Prelude.{Option, Result, Ok, Err}
use Prim.Native.Nat.{ℕ, ◌+◌, ◌-◌, ◌≤◌, max}
use mathlib.Core.Path.{◌≡◌, refl, sym, ◌∙◌, ap, subst}
use mathlib.Core.List.{List}
use native.Mathlib.Omega.{arith}
use lib.IntN.{ℤ}
use lib.ListN.{length, take}
use lib.Seq.{take-take}
use Rattle.codes.specs.declared.refusals.Stop.{Stop}
use Rattle.laws.specs.Rows.{row}
use Rattle.laws.proofs.Rows.{length_row}
use Rattle.laws.specs.Attempt.{Work, done, work}
use Rattle.meaning.specs.World.{World}
use Rattle.meaning.specs.Counted.{Standing, stand, evaluate}
use Rattle.query_walks.specs.Parse.{Parsed}
use Rattle.stack.specs.declared.Stood.{Stood}
use Rattle.stack.specs.declared.Pair.{Pair}
use Rattle.stack.specs.Stack.{Paired, stood, paired, Fit, FitPair, Ends, EndsPair, besiding}
use Rattle.stack.specs.Moves.{pairing}
use Rattle.lent.proofs.Moves.{row_kept}
use Rattle.working_parts.specs.declared.Scope.{Scope}
use Rattle.working_parts.specs.Scopes.{Scoped, Bindable, scoping, binding}
use Rattle.working.specs.Evaluating.{Works, behind, both, Pairs}
use Rattle.working_parts.proofs.Scoping.{holds_kept, holds_bound}

-- the second operand's items behind those of the first
abbrev onto : List ℤ → ℕ → Standing → Work Paired
onto xs k t = done (record { first = xs; second = t.items; count = max k (length xs + t.count) })

pub take_lower : {A : Type 0} (n m : ℕ) (xs ys : List A) → n ≤ m → take m ys ≡ take m xs → take n ys ≡ take n xs
take_lower n m xs ys h e = sym (take-take n m ys h) ∙ ap (take n) e ∙ take-take n m xs h

-- the two operands, where the second may be refused
unfoldable besided : Stood → Result Stood Stop → Result Pair Stop
besided l (Ok m) = Ok (besiding l m)
besided l (Err e) = Err e

module _ (w : World) (rd : ℕ → Parsed) (at : ℕ) (b : Option ℕ) (top room : ℕ) (s : Scope) (before : List ℤ) where
  pub pairs_stopped :
      (after : List ℤ) (m : Stop) → Works w (rd at) top room s before after (Err m) →
      Pairs w rd at b top room s before after (Err m)
  unfolding both paired pairing stood work
  pairs_stopped after m g =
      record {
        kept = g.kept;
        fit = tt;
        means = λ e k x y c d.
            let second = behind w (room - top) e b y.0 in
            record {
              stands = stays m second ∙ ap (λ (o : Work Standing). pairing o second) (g.means e k x c).stands;
              ends = tt;
            };
      }
    where
      stays :
          (m : Stop) (f : Standing → Work Standing) → paired after top (Err m) ≡ pairing (stood after top (Err m)) f
      stays (Stop.Full p) f = refl
      stays (Stop.Failed p) f = refl

  module _
      (mid : List ℤ) (l : Stood) (g : Works w (rd at) top room s before mid (Ok l)) (i : Scoped top s)
      (j : Bindable b) (long : room ≤ length mid) (after : List ℤ) (m : Result Stood Stop)
      (h : Works w (rd l.next) (top + l.length) room (scoping s b top l.length) mid after m)
    where
      fits : (m : Result Stood Stop) → Fit (top + l.length) room m → FitPair top room (besided l m)
      unfolding besided
      fits (Ok m) f = (omega (arith, g.fit.0, g.fit.1), omega (arith, g.fit.0, g.fit.1))
      fits (Err e) f = tt

      ending : (m : Result Stood Stop) (e : ℕ) → Ends m e → EndsPair (besided l m) e
      unfolding besided
      ending (Ok m) e f = f
      ending (Err d) e f = tt

      wide : length (row mid top l.length) ≡ l.length
      wide = length_row mid top l.length (omega (arith, g.fit.0, g.fit.1))

      -- the first operand's items, as they stand after the second
      is :
          (m : Result Stood Stop) (f : Standing → Work Standing) (xs : List ℤ) → xs ≡ row mid top l.length →
          stood after (top + l.length) m ≡ f (record { items = xs; count = l.count }) →
          paired after top (besided l m) ≡ pairing (stand xs l.count) f
      unfolding stood paired besided pairing stand work
      is (Ok m) f xs u v =
          let first : row after top l.length ≡ xs =
          row_kept mid after (top + l.length) top l.length (omega arith) h.kept ∙ sym u in
          let size : l.length ≡ length xs = sym (ap length u ∙ wide) in
          let rest = row after (top + l.length) m.length in
          ap (λ (ys : List ℤ). done (record { first = ys; second = rest; count = max l.count (l.length + m.count) }))
          first
          ∙ ap (λ (i : ℕ). done (record { first = xs; second = rest; count = max l.count (i + m.count) })) size
          ∙ ap (λ (o : Work Standing). work o (onto xs l.count)) v
      is (Err (Stop.Full p)) f xs u v = ap (λ (o : Work Standing). work o (onto xs l.count)) v
      is (Err (Stop.Failed p)) f xs u v = ap (λ (o : Work Standing). work o (onto xs l.count)) v

      beside : Pairs w rd at b top room s before after (besided l m)
      unfolding both behind stood
      beside =
          record {
            kept = take_lower top (top + l.length) mid after (omega arith) h.kept ∙ g.kept;
            fit = fits m h.fit;
            means = λ e q x y c d.
                let first = g.means e q x c in
                let holds = holds_bound top top l.length s b e mid (row mid top l.length) i j refl
                (holds_kept top s e before mid i g.kept q) in
                let second = h.means (binding b (row mid top l.length) e) holds y (ap rd first.ends ∙ d) in
                let left : room - (top + l.length) ≡ room - top - length (row mid top l.length) = omega (arith, wide) in
                record {
                  stands =
                      is m (behind w (room - top) e b y.0) (row mid top l.length) refl
                      (second.stands
                      ∙ ap (λ (r : ℕ). evaluate w r (binding b (row mid top l.length) e) y.0) left)
                      ∙ ap (λ (o : Work Standing). pairing o (behind w (room - top) e b y.0)) first.stands;
                  ends = ending m y.1 second.ends;
                };
          }

  module _
      (mid after : List ℤ) (l : Stood) (seen : Scope) (d : seen ≡ scoping s b top l.length) (i : Scoped top s)
      (j : Bindable b) (long : room ≤ length mid) (g : Works w (rd at) top room s before mid (Ok l))
    where
      pub pairs_both :
          (m : Stood) (p : Pair) → p ≡ besiding l m →
          Works w (rd l.next) (top + l.length) room seen mid after (Ok m) →
          Pairs w rd at b top room s before after (Ok p)
      unfolding besided
      pairs_both m p e h =
          subst (λ (p : Pair). Pairs w rd at b top room s before after (Ok p)) (sym e)
          (beside mid l g i j long after (Ok m)
          (subst (λ (s : Scope). Works w (rd l.next) (top + l.length) room s mid after (Ok m)) d h))

      pub pairs_broken :
          (m : Stop) → Works w (rd l.next) (top + l.length) room seen mid after (Err m) →
          Pairs w rd at b top room s before after (Err m)
      unfolding besided
      pairs_broken m h =
          beside mid l g i j long after (Err m)
          (subst (λ (s : Scope). Works w (rd l.next) (top + l.length) room s mid after (Err m)) d h)
