-- The turns of a `for`: what `turns` and `each_item` promise.
--     Turning ..          the loop's invariant: the turns that are left, behind the results so far, give what all turns
--                         give
--     turning_start       before the first turn
--     turning_scoped      a turn's scope stands below its top
--     turning_on          a turn whose results stand behind those so far
--     turning_stopped     a turn that is refused
--     turning_end         no turn is left
--     for_stopped         QF, whose first operand is refused
--     for_turned          QF, from its turns
use Rattle.std.specs.Prelude.{Some, Result, Ok, Err}
use Prim.Native.Nat.{ℕ, suc, ◌+◌, ◌-◌, ◌≤◌, ◌<◌, max}
use mathlib.Core.Path.{◌≡◌, refl, sym, ◌∙◌, ap, ap₂, subst}
use mathlib.Core.List.{List, [], ◌∷◌, ◌++◌}
use native.Mathlib.Omega.{arith}
use native.Mathlib.Numerals.{add-one}
use native.Mathlib.Nat.{add-zero}
use lib.IntN.{ℤ, pos}
use lib.ListN.{length, take, get_or}
use lib.Seq.{drop-cons}
use Rattle.codes.specs.declared.refusals.Stop.{Stop}
use Rattle.laws.specs.Rows.{row}
use Rattle.laws.proofs.Rows.{length_row}
use Rattle.laws.specs.Attempt.{gives, Work, work}
use Rattle.meaning.specs.World.{World}
use Rattle.meaning.specs.Query.{Query, QF}
use Rattle.meaning.specs.Query as Query
use Rattle.meaning.specs.Meaning.{Env, bind}
use Rattle.meaning.specs.Counted.{Standing, stand, evaluate, loop}
use Rattle.query_walks.specs.Parse.{Parsed, trees, Past}
use Rattle.query_walks.proofs.Parsing.{pair_gives}
use Rattle.stack.specs.declared.Stood.{Stood}
use Rattle.stack.specs.declared.Pair.{Pair}
use Rattle.stack.specs.Stack.{stood, paired, EndsPair, Leaves}
use Rattle.stack.specs.Moves as Moves
use Rattle.stack.proofs.Leaving.{row_append}
use Rattle.lent.proofs.Moves.{row_kept}
use Rattle.working_parts.specs.declared.Scope.{Scope}
use Rattle.working_parts.specs.Scopes.{Scoped, HoldsEnv, scoping, binding}
use Rattle.working.specs.Evaluating.{Works, turn, Turns}
use Rattle.working_parts.proofs.Scoping.{scoped_more, scoped_bound, holds_kept, holds_bound}
use Rattle.working.proofs.Pairing.{take_lower}
use Rattle.working.proofs.Working.{works_leaves, works_stopped}

-- a row's first member, and the others
row_cons :
    {A : Type 0} (xs : List A) (a k j : ℕ) (d : A) → a < length xs → k ≡ suc j →
    row xs a k ≡ get_or xs a d ∷ row xs (a + 1) j
unfolding row
row_cons xs a k j d h e = rw (e, drop-cons xs a d h, add-one)

module _ (w : World) (t : Parsed) (v top room n count : ℕ) (s : Scope) (before : List ℤ) where
  pub record Turning (i got most : ℕ) (cells : List ℤ) : Type 0 where
    pub passed : i ≤ n
    pub above : n + got ≤ most
    pub within : top + most ≤ room
    pub long : length cells ≡ length before
    pub kept : take (top + n) cells ≡ take (top + n) before
    pub means :
        (e : Env) → HoldsEnv before s e → (x : Query × ℕ) → t ≡ gives x →
        loop (turn w e v x.0) (room - top) n most (row cells (top + n) got) (row before (top + i) (n - i))
        ≡ loop (turn w e v x.0) (room - top) n count [] (row before top n)

  pub turning_start : n ≤ count → top + count ≤ room → Turning 0 0 count before
  unfolding row
  turning_start h k =
      record {
        passed = omega arith;
        above = omega arith;
        within = k;
        long = refl;
        kept = refl;
        means = λ e g x p.
            let z : n - 0 ≡ n = omega arith in
            rw (add-zero top, z);
      }

  -- what the turns behind one with results s give
  abbrev onward : (ℕ → ℤ → Work Standing) → ℕ → List ℤ → List ℤ → Standing → Work Standing
  onward body most results xs u =
      loop body (room - top) n (max most (n + length results + u.count)) (results ++ u.items) xs

  module _
      (i got most : ℕ) (cells : List ℤ) (inv : Turning i got most cells) (sc : Scoped top s) (few : v < 8)
      (le : room ≤ length before) (lt : i < n)
    where
      pub turning_scoped : Scoped (top + n + got) (scoping s (Some v) (top + i) 1)
      turning_scoped =
          scoped_bound (top + n + got) (top + i) 1 s (Some v) few (omega arith)
          (scoped_more top (top + n + got) s (omega arith) sc)

      module _
          (after : List ℤ) (m : Result Stood Stop)
          (g : Works w t (top + n + got) room (scoping s (Some v) (top + i) 1) cells after m)
        where
          -- the turn, and those behind it
          turned :
              (e : Env) → HoldsEnv before s e → (x : Query × ℕ) → t ≡ gives x →
              work (stood after (top + n + got) m)
              (onward (turn w e v x.0) most (row cells (top + n) got) (row before (top + (i + 1)) (n - (i + 1))))
              ≡ loop (turn w e v x.0) (room - top) n count [] (row before top n)
          unfolding loop binding row
          turned e h x p =
              let a = get_or before (top + i) (pos 0) in
              let results = row cells (top + n) got in
              let others = row before (top + (i + 1)) (n - (i + 1)) in
              let low : take top cells ≡ take top before =
              take_lower top (top + n) before cells (omega arith) inv.kept in
              let one : row cells (top + i) 1 ≡ a ∷ [] =
              row_kept before cells (top + n) (top + i) 1 (omega arith) inv.kept
              ∙ row_cons before (top + i) 1 0 (pos 0) (omega (arith, inv.above, inv.within)) refl in
              let holds = holds_bound top (top + i) 1 s (Some v) e cells (a ∷ []) sc few one
              (holds_kept top s e before cells sc low h) in
              let size : length results ≡ got = length_row cells (top + n) got
              (omega (arith, inv.above, inv.within, inv.long)) in
              let left : room - (top + n + got) ≡ room - top - (n + length results) = omega (arith, size) in
              let next : top + i + 1 ≡ top + (i + 1) = omega arith in
              let first : row before (top + i) (n - i) ≡ a ∷ others =
              row_cons before (top + i) (n - i) (n - (i + 1)) (pos 0) (omega (arith, inv.above, inv.within))
              (omega arith)
              ∙ ap (λ (j : ℕ). a ∷ row before j (n - (i + 1))) next in
              ap (λ (o : Work Standing). work o (onward (turn w e v x.0) most results others))
              ((g.means (bind v (a ∷ []) e) holds x p).stands ∙ ap (λ (r : ℕ). turn w e v x.0 r a) left)
              ∙ ap (loop (turn w e v x.0) (room - top) n most results) (sym first)
              ∙ inv.means e h x p

      on :
          (after : List ℤ) (m : Stood) → length after ≡ length cells →
          Works w t (top + n + got) room (scoping s (Some v) (top + i) 1) cells after (Ok m) →
          Turning (i + 1) (got + m.length) (max most (n + got + m.count)) after
      unfolding stood stand work
      on after m q g =
          let f = g.fit in
          record {
            passed = omega arith;
            above = omega (arith, inv.above);
            within = omega (arith, inv.within);
            long = q ∙ inv.long;
            kept = take_lower (top + n) (top + n + got) cells after (omega arith) g.kept ∙ inv.kept;
            means = λ e h x p.
                let results = row cells (top + n) got in
                let size : length results ≡ got = length_row cells (top + n) got
                (omega (arith, inv.above, inv.within, inv.long)) in
                let both : row after (top + n) (got + m.length) ≡ results ++ row after (top + n + got) m.length =
                row_append after (top + n) got m.length
                ∙ ap (◌++ row after (top + n + got) m.length)
                (row_kept cells after (top + n + got) (top + n) got (omega arith) g.kept) in
                ap₂ (λ (c : ℕ) (r : List ℤ). loop (turn w e v x.0) (room - top) n c r
                (row before (top + (i + 1)) (n - (i + 1))))
                (ap (λ (z : ℕ). max most (n + z + m.count)) (sym size)) both
                ∙ turned after (Ok m) g e h x p;
          }

      module _ (after : List ℤ) (seen : Scope) (d : seen ≡ scoping s (Some v) (top + i) 1) where
        pub turning_on :
            (m : Stood) (more : ℕ) → more ≡ max most (n + got + m.count) → length after ≡ length cells →
            Works w t (top + n + got) room seen cells after (Ok m) → Turning (i + 1) (got + m.length) more after
        turning_on m more e q g =
            subst (λ (k : ℕ). Turning (i + 1) (got + m.length) k after) (sym e)
            (on after m q (subst (λ (s : Scope). Works w t (top + n + got) room s cells after (Ok m)) d g))

        pub turning_stopped :
            (m : Stop) (next : ℕ) → Works w t (top + n + got) room seen cells after (Err m) →
            Turns w t v top room n count next s before after (Err m)
        unfolding Moves.kept paired stood work
        turning_stopped m next g =
            let h = subst (λ (s : Scope). Works w t (top + n + got) room s cells after (Err m)) d g in
            record {
              kept =
                  take_lower top (top + n + got) cells after (omega arith) h.kept
                  ∙ take_lower top (top + n) before cells (omega arith) inv.kept;
              fit = tt;
              ends = tt;
              means = λ e k x p. stays m _ ∙ turned after (Err m) h e k x p;
            }
          where
            stays :
                (m : Stop) (f : Standing → Work Standing) →
                Moves.kept (paired after top (Err m)) ≡ work (stood after (top + n + got) (Err m)) f
            stays (Stop.Full p) f = refl
            stays (Stop.Failed p) f = refl

  pub turning_end :
      (next i got most : ℕ) (cells : List ℤ) → i ≡ n → Turning i got most cells →
      Turns w t v top room n count next s before cells
      (Ok (record { first = n; second = got; count = most; next = next }))
  unfolding Moves.kept paired loop row work
  turning_end next i got most cells d inv =
      record {
        kept = take_lower top (top + n) before cells (omega arith) inv.kept;
        fit = (inv.above, inv.within);
        ends = refl;
        means = λ e g x p.
            let z : n - i ≡ 0 = omega arith in
            (rw z at (inv.means e g x p));
      }

-- QF: a's items, then its turns

module _ (w : World) (rd : ℕ → Parsed) (place at v top room : ℕ) (s : Scope) (before mid : List ℤ) where
  pub for_stopped :
      (m : Stop) → Works w (rd at) top room s before mid (Err m) →
      Works w (trees rd place at (Query.for v)) top room s before mid (Err m)
  unfolding trees evaluate
  for_stopped m g =
      works_stopped w _ (rd at) top room s before mid m g
      (λ z c.
      let (x, y, p, q, d) = pair_gives (QF place v) (rd at) rd z c in
      (x, p, λ e. (_, ap (λ (z : Query × ℕ). evaluate w (room - top) e z.0) d)))

  pub for_turned :
      (a : Stood) (end : ℕ) (last after : List ℤ) (p : Result Pair Stop) (r : Result Stood Stop) → Scoped top s →
      room ≤ length mid → Works w (rd at) top room s before mid (Ok a) → Past (rd a.next) end →
      Turns w (rd a.next) v top room a.length a.count end s mid last p →
      Leaves top room (Moves.kept (paired last top p)) (EndsPair p) last after r →
      Works w (trees rd place at (Query.for v)) top room s before after r
  unfolding trees evaluate stood stand work
  for_turned a end last after p r sc le g past u b =
      works_leaves w _ top room s before after last r (Moves.kept (paired last top p)) (EndsPair p) b
      (u.kept ∙ g.kept)
      (λ e h z c.
      let (x, y, i, j, d) = pair_gives (QF place v) (rd at) rd z c in
      let first = g.means e h x i in
      let here : rd a.next ≡ gives y = ap rd first.ends ∙ j in
      let size : length (row mid top a.length) ≡ a.length =
      length_row mid top a.length (omega (arith, g.fit.0, g.fit.1)) in (
        u.means e (holds_kept top s e before mid sc g.kept h) y here
            ∙ ap (λ (i : ℕ). loop (turn w e v y.0) (room - top) i a.count [] (row mid top a.length)) (sym size)
            ∙ ap
            (λ (o : Work Standing). work o
            (λ s. loop (turn w e v y.0) (room - top) (length s.items) s.count [] s.items))
            first.stands
            ∙ ap (λ (z : Query × ℕ). evaluate w (room - top) e z.0) d,
        subst (EndsPair p) (past y here ∙ ap (λ (z : Query × ℕ). z.1) d) u.ends,
      ))
