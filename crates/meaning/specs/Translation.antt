-- The translation, rule by rule (document 01, 'Translation'). Each expression, under a loop table of one column, gives
-- a table
-- (iter, pos, item). In the rules n is the number of the next operator, l the loop's table, e the variables' tables.
--     Made                  operators, and the number of the table that holds the result
--     Tables                the table of each variable
--     next n x              the number after the operators of x
--     hold v t e            e, but variable v stands in table t
--     free_in q              the variables that are free in q, rising
--     others_in v q          .. but v
--     lifts e m cs n vs     the operators that lift variables vs: join each with table m, then project columns cs
--     lifted e n vs         the variables' tables after them
--     rule_l, rule_r, rule_e   the rules of the records without operands
--     head_f, head_i          the operators of a rule that stand between its operands
--     tail_s, tail_f, tail_o, tail_c, tail_d, tail_x     .. after them
--     tail_last              the last two operators of a plan
--     then os x             operators os, then x
--     tr q n l e            the rule of each record
--     plan q                the whole plan
use Rattle.std.specs.Prelude.{ℕ, zero, suc, ◌+◌, List, [], ◌∷◌, ◌++◌, Bool, true, false, not, cond, ◌&&◌, eqb, ℤ, pos, length}
use Rattle.laws.specs.Lists.{filter, below}
use Rattle.codes.specs.declared.Function.{Function}
use Rattle.codes.specs.declared.Axis.{Axis}
use Rattle.codes.specs.declared.Test.{Test}
use Rattle.meaning.specs.Query.{Query, QL, QE, QR, QV, QS, QT, QF, QI, QO, QC, QD, QX, free}
use Rattle.meaning.specs.Plan.{Op, RT, RA, RP, RU, RD, RS, RJ, RN, RF, RV, RC, RE, RK, RX, RO}

pub record Made : Type 0 where
  pub ops : List Op
  pub result : ℕ

-- the table of each variable
abbrev pub Tables : Type 0
Tables = ℕ → ℕ

unfoldable pub next : ℕ → Made → ℕ
next n x = n + length x.ops

unfoldable pub hold : ℕ → ℕ → Tables → Tables
hold v t e u = cond (eqb u v) t (e u)

-- Variables are lifted only where free in the part concerned, by rising number

unfoldable pub free_in : Query → List ℕ
free_in q = filter (λ v. free v q) (below 8)

-- the others free in the body of a `for` of variable v
unfoldable pub others_in : ℕ → Query → List ℕ
others_in v q = filter (λ u. not (eqb u v) && free u q) (below 8)

unfoldable pub lifts : Tables → ℕ → List ℕ → ℕ → List ℕ → List Op
lifts e m cs n [] = []
lifts e m cs n (v ∷ vs) = RJ (e v) 0 m 0 ∷ RP n cs ∷ lifts e m cs (n + 2) vs

unfoldable pub lifted : Tables → ℕ → List ℕ → Tables
lifted e n [] = e
lifted e n (v ∷ vs) = hold v (n + 1) (lifted e (n + 2) vs)

-- QL, QB: attach 1 to L, attach the cell
unfoldable pub rule_l : ℕ → ℕ → ℤ → Made
rule_l n l z = record { ops = RA l (pos 1) ∷ RA n z ∷ []; result = n + 1 }

-- QR: attach 1, RO
unfoldable pub rule_r : ℕ → ℕ → ℕ → Made
rule_r n l k = record { ops = RA l (pos 1) ∷ RO n k ∷ []; result = n + 1 }

-- QE: attach 1, attach 0, RD of that with itself
unfoldable pub rule_e : ℕ → ℕ → Made
rule_e n l = record { ops = RA l (pos 1) ∷ RA n (pos 0) ∷ RD (n + 1) (n + 1) ∷ []; result = n + 2 }

-- QS: attach 1 to a, 2 to b; union; number by p 0, keys 3, 1; project 0 4 2
unfoldable pub tail_s : ℕ → ℕ → ℕ → Made
tail_s n a b =
    record {
      ops = RA a (pos 1) ∷ RA b (pos 2) ∷ RU n (n + 1) ∷ RN (n + 2) 0 (3 ∷ 1 ∷ []) ∷ RP (n + 3) (0 ∷ 4 ∷ 2 ∷ []) ∷ [];
      result = n + 4;
    }

-- QF: N = number a, no p, keys 0, 1; attach 1; project 3 4 2 (the variable); from N project 3 (new L), project 0 3
-- (map)
unfoldable pub head_f : ℕ → ℕ → List Op
head_f n a =
    RN a 255 (0 ∷ 1 ∷ []) ∷ RA n (pos 1) ∷ RP (n + 1) (3 ∷ 4 ∷ 2 ∷ []) ∷ RP n (3 ∷ []) ∷ RP n (0 ∷ 3 ∷ []) ∷ []

-- .. join 0 with map 1; number p 3, keys 0, 1; project 3 5 2
unfoldable pub tail_f : ℕ → ℕ → ℕ → Made
tail_f n b m =
    record { ops = RJ b 0 m 1 ∷ RN n 3 (0 ∷ 1 ∷ []) ∷ RP (n + 1) (3 ∷ 5 ∷ 2 ∷ []) ∷ []; result = n + 2 }

-- QI: RE; select 1; project 0 (then-loop); RD L minus it (else-loop)
unfoldable pub head_i : ℕ → ℕ → ℕ → List Op
head_i n l c = RE c ∷ RS n 1 ∷ RP (n + 1) (0 ∷ []) ∷ RD l (n + 2) ∷ []

-- QO: RK a 0, RK b 0, join these 0 0, project 0 1 2 5, RF f 2 3, project 0 1 4
unfoldable pub tail_o : ℕ → Function → ℕ → ℕ → Made
tail_o n f a b =
    record {
      ops =
          RK a 0
          ∷ RK b 0
          ∷ RJ n 0 (n + 1) 0
          ∷ RP (n + 2) (0 ∷ 1 ∷ 2 ∷ 5 ∷ [])
          ∷ RF (n + 3) f 2 3
          ∷ RP (n + 4) (0 ∷ 1 ∷ 4 ∷ [])
          ∷ [];
      result = n + 5;
    }

-- QC: RC 0; project 0; L minus it; attach 0; union (counts first); attach 1; project 0 2 1
unfoldable pub tail_c : ℕ → ℕ → ℕ → Made
tail_c n l a =
    record {
      ops =
          RC a 0
          ∷ RP n (0 ∷ [])
          ∷ RD l (n + 1)
          ∷ RA (n + 2) (pos 0)
          ∷ RU n (n + 3)
          ∷ RA (n + 4) (pos 1)
          ∷ RP (n + 5) (0 ∷ 2 ∷ 1 ∷ [])
          ∷ [];
      result = n + 6;
    }

-- QD: RF 7 2; project 0 1 3
unfoldable pub tail_d : ℕ → ℕ → Made
tail_d n a = record { ops = RV a 2 ∷ RP n (0 ∷ 1 ∷ 3 ∷ []) ∷ []; result = n + 1 }

-- QX: project 0 2; RX; number p 0, key 1; project 0 2 1
unfoldable pub tail_x : ℕ → Axis → Test → ℕ → Made
tail_x n axis test a =
    record {
      ops = RP a (0 ∷ 2 ∷ []) ∷ RX n axis test ∷ RN (n + 1) 0 (1 ∷ []) ∷ RP (n + 2) (0 ∷ 2 ∷ 1 ∷ []) ∷ [];
      result = n + 3;
    }

-- x's operators, then y's; y's result
unfoldable pub then : List Op → Made → Made
then os y = record { ops = os ++ y.ops; result = y.result }

-- operands come first, in order
unfoldable pub tr : Query → ℕ → ℕ → Tables → Made
tr (QL at z) n l e = rule_l n l z
tr (QE at) n l e = rule_e n l
tr (QR at k) n l e = rule_r n l k
tr (QV at v) n l e = record { ops = []; result = e v }
tr (QS at a b) n l e =
    let x = tr a n l e in
    let y = tr b (next n x) l e in
    then x.ops (then y.ops (tail_s (next (next n x) y) x.result y.result))
tr (QT at v a b) n l e =
    let x = tr a n l e in
    then x.ops (tr b (next n x) l (hold v x.result e))
tr (QF at v a b) n l e =
    let x = tr a n l e in
    let m = next n x in
    let us = others_in v b in
    let lift = lifts e (m + 4) (4 ∷ 1 ∷ 2 ∷ []) (m + 5) us in
    let k = m + 5 + length lift in
    let y = tr b k (m + 3) (hold v (m + 2) (lifted e (m + 5) us)) in
    then x.ops (then (head_f m x.result) (then lift (then y.ops (tail_f (next k y) y.result (m + 4)))))
tr (QI at c a b) n l e =
    let z = tr c n l e in
    let m = next n z in
    let liftA = lifts e (m + 2) (0 ∷ 1 ∷ 2 ∷ []) (m + 4) (free_in a) in
    let i = m + 4 + length liftA in
    let x = tr a i (m + 2) (lifted e (m + 4) (free_in a)) in
    let j = next i x in
    let liftB = lifts e (m + 3) (0 ∷ 1 ∷ 2 ∷ []) j (free_in b) in
    let k = j + length liftB in
    let y = tr b k (m + 3) (lifted e j (free_in b)) in
    then z.ops
    (then (head_i m l z.result)
    (then liftA
    (then x.ops
    (then liftB (then y.ops (record { ops = RU x.result y.result ∷ []; result = next k y }))))))
tr (QO at f a b) n l e =
    let x = tr a n l e in
    let y = tr b (next n x) l e in
    then x.ops (then y.ops (tail_o (next (next n x) y) f x.result y.result))
tr (QC at a) n l e =
    let x = tr a n l e in
    then x.ops (tail_c (next n x) l x.result)
tr (QD at a) n l e =
    let x = tr a n l e in
    then x.ops (tail_d (next n x) x.result)
tr (QX at axis test a) n l e =
    let x = tr a n l e in
    then x.ops (tail_x (next n x) axis test x.result)

-- last: number p 0, key 1; project 0 3 2
unfoldable pub tail_last : ℕ → ℕ → List Op
tail_last n a = RN a 0 (1 ∷ []) ∷ RP n (0 ∷ 3 ∷ 2 ∷ []) ∷ []

-- under the first loop table, RT
unfoldable pub plan : Query → List Op
plan q =
    let x = tr q 1 0 (λ v. 0) in
    RT ∷ (x.ops ++ tail_last (next 1 x) x.result)
