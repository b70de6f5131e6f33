-- What a query is written as is in the grammar, and read as the query's records.
--     loosened            a part of a tighter level is a part of a looser one
--     enclosed_writes     parentheses where the level that is asked for is tighter
--     integer_writes, comma_writes, ..     a production each: from its operands' texts to its own
--     item_writes         a literal, by the item that its cell holds
--     writes              the text of a query is a part of the level that is asked for
--     written_typed       the text of an accepted query is in the grammar, and read as the query's bytes
--     written_call        .. so the reader's call on it, with enough lent, gives those bytes back
use Rattle.std.specs.Prelude.{Option, Some, None}
use Prim.Native.Nat.{ℕ, zero, suc, ◌+◌, ◌-◌, ◌≤◌, ◌<◌}
use mathlib.Core.Path.{◌≡◌, refl, sym, ap, ap₂, ◌∙◌, subst}
use mathlib.Core.List.{List, [], ◌∷◌, ◌++◌, append-nil}
use mathlib.Core.Bool.{Bool, true, false, true≢false}
use native.Mathlib.Omega.{arith}
use borrow.Author.Tests.{ltb-true, le-leb}
use lib.IntN.{pos, negsuc}
use lib.ListN.{length}
use Rattle.codes.specs.declared.Function.{Function}
use Rattle.codes.specs.declared.Function.TheVariants.{Add, Subtract, Multiply, Divide, Equal, Less}
use Rattle.codes.specs.declared.Axis.{Axis}
use Rattle.codes.specs.declared.Test.{Test}
use Rattle.codes.specs.declared.Test.TheVariants.{AnyNode, Element, Text, Named}
use Rattle.cells.specs.declared.Item.{Item}
use Rattle.cells.specs.declared.Item.TheVariants.{Integer, Truth, Node}
use Rattle.cells.specs.Bytes.{Bytes}
use Rattle.cells.specs.Cell.{held, in_range}
use Rattle.codes.specs.Codes.{test_name}
use Rattle.laws.specs.Attempt.{reads}
use Rattle.laws.specs.Rows.{padded}
use Rattle.meaning.specs.Query.{Query, QL, QE, QR, QV, QS, QT, QF, QI, QO, QC, QD, QX, Read, query_read}
use Rattle.meaning.specs.Calls.{gives}
use Rattle.theorems.specs.Closed.{depth}
use Rattle.theorems.proofs.Closed.{accepted}
use Rattle.pen.specs.Decimal.{decimal, signed}
use Rattle.grammar.specs.Words.{symbol, Word, Var, Comparer, Adder, Multiplier, NodeTest, any_node, element}
use Rattle.grammar.specs.Words.{text_node, named, eq, lt, plus, minus, times, idiv, tested, fixed, compares, adds}
use Rattle.grammar.specs.Words.{multiplies, comparer_word, adder_word, multiplier_word, return_word, else_word}
use Rattle.grammar.specs.Words.{root_word, open_sign, close_sign}
use Rattle.grammar.specs.Records.{minus_bits, record_ql, record_qb, record_qe, record_qr, record_qv, record_qs}
use Rattle.grammar.specs.Records.{record_qt, record_qf, record_qi, record_qo, record_qc, record_qd, record_qx}
use Rattle.grammar.specs.Grammar.{Level, expr, single, comparison, additive, multiplicative, path, primary}
use Rattle.grammar.specs.Grammar.{a_single, comma, for_in, let_be, if_then, a_comparison, an_additive}
use Rattle.grammar.specs.Grammar.{compared, a_product, added, a_path, multiplied, a_primary, stepped, integer}
use Rattle.grammar.specs.Grammar.{negative, variable, truth, empty, root_of, counted, valued, group, words}
use Rattle.grammar.specs.Grammar.{records}
use Rattle.grammar.specs.Spelled.{Spells}
use Rattle.grammar.specs.Typed.{Typed, records_outcome, TypedCall, inside}
use Rattle.grammar.specs.Written.{rank, looser, spaced, dollar, truth_text, item_text, step_text}
use Rattle.grammar.specs.Written.{function_word, function_level, left_level, right_level, enclosed, for_head, let_head}
use Rattle.grammar.specs.Written.{if_head, then_text, count_head, data_head, root_text, comma_text, text_of}
use Rattle.grammar.specs.Encoded.{item_record, query_bytes, Plain, Ranged}
use Rattle.grammar.specs.Parts.{Spelt, Writes}
use Rattle.grammar.proofs.Decimals.{numeral}
use Rattle.grammar.proofs.Spelling.{spelt_word, spelt_heading, spelt_between, spelt_closing, for_heading}
use Rattle.grammar.proofs.Spelling.{let_heading, if_heading, count_heading, data_heading, open_heading}
use Rattle.grammar.proofs.Spelling.{comma_between, word_between, then_between, close_closing, step_closing}
use Rattle.grammar.proofs.Spelling.{truth_spelt, empty_spelt, variable_spelt, root_spelt}
use Rattle.grammar.proofs.Covering.{query_bytes_lem}

module _ {d : ℕ} {bs t : List ℕ} where
  -- Levels

  to_path : Writes primary d bs t → Writes path d bs t
  unfolding words records
  to_path w = record { part = a_primary w.part; meant = w.meant; spelt = w.spelt }

  to_multiplicative : Writes path d bs t → Writes multiplicative d bs t
  unfolding words records
  to_multiplicative w = record { part = a_path w.part; meant = w.meant; spelt = w.spelt }

  to_additive : Writes multiplicative d bs t → Writes additive d bs t
  unfolding words records
  to_additive w = record { part = a_product w.part; meant = w.meant; spelt = w.spelt }

  to_comparison : Writes additive d bs t → Writes comparison d bs t
  unfolding words records
  to_comparison w = record { part = an_additive w.part; meant = w.meant; spelt = w.spelt }

  to_single : Writes comparison d bs t → Writes single d bs t
  unfolding words records
  to_single w = record { part = a_comparison w.part; meant = w.meant; spelt = w.spelt }

  to_expr : Writes single d bs t → Writes expr d bs t
  unfolding words records
  to_expr w = record { part = a_single w.part; meant = w.meant; spelt = w.spelt }

  as_path : (a : Level) → looser a path ≡ false → Writes a d bs t → Writes path d bs t
  unfolding looser rank
  as_path expr h w = absurd (true≢false h)
  as_path single h w = absurd (true≢false h)
  as_path comparison h w = absurd (true≢false h)
  as_path additive h w = absurd (true≢false h)
  as_path multiplicative h w = absurd (true≢false h)
  as_path path h w = w
  as_path primary h w = to_path w

  as_multiplicative : (a : Level) → looser a multiplicative ≡ false → Writes a d bs t → Writes multiplicative d bs t
  unfolding looser rank
  as_multiplicative expr h w = absurd (true≢false h)
  as_multiplicative single h w = absurd (true≢false h)
  as_multiplicative comparison h w = absurd (true≢false h)
  as_multiplicative additive h w = absurd (true≢false h)
  as_multiplicative multiplicative h w = w
  as_multiplicative path h w = to_multiplicative w
  as_multiplicative primary h w = to_multiplicative (to_path w)

  as_additive : (a : Level) → looser a additive ≡ false → Writes a d bs t → Writes additive d bs t
  unfolding looser rank
  as_additive expr h w = absurd (true≢false h)
  as_additive single h w = absurd (true≢false h)
  as_additive comparison h w = absurd (true≢false h)
  as_additive additive h w = w
  as_additive multiplicative h w = to_additive w
  as_additive path h w = to_additive (as_multiplicative path refl w)
  as_additive primary h w = to_additive (as_multiplicative primary refl w)

  as_comparison : (a : Level) → looser a comparison ≡ false → Writes a d bs t → Writes comparison d bs t
  unfolding looser rank
  as_comparison expr h w = absurd (true≢false h)
  as_comparison single h w = absurd (true≢false h)
  as_comparison comparison h w = w
  as_comparison additive h w = to_comparison w
  as_comparison multiplicative h w = to_comparison (to_additive w)
  as_comparison path h w = to_comparison (as_additive path refl w)
  as_comparison primary h w = to_comparison (as_additive primary refl w)

  as_single : (a : Level) → looser a single ≡ false → Writes a d bs t → Writes single d bs t
  unfolding looser rank
  as_single expr h w = absurd (true≢false h)
  as_single single h w = w
  as_single comparison h w = to_single w
  as_single additive h w = to_single (to_comparison w)
  as_single multiplicative h w = to_single (as_comparison multiplicative refl w)
  as_single path h w = to_single (as_comparison path refl w)
  as_single primary h w = to_single (as_comparison primary refl w)

  as_expr : (a : Level) → Writes a d bs t → Writes expr d bs t
  unfolding looser rank
  as_expr expr w = w
  as_expr single w = to_expr w
  as_expr comparison w = to_expr (to_single w)
  as_expr additive w = to_expr (as_single additive refl w)
  as_expr multiplicative w = to_expr (as_single multiplicative refl w)
  as_expr path w = to_expr (as_single path refl w)
  as_expr primary w = to_expr (as_single primary refl w)

  as_primary : (a : Level) → looser a primary ≡ false → Writes a d bs t → Writes primary d bs t
  unfolding looser rank
  as_primary expr h w = absurd (true≢false h)
  as_primary single h w = absurd (true≢false h)
  as_primary comparison h w = absurd (true≢false h)
  as_primary additive h w = absurd (true≢false h)
  as_primary multiplicative h w = absurd (true≢false h)
  as_primary path h w = absurd (true≢false h)
  as_primary primary h w = w

  pub loosened : (a b : Level) → looser a b ≡ false → Writes a d bs t → Writes b d bs t
  loosened a expr h w = as_expr a w
  loosened a single h w = as_single a h w
  loosened a comparison h w = as_comparison a h w
  loosened a additive h w = as_additive a h w
  loosened a multiplicative h w = as_multiplicative a h w
  loosened a path h w = as_path a h w
  loosened a primary h w = as_primary a h w

-- nothing is tighter than a primary
pub primary_tightest : (l : Level) → looser primary l ≡ false
unfolding looser rank
primary_tightest expr = refl
primary_tightest single = refl
primary_tightest comparison = refl
primary_tightest additive = refl
primary_tightest multiplicative = refl
primary_tightest path = refl
primary_tightest primary = refl

module _ {d : ℕ} {bs t : List ℕ} where
  from_primary : (l : Level) → Writes primary d bs t → Writes l d bs t
  from_primary l w = loosened primary l (primary_tightest l) w

  grouped : Writes expr d bs t → Writes primary (suc d) bs (enclosed true t)
  unfolding words records enclosed
  grouped w =
      record {
        part = group w.part;
        meant = w.meant;
        spelt = spelt_heading open_heading (spelt_closing close_closing w.spelt);
      }

pub enclosed_writes :
    {bs t : List ℕ} (own l : Level) (d : ℕ) → 1 ≤ d → ((e : ℕ) → d ≤ suc e → Writes own e bs t) →
    Writes l d bs (enclosed (looser own l) t)
unfolding enclosed
enclosed_writes {bs} {t} own l d some w = go d some w (looser own l) refl
  where
    go :
        (d : ℕ) → 1 ≤ d → ((e : ℕ) → d ≤ suc e → Writes own e bs t) → (b : Bool) → looser own l ≡ b →
        Writes l d bs (enclosed b t)
    go zero some w true h = absurd (omega arith)
    go (suc e) some w true h = from_primary l (grouped (as_expr own (w e (omega arith))))
    go d some w false h = subst (Writes l d bs) (sym (append-nil t)) (loosened own l h (w d (omega arith)))

-- Productions

module _ {d : ℕ} where
  integer_writes : (n : ℕ) → n ≤ 2147483647 → Writes primary d (record_ql n) (decimal n)
  unfolding words records
  integer_writes n small =
      let m = numeral n (omega arith) in
      record {
        part = integer m.figures (omega (arith, m.valued));
        meant = ap record_ql m.valued;
        spelt = subst (λ (x : List ℕ). Spelt (fixed x ∷ []) (decimal n)) (sym m.spelled) (spelt_word (fixed
            (decimal n)));
      }

  negative_writes : (n : ℕ) → n ≤ 2147483648 → Writes primary d (record_ql (minus_bits n)) (45 ∷ decimal n)
  unfolding words records
  negative_writes n small =
      let m = numeral n (omega arith) in
      record {
        part = negative m.figures (omega (arith, m.valued));
        meant = ap (λ (v : ℕ). record_ql (minus_bits v)) m.valued;
        spelt =
            subst (λ (x : List ℕ). Spelt (fixed (45 ∷ x) ∷ []) (45 ∷ decimal n)) (sym m.spelled)
            (spelt_word (fixed (45 ∷ decimal n)));
      }

  truth_writes : (b : Bool) → Writes primary d (record_qb b) (truth_text b)
  unfolding words records
  truth_writes b = record { part = truth b; meant = refl; spelt = truth_spelt b }

  empty_writes : Writes primary d record_qe (40 ∷ 41 ∷ [])
  unfolding words records
  empty_writes = record { part = empty; meant = refl; spelt = empty_spelt }

  root_writes : (k : ℕ) → 1 ≤ k → k ≤ 255 → Writes primary d (record_qr k) (root_text k)
  unfolding words records root_text
  root_writes k some small =
      let m = numeral k (omega arith) in
      record {
        part = root_of m.figures (omega (arith, m.valued)) (omega (arith, m.valued));
        meant = ap record_qr m.valued;
        spelt =
            subst (λ (x : List ℕ). Spelt (root_word ∷ open_sign ∷ fixed x ∷ close_sign ∷ []) (root_text k))
            (sym m.spelled) (root_spelt (decimal k));
      }

  variable_writes : (v : ℕ) → v < 8 → Writes primary d (record_qv v) (dollar v)
  unfolding words records
  variable_writes v small =
      let u : Var = record { number = v; small = small } in
      record { part = variable u; meant = refl; spelt = variable_spelt u }

module _ {d : ℕ} {xs ys t u : List ℕ} where
  comma_writes :
      Writes expr d xs t → Writes single d ys u → Writes expr d (record_qs ++ (xs ++ ys)) (t ++ (comma_text ++ u))
  unfolding words records
  comma_writes a b =
      record {
        part = comma a.part b.part;
        meant = ap₂ (λ (x y : List ℕ). record_qs ++ (x ++ y)) a.meant b.meant;
        spelt = spelt_between comma_between a.spelt b.spelt;
      }

  for_writes :
      (v : ℕ) → v < 8 → Writes single d xs t → Writes single d ys u →
      Writes single d (record_qf v ++ (xs ++ ys)) (for_head v ++ (t ++ (spaced return_word ++ u)))
  unfolding words records
  for_writes v small a b =
      let w : Var = record { number = v; small = small } in
      record {
        part = for_in w a.part b.part;
        meant = ap₂ (λ (x y : List ℕ). record_qf v ++ (x ++ y)) a.meant b.meant;
        spelt = spelt_heading (for_heading w) (spelt_between (word_between return_word) a.spelt b.spelt);
      }

  let_writes :
      (v : ℕ) → v < 8 → Writes single d xs t → Writes single d ys u →
      Writes single d (record_qt v ++ (xs ++ ys)) (let_head v ++ (t ++ (spaced return_word ++ u)))
  unfolding words records
  let_writes v small a b =
      let w : Var = record { number = v; small = small } in
      record {
        part = let_be w a.part b.part;
        meant = ap₂ (λ (x y : List ℕ). record_qt v ++ (x ++ y)) a.meant b.meant;
        spelt = spelt_heading (let_heading w) (spelt_between (word_between return_word) a.spelt b.spelt);
      }

  if_writes :
      {zs c : List ℕ} → Writes expr d zs c → Writes single d xs t → Writes single d ys u →
      Writes single d (record_qi ++ (zs ++ (xs ++ ys))) (if_head ++ (c ++ (then_text ++ (t ++ (spaced else_word ++ u)))))
  unfolding words records
  if_writes {zs} c a b =
      record {
        part = if_then c.part a.part b.part;
        meant =
            ap₂ (λ (x y : List ℕ). record_qi ++ (x ++ y)) c.meant
            (ap₂ (λ (x y : List ℕ). x ++ y) a.meant b.meant);
        spelt =
            spelt_heading if_heading
            (spelt_between then_between c.spelt (spelt_between (word_between else_word) a.spelt b.spelt));
      }

  compared_writes :
      (o : Comparer) → Writes additive d xs t → Writes additive d ys u →
      Writes comparison d (record_qo (compares o) ++ (xs ++ ys)) (t ++ (spaced (comparer_word o) ++ u))
  unfolding words records
  compared_writes o a b =
      record {
        part = compared o a.part b.part;
        meant = ap₂ (λ (x y : List ℕ). record_qo (compares o) ++ (x ++ y)) a.meant b.meant;
        spelt = spelt_between (word_between (comparer_word o)) a.spelt b.spelt;
      }

  added_writes :
      (o : Adder) → Writes additive d xs t → Writes multiplicative d ys u →
      Writes additive d (record_qo (adds o) ++ (xs ++ ys)) (t ++ (spaced (adder_word o) ++ u))
  unfolding words records
  added_writes o a b =
      record {
        part = added o a.part b.part;
        meant = ap₂ (λ (x y : List ℕ). record_qo (adds o) ++ (x ++ y)) a.meant b.meant;
        spelt = spelt_between (word_between (adder_word o)) a.spelt b.spelt;
      }

  multiplied_writes :
      (o : Multiplier) → Writes multiplicative d xs t → Writes path d ys u →
      Writes multiplicative d (record_qo (multiplies o) ++ (xs ++ ys)) (t ++ (spaced (multiplier_word o) ++ u))
  unfolding words records
  multiplied_writes o a b =
      record {
        part = multiplied o a.part b.part;
        meant = ap₂ (λ (x y : List ℕ). record_qo (multiplies o) ++ (x ++ y)) a.meant b.meant;
        spelt = spelt_between (word_between (multiplier_word o)) a.spelt b.spelt;
      }

  -- by the function
  applied_writes :
      (f : Function) → Writes (left_level f) d xs t → Writes (right_level f) d ys u →
      Writes (function_level f) d (record_qo f ++ (xs ++ ys)) (t ++ (spaced (function_word f) ++ u))
  applied_writes Add a b = added_writes plus a b
  applied_writes Subtract a b = added_writes minus a b
  applied_writes Multiply a b = multiplied_writes times a b
  applied_writes Divide a b = multiplied_writes idiv a b
  applied_writes Equal a b = compared_writes eq a b
  applied_writes Less a b = compared_writes lt a b

module _ {d : ℕ} {xs t : List ℕ} where
  count_writes : Writes single d xs t → Writes primary d (record_qc ++ xs) (count_head ++ (t ++ (41 ∷ [])))
  unfolding words records
  count_writes a =
      record {
        part = counted a.part;
        meant = ap (λ (x : List ℕ). record_qc ++ x) a.meant;
        spelt = spelt_heading count_heading (spelt_closing close_closing a.spelt);
      }

  data_writes : Writes single d xs t → Writes primary d (record_qd ++ xs) (data_head ++ (t ++ (41 ∷ [])))
  unfolding words records
  data_writes a =
      record {
        part = valued a.part;
        meant = ap (λ (x : List ℕ). record_qd ++ x) a.meant;
        spelt = spelt_heading data_heading (spelt_closing close_closing a.spelt);
      }

  stepped_writes :
      (x : Axis) (k : NodeTest) → Writes path d xs t →
      Writes path d (record_qx x (tested k) ++ xs) (t ++ step_text x (tested k))
  unfolding words records
  stepped_writes x k a =
      record {
        part = stepped a.part x k;
        meant = ap (λ (y : List ℕ). record_qx x (tested k) ++ y) a.meant;
        spelt = spelt_closing (step_closing x k) a.spelt;
      }

  step_writes :
      (x : Axis) (k : Test) → test_name k ≤ 65535 → Writes path d xs t → Writes path d (record_qx x k ++ xs) (t ++
      step_text x k)
  unfolding test_name
  step_writes x AnyNode small a = stepped_writes x any_node a
  step_writes x Element small a = stepped_writes x element a
  step_writes x Text small a = stepped_writes x text_node a
  step_writes x (Named n) small a = stepped_writes x (named n small) a

-- A literal, by the item that its cell holds

item_writes : {d : ℕ} (h : Option Item) → Plain h → Writes primary d (item_record h) (item_text h)
unfolding item_record item_text signed in_range
item_writes (Some (Integer (pos n))) h = integer_writes n (omega (arith, ltb-true n 0x8000_0000 h))
item_writes (Some (Integer (negsuc n))) h =
    negative_writes (suc n) (omega (arith, ltb-true n 0x8000_0000 h))
item_writes (Some (Truth b)) h = truth_writes b
item_writes (Some (Node r)) h = absurd h
item_writes None h = absurd h

-- The text of a query

-- a query has a record
depth_some : (q : Query) → 1 ≤ depth q
depth_some (QL at z) = omega arith
depth_some (QE at) = omega arith
depth_some (QR at k) = omega arith
depth_some (QV at v) = omega arith
depth_some (QS at a b) = omega arith
depth_some (QT at v a b) = omega arith
depth_some (QF at v a b) = omega arith
depth_some (QI at c a b) = omega arith
depth_some (QO at f a b) = omega arith
depth_some (QC at a) = omega arith
depth_some (QD at a) = omega arith
depth_some (QX at x t a) = omega arith

-- at most d parentheses are open inside a query of d + 1 levels: the outermost record may have a pair, the innermost
-- has none
pub writes :
    (q : Query) (l : Level) (d : ℕ) → depth q ≤ suc d → Ranged q → Writes l d (query_bytes q) (text_of l q)
unfolding query_bytes text_of
writes (QL at z) l d h r = from_primary l (item_writes (held z) r)
writes (QE at) l d h r = from_primary l empty_writes
writes (QR at k) l d h r = from_primary l (root_writes k r.0 r.1)
writes (QV at v) l d h r = from_primary l (variable_writes v r)
writes (QS at a b) l d h r =
    enclosed_writes expr l d (omega (arith, depth_some a))
    (λ e g. comma_writes (writes a expr e (omega arith) r.0) (writes b single e (omega arith) r.1))
writes (QT at v a b) l d h r =
    enclosed_writes single l d (omega (arith, depth_some a))
    (λ e g.
    let_writes v r.0 (writes a single e (omega arith) r.1) (writes b single e (omega arith) r.2))
writes (QF at v a b) l d h r =
    enclosed_writes single l d (omega (arith, depth_some a))
    (λ e g.
    for_writes v r.0 (writes a single e (omega arith) r.1) (writes b single e (omega arith) r.2))
writes (QI at c a b) l d h r =
    enclosed_writes single l d (omega (arith, depth_some c))
    (λ e g.
    if_writes (writes c expr e (omega arith) r.0) (writes a single e (omega arith) r.1)
    (writes b single e (omega arith) r.2))
writes (QO at f a b) l d h r =
    enclosed_writes (function_level f) l d (omega (arith, depth_some a))
    (λ e g.
    applied_writes f (writes a (left_level f) e (omega arith) r.0) (writes b (right_level f) e (omega arith) r.1))
writes (QC at a) l d h r = from_primary l (count_writes (writes a single d (omega arith) r))
writes (QD at a) l d h r = from_primary l (data_writes (writes a single d (omega arith) r))
writes (QX at x t a) l d h r =
    enclosed_writes path l d (omega (arith, depth_some a))
    (λ e g. step_writes x t r.0 (writes a path e (omega arith) r.1))

pub written_typed :
    (bs : List ℕ) (r : Read) → Bytes bs → query_read bs ≡ reads r → Typed (text_of expr r.tree) bs
unfolding Spells
written_typed bs r h e =
    let c = query_bytes_lem bs r h e in
    let w = writes r.tree expr 32 (omega (arith, (accepted bs r e).nested)) c.ranged in
    record {
      part = w.part;
      meant = w.meant ∙ sym c.bytes;
      spelled =
          subst (λ (x : List Word). Spells symbol x (text_of expr r.tree)) (append-nil (words w.part))
          (subst (Spells symbol (words w.part ++ [])) (append-nil (text_of expr r.tree))
          (w.spelt.before [] [] (λ k. tt)));
    }

pub written_call :
    (bs : List ℕ) (r : Read) (lent : ℕ) → Bytes bs → query_read bs ≡ reads r → length bs ≤ lent →
    TypedCall (text_of expr r.tree) lent
    (record { answer = gives (r.records ∷ length bs ∷ []); left = padded 0 lent bs })
unfolding records_outcome
written_call bs r lent h e l =
    inside bs (written_typed bs r h e) (sym (ap (records_outcome lent bs) e ∙ rw (le-leb (length bs) lent l)))
