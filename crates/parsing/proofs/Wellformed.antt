-- The records of a typed text are well formed (document 02, L1): no mark, no field and no length is wrong, so that
-- they are refused for their number, their nesting or an unbound variable, if at all.
--     Walks end m        reading m refuses by 2 or by 3, or reads to the offset end
--     Walked bs xs       reading bs where the bytes xs stand walks to the end of xs
--     Back bs r x        where the bytes r stand in bs, they read back as the record x
--     records_walked     the records of a part are walked
--     well_formed        the records of a typed text are not refused by 1
use Prim.Native.Nat.{ℕ, zero, suc, ◌+◌, ◌≤◌, ◌<◌}
use mathlib.Core.Path.{◌≡◌, refl, sym, ap, ◌∙◌, subst}
use mathlib.Core.List.{List, [], ◌∷◌, ◌++◌, append_assoc, append-nil}
use mathlib.Core.Bool.{Bool, true, false}
use native.Mathlib.Omega.{arith}
use native.Mathlib.Nat.{add-zero, zero-add}
use borrow.Author.Tests.{le-leb, lt-ltb, eq-eqb}
use lib.Dec.{ltb, eqb}
use lib.IntN.{ℤ}
use lib.ListN.{length, drop, length-append, length-drop}
use lib.Seq.{get_or-drop, drop-drop, drop-append_seam}
use Rattle.cells.specs.Bytes.{byte_at, word, int4, bytes_of}
use Rattle.cells.specs.Cell.{false_cell, true_cell}
use Rattle.cells.proofs.Bytes.{le_fits, word_drop, word_written}
use Rattle.codes.specs.declared.Function.{Function}
use Rattle.codes.specs.declared.Axis.{Axis}
use Rattle.codes.specs.declared.Test.{Test}
use Rattle.codes.proofs.Numbers.{function_back, axis_back, test_back}
use Rattle.codes.specs.Codes.{function_of, axis_of, test_of, function_number, axis_number, test_number, test_name}
use Rattle.codes.specs.Limits.{most_records, most_levels}
use Rattle.laws.specs.Attempt.{Attempt, gives, attempt, provided, Reading, refuses, reads, reading, unless, refusing}
use Rattle.laws.proofs.Outcomes.{refuses_reads}
use Rattle.meaning.specs.Query.{Query, QS, QT, QF, QI, QO, QC, QD, QX, Record, literal, root, sequence, letting, for}
use Rattle.meaning.specs.Query.{choice, function, counting, values, step, variable_of, fragment_of, boolean_of, sized}
use Rattle.meaning.specs.Query.{record_of, record_at, Read, Operand, bound, leaf, one, two, three, operands, read}
use Rattle.meaning.specs.Query.{query_read}
use Rattle.grammar.specs.Numerals.{value}
use Rattle.grammar.specs.Words.{Var, NodeTest, any_node, element, text_node, named, compares, adds, multiplies, tested}
use Rattle.grammar.specs.Records.{minus_bits, record_ql, record_qb, record_qe, record_qr, record_qv, record_qs, record_qt}
use Rattle.grammar.specs.Records.{record_qf, record_qi, record_qo, record_qc, record_qd, record_qx}
use Rattle.grammar.specs.Grammar.{Level, expr, Part, most_groups, records, a_single, comma, for_in, let_be, if_then}
use Rattle.grammar.specs.Grammar.{a_comparison, an_additive, compared, a_product, added, a_path, multiplied, a_primary}
use Rattle.grammar.specs.Grammar.{stepped, integer, negative, variable, truth, empty, root_of, counted, valued, group}
use Rattle.grammar.specs.Typed.{Typed}

-- Outcomes

pub data Walks (end : ℕ) : Reading Read → Type 0 where
  past_limit : {p : ℕ} → Walks end (refuses 2 p)
  unbound : {p : ℕ} → Walks end (refuses 3 p)
  arrives : (r : Read) → r.next ≡ end → Walks end (reads r)

limit_walks : {end : ℕ} {m : Reading Read} (b : Bool) (p : ℕ) → Walks end m → Walks end (unless b 2 p m)
unfolding unless
limit_walks true p w = w
limit_walks false p w = past_limit

bound_walks : {end : ℕ} {m : Reading Read} (b : Bool) (p : ℕ) → Walks end m → Walks end (unless b 3 p m)
unfolding unless
bound_walks true p w = w
bound_walks false p w = unbound

one_walks : {end : ℕ} {a : Reading Read} (f : Query → Query) → Walks end a → Walks end (one f a)
unfolding one reading leaf
one_walks f past_limit = past_limit
one_walks f unbound = unbound
one_walks f (arrives r e) = arrives _ e

two_walks : {mid end : ℕ} {a : Reading Read} (f : Query → Query → Query) (b : ℕ → ℕ → Reading Read)
    → Walks mid a → ((n : ℕ) → Walks end (b n mid)) → Walks end (two f a b)
unfolding two reading
two_walks f b past_limit h = past_limit
two_walks f b unbound h = unbound
two_walks {end = end} f b (arrives r e) h =
    one_walks (f r.tree) (subst (λ (k : ℕ). Walks end (b r.records k)) (sym e) (h r.records))

three_walks : {mid far end : ℕ} {c : Reading Read} (f : Query → Query → Query → Query) (a b : ℕ → ℕ → Reading Read)
    → Walks mid c → ((n : ℕ) → Walks far (a n mid)) → ((n : ℕ) → Walks end (b n far)) → Walks end (three f c a b)
unfolding three reading
three_walks f a b past_limit h g = past_limit
three_walks f a b unbound h g = unbound
three_walks {far = far} f a b (arrives r e) h g =
    two_walks (f r.tree) b (subst (λ (k : ℕ). Walks far (a r.records k)) (sym e) (h r.records)) g

-- Fields

name_small : (t : NodeTest) → test_name (tested t) < 65536
unfolding test_name
name_small any_node = omega arith
name_small element = omega arith
name_small text_node = omega arith
name_small (named n small) = omega arith

step_back : (a b w : ℕ) (x : Axis) (t : Test) → a ≡ axis_number x → b ≡ test_number t → w ≡ test_name t
    → test_of (test_number t) (test_name t) ≡ gives t
    → attempt (axis_of a) (λ y. attempt (test_of b w) (λ u. gives (step y u))) ≡ gives (step x t)
unfolding attempt
step_back a b w x t p q r e = rw (p, axis_back x, q, r, e)

variable_back : (v : Var) → variable_of v.number ≡ gives v.number
unfolding variable_of provided
variable_back v = rw (lt-ltb v.number 8 v.small)

fragment_back : (k : ℕ) → 1 ≤ k → k ≤ 255 → fragment_of k ≡ gives k
unfolding fragment_of provided
fragment_back k h i = rw (le-leb 1 k h, le-leb k 255 i)

-- Records

pub record Back (bs r : List ℕ) (x : Record) : Type 0 where
  pub back : (at : ℕ) (rest : List ℕ) → drop at bs ≡ r ++ rest → record_at bs at ≡ reads (x, at + length r)

pub record Walked (bs xs : List ℕ) : Type 0 where
  pub walked : (d : ℕ) (vs : List ℕ) (n at : ℕ) (rest : List ℕ) → drop at bs ≡ xs ++ rest
      → Walks (at + length xs) (read d bs vs n at)

module _ (bs : List ℕ) (at : ℕ) where
  byte_there : (i : ℕ) (zs : List ℕ) → drop at bs ≡ zs → byte_at bs (at + i) ≡ byte_at zs i
  byte_there i zs e = sym (get_or-drop at bs i 0) ∙ ap (λ (s : List ℕ). byte_at s i) e

  word_there : (i n : ℕ) (zs : List ℕ) → drop at bs ≡ zs → word bs (at + i) n ≡ word zs i n
  word_there i n zs e = sym (word_drop at bs i n) ∙ ap (λ (s : List ℕ). word s i n) e

  -- the mark Q m
  mark_there : (m : ℕ) (zs : List ℕ) → drop at bs ≡ 0x51 ∷ m ∷ zs → word bs at 2 ≡ 0x5100 + m
  unfolding word
  mark_there m zs e =
      ap (λ (k : ℕ). word bs k 2) (sym (add-zero at)) ∙ word_there 0 2 (0x51 ∷ m ∷ zs) e ∙ (omega arith)

  -- a record of n bytes, by what its mark says of its fields
  sized_back : (n m : ℕ) (x : Record) (a : Attempt Record) (zs : List ℕ) → drop at bs ≡ 0x51 ∷ m ∷ zs → 1 ≤ n
      → n ≤ 2 + length zs → record_of bs at (0x5100 + m) ≡ sized bs at n a → a ≡ gives x
      → record_at bs at ≡ reads (x, at + n)
  unfolding record_at sized provided attempt refusing
  sized_back n m x a zs e l u q p =
      let room : at + n ≤ length bs = omega (arith, length-drop at bs, ap length e) in
      ap (λ (w : ℕ). refusing 1 at (record_of bs at w)) (mark_there m zs e)
      ∙ ap (refusing 1 at) q
      ∙ rw (le_fits bs at n room, p)

module _ (bs : List ℕ) where
  -- a record that is only its mark
  plain_back : (m : ℕ) (x : Record) → ((at : ℕ) → record_of bs at (0x5100 + m) ≡ sized bs at 2 (gives x))
      → Back bs (0x51 ∷ m ∷ []) x
  plain_back m x q =
      record { back = λ at rest e. sized_back bs at 2 m x (gives x) rest e (omega arith) (omega arith) (q at) refl }

  -- a record of one byte
  byte_back : (m b : ℕ) (x : Record) (a : ℕ → Attempt Record)
      → ((at : ℕ) → record_of bs at (0x5100 + m) ≡ sized bs at 3 (a (byte_at bs (at + 2)))) → a b ≡ gives x
      → Back bs (0x51 ∷ m ∷ b ∷ []) x
  byte_back m b x a q p =
      record {
        back = λ at rest e.
            sized_back bs at 3 m x (a (byte_at bs (at + 2))) (b ∷ rest) e (omega arith) (omega arith) (q at)
            (ap a (byte_there bs at 2 (0x51 ∷ m ∷ b ∷ rest) e) ∙ p);
      }

  QE-back : Back bs record_qe Record.empty
  unfolding record_qe bytes_of record_of
  QE-back = plain_back 0x45 Record.empty (λ at. refl)

  QS-back : Back bs record_qs sequence
  unfolding record_qs bytes_of record_of
  QS-back = plain_back 0x53 sequence (λ at. refl)

  QI-back : Back bs record_qi choice
  unfolding record_qi bytes_of record_of
  QI-back = plain_back 0x49 choice (λ at. refl)

  QC-back : Back bs record_qc counting
  unfolding record_qc bytes_of record_of
  QC-back = plain_back 0x43 counting (λ at. refl)

  QD-back : Back bs record_qd values
  unfolding record_qd bytes_of record_of
  QD-back = plain_back 0x44 values (λ at. refl)

  QB-back : (b : Bool) → (z : ℤ) × Back bs (record_qb b) (literal z)
  unfolding record_qb bytes_of record_of boolean_of attempt
  QB-back true = (true_cell, byte_back 0x42 1 _ (λ c. attempt (boolean_of c) (λ z. gives (literal z))) (λ at. refl) refl)
  QB-back false =
      (false_cell, byte_back 0x42 0 _ (λ c. attempt (boolean_of c) (λ z. gives (literal z))) (λ at. refl) refl)

  QR-back : (k : ℕ) → 1 ≤ k → k ≤ 255 → Back bs (record_qr k) (root k)
  unfolding record_qr bytes_of record_of attempt
  QR-back k h i =
      byte_back 0x52 k (root k) (λ c. attempt (fragment_of c) (λ j. gives (root j))) (λ at. refl)
      (rw (fragment_back k h i))

  QV-back : (v : Var) → Back bs (record_qv v.number) (Record.variable v.number)
  unfolding record_qv bytes_of record_of attempt
  QV-back v =
      byte_back 0x56 v.number _ (λ c. attempt (variable_of c) (λ j. gives (Record.variable j))) (λ at. refl)
      (rw (variable_back v))

  QT-back : (v : Var) → Back bs (record_qt v.number) (letting v.number)
  unfolding record_qt bytes_of record_of attempt
  QT-back v =
      byte_back 0x54 v.number _ (λ c. attempt (variable_of c) (λ j. gives (letting j))) (λ at. refl)
      (rw (variable_back v))

  QF-back : (v : Var) → Back bs (record_qf v.number) (for v.number)
  unfolding record_qf bytes_of record_of attempt
  QF-back v =
      byte_back 0x46 v.number _ (λ c. attempt (variable_of c) (λ j. gives (for j))) (λ at. refl)
      (rw (variable_back v))

  QO-back : (f : Function) → Back bs (record_qo f) (function f)
  unfolding record_qo bytes_of record_of attempt
  QO-back f =
      byte_back 0x4F (function_number f) _ (λ c. attempt (function_of c) (λ g. gives (function g))) (λ at. refl)
      (rw (function_back f))

  QX-back : (x : Axis) (t : NodeTest) → Back bs (record_qx x (tested t)) (step x (tested t))
  unfolding record_qx bytes_of record_of
  QX-back x t =
      let u : Test = tested t in
      record {
        back = λ at rest e.
            let name : List ℕ = bytes_of 2 (test_name u) ++ rest in
            let zs : List ℕ = axis_number x ∷ test_number u ∷ name in
            sized_back bs at 6 0x58 (step x u) _ zs e (omega arith) (omega arith) refl
            (step_back _ _ _ x u (byte_there bs at 2 (0x51 ∷ 0x58 ∷ zs) e)
            (byte_there bs at 3 (0x51 ∷ 0x58 ∷ zs) e)
            (word_there bs at 4 2 (0x51 ∷ 0x58 ∷ zs) e
            ∙ word_written (0x51 ∷ 0x58 ∷ axis_number x ∷ test_number u ∷ []) rest 2 (test_name u) (name_small t))
            (test_back u));
      }

  -- Records with their operands

  past : (r rest : List ℕ) (at : ℕ) → drop at bs ≡ r ++ rest → drop (at + length r) bs ≡ rest
  past r rest at e = sym (drop-drop (length r) at bs) ∙ ap (drop (length r)) e ∙ drop-append_seam r rest

  read_at : {end : ℕ} (d : ℕ) (vs : List ℕ) (n at next : ℕ) (x : Record) → record_at bs at ≡ reads (x, next)
      → ((k : ℕ) → Walks end (operands (read k bs) vs at (suc n) next x)) → Walks end (read d bs vs n at)
  unfolding read reading
  read_at zero vs n at next x e w = rw e past_limit
  read_at (suc d) vs n at next x e w = rw e (limit_walks (ltb n most_records) at (w d))

  leaf_walked : {r : List ℕ} {x : Record} → Back bs r x
      → ((rd : Operand) (vs : List ℕ) (at n next : ℕ) → Walks next (operands rd vs at n next x)) → Walked bs r
  leaf_walked {r} {x} b w =
      record {
        walked = λ d vs n at rest e.
            read_at d vs n at (at + length r) x (b.back at rest e)
            (λ k. w (read k bs) vs at (suc n) (at + length r));
      }

  -- whatever the four bytes are, they are an integer
  integer_walked : (u : ℕ) → Walked bs (record_ql u)
  unfolding record_ql bytes_of record_of operands leaf
  integer_walked u =
      record {
        walked = λ d vs n at rest e.
            let x : Record = literal (int4 bs (at + 2)) in
            read_at d vs n at (at + 6) x
            (sized_back bs at 6 0x4C x (gives x) (bytes_of 4 u ++ rest) e (omega arith) (omega arith) refl refl)
            (λ k. arrives _ refl);
      }

  one_walked : {r xs : List ℕ} {x : Record} (f : ℕ → Query → Query) → Back bs r x
      → ((rd : Operand) (vs : List ℕ) (at n next : ℕ) → operands rd vs at n next x ≡ one (f at) (rd vs n next))
      → Walked bs xs → Walked bs (r ++ xs)
  one_walked {r} {xs} {x} f b op u =
      record {
        walked = λ d vs n at rest e.
            let next : ℕ = at + length r in
            let g : drop at bs ≡ r ++ (xs ++ rest) = e ∙ append_assoc r xs rest in
            let end : next + length xs ≡ at + length (r ++ xs) = simp length-append (omega arith) in
            subst (λ (k : ℕ). Walks k (read d bs vs n at)) end
            (read_at d vs n at next x (b.back at (xs ++ rest) g)
            (λ k.
            subst (Walks (next + length xs)) (sym (op (read k bs) vs at (suc n) next))
            (one_walks (f at) (u.walked k vs (suc n) next rest (past r (xs ++ rest) at g)))));
      }

  -- ws: the variables bound in the second operand
  two_walked : {r xs ys : List ℕ} {x : Record} (f : ℕ → Query → Query → Query) (ws : List ℕ → List ℕ) → Back bs r x
      → ((rd : Operand) (vs : List ℕ) (at n next : ℕ)
      → operands rd vs at n next x ≡ two (f at) (rd vs n next) (rd (ws vs)))
      → Walked bs xs → Walked bs ys → Walked bs (r ++ (xs ++ ys))
  two_walked {r} {xs} {ys} {x} f ws b op u v =
      record {
        walked = λ d vs n at rest e.
            let next : ℕ = at + length r in
            let mid : ℕ = next + length xs in
            let g : drop at bs ≡ r ++ (xs ++ (ys ++ rest)) = e ∙ simp append_assoc in
            let h : drop next bs ≡ xs ++ (ys ++ rest) = past r (xs ++ (ys ++ rest)) at g in
            let i : drop mid bs ≡ ys ++ rest = past xs (ys ++ rest) next h in
            let end : mid + length ys ≡ at + length (r ++ (xs ++ ys)) = simp length-append (omega arith) in
            subst (λ (k : ℕ). Walks k (read d bs vs n at)) end
            (read_at d vs n at next x (b.back at (xs ++ (ys ++ rest)) g)
            (λ k.
            subst (Walks (mid + length ys)) (sym (op (read k bs) vs at (suc n) next))
            (two_walks (f at) (read k bs (ws vs)) (u.walked k vs (suc n) next (ys ++ rest) h)
            (λ j. v.walked k (ws vs) j mid rest i))));
      }

  choice_walked : {xs ys zs : List ℕ} → Walked bs xs → Walked bs ys → Walked bs zs
      → Walked bs (record_qi ++ (xs ++ (ys ++ zs)))
  unfolding operands
  choice_walked {xs} {ys} {zs} u v w =
      record {
        walked = λ d vs n at rest e.
            let next : ℕ = at + length record_qi in
            let mid : ℕ = next + length xs in
            let far : ℕ = mid + length ys in
            let g : drop at bs ≡ record_qi ++ (xs ++ (ys ++ (zs ++ rest))) = e ∙ simp append_assoc in
            let h : drop next bs ≡ xs ++ (ys ++ (zs ++ rest)) = past record_qi (xs ++ (ys ++ (zs ++ rest))) at g in
            let i : drop mid bs ≡ ys ++ (zs ++ rest) = past xs (ys ++ (zs ++ rest)) next h in
            let j : drop far bs ≡ zs ++ rest = past ys (zs ++ rest) mid i in
            let end : far + length zs ≡ at + length (record_qi ++ (xs ++ (ys ++ zs))) =
            simp length-append (omega arith) in
            subst (λ (k : ℕ). Walks k (read d bs vs n at)) end
            (read_at d vs n at next choice (QI-back.back at (xs ++ (ys ++ (zs ++ rest))) g)
            (λ k.
            three_walks (QI at) (read k bs vs) (read k bs vs)
            (u.walked k vs (suc n) next (ys ++ (zs ++ rest)) h)
            (λ m. v.walked k vs m mid (zs ++ rest) i)
            (λ m. w.walked k vs m far rest j)));
      }

  function_walked : {xs ys : List ℕ} (f : Function) → Walked bs xs → Walked bs ys
      → Walked bs (record_qo f ++ (xs ++ ys))
  unfolding operands
  function_walked f u v = two_walked (λ at. QO at f) (λ vs. vs) (QO-back f) (λ rd vs at n next. refl) u v

  pub records_walked : {l : Level} {g : ℕ} (p : Part l g) → Walked bs (records p)
  unfolding records operands leaf
  records_walked (a_single p) = records_walked p
  records_walked (comma p q) =
      two_walked QS (λ vs. vs) QS-back (λ rd vs at n next. refl) (records_walked p) (records_walked q)
  records_walked (for_in v p q) =
      two_walked (λ at. QF at v.number) (λ vs. v.number ∷ vs) (QF-back v) (λ rd vs at n next. refl)
      (records_walked p) (records_walked q)
  records_walked (let_be v p q) =
      two_walked (λ at. QT at v.number) (λ vs. v.number ∷ vs) (QT-back v) (λ rd vs at n next. refl)
      (records_walked p) (records_walked q)
  records_walked (if_then c p q) = choice_walked (records_walked c) (records_walked p) (records_walked q)
  records_walked (a_comparison p) = records_walked p
  records_walked (an_additive p) = records_walked p
  records_walked (compared o p q) = function_walked (compares o) (records_walked p) (records_walked q)
  records_walked (a_product p) = records_walked p
  records_walked (added o p q) = function_walked (adds o) (records_walked p) (records_walked q)
  records_walked (a_path p) = records_walked p
  records_walked (multiplied o p q) = function_walked (multiplies o) (records_walked p) (records_walked q)
  records_walked (a_primary p) = records_walked p
  records_walked (stepped p x t) =
      one_walked (λ at. QX at x (tested t)) (QX-back x t) (λ rd vs at n next. refl) (records_walked p)
  records_walked (integer n small) = integer_walked (value n)
  records_walked (negative n small) = integer_walked (minus_bits (value n))
  records_walked (variable v) =
      leaf_walked (QV-back v) (λ rd vs at n next. bound_walks (bound v.number vs) at (arrives _ refl))
  records_walked (truth b) = leaf_walked (QB-back b).1 (λ rd vs at n next. arrives _ refl)
  records_walked empty = leaf_walked QE-back (λ rd vs at n next. arrives _ refl)
  records_walked (root_of n some small) =
      leaf_walked (QR-back (value n) some small) (λ rd vs at n next. arrives _ refl)
  records_walked (counted p) = one_walked QC QC-back (λ rd vs at n next. refl) (records_walked p)
  records_walked (valued p) = one_walked QD QD-back (λ rd vs at n next. refl) (records_walked p)
  records_walked (group p) = records_walked p

-- The whole text

arrived : {m : Reading Read} (bs : List ℕ) (p : ℕ) → Walks (length bs) m
    → reading m (λ r. unless (eqb r.next (length bs)) 1 r.next (reads r)) ≡ refuses 1 p → ⊥
unfolding reading unless
arrived bs p past_limit e = let z : ◌≡◌ {A = ℕ} 2 1 = cc in omega arith
arrived bs p unbound e = let z : ◌≡◌ {A = ℕ} 3 1 = cc in omega arith
arrived bs p (arrives r h) e =
    refuses_reads 1 p r (sym (rw (eq-eqb r.next (length bs) h) at e))

part_formed : (q : Part expr most_groups) (p : ℕ) → query_read (records q) ≡ refuses 1 p → ⊥
unfolding query_read
part_formed q p e =
    let bs : List ℕ = records q in
    arrived bs p
    (subst (λ (k : ℕ). Walks k (read most_levels bs [] 0 0)) (zero-add (length bs))
    ((records_walked bs q).walked most_levels [] 0 0 [] (sym (append-nil bs)))) e

pub well_formed : (t bs : List ℕ) (p : ℕ) → Typed t bs → query_read bs ≡ refuses 1 p → ⊥
well_formed t bs p typed e =
    subst (λ (s : List ℕ). query_read s ≡ refuses 1 p → ⊥) typed.meant (part_formed typed.part p) e
