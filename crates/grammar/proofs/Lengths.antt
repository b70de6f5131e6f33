-- How long a written text is: 27 bytes a record are enough, as in `/descendant-or-self::n65535`, so 3,456 for a query.
--     enclosed_long       parentheses are two bytes more
--     axis_long, step_long, item_long     an axis, a step, a literal
--     Asked l             a level that an operand is asked at: all but the tightest
--     text_long           the text of a query has at most 27 bytes a record
--     written_long        the text of an accepted query has at most 3,456 bytes
use Rattle.std.specs.Prelude.{Option, Some, None}
use Prim.Native.Nat.{ℕ, suc, ◌+◌, ◌*◌, ◌≤◌}
use mathlib.Core.Path.{◌≡◌, refl}
use mathlib.Core.List.{List, [], ◌∷◌, ◌++◌}
use mathlib.Core.Bool.{Bool, true, false}
use native.Mathlib.Omega.{arith}
use lib.IntN.{pos, negsuc}
use lib.ListN.{length, length-append}
use Rattle.codes.specs.declared.Function.{Function}
use Rattle.codes.specs.declared.Function.TheVariants.{Add, Subtract, Multiply, Divide, Equal, Less}
use Rattle.codes.specs.declared.Axis.{Axis}
use Rattle.codes.specs.declared.Axis.TheVariants.{Child, Descendant, DescendantOrSelf, Itself}
use Rattle.codes.specs.declared.Axis.TheVariants.{Parent, Ancestor, Following, Preceding}
use Rattle.codes.specs.declared.Test.{Test}
use Rattle.codes.specs.declared.Test.TheVariants.{AnyNode, Element, Text, Named}
use Rattle.cells.specs.declared.Item.{Item}
use Rattle.cells.specs.declared.Item.TheVariants.{Integer, Truth, Node}
use Rattle.cells.specs.Bytes.{Bytes}
use Rattle.cells.specs.Cell.{held}
use Rattle.codes.specs.Codes.{test_name}
use Rattle.laws.specs.Attempt.{reads}
use Rattle.meaning.specs.Query.{Query, QL, QE, QR, QV, QS, QT, QF, QI, QO, QC, QD, QX, Read, query_read}
use Rattle.theorems.specs.Closed.{records}
use Rattle.theorems.proofs.Closed.{accepted}
use Rattle.pen.specs.Decimal.{decimal, signed}
use Rattle.grammar.specs.Words.{axis_word, else_word, return_word}
use Rattle.grammar.specs.Grammar.{Level, expr, single, comparison, additive, multiplicative, path, primary}
use Rattle.grammar.specs.Written.{rank, looser, spaced, item_text, test_text, step_text}
use Rattle.grammar.specs.Written.{function_word, function_level, left_level, right_level, enclosed, for_head, let_head}
use Rattle.grammar.specs.Written.{if_head, then_text, root_text, comma_text, text_of}
use Rattle.grammar.specs.Encoded.{Ranged}
use Rattle.pen.proofs.Digits.{decimal_short}
use Rattle.grammar.proofs.Decimals.{name_few}
use Rattle.grammar.proofs.Covering.{query_bytes_lem}

pub enclosed_long : (b : Bool) (t : List ℕ) → length (enclosed b t) ≤ 2 + length t
unfolding enclosed
enclosed_long true t = omega (arith, length-append t (41 ∷ []))
enclosed_long false t = omega (arith, length-append t [])

-- where it stands by itself
enclosed_none : (t : List ℕ) → length (enclosed false t) ≤ length t
unfolding enclosed
enclosed_none t = omega (arith, length-append t [])

pub axis_long : (x : Axis) → length (axis_word x).bytes ≤ 18
axis_long Child = omega arith
axis_long Descendant = omega arith
axis_long DescendantOrSelf = omega arith
axis_long Itself = omega arith
axis_long Parent = omega arith
axis_long Ancestor = omega arith
axis_long Following = omega arith
axis_long Preceding = omega arith

test_long : (t : Test) → test_name t ≤ 65535 → length (test_text t) ≤ 6
unfolding test_text test_name
test_long AnyNode h = omega arith
test_long Element h = omega arith
test_long Text h = omega arith
test_long (Named n) h = omega (arith, name_few n h)

pub step_long : (x : Axis) (t : Test) → test_name t ≤ 65535 → length (step_text x t) ≤ 27
unfolding step_text
step_long x t h =
    omega (arith, length-append (axis_word x).bytes (58 ∷ 58 ∷ test_text t), axis_long x, test_long t h)

pub item_long : (h : Option Item) → length (item_text h) ≤ 27
unfolding item_text signed
item_long (Some (Integer (pos n))) = omega (arith, decimal_short n)
item_long (Some (Integer (negsuc n))) = omega (arith, decimal_short (suc n))
item_long (Some (Truth true)) = omega arith
item_long (Some (Truth false)) = omega arith
item_long (Some (Node r)) = omega arith
item_long None = omega arith

root_long : (k : ℕ) → length (root_text k) ≤ 27
unfolding root_text
root_long k = omega (arith, decimal_short k, length-append (decimal k) (41 ∷ []))

function_long : (f : Function) → length (spaced (function_word f)) ≤ 6
function_long Add = omega arith
function_long Subtract = omega arith
function_long Multiply = omega arith
function_long Divide = omega arith
function_long Equal = omega arith
function_long Less = omega arith

-- a level that an operand is asked at: all but the tightest
abbrev pub Asked : Level → Type 0
Asked l = rank l ≤ 5

-- a path stands by itself at every such level
path_alone : (l : Level) → Asked l → looser path l ≡ false
unfolding looser rank
path_alone expr h = refl
path_alone single h = refl
path_alone comparison h = refl
path_alone additive h = refl
path_alone multiplicative h = refl
path_alone path h = refl
path_alone primary h = absurd (omega arith)

left_asked : (f : Function) → Asked (left_level f)
unfolding rank
left_asked Add = omega arith
left_asked Subtract = omega arith
left_asked Multiply = omega arith
left_asked Divide = omega arith
left_asked Equal = omega arith
left_asked Less = omega arith

right_asked : (f : Function) → Asked (right_level f)
unfolding rank
right_asked Add = omega arith
right_asked Subtract = omega arith
right_asked Multiply = omega arith
right_asked Divide = omega arith
right_asked Equal = omega arith
right_asked Less = omega arith

pub text_long : (q : Query) (l : Level) → Asked l → Ranged q → length (text_of l q) ≤ 27 * records q
unfolding text_of rank for_head let_head
text_long (QL at z) l h r = item_long (held z)
text_long (QE at) l h r = omega arith
text_long (QR at k) l h r = root_long k
text_long (QV at v) l h r = omega arith
text_long (QS at a b) l h r =
    let p = text_long a expr (omega arith) r.0 in
    let q = text_long b single (omega arith) r.1 in
    let t = text_of expr a ++ (comma_text ++ text_of single b) in
    omega (arith, enclosed_long (looser expr l) t, length-append (text_of expr a) (comma_text ++ text_of single b))
text_long (QT at v a b) l h r =
    let p = text_long a single (omega arith) r.1 in
    let q = text_long b single (omega arith) r.2 in
    let s = spaced return_word ++ text_of single b in
    let t = text_of single a ++ s in
    omega (arith, enclosed_long (looser single l) (let_head v ++ t), length-append (text_of single a) s)
text_long (QF at v a b) l h r =
    let p = text_long a single (omega arith) r.1 in
    let q = text_long b single (omega arith) r.2 in
    let s = spaced return_word ++ text_of single b in
    let t = text_of single a ++ s in
    omega (arith, enclosed_long (looser single l) (for_head v ++ t), length-append (text_of single a) s)
text_long (QI at c a b) l h r =
    let o = text_long c expr (omega arith) r.0 in
    let p = text_long a single (omega arith) r.1 in
    let q = text_long b single (omega arith) r.2 in
    let s = spaced else_word ++ text_of single b in
    let t = then_text ++ (text_of single a ++ s) in
    omega (
      arith,
      enclosed_long (looser single l) (if_head ++ (text_of expr c ++ t)),
      length-append (text_of expr c) t,
      length-append (text_of single a) s,
    )
text_long (QO at f a b) l h r =
    let p = text_long a (left_level f) (left_asked f) r.0 in
    let q = text_long b (right_level f) (right_asked f) r.1 in
    let s = spaced (function_word f) ++ text_of (right_level f) b in
    omega (
      arith,
      enclosed_long (looser (function_level f) l) (text_of (left_level f) a ++ s),
      length-append (text_of (left_level f) a) s,
      length-append (spaced (function_word f)) (text_of (right_level f) b),
      function_long f,
    )
text_long (QC at a) l h r =
    let p = text_long a single (omega arith) r in
    omega (arith, length-append (text_of single a) (41 ∷ []))
text_long (QD at a) l h r =
    let p = text_long a single (omega arith) r in
    omega (arith, length-append (text_of single a) (41 ∷ []))
text_long (QX at x t a) l h r =
    let p = text_long a path (omega arith) r.1 in
    let s = text_of path a ++ step_text x t in
    rw (path_alone l h)
    (omega (arith, enclosed_none s, length-append (text_of path a) (step_text x t), step_long x t r.0))

pub written_long :
    (bs : List ℕ) (r : Read) → Bytes bs → query_read bs ≡ reads r → length (text_of expr r.tree) ≤ 3456
unfolding rank
written_long bs r h e =
    omega
    (arith, text_long r.tree expr (omega arith) (query_bytes_lem bs r h e).ranged, (accepted bs r e).few)
