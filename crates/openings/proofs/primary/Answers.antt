-- `openings::primary` meets its contract.
use borrow.Author.Rules.{rules}
use native.Mathlib.Omega.{arith}
use mathlib.Core.Path.{◌≡◌, refl, ◌∙◌}
use Rattle.parsing.specs.Reader.{rest, read_primary}
use Rattle.laws.specs.Characters.{first, is_digit}
use Rattle.spelling.proofs.Bridging.{looks_first, looks_there}
use Rattle.openings.proofs.Comes.{opens_by, opens_left, whole_read, opens_whole, opens_none}
use Rattle.openings.proofs.Comes.{digit_on, digit_seen, primary_other}
use Rattle.openings.proofs.primary.Goals as goal

pub returns-then-is_digit : goal.returns-then-is_digit
returns-then-is_digit c =
    λ rd.
    let a = c.args in
    opens_by _
    (digit_on rd a.parens _
    (digit_seen _ _ _ c.byte-b.ensures _
    c.is_digit.ensures ∙ c.if-is_digit.true))
    (let whole : c.map.result ≡ whole_read c.number.result = search rules in
    rw whole (opens_whole rd a.parens _ c.number.ensures))

pub number-requires-in-45 : goal.number-requires-in-45
number-requires-in-45 c = (
  (looks_there _ _ _ c.byte-b.ensures 45 c.in-45.is
      (omega arith)).0,
  c.requires.1,
  c.requires.2,
  omega arith,
)

pub variable-requires : goal.variable-requires
variable-requires c = (
  (looks_there _ _ _ c.byte-b.ensures 36 c.in-36.is
      (omega arith)).0,
  c.requires.1,
  c.requires.2,
)

pub truth-requires : goal.truth-requires
truth-requires c = (
  (looks_there _ _ _ c.byte-b.ensures 116
      c.in-116.is (omega arith)).0,
  c.requires.1,
  c.requires.2,
)

pub truth-requires-in-102 : goal.truth-requires-in-102
truth-requires-in-102 c = (
  (looks_there _ _ _ c.byte-b.ensures 102
      c.in-102.is (omega arith)).0,
  c.requires.1,
  c.requires.2,
)

pub group-requires : goal.group-requires
group-requires c = (
  (looks_there _ _ _ c.byte-b.ensures 40 c.in-40.is
      (omega arith)).0,
  c.requires.1,
  c.requires.2,
)

pub root-requires : goal.root-requires
root-requires c = (
  (looks_there _ _ _ c.byte-b.ensures 114 c.in-114.is
      (omega arith)).0,
  c.requires.1,
  c.requires.2,
)

pub call-requires : goal.call-requires
call-requires c = (
  (looks_there _ _ _ c.byte-b.ensures 99
      c.in-99.is (omega arith)).0,
  c.requires.1,
  c.requires.2,
)

pub call-requires-in-100 : goal.call-requires-in-100
call-requires-in-100 c = (
  (looks_there _ _ _ c.byte-b.ensures 100
      c.in-100.is (omega arith)).0,
  c.requires.1,
  c.requires.2,
)

pub returns-in-45 : goal.returns-in-45
unfolding first rest is_digit
returns-in-45 c =
    λ rd.
    let a = c.args in
    opens_left _ (read_primary rd a.parens)
    (looks_there _ _ _ c.byte-b.ensures 45
    c.in-45.is (omega arith)).1 refl
    (let whole : c.map-in-45.result ≡ whole_read c.number-in-45.result = search rules in
    rw whole (opens_whole rd a.parens _ c.number-in-45.ensures))

pub returns-in-36 : goal.returns-in-36
unfolding first rest is_digit
returns-in-36 c =
    λ rd.
    let a = c.args in
    opens_left _ (read_primary rd a.parens)
    (looks_there _ _ _ c.byte-b.ensures 36
    c.in-36.is (omega arith)).1 refl
    (let whole : c.map-in-36.result ≡ whole_read c.variable.result = search rules in
    rw whole (opens_whole rd a.parens _ c.variable.ensures))

pub returns-in-116 : goal.returns-in-116
unfolding first rest is_digit
returns-in-116 c =
    λ rd.
    let a = c.args in
    opens_left _ (read_primary rd a.parens)
    (looks_there _ _ _ c.byte-b.ensures 116
    c.in-116.is (omega arith)).1 refl
    (let whole : c.map-in-116.result ≡ whole_read c.truth.result = search rules in
    rw whole (opens_whole rd a.parens _ c.truth.ensures))

pub returns-in-102 : goal.returns-in-102
unfolding first rest is_digit
returns-in-102 c =
    λ rd.
    let a = c.args in
    opens_left _ (read_primary rd a.parens)
    (looks_there _ _ _ c.byte-b.ensures 102
    c.in-102.is (omega arith)).1 refl
    (let whole : c.map-in-102.result ≡ whole_read c.truth-in-102.result = search rules in
    rw whole (opens_whole rd a.parens _ c.truth-in-102.ensures))

pub returns-in-40 : goal.returns-in-40
unfolding first rest is_digit
returns-in-40 c =
    λ rd.
    let a = c.args in
    opens_left _ (read_primary rd a.parens)
    (looks_there _ _ _ c.byte-b.ensures 40
    c.in-40.is (omega arith)).1 refl (c.group.ensures rd)

pub returns-in-114 : goal.returns-in-114
unfolding first rest is_digit
returns-in-114 c =
    λ rd.
    let a = c.args in
    opens_left _ (read_primary rd a.parens)
    (looks_there _ _ _ c.byte-b.ensures 114
    c.in-114.is (omega arith)).1 refl
    (let whole : c.map-in-114.result ≡ whole_read c.root.result = search rules in
    rw whole (opens_whole rd a.parens _ c.root.ensures))

pub returns-in-99 : goal.returns-in-99
unfolding first rest is_digit
returns-in-99 c =
    λ rd.
    let a = c.args in
    opens_left _ (read_primary rd a.parens)
    (looks_there _ _ _ c.byte-b.ensures 99
    c.in-99.is (omega arith)).1 refl
    (c.call.ensures rd a.parens)

pub returns-in-100 : goal.returns-in-100
unfolding first rest is_digit
returns-in-100 c =
    λ rd.
    let a = c.args in
    opens_left _ (read_primary rd a.parens)
    (looks_there _ _ _ c.byte-b.ensures 100
    c.in-100.is (omega arith)).1 refl
    (c.call-in-100.ensures rd a.parens)

pub returns-in_default : goal.returns-in_default
returns-in_default c =
    λ rd.
    let a = c.args in
    opens_none rd a.parens
    (record {
      means =
          primary_other rd a.parens _ _ (looks_first _ _ _ c.byte-b.ensures)
          (digit_seen _ _ _ c.byte-b.ensures _ c.is_digit.ensures
          ∙ c.if-is_digit.false)
          search rules;
      inside = c.requires.0;
    })
