-- `next_words::close_word` meets its contract.
use borrow.Author.Rules.{rules}
use native.Mathlib.Omega.{arith}
use Prim.Native.Nat.{◌+◌}
use lib.ListN.{drop}
use mathlib.Core.Path.{sym, ◌∙◌, ap}
use Rattle.numerals.specs.Answers.{read_place}
use Rattle.spelling.specs.Answers.{value_told}
use mathlib.Core.List.{[], ◌∷◌}
use mathlib.Core.Bool.{Bool}
use Rattle.parsing.specs.declared.Next.TheVariants.{Comma, Close, Return}
use Rattle.spelling.specs.Answers.{close_word, one_word, more_word, last_word}
use Rattle.spelling.proofs.Bridging.{looks_there}
use Rattle.spelling.proofs.Answering.{chosen}
use Rattle.spelling.proofs.Choosing.{close_comma, close_close, close_return, close_end, close_other}
use Rattle.next_words.proofs.close_word.Goals as goal

pub one_word-requires : goal.one_word-requires
one_word-requires c =
    (c.byte-b.ensures.there (omega (arith, c.in-44.is))).0

pub one_word-requires-in-41 : goal.one_word-requires-in-41
one_word-requires-in-41 c =
    (c.byte-b.ensures.there (omega (arith, c.in-41.is))).0

pub more_word-requires : goal.more_word-requires
more_word-requires c =
    (c.byte-b.ensures.there (omega (arith, c.in-114.is))).0

pub returns-in-44 : goal.returns-in-44
returns-in-44 c =
    let a = c.args in
    let u = drop (a.at + 1) a.text.now in
    chosen (close_word a.ends) (one_word c.by_comma.result Comma)
    (looks_there _ _ _ c.byte-b.ensures 44 c.in-44.is (omega arith)).1
    (close_comma u a.ends ∙ ap (λ (x : Bool). one_word x Comma (44 ∷ u)) (sym c.by_comma.ensures))
    c.one_word.ensures

pub returns-in-41 : goal.returns-in-41
returns-in-41 c =
    let a = c.args in
    let u = drop (a.at + 1) a.text.now in
    chosen (close_word a.ends) (one_word c.by_close.result Close)
    (looks_there _ _ _ c.byte-b.ensures 41 c.in-41.is (omega arith)).1
    (close_close u a.ends ∙ ap (λ (x : Bool). one_word x Close (41 ∷ u)) (sym c.by_close.ensures))
    c.one_word-in-41.ensures

pub returns-in-114 : goal.returns-in-114
returns-in-114 c =
    let a = c.args in
    let u = drop (a.at + 1) a.text.now in
    chosen (close_word a.ends)
    (more_word c.by_return.result (101 ∷ 116 ∷ 117 ∷ 114 ∷ 110 ∷ []) Return)
    (looks_there _ _ _ c.byte-b.ensures 114 c.in-114.is (omega arith)).1
    (close_return u a.ends
    ∙ ap (λ (x : Bool). more_word x (101 ∷ 116 ∷ 117 ∷ 114 ∷ 110 ∷ []) Return (114 ∷ u))
    (sym c.by_return.ensures))
    c.more_word.ensures

pub returns-in-256 : goal.returns-in-256
returns-in-256 c =
    let a = c.args in
    let u = drop (a.at + 1) a.text.now in
    chosen (close_word a.ends) (last_word c.by_text.result)
    (c.byte-b.ensures.ended (omega (arith, c.in-256.is))).1
    (close_end a.ends ∙ ap (λ (x : Bool). last_word x []) (sym c.by_text.ensures))
    c.last_word.ensures

pub returns-in_default : goal.returns-in_default
unfolding value_told read_place
returns-in_default c =
    let looks = c.byte-b.ensures in
    let there = looks.there (omega arith) in
    record {
      means =
          rw there.1
          (close_other c.args.ends _ _ (search rules) (search rules) (search rules));
      inside = omega arith;
    }
