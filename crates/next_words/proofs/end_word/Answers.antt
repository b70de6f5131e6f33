-- `next_words::end_word` meets its contract.
use borrow.Author.Rules.{rules}
use native.Mathlib.Omega.{arith}
use Prim.Native.Nat.{◌+◌}
use lib.ListN.{drop}
use mathlib.Core.Path.{sym, ◌∙◌, ap}
use mathlib.Core.Bool.{Bool, not}
use mathlib.Core.List.{[], ◌∷◌}
use Rattle.parsing.specs.declared.Next.TheVariants.{Lt}
use Rattle.spelling.specs.Answers.{end_word, equal_word, more_word}
use Rattle.spelling.proofs.Bridging.{looks_first, looks_there}
use Rattle.spelling.proofs.Answering.{chosen}
use Rattle.spelling.proofs.Choosing.{end_equal, end_less, end_other}
use Rattle.next_words.proofs.end_word.Goals as goal

pub equal_word-requires : goal.equal_word-requires
equal_word-requires c =
    (c.byte-b.ensures.there (omega (arith, c.in-101.is))).0

pub more_word-requires : goal.more_word-requires
more_word-requires c =
    (c.byte-b.ensures.there (omega (arith, c.in-108.is))).0

pub returns-in-101 : goal.returns-in-101
returns-in-101 c =
    let a = c.args in
    let u = drop (a.at + 1) a.text.now in
    chosen (end_word a.ends a.compared) (equal_word (not a.compared) c.by_else.result)
    (looks_there _ _ _ c.byte-b.ensures 101 c.in-101.is (omega arith)).1
    (end_equal u a.ends a.compared ∙ ap (λ (x : Bool). equal_word (not a.compared) x (101 ∷ u))
    (sym c.by_else.ensures))
    c.equal_word.ensures

pub returns-in-108 : goal.returns-in-108
returns-in-108 c =
    let a = c.args in
    let u = drop (a.at + 1) a.text.now in
    chosen (end_word a.ends a.compared) (more_word (not a.compared) (116 ∷ []) Lt)
    (looks_there _ _ _ c.byte-b.ensures 108 c.in-108.is (omega arith)).1
    (end_less u a.ends a.compared)
    c.more_word.ensures

pub returns-in_default : goal.returns-in_default
returns-in_default c =
    let a = c.args in
    record {
      means = end_other _ _ (looks_first _ _ _ c.byte-b.ensures) a.ends a.compared (search rules)
          ∙ c.close_word.ensures.means;
      inside = c.close_word.ensures.inside;
    }
