-- `function_tail` meets its contract: one operator after another.
use borrow.Author.Rules.{rules}
use native.Mathlib.Omega.{arith}
use mathlib.Core.Path.{refl}
use Rattle.writing.specs.Listed.{columns_of, keys_of}
use Rattle.adding.specs.Ruled.{operator_of}
use Rattle.meaning.specs.Translation.{tail_o}
use lib.Dec.{lit≤}
use Rattle.adding.proofs.Adding.{wrote_then, wrote_room}
use Rattle.rules.proofs.function_tail.Goals as goal

pub add-u-requires : goal.add-u-requires
add-u-requires c =
    wrote_room (wrote_then (wrote_then (wrote_then (wrote_then c.add-p.ensures c.add-q.ensures)
    c.add-r.ensures) c.add-s.ensures) c.add-t.ensures) 1 6 c.requires (lit≤ tt)

pub overflow_add-result : goal.overflow_add-result
overflow_add-result c =
    omega (arith, c.requires)

pub returns : goal.returns
unfolding tail_o operator_of columns_of keys_of
returns c =
    record {
      wrote = wrote_then (wrote_then (wrote_then (wrote_then (wrote_then c.add-p.ensures c.add-q.ensures)
          c.add-r.ensures) c.add-s.ensures) c.add-t.ensures) c.add-u.ensures;
      table = refl;
      after = refl;
    }
