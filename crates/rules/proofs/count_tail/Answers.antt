-- `count_tail` meets its contract: one operator after another.
use borrow.Author.Rules.{rules}
use native.Mathlib.Omega.{arith}
use mathlib.Core.Path.{refl}
use Rattle.writing.specs.Listed.{columns_of, keys_of}
use Rattle.adding.specs.Ruled.{operator_of}
use Rattle.meaning.specs.Translation.{tail_c}
use lib.Dec.{lit≤}
use Rattle.adding.proofs.Adding.{wrote_then, wrote_room, wrote_length}
use Rattle.rules.proofs.count_tail.Goals as goal

pub add-u-requires : goal.add-u-requires
add-u-requires c =
    wrote_room (wrote_then (wrote_then (wrote_then (wrote_then c.add-p.ensures c.add-q.ensures)
    c.add-r.ensures) c.add-s.ensures) c.add-t.ensures) 1 7 c.requires (lit≤ tt)

pub overflow_add-n-5 : goal.overflow_add-n-5
overflow_add-n-5 c =
    omega (arith, c.requires)

pub add-v-requires : goal.add-v-requires
add-v-requires c =
    wrote_room (wrote_then (wrote_then (wrote_then (wrote_then (wrote_then c.add-p.ensures c.add-q.ensures)
    c.add-r.ensures) c.add-s.ensures) c.add-t.ensures) c.add-u.ensures) 1 7
    c.requires (lit≤ tt)

pub overflow_add-result : goal.overflow_add-result
overflow_add-result c =
    omega (arith, c.requires)

pub returns : goal.returns
unfolding tail_c operator_of columns_of keys_of
returns c =
    record {
      wrote = wrote_then (wrote_then (wrote_then (wrote_then (wrote_then (wrote_then c.add-p.ensures
          c.add-q.ensures) c.add-r.ensures) c.add-s.ensures) c.add-t.ensures) c.add-u.ensures)
          c.add-v.ensures;
      table = refl;
      after = refl;
    }
