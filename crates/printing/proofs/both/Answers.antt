-- `both` meets its contract: the text of both engines' answers and cells, in hand.
use Rattle.lines.proofs.Putting.{put_is}
use Rattle.printing.proofs.Fitting.{keep_fits, write_fits}
use Rattle.printing.proofs.Joined.{engines_text, cells_end, items_end}
use borrow.Author.Rules.{rules}
use Rattle.printing.proofs.both.Goals as goal

pub keep_items-requires : goal.keep_items-requires
keep_items-requires c =
    keep_fits _ _ _ _ _ _ c.run-ran.ensures.answer c.requires.work_len c.run-ran.auto.work c.requires.in_bounds.0

pub write-requires : goal.write-requires
write-requires c =
    let s = c.second_told-told in
    let w =
    write_fits _ _ _ _ _ _ _ _ _ _ _ _ c.run_told.ensures s.ensures.0 c.run-ran.ensures.answer
    c.requires.work_len s.auto.work c.requires.in_bounds.0 c.keep_items.auto.kept c.requires.in_bounds.1 in
    record { in_bounds = w.0; gave_stands = w.1 }

pub returns : goal.returns
returns c =
    let s = c.second_told-told in
    let r = c.run-ran in
    let k = c.keep_items.ensures in
    let l = c.requires.work_len in
    record {
      put =
          put_is _ _ _ _ _ c.write.ensures _
          (engines_text _ _ _ _ _ _ _ _ _ l r.ensures.answer r.ensures.cells k s.ensures.1 _ _ _
          r.auto.work s.ensures.0 c.run_told.ensures);
      work = cells_end _ _ _ _ _ _ _ _ _ l r.ensures.answer r.ensures.cells k s.ensures.1;
      kept_items = items_end _ _ _ _ _ _ _ _ _ l r.ensures.answer r.ensures.cells k s.ensures.1;
    }
