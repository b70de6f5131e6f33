-- `gathering::lay_group` meets its contract: each kind of gathering by its own function.
use Rattle.gathering.proofs.Gathering.{suits_count, suits_truth, suits_step, owes_count, owes_truth, owes_step}
use Rattle.gathering.proofs.lay_group.Goals as goal

pub count_group-requires : goal.count_group-requires
count_group-requires c =
    record { inside = c.requires.inside; c_lt_width = suits_count _ _ _ _ _ _ _ c.requires.asks _ c.in-Count.is }

pub truth_group-requires : goal.truth_group-requires
truth_group-requires c =
    record { inside = c.requires.inside; width_value = suits_truth _ _ _ _ _ _ _ c.requires.asks c.in-Truth.is }

pub step_group-requires : goal.step_group-requires
step_group-requires c =
    record { inside = c.requires.inside; width_value = suits_step _ _ _ _ _ _ _ c.requires.asks _ _ c.in-Step.is }

pub returns-in-Count : goal.returns-in-Count
returns-in-Count c =
    owes_count _ _ _ _ _ _ _ _ _ c.in-Count.is c.count_group.ensures

pub returns-in-Truth : goal.returns-in-Truth
returns-in-Truth c =
    owes_truth _ _ _ _ _ _ _ _ c.in-Truth.is c.truth_group.ensures

pub returns-in-Step : goal.returns-in-Step
returns-in-Step c =
    owes_step _ _ _ _ _ _ _ _ _ _ c.in-Step.is
    c.step_group.ensures
