-- `below` meets its contract: each of the columns is tested.
use Rattle.std.proofs.Common.{◌≡◌, ◌∙◌, refl, ap, ◌&&◌, ℕ, ◌+◌, ◌-◌, List, [], ◌∷◌, Bool, drop, take, tests, rules, ltb}
use Rattle.std.proofs.Common.{arith}
use Rattle.std.specs.List.{list_all}
use Rattle.std.proofs.lemmas.Iterator.{YieldsList-from_slice}
use Rattle.std.proofs.lemmas.Iterator.Search.{all_from_yields_List}
use Rattle.laws.specs.Lists.{all}
use Rattle.meaning.specs.Plan.{columns, columns_at}
use Rattle.plan_widths.proofs.below.Goals as goal

columns_all : (w : ℕ) (cs : List ℕ) → list_all (λ x. ltb x w) cs ≡ columns w cs
unfolding columns all
columns_all w [] = refl
columns_all w (c ∷ cs) = ap (λ (b : Bool). ltb c w && b) (columns_all w cs)

pub returns : goal.returns
unfolding columns_at
returns c =
    let a = c.args in
    let e : a.from + a.n - a.from ≡ a.n = omega arith in
    all_from_yields_List (λ x. ltb x a.w) _ _ c.all.result c.all.ensures.ran
    (YieldsList-from_slice _ (c.iter.ensures.rest ∙ ap (λ (k : ℕ). take k (drop a.from a.plan.now)) e))
    (λ x b q k. search (rules, tests))
    ∙ columns_all a.w _
