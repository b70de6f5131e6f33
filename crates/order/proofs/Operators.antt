-- Every operator on tables in another order: both fail, or both make the same rows.
--     table_permuted       table n of tables that have the same rows
--     make_permuted        .. for each operator that meets no tie on the tables as they stand
use Prim.Native.Nat.{ℕ, zero, suc}
use mathlib.Core.Path.{◌≡◌, refl, ap, subst, fun_ext}
use mathlib.Core.List.Permᴰ
use mathlib.Core.List.{List, [], ◌∷◌, ◌++◌, map}
use mathlib.Core.Bool.{Bool, true, false, not}
use lib.IntN.{ℤ, pos}
use lib.ListN.{length}
use Rattle.cells.specs.Cell.{same, truth_cell}
use Rattle.laws.specs.Lists.{filter, any}
use Rattle.laws.specs.Attempt.{Attempt, gives, attempt, provided, each}
use Rattle.laws.proofs.Lists.{all_any}
use Rattle.laws.proofs.Filters.{filter_same}
use Rattle.meaning.specs.World.{World}
use Rattle.meaning.specs.Plan.{Op, RT, RA, RP, RU, RD, RS, RJ, RN, RF, RV, RC, RE, RK, RX, RO}
use Rattle.meaning.specs.Operators.{Row, Table, cell, column, same_row, attach, project, minus, select, join}
use Rattle.meaning.specs.Operators.{numbered_after, in_group, number, added, groups, group_of, counts, items_in_order}
use Rattle.meaning.specs.Operators.{truths, steps, rooted, table_of, make}
use Rattle.agreement.specs.Tieless.{alike, Untied, ordered_by, RowsApart}
use Rattle.order.specs.Shuffled.{Permuted, Permutes, none, more, Bagged}
use Rattle.order.proofs.Permuted.{permuted_is, permuted_append, map_permuted, filter_permuted, gather_permuted}
use Rattle.order.proofs.Permuted.{gather_alike, firsts_permuted, any_permuted, once_permuted, length_permuted}
use Rattle.order.proofs.Permuted.{SameRows, both_fail, same_gives, each_permuted}
use Rattle.order.proofs.Ties.{sort_permuted, untied_group}

pub table_permuted : {ts us : List Table} → Permutes ts us → (n : ℕ) → Permuted (table_of ts n) (table_of us n)
table_permuted none n = Permᴰ.nil
table_permuted (more d h) zero = d
table_permuted (more d h) (suc n) = table_permuted h n

-- Each operator by itself

minus_permuted : {t t' u u' : Table} → Permuted t t' → Permuted u u' → Permuted (minus t u) (minus t' u')
unfolding minus
minus_permuted {t} {t'} {u} {u'} d e =
    Permᴰ.trans (filter_permuted (λ r. not (any (same_row r) u)) d)
    (permuted_is
    (filter_same (λ r. not (any (same_row r) u)) (λ r. not (any (same_row r) u')) t'
    (all_any t' (λ r. ap not (any_permuted (same_row r) e)))))

join_permuted : (c d : ℕ) {t t' u u' : Table} → Permuted t t' → Permuted u u'
    → Permuted (join t c u d) (join t' c u' d)
unfolding join
join_permuted c d {t} {t'} {u} {u'} p q =
    Permᴰ.trans (gather_permuted (with u) p)
    (gather_alike (with u) (with u')
    (λ r. map_permuted (λ (s : Row). r ++ s) (filter_permuted (λ (s : Row). same (cell r c) (cell s d)) q)) t')
  where
    with : Table → Row → Table
    with v r = map (λ (s : Row). r ++ s) (filter (λ (s : Row). same (cell r c) (cell s d)) v)

number_permuted : (p : ℕ) (ks : List ℕ) {t u : Table} → Untied (alike (ordered_by p ks)) t → Permuted t u
    → number t p ks ≡ number u p ks
unfolding number
number_permuted p ks h d = ap (numbered_after (in_group p) []) (sort_permuted (ordered_by p ks) h d)

column_permuted : (c : ℕ) {t u : Table} → Permuted t u → Permuted (column t c) (column u c)
unfolding column
column_permuted c d = map_permuted (λ (r : Row). cell r c) d

groups_permuted : (c : ℕ) {t u : Table} → Permuted t u → Permuted (groups t c) (groups u c)
unfolding groups
groups_permuted c d = firsts_permuted (column_permuted c d)

group_of_permuted : (c : ℕ) (x : ℤ) {t u : Table} → Permuted t u → Permuted (group_of t c x) (group_of u c x)
unfolding group_of
group_of_permuted c x d = filter_permuted (λ (r : Row). same x (cell r c)) d

counts_permuted : (c : ℕ) {t u : Table} → Permuted t u → Permuted (counts t c) (counts u c)
unfolding counts
counts_permuted c {t} {u} d =
    Permᴰ.trans (map_permuted (of t) (groups_permuted c d))
    (permuted_is
    (ap (λ f. map f (groups u c))
    (fun_ext (λ x. ap (λ (n : ℕ). x ∷ pos n ∷ []) (length_permuted (group_of_permuted c x d))))))
  where
    of : Table → ℤ → Row
    of v x = x ∷ pos (length (group_of v c x)) ∷ []

-- a function of each group that is the same for the group in another order
each_group : (f g : ℤ → Attempt Table) {t u : Table} → ((x : ℤ) → f x ≡ g x) → Permuted t u
    → SameRows (each f (groups t 0)) (each g (groups u 0))
each_group f g {t} {u} h d =
    subst (λ k. SameRows (each f (groups t 0)) (each k (groups u 0))) (fun_ext h)
    (each_permuted f (groups_permuted 0 d))

-- the rows of one group are told apart by place alone
items_permuted : (x : ℤ) {t u : Table} → Untied (alike (0 ∷ 1 ∷ [])) t → Permuted t u
    → items_in_order (group_of t 0 x) ≡ items_in_order (group_of u 0 x)
unfolding items_in_order group_of
items_permuted x {t} h d =
    ap (λ (v : Table). column v 2) (sort_permuted (1 ∷ []) (untied_group x t h) (group_of_permuted 0 x d))

added_permuted : (f : Row → Attempt ℤ) {t u : Table} → Permuted t u → SameRows (added f t) (added f u)
unfolding added
added_permuted f d = each_permuted _ d

once_provided : {a b : Bool} {t u : Table} → a ≡ b → Permuted t u
    → SameRows (provided a (gives t)) (provided b (gives u))
unfolding provided
once_provided {a} {t = t} {u = u} e d = subst (λ b. SameRows (provided a (gives t)) (provided b (gives u))) e (go a)
  where
    go : (b : Bool) → SameRows (provided b (gives t)) (provided b (gives u))
    go true = same_gives d
    go false = both_fail refl refl

pub make_permuted : (w : World) → Bagged w → (o : Op) {ts us : List Table} → RowsApart o ts → Permutes ts us
    → SameRows (make w o ts) (make w o us)
unfolding make attach project select truths steps rooted
make_permuted w bag RT a h = same_gives (Permᴰ.refl _)
make_permuted w bag (RA t z) a h = same_gives (map_permuted _ (table_permuted h t))
make_permuted w bag (RP t cs) a h = same_gives (map_permuted _ (table_permuted h t))
make_permuted w bag (RU t u) a h = same_gives (permuted_append (table_permuted h t) (table_permuted h u))
make_permuted w bag (RD t u) a h = same_gives (minus_permuted (table_permuted h t) (table_permuted h u))
make_permuted w bag (RS t c) a h = same_gives (filter_permuted _ (table_permuted h t))
make_permuted w bag (RJ t c u d) a h = same_gives (join_permuted c d (table_permuted h t) (table_permuted h u))
make_permuted w bag (RN t p ks) a h = same_gives (permuted_is (number_permuted p ks a (table_permuted h t)))
make_permuted w bag (RF t f c d) a h = added_permuted _ (table_permuted h t)
make_permuted w bag (RV t c) a h = added_permuted _ (table_permuted h t)
make_permuted w bag (RC t c) a h = same_gives (counts_permuted c (table_permuted h t))
make_permuted w bag (RE t) a h =
    each_group _ _
    (λ x. ap (λ (xs : List ℤ). attempt (w.truth xs) (λ b. gives ((x ∷ truth_cell b ∷ []) ∷ [])))
    (items_permuted x a (table_permuted h t)))
    (table_permuted h t)
make_permuted w bag (RK t c) a h =
    once_provided (once_permuted (column_permuted c (table_permuted h t))) (table_permuted h t)
make_permuted w bag (RX t axis test) a h =
    each_group _ _
    (λ x. ap (λ b. attempt b (λ ys. gives (map (λ y. x ∷ y ∷ []) ys)))
    (bag.step_bag axis test _ _ (column_permuted 1 (group_of_permuted 0 x (table_permuted h t)))))
    (table_permuted h t)
make_permuted w bag (RO t k) a h = added_permuted _ (table_permuted h t)
