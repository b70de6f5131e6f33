-- Steps over mark sets (document 01, 'Query records', the step).
--     Marks lo hi R T xs old new   from lo up to hi, new marks exactly the ranks that some rank of xs has in R and that
--                            pass T; every other flag is as it was in old
--       inside               the flags from lo up to hi
--       under, over          the flags below lo, and from hi on
--       long                 no flag comes or goes
--     Known doc n            the bytes hold n rows, whose sizes and levels are those of a sound catalogue
--     Ready doc n from to    .. and each row has its flags
--     AxisPart lo hi doc n axis test from old new   the part of a step from lo up to hi
--     Step doc n axis test from old new           a whole step: what it leaves in the flags of n ranks
--     or_self own             the axis of descendants, with the row itself or without it
use Rattle.std.specs.Prelude.{ℕ, ◌*◌, ◌<◌, ◌≤◌, ◌≡◌, List, Bool, false, cond, ◌&&◌, length, get_or}
use Rattle.laws.specs.Lists.{any}
use Rattle.codes.specs.declared.Axis.{Axis}
use Rattle.codes.specs.declared.Axis.TheVariants.{Descendant, DescendantOrSelf}
use Rattle.codes.specs.declared.Test.{Test}
use Rattle.meaning.specs.Catalogue.{catalogue_of}
use Rattle.meaning.specs.World.{on_axis, passes}
use Rattle.doc_rows.specs.Nested.{Nested}
use Rattle.nodesets.specs.Nodes.{ranks}

pub record Marks (lo hi : ℕ) (R : ℕ → ℕ → Bool) (T : ℕ → Bool) (xs : List ℕ) (old new : List Bool) : Type 0 where
  pub inside : (v : ℕ) → lo ≤ v → v < hi → get_or new v false ≡ (any (λ x. R x v) xs && T v)
  pub under : (v : ℕ) → v < lo → get_or new v false ≡ get_or old v false
  pub over : (v : ℕ) → hi ≤ v → get_or new v false ≡ get_or old v false
  pub long : length new ≡ length old

pub record Known (doc : List ℕ) (n : ℕ) : Type 0 where
  pub few : n ≤ 2048
  pub there : 10 * n ≤ length doc
  pub nested : Nested n (catalogue_of doc n).size (catalogue_of doc n).level

pub record Ready (doc : List ℕ) (n : ℕ) (from to : List Bool) : Type 0 where
  pub known : Known doc n
  pub sources : n ≤ length from
  pub targets : n ≤ length to

-- v is marked after exactly when some x marked before has v on the axis in the same fragment, and v passes the test
abbrev pub AxisPart : ℕ → ℕ → List ℕ → ℕ → Axis → Test → List Bool → List Bool → List Bool → Type 0
AxisPart lo hi doc n axis test from old new =
    Marks lo hi (on_axis (catalogue_of doc n) axis) (passes (catalogue_of doc n) test) (ranks n from) old new

abbrev pub Step : List ℕ → ℕ → Axis → Test → List Bool → List Bool → List Bool → Type 0
Step doc n axis test from old new = AxisPart 0 n doc n axis test from old new

-- descendants, with the row itself or without it
abbrev pub or_self : Bool → Axis
or_self own = cond own DescendantOrSelf Descendant
