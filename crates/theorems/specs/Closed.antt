-- What an accepted query is (document 01, 'Query records').
--     Closed q vs          every variable of q is bound, in q or among vs, and is one of 0 to 7
--     records q            how many records q has
--     depth q              how many levels q has
--     Well d vs n r        r is a query read with d levels allowed, vs bound and n records before it
--     Accepted r           r is closed, has at most 128 records and at most 32 levels
use Rattle.std.specs.Prelude.{ℕ, suc, ◌+◌, ◌≤◌, ◌<◌, max, ◌≡◌, List, [], ◌∷◌, true}
use Rattle.meaning.specs.Query.{Query, QL, QE, QR, QV, QS, QT, QF, QI, QO, QC, QD, QX, Read}
use Rattle.meaning.specs.Query.{bound}

abbrev pub Closed : Query → List ℕ → Type 0
Closed (QL at z) vs = Unit {0}
Closed (QE at) vs = Unit {0}
Closed (QR at k) vs = Unit {0}
Closed (QV at v) vs = (bound v vs ≡ true) × (v < 8)
Closed (QS at a b) vs = Closed a vs × Closed b vs
Closed (QT at v a b) vs = (v < 8) × Closed a vs × Closed b (v ∷ vs)
Closed (QF at v a b) vs = (v < 8) × Closed a vs × Closed b (v ∷ vs)
Closed (QI at c a b) vs = Closed c vs × Closed a vs × Closed b vs
Closed (QO at f a b) vs = Closed a vs × Closed b vs
Closed (QC at a) vs = Closed a vs
Closed (QD at a) vs = Closed a vs
Closed (QX at x t a) vs = Closed a vs

abbrev pub records : Query → ℕ
records (QL at z) = 1
records (QE at) = 1
records (QR at k) = 1
records (QV at v) = 1
records (QS at a b) = suc (records a + records b)
records (QT at v a b) = suc (records a + records b)
records (QF at v a b) = suc (records a + records b)
records (QI at c a b) = suc (records c + records a + records b)
records (QO at f a b) = suc (records a + records b)
records (QC at a) = suc (records a)
records (QD at a) = suc (records a)
records (QX at x t a) = suc (records a)

abbrev pub depth : Query → ℕ
depth (QL at z) = 1
depth (QE at) = 1
depth (QR at k) = 1
depth (QV at v) = 1
depth (QS at a b) = suc (max (depth a) (depth b))
depth (QT at v a b) = suc (max (depth a) (depth b))
depth (QF at v a b) = suc (max (depth a) (depth b))
depth (QI at c a b) = suc (max (depth c) (max (depth a) (depth b)))
depth (QO at f a b) = suc (max (depth a) (depth b))
depth (QC at a) = suc (depth a)
depth (QD at a) = suc (depth a)
depth (QX at x t a) = suc (depth a)

-- what reading finds with d levels, variables vs, and n records before it
pub record Well (d : ℕ) (vs : List ℕ) (n : ℕ) (r : Read) : Type 0 where
  pub closed : Closed r.tree vs
  pub counted : records r.tree + n ≡ r.records
  pub few : r.records ≤ 128
  pub nested : depth r.tree ≤ d

pub record Accepted (r : Read) : Type 0 where
  pub closed : Closed r.tree []
  pub counted : r.records ≡ records r.tree
  pub few : records r.tree ≤ 128
  pub nested : depth r.tree ≤ 32
