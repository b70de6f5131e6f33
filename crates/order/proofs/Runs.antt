-- A plan whose plain run is tieless, run by a hand.
--     permutes_last        one more table
--     run_by               from any tables that have the same rows
--     shuffled_run         .. from none
--     last_permuted        the last tables have the same rows
use Prim.Native.Nat.{ℕ, ◌+◌, ◌*◌}
use mathlib.Core.Path.{◌≡◌, refl, ◌∙◌}
use mathlib.Core.List.Permᴰ
use mathlib.Core.List.{List, [], ◌∷◌, ◌++◌, map}
use mathlib.Core.Bool.{Bool, true, false}
use lib.Dec.{leb}
use lib.ListN.{length}
use Rattle.laws.specs.Attempt.{Attempt, gives, Work, trying, within}
use Rattle.meaning.specs.World.{World}
use Rattle.meaning.specs.Plan.{Placed}
use Rattle.meaning.specs.Operators.{Table, make}
use Rattle.meaning.specs.Run.{cells, Filled, Hand, running, running_by}
use Rattle.meaning.specs.Calls.{last_table}
use Rattle.agreement.specs.Tieless.{Tieless}
use Rattle.order.specs.Shuffled.{Permuted, Permutes, none, more, Shuffles, SameWork, both_full, both_failed}
use Rattle.order.specs.Shuffled.{both_done, Bagged, ShuffledRun}
use Rattle.order.proofs.Permuted.{length_permuted, SameRows, both_fail, both_give}
use Rattle.order.proofs.Operators.{make_permuted}

permutes_last : {ts us : List Table} {t u : Table} → Permutes ts us → Permuted t u
    → Permutes (ts ++ (t ∷ [])) (us ++ (u ∷ []))
permutes_last none d = more d none
permutes_last (more e h) d = more e (permutes_last h d)

pub last_permuted : {ts us : List Table} → Permutes ts us → Permuted (last_table ts) (last_table us)
unfolding last_table
last_permuted none = Permᴰ.nil
last_permuted (more d none) = d
last_permuted (more d (more e h)) = last_permuted (more e h)

module _ (w : World) (bag : Bagged w) (room : ℕ) (hand : Hand) (shuffles : Shuffles hand) where
  run_by : (ps : List Placed) {ts us : List Table} (n : ℕ) → Permutes ts us
      → Tieless w (map (λ (p : Placed). p.op) ps) ts
      → SameWork (running w room ps ts n) (running_by hand w room ps us n)
  unfolding running running_by trying within cells
  run_by [] {ts} {us} n h a = both_done ts us n refl refl h
  run_by (p ∷ ps) {ts} {us} n h a =
      go (make w p.op ts) (make w p.op us) refl (make_permuted w bag p.op a.0 h)
      (λ t u e d. run_by ps (n + length t * p.width) (permutes_last h d) (a.1 t e))
    where
      fits : {x y : Work Filled} (b : Bool) → SameWork x y → SameWork (within b p.at x) (within b p.at y)
      fits true s = s
      fits false s = both_full p.at refl refl

      go : (x y : Attempt Table) → make w p.op ts ≡ x → SameRows x y
          → ((t u : Table) → make w p.op ts ≡ gives t → Permuted t u
          → SameWork (running w room ps (ts ++ (t ∷ [])) (n + length t * p.width))
          (running_by hand w room ps (us ++ (u ∷ [])) (n + length t * p.width)))
          → SameWork
          (trying p.at x (λ t. within (leb (n + length t * p.width) room) p.at
          (running w room ps (ts ++ (t ∷ [])) (n + length t * p.width))))
          (trying p.at y (λ t. within (leb (n + length t * p.width) room) p.at
          (running_by hand w room ps (us ++ (hand us t ∷ [])) (n + length t * p.width))))
      go x y e (both_fail k l) ih = both_failed p.at (rw k) (rw l)
      go x y e (both_give t u k l d) ih =
          rw (k, l, ← length_permuted d)
          (fits (leb (n + length t * p.width) room) (ih t (hand us u) (e ∙ k) (Permᴰ.trans d (shuffles us u))))

pub shuffled_run : ShuffledRun
shuffled_run w bag ps tieless room hand shuffles = run_by w bag room hand shuffles ps 0 none tieless
