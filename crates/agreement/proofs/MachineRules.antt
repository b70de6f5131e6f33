-- The operators that stand after a rule's operands, against the typed rules: QL QE QR QS QO QC QD QX; last numbering.
--     sim_L .. sim_X      on tables that hold the operands' rows, and the loop where the rule looks at it; a rule that
--                         numbers rows is told that its operands are shown
--     sim_last            the last numbering
use Prim.Native.Nat.{ℕ, ◌+◌}
use mathlib.Core.Path.{◌≡◌, refl}
use mathlib.Core.List.{List, [], ◌∷◌}
use native.Mathlib.Omega.{arith}
use lib.IntN.{ℤ, pos}
use lib.ListN.{length}
use Rattle.cells.specs.Cell.{same}
use Rattle.codes.specs.declared.Function.{Function}
use Rattle.codes.specs.declared.Axis.{Axis}
use Rattle.codes.specs.declared.Test.{Test}
use Rattle.laws.specs.Keyed.{rising_by}
use Rattle.laws.specs.Attempt.{gives}
use Rattle.meaning.specs.World.{World}
use Rattle.theorems.specs.Nodes.{Lawful}
use Rattle.meaning.specs.Operators.{Table, rising, in_group}
use Rattle.meaning.specs.Translation.{rule_l, rule_e, rule_r, tail_s, tail_o, tail_c, tail_d, tail_x, tail_last}
use Rattle.agreement.specs.Typed.{Triple, row, Loop, iter_of, place_of, grouped, by_number, by_cell, sem_l, sem_e}
use Rattle.agreement.specs.Typed.{sem_r, sem_s, sem_o, sem_c, sem_d, sem_x, sem_last, first_places, sides}
use Rattle.agreement.specs.Typed.{sides_in_order, facing, counts_and_zeros, contexts, nodes_in_order}
use Rattle.agreement.specs.Encoded.{encode, encode_number, encode_cell, encode_pair, encode_numbers, encode_item}
use Rattle.agreement.specs.Encoded.{HasRows, HasLoop}
use Rattle.agreement.specs.Families.{Mask}
use Rattle.agreement.specs.Machine.{Simulates}
use Rattle.agreement.proofs.Distinct.{Shown, distinct_rows, distinct_sides}
use Rattle.agreement.proofs.Steps.{steps_apart}
use Rattle.agreement.proofs.Machine.{has_kept, has_as, sim_end}
use Rattle.agreement.proofs.MachineOperators.{attaching, projecting, uniting, clearing, excluding, joining}
use Rattle.agreement.proofs.MachineOperators.{numbering, counting, adding, valuing, rooting, stepping, checking}

module _ (w : World) {ts : List Table} (n : ℕ) (here : length ts ≡ n) where
  pub sim_L : {l : ℕ} {loop : Loop} (z : ℤ) → HasLoop ts l loop
      → Simulates w (rule_l n l z).ops (rule_l n l z).result ts (gives (sem_l z loop))
  unfolding rule_l sem_l
  sim_L z h =
      attaching w here h (λ us x k i.
      attaching w (omega arith) i (λ us x k i.
      sim_end w (has_as encode (λ p. row p 1 z) (λ p. refl) i)))

  pub sim_E : {l : ℕ} {loop : Loop} → HasLoop ts l loop
      → Simulates w (rule_e n l).ops (rule_e n l).result ts (gives (sem_e loop))
  unfolding rule_e sem_e
  sim_E h =
      attaching w here h (λ us x k i.
      attaching w {n = n + 1} (omega arith) i (λ us x k i.
      clearing w {n = n + 2} (omega arith) (λ us x k i. sim_end w i)))

  pub sim_R : {l : ℕ} {loop : Loop} (k : ℕ) → HasLoop ts l loop
      → Simulates w (rule_r n l k).ops (rule_r n l k).result ts (sem_r w k loop)
  unfolding rule_r sem_r first_places
  sim_R f h =
      attaching w here h (λ us x k i.
      rooting w (omega arith) (has_as encode_numbers (λ p. (p, 1)) (λ p. refl) i) (λ t us x k i.
      sim_end w (has_as encode (λ p. row p.0.0 p.0.1 p.1) (λ p. refl) i)))

  pub sim_S : {a b : ℕ} {x y : List Triple} {m : Mask} → Shown m x → Shown m y → HasRows ts a x → HasRows ts b y
      → Simulates w (tail_s n a b).ops (tail_s n a b).result ts (gives (sem_s x y))
  unfolding tail_s sem_s sides sides_in_order in_group rising rising_by same
  sim_S f g h i =
      attaching w here h (λ us p k j.
      attaching w (omega arith) (has_kept p i) (λ vs q k m.
      uniting w {n = n + 2} (omega arith)
      (has_as (encode_pair encode encode_number) (λ r. (r, 1)) (λ r. refl) (has_kept q j))
      (has_as (encode_pair encode encode_number) (λ r. (r, 2)) (λ r. refl) m) (λ us p k j.
      numbering w (omega arith) (grouped (λ r. r.0.iter))
      (by_number (λ r. r.0.iter) ∷ by_number (λ r. r.1) ∷ by_number (λ r. r.0.place) ∷ [])
      (λ r s. refl) (λ r s. refl) j (distinct_sides f g) (λ us p k j.
      projecting w (omega arith) j (λ us p k j.
      sim_end w (has_as encode (λ r. row r.0.0.iter r.1 r.0.0.item) (λ r. refl) j))))))

  pub sim_O : {a b : ℕ} {x y : List Triple} (f : Function) → HasRows ts a x → HasRows ts b y
      → Simulates w (tail_o n f a b).ops (tail_o n f a b).result ts (sem_o w f x y)
  unfolding tail_o sem_o facing
  sim_O f h i =
      checking w here h (λ x us p k j.
      checking w {n = n + 1} (omega arith) (has_kept p i) (λ y vs q k m.
      joining w (omega arith) iter_of iter_of (λ r. refl) (λ r. refl) (has_kept q j) m (λ us p k j.
      projecting w (omega arith) j (λ us p k j.
      adding w (omega arith) (λ r. w.arith f r.1.0 r.1.1) (λ r. refl)
      (has_as (encode_pair encode_numbers (encode_pair encode_cell encode_cell))
      (λ r. ((r.0.iter, r.0.place), (r.0.item, r.1.item))) (λ r. refl) j) (λ t us p k j.
      projecting w (omega arith) j (λ us p k j.
      sim_end w (has_as encode (λ r. row r.0.0.0 r.0.0.1 r.1) (λ r. refl) j)))))))

  pub sim_C : {l a : ℕ} {loop : Loop} {x : List Triple} → HasLoop ts l loop → HasRows ts a x
      → Simulates w (tail_c n l a).ops (tail_c n l a).result ts (gives (sem_c loop x))
  unfolding tail_c sem_c counts_and_zeros
  sim_C h i =
      counting w here i (λ u₁ p₁ k₁ j₁.
      projecting w (omega arith) j₁ (λ u₂ p₂ k₂ j₂.
      excluding w (omega arith) (has_kept p₂ (has_kept p₁ h)) (has_as encode_number (λ r. r.0) (λ r. refl) j₂)
      (λ u₃ p₃ k₃ j₃.
      attaching w (omega arith) j₃ (λ u₄ p₄ k₄ j₄.
      uniting w {n = n + 4} (omega arith) (has_kept p₄ (has_kept p₃ (has_kept p₂ j₁)))
      (has_as encode_numbers (λ p. (p, 0)) (λ p. refl) j₄) (λ u₅ p₅ k₅ j₅.
      attaching w (omega arith) j₅ (λ u₆ p₆ k₆ j₆.
      projecting w (omega arith) j₆ (λ u₇ p₇ k₇ j₇.
      sim_end w (has_as encode (λ r. row r.0 1 (pos r.1)) (λ r. refl) j₇))))))))

  pub sim_D : {a : ℕ} {x : List Triple} → HasRows ts a x
      → Simulates w (tail_d n a).ops (tail_d n a).result ts (sem_d w x)
  unfolding tail_d sem_d
  sim_D h =
      valuing w here (λ r. w.value r.item) (λ r. refl) h (λ t us p k j.
      projecting w (omega arith) j (λ us p k j.
      sim_end w (has_as encode (λ r. row r.0.iter r.0.place r.1) (λ r. refl) j)))

  pub sim_X : {a : ℕ} {x : List Triple} {m : Mask} (axis : Axis) (test : Test) → Lawful w → Shown m x
      → HasRows ts a x
      → Simulates w (tail_x n axis test a).ops (tail_x n axis test a).result ts (sem_x w axis test x)
  unfolding tail_x sem_x contexts nodes_in_order in_group rising rising_by same
  sim_X axis test laws f h =
      projecting w here h (λ us p k j.
      stepping w (omega arith) (has_as encode_item (λ r. (r.iter, r.item)) (λ r. refl) j) (λ t e us p k j.
      numbering w (omega arith) (grouped (λ r. r.0)) (by_number (λ r. r.0) ∷ by_cell (λ r. r.1) ∷ [])
      (λ r s. refl) (λ r s. refl) j (steps_apart w axis test laws f e) (λ us p k j.
      projecting w (omega arith) j (λ us p k j.
      sim_end w (has_as encode (λ r. row r.0.0 r.1 r.0.1) (λ r. refl) j)))))

  pub sim_last : {a : ℕ} {x : List Triple} {m : Mask} → Shown m x → HasRows ts a x
      → Simulates w (tail_last n a) (n + 1) ts (gives (sem_last x))
  unfolding tail_last sem_last in_group rising rising_by same
  sim_last f h =
      numbering w here (grouped iter_of) (by_number iter_of ∷ by_number place_of ∷ [])
      (λ r s. refl) (λ r s. refl) h (distinct_rows f) (λ us p k j.
      projecting w (omega arith) j (λ us p k j.
      sim_end w (has_as encode (λ r. row r.0.iter r.1 r.0.item) (λ r. refl) j)))
