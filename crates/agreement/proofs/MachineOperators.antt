-- One operator and those that come next: where the tables that it names hold typed rows, its table holds what the
-- typed function makes of them. Then it is left to show the rest, for tables that hold that too. Numbering and judging
-- ask besides that no two rows are equal in the columns that they look at.
--     attaching .. rooting     RA RP RU RD RS RJ RN RF RV RC RE RK RX RO
use Prim.Native.Nat.{ℕ, suc}
use mathlib.Core.Path.{◌≡◌, refl, sym, ap, ap₂, ◌∙◌, subst}
use mathlib.Core.List.{List, [], ◌∷◌, ◌++◌, map}
use mathlib.Core.Bool.{Bool, true, false, cond}
use lib.Dec.{eqb}
use lib.IntN.{ℤ, pos}
use lib.ListN.{length}
use Rattle.cells.specs.Cell.{same, true_cell}
use Rattle.codes.specs.declared.Function.{Function}
use Rattle.codes.specs.declared.Axis.{Axis}
use Rattle.codes.specs.declared.Test.{Test}
use Rattle.laws.specs.Lists.{filter}
use Rattle.laws.specs.Keyed.{Key, rising_by, counted, joined, without, unique}
use Rattle.laws.specs.Attempt.{Attempt, gives, attempt, provided}
use Rattle.meaning.specs.World.{World}
use Rattle.meaning.specs.Plan.{Op, RA, RP, RU, RD, RS, RJ, RN, RF, RV, RC, RE, RK, RX, RO}
use Rattle.meaning.specs.Operators.{Row, Table, cell, column, attach, project, minus, select, join, rising, in_group}
use Rattle.meaning.specs.Operators.{table_of, number, added, counts, truths, once, steps, rooted, make}
use Rattle.agreement.specs.Typed.{Triple, iter_of, Loop, extended, truths_of, counts_of, steps_of, checked}
use Rattle.agreement.specs.Encoded.{encode, encode_number, encode_cell, encode_pair, encode_numbers, encode_item}
use Rattle.agreement.specs.Encoded.{encode_choice, Has, HasRows, HasLoop}
use Rattle.agreement.specs.Tieless.{alike, Untied, Distinct, ordered_by}
use Rattle.agreement.specs.Machine.{Simulates}
use Rattle.laws.proofs.Filters.{map_append}
use Rattle.agreement.proofs.Encoded.{attach_encoded, project_encoded, minus_self, minus_encoded, select_encoded}
use Rattle.agreement.proofs.Encoded.{join_encoded, number_encoded, added_encoded, numbers_encoded}
use Rattle.agreement.proofs.Encoded.{counts_encoded, truths_encoded, once_encoded, steps_encoded}
use Rattle.agreement.proofs.Untied.{untied_mapped}
use Rattle.agreement.proofs.Machine.{Then, sim_op, sim_try}

-- a table that is given or not
provided_table : (b : Bool) (t : List Triple)
    → provided b (gives (map encode t)) ≡ attempt (provided b (gives t)) (λ u. gives (map encode u))
unfolding provided attempt
provided_table true t = refl
provided_table false t = refl

-- the table that holds rows has no two equal ones where the rows have none
untied_held : {A : Type 0} {f : A → Row} {rows : List A} {ts : List Table} {t : ℕ} (equal : Row → Row → Bool)
    → Has ts t f rows → Untied (λ x y. equal (f x) (f y)) rows → Untied equal (table_of ts t)
untied_held {f} {rows} equal h d = subst (Untied equal) (sym h.holds) (untied_mapped equal f rows d)

module _ (w : World) {ts : List Table} {os : List Op} {r n : ℕ} (l : length ts ≡ n) where
  -- operators that always give a table
  module _ {a : Attempt (List Triple)} where
    pub attaching : {A : Type 0} {f : A → Row} {rows : List A} {t : ℕ} {z : ℤ} → Has ts t f rows
        → Then w ts (suc n) n (λ x. f x ++ (z ∷ [])) rows os r a → Simulates w (RA t z ∷ os) r ts a
    unfolding make
    attaching {f} {rows} {z} h k =
        sim_op w (ap (λ (u : Table). gives (attach u z)) h.holds ∙ ap gives (attach_encoded f z rows)) tt l k

    pub projecting : {A : Type 0} {f : A → Row} {rows : List A} {t : ℕ} {cs : List ℕ} → Has ts t f rows
        → Then w ts (suc n) n (λ x. map (cell (f x)) cs) rows os r a → Simulates w (RP t cs ∷ os) r ts a
    unfolding make
    projecting {f} {rows} {cs} h k =
        sim_op w (ap (λ (u : Table). gives (project u cs)) h.holds ∙ ap gives (project_encoded f cs rows)) tt l k

    pub uniting : {A : Type 0} {f : A → Row} {x y : List A} {t u : ℕ} → Has ts t f x → Has ts u f y
        → Then w ts (suc n) n f (x ++ y) os r a → Simulates w (RU t u ∷ os) r ts a
    unfolding make
    uniting {f} {x} {y} h i k = sim_op w (ap gives (ap₂ ◌++◌ h.holds i.holds ∙ sym (map_append f x y))) tt l k

    pub clearing : {t : ℕ} → Then w ts (suc n) n encode [] os r a → Simulates w (RD t t ∷ os) r ts a
    unfolding make
    clearing {t} k = sim_op w (ap gives (minus_self _)) tt l k

    pub excluding : {x y : Loop} {t u : ℕ} → HasLoop ts t x → HasLoop ts u y
        → Then w ts (suc n) n encode_number (without x y) os r a → Simulates w (RD t u ∷ os) r ts a
    unfolding make
    excluding {x} {y} h i k = sim_op w (ap gives (ap₂ minus h.holds i.holds ∙ minus_encoded x y)) tt l k

    pub selecting : {A : Type 0} {f : A → Row} {rows : List A} {t c : ℕ} (p : A → Bool)
        → ((x : A) → same (cell (f x) c) true_cell ≡ p x) → Has ts t f rows
        → Then w ts (suc n) n f (filter p rows) os r a → Simulates w (RS t c ∷ os) r ts a
    unfolding make
    selecting {f} {rows} {c} p e h k =
        sim_op w (ap (λ (u : Table). gives (select u c)) h.holds ∙ ap gives (select_encoded f c p e rows)) tt l k

    pub joining : {A B : Type 0} {f : A → Row} {g : B → Row} {x : List A} {y : List B} {t c u d : ℕ}
        (i : A → ℕ) (j : B → ℕ) → ((p : A) → cell (f p) c ≡ pos (i p)) → ((q : B) → cell (g q) d ≡ pos (j q))
        → Has ts t f x → Has ts u g y
        → Then w ts (suc n) n (encode_pair f g) (joined i j x y) os r a → Simulates w (RJ t c u d ∷ os) r ts a
    unfolding make
    joining {f} {g} {x} {y} {c} {d} i j e m h k s =
        sim_op w
        (ap₂ (λ (p q : Table). gives (join p c q d)) h.holds k.holds
        ∙ ap gives (join_encoded f g c d i j e m x y)) tt l s

    pub numbering : {A : Type 0} {f : A → Row} {rows : List A} {t p : ℕ} {ks : List ℕ}
        (group : A → A → Bool) (keys : List (Key A)) → ((x y : A) → in_group p (f x) (f y) ≡ group x y)
        → ((x y : A) → rising (cond (eqb p 255) ks (p ∷ ks)) (f x) (f y) ≡ rising_by keys x y) → Has ts t f rows
        → Distinct (ordered_by p ks) f rows
        → Then w ts (suc n) n (encode_pair f encode_number) (counted group keys rows) os r a
        → Simulates w (RN t p ks ∷ os) r ts a
    unfolding make
    numbering {f} {rows} {p} {ks} group keys g e h d k =
        sim_op w
        (ap (λ (u : Table). gives (number u p ks)) h.holds
        ∙ ap gives (number_encoded f group keys p ks g e rows))
        (untied_held (alike (ordered_by p ks)) h d) l k

    pub counting : {rows : List Triple} {t : ℕ} → HasRows ts t rows
        → Then w ts (suc n) n encode_numbers (counts_of rows) os r a → Simulates w (RC t 0 ∷ os) r ts a
    unfolding make
    counting {rows} h k =
        sim_op w (ap (λ (u : Table). gives (counts u 0)) h.holds ∙ ap gives (counts_encoded rows)) tt l k

  -- operators that may fail
  module _ {A : Type 0} {f : A → Row} {rows : List A} {t : ℕ} {k : List (A × ℤ) → Attempt (List Triple)} where
    pub adding : {g : Function} {c d : ℕ} (q : A → Attempt ℤ)
        → ((x : A) → w.arith g (cell (f x) c) (cell (f x) d) ≡ q x) → Has ts t f rows
        → ((u : List (A × ℤ)) → Then w ts (suc n) n (encode_pair f encode_cell) u os r (k u))
        → Simulates w (RF t g c d ∷ os) r ts (attempt (extended q rows) k)
    unfolding make
    adding q e h s =
        sim_try w (extended q rows) (ap (added _) h.holds ∙ added_encoded f _ q e rows) tt l (λ u d. s u)

    pub valuing : {c : ℕ} (q : A → Attempt ℤ) → ((x : A) → w.value (cell (f x) c) ≡ q x) → Has ts t f rows
        → ((u : List (A × ℤ)) → Then w ts (suc n) n (encode_pair f encode_cell) u os r (k u))
        → Simulates w (RV t c ∷ os) r ts (attempt (extended q rows) k)
    unfolding make
    valuing q e h s =
        sim_try w (extended q rows) (ap (added _) h.holds ∙ added_encoded f _ q e rows) tt l (λ u d. s u)

    pub rooting : {i : ℕ} → Has ts t f rows
        → ((u : List (A × ℤ)) → Then w ts (suc n) n (encode_pair f encode_cell) u os r (k u))
        → Simulates w (RO t i ∷ os) r ts (attempt (extended (λ x. w.root i) rows) k)
    unfolding make rooted
    rooting {i} h s =
        sim_try w (extended (λ x. w.root i) rows)
        (ap (added _) h.holds ∙ added_encoded f _ (λ x. w.root i) (λ x. refl) rows) tt l (λ u d. s u)

  pub judging : {rows : List Triple} {t : ℕ} {k : List (ℕ × Bool) → Attempt (List Triple)} → HasRows ts t rows
      → Distinct (0 ∷ 1 ∷ []) encode rows
      → ((u : List (ℕ × Bool)) → truths_of w rows ≡ gives u → Then w ts (suc n) n encode_choice u os r (k u))
      → Simulates w (RE t ∷ os) r ts (attempt (truths_of w rows) k)
  unfolding make
  judging {rows} h d s =
      sim_try w (truths_of w rows) (ap (truths w) h.holds ∙ truths_encoded w rows)
      (untied_held (alike (0 ∷ 1 ∷ [])) h d) l s

  pub stepping : {rows : List (ℕ × ℤ)} {t : ℕ} {axis : Axis} {test : Test} {k : List (ℕ × ℤ) → Attempt (List Triple)}
      → Has ts t encode_item rows
      → ((u : List (ℕ × ℤ)) → steps_of w axis test rows ≡ gives u → Then w ts (suc n) n encode_item u os r (k u))
      → Simulates w (RX t axis test ∷ os) r ts (attempt (steps_of w axis test rows) k)
  unfolding make
  stepping {rows} {axis} {test} h s =
      sim_try w (steps_of w axis test rows) (ap (steps w axis test) h.holds ∙ steps_encoded w axis test rows) tt l s

  pub checking : {rows : List Triple} {t : ℕ} {k : List Triple → Attempt (List Triple)} → HasRows ts t rows
      → ((u : List Triple) → Then w ts (suc n) n encode u os r (k u))
      → Simulates w (RK t 0 ∷ os) r ts (attempt (checked rows) k)
  unfolding make checked
  checking {rows} h s =
      sim_try w (provided (unique (map iter_of rows)) (gives rows))
      (ap (λ (u : Table). provided (once (column u 0)) (gives u)) h.holds
      ∙ ap (λ (b : Bool). provided b (gives (map encode rows)))
      (ap once (numbers_encoded encode 0 iter_of (λ x. refl) rows) ∙ once_encoded (map iter_of rows))
      ∙ provided_table (unique (map iter_of rows)) rows) tt l (λ u d. s u)
