-- The bytes `same no` stand in a text only where the engines differ.
--     starts w t, holds w t     word w stands at the start of t; it stands somewhere in t
--     quiet-..                  in front of any text, a line of another kind adds no `same no`
--     no_same_no                so there is none in all lines, unless the verdict is that the engines differ
use Rattle.std.specs.Prelude.{Option, Some, None}
use Prim.Native.Nat.{ℕ, zero, suc, ◌+◌, ◌/◌, ◌%◌, ◌<◌}
use mathlib.Core.Path.{◌≡◌, refl, sym, ap, ◌∙◌}
use mathlib.Core.List.{List, [], ◌∷◌, ◌++◌, append-nil, append_assoc}
use mathlib.Core.Bool.{Bool, true, false, cond, ◌&&◌, ◌||◌, false≢true}
use native.Mathlib.Omega.{arith}
use native.Mathlib.Nat.{mod-lt}
use borrow.Author.Tests.{ltb-true, eq-eqb, ne_eqb}
use lib.Dec.{eqb, ltb}
use lib.IntN.{ℤ, pos, negsuc}
use lib.ListN.{take}
use Rattle.cells.specs.declared.Item.{Item}
use Rattle.cells.specs.Cell.{held}
use Rattle.cells.specs.declared.Item.TheVariants.{Integer, Truth, Node}
use Rattle.laws.specs.Lists.{gather}
use Rattle.laws.proofs.Booleans.{or_right}
use Rattle.verdicts.specs.declared.Verdict.{Verdict}
use Rattle.verdicts.specs.declared.Verdict.TheVariants.{Agree, Differ, Room}
use Rattle.pen.specs.Decimal.{digits, decimal, signed}
use Rattle.lines.specs.Text.{Text, integer_line, truth_line, node_line, held_line, item_line}
use Rattle.verdicts.specs.Compared.{Told, Gave, Refused, verdict}
use Rattle.lines.specs.Text.{refused_line, items_line, first_lines, same_line, text, line_end, at_word}
use Rattle.lines.specs.Text.{same_no, Nowhere}

-- A word in a text

starts : Text → Text → Bool
starts [] t = true
starts (c ∷ w) [] = false
starts (c ∷ w) (d ∷ t) = eqb c d && starts w t

holds : Text → Text → Bool
holds w [] = starts w []
holds w (d ∷ t) = starts w (d ∷ t) || holds w t

starts_itself : (w t : Text) → starts w (w ++ t) ≡ true
unfolding starts
starts_itself [] t = refl
starts_itself (c ∷ w) t = rw (eq-eqb c c refl) (starts_itself w t)

starts_holds : (w t : Text) → starts w t ≡ true → holds w t ≡ true
unfolding holds
starts_holds w [] e = e
starts_holds w (d ∷ t) e = rw e

holds_inside : (w before after : Text) → holds w (before ++ (w ++ after)) ≡ true
unfolding holds
holds_inside w [] after = starts_holds w (w ++ after) (starts_itself w after)
holds_inside w (d ∷ before) after =
    or_right (starts w (d ∷ (before ++ (w ++ after)))) _ (holds_inside w before after)

nowhere : (w t : Text) → holds w t ≡ false → Nowhere w t
nowhere w t e before after d = false≢true (sym e ∙ ap (holds w) d ∙ holds_inside w before after)

-- What is no `same no`

abbrev said : Text → Bool
said t = holds same_no t

quiet_digit : (d : ℕ) → d < 10 → (t : Text) → said ((48 + d) ∷ t) ≡ said t
unfolding holds starts
quiet_digit d h t = let e : eqb 115 (48 + d) ≡ false = ne_eqb 115 (48 + d) (λ q. omega arith) in rw e

quiet_digits : (k n : ℕ) (t : Text) → said (digits k n ++ t) ≡ said t
unfolding digits
quiet_digits zero n t = refl
quiet_digits (suc k) n t = by_test (ltb n 10) refl (quiet_digits k (n / 10) ((48 + n % 10) ∷ t))
  where
    by_test : (b : Bool) → ltb n 10 ≡ b
        → said (digits k (n / 10) ++ ((48 + n % 10) ∷ t)) ≡ said ((48 + n % 10) ∷ t)
        → said (cond b ((48 + n) ∷ []) (digits k (n / 10) ++ ((48 + n % 10) ∷ [])) ++ t) ≡ said t
    by_test true e f = quiet_digit n (ltb-true n 10 e) t
    by_test false e f =
        ap said (append_assoc (digits k (n / 10)) ((48 + n % 10) ∷ []) t)
        ∙ f
        ∙ quiet_digit (n % 10) (mod-lt n (omega arith)) t

quiet_decimal : (n : ℕ) (t : Text) → said (decimal n ++ t) ≡ said t
unfolding decimal
quiet_decimal n t = quiet_digits 20 n t

-- a number that ends a line
quiet_end : (n : ℕ) (t : Text) → said ((decimal n ++ line_end) ++ t) ≡ said t
unfolding holds starts
quiet_end n t = ap said (append_assoc (decimal n) line_end t) ∙ quiet_decimal n (line_end ++ t)

quiet_signed : (z : ℤ) (t : Text) → said ((signed z ++ line_end) ++ t) ≡ said t
unfolding signed holds starts
quiet_signed (pos n) t = quiet_end n t
quiet_signed (negsuc n) t = quiet_end (suc n) t

quiet_item : (h : Option Item) (t : Text) → said (held_line h ++ t) ≡ said t
unfolding held_line integer_line truth_line node_line holds starts
quiet_item (Some (Integer z)) t = quiet_signed z t
quiet_item (Some (Truth true)) t = refl
quiet_item (Some (Truth false)) t = refl
quiet_item (Some (Node r)) t = quiet_end r.0 t
quiet_item None t = refl

quiet_items : (xs : List ℤ) (t : Text) → said (gather item_line xs ++ t) ≡ said t
unfolding gather item_line
quiet_items [] t = refl
quiet_items (x ∷ xs) t =
    ap said (append_assoc (item_line x) (gather item_line xs) t) ∙ quiet_item (held x) (gather item_line xs ++ t) ∙
    quiet_items xs t

quiet_refused : (n p : ℕ) (t : Text) → said (refused_line n p ++ t) ≡ said t
unfolding refused_line holds starts
quiet_refused n p t =
    ap said (append_assoc (decimal n) (at_word ++ (decimal p ++ line_end)) t)
    ∙ quiet_decimal n ((at_word ++ (decimal p ++ line_end)) ++ t)
    ∙ quiet_end p t

quiet_first : (ran : Told) (xs : List ℤ) (t : Text) → said (first_lines ran xs ++ t) ≡ said t
unfolding first_lines items_line holds starts
quiet_first (Gave n) xs t =
    ap said (append_assoc (items_line n) (gather item_line (take n xs)) t)
    ∙ quiet_end n (gather item_line (take n xs) ++ t)
    ∙ quiet_items (take n xs) t
quiet_first (Refused n p) xs t = quiet_refused n p t

quiet_same : (v : Verdict) → (v ≡ Differ → ⊥) → said (same_line v) ≡ false
unfolding same_line holds starts
quiet_same Agree f = refl
quiet_same Room f = refl
quiet_same Differ f = absurd (f refl)

quiet_text : (t ran : Told) (xs : List ℤ) (evaluated : Told) (ys : List ℤ)
    → ((k : ℕ) → t ≡ Gave k → verdict ran xs evaluated ys ≡ Differ → ⊥)
    → said (text t ran xs evaluated ys) ≡ false
unfolding text holds starts
quiet_text (Refused n p) ran xs evaluated ys f =
    ap said (sym (append-nil (refused_line n p))) ∙ quiet_refused n p []
quiet_text (Gave k) ran xs evaluated ys f =
    quiet_first ran xs (same_line (verdict ran xs evaluated ys)) ∙ quiet_same (verdict ran xs evaluated ys) (f k refl)

pub no_same_no : (t ran : Told) (xs : List ℤ) (evaluated : Told) (ys : List ℤ)
    → ((k : ℕ) → t ≡ Gave k → verdict ran xs evaluated ys ≡ Differ → ⊥)
    → Nowhere same_no (text t ran xs evaluated ys)
no_same_no t ran xs evaluated ys f = nowhere same_no (text t ran xs evaluated ys) (quiet_text t ran xs evaluated ys f)
