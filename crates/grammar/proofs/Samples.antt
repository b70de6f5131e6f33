-- Three texts of the grammar, by derivation, with the records that each is read as.
--     one, two, three         digits
--     of_primary, single_of   a primary as a product; a sum as a Single
--     sum                     `1+1`; sum_typed also spells it
--     latitudes               `for $a in root(1)/child::n2 return count($a/child::n3)`
--     grouped                 `(1,2)*3`
use Prim.Native.Nat.{ℕ, ◌≤◌}
use mathlib.Core.Path.{◌≡◌, refl}
use mathlib.Core.List.{List, [], ◌∷◌}
use native.Mathlib.Omega.{arith}
use Rattle.cells.specs.Bytes as Bytes
use Rattle.codes.specs.Codes as Codes
use Rattle.codes.specs.declared.Axis.TheVariants.{Child}
use Rattle.grammar.specs.Numerals.{Digits, value_from, value, digit_bytes}
use Rattle.grammar.specs.Words.{Var, plus, times, named}
use Rattle.grammar.specs.Records as Records
use Rattle.grammar.specs.Grammar.{Part, expr, single, additive, multiplicative, path, primary, words, records}
use Rattle.grammar.specs.Grammar.{a_single, comma, a_comparison, for_in, an_additive, a_product, added, a_path}
use Rattle.grammar.specs.Grammar.{multiplied, a_primary, stepped, integer, root_of, variable, counted, group}
use Rattle.laws.specs.Characters.{is_letter, is_digit, first}
use Rattle.grammar.specs.Spelled.{joins, Spells}
use Rattle.grammar.specs.Typed.{Typed}

one : Digits
one = record { first = 1; others = []; small = (omega arith, tt) }

two : Digits
two = record { first = 2; others = []; small = (omega arith, tt) }

three : Digits
three = record { first = 3; others = []; small = (omega arith, tt) }

of_primary : {d : ℕ} → Part primary d → Part multiplicative d
of_primary p = a_path (a_primary p)

single_of : {d : ℕ} → Part additive d → Part single d
single_of p = a_comparison (an_additive p)

-- 1+1

sum : Part expr 32
unfolding value value_from one
sum =
    let p : Part multiplicative 32 = of_primary (integer one (omega arith)) in
    a_single (single_of (added plus (a_product p) p))

sum_records : records sum
    ≡ 0x51 ∷ 0x4F ∷ 1 ∷ 0x51 ∷ 0x4C ∷ 0 ∷ 0 ∷ 0 ∷ 1 ∷ 0x51 ∷ 0x4C ∷ 0 ∷ 0 ∷ 0 ∷ 1 ∷ []
unfolding records sum of_primary single_of one value value_from Records.record_ql Records.record_qo Bytes.bytes_of
    Codes.function_number
sum_records = refl

sum_typed : Typed (49 ∷ 43 ∷ 49 ∷ []) (records sum)
unfolding words Spells joins first is_letter is_digit sum of_primary single_of one digit_bytes
sum_typed =
    record {
      part = sum;
      meant = refl;
      spelled =
          ([], 43 ∷ 49 ∷ [], refl, tt, refl, ([], 49 ∷ [], refl, tt, refl, ([], [], refl, tt, refl, tt)));
    }

-- for $a in root(1)/child::n2 return count($a/child::n3)

a : Var
a = record { number = 0; small = omega arith }

-- /child::n and a number
child : {d : ℕ} → Part primary d → (n : ℕ) → n ≤ 65535 → Part single d
child p n small = single_of (a_product (a_path (stepped (a_primary p) Child (named n small))))

latitudes : Part expr 32
unfolding value value_from one
latitudes =
    a_single
    (for_in a (child (root_of one (omega arith) (omega arith)) 2 (omega arith))
    (single_of (a_product (of_primary (counted (child (variable a) 3 (omega arith)))))))

latitudes_records : records latitudes
    ≡ 0x51 ∷ 0x46 ∷ 0 ∷ 0x51 ∷ 0x58 ∷ 1 ∷ 3 ∷ 0 ∷ 2 ∷ 0x51 ∷ 0x52 ∷ 1
    ∷ 0x51 ∷ 0x43 ∷ 0x51 ∷ 0x58 ∷ 1 ∷ 3 ∷ 0 ∷ 3 ∷ 0x51 ∷ 0x56 ∷ 0 ∷ []
unfolding records latitudes child of_primary single_of one a value value_from Records.record_qf Records.record_qx
    Records.record_qr Records.record_qc Records.record_qv Bytes.bytes_of Codes.axis_number Codes.test_number Codes.test_name
latitudes_records = refl

-- (1,2)*3: the parentheses have no record

grouped : Part expr 32
unfolding value value_from one two three
grouped =
    let item : (n : Digits) → value n ≤ 2147483647 → Part single 31 =
    λ n small. single_of (a_product (of_primary (integer n small)))
    in
    let items : Part primary 32 = group (comma (a_single (item one (omega arith))) (item two (omega arith))) in
    a_single
    (single_of (a_product (multiplied times (of_primary items) (a_primary (integer three (omega arith))))))

grouped_records : records grouped
    ≡ 0x51 ∷ 0x4F ∷ 3 ∷ 0x51 ∷ 0x53 ∷ 0x51 ∷ 0x4C ∷ 0 ∷ 0 ∷ 0 ∷ 1 ∷ 0x51 ∷ 0x4C ∷ 0 ∷ 0 ∷ 0 ∷ 2
    ∷ 0x51 ∷ 0x4C ∷ 0 ∷ 0 ∷ 0 ∷ 3 ∷ []
unfolding records grouped of_primary single_of one two three value value_from Records.record_ql Records.record_qo
    Records.record_qs Bytes.bytes_of Codes.function_number
grouped_records = refl
