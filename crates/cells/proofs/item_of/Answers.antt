-- `cells::item_of` meets its contract, range by range.
use Rattle.std.specs.Prelude.{Some}
use mathlib.Core.Path.{◌≡◌, sym, ◌∙◌, ap}
use mathlib.Core.Bool.{true}
use Prim.Native.Nat.{ℕ, ◌-◌, ◌≤◌, ◌<◌}
use native.Mathlib.Omega.{arith}
use lib.IntN.{ℤ, pos, nat_abs}
use mir.Syntax.{w32, w64}
use borrow.Author.Tests.{ltb-true}
use mir.Val.{of_z, to_z}
use mir.Facts.{to_z-of_z}
use Rattle.cells.specs.declared.Item.TheVariants.{Integer, Node}
use Rattle.cells.specs.Cell.{in_range, held}
use Rattle.cells.proofs.Holding.{range_mag, from_range, held_integer, held_below, from_here, held_stray}
use Rattle.cells.proofs.Holding.{held_node}
use Rattle.cells.proofs.item_of.Goals as goal

pub overflow_cast-result : goal.overflow_cast-result
overflow_cast-result c =
    let back : to_z w64 (of_z w64 c.args.cell) ≡ c.args.cell = to_z-of_z c.ranges.cell in
    let integer : in_range c.args.cell ≡ true = let b = back in
    sym (from_range _ (rw b at c.in-minus2147483648-to-2147483647.if-cell-ltminus2147483648-own.false)) ∙ rw b at c.in-minus2147483648-to-2147483647.if-cell-lt2147483648-own.true in
    rw back (record { sfits = range_mag _ integer })

pub overflow_cast-result-in-8589934592-to-9223372036854775807 : goal.overflow_cast-result-in-8589934592-to-9223372036854775807
overflow_cast-result-in-8589934592-to-9223372036854775807 c =
    let back : to_z w64 (of_z w64 c.args.cell) ≡ c.args.cell = to_z-of_z c.ranges.cell in
    let node : (n : ℕ) × (c.args.cell ≡ pos n) × (0x2_0000_0000 ≤ n) = from_here 0x2_0000_0000 _ (rw back at c.in-8589934592-to-9223372036854775807.if-cell-lt8589934592-own.false) in
    let n = node in
    rw (back, n.1) (tt, record { fits = omega (arith, rw n.1 at c.ranges.cell.sfits) })

pub overflow_sub-result : goal.overflow_sub-result
overflow_sub-result c =
    let back : to_z w64 (of_z w64 c.args.cell) ≡ c.args.cell = to_z-of_z c.ranges.cell in
    let node : (n : ℕ) × (c.args.cell ≡ pos n) × (0x2_0000_0000 ≤ n) = from_here 0x2_0000_0000 _ (rw back at c.in-8589934592-to-9223372036854775807.if-cell-lt8589934592-own.false) in
    let n = node in
    rw (back, n.1) n.2

pub returns-in-4294967296 : goal.returns-in-4294967296
unfolding held
returns-in-4294967296 c =
    let back : to_z w64 (of_z w64 c.args.cell) ≡ c.args.cell = to_z-of_z c.ranges.cell in
    let exactly : (n : ℕ) → n < 0x8000_0000_0000_0000 → of_z w64 c.args.cell ≡ n → c.args.cell ≡ to_z w64 n = λ n h e. sym back ∙ ap (to_z w64) e in
    sym (ap held (exactly 0x1_0000_0000 (omega arith) c.in-4294967296.in-4294967296-own.keys1))

pub returns-in-4294967297 : goal.returns-in-4294967297
unfolding held
returns-in-4294967297 c =
    let back : to_z w64 (of_z w64 c.args.cell) ≡ c.args.cell = to_z-of_z c.ranges.cell in
    let exactly : (n : ℕ) → n < 0x8000_0000_0000_0000 → of_z w64 c.args.cell ≡ n → c.args.cell ≡ to_z w64 n = λ n h e. sym back ∙ ap (to_z w64) e in
    sym (ap held (exactly 0x1_0000_0001 (omega arith) c.in-4294967297.in-4294967297-own.keys2))

pub returns-in-minus2147483648-to-2147483647 : goal.returns-in-minus2147483648-to-2147483647
returns-in-minus2147483648-to-2147483647 c =
    let back : to_z w64 (of_z w64 c.args.cell) ≡ c.args.cell = to_z-of_z c.ranges.cell in
    let integer : in_range c.args.cell ≡ true = let b = back in
    sym (from_range _ (rw b at c.in-minus2147483648-to-2147483647.if-cell-ltminus2147483648-own.false)) ∙ rw b at c.in-minus2147483648-to-2147483647.if-cell-lt2147483648-own.true in
    ap (λ (z : ℤ). Some (Integer z)) (to_z-of_z {w = w32} (rw back (record { sfits = range_mag _ integer })) ∙ back)
    ∙ sym (held_integer _ integer)

pub returns-in-8589934592-to-9223372036854775807 : goal.returns-in-8589934592-to-9223372036854775807
returns-in-8589934592-to-9223372036854775807 c =
    let back : to_z w64 (of_z w64 c.args.cell) ≡ c.args.cell = to_z-of_z c.ranges.cell in
    let node : (n : ℕ) × (c.args.cell ≡ pos n) × (0x2_0000_0000 ≤ n) = from_here 0x2_0000_0000 _ (rw back at c.in-8589934592-to-9223372036854775807.if-cell-lt8589934592-own.false) in
    let n = node in
    let e = n.1 in
    ap (λ (z : ℤ). Some (Node (record { 0 = nat_abs z - 0x2_0000_0000 })))
    (back ∙ e)
    ∙ sym (held_node _ n.2) ∙ ap held (sym e)

pub returns-in_default : goal.returns-in_default
returns-in_default c =
    let back : to_z w64 (of_z w64 c.args.cell) ≡ c.args.cell = to_z-of_z c.ranges.cell in
    sym (held_below _ (rw back at c.in_default.if-cell-ltminus2147483648-own.true))

pub returns-in_default-2 : goal.returns-in_default-2
returns-in_default-2 c =
    let back : to_z w64 (of_z w64 c.args.cell) ≡ c.args.cell = to_z-of_z c.ranges.cell in
    let past : (n : ℕ) × (c.args.cell ≡ pos n) × (0x8000_0000 ≤ n) = from_here 0x8000_0000 _ (rw back at c.in_default.if-cell-lt2147483648-own.false) in
    let p = past in
    let e = p.1 in
    let rest = c.in_default.in_default-own.rest in
    let n : ℕ = p.0 in
    sym (held_stray n p.2 (λ d. rest.0.1 (ap (of_z w64) e ∙ d)) (λ d. rest.1 (ap (of_z w64) e ∙ d))
    (ltb-true n 0x2_0000_0000 (rw (back, e) at c.in_default.if-cell-lt8589934592-own.true)))
    ∙ ap held (sym e)
