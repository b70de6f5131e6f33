-- Laws on bytes that are put into a slice, where all of them fit.
--     put_penned     what is written up to no further than the slice's end is put there
--     put_is         the same of equal bytes
--     put_length     the slice stays as long
--     put_text       what was put at the start stands there
use Prim.Native.Nat.{ℕ, ◌+◌, ◌≤◌}
use mathlib.Core.Path.{◌≡◌, ap, ◌∙◌, subst}
use mathlib.Core.List.{List}
use native.Mathlib.Omega.{arith}
use lib.ListN.{length, take, drop}
use lib.Seq.{take_at}
use Rattle.laws.specs.Rows.{laid}
use Rattle.laws.proofs.Rows.{length_laid}
use Rattle.pen.specs.Penned.{Pens}
use Rattle.pen.proofs.Penned.{penned_laid}
use Rattle.lines.specs.Placed.{Put}

module _ (xs : List ℕ) (at : ℕ) (ys : List ℕ) (bs : List ℕ) (m : ℕ) where
  pub put_penned : m ≤ length xs → Pens at bs xs ys m → Put xs ys at bs m
  put_penned h p =
      record {
        written = p.leaves ∙ penned_laid xs at bs (omega (arith, p.ends));
        ended = p.ends;
        fits = h;
      }

  module _ (p : Put xs ys at bs m) where
    pub put_length : length ys ≡ length xs
    put_length =
        let e = p.ended in
        let f = p.fits in
        ap length p.written ∙ length_laid xs at bs (omega arith)

    pub put_is : (cs : List ℕ) → bs ≡ cs → Put xs ys at cs m
    put_is cs e = subst (λ (l : List ℕ). Put xs ys at l m) e p

pub put_text : (xs ys bs : List ℕ) (n : ℕ) → Put xs ys 0 bs n → take n ys ≡ bs
unfolding laid
put_text xs ys bs n p =
    let e : length bs ≡ n = omega (arith, p.ended) in
    ap (take n) p.written ∙ take_at bs (drop (0 + length bs) xs) n e
