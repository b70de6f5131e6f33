-- Laws of tests.
--     by_cases b f g           f where b is true, g where it is false
--     clash                    nothing is both true and false
--     both_true                where `a && b` is true, both are
--     or_left, or_right        where one is true, `a || b` is
use mathlib.Core.Path.{◌≡◌, refl, sym, ◌∙◌}
use mathlib.Core.Bool.{Bool, true, false, true≢false, ◌&&◌, ◌||◌}

pub by_cases : {P : Type 0} (b : Bool) → (b ≡ true → P) → (b ≡ false → P) → P
by_cases true f g = f refl
by_cases false f g = g refl

pub clash : {P : Type 0} {b : Bool} → b ≡ true → b ≡ false → P
clash e d = absurd (true≢false (sym e ∙ d))

pub both_true : (a b : Bool) → (a && b) ≡ true → (a ≡ true) × (b ≡ true)
both_true true b e = (refl, e)
both_true false b e = clash e refl

pub or_left : (a b : Bool) → a ≡ true → (a || b) ≡ true
or_left a b e = rw e refl

pub or_right : (a b : Bool) → b ≡ true → (a || b) ≡ true
or_right true b e = refl
or_right false b e = e
