-- Writing over lent bytes (document 01, refusal 8): the position runs on past their end; what does not fit is left out.
--     penned xs at ys                xs with ys written over it from `at` on, as far as xs reaches
--     Pens at ys before after next   ys written over `before` from `at` on leave `after`; next is the position after ys
use Rattle.std.specs.Prelude.{ℕ, ◌+◌, ◌≡◌, List, [], ◌∷◌, length, set}

-- `set` changes nothing past the end
unfoldable pub penned : {A : Type 0} → List A → ℕ → List A → List A
penned xs at [] = xs
penned xs at (y ∷ ys) = penned (set xs at y) (at + 1) ys

pub record Pens (at : ℕ) (ys before after : List ℕ) (next : ℕ) : Type 0 where
  pub ends : next ≡ at + length ys
  pub leaves : after ≡ penned before at ys
