-- What the rule of QI adds after its operands (document 01, 'Translation').
--     choice n a b     the union of the two branches, as operator n
use Rattle.std.specs.Prelude.{ℕ, [], ◌∷◌}
use Rattle.meaning.specs.Plan.{RU}
use Rattle.meaning.specs.Translation.{Made}

-- QI, after its operands: union
unfoldable pub choice : ℕ → ℕ → ℕ → Made
choice n a b = record { ops = RU a b ∷ []; result = n }
