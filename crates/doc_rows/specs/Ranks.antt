-- Ranks in a row, as code passes them.
--     ranks r n          r, r + 1, .. n of them
--     roots_from c r n    those of them that are roots: the rows of level 0
use Rattle.std.specs.Prelude.{ℕ, zero, suc, List, [], ◌∷◌, eqb}
use Rattle.laws.specs.Lists.{filter}
use Rattle.meaning.specs.Catalogue.{Catalogue}

unfoldable pub ranks : ℕ → ℕ → List ℕ
ranks r zero = []
ranks r (suc n) = r ∷ ranks (suc r) n

unfoldable pub roots_from : Catalogue → ℕ → ℕ → List ℕ
roots_from c r n = filter (λ v. eqb (c.level v) 0) (ranks r n)
