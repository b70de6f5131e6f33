-- The lists of columns that an operator names (document 01, 'Plan operators').
--     columns_of cs     the columns of a projection, in order
--     keys_of ks        the keys of a numbering, in order
use Rattle.std.specs.Prelude.{ℕ, List, [], ◌∷◌}
use Rattle.writing.specs.declared.Columns.{Columns}
use Rattle.writing.specs.declared.Keys.{Keys}

unfoldable pub columns_of : Columns → List ℕ
columns_of (Columns.One a) = a ∷ []
columns_of (Columns.Two a b) = a ∷ b ∷ []
columns_of (Columns.Three a b c) = a ∷ b ∷ c ∷ []
columns_of (Columns.Four a b c d) = a ∷ b ∷ c ∷ d ∷ []

unfoldable pub keys_of : Keys → List ℕ
keys_of (Keys.One a) = a ∷ []
keys_of (Keys.Two a b) = a ∷ b ∷ []
