-- Where the variables' items stand (document 01, 'Query records': what a variable holds).
--     Scoped top s         each of the eight variables' items stand below top
--     held cells s v       the items of variable v
--     HoldsEnv cells s e   scope s, read from the cells, is the store e
--     Bindable b           a binding's variable is 0 to 7
--     scoping s b a l      scope s, with the l items from a on in the binding's variable
--     binding b xs e       store e, with items xs in the binding's variable
--     unbound              the scope at first: no variable holds an item
use Rattle.std.specs.Prelude.{ℕ, ◌+◌, ◌≤◌, ◌<◌, ◌≡◌, List, ℤ, length, get_or, set, replicate, Option, Some, None}
use Rattle.laws.specs.Rows.{row}
use Rattle.meaning.specs.Meaning.{Env, bind}
use Rattle.working_parts.specs.declared.Scope.{Scope}

pub record Scoped (top : ℕ) (s : Scope) : Type 0 where
  pub starts : length s.starts ≡ 8
  pub lengths : length s.lengths ≡ 8
  pub below : (v : ℕ) → v < 8 → get_or s.starts v 0 + get_or s.lengths v 0 ≤ top

unfoldable pub held : List ℤ → Scope → ℕ → List ℤ
held cells s v = row cells (get_or s.starts v 0) (get_or s.lengths v 0)

abbrev pub HoldsEnv : List ℤ → Scope → Env → Type 0
HoldsEnv cells s e = (v : ℕ) → v < 8 → held cells s v ≡ e v

abbrev pub Bindable : Option ℕ → Type 0
Bindable None = Unit {0}
Bindable (Some v) = v < 8

unfoldable pub scoping : Scope → Option ℕ → ℕ → ℕ → Scope
scoping s None a l = s
scoping s (Some v) a l = record { starts = set s.starts v a; lengths = set s.lengths v l }

unfoldable pub binding : Option ℕ → List ℤ → Env → Env
binding None xs e = e
binding (Some v) xs e = bind v xs e

-- no variable is bound at first
abbrev pub unbound : Scope
unbound = record { starts = replicate 8 0; lengths = replicate 8 0 }
