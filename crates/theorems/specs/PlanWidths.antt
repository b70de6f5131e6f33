-- Plans whose operators fit (document 01, 'Plan operators' and 'Translation').
--     Every P xs              P holds of every member of xs
--     widths ws os            the widths of all tables when os follow tables of widths ws, or that one does not fit
--     TableWide ws t w        among tables of widths ws there is a table t, and it is w wide
--     Fits ws o w             operator o fits tables of widths ws and makes one of width w
--     EndsWide ws os us       operators os fit one after another, and leave tables of widths us
--     StepsWide ws vs os us   operators os fit after tables ws and vs, and leave us after ws
--     WellMade ws x           the operators of x fit, and its result is 3 wide
--     EnvWide ws e vs         the table of each variable of vs is 3 wide
use Rattle.std.specs.Prelude.{ℕ, ◌+◌, ◌<◌, ◌≡◌, List, [], ◌∷◌, ◌++◌, true, length, get_or}
use Rattle.laws.specs.Attempt.{Attempt, gives, attempt}
use Rattle.meaning.specs.Query.{bound}
use Rattle.meaning.specs.Plan.{Op, width_of}
use Rattle.meaning.specs.Translation.{Made, Tables}

-- what holds of every member
unfoldable pub Every : {A : Type 0} → (A → Type 0) → List A → Type 0
Every P [] = Unit
Every P (x ∷ xs) = P x × Every P xs

unfoldable pub widths : List ℕ → List Op → Attempt (List ℕ)
widths ws [] = gives ws
widths ws (o ∷ os) = attempt (width_of ws o) (λ w. widths (ws ++ (w ∷ [])) os)

pub record TableWide (ws : List ℕ) (t w : ℕ) : Type 0 where
  pub there : t < length ws
  pub is : get_or ws t 0 ≡ w

pub record Fits (ws : List ℕ) (o : Op) (w : ℕ) : Type 0 where
  pub is : width_of ws o ≡ gives w

pub record EndsWide (ws : List ℕ) (os : List Op) (us : List ℕ) : Type 0 where
  pub is : widths ws os ≡ gives us

-- the operators of a rule, once it has itself made tables of widths vs
pub record StepsWide (ws vs : List ℕ) (os : List Op) (us : List ℕ) : Type 0 where
  pub is : widths (ws ++ vs) os ≡ gives (ws ++ us)

pub record WellMade (ws : List ℕ) (x : Made) : Type 0 where
  pub after : List ℕ
  pub ends : EndsWide ws x.ops after
  pub result : TableWide after x.result 3

pub record EnvWide (ws : List ℕ) (e : Tables) (vs : List ℕ) : Type 0 where
  pub wide_at : (v : ℕ) → bound v vs ≡ true → TableWide ws (e v) 3
