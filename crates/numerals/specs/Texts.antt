-- Bytes, spaces and words of a text, over what is left of it.
--     drop_spaces t         what is left behind the spaces
--     after w t            what is left behind the bytes w; stuck at the first byte that differs
--     Differs w t u        t is the bytes `same` of the word w, then u; u does not open with the byte that w has next
--     Looks text at b      b is the byte at an offset, with what is left there; 256 at the end
use Rattle.std.specs.Prelude.{ℕ, ◌+◌, ◌≤◌, ◌<◌, ◌≡◌, List, [], ◌∷◌, ◌++◌, cond, eqb, length, drop}
use Rattle.laws.specs.Characters.{is_space, first}
use Rattle.numerals.specs.Numerals.{Res, is, stuck}

unfoldable pub drop_spaces : List ℕ → List ℕ
drop_spaces [] = []
drop_spaces (b ∷ t) = cond (is_space b) (drop_spaces t) (b ∷ t)

unfoldable pub after : List ℕ → List ℕ → Res (Unit {0})
after [] t = is tt t
after (w ∷ ws) [] = stuck []
after (w ∷ ws) (b ∷ t) = cond (eqb b w) (after ws t) (stuck (b ∷ t))

pub record Differs (w t u : List ℕ) : Type 0 where
  pub same : List ℕ
  pub wanted : ℕ
  pub unread : List ℕ
  pub word : w ≡ same ++ (wanted ∷ unread)
  pub whole : t ≡ same ++ u
  pub differs : (v : List ℕ) → u ≡ wanted ∷ v → ⊥

pub record Looks (text : List ℕ) (at b : ℕ) : Type 0 where
  pub reads : b ≡ first (drop at text)
  pub few : b ≤ 256
  pub there : b < 256 → (at < length text) × (drop at text ≡ b ∷ drop (at + 1) text)
  pub ended : 256 ≤ b → (length text ≤ at) × (drop at text ≡ [])
