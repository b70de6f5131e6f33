-- How far a function came that reads a part of a text and adds its records to the array.
--     Goes text made def value keeps at to
--                            the definition reads what `value` makes of some record bytes, up to offset `at`; there
--                            are `to` bytes in the array then, and it keeps what `keeps` says of the record bytes
--     Halts text def p       the definition is stuck at offset p
--     Adding                 the array holds the record bytes behind what it held
--     Putting                .. in the place of the bytes ys, which were behind what it held
--     operand_value, part_value     an operand, a part, by their record bytes
--     PartIs value ..        an answer is how far the definition goes, whose value is made of what stands behind
--     PartGoes value ..      .. by name
--     counted_read n to       the word behind a part, with how many record bytes there are
--     ReadsOperand, ReadsPart     .. where the record bytes are added
--     FollowsPart            .. where they are in the place of ys
use Rattle.std.specs.Prelude.{ℕ, ◌≤◌, min, ◌≡◌, List, ◌++◌, length, drop, Result, Ok, Err}
use Rattle.numerals.specs.declared.Read.{Read}
use Rattle.numerals.specs.declared.Stuck.{Stuck}
use Rattle.parsing.specs.declared.Next.{Next}
use Rattle.parsing.specs.Reader.{Res, ok, stuck, Operand, Went}
use Rattle.spelling.specs.declared.Before.{Before}
use Rattle.spelling.specs.Answers.{kind_is}
use Rattle.recording.specs.Recorded.{most_bytes, Recorded}
use Rattle.operands.specs.declared.Part.{Part}

pub record Goes {A : Type 0} (text : List ℕ) (made : ℕ) (def : Res A) (value : List ℕ → A) (keeps : List ℕ → Type 0)
    (at to : ℕ) : Type 0 where
  pub bytes : List ℕ
  pub means : def ≡ ok (value bytes) (drop at text)
  pub inside : at ≤ length text
  pub grows : made ≤ to
  pub within : to ≤ most_bytes
  pub kept : keeps bytes

pub record Halts {A : Type 0} (text : List ℕ) (def : Res A) (place : ℕ) : Type 0 where
  pub means : def ≡ stuck (drop place text)
  pub inside : place ≤ length text

pub record Adding (before after : List ℕ) (made to : ℕ) (bytes : List ℕ) : Type 0 where
  pub adds : (xs : List ℕ) → Recorded xs before made → Recorded (xs ++ bytes) after to

pub record Putting (before after : List ℕ) (start made : ℕ) (ys : List ℕ) (to : ℕ) (bytes : List ℕ) : Type 0 where
  pub puts :
      (xs : List ℕ) → start ≡ min (length xs) most_bytes → Recorded (xs ++ ys) before made →
      Recorded (xs ++ bytes) after to

abbrev pub operand_value : Before → List ℕ → Operand
operand_value k bs = record { made = bs; kind = kind_is k }

abbrev pub part_value : Next → List ℕ → Went
part_value n bs = record { made = bs; next = n }

module _ {A B : Type 0} where
  unfoldable pub PartIs : (A → List ℕ → B) → List ℕ → ℕ → Res B → (ℕ → List ℕ → Type 0) → Result (Part A) Stuck → Type 0
  PartIs value text made def keeps (Ok p) = Goes text made def (value p.behind) (keeps p.made) p.next p.made
  PartIs value text made def keeps (Err s) = Halts text def s.0

  pub record PartGoes (value : A → List ℕ → B) (text : List ℕ) (made : ℕ) (def : Res B) (keeps : ℕ → List ℕ → Type 0)
      (r : Result (Part A) Stuck) : Type 0 where
    pub goes : PartIs value text made def keeps r

abbrev pub counted_read : Result (Read Next) Stuck → ℕ → Result (Part Next) Stuck
counted_read (Ok r) to = Ok (record { behind = r.what; next = r.next; made = to })
counted_read (Err s) to = Err s

abbrev pub ReadsOperand :
    (text before after : List ℕ) (made : ℕ) → Res Operand → Result (Part Before) Stuck → Type 0
ReadsOperand text before after made def r = PartGoes operand_value text made def (Adding before after made) r

abbrev pub ReadsPart : (text before after : List ℕ) (made : ℕ) → Res Went → Result (Part Next) Stuck → Type 0
ReadsPart text before after made def r = PartGoes part_value text made def (Adding before after made) r

abbrev pub FollowsPart :
    (text before after : List ℕ) (start made : ℕ) → List ℕ → Res Went → Result (Part Next) Stuck → Type 0
FollowsPart text before after start made ys def r =
    PartGoes part_value text made def (Putting before after start made ys) r
