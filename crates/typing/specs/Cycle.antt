-- The cycle of the reader, as the code has it.
--     level_of c                  how tightly the operators of a chain bind
--     ended_read r                a part as an operand: what ends it is a parenthesis
--     inner_expr, inner_single     a list, a Single inside another part
--     two_parts, three_parts       the parts of a binding, of if, behind its record
--     operand_of                  an operand, of which the f of `false` is taken or not
--     side_of c                   a side of a chain's operator
--     again_of c                  the readers of shorter texts, for the chain behind a turn
--     one_turn c xs n             one turn behind records xs, at operator n
--     more_of c, whole_of c        a chain behind its first side; a whole chain
use Rattle.std.specs.Prelude.{ℕ, List, ◌++◌, Bool, false, Result, Ok, Err}
use Rattle.grammar.specs.Words.{Kind, symbol, word, then_word}
use Rattle.parsing.specs.declared.Ends.{Ends}
use Rattle.parsing.specs.declared.Ends.TheVariants.{WithList, WithElse}
use Rattle.parsing.specs.declared.Next.{Next}
use Rattle.parsing.specs.Reader.{Reader, then, either, entry, read_word, Readers, Operand, Went, went, operation}
use Rattle.parsing.specs.Reader.{kind_of, turn}
use Rattle.parsing.specs.Reader.{read_false, read_primary, read_path, read_product, read_sum, read_single}
use Rattle.numerals.specs.declared.Stuck.{Stuck}
use Rattle.spelling.specs.declared.Before.{Before}
use Rattle.spelling.specs.declared.Before.TheVariants.{Symbol}
use Rattle.operands.specs.declared.Part.{Part}
use Rattle.typing.specs.declared.Chain.{Chain}
use Rattle.typing.specs.declared.Chain.TheVariants.{Items, Sides, Terms, Factors}

abbrev pub level_of : Chain → ℕ
level_of Items = 0
level_of Sides = 1
level_of Terms = 2
level_of Factors = 3

abbrev pub ended_read : Result (Part Next) Stuck → Result (Part Before) Stuck
ended_read (Ok p) = Ok (record { behind = Symbol; next = p.next; made = p.made })
ended_read (Err s) = Err s

module _ (rd : Readers) (d : ℕ) where
  abbrev pub inner_expr : Reader Went
  inner_expr = rd.expr d WithList symbol

  abbrev pub inner_single : Ends → Kind → Reader Went
  inner_single e k = rd.single d e k

  abbrev pub two_parts : Ends → Kind → Ends → Reader Went
  two_parts f k e t =
      then (rd.single d f k t) (λ a u. then (rd.single d e word u) (λ b. went (a.made ++ b.made) b.next))

  abbrev pub three_parts : Ends → Reader Went
  three_parts e t =
      then (rd.expr d WithList symbol t)
      (λ c u.
      then (read_word symbol then_word u)
      (λ done v. then (two_parts WithElse word e v) (λ w. went (c.made ++ w.made) w.next)))

  abbrev pub operand_of : Bool → Kind → Reader Operand
  operand_of begun k = either begun read_false (entry k (read_primary rd d))

abbrev pub side_of : Chain → Readers → ℕ → Ends → Bool → Bool → Kind → Reader Went
side_of Items rd d e c begun k = read_single rd d e k
side_of Sides rd d e c begun k = read_sum rd d e c begun k
side_of Terms rd d e c begun k = read_product rd d e c begun k
side_of Factors rd d e c begun k = read_path rd d e c begun k

abbrev pub again_of : Chain → Readers → ℕ → Ends → Bool → List ℕ → Next → Reader Went
again_of Items rd d e c = rd.items d e
again_of Sides rd d e c = went
again_of Terms rd d e c = rd.terms d e c
again_of Factors rd d e c = rd.factors d e c

module _ (ch : Chain) (rd : Readers) (d : ℕ) (e : Ends) (c : Bool) where
  abbrev pub one_turn : List ℕ → Next → Reader Went
  one_turn xs n t =
      then (side_of ch rd d e c false (kind_of n) t) (λ w. went (operation n ++ (xs ++ w.made)) w.next)

  abbrev pub more_of : List ℕ → Next → Reader Went
  more_of = turn (level_of ch) (side_of ch rd d e c false) (again_of ch rd d e c)

  abbrev pub whole_of : Bool → Kind → Reader Went
  whole_of begun k t = then (side_of ch rd d e c begun k t) (λ w. more_of w.made w.next)
