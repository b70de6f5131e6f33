-- How a Single begins, by the reader's definition.
--     binding_record b v      the record of what binds a variable v
--     binding_rest .. bs k    the two parts of a binding with record bs, behind a word of kind k
--     binding_word, binding_variable, binding_sign, binding_part     .. from the word before them on, from the
--                            variable, its sign, and from the rest of for or let; r makes the record of the variable
--     choice_rest .. bs       the three parts of if, with its record bs
--     choice_part, for_part    if, and what begins with f, behind the first byte
--     single_word             a Single, past the spaces
--     BindingComes, ChoiceComes, SidesCome     what an answer says of the definition, by case
--     BeginningIs, Begins    .. of each answer
use Rattle.std.specs.Prelude.{ℕ, ◌≤◌, ◌≡◌, List, [], ◌∷◌, ◌++◌, Bool, true, false, length, drop, Result, Ok, Err}
use Rattle.grammar.specs.Words.{Kind, symbol, word, name, dollar_sign, then_word}
use Rattle.grammar.specs.Records.{record_qf, record_qt}
use Rattle.parsing.specs.declared.Ends.{Ends}
use Rattle.parsing.specs.declared.Ends.TheVariants.{WithList, WithReturn, WithElse}
use Rattle.parsing.specs.Reader.{Res, Reader, then, entry, letters, byte, read_word, read_variable, Readers, Went, went}
use Rattle.parsing.specs.Reader.{read_sides, read_choice}
use Rattle.numerals.specs.declared.Stuck.{Stuck}
use Rattle.spelling.specs.Answers.{kind_is}
use Rattle.recording.specs.Recorded.{Adds}
use Rattle.operands.specs.Going.{Halts}
use Rattle.beginnings.specs.declared.Binder.{Binder}
use Rattle.beginnings.specs.declared.Binder.TheVariants.{For, Let}
use Rattle.beginnings.specs.declared.Beginning as beginning
use Rattle.beginnings.specs.declared.Beginning.TheVariants as beginning-is

abbrev pub binding_record : Binder → ℕ → List ℕ
binding_record For = record_qf
binding_record Let = record_qt

module _ (rd : Readers) (d : ℕ) (e : Ends) where
  abbrev pub binding_rest : List ℕ → Kind → Reader Went
  binding_rest bs k t =
      then (rd.single d WithReturn k t)
      (λ a u. then (rd.single d e word u) (λ b. went (bs ++ (a.made ++ b.made)) b.next))

  abbrev pub binding_word : List ℕ → List ℕ → Kind → Reader Went
  binding_word bs ws k t = then (entry name (letters ws) t) (λ done. binding_rest bs k)

  abbrev pub binding_variable : (ℕ → List ℕ) → List ℕ → Kind → Reader Went
  binding_variable r ws k t = then (read_variable t) (λ v. binding_word (r v) ws k)

  abbrev pub binding_sign : (ℕ → List ℕ) → List ℕ → Kind → Reader Went
  binding_sign r ws k t = then (read_word word dollar_sign t) (λ signed. binding_variable r ws k)

  abbrev pub binding_part : (ℕ → List ℕ) → List ℕ → List ℕ → Kind → Reader Went
  binding_part r cs ws k t = then (letters cs t) (λ done. binding_sign r ws k)

  abbrev pub choice_rest : List ℕ → Unit {0} → Reader Went
  choice_rest bs opened t =
      then (rd.expr d WithList symbol t)
      (λ c t₂.
      then (read_word symbol then_word t₂)
      (λ done t₃.
      then (rd.single d WithElse word t₃)
      (λ a t₄.
      then (rd.single d e word t₄)
      (λ b. went (bs ++ (c.made ++ (a.made ++ b.made))) b.next))))

  abbrev pub choice_part : Reader Went
  choice_part t = then (letters (102 ∷ []) t) (λ done. read_choice rd d e)

  abbrev pub for_part : Reader Went
  for_part =
      byte 111 (binding_part record_qf (114 ∷ []) (105 ∷ 110 ∷ []) word) (read_sides rd d e true symbol)

  abbrev pub single_word : Reader Went
  single_word =
      byte 102 for_part
      (byte 108 (binding_part record_qt (101 ∷ 116 ∷ []) (58 ∷ 61 ∷ []) symbol)
      (byte 105 choice_part (read_sides rd d e false symbol)))

pub record BindingComes (text before after : List ℕ) (made : ℕ) (rd : Readers) (d : ℕ) (e : Ends) (def : Res Went)
    (from to : ℕ) (k : Kind) : Type 0 where
  pub mark : List ℕ
  pub means : def ≡ binding_rest rd d e mark k (drop from text)
  pub inside : from ≤ length text
  pub added : Adds mark made before after to

pub record ChoiceComes (text before after : List ℕ) (made : ℕ) (rd : Readers) (d : ℕ) (e : Ends) (def : Res Went)
    (from to : ℕ) : Type 0 where
  pub mark : List ℕ
  pub means : def ≡ choice_rest rd d e mark tt (drop from text)
  pub inside : from ≤ length text
  pub added : Adds mark made before after to

pub record SidesCome (text before after : List ℕ) (rd : Readers) (d : ℕ) (e : Ends) (def : Res Went) (from : ℕ)
    (begun : Bool) : Type 0 where
  pub means : def ≡ read_sides rd d e begun symbol (drop from text)
  pub inside : from ≤ length text
  pub same : after ≡ before

unfoldable pub BeginningIs :
    (text before after : List ℕ) (made : ℕ) (rd : Readers) (d : ℕ) (e : Ends) → Res Went →
    Result beginning.Beginning Stuck → Type 0
BeginningIs text before after made rd d e def (Ok (beginning-is.Binding from to k)) =
    BindingComes text before after made rd d e def from to (kind_is k)
BeginningIs text before after made rd d e def (Ok (beginning-is.Choice from to)) =
    ChoiceComes text before after made rd d e def from to
BeginningIs text before after made rd d e def (Ok (beginning-is.Sides from begun)) =
    SidesCome text before after rd d e def from begun
BeginningIs text before after made rd d e def (Err s) = Halts text def s.0

pub record Begins (text before after : List ℕ) (made : ℕ) (rd : Readers) (d : ℕ) (e : Ends) (def : Res Went)
    (r : Result beginning.Beginning Stuck) : Type 0 where
  pub begins : BeginningIs text before after made rd d e def r
