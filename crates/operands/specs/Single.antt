-- Parts of the reader that are functions of the code: operands with none inside them.
--     number_bits minus n     the bits of a number, or of its negative
--     number_operand ..       a number
--     variable_operand        a variable behind its $
--     root_close k, root_number, root_word     parts of root
--     behind_operand ..       the word behind an operand with records xs, and the steps between
--     one_step e c xs         a step behind its /, of an operand with records xs, and the word behind it
use Rattle.std.specs.Prelude.{ℕ, List, [], ◌∷◌, ◌++◌, Bool, cond, eqb}
use Rattle.grammar.specs.Words.{Kind, symbol, word, name, close_sign}
use Rattle.grammar.specs.Records.{minus_bits, record_ql, record_qv, record_qr, record_qx}
use Rattle.parsing.specs.declared.Ends.{Ends}
use Rattle.parsing.specs.Reader.{Reader, then, halt, either, entry, letters, number, read_variable, read_word}
use Rattle.parsing.specs.Reader.{read_root, read_step, read_next, test_kind, Operand, operand, Went, went, Readers}
use Rattle.parsing.specs.Reader.{more_steps}

abbrev pub number_bits : Bool → ℕ → ℕ
number_bits minus n = cond minus (minus_bits n) n

abbrev pub number_operand : ℕ → Bool → Reader Operand
number_operand most minus t = then (number most t) (λ n. operand (record_ql (number_bits minus n)) word)

abbrev pub variable_operand : Reader Operand
variable_operand t = then (read_variable t) (λ v. operand (record_qv v) name)

abbrev pub root_close : ℕ → Reader Operand
root_close k =
    either (eqb k 0) halt
    (λ t. then (read_word word close_sign t) (λ closed. operand (record_qr k) symbol))

abbrev pub root_number : Reader Operand
root_number t = then (entry symbol (number 255) t) root_close

abbrev pub root_word : Reader Operand
root_word t = then (letters (111 ∷ 111 ∷ 116 ∷ []) t) (λ done. read_root)

abbrev pub one_step : Ends → Bool → List ℕ → Reader Went
one_step e c xs t =
    then (read_step t)
    (λ s u.
    then (read_next e c (test_kind s.test) u)
    (λ m. went (record_qx s.axis s.test ++ xs) m))

abbrev pub behind_operand : Readers → Ends → Bool → Kind → List ℕ → Reader Went
behind_operand rd e c k xs t = then (read_next e c k t) (λ n. more_steps rd e c xs n)
