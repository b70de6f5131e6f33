-- The levels of a record's text and of its operands' (document 02, L1), as the code names them.
--     level_of l           a level of the code as a level of the grammar
--     own_of r             the level that a record's text has by itself
--     first_of r           the level that its first operand is written at; expr where it has none
--     second_of r          .. its second, and if's third; single where it has none
use Rattle.grammar.specs.Grammar.{Level, expr, single, comparison, additive, multiplicative, path, primary}
use Rattle.grammar.specs.Written.{function_level, left_level, right_level}
use Rattle.query_records.specs.declared.Record.{Record}
use Rattle.query_records.specs.declared.Record.TheVariants.{Literal, Empty, Root, Variable, Sequence, Let, For, If}
use Rattle.query_records.specs.declared.Record.TheVariants.{Apply, Count, Data, Step}
use Rattle.levels.specs.declared.Level.{Level as Code}

abbrev pub level_of : Code → Level
level_of Code.Expr = expr
level_of Code.Single = single
level_of Code.Comparison = comparison
level_of Code.Additive = additive
level_of Code.Multiplicative = multiplicative
level_of Code.Path = path
level_of Code.Primary = primary

abbrev pub own_of : Record → Level
own_of (Literal i) = primary
own_of Empty = primary
own_of (Root k) = primary
own_of (Variable v) = primary
own_of Sequence = expr
own_of (Let v) = single
own_of (For v) = single
own_of If = single
own_of (Apply f) = function_level f
own_of Count = primary
own_of Data = primary
own_of (Step x t) = path

abbrev pub first_of : Record → Level
first_of (Literal i) = expr
first_of Empty = expr
first_of (Root k) = expr
first_of (Variable v) = expr
first_of Sequence = expr
first_of (Let v) = single
first_of (For v) = single
first_of If = expr
first_of (Apply f) = left_level f
first_of Count = single
first_of Data = single
first_of (Step x t) = path

abbrev pub second_of : Record → Level
second_of (Literal i) = single
second_of Empty = single
second_of (Root k) = single
second_of (Variable v) = single
second_of Sequence = single
second_of (Let v) = single
second_of (For v) = single
second_of If = single
second_of (Apply f) = right_level f
second_of Count = single
second_of Data = single
second_of (Step x t) = single
