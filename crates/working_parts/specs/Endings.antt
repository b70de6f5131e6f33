-- Items whose operand ends elsewhere (document 01, 'Query records', QI).
--     ending_at n s     the same items, their operand ending at n
use Rattle.std.specs.Prelude.{ℕ}
use Rattle.stack.specs.declared.Stood.{Stood}

-- the other branch of a choice is passed over
abbrev pub ending_at : ℕ → Stood → Stood
ending_at n s = record { length = s.length; count = s.count; next = n }
