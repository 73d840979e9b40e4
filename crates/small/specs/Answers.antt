-- Document 01's values of an answer: those that a refused call does not have are 0. Its number is `answer_number`; the bytes of a code are
-- `code_bytes`.
use Rattle.std.specs.Prelude.{ℕ, Result, Ok, Err}
use Rattle.refusal.specs.declared.Refusal.{Refusal}
use Rattle.small.specs.declared.Code.{Code}
use Rattle.small.specs.declared.Number.{Number}

-- WRITING: the head byte, the tail, and how many bytes of it are meant
abbrev pub code_head : Result Code Refusal → ℕ
code_head (Ok c) = c.head
code_head (Err why) = 0

abbrev pub code_tail : Result Code Refusal → ℕ
code_tail (Ok c) = c.tail
code_tail (Err why) = 0

abbrev pub code_count : Result Code Refusal → ℕ
code_count (Ok c) = c.count
code_count (Err why) = 0

-- READING: the number read, and how many bytes its code takes
abbrev pub read_value : Result Number Refusal → ℕ
read_value (Ok n) = n.x
read_value (Err why) = 0

abbrev pub read_count : Result Number Refusal → ℕ
read_count (Ok n) = n.count
read_count (Err why) = 0
