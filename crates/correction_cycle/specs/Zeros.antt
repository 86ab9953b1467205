-- The buffer that a cycle has a syndrome written into: a character 0 for each generator that a record has room for.
use Rattle.std.specs.Prelude.{List, ℕ, replicate}
use Prim.Native.Char.{code}
use Rattle.code_record.specs.Record.{row_room}

unfoldable pub zeros : List ℕ
zeros = replicate row_room (code "0")
