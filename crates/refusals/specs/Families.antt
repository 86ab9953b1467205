-- The families of rows: the key of their lines, and the byte that begins it.
use Rattle.std.specs.Prelude.{ℕ}
use Prim.Native.Char.{code}
use Prim.Native.String.{String}
use Rattle.refusals.specs.declared.Family.{Family}
use Rattle.refusals.specs.declared.Family.TheVariants.{Generator, LogicalX, LogicalZ}

-- RULES, "The sheet": the lines of generators begin with g=, those of logicals with x= and z=.
abbrev pub row_key : Family → String
row_key Generator = "g="
row_key LogicalX = "x="
row_key LogicalZ = "z="

abbrev pub key_byte : Family → ℕ
key_byte Generator = code "g"
key_byte LogicalX = code "x"
key_byte LogicalZ = code "z"
