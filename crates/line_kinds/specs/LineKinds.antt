-- Which kind of line stands at a place.
use Rattle.std.specs.Prelude.{Option, Some, None}
use Rattle.std.specs.Prelude.{cond, List, [], ◌∷◌, ℕ, eqb, get_or}
use Prim.Native.Char.{code}
use Rattle.letters.specs.Lists.{read_byte}
use Rattle.line_kinds.specs.declared.LineKind.{LineKind}
use Rattle.line_kinds.specs.declared.LineKind.TheVariants.{Qubits, Distance, Generator, LogicalX, LogicalZ}
use Rattle.line_kinds.specs.declared.LineKind.TheVariants.{Claim, Syndrome, Other}

-- RULES, "The sheet" and "The report": each kind of line has its key. Its byte; a line of another kind has none.
abbrev pub kind_byte : LineKind → ℕ
kind_byte Qubits = code "n"
kind_byte Distance = code "d"
kind_byte Generator = code "g"
kind_byte LogicalX = code "x"
kind_byte LogicalZ = code "z"
kind_byte Claim = code "w"
kind_byte Syndrome = code "s"
kind_byte Other = 0

-- The key itself.
abbrev pub kind_key : LineKind → List ℕ
kind_key kind = kind_byte kind ∷ code "=" ∷ []

abbrev pub or_other : Option LineKind → LineKind
or_other None = Other
or_other (Some kind) = kind

-- The kind that has this byte as its key.
abbrev pub kinds : List LineKind
kinds = Qubits ∷ Distance ∷ Generator ∷ LogicalX ∷ LogicalZ ∷ Claim ∷ Syndrome ∷ []

unfoldable pub kind_of : ℕ → LineKind
kind_of c = or_other (read_byte kind_byte kinds c)

-- RULES, "The sheet": a line is a key, `=`, a value and a line feed.
unfoldable pub line_kind : List ℕ → LineKind
line_kind s = cond (eqb (get_or s 1 0) (code "=")) (kind_of (get_or s 0 0)) Other
