-- Syndromes: bits, characters, and the syndrome call.
use Rattle.std.specs.Prelude.{Option, None, Result, Ok, Err}
use Rattle.std.specs.Option.{is_none}
use Rattle.std.specs.Prelude.{Bool, true, false, cond, List, [], ◌∷◌, map, ℕ, eqb, length}
use Rattle.std.specs.Bool.{beq}
use Rattle.std.specs.Cmp.Lexicographic.{pointwise}
use Prim.Native.Char.{code}
use Rattle.pauli.specs.declared.Pauli.{Pauli}
use Rattle.letters.specs.Lists.{read_byte}
use Rattle.pauli.specs.Syndrome.{syndrome}
use Rattle.code_record.specs.declared.Code.{Code}
use Rattle.refusals.specs.declared.Refusal.{Refusal}
use Rattle.code_record.specs.Record.{generators, limits_fault}
use Rattle.refusals.specs.Refusals.{refuse_if, ◌then◌}
use Rattle.sheet.specs.Reader.{read_each}
use Rattle.sheet.specs.Text.{After, laid, guarded, room_fault}

abbrev pub same_bits : List Bool → List Bool → Bool
same_bits = pointwise beq

-- A bit as a character 0 or 1.
unfoldable pub bit_byte : Bool → ℕ
bit_byte false = code "0"
bit_byte true = code "1"

unfoldable pub read_bit : ℕ → Option Bool
read_bit = read_byte bit_byte (false ∷ true ∷ [])

unfoldable pub syndrome_text : List Bool → List ℕ
syndrome_text bits = map bit_byte bits

-- RULES, "Decoding": a syndrome as text is exactly r characters 0 or 1.
unfoldable pub read_syndrome : ℕ → List ℕ → Option (List Bool)
read_syndrome r cs = cond (eqb (length cs) r) (read_each read_bit cs) None

-- RULES, "Refusals": 16 of a syndrome that stands alone names line 0.
unfoldable pub syndrome_fault : ℕ → List ℕ → Option Refusal
syndrome_fault r cs = refuse_if (is_none (read_syndrome r cs)) (Refusal.Syndrome 0)

-- RULES, "Calls and buffers": the syndrome call checks 15, then 17, and writes r characters.
unfoldable pub write_syndrome : Code → Pauli → List ℕ → After (Result Unit Refusal)
write_syndrome c P buffer =
    guarded Err (limits_fault c then room_fault c.r buffer) buffer
    (record { answer = Ok tt; buffer = laid (syndrome_text (syndrome (generators c) P)) buffer })
