-- The line of one correction, and the call for it.
use Rattle.std.specs.Prelude.{Option, Some, None, Result, List, ℕ}
use Prim.Native.Char.{code}
use Rattle.pauli.specs.declared.Pauli.{Pauli}
use Rattle.letters.specs.Lists.{bytes}
use Rattle.refusals.specs.declared.Refusal.{Refusal}
use Rattle.sheet.specs.Text.{After, written}
use Rattle.code_record.specs.Record.{qubit_fault}
use Rattle.row_writer.specs.Lines.{letters_line_text}

-- RULES, "The report": a `c=` line has the n letters of the correction, or `none`.
unfoldable pub correction_text : ℕ → Option Pauli → List ℕ
correction_text n None = bytes "c=none\n"
correction_text n (Some P) = letters_line_text (code "c") n P

-- RULES, "Calls and buffers": 15, where there are letters and n is not 2 to 24.
unfoldable pub correction_fault : ℕ → Option Pauli → Option Refusal
correction_fault n None = None
correction_fault n (Some P) = qubit_fault n

-- RULES, "Calls and buffers": the line by itself, with 15 before 17.
unfoldable pub write_correction : ℕ → Option Pauli → List ℕ → After (Result ℕ Refusal)
write_correction n correction buffer = written (correction_fault n correction) (correction_text n correction) buffer
