-- The line of a correction case by case, its length, and what the call answers where it has room.
use Rattle.std.specs.Prelude.{Option, Some, None, Ok}
use mathlib.Core.List.{List}
use mathlib.Core.Path.{◌≡◌, refl, ap, sym}
use Prim.Native.Nat.{ℕ, ◌+◌, ◌≤◌}
use native.Mathlib.Omega.{arith}
use lib.ListN.{length}
use Rattle.letters.specs.Lists.{bytes}
use Rattle.pauli.specs.declared.Pauli.{Pauli}
use Rattle.code_record.specs.Record.{most_qubits}
use Rattle.sheet.specs.Text.{laid, written}
use Rattle.sheet.proofs.WrittenText.{written-whole}
use Rattle.row_writer.specs.Lines.{write_letters}
use Rattle.row_writer.proofs.Lines.{length-letters_line_text, qubits-within}
use Rattle.correction_writer.specs.Lines.{correction_text, correction_fault, write_correction}

module _ (n : ℕ) {correction : Option Pauli} (buffer : List ℕ) where
  pub found-written : (P : Pauli) → correction ≡ Some P
      → write_letters 99 n P buffer ≡ write_correction n correction buffer
  unfolding write_letters write_correction correction_text correction_fault
  found-written P e = ap (λ (k : Option Pauli). write_correction n k buffer) (sym e)

  pub none_written : correction ≡ None
      → written None (bytes "c=none\n") buffer ≡ write_correction n correction buffer
  unfolding write_correction correction_text correction_fault
  none_written e = ap (λ (k : Option Pauli). write_correction n k buffer) (sym e)

-- ---- lengths

pub length_none : (n : ℕ) → length (correction_text n None) ≡ 7
unfolding correction_text bytes
length_none n = refl

pub length_found : (n : ℕ) (P : Pauli) → length (correction_text n (Some P)) ≡ n + 3
unfolding correction_text
length_found n P = length-letters_line_text 99 n P

module _ (n : ℕ) (low : 2 ≤ n) (high : n ≤ most_qubits) where
  -- No line is longer than one with 24 letters.
  pub length-few : (correction : Option Pauli) → length (correction_text n correction) ≤ 27
  length-few None = omega (arith, length_none n)
  length-few (Some P) = omega (arith, length_found n P)

  no-fault : (correction : Option Pauli) → correction_fault n correction ≡ None
  unfolding correction_fault
  no-fault None = refl
  no-fault (Some P) = qubits-within n low high

  -- What a caller with room is answered.
  pub correction-has-room : (correction : Option Pauli) (buffer : List ℕ)
      → length (correction_text n correction) ≤ length buffer → write_correction n correction buffer
      ≡ record {
        answer = Ok (length (correction_text n correction));
        buffer = laid (correction_text n correction) buffer;
      }
  unfolding write_correction
  correction-has-room correction buffer = written-whole _ _ (no-fault correction)
