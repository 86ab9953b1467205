-- The third guarantee from a sheet's bytes to the letters of a correction, over the answers and buffers of the calls.
use Rattle.std.specs.Prelude.{Some, Result, Ok, Err}
use Rattle.std.specs.Prelude.{true, List, map, ◌≡◌, ℕ, ◌≤◌, ◌<◌, length, take}
use Rattle.letters.specs.declared.Letter.{Letter}
use Rattle.letters.specs.Letters.{letter_byte}
use Rattle.pauli.specs.declared.Pauli.{Pauli}
use Rattle.pauli.specs.Letters.{of_letters}
use Rattle.pauli.specs.Order.{weight_of}
use Rattle.pauli.specs.Product.{product, weight}
use Rattle.pauli.specs.Syndrome.{syndrome}
use Rattle.code_record.specs.declared.Code.{Code}
use Rattle.refusals.specs.declared.ErrorPair.{ErrorPair}
use Rattle.refusals.specs.declared.Refusal.{Refusal}
use Rattle.code_record.specs.Record.{generators, radius, on_qubits}
use Rattle.sheet.specs.Reader.{SheetRead}
use Rattle.sheet.specs.Text.{After, laid, untouched}
use Rattle.stabilizer.specs.Group.{InGroupUpToPhase}
use Rattle.admission.specs.declared.Reading.{Reading}
use Rattle.admission.specs.Admission.{AdmissibleButForDistance, admitted, refused_reading, read_sheet}
use Rattle.decoder.specs.declared.Decoded.{Decoded}
use Rattle.decoder.specs.Correction.{correction, decode}
use Rattle.decoder.specs.Statements.{Refutes, Refuted}
use Rattle.decoder.specs.Syndrome.{syndrome_text, write_syndrome}

-- ---- a cycle of the calls

-- RULES, "Calls and buffers": what three calls answer, one after the other. A sheet is read; the syndrome of an error
-- is written into a first buffer; the r characters that stand there are decoded into a second.
pub record Cycle : Type 0 where
  pub reading : Reading
  pub measured : After (Result Unit Refusal)
  pub decoded : After (Result Decoded Refusal)

unfoldable pub cycle : List ℕ → Pauli → List ℕ → List ℕ → Cycle
cycle s E first second =
    let reading = read_sheet s in
    let measured = write_syndrome reading.code E first in
    let characters = take reading.code.r measured.buffer in
    record { reading = reading; measured = measured; decoded = decode reading.code characters second }

-- ---- errors are corrected

-- RULES, "Guarantees": an admitted sheet, and an error on its qubits of weight at most t, with any phase.
pub record Correctable (s : List ℕ) (E : Pauli) : Type 0 where
  pub is_admitted : (read_sheet s).answer ≡ Ok tt
  pub on_code : on_qubits (read_sheet s).code.n E ≡ true
  pub light : weight E ≤ radius (read_sheet s).code

-- RULES, "Guarantees": a decode call that ends with a correction of E. The buffer begins with n letters, and the bytes
-- behind them are as they were. The letters are the correction for E's syndrome. They weigh no more than E, and letters
-- times E are in the group, phase aside.
pub record Corrects (c : Code) (E : Pauli) (before : List ℕ) (after : After (Result Decoded Refusal)) : Type 0 where
  pub answered : after.answer ≡ Ok Decoded.Correction
  pub letters : List Letter
  pub count : length letters ≡ c.n
  pub written : after.buffer ≡ laid (map letter_byte letters) before
  pub found : correction c (syndrome (generators c) E) ≡ Some letters
  pub light : weight_of letters ≤ weight E
  pub in_group : InGroupUpToPhase (generators c) (product (of_letters letters) E)

-- RULES, "Guarantees": the first half of the third one, of what the last call of a cycle left. An error on at most t
-- qubits is corrected. Where the buffer has no room the call refuses with 17, and it never answers `none`.
pub record Guaranteed (s : List ℕ) (E : Pauli) (before : List ℕ) (after : After (Result Decoded Refusal)) : Type 0 where
  pub corrected : Correctable s E → (read_sheet s).code.n ≤ length before → Corrects (read_sheet s).code E before after
  pub short : Correctable s E → length before < (read_sheet s).code.n
      → after ≡ untouched (Err Refusal.ShortBuffer) before
  pub never : Correctable s E → after.answer ≡ Ok Decoded.None → ⊥

-- ---- the distance is decided

-- RULES, "Guarantees": a sheet that is admissible but for distance, the line of its w, and two errors that refute its
-- distance.
pub record RefutedSheet (s : List ℕ) (at : ℕ) (pair : ErrorPair) : Type 0 where
  pub read : SheetRead
  pub admissible : AdmissibleButForDistance s read
  pub at_claim : at ≡ read.claim_at
  pub qubits : pair.n ≡ read.code.n
  pub refutes : Refutes read.code pair.e pair.f

-- ---- the guarantee

-- RULES, "Guarantees": the third one, of what the calls answer.
pub record EndToEnd : Type 0 where
  -- Where the first buffer has room for it, the syndrome of such an error is written, and the characters that stand
  -- there are decoded to its correction.
  pub measured : (s : List ℕ) (E : Pauli) (first second : List ℕ) → Correctable s E
      → (read_sheet s).code.r ≤ length first
      → (cycle s E first second).measured
      ≡ record {
        answer = Ok tt;
        buffer = laid (syndrome_text (syndrome (generators (read_sheet s).code) E)) first;
      }
  pub decoded : (s : List ℕ) (E : Pauli) (first second : List ℕ) → (read_sheet s).code.r ≤ length first
      → Guaranteed s E second (cycle s E first second).decoded
  -- Refusal 14, of whatever sheet, shows two errors that refute it. A sheet that is admissible but for distance is
  -- refused so where two such errors exist, and else admitted.
  pub shown : (s : List ℕ) (at : ℕ) (pair : ErrorPair)
      → (read_sheet s).answer ≡ Err (Refusal.DistanceRefuted at pair) → RefutedSheet s at pair
  pub refused : (s : List ℕ) (q : SheetRead) → AdmissibleButForDistance s q → Refuted q.code
      → (pair : ErrorPair) × (read_sheet s ≡ refused_reading (Refusal.DistanceRefuted q.claim_at pair))
  pub otherwise : (s : List ℕ) (q : SheetRead) → AdmissibleButForDistance s q → (Refuted q.code → ⊥)
      → read_sheet s ≡ admitted q.code
