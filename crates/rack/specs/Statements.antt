-- What is stated of the calls for programs in C: what they leave in a buffer, and the third guarantee.
use Rattle.std.specs.Prelude.{Some, Result, true, List, map, ◌≡◌, ℕ, ◌≤◌, ◌<◌, length}
use Rattle.letters.specs.declared.Letter.{Letter}
use Rattle.letters.specs.Letters.{letter_byte}
use Rattle.pauli.specs.declared.Pauli.{Pauli}
use Rattle.pauli.specs.Letters.{of_letters}
use Rattle.pauli.specs.Order.{weight_of}
use Rattle.pauli.specs.Product.{product, weight}
use Rattle.pauli.specs.Syndrome.{syndrome, syndrome_mask}
use Rattle.code_record.specs.declared.Code.{Code}
use Rattle.code_record.specs.Record.{generators, radius, on_qubits}
use Rattle.refusals.specs.declared.Refusal.{Refusal}
use Rattle.sheet.specs.Reader.{SheetRead}
use Rattle.sheet.specs.Text.{After, laid, untouched}
use Rattle.stabilizer.specs.Group.{InGroupUpToPhase}
use Rattle.admission.specs.Admission.{AdmissibleButForDistance}
use Rattle.decoder.specs.Correction.{correction}
use Rattle.decoder.specs.Statements.{Refutes, Refuted}
use Rattle.decoder.specs.Syndrome.{syndrome_text}
use Rattle.reporting.specs.Statements.{GuaranteedReport}
use Rattle.rack_answers.specs.declared.Answer.{Answer}
use Rattle.rack_answers.specs.Answers.{done, refused_answer, written_answer}
use Rattle.rack.specs.Calls.{read_call, sheet_call, canonical_call, syndrome_call, decode_call, correct_call}
use Rattle.rack.specs.Calls.{in_numbers, report_call}

-- ---- what a call leaves

-- RULES, "The library": only number 0 tells of bytes. With any other the buffer is what it was, and no byte is counted.
abbrev pub OnlyDoneWrites : List ℕ → After Answer → Type 0
OnlyDoneWrites buffer after =
    (after.answer.number ≡ 0 → ⊥) → (after.buffer ≡ buffer) × (after.answer.count ≡ 0)

-- RULES, "The library": so it is in every call that is lent a buffer.
pub record CallsLeave : Type 0 where
  pub sheets : (c : Code) (buffer : List ℕ) → OnlyDoneWrites buffer (sheet_call c buffer)
  pub canonicals : (c : Code) (buffer : List ℕ) → OnlyDoneWrites buffer (canonical_call c buffer)
  pub syndromes : (c : Code) (P : Pauli) (buffer : List ℕ) → OnlyDoneWrites buffer (syndrome_call c P buffer)
  pub corrections : (c : Code) (characters buffer : List ℕ) → OnlyDoneWrites buffer (decode_call c characters buffer)
  pub reports : (input buffer : List ℕ) → OnlyDoneWrites buffer (report_call input buffer)

-- ---- the third guarantee

-- RULES, "Guarantees": a sheet that was read with number 0, and an error on its qubits of weight at most t, with any
-- phase.
pub record Struck (s : List ℕ) (E : Pauli) : Type 0 where
  pub is_done : (read_call s).answer.number ≡ 0
  pub on_code : on_qubits (read_call s).code.n E ≡ true
  pub light : weight E ≤ radius (read_call s).code

-- RULES, "Guarantees": the n letters of the correction for E's syndrome weigh no more than E, and times E they are in
-- the group, phase aside. The syndrome call writes the characters of E's syndrome, the decode call these letters; and
-- by value the correction is the same.
pub record CorrectsInC (c : Code) (E : Pauli) : Type 0 where
  pub letters : List Letter
  pub count : length letters ≡ c.n
  pub found : correction c (syndrome (generators c) E) ≡ Some letters
  pub light : weight_of letters ≤ weight E
  pub in_group : InGroupUpToPhase (generators c) (product (of_letters letters) E)
  pub measured : (buffer : List ℕ) → c.r ≤ length buffer
      → syndrome_call c E buffer
      ≡ record { answer = done c.r; buffer = laid (syndrome_text (syndrome (generators c) E)) buffer }
  pub decoded : (buffer : List ℕ) → c.n ≤ length buffer
      → decode_call c (syndrome_text (syndrome (generators c) E)) buffer
      ≡ record { answer = done c.n; buffer = laid (map letter_byte letters) buffer }
  pub short : (buffer : List ℕ) → length buffer < c.n
      → decode_call c (syndrome_text (syndrome (generators c) E)) buffer
      ≡ untouched (refused_answer Refusal.ShortBuffer) buffer
  pub by_value : correct_call c (syndrome_mask (generators c) E)
      ≡ record { answer = done 0; correction = of_letters letters }

-- RULES, "Guarantees": two errors that refute the distance of a sheet, which is admissible but for it.
pub record RefutedInC (s : List ℕ) : Type 0 where
  pub read : SheetRead
  pub admissible : AdmissibleButForDistance s read
  pub at_claim : (read_call s).answer.line ≡ read.claim_at
  pub qubits : (read_call s).errors.n ≡ read.code.n
  pub refutes : Refutes read.code (read_call s).errors.e (read_call s).errors.f

-- RULES, "Guarantees": the third one holds of a report, and that report is what the call answers and writes.
pub record ReportedInC (input buffer : List ℕ) : Type 0 where
  pub after : After (Result ℕ Refusal)
  pub guaranteed : GuaranteedReport input buffer after
  pub told : report_call input buffer ≡ in_numbers written_answer after

-- RULES, "Guarantees": the third one. Errors are corrected, in reports too; number 14 has two errors beside it that
-- refute the distance. A sheet that is admissible but for distance has number 14 where two such errors exist, and else
-- number 0.
pub record GuaranteeInC : Type 0 where
  pub corrected : (s : List ℕ) (E : Pauli) → Struck s E → CorrectsInC (read_call s).code E
  pub reported : (input buffer : List ℕ) → ReportedInC input buffer
  pub shown : (s : List ℕ) → (read_call s).answer.number ≡ 14 → RefutedInC s
  pub refused : (s : List ℕ) (q : SheetRead) → AdmissibleButForDistance s q → Refuted q.code
      → (read_call s).answer.number ≡ 14
  pub otherwise : (s : List ℕ) (q : SheetRead) → AdmissibleButForDistance s q → (Refuted q.code → ⊥)
      → ((read_call s).answer.number ≡ 0) × ((read_call s).code ≡ q.code)
