-- What is stated of the decoder, and of admission and decoder together: the third guarantee.
use Rattle.std.specs.Prelude.{Some, Ok, Err}
use Rattle.std.specs.Result.{result_err}
use Rattle.std.specs.Prelude.{Bool, true, false, List, [], ◌∷◌, map, ◌↔◌, ◌≡◌, ℕ, ◌+◌, ◌%◌, ◌^◌, ◌≤◌, ◌<◌, length, take}
use Rattle.std.specs.Prelude.{replicate}
use Rattle.pauli.specs.declared.Pauli.{Pauli}
use Rattle.letters.specs.declared.Letter.{Letter}
use Rattle.pauli.specs.Letters.{of_letters}
use Rattle.letters.specs.Letters.{letter_byte}
use Rattle.letters.specs.Lists.{all_of}
use Rattle.pauli.specs.Order.{weight_of, Earlier}
use Rattle.pauli.specs.Product.{product, commutes, weight}
use Rattle.pauli.specs.Syndrome.{syndrome, add_bits}
use Rattle.code_record.specs.declared.Code.{Code}
use Rattle.refusals.specs.declared.ErrorPair.{ErrorPair}
use Rattle.refusals.specs.declared.Refusal.{Refusal}
use Rattle.code_record.specs.Record.{generators, radius, on_qubits, within_limits, Sized}
use Rattle.refusals.specs.Refusals.{values}
use Rattle.sheet.specs.Reader.{SheetRead}
use Rattle.sheet.specs.Statements.{RefusalLeaves, Among}
use Rattle.sheet.specs.Text.{laid, untouched}
use Rattle.stabilizer.specs.Group.{InGroupUpToPhase}
use Rattle.stabilizer.specs.Statements.{Commuting}
use Rattle.admission.specs.Admission.{AdmissibleButForDistance, admitted, read_sheet}
use Rattle.admission.specs.Statements.{FindsFirst}
use Rattle.decoder.specs.declared.Decoded.{Decoded}
use Rattle.decoder.specs.Syndrome.{syndrome_text, write_syndrome}
use Rattle.decoder.specs.Correction.{correction, decode}

-- ---- the syndrome

-- RULES, "Decoding": the Pauli's mask bits above qubit n change nothing.
abbrev pub HighBitsChangeNothing : Type 0
HighBitsChangeNothing =
    (c : Code) (P : Pauli) → within_limits c ≡ true
    → let low : Pauli = record { p = P.p; a = P.a % 2 ^ c.n; b = P.b % 2 ^ c.n } in
    syndrome (generators c) P ≡ syndrome (generators c) low

-- RULES, "Decoding": a syndrome has one bit for each generator: r bits, of a record as a machine holds it, and so of an
-- admitted sheet.
pub record SyndromesHaveRBits : Type 0 where
  pub of_record : (c : Code) (P : Pauli) → Sized c → within_limits c ≡ true
      → length (syndrome (generators c) P) ≡ c.r
  pub of_sheet : (s : List ℕ) (P : Pauli) → (read_sheet s).answer ≡ Ok tt
      → length (syndrome (generators (read_sheet s).code) P) ≡ (read_sheet s).code.r

-- RULES, "Decoding": what syndromes tell of errors. The syndrome of a product is the sum of the two, bit by bit. Where
-- rows commute, as those of an admitted sheet do, every Pauli that is in their group, phase aside, has the syndrome of
-- zeros. Two errors have one syndrome exactly where their product commutes with every row.
pub record SyndromesTellErrors : Type 0 where
  pub products : (rows : List Pauli) (P Q : Pauli)
      → syndrome rows (product P Q) ≡ add_bits (syndrome rows P) (syndrome rows Q)
  pub members : (rows : List Pauli) (P : Pauli) → Commuting rows → InGroupUpToPhase rows P
      → syndrome rows P ≡ replicate (length rows) false
  pub of_sheet : (s : List ℕ) (P : Pauli) → (read_sheet s).answer ≡ Ok tt
      → InGroupUpToPhase (generators (read_sheet s).code) P
      → syndrome (generators (read_sheet s).code) P ≡ replicate (read_sheet s).code.r false
  pub same : (rows : List Pauli) (P Q : Pauli)
      → (syndrome rows P ≡ syndrome rows Q) ↔ (all_of (commutes (product P Q)) rows ≡ true)

-- ---- the calls

-- RULES, "Calls and buffers": a refusal of either call leaves the buffer as it was, and so does the answer `none`.
pub record DecoderRefusalsLeave : Type 0 where
  pub syndromes : (c : Code) (P : Pauli) (buffer : List ℕ)
      → RefusalLeaves result_err buffer (write_syndrome c P buffer)
  pub corrections : (c : Code) (characters buffer : List ℕ)
      → RefusalLeaves result_err buffer (decode c characters buffer)
  pub missing : (c : Code) (characters buffer : List ℕ) → (decode c characters buffer).answer ≡ Ok Decoded.None
      → (decode c characters buffer).buffer ≡ buffer

-- RULES, "Calls and buffers": the numbers with which either call refuses.
pub record DecoderRefusalNumbers : Type 0 where
  pub syndromes : (c : Code) (P : Pauli) (buffer : List ℕ) (refusal : Refusal)
      → result_err (write_syndrome c P buffer).answer ≡ Some refusal → Among (15 ∷ 17 ∷ []) refusal
  pub corrections : (c : Code) (characters buffer : List ℕ) (refusal : Refusal)
      → result_err (decode c characters buffer).answer ≡ Some refusal → Among (15 ∷ 16 ∷ 17 ∷ []) refusal

-- ---- the correction is the earliest

-- The strings that the search is for: n letters, weight at most t, the given syndrome.
pub record Candidate (c : Code) (bits : List Bool) (s : List Letter) : Type 0 where
  pub letters : length s ≡ c.n
  pub light : weight_of s ≤ radius c
  pub matches : syndrome (generators c) (of_letters s) ≡ bits

-- RULES, "Decoding": the correction is the earliest of them, or there is none.
abbrev pub CorrectionIsEarliest : Type 0
CorrectionIsEarliest = (c : Code) (bits : List Bool) → FindsFirst Earlier (Candidate c bits) (correction c bits)

-- RULES, "Decoding": the correction for the syndrome of a correction is that correction.
abbrev pub CorrectionsReturn : Type 0
CorrectionsReturn =
    (c : Code) (bits : List Bool) (s : List Letter) → correction c bits ≡ Some s
    → correction c (syndrome (generators c) (of_letters s)) ≡ Some s

-- RULES, "Decoding": the same of the calls. Of the n letters that a decode call wrote, the syndrome call writes the
-- characters that were decoded; and from these, as they stand in its buffer, the decode call writes the same letters.
pub record MeasuredAgain (c : Code) (characters before : List ℕ) : Type 0 where
  pub letters : List Letter
  pub count : length letters ≡ c.n
  pub wrote : (decode c characters before).buffer ≡ laid (map letter_byte letters) before
  pub measured : (buffer : List ℕ) → c.r ≤ length buffer
      → write_syndrome c (of_letters letters) buffer
      ≡ record { answer = Ok tt; buffer = laid characters buffer }
  pub again : (first second : List ℕ) → c.r ≤ length first → c.n ≤ length second
      → decode c (take c.r (write_syndrome c (of_letters letters) first).buffer) second
      ≡ record { answer = Ok Decoded.Correction; buffer = laid (map letter_byte letters) second }

abbrev pub DecodedIsMeasuredAgain : Type 0
DecodedIsMeasuredAgain =
    (c : Code) (characters before : List ℕ) → (decode c characters before).answer ≡ Ok Decoded.Correction
    → MeasuredAgain c characters before

-- ---- the third guarantee, first half: errors are corrected

-- RULES, "Guarantees": E's syndrome has a correction, it weighs no more than E, and correction times E is in the group,
-- phase aside. The decode call given that syndrome writes the correction's letters, or refuses with 17.
pub record IsCorrected (c : Code) (E : Pauli) : Type 0 where
  pub letters : List Letter
  pub found : correction c (syndrome (generators c) E) ≡ Some letters
  pub light : weight_of letters ≤ weight E
  pub in_group : InGroupUpToPhase (generators c) (product (of_letters letters) E)
  pub written : (buffer : List ℕ) → c.n ≤ length buffer
      → decode c (syndrome_text (syndrome (generators c) E)) buffer
      ≡ record { answer = Ok Decoded.Correction; buffer = laid (map letter_byte letters) buffer }
  pub short : (buffer : List ℕ) → length buffer < c.n
      → decode c (syndrome_text (syndrome (generators c) E)) buffer
      ≡ untouched (Err Refusal.ShortBuffer) buffer

-- RULES, "Guarantees": so is, under an admitted sheet, every Pauli on the n qubits of weight at most t, with any phase.
abbrev pub ErrorsAreCorrected : Type 0
ErrorsAreCorrected =
    (s : List ℕ) → (read_sheet s).answer ≡ Ok tt → (E : Pauli) → on_qubits (read_sheet s).code.n E ≡ true
    → weight E ≤ radius (read_sheet s).code → IsCorrected (read_sheet s).code E

-- ---- the third guarantee, second half: the distance is decided

-- RULES, "Guarantees": two errors that together weigh less than d, have equal syndromes, and whose product is not
-- in the group, phase aside.
pub record Refutes (c : Code) (E F : Pauli) : Type 0 where
  pub error_e : on_qubits c.n E ≡ true
  pub error_f : on_qubits c.n F ≡ true
  pub light : weight E + weight F < c.d
  pub same_syndrome : syndrome (generators c) E ≡ syndrome (generators c) F
  pub not_in_group : InGroupUpToPhase (generators c) (product E F) → ⊥

abbrev pub Refuted : Code → Type 0
Refuted c = (E : Pauli) × (F : Pauli) × Refutes c E F

-- The sheet is refused with number 14.
abbrev pub RefusedForDistance : List ℕ → Refusal → Type 0
RefusedForDistance s refusal = (result_err (read_sheet s).answer ≡ Some refusal) × ((values refusal).number ≡ 14)

-- The refusal carries two errors that refute the distance, and names the line that w stands on.
pub record Shows (q : SheetRead) (refusal : Refusal) : Type 0 where
  pub pair : ErrorPair
  pub carried : (values refusal).errors ≡ Some pair
  pub at_claim : (values refusal).line ≡ q.claim_at
  pub qubits : pair.n ≡ q.code.n
  pub refutes : Refutes q.code pair.e pair.f

-- RULES, "Guarantees": a sheet that is admissible but for distance is refused for it exactly where two such errors
-- exist. Two such are then shown. In every other case the sheet is admitted.
pub record DistanceIsDecided : Type 0 where
  pub exactly : (s : List ℕ) (q : SheetRead) → AdmissibleButForDistance s q
      → ((refusal : Refusal) × RefusedForDistance s refusal) ↔ Refuted q.code
  pub shown : (s : List ℕ) (q : SheetRead) (refusal : Refusal) → AdmissibleButForDistance s q
      → RefusedForDistance s refusal → Shows q refusal
  pub otherwise : (s : List ℕ) (q : SheetRead) → AdmissibleButForDistance s q → (Refuted q.code → ⊥)
      → read_sheet s ≡ admitted q.code

-- RULES, "Guarantees": the third one in full.
pub record Guarantee : Type 0 where
  pub corrected : ErrorsAreCorrected
  pub decided : DistanceIsDecided
