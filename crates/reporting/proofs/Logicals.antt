-- A report does not depend on the logicals and w of an admitted sheet: what it shows, and the search for
-- corrections, are made from n, d and the generators.
use mathlib.Core.Bool.{Bool}
use mathlib.Core.List.{List, ◌++◌}
use mathlib.Core.Path.{◌≡◌, ap₂, sym, ◌∙◌}
use Prim.Native.Nat.{◌-◌, ◌/◌}
use Rattle.letters.specs.declared.Letter.{Letter}
use Rattle.pauli.specs.declared.Pauli.{Pauli}
use Rattle.pauli.specs.Letters.{of_letters}
use Rattle.letters.specs.Lists.{first_of}
use Rattle.pauli.specs.Order.{strings_up_to}
use Rattle.pauli.specs.Syndrome.{syndrome}
use Rattle.code_record.specs.declared.Code.{Code}
use Rattle.code_record.specs.Record.{pair_count, logical_count, radius}
use Rattle.sheet.specs.Text.{line}
use Rattle.stabilizer.specs.Canonical.{canonical_text}
use Rattle.admission.specs.Admission.{read_sheet}
use Rattle.decoder.specs.Correction.{has_syndrome, correction}
use Rattle.decoder.specs.Syndrome.{same_bits}
use Rattle.reporting.specs.Report.{correction_value, correction_line, code_text}
use Rattle.reporting.specs.Statements.{SameCode, LogicalsAreNotReported}
use Rattle.reporting.proofs.Lists.{same_lines}
use Rattle.reporting.proofs.Report.{syndromes-are-reported}

-- What a report has of a code: its text and its corrections.
module _ (c c' : Code) (same : SameCode c c') where
  same-code-text : code_text c ≡ code_text c'
  unfolding code_text logical_count pair_count radius canonical_text
  same-code-text = cc (same.generated, same.qubits, same.rows, same.distance)

  same-correction-line : (bits : List Bool) → correction_line c bits ≡ correction_line c' bits
  unfolding correction_line correction has_syndrome radius
  same-correction-line bits =
      ap₂ (λ (gs : List Pauli) (listed : List (List Letter)).
      line "c=" (correction_value (first_of (λ t. same_bits (syndrome gs (of_letters t)) bits) listed))) same.generated
      (ap₂ (λ n d. strings_up_to n ((d - 1) / 2)) same.qubits same.distance)

pub logicals-are-not-reported : LogicalsAreNotReported
logicals-are-not-reported s s' syndromes h h' same counts few few' =
    let c = (read_sheet s).code in
    let c' = (read_sheet s').code in
    syndromes-are-reported s syndromes h counts few
    ∙ ap₂ ◌++◌ (same-code-text c c' same) (same_lines _ _ (same-correction-line c c' same) syndromes)
    ∙ sym (syndromes-are-reported s' syndromes h' (λ bits m. counts bits m ∙ same.rows) few')
