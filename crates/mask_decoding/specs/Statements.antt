-- What is stated of the decode call by value.
use Rattle.std.specs.Prelude.{Some, Ok, Bool, List, [], ◌∷◌, ◌≡◌, ℕ, ◌^◌, ◌≤◌, ◌<◌, length}
use Rattle.std.specs.Result.{result_err}
use Rattle.letters.specs.declared.Letter.{Letter}
use Rattle.pauli.specs.declared.Pauli.{Pauli}
use Rattle.pauli.specs.Letters.{of_letters}
use Rattle.pauli.specs.Order.{weight_of}
use Rattle.pauli.specs.Product.{product, weight}
use Rattle.pauli.specs.Syndrome.{syndrome, mask_of_bits, syndrome_mask}
use Rattle.code_record.specs.declared.Code.{Code}
use Rattle.code_record.specs.Record.{generators}
use Rattle.refusals.specs.declared.Refusal.{Refusal}
use Rattle.sheet.specs.Statements.{Among}
use Rattle.stabilizer.specs.Group.{InGroupUpToPhase}
use Rattle.admission.specs.Admission.{read_sheet}
use Rattle.decoder.specs.Correction.{correction}
use Rattle.decoder.specs.EndToEnd.{Correctable}
use Rattle.mask_decoding.specs.Masks.{bits_of_mask, decode_mask}

-- RULES, "Calls and buffers": a syndrome of r bits and a mask below 2^r tell each other.
pub record MasksTellBits : Type 0 where
  pub of_bits : (bits : List Bool) → bits_of_mask (length bits) (mask_of_bits bits) ≡ bits
  pub of_mask : (r mask : ℕ) → mask < 2 ^ r → mask_of_bits (bits_of_mask r mask) ≡ mask

-- RULES, "Guarantees": a decode call by value that ends with a correction of E: the correction for E's syndrome. It
-- weighs no more than E, and times E it is in the group, phase aside.
pub record CorrectsByValue (c : Code) (E : Pauli) : Type 0 where
  pub letters : List Letter
  pub found : correction c (syndrome (generators c) E) ≡ Some letters
  pub answered : decode_mask c (syndrome_mask (generators c) E) ≡ Ok (Some (of_letters letters))
  pub light : weight_of letters ≤ weight E
  pub in_group : InGroupUpToPhase (generators c) (product (of_letters letters) E)

-- RULES, "Guarantees": the first half of the third one, of the call by value.
abbrev pub CorrectedByValue : Type 0
CorrectedByValue = (s : List ℕ) (E : Pauli) → Correctable s E → CorrectsByValue (read_sheet s).code E

-- RULES, "Calls and buffers": the numbers with which the call refuses.
abbrev pub MaskRefusalNumbers : Type 0
MaskRefusalNumbers =
    (c : Code) (mask : ℕ) (refusal : Refusal) → result_err (decode_mask c mask) ≡ Some refusal
    → Among (15 ∷ 16 ∷ []) refusal
