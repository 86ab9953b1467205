-- The decode call by value.
use Rattle.std.specs.Prelude.{Option, Some, None, Result, Ok, Err}
use Rattle.std.specs.Prelude.{Bool, List, [], ◌∷◌, ℕ, zero, suc, ◌/◌, ◌%◌, ◌^◌, eqb, leb}
use Rattle.pauli.specs.declared.Pauli.{Pauli}
use Rattle.letters.specs.declared.Letter.{Letter}
use Rattle.pauli.specs.Letters.{of_letters}
use Rattle.code_record.specs.declared.Code.{Code}
use Rattle.code_record.specs.Record.{limits_fault}
use Rattle.refusals.specs.declared.Refusal.{Refusal}
use Rattle.refusals.specs.Refusals.{refuse_if, ◌then◌}
use Rattle.decoder.specs.Correction.{correction}

-- The r lowest bits of a mask, the lowest first.
unfoldable pub bits_of_mask : ℕ → ℕ → List Bool
bits_of_mask zero mask = []
bits_of_mask (suc r) mask = eqb (mask % 2) 1 ∷ bits_of_mask r (mask / 2)

-- RULES, "Refusals": 16, where a mask has a bit above the last of r generators.
unfoldable pub mask_fault : ℕ → ℕ → Option Refusal
mask_fault r mask = refuse_if (leb (2 ^ r) mask) (Refusal.Syndrome 0)

-- The answer of the call, by its first fault and by the string that was found.
unfoldable pub mask_answer : Option Refusal → Option (List Letter) → Result (Option Pauli) Refusal
mask_answer (Some refusal) found = Err refusal
mask_answer None None = Ok None
mask_answer None (Some s) = Ok (Some (of_letters s))

-- RULES, "Calls and buffers": the decode call by value checks 15, then 16. Its answer is the correction for the bits of
-- the mask, or `none`.
unfoldable pub decode_mask : Code → ℕ → Result (Option Pauli) Refusal
decode_mask c mask =
    mask_answer (limits_fault c then mask_fault c.r mask) (correction c (bits_of_mask c.r mask))
