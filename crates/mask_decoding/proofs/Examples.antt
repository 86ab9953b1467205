-- The decode call by value, computed. The first generator's bit is the lowest of the mask.
use Rattle.std.specs.Prelude.{Some, None, Ok, Err}
use mathlib.Core.Path.{◌≡◌, refl}
use Rattle.letters.specs.Lists.{bytes}
use Rattle.code_record.specs.declared.Code.{Code}
use Rattle.code_record.specs.Record.{empty_code}
use Rattle.refusals.specs.declared.Refusal.{Refusal}
use Rattle.sheet.specs.Edges.{sheet_a, sheet_k}
use Rattle.admission.specs.Admission.{read_sheet}
use Rattle.decoder.specs.Definitions.{definitions}
use Rattle.mask_decoding.specs.Masks.{bits_of_mask, mask_fault, mask_answer, decode_mask}

code_a : Code
code_a = (read_sheet (bytes sheet_a)).code

-- the syndrome 0001 is that of X on qubit 1
mask-x : decode_mask code_a 8 ≡ Ok (Some (record { p = 0; a = 1; b = 0 }))
unfolding code_a decode_mask mask_answer mask_fault bits_of_mask definitions
mask-x = refl

-- there is no fifth generator
mask-above : decode_mask code_a 16 ≡ Err (Refusal.Syndrome 0)
unfolding code_a decode_mask mask_answer mask_fault bits_of_mask definitions
mask-above = refl

-- t is 0
mask-none : decode_mask (read_sheet (bytes sheet_k)).code 1 ≡ Ok None
unfolding decode_mask mask_answer mask_fault bits_of_mask definitions
mask-none = refl

-- the record beside a refused reading
mask-of-nothing : decode_mask empty_code 0 ≡ Err Refusal.RecordLimits
unfolding decode_mask mask_answer mask_fault bits_of_mask definitions
mask-of-nothing = refl
