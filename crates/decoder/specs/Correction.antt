-- Corrections and the decode call.
use Rattle.std.specs.Prelude.{Option, Some, None, Result, Ok, Err}
use Rattle.letters.specs.Options.{bind}
use Rattle.std.specs.Prelude.{Bool, List, map, ℕ}
use Rattle.letters.specs.Lists.{first_of}
use Rattle.letters.specs.declared.Letter.{Letter}
use Rattle.pauli.specs.Letters.{of_letters}
use Rattle.letters.specs.Letters.{letter_byte}
use Rattle.pauli.specs.Order.{strings_up_to}
use Rattle.pauli.specs.Syndrome.{syndrome}
use Rattle.code_record.specs.declared.Code.{Code}
use Rattle.refusals.specs.declared.Refusal.{Refusal}
use Rattle.code_record.specs.Record.{generators, radius, limits_fault}
use Rattle.refusals.specs.Refusals.{◌then◌}
use Rattle.sheet.specs.Text.{After, laid, untouched, guarded, room_fault}
use Rattle.decoder.specs.declared.Decoded.{Decoded}
use Rattle.decoder.specs.Syndrome.{same_bits, read_syndrome, syndrome_fault}

-- Whether a string of letters has the syndrome.
unfoldable pub has_syndrome : Code → List Bool → List Letter → Bool
has_syndrome c bits s = same_bits (syndrome (generators c) (of_letters s)) bits

-- RULES, "Decoding": the correction is the earliest Pauli of weight at most t that has the syndrome.
unfoldable pub correction : Code → List Bool → Option (List Letter)
correction c bits = first_of (has_syndrome c bits) (strings_up_to c.n (radius c))

-- RULES, "Calls and buffers": the letters stand in the buffer's first n bytes; the answer `none` leaves the buffer.
unfoldable pub corrected : Option (List Letter) → List ℕ → After (Result Decoded Refusal)
corrected None buffer = untouched (Ok Decoded.None) buffer
corrected (Some s) buffer = record { answer = Ok Decoded.Correction; buffer = laid (map letter_byte s) buffer }

-- RULES, "Calls and buffers": the decode call checks 15, then 16, then 17, for which its answer counts as n bytes.
unfoldable pub decode : Code → List ℕ → List ℕ → After (Result Decoded Refusal)
decode c characters buffer =
    guarded Err (limits_fault c then syndrome_fault c.r characters then room_fault c.n buffer) buffer
    (corrected (bind (read_syndrome c.r characters) (correction c)) buffer)
