-- What is stated of a syndrome that is read as a mask.
use Rattle.std.specs.Prelude.{Some, None, Bool, List, ◌≡◌, ℕ, ◌≤◌, ◌<◌}
use Rattle.pauli.specs.Syndrome.{mask_of_bits}
use Rattle.code_record.specs.Record.{row_room}
use Rattle.decoder.specs.Syndrome.{read_syndrome}
use Rattle.syndrome_reader.specs.Mask.{read_mask}

-- RULES, "Decoding": a mask is read exactly where bits are, and is the mask of these. Where r is above the room for
-- generators none is read.
pub record MaskIsOfBits : Type 0 where
  pub read : (r : ℕ) (cs : List ℕ) (bits : List Bool) → r ≤ row_room → read_syndrome r cs ≡ Some bits
      → read_mask r cs ≡ Some (mask_of_bits bits)
  pub told : (r : ℕ) (cs : List ℕ) (m : ℕ) → read_mask r cs ≡ Some m
      → (bits : List Bool) × (read_syndrome r cs ≡ Some bits) × (m ≡ mask_of_bits bits)
  pub malformed : (r : ℕ) (cs : List ℕ) → read_mask r cs ≡ None → r ≤ row_room
      → read_syndrome r cs ≡ None
  pub beyond : (r : ℕ) (cs : List ℕ) → row_room < r → read_mask r cs ≡ None
