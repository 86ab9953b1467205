-- The characters of a syndrome, read as a mask.
use Rattle.std.specs.Prelude.{Option, Some, None, Bool, cond, List, ℕ, ltb}
use Rattle.pauli.specs.Syndrome.{mask_of_bits}
use Rattle.code_record.specs.Record.{row_room}
use Rattle.decoder.specs.Syndrome.{read_syndrome}

-- The bits that were read, as a mask; where none were, the characters are malformed.
unfoldable pub mask_read : Option (List Bool) → Option ℕ
mask_read None = None
mask_read (Some bits) = Some (mask_of_bits bits)

-- RULES, "Decoding": a syndrome as text is r characters 0 or 1, the first generator's first, and that is the mask's
-- lowest bit. No record has room for more than 32 generators, so with a larger r nothing is read.
unfoldable pub read_mask : ℕ → List ℕ → Option ℕ
read_mask r cs = cond (ltb row_room r) None (mask_read (read_syndrome r cs))
