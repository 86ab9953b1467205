-- The answers of the decode call with the count of letters beside them.
use Rattle.std.specs.Prelude.{Option, Some, None, Result, Ok, Err, ℕ}
use Rattle.refusals.specs.declared.Refusal.{Refusal}
use Rattle.decoder.specs.declared.Decoded.{Decoded}

-- RULES, "The library": a correction has n letters.
unfoldable pub letters_decoded : ℕ → Result Decoded Refusal → Result (Option ℕ) Refusal
letters_decoded n (Ok Decoded.Correction) = Ok (Some n)
letters_decoded n (Ok Decoded.None) = Ok None
letters_decoded n (Err refusal) = Err refusal
