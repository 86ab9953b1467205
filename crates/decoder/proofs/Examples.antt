-- Syndromes and corrections of small codes, computed.
use Rattle.std.specs.Prelude.{Ok, Err}
use mathlib.Core.List.{[], ◌∷◌, map}
use mathlib.Core.Path.{◌≡◌, refl}
use Prim.Native.Nat.{◌+◌, ◌^◌}
use Rattle.letters.specs.declared.Letter.TheVariants.{I, X, Z}
use Rattle.pauli.specs.Letters.{of_letters}
use Rattle.letters.specs.Lists.{bytes}
use Rattle.code_record.specs.declared.Code.{Code}
use Rattle.refusals.specs.declared.Refusal.{Refusal}
use Rattle.code_record.specs.Record.{empty_code}
use Rattle.sheet.specs.Edges.{nine_qubits, sheet_a, sheet_k}
use Rattle.sheet.specs.Text.{untouched}
use Rattle.admission.specs.Admission.{admitted, read_sheet}
use Rattle.decoder.specs.declared.Decoded.{Decoded}
use Rattle.decoder.specs.Correction.{decode}
use Rattle.decoder.specs.Definitions.{definitions}
use Rattle.decoder.specs.EndToEnd.{cycle}
use Rattle.decoder.specs.Syndrome.{write_syndrome}

code_a : Code
code_a = (read_sheet (bytes sheet_a)).code

code_k : Code
code_k = (read_sheet (bytes sheet_k)).code

-- ---- syndromes

-- X on qubit 1 of A anticommutes with its last generator alone
syndrome-a :
    write_syndrome code_a (of_letters (X ∷ I ∷ I ∷ I ∷ I ∷ [])) (bytes "abcdef")
    ≡ record { answer = Ok tt; buffer = bytes "0001ef" }
unfolding code_a definitions
syndrome-a = refl

-- the phase, and mask bits above qubit n, change nothing
syndrome-above :
    write_syndrome code_a (record { p = 7; a = 2 ^ 31 + 1; b = 2 ^ 5 }) (bytes "abcd")
    ≡ record { answer = Ok tt; buffer = bytes "0001" }
unfolding code_a definitions
syndrome-above = refl

syndrome-short :
    write_syndrome code_a (of_letters []) (bytes "abc")
    ≡ untouched (Err Refusal.ShortBuffer) (bytes "abc")
unfolding code_a definitions
syndrome-short = refl

syndrome-outside :
    write_syndrome empty_code (of_letters []) (bytes "abc")
    ≡ untouched (Err Refusal.RecordLimits) (bytes "abc")
unfolding definitions
syndrome-outside = refl

-- ---- corrections

decode-a :
    decode code_a (bytes "0001") (bytes "abcdefg") ≡ record { answer = Ok Decoded.Correction; buffer = bytes "XIIIIfg" }
unfolding code_a definitions
decode-a = refl

decode-none : decode code_k (bytes "1") (bytes "abc") ≡ untouched (Ok Decoded.None) (bytes "abc")
unfolding code_k definitions
decode-none = refl

-- 15 before 16 before 17, and 17 even where the answer would be none
decode-outside : decode empty_code (bytes "x") [] ≡ untouched (Err Refusal.RecordLimits) []
unfolding definitions
decode-outside = refl

decode-off-form : decode code_k (bytes "01") [] ≡ untouched (Err (Refusal.Syndrome 0)) []
unfolding code_k definitions
decode-off-form = refl

decode-short : decode code_k (bytes "1") (bytes "a") ≡ untouched (Err Refusal.ShortBuffer) (bytes "a")
unfolding code_k definitions
decode-short = refl

-- In the nine-qubit code Z on qubit 1, 2 or 3 has the same syndrome, and the earliest of the three is the correction.
code_nine : Code
code_nine = (read_sheet (bytes nine_qubits)).code

share-a-syndrome :
    map (λ e. (write_syndrome code_nine (of_letters e) (bytes "abcdefgh")).buffer)
    ((Z ∷ []) ∷ (I ∷ Z ∷ []) ∷ (I ∷ I ∷ Z ∷ []) ∷ [])
    ≡ bytes "00000010" ∷ bytes "00000010" ∷ bytes "00000010" ∷ []
unfolding code_nine definitions
share-a-syndrome = refl

decode-nine : (decode code_nine (bytes "00000010") (bytes "abcdefghi")).buffer ≡ bytes "IIZIIIIII"
unfolding code_nine definitions
decode-nine = refl

-- ---- a cycle of the calls

-- Sheet A is read, and Y on qubit 3, with a phase, is measured and decoded. Both buffers are longer than the answers.
cycle-a :
    cycle (bytes sheet_a) (record { p = 3; a = 2 ^ 2; b = 2 ^ 2 }) (bytes "abcdef") (bytes "ghijklm")
    ≡ record {
      reading = admitted code_a;
      measured = record { answer = Ok tt; buffer = bytes "1110ef" };
      decoded = record { answer = Ok Decoded.Correction; buffer = bytes "IIYIIlm" };
    }
unfolding code_a definitions
cycle-a = refl
