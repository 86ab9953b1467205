-- A syndrome has as many bits as there are generators, its characters are read as those bits, and what is read as
-- bits is their characters. Each goes row by row or character by character.
use Rattle.std.specs.Prelude.{Some, None}
use Rattle.std.proofs.lemmas.Option.{none-some}
use mathlib.Core.Bool.{Bool, true, false, cond}
use mathlib.Core.List.{List, map}
use mathlib.Core.Path.{◌≡◌, refl, ap, sym, ◌∙◌}
use Prim.Native.Nat.{ℕ}
use borrow.Author.Tests.{eq-eqb, eqb-true}
use lib.Dec.{eqb}
use lib.ListN.{length, length-map}
use Rattle.pauli.specs.declared.Pauli.{Pauli}
use Rattle.letters.specs.Lists.{first_of, read_byte}
use Rattle.pauli.specs.Syndrome.{syndrome}
use Rattle.pauli.proofs.SyndromeMask.{length-syndrome}
use Rattle.code_record.specs.declared.Code.{Code}
use Rattle.code_record.specs.Record.{generators, within_limits, Sized}
use Rattle.code_record.proofs.Limits.{limits}
use Rattle.sheet.specs.Reader.{read_each}
use Rattle.sheet.proofs.Lengths.{length-generators}
use Rattle.sheet.proofs.Values.{each_read, each-written, read_byte-byte}
use Rattle.admission.proofs.Admitted.{admitted-as, admitted-lawful}
use Rattle.decoder.specs.Statements.{SyndromesHaveRBits}
use Rattle.decoder.specs.Syndrome.{bit_byte, read_bit, syndrome_text, read_syndrome}

-- ---- how many bits

of-record : (c : Code) (P : Pauli) → Sized c → within_limits c ≡ true → length (syndrome (generators c) P) ≡ c.r
of-record c P sized within = length-syndrome (generators c) P ∙ length-generators c sized (limits c within)

pub syndromes-have-r-bits : SyndromesHaveRBits
syndromes-have-r-bits = record {
  of_record = of-record;
  of_sheet = λ s P h. let lawful = admitted-lawful s _ (admitted-as s h) in
      of-record _ P lawful.sized lawful.limits;
}

-- ---- bits and characters

bit-read : (b : Bool) → read_bit (bit_byte b) ≡ Some b
unfolding read_bit read_byte first_of bit_byte
bit-read true = refl
bit-read false = refl

-- The characters of r bits are read as those bits.
pub syndrome-read : (r : ℕ) (bits : List Bool) → length bits ≡ r → read_syndrome r (syndrome_text bits) ≡ Some bits
unfolding read_syndrome syndrome_text
syndrome-read r bits count =
    rw (eq-eqb (length (map bit_byte bits)) r (length-map bits bit_byte ∙ count))
    (each_read bit_byte read_bit bit-read bits)

-- What is read as a syndrome has r characters.
pub read_length : (r : ℕ) (v : List ℕ) (bits : List Bool) → read_syndrome r v ≡ Some bits → length v ≡ r
unfolding read_syndrome
read_length r v bits h = eqb-true (length v) r (go (eqb (length v) r) h)
  where
    go : (test : Bool) → cond test (read_each read_bit v) None ≡ Some bits → test ≡ true
    go true h = refl
    go false h = absurd (none-some bits h)

-- What is read as bits is the characters of r bits.
pub syndrome-written : (r : ℕ) (v : List ℕ) (bits : List Bool) → length v ≡ r → read_syndrome r v ≡ Some bits
    → (length bits ≡ r) × (v ≡ syndrome_text bits)
unfolding read_syndrome syndrome_text read_bit
syndrome-written r v bits count e = (sym (length-map bits bit_byte) ∙ sym (ap length text) ∙ count, text)
  where
    each : read_each read_bit v ≡ Some bits
    each = ap (λ t. cond t (read_each read_bit v) None) (sym (eq-eqb (length v) r count)) ∙ e

    text : v ≡ map bit_byte bits
    text = each-written bit_byte read_bit (read_byte-byte bit_byte _) v each
