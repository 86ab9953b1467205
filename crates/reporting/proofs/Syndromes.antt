-- The line of a syndrome is read as that syndrome, and the `s=` lines that were read are lines of syndromes of r
-- bits: what is known of one line, from its value, and then of the others behind it.
use mathlib.Core.Bool.{Bool}
use mathlib.Core.List.{List, [], ◌∷◌, ◌++◌, flat_map}
use mathlib.Core.Path.{◌≡◌, refl, ap, ◌∙◌}
use Prim.Native.Nat.{ℕ, zero, suc, ◌+◌, ◌*◌, ◌≤◌, ◌<◌}
use native.Mathlib.Omega.{arith}
use lib.ListN.{length, length-append, length-map}
use Rattle.letters.specs.Lists.{bytes}
use Rattle.code_record.specs.declared.Code.{Code}
use Rattle.refusals.specs.declared.Refusal.{Refusal}
use Rattle.sheet.specs.Reader.{got, done, ◌and_then◌}
use Rattle.sheet.proofs.Lengths.{length-line}
use Rattle.sheet.proofs.Line.{line-outcome, line-returns}
use Rattle.sheet.proofs.Outcome.{Outcome, gets, stops, continue-outcome}
use Rattle.stabilizer.proofs.All.{All}
use Rattle.decoder.specs.Syndrome.{bit_byte, syndrome_text, read_syndrome}
use Rattle.decoder.proofs.Bits.{syndrome-read, syndrome-written}
use Rattle.reporting.specs.Report.{syndrome_line, syndrome_lines}
use Rattle.reporting.specs.Statements.{syndrome_line_text, syndromes_text}

pub length-syndrome_text : (bits : List Bool) → length (syndrome_text bits) ≡ length bits
unfolding syndrome_text
length-syndrome_text bits = length-map bits bit_byte

-- A line has the key, the bits and the line feed.
pub length-syndrome-line : (bits : List Bool) → length (syndrome_line_text bits) ≡ length bits + 3
unfolding bytes
length-syndrome-line bits = omega (arith, length-line "s=" (syndrome_text bits), length-syndrome_text bits)

module _ (c : Code) where
  -- Each of the syndromes has r bits.
  abbrev pub HaveRBits : List (List Bool) → Type 0
  HaveRBits = All (λ bits. length bits ≡ c.r)

  pub length-syndrome-lines : (syndromes : List (List Bool)) → 1 ≤ c.r → HaveRBits syndromes
      → 4 * length syndromes ≤ length (syndromes_text syndromes)
  unfolding flat_map
  length-syndrome-lines [] some all = omega arith
  length-syndrome-lines (bits ∷ more) some all =
      rw length-append
      (omega (arith, length-syndrome-line bits, all.0, length-syndrome-lines more some all.1))

  -- ---- the lines of syndromes are read as those

  pub line_read : (at : ℕ) (bits : List Bool) (rest : List ℕ) → length bits ≡ c.r
      → syndrome_line c at (syndrome_line_text bits ++ rest) ≡ got bits rest
  unfolding syndrome_line
  line_read at bits rest count =
      line-returns "s=" c.r (read_syndrome c.r) _ (syndrome_text bits) rest bits (length-syndrome_text bits ∙ count)
      (syndrome-read c.r bits count)

  -- Where there are bytes a line is read, and then the others.
  pub one_line : (most at : ℕ) (s : List ℕ) → 0 < length s
      → syndrome_lines (suc most) c at s
      ≡ (syndrome_line c at and_then λ bits. syndrome_lines most c (at + 1) and_then λ later. done (bits ∷ later)) s
  unfolding syndrome_lines
  one_line most at [] h = absurd (omega arith)
  one_line most at (b ∷ s) h = refl

  -- ---- what was read is such lines

  -- What holds of 16 at each of the lines holds of the refusal.
  pub syndromes-outcome : {Stop : Refusal → Type 0} (most at last : ℕ) (s : List ℕ) → at + most ≤ last
      → ((m : ℕ) → m ≤ last → Stop (Refusal.Syndrome m))
      → Outcome (λ syndromes end. HaveRBits syndromes × (s ≡ syndromes_text syndromes)) Stop
      (syndrome_lines most c at s)
  unfolding flat_map syndrome_lines syndrome_line done
  syndromes-outcome zero at last [] few told = gets (tt, refl)
  syndromes-outcome zero at last (b ∷ s) few told = stops (told at (omega arith))
  syndromes-outcome (suc most) at last [] few told = gets (tt, refl)
  syndromes-outcome (suc most) at last (b ∷ s) few told =
      continue-outcome
      (line-outcome "s=" c.r (read_syndrome c.r) (syndrome-written c.r) (Refusal.Syndrome at) (b ∷ s)
      (told at (omega arith)))
      λ bits s' h. continue-outcome (syndromes-outcome most (at + 1) last s' (omega arith) told)
      λ more end hs. gets ((h.lawful, hs.0), h.bytes_read ∙ ap (λ t. syndrome_line_text bits ++ t) hs.1)
