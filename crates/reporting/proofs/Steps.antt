-- The `s=` lines one by one: a line and then the others, lines of syndromes and what stands behind them, the first line
-- that is none. That the bound on the lines does not matter, where it is large enough, makes each a step.
use mathlib.Core.Bool.{Bool}
use mathlib.Core.List.{List, [], ◌∷◌, ◌++◌, flat_map, append_assoc, append-nil}
use mathlib.Core.Path.{◌≡◌, refl, ap, ap₂, sym, ◌∙◌}
use Prim.Native.Nat.{ℕ, zero, suc, ◌+◌, ◌≤◌, ◌<◌}
use native.Mathlib.Omega.{arith}
use lib.ListN.{length, take, drop, length-append}
use lib.Seq.{drop-append_seam, take-append_seam}
use Rattle.letters.specs.Lists.{bytes}
use Rattle.code_record.specs.declared.Code.{Code}
use Rattle.refusals.specs.declared.Refusal.{Refusal}
use Rattle.sheet.specs.Reader.{Parsed, got, stop, Reader, continue, done}
use Rattle.sheet.specs.Text.{line_feed, line}
use Rattle.sheet.proofs.Line.{line-outcome}
use Rattle.sheet.proofs.Outcome.{Outcome, gets, stops, what_was-got, Took}
use Rattle.decoder.specs.Syndrome.{syndrome_text, read_syndrome}
use Rattle.decoder.proofs.Bits.{syndrome-written}
use Rattle.reporting.specs.Report.{syndrome_line, syndrome_lines}
use Rattle.reporting.specs.Statements.{syndrome_line_text, syndromes_text, NoSyndrome}
use Rattle.reporting.proofs.Syndromes.{HaveRBits, line_read, one_line}
use Rattle.reporting.proofs.Syndromes.{length-syndrome_text, length-syndrome-line}

-- Syndromes that were read, before those of the lines behind.
unfoldable pub before : List (List Bool) → Parsed (List (List Bool)) → Parsed (List (List Bool))
before first (got later end) = got (first ++ later) end
before first (stop refusal) = stop refusal

before-none : (p : Parsed (List (List Bool))) → before [] p ≡ p
unfolding before
before-none (got later end) = refl
before-none (stop refusal) = refl

before-one : (bits : List Bool) (more : List (List Bool)) (p : Parsed (List (List Bool)))
    → before (bits ∷ []) (before more p) ≡ before (bits ∷ more) p
unfolding before
before-one bits more (got later end) = refl
before-one bits more (stop refusal) = refl

-- The reader of a line and then of the others.
then-others : List Bool → Parsed (List (List Bool)) → Parsed (List (List Bool))
then-others bits p = continue p λ later. done (bits ∷ later)

others-before : (bits : List Bool) (p : Parsed (List (List Bool))) → then-others bits p ≡ before (bits ∷ []) p
unfolding then-others before continue done
others-before bits (got later end) = refl
others-before bits (stop refusal) = refl

module _ (c : Code) where
  -- What a line was read from, and 16 where it was not read.
  pub syndrome-line-outcome : (at : ℕ) (s : List ℕ)
      → Outcome (Took syndrome_line_text (λ bits. length bits ≡ c.r) s) (λ refusal. refusal ≡ Refusal.Syndrome at)
      (syndrome_line c at s)
  unfolding syndrome_line
  syndrome-line-outcome at s =
      line-outcome "s=" c.r (read_syndrome c.r) (syndrome-written c.r) (Refusal.Syndrome at) s refl

  -- What stands behind a line that was read, and the characters of its bits.
  pub line-behind : (at : ℕ) (s : List ℕ) (bits : List Bool) (rest : List ℕ) → syndrome_line c at s ≡ got bits rest
      → (rest ≡ drop (c.r + 3) s) × (syndrome_text bits ≡ take c.r (drop 2 s))
  unfolding line bytes
  line-behind at s bits rest e =
      let took = what_was-got (syndrome-line-outcome at s) e in
      let text = syndrome_text bits in
      let count = length-syndrome-line bits ∙ ap (λ m. m + 3) took.lawful in (
        sym (drop-append_seam (syndrome_line_text bits) rest) ∙ ap₂ drop count (sym took.bytes_read),
        sym (take-append_seam text (line_feed ∷ rest))
            ∙ ap₂ take (length-syndrome_text bits ∙ took.lawful)
            (sym (append_assoc text (line_feed ∷ []) rest) ∙ ap (drop 2) (sym took.bytes_read)),
      )

  -- ---- the bound on the lines

  same-others : (next next' : Reader (List (List Bool))) (s : List ℕ) {p : Parsed (List Bool)} {at : ℕ}
      → ((s' : List ℕ) → length s' < length s → next s' ≡ next' s')
      → Outcome (Took syndrome_line_text (λ bits. length bits ≡ c.r) s) (λ refusal. refusal ≡ Refusal.Syndrome at) p
      → continue p (λ bits s'. then-others bits (next s')) ≡ continue p (λ bits s'. then-others bits (next' s'))
  unfolding continue
  same-others next next' s same (gets {a = bits} {rest} h) =
      let counts = ap length h.bytes_read ∙ length-append (syndrome_line_text bits) rest in
      ap (then-others bits) (same rest (omega (arith, length-syndrome-line bits)))
  same-others next next' s same (stops h) = refl

  -- As many lines as bytes are enough, and more are as good.
  lines-bound : (most more at : ℕ) (s : List ℕ) → length s ≤ most → length s ≤ more
      → syndrome_lines most c at s ≡ syndrome_lines more c at s
  unfolding syndrome_lines then-others
  lines-bound zero zero at [] few fewer = refl
  lines-bound zero (suc more) at [] few fewer = refl
  lines-bound (suc most) zero at [] few fewer = refl
  lines-bound (suc most) (suc more) at [] few fewer = refl
  lines-bound zero zero at (b ∷ s) few fewer = absurd (omega arith)
  lines-bound zero (suc more) at (b ∷ s) few fewer = absurd (omega arith)
  lines-bound (suc most) zero at (b ∷ s) few fewer = absurd (omega arith)
  lines-bound (suc most) (suc more) at (b ∷ s) few fewer =
      same-others (syndrome_lines most c (at + 1)) (syndrome_lines more c (at + 1)) (b ∷ s)
      (λ s' small. lines-bound most more (at + 1) s' (omega arith) (omega arith)) (syndrome-line-outcome at (b ∷ s))

  -- ---- steps

  -- The lines from `at` on, to the end of the bytes.
  abbrev pub lines_from : ℕ → Reader (List (List Bool))
  lines_from at s = syndrome_lines (length s) c at s

  pub lines-ended : (at : ℕ) → lines_from at [] ≡ got [] []
  unfolding syndrome_lines
  lines-ended at = refl

  -- A line that is read stands before the others; one that is not ends the reading.
  pub lines-got : (at : ℕ) (s : List ℕ) (bits : List Bool) (rest : List ℕ) → syndrome_line c at s ≡ got bits rest
      → lines_from at s ≡ before (bits ∷ []) (lines_from (at + 1) rest)
  unfolding continue then-others
  lines-got at s bits rest e = go s (ap length took ∙ length-append (syndrome_line_text bits) rest) e
    where
      took : s ≡ syndrome_line_text bits ++ rest
      took = (what_was-got (syndrome-line-outcome at s) e).bytes_read

      go : (s : List ℕ) → length s ≡ length (syndrome_line_text bits) + length rest
          → syndrome_line c at s ≡ got bits rest
          → lines_from at s ≡ before (bits ∷ []) (lines_from (at + 1) rest)
      go [] count e = absurd (omega (arith, length-syndrome-line bits))
      go (b ∷ s) count e =
          one_line c (length s) at (b ∷ s) (omega arith)
          ∙ ap (λ p. continue p (λ bits s'. then-others bits (syndrome_lines (length s) c (at + 1) s'))) e
          ∙ ap (then-others bits)
          (lines-bound (length s) (length rest) (at + 1) rest (omega (arith, length-syndrome-line bits)) (omega arith))
          ∙ others-before bits (lines_from (at + 1) rest)

  pub lines-stopped : (at : ℕ) (s : List ℕ) (refusal : Refusal) → 0 < length s → syndrome_line c at s ≡ stop refusal
      → lines_from at s ≡ stop refusal
  unfolding continue then-others
  lines-stopped at [] refusal some e = absurd (omega arith)
  lines-stopped at (b ∷ s) refusal some e =
      one_line c (length s) at (b ∷ s) some
      ∙ ap (λ p. continue p (λ bits s'. then-others bits (syndrome_lines (length s) c (at + 1) s'))) e

  -- ---- lines of syndromes, and what stands behind them

  pub lines_then : (syndromes : List (List Bool)) (at : ℕ) (rest : List ℕ) → HaveRBits c syndromes
      → lines_from at (syndromes_text syndromes ++ rest)
      ≡ before syndromes (lines_from (at + length syndromes) rest)
  unfolding flat_map
  lines_then [] at rest all =
      let here : at ≡ at + 0 = omega arith in
      sym (before-none (lines_from at rest)) ∙ ap (λ (at : ℕ). before [] (lines_from at rest)) here
  lines_then (bits ∷ more) at rest all =
      let behind = syndromes_text more ++ rest in
      let places : at + 1 + length more ≡ at + suc (length more) = omega arith in
      ap (lines_from at) (append_assoc (syndrome_line_text bits) (syndromes_text more) rest)
      ∙ lines-got at (syndrome_line_text bits ++ behind) bits behind (line_read c at bits behind all.0)
      ∙ ap (before (bits ∷ [])) (lines_then more (at + 1) rest all.1)
      ∙ before-one bits more (lines_from (at + 1 + length more) rest)
      ∙ ap (λ (at : ℕ). before (bits ∷ more) (lines_from at rest)) places

  pub lines-return : (syndromes : List (List Bool)) (at : ℕ) → HaveRBits c syndromes
      → lines_from at (syndromes_text syndromes) ≡ got syndromes []
  unfolding before
  lines-return syndromes at all =
      ap (lines_from at) (sym (append-nil (syndromes_text syndromes)))
      ∙ lines_then syndromes at [] all
      ∙ ap (before syndromes) (lines-ended (at + length syndromes))
      ∙ ap (λ (l : List (List Bool)). got l []) (append-nil syndromes)

  -- Bytes that do not begin with the line of a syndrome are refused there.
  pub bad-line : (at : ℕ) (s : List ℕ) → 0 < length s → NoSyndrome c.r s
      → lines_from at s ≡ stop (Refusal.Syndrome at)
  bad-line at s some bad = lines-stopped at s (Refusal.Syndrome at) some (go (syndrome-line-outcome at s))
    where
      go : {p : Parsed (List Bool)}
          → Outcome (Took syndrome_line_text (λ bits. length bits ≡ c.r) s) (λ refusal. refusal ≡ Refusal.Syndrome at) p
          → p ≡ stop (Refusal.Syndrome at)
      go (gets {a = bits} {rest} h) = absurd (bad bits rest h.lawful h.bytes_read)
      go (stops h) = ap stop h
