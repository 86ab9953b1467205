-- The lines of syndromes, each read as a mask.
use Rattle.std.specs.Prelude.{Option, Some, None, Result, Ok, Err}
use Rattle.std.specs.Prelude.{cond, List, [], ◌∷◌, ℕ, zero, suc, ◌+◌, length, take, drop}
use Rattle.letters.specs.Lists.{bytes}
use Rattle.refusals.specs.declared.Refusal.{Refusal}
use Rattle.sheet.specs.Reader.{is_line}
use Rattle.syndrome_reader.specs.Mask.{read_mask}
use Rattle.syndrome_lines.specs.declared.OffForm.{OffForm}

-- RULES, "The report": a line behind w is `s=`, r characters 0 or 1 and a line feed. Its bits, as a mask. No record has
-- more than 32 generators, and with more no line is read.
unfoldable pub mask_line : ℕ → List ℕ → Option ℕ
mask_line r s = cond (is_line (bytes "s=") r s) (read_mask r (take r (drop 2 s))) None

-- `s=`, the characters and the line feed.
unfoldable pub syndrome_length : ℕ → ℕ
syndrome_length r = r + 3

-- A line is off its form, behind so many that were read.
abbrev pub off_form_behind : ℕ → Result Unit OffForm
off_form_behind m = Err (record { before = m })

-- One line was read before those that are told of.
unfoldable pub one_more : Result Unit OffForm → Result Unit OffForm
one_more (Ok _) = Ok tt
one_more (Err off) = off_form_behind (off.before + 1)

-- A line that is read stands before the others; one that is not ends the reading.
unfoldable pub line_then : Option ℕ → (List ℕ → Result Unit OffForm) → List ℕ → Result Unit OffForm
line_then (Some m) others behind = one_more (others behind)
line_then None others behind = off_form_behind 0

-- RULES, "The report": any number of such lines, to the end of the input. So many at most.
unfoldable pub checked_lines : ℕ → ℕ → List ℕ → Result Unit OffForm
checked_lines zero r [] = Ok tt
checked_lines zero r (b ∷ s) = off_form_behind 0
checked_lines (suc most) r [] = Ok tt
checked_lines (suc most) r (b ∷ s) =
    line_then (mask_line r (b ∷ s)) (checked_lines most r) (drop (syndrome_length r) (b ∷ s))

-- A line has a byte at least, so as many lines as bytes are enough.
unfoldable pub check_lines : ℕ → List ℕ → Result Unit OffForm
check_lines r s = checked_lines (length s) r s

-- ---- what the answers refuse

-- RULES, "Refusals": 16 where a line, the one numbered `at`, is no syndrome's.
unfoldable pub line_fault : ℕ → Option ℕ → Option Refusal
line_fault at (Some m) = None
line_fault at None = Some (Refusal.Syndrome at)

-- RULES, "Refusals": 16 at the first line that is no syndrome's, where the first of all is numbered `at`.
unfoldable pub lines_fault : ℕ → Result Unit OffForm → Option Refusal
lines_fault at (Ok _) = None
lines_fault at (Err off) = Some (Refusal.Syndrome (at + off.before))
