-- d, and then what follows; a refusal ends it.
use Rattle.std.specs.Prelude.{Result, Ok}
use mathlib.Core.List.{List}
use mathlib.Core.Path.{◌≡◌, ap, sym, ◌∙◌}
use Prim.Native.Nat.{ℕ, ◌+◌, ◌-◌, ◌≤◌}
use native.Mathlib.Omega.{arith}
use lib.ListN.{length, take, drop}
use Rattle.refusals.specs.declared.Refusal.{Refusal}
use Rattle.sheet.specs.Reader.{distance_line, answered}
use Rattle.sheet.proofs.Answered.{sheet-refused}
use Rattle.sheet.proofs.Consumed.{distance-line-outcome}
use Rattle.sheet.proofs.Parts.{tail_of}
use Rattle.sheet.proofs.Reading.{then-got, then-stop}
use Rattle.number_reader.specs.declared.NumberLine.{NumberLine}
use Rattle.number_reader.specs.Answers.{number_answer}
use Rattle.ordered_lines.specs.Answers.{lines_from_g}
use Rattle.ordered_lines.proofs.Reached.{Reached, reached-more}
use Rattle.ordered_lines.proofs.Sheets.{rows_inside}
use Rattle.reader.proofs.Numbers.{number-reached, number-stopped}
use Rattle.reader.proofs.lines_from_d.Goals as goal

-- What the line was read as.
abbrev Answer : List ℕ → Result NumberLine Refusal → Type 0
Answer s r = r ≡ number_answer s (distance_line s)

module _ (s : List ℕ) (from : ℕ) (r : Result NumberLine Refusal)
    (told : Answer (take (length s - from) (drop from s)) r) where
  answer : Answer (drop from s) r
  answer = told ∙ ap (λ t. number_answer t (distance_line t)) (tail_of from s)

  d-read : from ≤ length s → {line : NumberLine} → r ≡ Ok line
      → Reached s (from + line.used) line.number (distance_line (drop from s))
  d-read here {line} e =
      reached-more from line.used s here
      (number-reached (drop from s) (distance-line-outcome (drop from s)) (sym e ∙ answer))

pub returns-in_default : goal.returns-in_default
returns-in_default c =
    let s = c.args.s.now in
    let from = c.args.from in
    let mapped = rw c.in_default.is at c.map.ensures.cases in
    sheet-refused s c.refused.ensures mapped
    (then-stop (lines_from_g c.args.n)
    (number-stopped (drop from s) (sym c.in_default.is ∙ answer s from _ c.distance_line-distance.ensures)))

pub overflow_add-from : goal.overflow_add-from
overflow_add-from c =
    let s = c.args.s.now in
    let read = d-read s c.args.from _ c.distance_line-distance.ensures c.requires.from_in_bounds c.in-Ok.is in
    omega (arith, read.within)

pub returns : goal.returns
returns c =
    let s = c.args.s.now in
    let read = d-read s c.args.from _ c.distance_line-distance.ensures c.requires.from_in_bounds c.in-Ok.is in
    c.lines_from_g.ensures
    ∙ ap (answered s)
    (rows_inside _ _ _ _ c.requires.n_le_most_qubits read.within ∙ sym (then-got (lines_from_g c.args.n) read.gives))
