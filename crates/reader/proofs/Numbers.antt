-- What the reader of a number's line answers, against its definition.
use Rattle.std.specs.Prelude.{Ok, Err}
use mathlib.Core.List.{List}
use mathlib.Core.Path.{◌≡◌, sym, subst}
use Prim.Native.Nat.{ℕ, ◌-◌}
use native.Mathlib.Omega.{arith}
use lib.ListN.{length}
use Rattle.refusals.specs.declared.Refusal.{Refusal}
use Rattle.sheet.specs.Reader.{Parsed, got, stop}
use Rattle.sheet.proofs.Outcome.{Outcome, gets, stops, Took}
use Rattle.number_reader.specs.declared.NumberLine.{NumberLine}
use Rattle.number_reader.specs.Answers.{number_answer}
use Rattle.ordered_lines.proofs.Reached.{Reached, reached_of}

pub number-reached : {Stop : Refusal → Type 0} (s : List ℕ) {text : ℕ → List ℕ} {Law : ℕ → Type 0} {p : Parsed ℕ}
    {line : NumberLine} → Outcome (Took text Law s) Stop p → Ok line ≡ number_answer s p
    → Reached s line.used line.number p
unfolding number_answer
number-reached s {line = line} (gets {a = m} {rest = rest} h) e =
    let same : line ≡ record { used = length s - length rest; number = m } = cc in
    subst (λ line. Reached s line.used line.number (got m rest)) (sym same) (reached_of h)
number-reached s (stops h) e = absurd (let z : ◌≡◌ {A = ℕ} 0 1 = cc in omega arith)

pub number-stopped : (s : List ℕ) {p : Parsed ℕ} {refusal : Refusal} → Err refusal ≡ number_answer s p
    → p ≡ stop refusal
unfolding number_answer
number-stopped s {p = got m rest} e = absurd (let z : ◌≡◌ {A = ℕ} 0 1 = cc in omega arith)
number-stopped s {p = stop refusal} e = cc
