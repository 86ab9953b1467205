-- What is stated of the lines of two numbers.
use Rattle.std.specs.Prelude.{Some}
use Rattle.std.specs.Result.{result_err}
use Rattle.std.specs.Prelude.{List, [], ◌∷◌, ◌≡◌, ℕ}
use Rattle.refusals.specs.declared.Refusal.{Refusal}
use Rattle.sheet.specs.Statements.{RefusalLeaves, Among}
use Rattle.numbers_writer.specs.Numbers.{write_numbers}

-- RULES, "Calls and buffers": a refusal leaves the buffer as it was.
abbrev pub NumbersRefusalsLeave : Type 0
NumbersRefusalsLeave =
    (key : List ℕ) (m : ℕ) (key' : List ℕ) (m' : ℕ) (buffer : List ℕ)
    → RefusalLeaves result_err buffer (write_numbers key m key' m' buffer)

-- RULES, "Calls and buffers": the number with which the call refuses.
abbrev pub NumbersRefusalNumbers : Type 0
NumbersRefusalNumbers =
    (key : List ℕ) (m : ℕ) (key' : List ℕ) (m' : ℕ) (buffer : List ℕ) (refusal : Refusal)
    → result_err (write_numbers key m key' m' buffer).answer ≡ Some refusal → Among (17 ∷ []) refusal
