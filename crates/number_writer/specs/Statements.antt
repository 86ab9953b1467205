-- What is stated of a number's line that is written by itself.
use Rattle.std.specs.Prelude.{Some}
use Rattle.std.specs.Result.{result_err}
use Rattle.std.specs.Prelude.{List, [], ◌∷◌, ◌≡◌, ℕ}
use Prim.Native.String.{String}
use Rattle.letters.specs.Lists.{bytes}
use Rattle.refusals.specs.declared.Refusal.{Refusal}
use Rattle.sheet.specs.Statements.{RefusalLeaves, Among}
use Rattle.sheet.specs.Text.{line, decimal}
use Rattle.number_writer.specs.Lines.{number_text, write_number}

-- It is the line that the definitions of a sheet and of a report have.
abbrev pub NumberLineIsOfItsKey : Type 0
NumberLineIsOfItsKey = (key : String) (m : ℕ) → number_text (bytes key) m ≡ line key (decimal m)

-- RULES, "Calls and buffers": a refusal leaves the buffer as it was.
abbrev pub NumberRefusalsLeave : Type 0
NumberRefusalsLeave =
    (key : List ℕ) (m : ℕ) (buffer : List ℕ) → RefusalLeaves result_err buffer (write_number key m buffer)

-- RULES, "Calls and buffers": the number with which the call refuses.
abbrev pub NumberRefusalNumbers : Type 0
NumberRefusalNumbers =
    (key : List ℕ) (m : ℕ) (buffer : List ℕ) (refusal : Refusal)
    → result_err (write_number key m buffer).answer ≡ Some refusal → Among (17 ∷ []) refusal
