-- What the call answers of a record's group, in the terms of the definitions.
use Rattle.std.specs.Prelude.{Option, Some, None, Result, Ok, Err}
use Rattle.pauli.specs.declared.Pauli.{Pauli}
use Rattle.letters.specs.declared.Sign.{Sign}
use Rattle.letters.specs.declared.Sign.TheVariants.{Plus, Minus}
use Rattle.code_record.specs.declared.Code.{Code}
use Rattle.refusals.specs.declared.Refusal.{Refusal}
use Rattle.code_record.specs.Record.{generators}
use Rattle.stabilizer.specs.Checks.{group_fault}
use Rattle.stabilizer.specs.Group.{member_sign}
use Rattle.reduced_rows.specs.declared.Kind.{Kind}
use Rattle.reduced_rows.specs.declared.Kind.TheVariants.{Independent, PlusIdentity, MinusIdentity}

-- The member with the masks of a row, by what the row with the sign + is to the canonical generators.
abbrev pub kind_member : Kind → Option Sign
kind_member Independent = None
kind_member PlusIdentity = Some Plus
kind_member MinusIdentity = Some Minus

-- A refusal comes before the sign that was found, or that there is none.
unfoldable pub member_answer : Option Refusal → Option Sign → Result (Option Sign) Refusal
member_answer (Some refusal) sign = Err refusal
member_answer None (Some sign) = Ok (Some sign)
member_answer None None = Ok None

-- RULES, "Calls and buffers": 15, then 6 to 8, then the sign of the member of the group that has P's masks.
unfoldable pub membership : Code → Pauli → Result (Option Sign) Refusal
membership c P = member_answer (group_fault c) (member_sign (generators c) P)
