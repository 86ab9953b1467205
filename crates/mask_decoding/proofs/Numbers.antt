-- The decode call by value refuses with 15 and 16: each refusal is that of one of its checks.
use Rattle.std.specs.Prelude.{Option, Some, None}
use Rattle.std.specs.Result.{result_err}
use mathlib.Core.List.{List}
use mathlib.Core.Path.{refl}
use Rattle.letters.specs.declared.Letter.{Letter}
use Rattle.letters.specs.Lists.{any_of}
use Rattle.refusals.specs.declared.Refusal.{Refusal}
use Rattle.sheet.proofs.Numbers.{IfRefused, law-of-refusal, refuse_if-lawful, then-lawful, limits-lawful}
use Rattle.mask_decoding.specs.Masks.{mask_fault, mask_answer, decode_mask}
use Rattle.mask_decoding.specs.Statements.{MaskRefusalNumbers}

answer-lawful : {Law : Refusal → Type 0} {fault : Option Refusal} (found : Option (List Letter)) → IfRefused Law fault
    → IfRefused Law (result_err (mask_answer fault found))
unfolding mask_answer
answer-lawful None IfRefused.unrefused = IfRefused.unrefused
answer-lawful (Some s) IfRefused.unrefused = IfRefused.unrefused
answer-lawful found (IfRefused.refused h) = IfRefused.refused h

pub mask-refusal-numbers : MaskRefusalNumbers
unfolding decode_mask mask_fault any_of
mask-refusal-numbers c mask =
    law-of-refusal (answer-lawful _ (then-lawful (limits-lawful c refl) (refuse_if-lawful _ _ refl)))
