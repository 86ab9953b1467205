-- The numbers with which the reader of the lines and the writer refuse. A law of refusals holds of a call's answer if
-- it holds of each check's refusal: it passes through a chain of checks and through a guarded call. The reader's
-- refusals come with what is known of its outcome.
use Rattle.std.specs.Prelude.{Option, Some, None, Err}
use Rattle.std.specs.Result.{result_err}
use mathlib.Core.Bool.{Bool, true, false}
use mathlib.Core.List.{List}
use mathlib.Core.Path.{◌≡◌, refl}
use Prim.Native.Nat.{ℕ}
use lib.ListN.{length}
use Rattle.letters.specs.Lists.{any_of}
use Rattle.code_record.specs.declared.Code.{Code}
use Rattle.refusals.specs.declared.Refusal.{Refusal}
use Rattle.code_record.specs.Record.{limits_fault}
use Rattle.refusals.specs.Refusals.{refuse_if, ◌then◌}
use Rattle.sheet.specs.Reader.{Parsed, SheetRead, answered, lines_reading, form_reading}
use Rattle.sheet.specs.Statements.{SheetRefusalNumbers}
use Rattle.sheet.specs.Text.{After, untouched, guarded, room_fault, written}
use Rattle.sheet.specs.Writer.{sheet_text, write_sheet}
use Rattle.sheet.proofs.Outcome.{Outcome, gets, stops}
use Rattle.sheet.proofs.ReadBack.{read-lines-outcome, read-form-outcome}

-- Where there is a refusal, it is lawful.
pub data IfRefused (Law : Refusal → Type 0) : Option Refusal → Type 0 where
  unrefused : IfRefused Law None
  refused : {refusal : Refusal} → Law refusal → IfRefused Law (Some refusal)

module _ {Law : Refusal → Type 0} where
  pub law-of-refusal : {fault : Option Refusal} → IfRefused Law fault → (refusal : Refusal) → fault ≡ Some refusal
      → Law refusal
  law-of-refusal h refusal e = lawful (rw e at h)
    where
      lawful : {refusal : Refusal} → IfRefused Law (Some refusal) → Law refusal
      lawful (refused h) = h

  pub refuse_if-lawful : (test : Bool) (refusal : Refusal) → Law refusal → IfRefused Law (refuse_if test refusal)
  unfolding refuse_if
  refuse_if-lawful true refusal h = refused h
  refuse_if-lawful false refusal h = unrefused

  pub then-lawful : {first next : Option Refusal} → IfRefused Law first → IfRefused Law next
      → IfRefused Law (first then next)
  unfolding ◌then◌
  then-lawful unrefused h = h
  then-lawful (refused h) _ = refused h

  pub limits-lawful : (c : Code) → Law Refusal.RecordLimits → IfRefused Law (limits_fault c)
  unfolding limits_fault
  limits-lawful c = refuse_if-lawful _ Refusal.RecordLimits

  pub room-lawful : (m : ℕ) (buffer : List ℕ) → Law Refusal.ShortBuffer → IfRefused Law (room_fault m buffer)
  unfolding room_fault
  room-lawful m buffer = refuse_if-lawful _ Refusal.ShortBuffer

  -- A call whose answer carries the refusals of its checks.
  pub guarded-lawful : {A : Type 0} (refusalOf : A → Option Refusal) (answer : Refusal → A)
      → ((refusal : Refusal) → refusalOf (answer refusal) ≡ Some refusal) → {fault : Option Refusal} (buffer : List ℕ)
      (after : After A) → IfRefused Law fault → IfRefused Law (refusalOf after.answer)
      → IfRefused Law (refusalOf (guarded answer fault buffer after).answer)
  unfolding guarded untouched
  guarded-lawful refusalOf answer carries buffer after unrefused h = h
  guarded-lawful refusalOf answer carries buffer after (refused {refusal} h) _ = rw (carries refusal) (refused h)

  pub written-lawful : {fault : Option Refusal} (text buffer : List ℕ) → IfRefused Law fault → Law Refusal.ShortBuffer
      → IfRefused Law (result_err (written fault text buffer).answer)
  unfolding written
  written-lawful text buffer h short =
      guarded-lawful result_err Err (λ refusal. refl) buffer _
      (then-lawful h (room-lawful (length text) buffer short)) unrefused

  answered-lawful : {Got : SheetRead → List ℕ → Type 0} {p : Parsed SheetRead} (s : List ℕ) → Outcome Got Law p
      → IfRefused Law (result_err (answered s p).answer)
  unfolding answered
  answered-lawful s (gets h) = unrefused
  answered-lawful s (stops h) = refused h

pub sheet-refusal-numbers : SheetRefusalNumbers
unfolding lines_reading form_reading write_sheet any_of
sheet-refusal-numbers = record {
  lines = λ s. law-of-refusal (answered-lawful s (read-lines-outcome s));
  alone = λ s. law-of-refusal (answered-lawful s (read-form-outcome s));
  writer = λ c buffer. law-of-refusal (written-lawful (sheet_text c) buffer (limits-lawful c refl) refl);
}
