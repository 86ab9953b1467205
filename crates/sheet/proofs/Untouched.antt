-- A refusal leaves the buffer as it was. Every call is `guarded`: a refusal comes from its checks, and leaves the
-- buffer, or it would have to be the call's own answer, which is none.
use Rattle.std.specs.Prelude.{Option, Some, None}
use Rattle.std.specs.Result.{result_err}
use Rattle.std.proofs.lemmas.Option.{none-some}
use mathlib.Core.List.{List}
use mathlib.Core.Path.{◌≡◌, refl, sym, ◌∙◌}
use Prim.Native.Nat.{ℕ}
use Rattle.refusals.specs.declared.Refusal.{Refusal}
use Rattle.sheet.specs.Statements.{RefusalLeaves, WriterRefusalsLeave}
use Rattle.sheet.specs.Text.{After, untouched, guarded, written}
use Rattle.sheet.specs.Writer.{write_sheet}

module _ {A : Type 0} (refusalOf : A → Option Refusal) (buffer : List ℕ) where
  -- an answer that is no refusal
  pub answer-leaves : (after : After A) → refusalOf after.answer ≡ None → RefusalLeaves refusalOf buffer after
  answer-leaves after e = record { unchanged = λ refusal h. absurd (none-some refusal (sym e ∙ h)) }

  pub untouched-leaves : (answer : A) → RefusalLeaves refusalOf buffer (untouched answer buffer)
  unfolding untouched
  untouched-leaves answer = record { unchanged = λ refusal h. refl }

  pub guarded-leaves : (refused : Refusal → A) (fault : Option Refusal) {after : After A}
      → RefusalLeaves refusalOf buffer after → RefusalLeaves refusalOf buffer (guarded refused fault buffer after)
  unfolding guarded
  guarded-leaves refused None h = h
  guarded-leaves refused (Some refusal) h = untouched-leaves (refused refusal)

pub written-leaves : (fault : Option Refusal) (text buffer : List ℕ)
    → RefusalLeaves result_err buffer (written fault text buffer)
unfolding written
written-leaves fault text buffer = guarded-leaves result_err buffer _ _
    (answer-leaves result_err buffer _ refl)

pub writer-refusals-leave : WriterRefusalsLeave
unfolding write_sheet
writer-refusals-leave c buffer = written-leaves _ _ buffer
