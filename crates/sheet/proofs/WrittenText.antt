-- What a call answers whose answer is a text: the fault of its checks, or 17, or the text and its length. Each outcome
-- is read off `written`, once for every such call.
use Rattle.std.specs.Prelude.{Option, Some, None, Result, Ok, Err}
use mathlib.Core.Bool.{Bool, true, false, not}
use mathlib.Core.List.{List}
use mathlib.Core.Path.{◌≡◌, ap, sym, ◌∙◌}
use Prim.Native.Nat.{ℕ, ◌≤◌, ◌<◌}
use borrow.Author.Tests.{lt-ltb, le-ltb}
use lib.ListN.{length}
use Rattle.code_record.specs.declared.Code.{Code}
use Rattle.refusals.specs.declared.Refusal.{Refusal}
use Rattle.code_record.specs.Record.{within_limits, limits_fault}
use Rattle.refusals.specs.Refusals.{refuse_if, ◌then◌, count_of}
use Rattle.sheet.specs.Text.{After, laid, untouched, guarded, room_fault, written}

-- ---- one check

module _ {test : Bool} (refusal : Refusal) where
  pub refuse_if-true : test ≡ true → refuse_if test refusal ≡ Some refusal
  unfolding refuse_if
  refuse_if-true h = ap (λ (t : Bool). refuse_if t refusal) h

  pub refuse_if-false : test ≡ false → refuse_if test refusal ≡ None
  unfolding refuse_if
  refuse_if-false h = ap (λ (t : Bool). refuse_if t refusal) h

module _ (c : Code) where
  pub limits-broken : within_limits c ≡ false → limits_fault c ≡ Some Refusal.RecordLimits
  unfolding limits_fault
  limits-broken h = refuse_if-true _ (ap not h)

  pub limits-kept : within_limits c ≡ true → limits_fault c ≡ None
  unfolding limits_fault
  limits-kept h = refuse_if-false _ (ap not h)

-- ---- the call

module _ {fault : Option Refusal} (text buffer : List ℕ) where
  pub written-fault : {refusal : Refusal} → fault ≡ Some refusal
      → written fault text buffer ≡ untouched (Err refusal) buffer
  unfolding written guarded ◌then◌
  written-fault e = rw e

  pub written-short : fault ≡ None → length buffer < length text
      → written fault text buffer ≡ untouched (Err Refusal.ShortBuffer) buffer
  unfolding written guarded ◌then◌ room_fault
  written-short e h = rw (e, refuse_if-true _ (lt-ltb (length buffer) (length text) h))

  pub written-whole : fault ≡ None → length text ≤ length buffer
      → written fault text buffer ≡ record { answer = Ok (length text); buffer = laid text buffer }
  unfolding written guarded ◌then◌ room_fault
  written-whole e h = rw (e, refuse_if-false _ (le-ltb (length buffer) (length text) h))

-- What such a call has to answer, as its code tells it.
abbrev pub Answers : Option Refusal → List ℕ → List ℕ → Result ℕ Refusal → List ℕ → Type 0
Answers fault text buffer answer after =
    (answer ≡ (written fault text buffer).answer) × (after ≡ (written fault text buffer).buffer)

module _ {fault : Option Refusal} (text buffer : List ℕ) where
  pub answers-fault : {refusal : Refusal} → fault ≡ Some refusal
      → Answers fault text buffer (Err refusal) buffer
  unfolding untouched
  answers-fault h =
      let e = sym (written-fault text buffer h) in (ap (λ after. after.answer) e, ap (λ after. after.buffer) e)

  pub answers-short : fault ≡ None → length buffer < length text
      → Answers fault text buffer (Err Refusal.ShortBuffer) buffer
  unfolding untouched
  answers-short h short =
      let e = sym (written-short text buffer h short) in (ap (λ after. after.answer) e, ap (λ after. after.buffer) e)

  pub answers-whole : fault ≡ None → length text ≤ length buffer → {count : ℕ} {after : List ℕ} → count ≡ length text
      → after ≡ laid text buffer → Answers fault text buffer (Ok count) after
  answers-whole h room count content =
      let e = sym (written-whole text buffer h room) in
      (ap Ok count ∙ ap (λ after. after.answer) e, content ∙ ap (λ after. after.buffer) e)

-- What a call with room counted, and what it left of the buffer.
module _
    {after : After (Result ℕ Refusal)} (text buffer : List ℕ)
    (whole : after ≡ record { answer = Ok (length text); buffer = laid text buffer }) where
  pub count-is : {answer : Result ℕ Refusal} → answer ≡ after.answer → {m : ℕ} → m ≡ count_of answer → m ≡ length text
  count-is told e = e ∙ ap count_of (told ∙ ap (λ a. a.answer) whole)

  pub content-is : {part : List ℕ} → part ≡ after.buffer → part ≡ laid text buffer
  content-is told = told ∙ ap (λ a. a.buffer) whole
