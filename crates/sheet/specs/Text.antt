-- Texts: lines and numbers, and what an output buffer holds after a call.
use Rattle.std.specs.Prelude.{Option, Some, None, Result, Ok, Err}
use Rattle.std.specs.Prelude.{true, false, List, [], ◌∷◌, ◌++◌, ℕ, zero, suc, ◌+◌, ◌/◌, ◌%◌, ltb, length, drop}
use Prim.Native.Char.{code}
use Prim.Native.String.{String}
use Rattle.letters.specs.Lists.{bytes}
use Rattle.refusals.specs.declared.Refusal.{Refusal}
use Rattle.refusals.specs.Refusals.{refuse_if, ◌then◌}

-- RULES, "The sheet": a line is a key, a value and a line feed.
unfoldable pub line_feed : ℕ
line_feed = 10

unfoldable pub line : String → List ℕ → List ℕ
line key value = bytes key ++ value ++ line_feed ∷ []

-- RULES, "The writer": a number has no leading zeros. The first argument bounds how many digits it has.
unfoldable pub digits_of : ℕ → ℕ → List ℕ
digits_of zero m = []
digits_of (suc k) m =
    elim (ltb m 10) [ true ↦ (code "0" + m) ∷ [] | false ↦ digits_of k (m / 10) ++ (code "0" + m % 10) ∷ [] ]

unfoldable pub decimal : ℕ → List ℕ
decimal m = digits_of (suc m) m

-- The answer of a call that is lent an output buffer, and what the buffer holds afterwards.
pub record After (A : Type 0) : Type 0 where
  pub answer : A
  pub buffer : List ℕ

-- RULES, "Calls and buffers": the text is written from the buffer's start on, and the bytes behind it stay.
unfoldable pub laid : List ℕ → List ℕ → List ℕ
laid text buffer = text ++ drop (length text) buffer

-- RULES, "Calls and buffers": a refusal leaves the buffer as it was.
unfoldable pub untouched : {A : Type 0} → A → List ℕ → After A
untouched answer buffer = record { answer = answer; buffer = buffer }

-- A call that is lent a buffer. The first fault of its checks is its answer, and the buffer stays; where there is none,
-- the call has its own answer.
unfoldable pub guarded : {A : Type 0} → (Refusal → A) → Option Refusal → List ℕ → After A → After A
guarded refused None buffer after = after
guarded refused (Some refusal) buffer after = untouched (refused refusal) buffer

-- RULES, "Refusals": 17, where the buffer is shorter than the answer, which has m bytes.
unfoldable pub room_fault : ℕ → List ℕ → Option Refusal
room_fault m buffer = refuse_if (ltb (length buffer) m) Refusal.ShortBuffer

-- RULES, "Calls and buffers": a call that writes a text tries 17 behind its other checks, and answers with the count of
-- bytes.
unfoldable pub written : Option Refusal → List ℕ → List ℕ → After (Result ℕ Refusal)
written fault text buffer =
    guarded Err (fault then room_fault (length text) buffer) buffer
    (record { answer = Ok (length text); buffer = laid text buffer })
