-- The characters of the first rows of an array, laid one by one: how many there are, and which stands at a place. And
-- what the call answers.
use Rattle.std.specs.Prelude.{Result, Ok, Err}
use mathlib.Core.Bool.{true, false}
use mathlib.Core.List.{List}
use mathlib.Core.Path.{◌≡◌, refl, ap, sym, ◌∙◌}
use Prim.Native.Nat.{ℕ, ◌+◌, ◌≤◌, ◌<◌}
use native.Mathlib.Omega.{arith}
use borrow.Author.Tests.{lt-ltb, le-ltb}
use lib.ListN.{length, take, set, get_or, length-map, length-take, get_or-map}
use lib.Seq.{get_or-take, take_all}
use Rattle.pauli.specs.declared.Pauli.{Pauli}
use Rattle.pauli.specs.Product.{identity, anticommutes}
use Rattle.pauli.specs.Syndrome.{syndrome}
use Rattle.pauli.proofs.SyndromeMask.{length-syndrome}
use Rattle.code_record.specs.declared.Code.{Code}
use Rattle.code_record.specs.Record.{row_room, generators, within_limits}
use Rattle.refusals.specs.declared.Refusal.{Refusal}
use Rattle.refusals.specs.Refusals.{◌then◌}
use Rattle.sheet.specs.Text.{laid, untouched, guarded, room_fault}
use Rattle.sheet.proofs.Laid.{byte-laid}
use Rattle.sheet.proofs.WrittenText.{refuse_if-true, refuse_if-false, limits-broken, limits-kept}
use Rattle.decoder.specs.Syndrome.{bit_byte, syndrome_text, write_syndrome}
use Rattle.syndrome_writer.specs.Characters.{characters_written}

abbrev pub characters_of : ℕ → List Pauli → Pauli → List ℕ
characters_of r g P = syndrome_text (syndrome (take r g) P)

-- ---- the characters

module _ (r : ℕ) (g : List Pauli) (P : Pauli) (room : length g ≡ row_room) (few : r ≤ row_room) where
  length-characters : length (characters_of r g P) ≡ r
  unfolding syndrome_text
  length-characters =
      length-map (syndrome (take r g) P) bit_byte ∙ length-syndrome (take r g) P
      ∙ length-take r g ∙ omega arith

  pub characters-whole : (place : ℕ) → r ≤ place → take place (characters_of r g P) ≡ characters_of r g P
  characters-whole place h = take_all place (characters_of r g P) (omega (arith, length-characters))

  character-at : (place : ℕ) → place < r
      → get_or (characters_of r g P) place (bit_byte (anticommutes identity P))
      ≡ bit_byte (anticommutes (get_or g place identity) P)
  unfolding syndrome_text syndrome
  character-at place h =
      get_or-map bit_byte (syndrome (take r g) P) place (anticommutes identity P)
      ∙ ap bit_byte (get_or-map (λ row. anticommutes row P) (take r g) place identity)
      ∙ ap (λ row. bit_byte (anticommutes row P)) (get_or-take r g place identity h)

  module _ (buffer : List ℕ) (fits : r ≤ length buffer) (place : ℕ) where
    -- One more character of r.
    pub character-laid : place < r
        → set (laid (take place (characters_of r g P)) buffer) place
        (bit_byte (anticommutes (get_or g place identity) P))
        ≡ laid (take (place + 1) (characters_of r g P)) buffer
    character-laid h =
        let text = characters_of r g P in
        ap (λ (x : ℕ). set (laid (take place text) buffer) place x) (sym (character-at place h))
        ∙ byte-laid text buffer (omega (arith, length-characters)) place _ (omega (arith, length-characters))

-- ---- the call

-- What it has to answer, as its code tells it.
module _ (code : Code) (P : Pauli) (buffer : List ℕ) where
  abbrev Answers : Result ℕ Refusal → List ℕ → Type 0
  Answers answer after =
      (answer ≡ characters_written code.r (write_syndrome code P buffer).answer)
      × (after ≡ (write_syndrome code P buffer).buffer)

  pub outside-limits : within_limits code ≡ false → Answers (Err Refusal.RecordLimits) buffer
  unfolding write_syndrome guarded untouched ◌then◌ characters_written
  outside-limits h = rw (limits-broken code h) (refl, refl)

  module _ (within : within_limits code ≡ true) where
    pub too_short : length buffer < code.r → Answers (Err Refusal.ShortBuffer) buffer
    unfolding write_syndrome guarded untouched ◌then◌ room_fault characters_written
    too_short h =
        rw (limits-kept code within, refuse_if-true Refusal.ShortBuffer (lt-ltb (length buffer) code.r h))
        (refl, refl)

    pub has_room : code.r ≤ length buffer → {after : List ℕ} → after ≡ laid (characters_of code.r code.g P) buffer
        → Answers (Ok code.r) after
    unfolding write_syndrome guarded ◌then◌ room_fault generators characters_written
    has_room h content =
        rw (limits-kept code within, refuse_if-false Refusal.ShortBuffer (le-ltb (length buffer) code.r h))
        (refl, content)

-- ---- without the count

pub counted_given : (r : ℕ) {count : ℕ} {answer : Result Unit Refusal} → Ok count ≡ characters_written r answer
    → Ok tt ≡ answer
unfolding characters_written
counted_given r {answer = Ok _} e = refl
counted_given r {answer = Err refusal} e = let z : ◌≡◌ {A = ℕ} 0 1 = cc in absurd (omega arith)

pub counted_refused : (r : ℕ) {refusal : Refusal} {answer : Result Unit Refusal}
    → Err refusal ≡ characters_written r answer → Err refusal ≡ answer
unfolding characters_written
counted_refused r {answer = Ok _} e = let z : ◌≡◌ {A = ℕ} 0 1 = cc in absurd (omega arith)
counted_refused r {answer = Err other} e = cc
