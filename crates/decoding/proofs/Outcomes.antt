-- What the decode call answers, as its code tells it: a refusal by one of its three checks, or what the search found
-- for the syndrome, with its letters in the buffer. The mask that was read is that of the syndrome's bits, so the
-- search by the mask finds the correction for these.
use Rattle.std.specs.Prelude.{Option, Some, None, Result, Ok, Err}
use Rattle.letters.specs.Options.{bind}
use mathlib.Core.Bool.{Bool, true, false, false≢true}
use mathlib.Core.List.{List}
use mathlib.Core.Path.{◌≡◌, refl, ap, sym, ◌∙◌}
use Prim.Native.Nat.{ℕ, ◌≤◌, ◌<◌}
use native.Mathlib.Omega.{arith}
use borrow.Author.Tests.{lt-ltb, le-ltb}
use lib.ListN.{length}
use Rattle.letters.specs.declared.Letter.{Letter}
use Rattle.pauli.specs.declared.Pauli.{Pauli}
use Rattle.pauli.specs.Letters.{letter_text}
use Rattle.pauli.specs.Order.{strings_up_to}
use Rattle.pauli.specs.Product.{identity}
use Rattle.pauli.proofs.EarlierOrder.{strings_up_to-listed}
use Rattle.pauli.proofs.First.{first-is-earliest}
use Rattle.refusals.specs.declared.Refusal.{Refusal}
use Rattle.refusals.specs.Refusals.{◌then◌}
use Rattle.code_record.specs.declared.Code.{Code}
use Rattle.code_record.specs.Record.{row_room, radius, generators, within_limits, Sized}
use Rattle.code_record.proofs.Limits.{limits}
use Rattle.sheet.specs.Text.{laid, untouched, guarded, room_fault}
use Rattle.sheet.proofs.Lengths.{length-generators}
use Rattle.sheet.proofs.WrittenText.{refuse_if-true, refuse_if-false, limits-broken, limits-kept}
use Rattle.letter_words.specs.Words.{word_qubits, earliest_with}
use Rattle.decoder.specs.Correction.{correction, corrected, decode}
use Rattle.decoder.specs.Syndrome.{read_syndrome, syndrome_fault}
use Rattle.decoder.proofs.Bits.{read_length, syndrome-written}
use Rattle.decoder.proofs.StringText.{string-text}
use Rattle.syndrome_reader.specs.Mask.{read_mask}
use Rattle.syndrome_reader.proofs.ReadMask.{mask-is-of-bits}
use Rattle.corrections.specs.Corrections.{correction_of}
use Rattle.corrections.proofs.ByValue.{qubits-have-words, same-correction}
use Rattle.decoding.specs.Letters.{letters_decoded}

-- ---- the letters of what was found

-- What is answered on n qubits, and what the buffer holds then, where the search has this outcome.
abbrev Ends : ℕ → Option (List Letter) → List ℕ → Result (Option ℕ) Refusal → List ℕ → Type 0
Ends n found buffer answer after =
    (answer ≡ letters_decoded n (corrected found buffer).answer) × (after ≡ (corrected found buffer).buffer)

is_found : Option Pauli → Bool
is_found (Some P) = true
is_found None = false

pauli_in : Option Pauli → Pauli
pauli_in (Some P) = P
pauli_in None = identity

pub ends-none : (n : ℕ) (found : Option (List Letter)) (buffer : List ℕ) → None ≡ correction_of found
    → Ends n found buffer (Ok None) buffer
unfolding correction_of corrected untouched is_found letters_decoded
ends-none n None buffer e = (refl, refl)
ends-none n (Some s) buffer e = absurd (false≢true (ap is_found e))

pub ends-letters : (n : ℕ) (found : Option (List Letter)) (buffer after : List ℕ) (P : Pauli)
    → ((s : List Letter) → found ≡ Some s → length s ≡ n) → Some P ≡ correction_of found
    → after ≡ laid (letter_text n P) buffer
    → Ends n found buffer (Ok (Some n)) after
unfolding correction_of corrected is_found pauli_in letters_decoded
ends-letters n None buffer after P count e content = absurd (false≢true (sym (ap is_found e)))
ends-letters n (Some s) buffer after P count e content = (
  refl,
  content ∙ ap (λ P. laid (letter_text n P) buffer) (ap pauli_in e)
      ∙ ap (λ text. laid text buffer) (string-text n s (count s refl)),
)

-- A string that is found for a record within limits has n letters.
pub found-count : (c : Code) (t mask : ℕ) → within_limits c ≡ true → (s : List Letter)
    → earliest_with c t mask ≡ Some s → length s ≡ c.n
unfolding earliest_with
found-count c t mask within s e =
    (first-is-earliest _ (strings_up_to (word_qubits c) t) (strings_up_to-listed (word_qubits c) t) s e).meets.0
    ∙ qubits-have-words c within

-- ---- the call

module _ (c : Code) (characters buffer : List ℕ) where
  abbrev Answers : Result (Option ℕ) Refusal → List ℕ → Type 0
  Answers answer after =
      (answer ≡ letters_decoded c.n (decode c characters buffer).answer)
      × (after ≡ (decode c characters buffer).buffer)

  pub outside-limits : within_limits c ≡ false → Answers (Err Refusal.RecordLimits) buffer
  unfolding decode guarded untouched ◌then◌ letters_decoded
  outside-limits h = rw (limits-broken c h) (refl, refl)

  module _ (within : within_limits c ≡ true) where
    few : c.r ≤ row_room
    few = let l = limits c within in omega (arith, l.qubits, l.generator_count)

    pub no-syndrome : read_mask c.r characters ≡ None
        → Answers (Err (Refusal.Syndrome 0)) buffer
    unfolding decode guarded untouched syndrome_fault ◌then◌ letters_decoded
    no-syndrome h =
        rw (
          limits-kept c within,
          mask-is-of-bits.malformed c.r characters h few,
          refuse_if-true (Refusal.Syndrome 0) refl,
        )
        (refl, refl)

    module _ (mask : ℕ) (read : read_mask c.r characters ≡ Some mask) where
      abbrev bits : List Bool
      bits = (mask-is-of-bits.told c.r characters mask read).0

      bits-read : read_syndrome c.r characters ≡ Some bits
      bits-read = (mask-is-of-bits.told c.r characters mask read).1

      pub too_short : length buffer < c.n → Answers (Err Refusal.ShortBuffer) buffer
      unfolding decode guarded untouched syndrome_fault ◌then◌ room_fault letters_decoded
      too_short h =
          rw (
            limits-kept c within,
            bits-read,
            refuse_if-false (Refusal.Syndrome 0) refl,
            refuse_if-true Refusal.ShortBuffer (lt-ltb (length buffer) c.n h),
          )
          (refl, refl)

      module _ (sized : Sized c) (room : c.n ≤ length buffer) where
        bits-count : length bits ≡ length (generators c)
        bits-count =
            (syndrome-written c.r characters bits (read_length c.r characters bits bits-read) bits-read).0
            ∙ sym (length-generators c sized (limits c within))

        found-is : earliest_with c (radius c) mask ≡ correction c bits
        found-is =
            ap (earliest_with c (radius c)) (mask-is-of-bits.told c.r characters mask read).2
            ∙ same-correction c bits bits-count within

        decoded-is : corrected (correction c bits) buffer ≡ decode c characters buffer
        unfolding decode guarded syndrome_fault ◌then◌ room_fault bind
        decoded-is =
            rw (
              limits-kept c within,
              bits-read,
              refuse_if-false (Refusal.Syndrome 0) refl,
              refuse_if-false Refusal.ShortBuffer (le-ltb (length buffer) c.n room),
            )

        pub has_room : {answer : Result (Option ℕ) Refusal} {after : List ℕ}
            → Ends c.n (earliest_with c (radius c) mask) buffer answer after → Answers answer after
        has_room ends =
            let e = ap (λ found. corrected found buffer) found-is ∙ decoded-is in
            (ends.0 ∙ ap (λ end. letters_decoded c.n end.answer) e, ends.1 ∙ ap (λ end. end.buffer) e)
