-- A buffer filled with letters one by one, and the front of a buffer that was lent to be filled.
use mathlib.Core.List.{List, ◌++◌, append-nil}
use mathlib.Core.Path.{◌≡◌, refl, ap, sym, ◌∙◌}
use Prim.Native.Nat.{ℕ, ◌+◌, ◌≤◌, ◌<◌}
use native.Mathlib.Omega.{arith}
use lib.ListN.{length, take, drop, set, get_or, get_or-map, drop_of_length-le}
use lib.Seq.{take_all, length-take-le}
use Rattle.letters.specs.declared.Letter.TheVariants.{I}
use Rattle.pauli.specs.declared.Pauli.{Pauli}
use Rattle.pauli.specs.Letters.{letter_text, letter_on, letters_of}
use Rattle.letters.specs.Letters.{letter_byte}
use Rattle.pauli.proofs.Letters.{letters-at}
use Rattle.sheet.specs.Text.{laid}
use Rattle.sheet.proofs.Laid.{byte-laid}
use Rattle.sheet.proofs.Lengths.{length-letter_text}

letter_at : (n place : ℕ) (P : Pauli) → place < n
    → get_or (letter_text n P) place (letter_byte I) ≡ letter_byte (letter_on place P)
unfolding letter_text
letter_at n place P h = get_or-map letter_byte (letters_of n P) place I ∙ ap letter_byte (letters-at n place P h)

-- What a buffer holds when the letters of its first places are stored.
pub filled_to : ℕ → Pauli → List ℕ → List ℕ
filled_to place P buffer = laid (take place (letter_text (length buffer) P)) buffer

module _ (P : Pauli) (buffer : List ℕ) where
  pub filled-nothing : buffer ≡ filled_to 0 P buffer
  unfolding filled_to laid
  filled-nothing = refl

  pub filled_more : (place : ℕ) → place < length buffer
      → set (filled_to place P buffer) place (letter_byte (letter_on place P)) ≡ filled_to (place + 1) P buffer
  unfolding filled_to
  filled_more place h =
      let count = length-letter_text (length buffer) P in
      ap (λ (x : ℕ). set (filled_to place P buffer) place x) (sym (letter_at (length buffer) place P h))
      ∙ byte-laid (letter_text (length buffer) P) buffer (omega (arith, count)) place (letter_byte I)
      (omega (arith, count))

  pub filled-whole : (place : ℕ) → length buffer ≤ place → filled_to place P buffer ≡ letter_text (length buffer) P
  unfolding filled_to laid
  filled-whole place h =
      let text = letter_text (length buffer) P in
      let count = length-letter_text (length buffer) P in
      ap (λ (t : List ℕ). t ++ drop (length t) buffer) (take_all place text (omega (arith, count)))
      ∙ ap (λ (rest : List ℕ). text ++ rest) (drop_of_length-le buffer {i = length text} (omega (arith, count)))
      ∙ append-nil text

-- The first n bytes of a buffer were lent, and came back filled.
pub front-filled : (n : ℕ) (P : Pauli) (buffer part : List ℕ) → n ≤ length buffer
    → part ≡ letter_text (length (take n buffer)) P → part ++ drop n buffer ≡ laid (letter_text n P) buffer
unfolding laid
front-filled n P buffer part room filled =
    ap (λ (t : List ℕ). t ++ drop n buffer)
    (filled ∙ ap (λ (m : ℕ). letter_text m P) (length-take-le n buffer room))
    ∙ ap (λ (m : ℕ). letter_text n P ++ drop m buffer) (sym (length-letter_text n P))
