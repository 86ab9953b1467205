-- The lines of two numbers: their length, and what the call answers.
use Rattle.std.specs.Prelude.{Ok}
use mathlib.Core.List.{List, ◌++◌}
use mathlib.Core.Path.{◌≡◌, refl, ap, sym, ◌∙◌}
use Prim.Native.Nat.{ℕ, ◌+◌, ◌≤◌}
use lib.ListN.{length, length-append}
use Rattle.sheet.specs.Text.{laid}
use Rattle.sheet.proofs.WrittenText.{written-whole}
use Rattle.number_writer.specs.Lines.{number_text}
use Rattle.numbers_writer.specs.Numbers.{numbers_text, write_numbers}

module _ (key : List ℕ) (m : ℕ) (key' : List ℕ) (m' : ℕ) where
  pub numbers-text : number_text key m ++ number_text key' m' ≡ numbers_text key m key' m'
  unfolding numbers_text
  numbers-text = refl

  pub length-numbers_text : length (numbers_text key m key' m') ≡ length (number_text key m) + length
      (number_text key' m')
  length-numbers_text = ap length (sym numbers-text) ∙ length-append (number_text key m) (number_text key' m')

  pub numbers-has-room : (buffer : List ℕ) → length (numbers_text key m key' m') ≤ length buffer
      → write_numbers key m key' m' buffer
      ≡ record {
        answer = Ok (length (numbers_text key m key' m'));
        buffer = laid (numbers_text key m key' m') buffer;
      }
  unfolding write_numbers
  numbers-has-room buffer = written-whole _ buffer refl
