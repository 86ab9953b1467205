-- The lines of n, k, d and t: they are those of two numbers each, with their length. And what the call answers.
use Rattle.std.specs.Prelude.{Ok}
use mathlib.Core.List.{List, [], ◌∷◌, ◌++◌, append_assoc}
use mathlib.Core.Path.{◌≡◌, refl, ap, sym, ◌∙◌}
use Prim.Native.Nat.{ℕ, ◌+◌, ◌≤◌}
use native.Mathlib.Omega.{arith}
use lib.ListN.{length, length-append}
use Rattle.letters.specs.Lists.{bytes}
use Rattle.sheet.specs.Text.{line, decimal, laid}
use Rattle.sheet.proofs.WrittenText.{written-whole}
use Rattle.number_writer.specs.Lines.{number_text}
use Rattle.number_writer.proofs.Numbers.{length-number_text}
use Rattle.numbers_writer.specs.Numbers.{numbers_text}
use Rattle.numbers_writer.proofs.Numbers.{length-numbers_text}
use Rattle.header_writer.specs.Header.{header_text, write_header}

module _ (n k d t : ℕ) where
  abbrev pub lines_nk : List ℕ
  lines_nk = numbers_text (110 ∷ 61 ∷ []) n (107 ∷ 61 ∷ []) k

  abbrev pub lines_dt : List ℕ
  lines_dt = numbers_text (100 ∷ 61 ∷ []) d (116 ∷ 61 ∷ []) t

  pub header-parts : lines_nk ++ lines_dt ≡ header_text n k d t
  unfolding header_text numbers_text number_text line bytes
  header-parts = sym (append_assoc lines_nk (line "d=" (decimal d)) (line "t=" (decimal t)))

  pub length-header_text : length (header_text n k d t)
      ≡ length (decimal n) + length (decimal k) + length (decimal d) + length (decimal t) + 12
  length-header_text =
      ap length (sym header-parts)
      ∙ omega (
        arith,
        length-append lines_nk lines_dt,
        length-numbers_text (110 ∷ 61 ∷ []) n (107 ∷ 61 ∷ []) k,
        length-numbers_text (100 ∷ 61 ∷ []) d (116 ∷ 61 ∷ []) t,
        length-number_text (110 ∷ 61 ∷ []) n,
        length-number_text (107 ∷ 61 ∷ []) k,
        length-number_text (100 ∷ 61 ∷ []) d,
        length-number_text (116 ∷ 61 ∷ []) t,
      )

  -- What a caller with room is answered.
  pub header-has-room : (buffer : List ℕ) → length (header_text n k d t) ≤ length buffer
      → write_header n k d t buffer
      ≡ record { answer = Ok (length (header_text n k d t)); buffer = laid (header_text n k d t) buffer }
  unfolding write_header
  header-has-room buffer = written-whole _ buffer refl
