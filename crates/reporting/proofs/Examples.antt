-- Reports at the edges, computed: codes that tell right from nearly right, the largest n, faults in the `s=` lines,
-- a short buffer.
use Rattle.std.specs.Prelude.{Ok, Err}
use mathlib.Core.List.{List, [], ◌∷◌, ◌++◌, map, Memᴰ}
use mathlib.Core.Path.{◌≡◌, refl}
use Prim.Native.String.{String, ◌++◌ as ◌⧺◌}
use Prim.Native.Nat.{ℕ, zero, suc, ◌-◌}
use lib.ListN.{replicate}
use Rattle.letters.specs.declared.Letter.{Letter}
use Rattle.letters.specs.declared.Letter.TheVariants.{I, X, Z}
use Rattle.letters.specs.declared.Sign.TheVariants.{Plus, Minus}
use Rattle.pauli.specs.Letters.{signed_row, of_letters}
use Rattle.letters.specs.Lists.{bytes}
use Rattle.pauli.proofs.Table.{each}
use Rattle.code_record.specs.declared.Code.{Code}
use Rattle.refusals.specs.declared.Refusal.{Refusal}
use Rattle.code_record.specs.Record.{code_of}
use Rattle.sheet.specs.Edges.{nine_qubits, eight_qubits, four_qubits, sheet_c, sheet_k}
use Rattle.sheet.specs.Text.{line_feed, untouched}
use Rattle.sheet.specs.Writer.{sheet_text}
use Rattle.reporting.specs.Definitions.{definitions}
use Rattle.reporting.specs.Report.{report_text, write_report}

record Entry : Type 0 where
  input : String
  output : String

-- Codes on which a wrong reading of the rules differs from the right one.
others : List Entry
others =
    -- Nine qubits: ZZ on 1-2 has syndrome 0 and is no logical error; Z on 1, 2 and 3 share a syndrome.
    record {
      input = nine_qubits ⧺ "s=00000010\n";
      output =
          "n=9\nk=1\nd=3\nt=1\nh=+XXXIIIXXX\nh=+IIIXXXXXX\nh=+ZIZIIIIII\nh=+IZZIIIIII\nh=+IIIZIZIII\nh=+IIIIZZIII\n"
          ⧺ "h=+IIIIIIZIZ\nh=+IIIIIIIZZ\nc=IIZIIIIII\n";
    }
    -- Five qubits and a sixth with the generator X: Y and Z on it share a syndrome, and Y is earlier.
    ∷ record {
      input =
          "n=6\nd=3\ng=+XZZXII\ng=+IXZZXI\ng=+XIXZZI\ng=+ZXIXZI\ng=-IIIIIX\nx=+XXXXXI\nz=+ZZZZZI\nw=IYYIXI\n"
          ⧺ "s=00001\n";
      output = "n=6\nk=1\nd=3\nt=1\nh=+YZIZYI\nh=+IXZZXI\nh=+ZZXIXI\nh=+ZIZYYI\nh=-IIIIIX\nc=IIIIIY\n";
    }
    -- A published code of eight qubits, three of them logical.
    ∷ record {
      input = eight_qubits;
      output = "n=8\nk=3\nd=3\nt=1\nh=+XZIYIYXZ\nh=+IXZYIXZY\nh=-IZXYZIYX\nh=-IIZZYYXX\nh=+ZZZZZZZZ\n";
    }
    -- A code of four qubits as it is printed: 10 at line 6; with another last row 9 at line 8 comes before it.
    ∷ record { input = four_qubits "+IXZZ"; output = "r=10\nat=6\n" }
    ∷ record { input = four_qubits "+IXII"; output = "r=9\nat=8\n" }
    -- Of three qubits, +XII and +ZII anticommute.
    ∷ record { input = "n=3\nd=1\ng=+XII\ng=+ZII\nx=+IIX\nz=+IIZ\nw=IIX\n"; output = "r=6\nat=4\n" }
    -- K and what stands behind it. Its w is line 6, so its first syndrome is line 7.
    ∷ record { input = sheet_k; output = "n=2\nk=1\nd=1\nt=0\nh=+ZZ\n" }
    ∷ record { input = sheet_k ⧺ "s=0\n\n"; output = "r=16\nat=8\n" }
    ∷ record { input = sheet_k ⧺ "s=0\ns=1"; output = "r=16\nat=8\n" }
    ∷ record { input = sheet_k ⧺ "s=0\r\n"; output = "r=16\nat=7\n" }
    ∷ record { input = sheet_k ⧺ "s=\n"; output = "r=16\nat=7\n" }
    ∷ record { input = sheet_k ⧺ "s=00\n"; output = "r=16\nat=7\n" }
    ∷ record { input = sheet_k ⧺ "s=2\n"; output = "r=16\nat=7\n" }
    ∷ record { input = sheet_k ⧺ "c=0\n"; output = "r=16\nat=7\n" }
    -- 14 comes before 16.
    ∷ record { input = sheet_c ⧺ "s=\n"; output = "r=14\nat=9\ne=IIXYI\nf=IIIIX\n" }
    ∷ []

others-right : (e : Entry) → Memᴰ e others → report_text (bytes e.input) ≡ bytes e.output
unfolding others definitions
others-right = each (λ e. report_text (bytes e.input)) (λ e. bytes e.output) others refl

-- 1 comes before the sheet is looked at, and counts the `s=` lines too.
too_long : report_text (bytes sheet_k ++ replicate 4066 line_feed) ≡ bytes "r=1\nat=0\n"
unfolding definitions
too_long = refl

-- ---- the largest n, with one generator

range : ℕ → ℕ → List ℕ
range from zero = []
range from (suc m) = from ∷ range (suc from) m

-- X on qubit 1 and on another, and Z on that one: they pair, and commute with Z on all qubits.
letter_at_other : Letter → Letter → ℕ → List Letter
letter_at_other first other j = first ∷ replicate j I ++ other ∷ replicate (22 - j) I

code24 : Code
code24 =
    code_of 24 1 (signed_row Minus (replicate 24 Z) ∷ []) (map (λ j. signed_row Plus (letter_at_other X X j))
    (range 0 23))
    (map (λ j. signed_row Plus (letter_at_other I Z j)) (range 0 23)) (of_letters (Z ∷ replicate 23 I))

report24 :
    report_text (sheet_text code24 ++ bytes "s=0\ns=1\n")
    ≡ bytes "n=24\nk=23\nd=1\nt=0\nh=-ZZZZZZZZZZZZZZZZZZZZZZZZ\nc=IIIIIIIIIIIIIIIIIIIIIIII\nc=none\n"
unfolding code24 letter_at_other range definitions
report24 = refl

-- ---- the call

report-written :
    write_report (bytes "n=1\n") (bytes "abcdefghijkl")
    ≡ record { answer = Ok 9; buffer = bytes "r=3\nat=1\njkl" }
unfolding definitions
report-written = refl

report-short :
    write_report (bytes "n=1\n") (bytes "abcdefgh")
    ≡ untouched (Err Refusal.ShortBuffer) (bytes "abcdefgh")
unfolding definitions
report-short = refl
