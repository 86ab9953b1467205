-- Other sheets read by themselves, computed: published codes, and sheets with two faults, of which the one that is
-- checked first is the answer.
use Rattle.std.specs.Prelude.{Result, Ok, Err}
use mathlib.Core.List.{List, [], ◌∷◌, Memᴰ}
use mathlib.Core.Path.{◌≡◌, refl}
use Prim.Native.String.{String}
use Rattle.letters.specs.declared.Letter.TheVariants.{I, X, Y, Z}
use Rattle.pauli.specs.Letters.{of_letters}
use Rattle.letters.specs.Lists.{bytes}
use Rattle.pauli.proofs.Table.{each}
use Rattle.refusals.specs.declared.Family.{Family}
use Rattle.refusals.specs.declared.Refusal.{Refusal}
use Rattle.code_record.specs.Record.{empty_code}
use Rattle.sheet.specs.Edges.{nine_qubits, eight_qubits, four_qubits, five_qubits, sheet_c}
use Rattle.admission.specs.Admission.{read_sheet}
use Rattle.admission.specs.Distance.{refuting_pair}
use Rattle.admission.specs.Definitions.{definitions}

record Entry : Type 0 where
  sheet : String
  answer : Result Unit Refusal

others : List Entry
others =
    -- ZZ on qubits 1 and 2 commutes with every generator and is lighter than d, and is no logical error: it is a
    -- generator.
    record { sheet = nine_qubits; answer = (Ok tt) }
    ∷ record { sheet = eight_qubits; answer = (Ok tt) }
    -- As printed, the two X rows anticommute. 9 runs over all rows before 10 begins, so with another last row it is 9.
    ∷ record { sheet = four_qubits "+IXZZ"; answer = Err (Refusal.LogicalPairing 6 Family.LogicalX) }
    ∷ record { sheet = four_qubits "+IXII"; answer = Err (Refusal.LogicalAnticommutes 8 Family.LogicalZ) }
    -- 6, and 7, before 9 and 10
    ∷ record {
      sheet = "n=3\nd=1\ng=+XII\ng=+ZII\nx=+XII\nz=+XII\nw=IIX\n";
      answer = Err (Refusal.GeneratorsAnticommute 4 Family.Generator);
    }
    ∷ record {
      sheet = "n=4\nd=1\ng=+XXII\ng=+ZZII\ng=+YYII\nx=+IXXI\nz=+IIZI\nw=IIXI\n";
      answer = Err (Refusal.MinusIdentity 5 Family.Generator);
    }
    -- 10 before 11, and 11 before 12 and 13
    ∷ record {
      sheet = five_qubits "3" "+XXXXX" "+XXXXX" "XXXXX";
      answer = Err (Refusal.LogicalPairing 8 Family.LogicalZ);
    }
    ∷ record { sheet = five_qubits "3" "+XXXXX" "+ZZZZZ" "XIIII"; answer = Err (Refusal.ClaimedWeight 9) }
    ∷ record { sheet = five_qubits "3" "+XXXXX" "+ZZZZZ" "XZZXI"; answer = Err (Refusal.ClaimedWeight 9) }
    -- The heaviest error that refutes a distance d has weight d - 1. Of one letter, F has none.
    ∷ record {
      sheet = "n=2\nd=2\ng=+ZZ\nx=+XX\nz=+ZI\nw=XX\n";
      answer =
          Err
          (Refusal.DistanceRefuted 6 (record { n = 2; e = of_letters (I ∷ Z ∷ []); f = of_letters (I ∷ I ∷ []) }));
    }
    ∷ []

others-right : (e : Entry) → Memᴰ e others → (read_sheet (bytes e.sheet)).answer ≡ e.answer
unfolding others definitions
others-right = each (λ e. (read_sheet (bytes e.sheet)).answer) (λ e. e.answer) others refl

-- Beside a refusal stands the empty record.
refused-record : (read_sheet (bytes sheet_c)).code ≡ empty_code
unfolding definitions
refused-record = refl

-- Six letters other than I: the first three are E, and the others F. Of five, three are E.
split-errors :
    refuting_pair 7 (X ∷ I ∷ Z ∷ Y ∷ Z ∷ X ∷ Y ∷ [])
    ≡ record { n = 7; e = of_letters (X ∷ I ∷ Z ∷ Y ∷ I ∷ I ∷ I ∷ []); f = of_letters (I ∷ I ∷ I ∷ I ∷ Z ∷ X ∷ Y ∷ []) }
unfolding definitions
split-errors = refl

split-five :
    refuting_pair 5 (Y ∷ Y ∷ Z ∷ X ∷ Z ∷ [])
    ≡ record { n = 5; e = of_letters (Y ∷ Y ∷ Z ∷ I ∷ I ∷ []); f = of_letters (I ∷ I ∷ I ∷ X ∷ Z ∷ []) }
unfolding definitions
split-five = refl
