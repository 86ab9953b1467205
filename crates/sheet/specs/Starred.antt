-- The sheets A to L (Edges) with their answers, as one table. The crate `reporting` proves every entry from the
-- definitions.
use Rattle.std.specs.Prelude.{Option, Some, None}
use Rattle.std.specs.Prelude.{List, [], ◌∷◌}
use Prim.Native.String.{String}
use Rattle.letters.specs.declared.Letter.TheVariants.{I, X, Y}
use Rattle.pauli.specs.Letters.{of_letters}
use Rattle.refusals.specs.declared.Family.{Family}
use Rattle.refusals.specs.declared.Refusal.{Refusal}
use Rattle.sheet.specs.Edges.{sheet_a, sheet_b, sheet_c, sheet_d, sheet_e, sheet_f, sheet_g, sheet_h, sheet_i, sheet_j}
use Rattle.sheet.specs.Edges.{sheet_k, sheet_l}

-- A sheet; its refusal when it is read by itself, or none where it is admitted; the `s=` lines that stand behind it in
-- a report; the report.
pub record Entry : Type 0 where
  pub sheet : String
  pub refusal : Option Refusal
  pub behind : String
  pub report : String

abbrev pub admitted : (sheet behind report : String) → Entry
admitted sheet behind report = record { sheet = sheet; refusal = None; behind = behind; report = report }

abbrev pub refused : (sheet behind : String) → Refusal → (report : String) → Entry
refused sheet behind refusal report =
    record { sheet = sheet; refusal = Some refusal; behind = behind; report = report }

-- The two `s=` lines of A, which the sheets that differ from A in one value keep.
unfoldable pub syndromes_a : String
syndromes_a = "s=0001\ns=1010\n"

-- What a report gives of A, and of B.
unfoldable pub report_a : String
report_a = "n=5\nk=1\nd=3\nt=1\nh=+YZIZY\nh=+IXZZX\nh=+ZZXIX\nh=+ZIZYY\nc=XIIII\nc=ZIIII\n"

unfoldable pub report_l : String
report_l =
    "n=7\nk=1\nd=3\nt=1\nh=+XIXIXIX\nh=+IXXIIXX\nh=+IIIXXXX\nh=+ZIZIZIZ\nh=+IZZIIZZ\nh=+IIIZZZZ\nc=IYIIIII\nc=none\n"

-- The refusal of C, with its two errors IIXYI and IIIIX.
unfoldable pub refusal_c : Refusal
refusal_c =
    Refusal.DistanceRefuted 9
    (record { n = 5; e = of_letters (I ∷ I ∷ X ∷ Y ∷ I ∷ []); f = of_letters (I ∷ I ∷ I ∷ I ∷ X ∷ []) })

unfoldable pub starred : List Entry
starred =
    admitted sheet_a syndromes_a report_a
    ∷ admitted sheet_b syndromes_a report_a
    ∷ refused sheet_c syndromes_a refusal_c "r=14\nat=9\ne=IIXYI\nf=IIIIX\n"
    ∷ refused sheet_d syndromes_a (Refusal.ClaimedInGroup 9) "r=13\nat=9\n"
    ∷ refused sheet_e syndromes_a (Refusal.ClaimedWeight 9) "r=11\nat=9\n"
    ∷ refused sheet_f syndromes_a (Refusal.ClaimedAnticommutes 9) "r=12\nat=9\n"
    ∷ refused sheet_g syndromes_a (Refusal.LogicalAnticommutes 7 Family.LogicalX) "r=9\nat=7\n"
    ∷ refused sheet_h syndromes_a (Refusal.LogicalPairing 8 Family.LogicalZ) "r=10\nat=8\n"
    ∷ refused sheet_i "" (Refusal.MinusIdentity 5 Family.Generator) "r=7\nat=5\n"
    ∷ refused sheet_j "" (Refusal.DependentGenerator 5 Family.Generator) "r=8\nat=5\n"
    ∷ admitted sheet_k "s=0\ns=1\n" "n=2\nk=1\nd=1\nt=0\nh=+ZZ\nc=II\nc=none\n"
    ∷ admitted sheet_l "s=010010\ns=010001\n" report_l ∷ []
