-- The group's checks, members with their signs, and canonical generators of small row lists, and the call on records,
-- computed.
use Rattle.std.specs.Option.{unwrap_or}
use Rattle.std.specs.Prelude.{Option, Some, None, Ok, Err}
use mathlib.Core.Bool.{true, false}
use mathlib.Core.List.{List, [], ◌∷◌, map}
use mathlib.Core.Path.{◌≡◌, refl}
use Prim.Native.Nat.{ℕ}
use Prim.Native.String.{String}
use Rattle.pauli.specs.declared.Pauli.{Pauli}
use Rattle.letters.specs.declared.Letter.TheVariants.{I, Z}
use Rattle.letters.specs.declared.Sign.TheVariants.{Plus, Minus}
use Rattle.pauli.specs.Letters.{of_letters}
use Rattle.letters.specs.Lists.{bytes}
use Rattle.code_record.specs.declared.Code.{Code}
use Rattle.refusals.specs.declared.Family.{Family}
use Rattle.refusals.specs.declared.Refusal.{Refusal}
use Rattle.code_record.specs.Record.{code_of, generators, first_generator_at}
use Rattle.sheet.specs.Edges.{eight_qubits, sheet_a}
use Rattle.sheet.specs.Reader.{read_row, lines_reading}
use Rattle.sheet.specs.Text.{untouched}
use Rattle.stabilizer.specs.Canonical.{reduces_to_identity, canonical_generators, write_canonical}
use Rattle.stabilizer.specs.Checks.{minus_identity, dependence, generator_fault, group_fault}
use Rattle.stabilizer.specs.Group.{in_group_up_to_phase, member_sign}
use Rattle.stabilizer.specs.Definitions.{definitions}

-- A row as it is written; what is no row becomes -I.
row : String → Pauli
row text = unwrap_or (read_row (bytes text)) minus_identity

rows : List String → List Pauli
unfolding row
rows texts = map row texts

-- ---- 6 to 8

-- 6 to 8 of rows that stand where a sheet has them.
fault : List String → Option Refusal
unfolding rows
fault texts = generator_fault first_generator_at (rows texts)

-- two rows of three qubits that anticommute: 6 at the second
clash : fault ("+XII" ∷ "+ZII" ∷ []) ≡ Some (Refusal.GeneratorsAnticommute 4 Family.Generator)
unfolding fault definitions
clash = refl

-- sheets I and J: XX times ZZ is -YY
minus : fault ("+XXII" ∷ "+ZZII" ∷ "+YYII" ∷ []) ≡ Some (Refusal.MinusIdentity 5 Family.Generator)
unfolding fault definitions
minus = refl

dependent : fault ("+XXII" ∷ "+ZZII" ∷ "-YYII" ∷ []) ≡ Some (Refusal.DependentGenerator 5 Family.Generator)
unfolding fault definitions
dependent = refl

-- a row +I is a product of no row, and -I is 7
plus-identity : fault ("+ZZ" ∷ "+II" ∷ []) ≡ Some (Refusal.DependentGenerator 4 Family.Generator)
unfolding fault definitions
plus-identity = refl

minus-identity : fault ("-II" ∷ "+ZZ" ∷ []) ≡ Some (Refusal.MinusIdentity 3 Family.Generator)
unfolding fault definitions
minus-identity = refl

-- 7 comes before 8: behind -I a row that is -I is both
minus-first : dependence (rows ("-II" ∷ [])) 4 (row "-II") ≡ Some (Refusal.MinusIdentity 4 Family.Generator)
unfolding rows row definitions
minus-first = refl

-- 6 over all rows comes before 7 and 8
clash-first : fault ("+ZZI" ∷ "-ZZI" ∷ "+XII" ∷ []) ≡ Some (Refusal.GeneratorsAnticommute 5 Family.Generator)
unfolding fault definitions
clash-first = refl

-- the eight-qubit code of the published table, all signs +, passes
rows_of : String → List Pauli
rows_of sheet = generators (lines_reading (bytes sheet)).code

eight-qubits-pass : generator_fault first_generator_at (rows_of eight_qubits) ≡ None
unfolding rows_of definitions
eight-qubits-pass = refl

-- ---- members

-- the product of A's first two rows, phase aside; and a logical operator
member : in_group_up_to_phase (rows_of sheet_a) (row "-XYIYX") ≡ true
unfolding rows_of row definitions
member = refl

not-member : in_group_up_to_phase (rows_of sheet_a) (row "+XXXXX") ≡ false
unfolding rows_of row definitions
not-member = refl

-- XX times ZZ is -YY, and the sign asked for does not count
member-signs : map (member_sign (rows ("+XX" ∷ "+ZZ" ∷ []))) (rows ("-ZZ" ∷ "+YY" ∷ "+XI" ∷ []))
    ≡ Some Plus ∷ Some Minus ∷ None ∷ []
unfolding rows definitions
member-signs = refl

-- where both signs are a member's, as of rows that 7 refuses, + is taken
both-signs : member_sign (rows ("-II" ∷ [])) (row "+II") ≡ Some Plus
unfolding rows row definitions
both-signs = refl

-- ---- canonical generators

-- of YY these leave -I, which is I, phase aside
reduces-to-identity : map (reduces_to_identity 2 (rows ("+XX" ∷ "+ZZ" ∷ []))) (rows ("+YY" ∷ "-YY" ∷ "+XI" ∷ []))
    ≡ true ∷ true ∷ false ∷ []
unfolding rows definitions
reduces-to-identity = refl

-- those of A, from its rows as they stand and in another order
canonical-a : canonical_generators 5 (rows_of sheet_a) ≡ rows ("+YZIZY" ∷ "+IXZZX" ∷ "+ZZXIX" ∷ "+ZIZYY" ∷ [])
unfolding rows_of rows definitions
canonical-a = refl

canonical-other-order : canonical_generators 5 (rows ("+ZXIXZ" ∷ "+IXZZX" ∷ "+XZZXI" ∷ "+XIXZZ" ∷ []))
    ≡ canonical_generators 5 (rows_of sheet_a)
unfolding rows_of rows definitions
canonical-other-order = refl

-- signs follow the product rule
canonical-sign : canonical_generators 2 (rows ("+XX" ∷ "+YY" ∷ [])) ≡ rows ("+XX" ∷ "-ZZ" ∷ [])
unfolding rows definitions
canonical-sign = refl

-- a row of Z alone has its first one among b1..bn
canonical-z : canonical_generators 3 (rows ("+ZZI" ∷ "-IZZ" ∷ [])) ≡ rows ("-ZIZ" ∷ "-IZZ" ∷ [])
unfolding rows definitions
canonical-z = refl

-- a phase is read modulo 4
canonical-phase : canonical_generators 2 (record { p = 4; a = 0; b = 3 } ∷ []) ≡ rows ("+ZZ" ∷ [])
unfolding rows definitions
canonical-phase = refl

canonical-eight : canonical_generators 8 (rows_of eight_qubits)
    ≡ rows ("+XZIYIYXZ" ∷ "+IXZYIXZY" ∷ "-IZXYZIYX" ∷ "-IIZZYYXX" ∷ "+ZZZZZZZZ" ∷ [])
unfolding rows_of rows definitions
canonical-eight = refl

-- ---- the call, on the record of K with another generator

record2 : List String → Code
unfolding rows
record2 generators = code_of 2 1 (rows generators) (rows ("+XX" ∷ [])) (rows ("+ZI" ∷ [])) (of_letters (Z ∷ I ∷ []))

-- six bytes, and the rest of the buffer stays
written-six : write_canonical (record2 ("-ZZ" ∷ [])) (bytes "abcdefgh")
    ≡ record { answer = Ok 6; buffer = bytes "h=-ZZ\ngh" }
unfolding record2 definitions
written-six = refl

-- three qubits, two generators, and a distance
record3 : ℕ → List String → Code
unfolding rows
record3 d generators =
    code_of 3 d (rows generators) (rows ("+IXI" ∷ [])) (rows ("+IZI" ∷ [])) (of_letters (I ∷ Z ∷ I ∷ []))

written-rows :
    write_canonical (record3 1 ("+XIX" ∷ "+IIX" ∷ [])) (bytes "abcdefghijklmn")
    ≡ record { answer = Ok 14; buffer = bytes "h=+XII\nh=+IIX\n" }
unfolding record3 definitions
written-rows = refl

-- 15 comes before 6
clash-of-record : group_fault (record3 1 ("+XII" ∷ "+ZII" ∷ []))
    ≡ Some (Refusal.GeneratorsAnticommute 4 Family.Generator)
unfolding record3 definitions
clash-of-record = refl

clash-outside : group_fault (record3 8 ("+XII" ∷ "+ZII" ∷ [])) ≡ Some Refusal.RecordLimits
unfolding record3 definitions
clash-outside = refl

-- 17, 7 and 15 write nothing; 7 comes before 17, and 15 before 7
short : write_canonical (record2 ("-ZZ" ∷ [])) (bytes "abcde")
    ≡ untouched (Err Refusal.ShortBuffer) (bytes "abcde")
unfolding record2 definitions
short = refl

faulty :
    write_canonical (record3 1 ("+ZIZ" ∷ "-ZIZ" ∷ [])) (bytes "abc")
    ≡ untouched (Err (Refusal.MinusIdentity 4 Family.Generator)) (bytes "abc")
unfolding record3 definitions
faulty = refl

outside : write_canonical (record3 8 ("+ZIZ" ∷ "-ZIZ" ∷ [])) [] ≡ untouched (Err Refusal.RecordLimits) []
unfolding record3 definitions
outside = refl
