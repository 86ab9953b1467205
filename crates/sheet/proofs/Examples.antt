-- The form of a sheet at its edges, computed: what is refused with which number at which line, and sheets that return.
use Rattle.std.specs.Prelude.{Ok, Err}
use mathlib.Core.Bool.{Bool, true, false, ◌&&◌, cond}
use mathlib.Core.List.{List, [], ◌∷◌, ◌++◌, map, Memᴰ}
use mathlib.Core.Path.{◌≡◌, refl}
use Prim.Native.Nat.{ℕ, zero, suc, ◌+◌}
use Prim.Native.String.{String, ◌++◌ as ◌⧺◌}
use lib.Dec.{eqb}
use lib.ListN.{length, take, replicate}
use Rattle.letters.specs.declared.Letter.TheVariants.{I, X, Y, Z}
use Rattle.letters.specs.declared.Sign.TheVariants.{Plus, Minus}
use Rattle.pauli.specs.Letters.{signed_row, of_letters}
use Rattle.letters.specs.Lists.{bytes, all_of}
use Rattle.pauli.proofs.Table.{each}
use Rattle.code_record.specs.declared.Code.{Code}
use Rattle.refusals.specs.declared.Refusal.{Refusal}
use Rattle.code_record.specs.Record.{longest_input, code_of, empty_code}
use Rattle.code_record.specs.Record.{between, within_limits, logical_count, radius, claim_at, Sized}
use Rattle.refusals.specs.Refusals.{values}
use Rattle.sheet.specs.Edges.{sheet_a}
use Rattle.sheet.specs.Definitions.{definitions}
use Rattle.sheet.specs.Reader.{Parsed, SheetRead, got, stop, read_form, lines_reading, form_reading}
use Rattle.sheet.specs.Statements.{longest_sheet}
use Rattle.sheet.specs.Text.{decimal, line_feed, untouched}
use Rattle.sheet.specs.Writer.{sheet_text, write_sheet}

-- ---- numbers in texts

decimals :
    map decimal (0 ∷ 9 ∷ 10 ∷ 11 ∷ 100 ∷ 1024 ∷ []) ≡ map bytes ("0" ∷ "9" ∷ "10" ∷ "11" ∷ "100" ∷ "1024" ∷ [])
unfolding definitions
decimals = refl

-- ---- refusals of the form

record Entry : Type 0 where
  input : String
  refusal : Refusal

off_form : List Entry
off_form =
    record { input = ""; refusal = Refusal.Form 1 }
    ∷ record { input = "n=5"; refusal = Refusal.Form 1 }
    ∷ record { input = "n=0\n"; refusal = Refusal.Form 1 }
    ∷ record { input = "n=05\n"; refusal = Refusal.Form 1 }
    ∷ record { input = "n=100\n"; refusal = Refusal.Form 1 }
    ∷ record { input = "n=1\n"; refusal = Refusal.QubitCount 1 }
    ∷ record { input = "n=25\n"; refusal = Refusal.QubitCount 1 }
    ∷ record { input = "n=2\nd=0\n"; refusal = Refusal.Form 2 }
    ∷ record { input = "n=24\nd=8\n"; refusal = Refusal.DistanceRange 2 }
    ∷ record { input = "n=5\nd=10\n"; refusal = Refusal.Form 2 }
    ∷ record { input = "n=5\nd=3\nx=+XXXXX\n"; refusal = Refusal.GeneratorCount 3 }
    ∷ record { input = "n=5\nd=3\ng=+XZZXi\n"; refusal = Refusal.Form 3 }
    ∷ record { input = "n=5\nd=3\ng=XZZXI\n"; refusal = Refusal.Form 3 }
    ∷ record { input = "n=3\nd=1\ng=+XII\ng=+IXI\ng=+IIX\n"; refusal = Refusal.GeneratorCount 5 }
    ∷ record { input = "n=3\nd=1\ng=+XII\ng=+IXI\ng="; refusal = Refusal.GeneratorCount 5 }
    ∷ record { input = "n=2\nd=1\ng=+ZZ\nz=+ZI\nx=+XX\nw=ZI\n"; refusal = Refusal.Form 4 }
    ∷ record { input = "n=4\nd=2\ng=+XZZX\ng=+YXXY\nx=+XXXX\nz=+YZYI\nz=+IXZZ\nw=XIXI\n"; refusal = Refusal.Form 6 }
    ∷ record { input = "n=4\nd=2\ng=+XZZX\ng=+YXXY\nx=+XXXX\nx=+XIXZ\nz=+YZYI\nw=XIXI\n"; refusal = Refusal.Form 8 }
    ∷ record { input = sheet_a ⧺ "\n"; refusal = Refusal.Form 10 }
    ∷ record { input = sheet_a ⧺ "s=0001\n"; refusal = Refusal.Form 10 }
    ∷ []

off-form-refused : (e : Entry) → Memᴰ e off_form → read_form (bytes e.input) ≡ stop e.refusal
unfolding off_form definitions
off-form-refused = each (λ e. read_form (bytes e.input)) (λ e. stop e.refusal) off_form refl

-- 1 comes first, and at one byte more than an input may have
too_long : read_form (replicate (longest_input + 1) line_feed) ≡ stop Refusal.TooLong
unfolding definitions
too_long = refl

not_too-long : read_form (replicate longest_input line_feed) ≡ stop (Refusal.Form 1)
unfolding definitions
not_too-long = refl

-- ---- A cut off after each of its bytes but the last

feeds : List ℕ → ℕ
feeds [] = 0
feeds (c ∷ cs) = cond (eqb c line_feed) 1 0 + feeds cs

refused_as : ℕ → ℕ → Parsed SheetRead → Bool
refused_as number at (got q rest) = false
refused_as number at (stop refusal) = eqb (values refusal).number number && eqb (values refusal).line at

-- 2 at the line that is not whole; 5 where the first g place does not begin `g=`, after 8 or 9 bytes.
cut_refused : ℕ → Bool
cut_refused m =
    let cut = take m (bytes sheet_a) in refused_as (cond (between 8 9 m) 5 2) (feeds cut + 1) (read_form cut)

up_to : ℕ → List ℕ
up_to zero = zero ∷ []
up_to (suc m) = suc m ∷ up_to m

whole : length (bytes sheet_a) ≡ 70
unfolding definitions
whole = refl

every-cut-refused : all_of cut_refused (up_to 69) ≡ true
unfolding cut_refused feeds refused_as up_to definitions
every-cut-refused = refl

-- ---- sheets that return

code_a : Code
code_a =
    code_of 5 3
    (signed_row Plus (X ∷ Z ∷ Z ∷ X ∷ I ∷ []) ∷ signed_row Plus (I ∷ X ∷ Z ∷ Z ∷ X ∷ [])
    ∷ signed_row Plus (X ∷ I ∷ X ∷ Z ∷ Z ∷ []) ∷ signed_row Plus (Z ∷ X ∷ I ∷ X ∷ Z ∷ []) ∷ [])
    (signed_row Plus (replicate 5 X) ∷ []) (signed_row Plus (replicate 5 Z) ∷ [])
    (of_letters (I ∷ Y ∷ Y ∷ I ∷ X ∷ []))

read_a : read_form (bytes sheet_a) ≡ got (record { code = code_a; claim_at = 9 }) []
unfolding code_a definitions
read_a = refl

written-a : sheet_text code_a ≡ bytes sheet_a
unfolding code_a definitions
written-a = refl

-- The longest sheet: n = 24, r = 1.
unfoldable pub code24 : Code
code24 =
    code_of 24 7 (signed_row Minus (replicate 24 Z) ∷ []) (replicate 23 (signed_row Plus (replicate 24 X)))
    (replicate 23 (signed_row Minus (replicate 24 Z))) (of_letters (replicate 24 X))

pub longest : length (sheet_text code24) ≡ longest_sheet
unfolding code24 definitions
longest = refl

pub longest-returns : read_form (sheet_text code24) ≡ got (record { code = code24; claim_at = 50 }) []
unfolding code24 definitions
longest-returns = refl

longest-within-limits : within_limits code24 ≡ true
unfolding code24 definitions
longest-within-limits = refl

-- k, t and the line of w
numbers-a : (logical_count code_a ≡ 1) × (radius code_a ≡ 1) × (claim_at code_a ≡ 9)
unfolding code_a definitions
numbers-a = (refl, refl, refl)

numbers_24 : (logical_count code24 ≡ 23) × (radius code24 ≡ 3) × (claim_at code24 ≡ 50)
unfolding code24 definitions
numbers_24 = (refl, refl, refl)

-- The arrays have their room, in a record that was read and in the empty one.
rooms : Sized code_a × Sized empty_code
unfolding code_a definitions
rooms = (record { room_g = refl; room_x = refl; room_z = refl }, record { room_g = refl; room_x = refl; room_z = refl })

-- ---- the writer's call

-- 17 at one byte less than the sheet has, 15 before it; the bytes behind the sheet stay.
writer-refuses :
    (write_sheet code_a (replicate 69 0) ≡ untouched (Err Refusal.ShortBuffer) (replicate 69 0))
    × (write_sheet empty_code [] ≡ untouched (Err Refusal.RecordLimits) [])
unfolding code_a definitions
writer-refuses = (refl, refl)

writer-writes :
    write_sheet code_a (replicate 72 7) ≡ record { answer = Ok 70; buffer = bytes sheet_a ++ 7 ∷ 7 ∷ [] }
unfolding code_a definitions
writer-writes = refl

-- ---- the readings

readings :
    (lines_reading (bytes (sheet_a ⧺ "s=0001\n")) ≡ record { answer = Ok 70; claim_at = 9; code = code_a })
    × (form_reading (bytes (sheet_a ⧺ "s=0001\n"))
    ≡ record { answer = Err (Refusal.Form 10); claim_at = 0; code = empty_code })
unfolding code_a definitions
readings = (refl, refl)
