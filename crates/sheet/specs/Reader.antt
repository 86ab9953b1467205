-- The sheet as a function from bytes to an answer.
-- RULES, "The sheet": the reader of each line gets what is behind the line feed of the line before. A line off its form
-- ends the reading, and so does input that ends before a line feed.
use Rattle.std.specs.Prelude.{Option, Some, None, Result, Ok, Err}
use Rattle.std.specs.Option.{option_map}
use Rattle.letters.specs.Options.{bind}
use Rattle.std.specs.Prelude.{Bool, true, false, cond, ◌&&◌, ◌||◌, ℕ, zero, suc, ◌+◌, ◌-◌, ◌*◌, eqb, ltb, length, take}
use Rattle.std.specs.Prelude.{drop, get_or}
use mathlib.Core.List.{List, [], ◌∷◌, foldl}
use Prim.Native.Char.{code}
use Prim.Native.String.{String}
use Rattle.pauli.specs.declared.Pauli.{Pauli}
use Rattle.letters.specs.Lists.{bytes}
use Rattle.pauli.specs.Letters.{signed_row, of_letters}
use Rattle.letters.specs.Letters.{read_sign, read_letter}
use Rattle.code_record.specs.declared.Code.{Code}
use Rattle.refusals.specs.declared.Refusal.{Refusal}
use Rattle.code_record.specs.declared.LinesReading.{LinesReading}
use Rattle.code_record.specs.Record.{between, code_of, empty_beside, pair_count, most_generators, first_generator_at}
use Rattle.code_record.specs.Record.{most_qubits, most_distance, longest_input}
use Rattle.sheet.specs.Text.{line_feed}

-- What a reader gives: a value and the rest of the bytes, or the refusal that ends the reading.
pub data Parsed (A : Type 0) : Type 0 where
  got : A → List ℕ → Parsed A
  stop : Refusal → Parsed A

abbrev pub Reader : Type 0 → Type 0
Reader A = List ℕ → Parsed A

unfoldable pub done : {A : Type 0} → A → Reader A
done a s = got a s

-- The rest of the bytes goes to the next reader, and a refusal ends the reading.
unfoldable pub continue : {A B : Type 0} → Parsed A → (A → Reader B) → Parsed B
continue (got a s) next = next a s
continue (stop refusal) next = stop refusal

infixr 10 ◌and_then◌
abbrev pub ◌and_then◌ : {A B : Type 0} → Reader A → (A → Reader B) → Reader B
◌and_then◌ first next s = continue (first s) next

unfoldable pub begins : List ℕ → List ℕ → Bool
begins [] s = true
begins (p ∷ ps) [] = false
begins (p ∷ ps) (c ∷ s) = eqb p c && begins ps s

-- Each byte read by itself; nothing if one of them cannot be.
unfoldable pub read_each : {A : Type 0} → (ℕ → Option A) → List ℕ → Option (List A)
read_each read [] = Some []
read_each read (c ∷ cs) = bind (read c) (λ a. option_map (λ rest. a ∷ rest) (read_each read cs))

-- A value and the rest of the bytes, or the refusal where there is no value.
unfoldable pub got_or : {A : Type 0} → Refusal → Option A → List ℕ → Parsed A
got_or refusal None rest = stop refusal
got_or refusal (Some a) rest = got a rest

-- RULES, "The sheet": a line is a key, a value and a line feed. The bytes begin with the key, and behind m more is a
-- line feed.
unfoldable pub is_line : List ℕ → ℕ → List ℕ → Bool
is_line key m s = begins key s && eqb (get_or (drop (length key) s) m 0) line_feed

-- A line: the key, m bytes that are a value, a line feed. The key is given by its bytes, or as a text.
unfoldable pub line_of : {A : Type 0} → List ℕ → ℕ → (List ℕ → Option A) → Refusal → Reader A
line_of key m read refusal s =
    let value = drop (length key) s in
    cond (is_line key m s) (got_or refusal (read (take m value)) (drop (m + 1) value)) (stop refusal)

abbrev pub read_line : {A : Type 0} → String → ℕ → (List ℕ → Option A) → Refusal → Reader A
read_line key = line_of (bytes key)

unfoldable pub read_digit : ℕ → Option ℕ
read_digit c = cond (between (code "0") (code "9") c) (Some (c - code "0")) None

unfoldable pub number_of : List ℕ → Option ℕ
number_of [] = None
number_of (zero ∷ ds) = None
number_of (suc d ∷ ds) = Some (foldl (λ m e. m * 10 + e) (suc d) ds)

-- A number, the first digit not 0.
unfoldable pub read_number : List ℕ → Option ℕ
read_number cs = bind (read_each read_digit cs) number_of

-- Letters, with no sign: a row with sign +.
unfoldable pub read_letters : List ℕ → Option Pauli
read_letters cs = option_map of_letters (read_each read_letter cs)

-- A sign, then letters.
unfoldable pub read_row : List ℕ → Option Pauli
read_row [] = None
read_row (c ∷ cs) = bind (read_sign c) (λ s. option_map (signed_row s) (read_each read_letter cs))

unfoldable pub in_range : ℕ → ℕ → Refusal → ℕ → Reader ℕ
in_range low high refusal m = cond (between low high m) (done m) (λ s. stop refusal)

-- One digit where a line feed stands behind the first, else two.
unfoldable pub qubit_digits : List ℕ → ℕ
qubit_digits s = cond (eqb (get_or s 3 0) line_feed) 1 2

-- RULES, "The sheet": the n line has one or two digits, the first not 0. 2 at line 1, then 3 where n is not 2 to 24.
unfoldable pub qubit_line : Reader ℕ
qubit_line s =
    (read_line "n=" (qubit_digits s) read_number (Refusal.Form 1)
    and_then in_range 2 most_qubits (Refusal.QubitCount 1)) s

-- RULES, "The sheet": the d line has one digit, not 0. 2 at line 2, then 4 where d is not 1 to 7.
unfoldable pub distance_line : Reader ℕ
distance_line =
    read_line "d=" 1 read_number (Refusal.Form 2) and_then in_range 1 most_distance (Refusal.DistanceRange 2)

-- RULES, "The sheet": the line of a row has a sign and n letters.
unfoldable pub row_line : String → ℕ → ℕ → Reader Pauli
row_line key n at = read_line key (n + 1) read_row (Refusal.Form at)

-- The lines of rows from the line `at` on, until one does not begin with the key or so many are read.
unfoldable pub rows_up_to : ℕ → String → ℕ → ℕ → Reader (List Pauli)
rows_up_to zero key n at s = got [] s
rows_up_to (suc most) key n at s =
    cond (begins (bytes key) s)
    ((row_line key n at and_then λ P. rows_up_to most key n (at + 1) and_then λ Ps. done (P ∷ Ps)) s)
    (got [] s)

-- RULES, "Refusals": 5 where there is no g line, or one more than are read; at the line where the g lines end.
unfoldable pub counted_generators : ℕ → List Pauli → Reader (List Pauli)
counted_generators at gs s =
    cond (eqb (length gs) 0 || begins (bytes "g=") s) (stop (Refusal.GeneratorCount (at + length gs))) (got gs s)

unfoldable pub generator_lines : ℕ → ℕ → Reader (List Pauli)
generator_lines n at = rows_up_to (most_generators n) "g=" n at and_then counted_generators at

-- RULES, "The sheet": there are k lines of X logicals, and of Z logicals. 2 at the first line that is missing.
unfoldable pub counted_logicals : ℕ → ℕ → List Pauli → Reader (List Pauli)
counted_logicals k at ls s = cond (ltb (length ls) k) (stop (Refusal.Form (at + length ls))) (got ls s)

unfoldable pub logical_lines : ℕ → String → ℕ → ℕ → Reader (List Pauli)
logical_lines k key n at = rows_up_to k key n at and_then counted_logicals k at

-- RULES, "The sheet": the w line has n letters and no sign.
unfoldable pub claim_line : ℕ → ℕ → Reader Pauli
claim_line n at = read_line "w=" n read_letters (Refusal.Form at)

-- What the lines of a sheet say: the record, and the line that w stands on.
pub record SheetRead : Type 0 where
  pub code : Code
  pub claim_at : ℕ

-- The lines behind the generators, from the line `at` on: k lines `x=`, k lines `z=`, and w.
unfoldable pub lines_after : (n d at : ℕ) → List Pauli → Reader SheetRead
lines_after n d at gs =
    let k = pair_count n (length gs) in
    logical_lines k "x=" n at and_then λ xs.
    logical_lines k "z=" n (at + k) and_then λ zs.
    claim_line n (at + 2 * k) and_then λ w.
    done (record { code = code_of n d gs xs zs w; claim_at = at + 2 * k })

-- The lines of a sheet, in order. What stands behind w is the rest.
unfoldable pub sheet_lines : Reader SheetRead
sheet_lines =
    qubit_line and_then λ n.
    distance_line and_then λ d.
    generator_lines n first_generator_at and_then λ gs.
    lines_after n d (first_generator_at + length gs) gs

-- RULES, "Refusals": 1 comes first, where the whole input is longer than it may be.
unfoldable pub read_lines : Reader SheetRead
read_lines s = cond (ltb longest_input (length s)) (stop Refusal.TooLong) (sheet_lines s)

-- RULES, "Refusals": in a sheet read by itself, bytes behind w are 2 at the line after w.
unfoldable pub nothing_behind : SheetRead → Reader SheetRead
nothing_behind q [] = got q []
nothing_behind q (b ∷ s) = stop (Refusal.Form (q.claim_at + 1))

-- The form of a sheet read by itself.
unfoldable pub read_form : Reader SheetRead
read_form = read_lines and_then nothing_behind

-- A reading as a call answers it: how many bytes were read, the line of w and the record; or the refusal and the empty
-- record.
unfoldable pub answered : List ℕ → Parsed SheetRead → LinesReading
answered s (got q rest) =
    record { answer = Ok (length s - length rest); claim_at = q.claim_at; code = q.code }
answered s (stop refusal) = empty_beside (Err refusal)

-- The call on the lines of a sheet, with anything behind them, as a report reads it; and on a sheet by itself.
unfoldable pub lines_reading : List ℕ → LinesReading
lines_reading s = answered s (read_lines s)

unfoldable pub form_reading : List ℕ → LinesReading
form_reading s = answered s (read_form s)

-- RULES, "The report": what a report goes on with, the bytes behind the lines; none where these were refused.
unfoldable pub behind : List ℕ → Result ℕ Refusal → List ℕ
behind s (Ok used) = drop used s
behind s (Err refusal) = []
