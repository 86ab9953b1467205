-- The code record: its sizes, its rows, its lines, its limits.
use Rattle.std.specs.Prelude.{Option, Result}
use Rattle.std.specs.Prelude.{Bool, not, ◌&&◌, List, ◌++◌, ◌≡◌, ℕ, ◌+◌, ◌-◌, ◌*◌, ◌/◌, ◌^◌, leb, ltb, length, take}
use Rattle.std.specs.Prelude.{drop, replicate}
use Rattle.pauli.specs.declared.Pauli.{Pauli}
use Rattle.letters.specs.Lists.{all_of}
use Rattle.pauli.specs.Product.{identity, same_pauli}
use Rattle.letters.specs.declared.Sign.TheVariants.{Plus}
use Rattle.pauli.specs.Letters.{has_sign, is_signed_row}
use Rattle.code_record.specs.declared.Code.{Code}
use Rattle.code_record.specs.declared.LinesReading.{LinesReading}
use Rattle.refusals.specs.declared.Family.{Family}
use Rattle.refusals.specs.declared.Family.TheVariants.{Generator, LogicalX, LogicalZ}
use Rattle.refusals.specs.declared.Refusal.{Refusal}
use Rattle.refusals.specs.Refusals.{refuse_if}

-- RULES, "The record": the places for rows of each family; the most qubits; the longest distance.
abbrev pub row_room : ℕ
row_room = 32

abbrev pub most_qubits : ℕ
most_qubits = 24

abbrev pub most_distance : ℕ
most_distance = 7

-- RULES, "The sheet": how many bytes an input has at most.
abbrev pub longest_input : ℕ
longest_input = 4096

-- RULES, "The sheet": n qubits and r generators leave n - r pairs of logicals, and there are n - 1 generators at most.
unfoldable pub pair_count : ℕ → ℕ → ℕ
pair_count n r = n - r

unfoldable pub most_generators : ℕ → ℕ
most_generators n = n - 1

unfoldable pub logical_count : Code → ℕ
logical_count c = pair_count c.n c.r

-- RULES, "The record": t is (d - 1) / 2 rounded down.
unfoldable pub radius : Code → ℕ
radius c = (c.d - 1) / 2

unfoldable pub generators : Code → List Pauli
generators c = take c.r c.g

unfoldable pub logical_xs : Code → List Pauli
logical_xs c = take (logical_count c) c.x

unfoldable pub logical_zs : Code → List Pauli
logical_zs c = take (logical_count c) c.z

-- RULES, "The record": a family of rows has its array.
abbrev pub rows_of : Family → Code → List Pauli
rows_of Generator c = c.g
rows_of LogicalX c = c.x
rows_of LogicalZ c = c.z

-- RULES, "The sheet": lines count from 1, and are n, d, the generators, the X logicals, the Z logicals, w. So these
-- lines of a record's written sheet are that of its first generator, of its first X logical, and of w.
abbrev pub first_generator_at : ℕ
first_generator_at = 3

unfoldable pub generators_at : Code → ℕ
generators_at c = first_generator_at

unfoldable pub logicals_at : Code → ℕ
logicals_at c = generators_at c + c.r

unfoldable pub claim_at : Code → ℕ
claim_at c = logicals_at c + 2 * logical_count c

-- Rows in an array of m places, with +I in the places behind them.
unfoldable pub filled : ℕ → List Pauli → List Pauli
filled m rows = rows ++ replicate (m - length rows) identity

-- The record of a sheet's values.
unfoldable pub code_of : (n d : ℕ) → (gs xs zs : List Pauli) → Pauli → Code
code_of n d gs xs zs w = record {
  n = n;
  r = length gs;
  d = d;
  g = filled row_room gs;
  x = filled row_room xs;
  z = filled row_room zs;
  w = w;
}

-- RULES, "The record": the empty record, which stands beside a refused reading, has all numbers 0 and all rows +I.
unfoldable pub empty_code : Code
empty_code = record {
  n = 0;
  r = 0;
  d = 0;
  g = replicate row_room identity;
  x = replicate row_room identity;
  z = replicate row_room identity;
  w = identity;
}

-- A refused reading: the empty record stands beside the refusal, and no line of w.
abbrev pub empty_beside : Result ℕ Refusal → LinesReading
empty_beside answer = record { answer = answer; claim_at = 0; code = empty_code }

-- A record as a machine holds it: each array has its room.
pub record Sized (c : Code) : Type 0 where
  pub room_g : length c.g ≡ row_room
  pub room_x : length c.x ≡ row_room
  pub room_z : length c.z ≡ row_room

unfoldable pub between : ℕ → ℕ → ℕ → Bool
between low high m = leb low m && leb m high

-- RULES, "The record": no mask has a bit above qubit n.
unfoldable pub on_qubits : ℕ → Pauli → Bool
on_qubits n P = ltb P.a (2 ^ n) && ltb P.b (2 ^ n)

-- A row of n qubits has besides the phase of a signed row, and w that of a row with sign +.
unfoldable pub is_row : ℕ → Pauli → Bool
is_row n P = on_qubits n P && is_signed_row P

unfoldable pub is_claim : ℕ → Pauli → Bool
is_claim n P = on_qubits n P && has_sign Plus P

-- The first m rows of an array are rows of n qubits, and those behind them, which are unused, are +I.
unfoldable pub are_rows : ℕ → ℕ → List Pauli → Bool
are_rows n m rows = all_of (is_row n) (take m rows) && all_of (same_pauli identity) (drop m rows)

-- RULES, "The record": its limits. The numbers n, r and d are within their ranges, the rows are rows of n qubits, w has
-- sign +.
unfoldable pub within_limits : Code → Bool
within_limits c =
    between 2 most_qubits c.n && between 1 (most_generators c.n) c.r && between 1 most_distance c.d
    && are_rows c.n c.r c.g && are_rows c.n (logical_count c) c.x && are_rows c.n (logical_count c) c.z
    && is_claim c.n c.w

-- RULES, "Refusals": 15, where a record is outside its limits.
unfoldable pub limits_fault : Code → Option Refusal
limits_fault c = refuse_if (not (within_limits c)) Refusal.RecordLimits

-- RULES, "Calls and buffers": 15, where n is not 2 to 24. A call that takes rows of n qubits and no record has no other
-- limits.
unfoldable pub qubit_fault : ℕ → Option Refusal
qubit_fault n = refuse_if (not (between 2 most_qubits n)) Refusal.RecordLimits
