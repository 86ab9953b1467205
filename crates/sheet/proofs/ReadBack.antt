-- Writing what was read gives the bytes that were read, and what is read is a lawful record. What is known of the lines
-- one by one says that the bytes are the texts of the values read, and that these are within the limits; the record
-- made of the values has them at the front of its arrays, and so gives them back.
use mathlib.Core.List.{List, [], ◌∷◌, ◌++◌, append_assoc}
use mathlib.Core.Path.{◌≡◌, refl, ap, sym, ◌∙◌}
use Prim.Native.Nat.{ℕ, ◌+◌, ◌-◌, ◌*◌, ◌≤◌}
use native.Mathlib.Omega.{arith}
use lib.Dec.{ltb}
use lib.ListN.{length, drop, length-append}
use lib.Seq.{drop-append_seam}
use Rattle.pauli.specs.declared.Pauli.{Pauli}
use Rattle.letters.specs.Lists.{any_of}
use Rattle.code_record.specs.Record.{row_room, most_qubits, most_distance, longest_input}
use Rattle.code_record.specs.Record.{pair_count, most_generators, logical_count, generators, logical_xs, logical_zs}
use Rattle.code_record.specs.Record.{first_generator_at, generators_at, logicals_at, claim_at, code_of, within_limits}
use Rattle.code_record.proofs.Filled.{length-filled, take-filled, filled-are-rows, filled-modulo4}
use Rattle.code_record.proofs.Limits.{bounds-between}
use Rattle.sheet.specs.Reader.{SheetRead, got, done, lines_after, sheet_lines, read_lines, nothing_behind, read_form}
use Rattle.sheet.specs.Reader.{answered, lines_reading, behind}
use Rattle.sheet.specs.Statements.{phases_modulo4, ReadIsLawful, ReadsAreLawful, WriteAfterRead, RestIsBehind}
use Rattle.sheet.specs.Writer.{sheet_text}
use Rattle.sheet.proofs.Consumed.{OfForm, form-refusal, NumberLine, RowLines, ClaimLine, row_count}
use Rattle.sheet.proofs.Consumed.{qubit-line-outcome, distance-line-outcome, generator-lines-outcome}
use Rattle.sheet.proofs.Consumed.{logical-lines-outcome, claim-line-outcome}
use Rattle.sheet.proofs.Outcome.{Outcome, gets, stops, what_was-got, continue-outcome, cond-outcome, Took}

-- ---- the record of the values

module _
    {n d : ℕ} {gs xs zs : List Pauli} {w : Pauli} {s s₁ s₂ s₃ s₄ s₅ rest : List ℕ}
    (hn : NumberLine "n=" 2 most_qubits s n s₁) (hd : NumberLine "d=" 1 most_distance s₁ d s₂)
    (hg : RowLines "g=" n 1 (most_generators n) s₂ gs s₃)
    (hx : RowLines "x=" n (pair_count n (length gs)) (pair_count n (length gs)) s₃ xs s₄)
    (hz : RowLines "z=" n (pair_count n (length gs)) (pair_count n (length gs)) s₄ zs s₅)
    (hw : ClaimLine n s₅ w rest) where
  abbrev sheet-read : SheetRead
  sheet-read = record {
    code = code_of n d gs xs zs w;
    claim_at = first_generator_at + length gs + 2 * pair_count n (length gs);
  }

  sheet-lawful : ReadIsLawful sheet-read
  unfolding code_of within_limits phases_modulo4 logical_count pair_count most_generators generators_at logicals_at
      claim_at
  sheet-lawful = record {
    sized = record {
      room_g = length-filled row_room gs (omega arith);
      room_x = length-filled row_room xs (omega arith);
      room_z = length-filled row_room zs (omega arith);
    };
    limits = rw (
      bounds-between 2 most_qubits n hn.lawful.0 hn.lawful.1,
      bounds-between 1 (most_generators n) (length gs) hg.lawful.least hg.lawful.most,
      bounds-between 1 most_distance d hd.lawful.0 hd.lawful.1,
      filled-are-rows row_room gs _ refl n hg.lawful.each,
      filled-are-rows row_room xs _ (row_count hx.lawful) n hx.lawful.each,
      filled-are-rows row_room zs _ (row_count hz.lawful) n hz.lawful.each,
      hw.lawful.claim,
    );
    phases = cc (
      filled-modulo4 row_room gs hg.lawful.phases,
      filled-modulo4 row_room xs hx.lawful.phases,
      filled-modulo4 row_room zs hz.lawful.phases,
    );
    claim = refl;
  }

  sheet-text : s ≡ sheet_text sheet-read.code ++ rest
  unfolding code_of sheet_text generators logical_xs logical_zs logical_count
  sheet-text =
      hn.bytes_read
      ∙ rw (
        hd.bytes_read,
        hg.bytes_read,
        hx.bytes_read,
        hz.bytes_read,
        hw.bytes_read,
        take-filled row_room gs _ refl,
        take-filled row_room xs _ (row_count hx.lawful),
        take-filled row_room zs _ (row_count hz.lawful),
      ) (simp append_assoc)

-- ---- the sheet

-- What was read of s is the sheet of a lawful record.
abbrev pub SheetTook : List ℕ → SheetRead → List ℕ → Type 0
SheetTook = Took (λ q. sheet_text q.code) ReadIsLawful

sheet-lines-outcome : (s : List ℕ) → Outcome (SheetTook s) OfForm (sheet_lines s)
unfolding sheet_lines lines_after done
sheet-lines-outcome s =
    continue-outcome (qubit-line-outcome s) λ n s₁ hn.
    continue-outcome (distance-line-outcome s₁) λ d s₂ hd.
    continue-outcome (generator-lines-outcome n first_generator_at s₂) λ gs s₃ hg.
    continue-outcome (logical-lines-outcome (pair_count n (length gs)) "x=" n _ s₃) λ xs s₄ hx.
    continue-outcome (logical-lines-outcome (pair_count n (length gs)) "z=" n _ s₄) λ zs s₅ hz.
    continue-outcome (claim-line-outcome n _ s₅) λ w rest hw.
    gets (record { lawful = sheet-lawful hn hd hg hx hz hw; bytes_read = sheet-text hn hd hg hx hz hw })

pub read-lines-outcome : (s : List ℕ) → Outcome (SheetTook s) OfForm (read_lines s)
unfolding read_lines any_of
read-lines-outcome s = cond-outcome (ltb longest_input (length s)) (λ e. stops refl) (λ e. sheet-lines-outcome s)

-- A sheet read by itself is read so, and nothing stands behind it.
pub read-form-outcome : (s : List ℕ) → Outcome (SheetTook s) OfForm (read_form s)
unfolding read_form nothing_behind
read-form-outcome s = continue-outcome (read-lines-outcome s) alone
  where
    alone : (q : SheetRead) (rest : List ℕ) → SheetTook s q rest → Outcome (SheetTook s) OfForm (nothing_behind q rest)
    alone q [] h = gets h
    alone q (b ∷ rest) h = stops (form-refusal (q.claim_at + 1))

pub reads-are-lawful : ReadsAreLawful
reads-are-lawful s q rest e = (what_was-got (read-lines-outcome s) e).lawful

pub write-after-read : WriteAfterRead
write-after-read s q rest e = sym (what_was-got (read-lines-outcome s) e).bytes_read

-- What is left is no longer than the bytes were.
pub read-within : (s : List ℕ) (q : SheetRead) (rest : List ℕ) → read_lines s ≡ got q rest → length rest ≤ length s
read-within s q rest e = omega (arith, simp length-append at (ap length (write-after-read s q rest e)))

-- The lines are the sheet's text, so the part behind them begins where that ends.
pub rest-is-behind : RestIsBehind
unfolding lines_reading answered behind
rest-is-behind s q rest e =
    let text = sheet_text q.code in
    let bytes = write-after-read s q rest e in
    let used : length s - length rest ≡ length text = omega (arith, simp length-append at (ap length bytes)) in
    ap (λ p. behind s (answered s p).answer) e ∙ ap (λ m. drop m s) used ∙ ap (drop (length text)) (sym bytes)
    ∙ drop-append_seam text rest
