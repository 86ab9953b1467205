-- 14 where canonical generators are known: what the search by words finds is a logical error.
use Rattle.std.specs.Prelude.{Option, Some, None}
use Rattle.std.specs.Prelude.{ℕ, ◌-◌}
use Rattle.pauli.specs.Letters.{letters_at}
use Rattle.code_record.specs.declared.Code.{Code}
use Rattle.refusals.specs.declared.Refusal.{Refusal}
use Rattle.reduced_rows.specs.declared.ReducedRows.{ReducedRows}
use Rattle.letter_sums.specs.declared.FoundMasks.{FoundMasks}
use Rattle.letter_sums.specs.Sums.{earliest_by}
use Rattle.admission.specs.Distance.{refuting_pair}
use Rattle.logical_words.specs.Words.{logical_words}

-- RULES, "Distance": the two errors are made from the letters of the error that was found. Its masks have 32 bits.
abbrev pub refuted_by : ℕ → ℕ → Option FoundMasks → Option Refusal
refuted_by at n None = None
refuted_by at n (Some masks) =
    Some (Refusal.DistanceRefuted at (refuting_pair n (letters_at 32 masks.a masks.b)))

-- RULES, "Distance": 14 where an error of weight below d has a syndrome of zeros, and the rows leave something of it.
unfoldable pub distance_by : ℕ → Code → ReducedRows → Option Refusal
distance_by at c rows = refuted_by at c.n (earliest_by (logical_words c rows) (c.d - 1) 0 0)
