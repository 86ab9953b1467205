-- The lines of a sheet one after the other: what each makes of the reading, and what stands beside the answer.
use mathlib.Core.List.{List}
use mathlib.Core.Path.{◌≡◌, refl, ap, sym, ◌∙◌}
use Prim.Native.Nat.{ℕ, ◌+◌, ◌*◌, ◌≤◌, ◌<◌}
use borrow.Author.Tests.{le-ltb, lt-ltb}
use lib.ListN.{length, drop}
use Rattle.pauli.specs.declared.Pauli.{Pauli}
use Rattle.refusals.specs.declared.Refusal.{Refusal}
use Rattle.code_record.specs.Record.{most_qubits, first_generator_at, pair_count, code_of}
use Rattle.sheet.specs.Reader.{Parsed, Reader, got, stop, done, continue}
use Rattle.sheet.specs.Reader.{logical_lines, claim_line, lines_after}
use Rattle.row_reader.proofs.Answers.{few-qubits}
use Rattle.rows_reader.specs.declared.Rows.{Rows}
use Rattle.rows_reader.specs.declared.Logicals.{Logicals}
use Rattle.rows_reader.specs.Answers.{pair_lines}
use Rattle.claim_reader.specs.Claim.{held_code, claim_after}
use Rattle.claim_reader.proofs.Claims.{claim-here}
use Rattle.ordered_lines.specs.Answers.{with_claim, lines_from_g, rows_and_claim, counted_rows, filled_logicals}

-- ---- the lines behind the g lines, with k pairs of logicals

-- A third reader goes on with the two values before it, one by one or as a pair.
module _ {A B C : Type 0} (p : Parsed A) (second : A → Reader B) (third : A → B → Reader C) where
  abbrev pair : A × B → Reader (A × B)
  pair = done

  abbrev pairing : A → Reader (A × B)
  pairing a t = continue (second a t) (λ b. pair (a, b))

  in-turn : continue p (λ a t. continue (second a t) (third a))
      ≡ continue (continue p pairing) (λ ab. third ab.0 ab.1)
  unfolding continue done
  in-turn = by_first p
    where
      by-second : (a : A) (q : Parsed B)
          → continue q (third a) ≡ continue (continue q (λ b. pair (a, b))) (λ ab. third ab.0 ab.1)
      by-second a (got b u) = refl
      by-second a (stop refusal) = refl

      by_first : (p : Parsed A)
          → continue p (λ a t. continue (second a t) (third a))
          ≡ continue (continue p pairing) (λ ab. third ab.0 ab.1)
      by_first (got a t) = by-second a (second a t)
      by_first (stop refusal) = refl

-- The x and z lines are read, and then w.
pub pairs_first : (n d at : ℕ) (gs : List Pauli) (k : ℕ) → pair_count n (length gs) ≡ k → (s : List ℕ)
    → lines_after n d at gs s ≡ continue (pair_lines k n at s) (λ ls. with_claim n d (at + 2 * k) gs ls.0 ls.1)
unfolding lines_after pair_lines
pairs_first n d at gs k paired s =
    ap
    (λ m.
    continue (logical_lines m "x=" n at s) (λ xs t.
    continue (logical_lines m "z=" n (at + m) t) (with_claim n d (at + 2 * m) gs xs)))
    paired
    ∙ in-turn (logical_lines k "x=" n at s) (λ xs. logical_lines k "z=" n (at + k)) (with_claim n d (at + 2 * k) gs)

-- The record of the rows as their arrays hold them is that of the rows.
pub claim-of-held : (from n d at : ℕ) (gs xs zs : List Pauli) (generators : Rows) (logicals : Logicals) (s : List ℕ)
    → counted_rows gs ≡ (generators.count, generators.rows) → filled_logicals xs zs ≡ (logicals.x, logicals.z)
    → n ≤ most_qubits → from ≤ length s
    → claim_after from n d at generators logicals s ≡ with_claim n d at gs xs zs (drop from s)
unfolding code_of
claim-of-held from n d at gs xs zs generators logicals s held ls few here =
    claim-here from n d at generators logicals s here
    ∙ ap (λ p. continue p (λ w. done (record { code = held_code n d generators logicals w; claim_at = at })))
    (few-qubits n at (claim_line n at) (drop from s) few)
    ∙ (λ i.
    continue (claim_line n at (drop from s)) (λ w.
    done
    (record {
      code =
          record {
            n = n;
            r = (sym held i).0;
            d = d;
            g = (sym held i).1;
            x = (sym ls i).0;
            z = (sym ls i).1;
            w = w;
          };
      claim_at = at;
    })))

-- ---- the lines from a byte on

module _ (from n d : ℕ) (s : List ℕ) where
  pub rows_inside : n ≤ most_qubits → from ≤ length s → rows_and_claim from n d s ≡ lines_from_g n d (drop from s)
  unfolding rows_and_claim
  rows_inside few here = rw (le-ltb most_qubits n few, le-ltb (length s) from here)

  pub too_many-qubits : most_qubits < n → rows_and_claim from n d s ≡ stop (Refusal.Form first_generator_at)
  unfolding rows_and_claim
  too_many-qubits many = rw (lt-ltb most_qubits n many)

  pub no-such-byte : n ≤ most_qubits → length s < from → rows_and_claim from n d s
      ≡ stop (Refusal.Form first_generator_at)
  unfolding rows_and_claim
  no-such-byte few behind = rw (le-ltb most_qubits n few, lt-ltb (length s) from behind)
