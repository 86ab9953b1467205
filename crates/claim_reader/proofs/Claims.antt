-- The line of w from a byte on: there is none, or what the call on the line answers decides.
use Rattle.std.specs.Prelude.{Some, Option, None}
use mathlib.Core.List.{List}
use mathlib.Core.Path.{◌≡◌, ap, sym, subst, ◌∙◌}
use Prim.Native.Nat.{ℕ, ◌+◌, ◌<◌, ◌≤◌}
use native.Mathlib.Omega.{arith}
use borrow.Author.Tests.{lt-ltb, le-ltb}
use lib.ListN.{length, drop, length-drop}
use lib.Seq.{drop-drop}
use Rattle.refusals.specs.declared.Refusal.{Refusal}
use Rattle.sheet.specs.Reader.{got, stop, done, claim_line}
use Rattle.sheet.proofs.Reading.{then-got, then-stop}
use Rattle.row_reader.specs.declared.RowRead.{RowRead}
use Rattle.row_reader.specs.Answers.{bytes_of, row_at, within_qubits, AnswersRow}
use Rattle.rows_reader.specs.declared.Rows.{Rows}
use Rattle.rows_reader.specs.declared.Logicals.{Logicals}
use Rattle.claim_reader.specs.Claim.{held_code, claim_and_record, claim_after}

module _ (from n d at : ℕ) (generators : Rows) (logicals : Logicals) (s : List ℕ) where
  pub no-claim : length s < from → claim_after from n d at generators logicals s ≡ stop (Refusal.Form at)
  unfolding claim_after
  no-claim behind = rw (lt-ltb (length s) from behind)

  module _ (here : from ≤ length s) where
    pub claim-here : claim_after from n d at generators logicals s
        ≡ claim_and_record n d at generators logicals (drop from s)
    unfolding claim_after
    claim-here = rw (le-ltb (length s) from here)

    module _ {r : Option RowRead} (h : AnswersRow (drop from s) r (λ at. within_qubits n at (claim_line n at))) where
      pub claim-refused : r ≡ None → claim_after from n d at generators logicals s ≡ stop (Refusal.Form at)
      claim-refused e =
          claim-here
          ∙ then-stop (λ w. done (record { code = held_code n d generators logicals w; claim_at = at }))
          (sym (h.gives at) ∙ ap (row_at at (drop from s)) e)

      module _ {read : RowRead} (e : r ≡ Some read) where
        pub claim-within : from + read.used ≤ length s
        claim-within =
            omega (arith, subst (λ r. bytes_of r ≤ length (drop from s)) e h.within, length-drop from s)

        pub claim-read : claim_after from n d at generators logicals s
            ≡ got (record { code = held_code n d generators logicals read.row; claim_at = at })
            (drop (from + read.used) s)
        unfolding done
        claim-read =
            claim-here
            ∙ then-got (λ w. done (record { code = held_code n d generators logicals w; claim_at = at }))
            (sym (h.gives at) ∙ ap (row_at at (drop from s)) e)
            ∙ ap (got (record { code = held_code n d generators logicals read.row; claim_at = at }))
            (drop-drop read.used from s)
