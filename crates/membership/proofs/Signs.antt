-- Membership with its sign, from what the canonical generators leave of the row + with the given masks.
use Rattle.std.specs.Prelude.{Some, None, Ok, Err}
use mathlib.Core.Bool.{Bool, true, false, cond}
use mathlib.Core.Path.{◌≡◌, refl, ap, ap₂, sym, ◌∙◌}
use Rattle.pauli.specs.declared.Pauli.{Pauli}
use Rattle.letters.specs.declared.Sign.TheVariants.{Plus, Minus}
use Rattle.pauli.specs.Letters.{row_of}
use Rattle.pauli.specs.Product.{identity, same_masks, same_pauli}
use Rattle.code_record.specs.declared.Code.{Code}
use Rattle.refusals.specs.declared.Refusal.{Refusal}
use Rattle.code_record.specs.Record.{generators}
use Rattle.stabilizer.specs.Canonical.{reduced, canonical_generators}
use Rattle.stabilizer.specs.Checks.{minus_identity}
use Rattle.stabilizer.specs.Group.{member_sign}
use Rattle.stabilizer.proofs.Faults.{reduced_sign, member-sign-reduced}
use Rattle.reduced_rows.specs.declared.Kind.{Kind}
use Rattle.reduced_rows.specs.declared.Kind.TheVariants.{Independent, PlusIdentity, MinusIdentity}
use Rattle.reduced_rows.specs.RowKinds.{kind_of}
use Rattle.reduced_rows.specs.Rows.{rows_in, reduced_of}
use Rattle.reduced_rows.proofs.Rows.{rows_of}
use Rattle.elimination.specs.declared.Elimination.{Elimination}
use Rattle.elimination.specs.Answers.{elimination}
use Rattle.elimination.proofs.Passed.{fault-told, rows_told, passed-independent}
use Rattle.membership.specs.Answers.{kind_member, member_answer, membership}

kind-member : (Q : Pauli) → Ok (kind_member (kind_of Q)) ≡ member_answer None (reduced_sign Q)
unfolding kind_of reduced_sign member_answer
kind-member Q = by (same_masks Q identity) (same_pauli minus_identity Q)
  where
    by : (nothing? minus? : Bool)
        → Ok (kind_member (cond nothing? (cond minus? MinusIdentity PlusIdentity) Independent))
        ≡ member_answer None (cond nothing? (Some (cond minus? Minus Plus)) None)
    by true true = refl
    by true false = refl
    by false minus? = refl

module _ (c : Code) (P : Pauli) {e : Elimination} (known : e ≡ elimination c) where
  pub member-refused : {refusal : Refusal} → e.answer ≡ Err refusal
      → Err refusal ≡ membership c P
  unfolding membership member_answer
  member-refused told = ap (λ fault. member_answer fault (member_sign (generators c) P)) (fault-told c known told)

  pub member-told : {R : Pauli} {kind : Kind} → e.answer ≡ Ok tt → R ≡ row_of Plus P.a P.b
      → kind ≡ kind_of (reduced e.reduced.n (rows_in e.reduced) R) → Ok (kind_member kind) ≡ membership c P
  unfolding membership reduced_of
  member-told {R} told row found =
      let passes = fault-told c known told in
      let canonical = canonical_generators c.n (generators c) in
      ap (λ kind. Ok (kind_member kind))
      (found ∙ ap (λ hs. kind_of (reduced hs.n (rows_in hs) R)) (rows_told c known told)
      ∙ ap₂ (λ hs R. kind_of (reduced c.n hs R)) (rows_of c.n canonical) row)
      ∙ kind-member (reduced c.n canonical (row_of Plus P.a P.b))
      ∙ ap₂ member_answer passes
      (sym (member-sign-reduced c.n (generators c) (passed-independent c passes).stabilizer P))
