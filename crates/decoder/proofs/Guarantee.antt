-- The third guarantee, `Guarantee` of specs/Statements. Under an admitted sheet every error of weight at most t has a
-- correction, no heavier, and the two differ by a member of the group (Corrected). Two errors refute the distance
-- exactly where there is a logical error below d: the product of the two is one, and the letters of one, dealt out
-- to two strings, are two such errors. The search of 14 finds a logical error below d where there is one, and shows
-- the two halves of the earliest. So what is admissible but for distance is refused with 14 where it can be
-- refuted, and else admitted.
use Rattle.std.specs.Prelude.{Option, Some, None}
use Rattle.std.specs.Result.{result_err}
use Rattle.std.specs.Option.{option_map}
use Rattle.std.proofs.lemmas.Option.{none-some, same_Some}
use mathlib.Core.List.{List}
use mathlib.Core.Path.{◌≡◌, refl, ap, sym, subst, ◌∙◌}
use Prim.Native.Nat.{ℕ, ◌+◌, ◌-◌, ◌/◌, ◌<◌}
use native.Mathlib.Omega.{arith}
use lib.ListN.{length}
use Rattle.pauli.specs.declared.Pauli.{Pauli}
use Rattle.letters.specs.declared.Letter.{Letter}
use Rattle.pauli.specs.Letters.{of_letters}
use Rattle.pauli.specs.Order.{weight_of}
use Rattle.pauli.specs.Product.{product, weight}
use Rattle.pauli.proofs.Letters.{weight-counts-letters}
use Rattle.pauli.proofs.Product.{weight-product-le}
use Rattle.pauli.proofs.Syndrome.{same-syndrome}
use Rattle.code_record.specs.declared.Code.{Code}
use Rattle.refusals.specs.declared.Refusal.{Refusal}
use Rattle.code_record.specs.Record.{generators}
use Rattle.code_record.proofs.Limits.{limits}
use Rattle.sheet.specs.Reader.{SheetRead}
use Rattle.stabilizer.proofs.Columns.{product-on-qubits}
use Rattle.admission.specs.Admission.{AdmissibleButForDistance}
use Rattle.admission.specs.Admission.{admitted, reading_of, refused_reading, read_sheet}
use Rattle.admission.specs.Distance.{LogicalError, logical_error_up_to, refuting_pair, distance_fault}
use Rattle.admission.proofs.Admitted.{admitted-as, admitted-lawful, no-distance-fault, form-lawful, read-by-distance}
use Rattle.admission.proofs.Earliest.{logical-error-is-earliest}
use Rattle.admission.proofs.Halves.{Dealt, dealt-halves, dealt-lengths, dealt-weights, dealt-product}
use Rattle.admission.proofs.BelowDistance.{logical-errors-weigh-d}
use Rattle.admission.proofs.Masks.{commutes-by-masks, in-group-by-masks, string-on-qubits}
use Rattle.decoder.specs.Statements.{ErrorsAreCorrected, Refutes, Refuted, RefusedForDistance, Shows}
use Rattle.decoder.specs.Statements.{DistanceIsDecided, Guarantee}
use Rattle.decoder.proofs.Corrected.{error-is-corrected}

-- ---- errors are corrected

pub errors-are-corrected : ErrorsAreCorrected
errors-are-corrected s h =
    let c = (read_sheet s).code in
    let a = admitted-as s h in
    let lawful = admitted-lawful s c a in
    error-is-corrected a.claim_at c lawful.sized lawful.limits (no-distance-fault s c a)

-- ---- two errors and a logical error

-- The product of two errors that refute the distance is a logical error below it.
refuting-product-is-logical : (c : Code) (E F : Pauli) → Refutes c E F
    → LogicalError c (product E F) × (weight (product E F) < c.d)
refuting-product-is-logical c E F r = (
  record {
    on_code = product-on-qubits c.n E F r.error_e r.error_f;
    undetected = (same-syndrome (generators c) E F).0 r.same_syndrome;
    outside = r.not_in_group;
  },
  omega (arith, weight-product-le E F, r.light),
)

-- The letters of a logical error below the distance, dealt out, refute it.
dealt-letters-refute : (c : Code) (s e f : List Letter) → Dealt s e f → length s ≡ c.n → weight_of s < c.d
    → LogicalError c (of_letters s) → Refutes c (of_letters e) (of_letters f)
dealt-letters-refute c s e f d count light logical =
    let rows = generators c in
    let counts = dealt-lengths d in
    let whole = product (of_letters e) (of_letters f) in
    let same = dealt-product d in
    record {
      error_e = string-on-qubits c.n e (counts.0 ∙ count);
      error_f = string-on-qubits c.n f (counts.1 ∙ count);
      light = omega (arith, weight-counts-letters e, weight-counts-letters f, dealt-weights d);
      same_syndrome = (same-syndrome rows (of_letters e) (of_letters f)).1
          (commutes-by-masks rows whole (of_letters s) same ∙ logical.undetected);
      not_in_group = λ m. logical.outside (in-group-by-masks rows whole (of_letters s) same m);
    }

-- ---- the distance is decided by the search

module _ (s : List ℕ) (q : SheetRead) (lawful : AdmissibleButForDistance s q) where
  abbrev c : Code
  c = q.code

  -- What the search finds, and the refusal that it is told with.
  abbrev searched : Option (List Letter)
  searched = logical_error_up_to c (c.d - 1)

  abbrev told : List Letter → Refusal
  told t = Refusal.DistanceRefuted q.claim_at (refuting_pair c.n t)

  found-refutes : (t : List Letter) → searched ≡ Some t
      → Refutes c (refuting_pair c.n t).e (refuting_pair c.n t).f
  unfolding refuting_pair
  found-refutes t e =
      let found = ((logical-error-is-earliest c (c.d - 1)).found t e).0 in
      dealt-letters-refute c t _ _ (dealt-halves ((weight_of t + 1) / 2) t) found.letters
      (omega (arith, found.light, (limits c (form-lawful s q lawful.form).limits).distance)) found.logical

  -- The sheet is read by what the search finds, and refused where it finds something.
  read-by-search : (o : Option (List Letter)) → searched ≡ o → read_sheet s ≡ reading_of c (option_map told o)
  unfolding distance_fault
  read-by-search o e = read-by-distance s q lawful ∙ ap (λ o. reading_of c (option_map told o)) e

  refusal-by-search : (o : Option (List Letter)) → searched ≡ o
      → result_err (read_sheet s).answer ≡ option_map told o
  unfolding reading_of admitted refused_reading
  refusal-by-search None e = ap (λ r. result_err r.answer) (read-by-search None e)
  refusal-by-search (Some t) e = ap (λ r. result_err r.answer) (read-by-search (Some t) e)

  found-is-shown : (t : List Letter) → searched ≡ Some t → Shows q (told t)
  unfolding refuting_pair
  found-is-shown t e = record {
    pair = refuting_pair c.n t;
    carried = refl;
    at_claim = refl;
    qubits = refl;
    refutes = found-refutes t e;
  }

  refusal-shows : (refusal : Refusal) → result_err (read_sheet s).answer ≡ Some refusal → Shows q refusal
  refusal-shows refusal h = go searched refl
    where
      go : (o : Option (List Letter)) → searched ≡ o → Shows q refusal
      go None e = absurd (none-some refusal (sym (refusal-by-search None e) ∙ h))
      go (Some t) e =
          let same = same_Some (told t) refusal (sym (refusal-by-search (Some t) e) ∙ h) in
          subst (Shows q) same (found-is-shown t e)

  refuted-is-refused : Refuted c → (refusal : Refusal) × RefusedForDistance s refusal
  unfolding distance_fault
  refuted-is-refused (E, F, r) = go searched refl
    where
      go : (o : Option (List Letter)) → searched ≡ o → (refusal : Refusal) × RefusedForDistance s refusal
      go None e =
          let l = refuting-product-is-logical c E F r in
          let heavy = logical-errors-weigh-d q.claim_at c (ap (option_map told) e) (product E F) l.0 in
          absurd (omega (arith, l.1))
      go (Some t) e = (told t, (refusal-by-search (Some t) e, refl))

  unrefuted_is-admitted : (Refuted c → ⊥) → read_sheet s ≡ admitted c
  unfolding reading_of
  unrefuted_is-admitted never = go searched refl
    where
      go : (o : Option (List Letter)) → searched ≡ o → read_sheet s ≡ admitted c
      go None e = read-by-search None e
      go (Some t) e = absurd (never (_, _, found-refutes t e))

pub distance-is-decided : DistanceIsDecided
distance-is-decided = record {
  exactly = λ s q lawful. (
    λ (refusal, h). let shows = refusal-shows s q lawful refusal h.0 in
        (shows.pair.e, shows.pair.f, shows.refutes),
    refuted-is-refused s q lawful,
  );
  shown = λ s q refusal lawful h. refusal-shows s q lawful refusal h.0;
  otherwise = unrefuted_is-admitted;
}

pub guarantee : Guarantee
guarantee = record { corrected = errors-are-corrected; decided = distance-is-decided }
