-- An error on at most t qubits is corrected by the call by value, `CorrectedByValue`: its syndrome as a mask has the
-- bits of its syndrome, and the correction for these is that of the third guarantee.
use Rattle.std.specs.Prelude.{None}
use mathlib.Core.Bool.{Bool}
use mathlib.Core.List.{List}
use mathlib.Core.Path.{◌≡◌, ap, sym, subst, ◌∙◌}
use Prim.Native.Nat.{ℕ, ◌^◌, ◌<◌}
use Rattle.pauli.specs.declared.Pauli.{Pauli}
use Rattle.pauli.specs.Syndrome.{syndrome, mask_of_bits, syndrome_mask}
use Rattle.pauli.proofs.Undetected.{syndrome-mask-lt}
use Rattle.code_record.specs.declared.Code.{Code}
use Rattle.code_record.specs.Record.{generators}
use Rattle.code_record.proofs.Limits.{limits}
use Rattle.sheet.proofs.Lengths.{length-generators}
use Rattle.admission.specs.Admission.{read_sheet}
use Rattle.admission.proofs.Admitted.{admitted-as, admitted-lawful}
use Rattle.decoder.specs.Correction.{correction}
use Rattle.decoder.specs.EndToEnd.{Correctable}
use Rattle.decoder.proofs.Bits.{syndromes-have-r-bits}
use Rattle.decoder.proofs.Guarantee.{errors-are-corrected}
use Rattle.mask_decoding.specs.Masks.{bits_of_mask, mask_answer}
use Rattle.mask_decoding.specs.Statements.{CorrectedByValue}
use Rattle.mask_decoding.proofs.Masks.{masks-tell-bits, no-fault}

module _ (s : List ℕ) (E : Pauli) (h : Correctable s E) where
  abbrev c : Code
  c = (read_sheet s).code

  abbrev bits : List Bool
  bits = syndrome (generators c) E

  same_bits : bits_of_mask c.r (syndrome_mask (generators c) E) ≡ bits
  unfolding syndrome_mask
  same_bits =
      ap (λ r. bits_of_mask r (mask_of_bits bits)) (sym (syndromes-have-r-bits.of_sheet s E h.is_admitted))
      ∙ masks-tell-bits.of_bits bits

  below : syndrome_mask (generators c) E < 2 ^ c.r
  below =
      let lawful = admitted-lawful s c (admitted-as s h.is_admitted) in
      subst (λ r. syndrome_mask (generators c) E < 2 ^ r)
      (length-generators c lawful.sized (limits c lawful.limits)) (syndrome-mask-lt (generators c) E)

pub corrected-by-value : CorrectedByValue
unfolding mask_answer
corrected-by-value s E h =
    let e = errors-are-corrected s h.is_admitted E h.on_code h.light in
    let within = (admitted-lawful s (c s E h) (admitted-as s h.is_admitted)).limits in
    record {
      letters = e.letters;
      found = e.found;
      answered = sym (no-fault (c s E h) _ within (below s E h))
          ∙ ap (λ bits. mask_answer None (correction (c s E h) bits)) (same_bits s E h)
          ∙ ap (mask_answer None) e.found;
      light = e.light;
      in_group = e.in_group;
    }
