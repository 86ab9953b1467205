-- Masks and bits tell each other, and so the call's answer is the correction for the bits of its mask.
use Rattle.std.specs.Prelude.{Option, Some, None, Ok, Err}
use mathlib.Core.Bool.{Bool, true, false, cond}
use mathlib.Core.List.{List, [], ◌∷◌}
use mathlib.Core.Path.{◌≡◌, refl, ap, ap₂, sym, ◌∙◌}
use Prim.Native.Nat.{ℕ, zero, suc, ◌+◌, ◌*◌, ◌/◌, ◌%◌, ◌^◌, ◌≤◌, ◌<◌}
use native.Mathlib.Decide.{dec_lt}
use native.Mathlib.Nat.{div-eq_of_lt, div-lt_iff_lt-mul}
use native.Mathlib.Omega.{arith}
use borrow.Author.Tests.{le-leb, lt-leb}
use lib.Dec.{eqb}
use lib.ListN.{length}
use lib.Pow.{pow_pos}
use Rattle.letters.specs.declared.Letter.{Letter}
use Rattle.pauli.specs.declared.Pauli.{Pauli}
use Rattle.pauli.specs.Syndrome.{mask_of_bits}
use Rattle.pauli.proofs.Masks.{digit}
use Rattle.refusals.specs.declared.Refusal.{Refusal}
use Rattle.refusals.specs.Refusals.{◌then◌}
use Rattle.code_record.specs.declared.Code.{Code}
use Rattle.code_record.specs.Record.{within_limits, Sized}
use Rattle.code_record.proofs.Limits.{limits}
use Rattle.sheet.proofs.Lengths.{length-generators}
use Rattle.sheet.proofs.WrittenText.{refuse_if-true, refuse_if-false, limits-broken, limits-kept}
use Rattle.decoder.specs.Correction.{correction}
use Rattle.corrections.specs.Corrections.{correction_of, correction_for}
use Rattle.corrections.proofs.ByValue.{corrections-by-value}
use Rattle.mask_decoding.specs.Masks.{bits_of_mask, mask_fault, mask_answer, decode_mask}
use Rattle.mask_decoding.specs.Statements.{MasksTellBits}

-- ---- masks and bits

bit-lt : (b : Bool) → cond b 1 0 < 2
bit-lt true = omega arith
bit-lt false = omega arith

bit-told : (b : Bool) → eqb (cond b 1 0) 1 ≡ b
bit-told true = refl
bit-told false = refl

told-bit : (m : ℕ) → cond (eqb (m % 2) 1) 1 0 ≡ m % 2
told-bit = digit (λ x. cond (eqb x 1) 1 0 ≡ x) refl refl

of-bits : (bits : List Bool) → bits_of_mask (length bits) (mask_of_bits bits) ≡ bits
unfolding bits_of_mask mask_of_bits
of-bits [] = refl
of-bits (b ∷ bs) =
    let small = bit-lt b in
    let low : (cond b 1 0 + 2 * mask_of_bits bs) % 2 ≡ cond b 1 0 = omega arith in
    let half : (cond b 1 0 + 2 * mask_of_bits bs) / 2 ≡ mask_of_bits bs = omega arith in
    ap₂ (λ x m. eqb x 1 ∷ bits_of_mask (length bs) m) low half ∙ ap₂ ◌∷◌ (bit-told b) (of-bits bs)

length-bits : (r mask : ℕ) → length (bits_of_mask r mask) ≡ r
unfolding bits_of_mask
length-bits zero mask = refl
length-bits (suc r) mask = ap suc (length-bits r (mask / 2))

of_mask_bits : (r mask : ℕ) → mask < 2 ^ r → mask_of_bits (bits_of_mask r mask) ≡ mask
unfolding bits_of_mask mask_of_bits
of_mask_bits zero mask below = omega arith
of_mask_bits (suc r) mask below =
    let behind = of_mask_bits r (mask / 2) (omega arith) in
    let low = told-bit mask in
    omega arith

pub masks-tell-bits : MasksTellBits
masks-tell-bits = record { of_bits = of-bits; of_mask = of_mask_bits }

-- What is left of a mask behind its r lowest bits tells whether it is below 2^r.
module _ (mask r : ℕ) where
  pub is_below : mask / 2 ^ r ≡ 0 → mask < 2 ^ r
  is_below e = let h = (div-lt_iff_lt-mul {k = 2 ^ r} {x = mask} {y = 1} (pow_pos r)).0 (omega arith) in omega arith

  pub not-below : (mask / 2 ^ r ≡ 0 → ⊥) → 2 ^ r ≤ mask
  not-below h = elim (dec_lt mask (2 ^ r)) [ yes below ↦ absurd (h (div-eq_of_lt below)) | no above ↦ omega arith ]

-- ---- the call

-- How the answer is made of what the search found.
answered : (found : Option (List Letter)) {p : Option Pauli} → p ≡ correction_of found → Ok p ≡ mask_answer None found
unfolding correction_of mask_answer
answered None e = ap (λ (p : Option Pauli). Ok p) e
answered (Some s) e = ap (λ (p : Option Pauli). Ok p) e

module _ (c : Code) (mask : ℕ) where
  pub outside-limits : within_limits c ≡ false → Err Refusal.RecordLimits ≡ decode_mask c mask
  unfolding decode_mask mask_answer ◌then◌
  outside-limits h = rw (limits-broken c h) refl

  module _ (within : within_limits c ≡ true) where
    pub bit-above : 2 ^ c.r ≤ mask → Err (Refusal.Syndrome 0) ≡ decode_mask c mask
    unfolding decode_mask mask_answer mask_fault ◌then◌
    bit-above h =
        rw (limits-kept c within, refuse_if-true (Refusal.Syndrome 0) (le-leb (2 ^ c.r) mask h)) refl

    module _ (below : mask < 2 ^ c.r) where
      pub no-fault : mask_answer None (correction c (bits_of_mask c.r mask)) ≡ decode_mask c mask
      unfolding decode_mask mask_fault ◌then◌
      no-fault = rw (limits-kept c within, refuse_if-false (Refusal.Syndrome 0) (lt-leb (2 ^ c.r) mask below)) refl

      module _ (sized : Sized c) where
        by_bits : correction_for c mask ≡ correction_of (correction c (bits_of_mask c.r mask))
        by_bits =
            ap (correction_for c) (sym (of_mask_bits c.r mask below))
            ∙ corrections-by-value.of_bits c (bits_of_mask c.r mask) within
            (length-bits c.r mask ∙ sym (length-generators c sized (limits c within)))

        pub has_searched : {p : Option Pauli} → p ≡ correction_for c mask → Ok p ≡ decode_mask c mask
        has_searched e = answered _ (e ∙ by_bits) ∙ no-fault
