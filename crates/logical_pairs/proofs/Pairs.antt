-- Whether a logical pairs wrongly with an earlier one: the rows before it are tried in turn, and the first that pairs
-- wrongly decides.
use mathlib.Core.Bool.{Bool, true, false, not, cond, ◌||◌, beq}
use mathlib.Core.List.{List}
use mathlib.Core.Path.{◌≡◌, refl, ap, ap₂, sym, ◌∙◌}
use Prim.Native.Nat.{ℕ, ◌+◌, ◌-◌, ◌<◌, ◌≤◌}
use native.Mathlib.Numerals.{add-one}
use native.Mathlib.Omega.{arith}
use borrow.Author.Tests.{eq-eqb, ne_eqb, eqb-true, eqb-false}
use lib.Dec.{eqb}
use lib.ListN.{length, take, drop, get_or, drop_of_length-le}
use Rattle.pauli.specs.declared.Pauli.{Pauli}
use Rattle.pauli.specs.Product.{identity, commutes, anticommutes}
use Rattle.stabilizer.proofs.FirstRows.{taken_at}
use Rattle.admission.specs.Logicals.{pairs_wrongly}

-- Two logicals pair wrongly where they commute just as if they were partners.
wrong-bit : (P Q : Pauli) (partner : Bool)
    → beq (commutes P Q) partner ≡ cond partner (commutes P Q) (anticommutes P Q)
unfolding anticommutes
wrong-bit P Q partner = by (commutes P Q) partner
  where
    by : (c t : Bool) → beq c t ≡ cond t c (not c)
    by true true = refl
    by true false = refl
    by false true = refl
    by false false = refl

module _ (k place earlier : ℕ) where
  -- The partner is told by the distance of the two places.
  partner-at : earlier < place → eqb (place - earlier) k ≡ eqb place (earlier + k)
  partner-at before = by (eqb (place - earlier) k) refl
    where
      by : (b : Bool) → eqb (place - earlier) k ≡ b → eqb (place - earlier) k ≡ eqb place (earlier + k)
      by true e = e ∙ sym (eq-eqb place (earlier + k) (omega (arith, before, eqb-true (place - earlier) k e)))
      by false e =
          e ∙ sym (ne_eqb place (earlier + k) (λ h. eqb-false (place - earlier) k e (omega (arith, before, h))))

  module _ (rows : List Pauli) (P : Pauli) where
    -- Whether one of the rows from `earlier` on, before the place, pairs wrongly with the row there.
    abbrev pub WrongFrom : Bool
    WrongFrom = pairs_wrongly k place earlier (drop earlier (take place rows)) P

    pub wrong-at : {t : Bool} → earlier < place → earlier < length rows
        → beq (commutes P (get_or rows earlier identity)) (eqb (place - earlier) k) ≡ t
        → (t || pairs_wrongly k place (earlier + 1) (drop (earlier + 1) (take place rows)) P) ≡ WrongFrom
    unfolding pairs_wrongly
    wrong-at before inside test =
        let Q = get_or rows earlier identity in
        let partner = ap (beq (commutes P Q)) (sym (partner-at before)) in
        sym (ap (λ rest. pairs_wrongly k place earlier rest P) (taken_at rows place earlier before inside)
        ∙ ap₂ (λ t (next : ℕ). t || pairs_wrongly k place next (drop (earlier + 1) (take place rows)) P)
        (sym (wrong-bit P Q (eqb place (earlier + k))) ∙ partner ∙ test) (sym (add-one earlier)))

    pub wrong-end : length (take place rows) ≤ earlier → false ≡ WrongFrom
    unfolding pairs_wrongly
    wrong-end end = ap (λ rest. pairs_wrongly k place earlier rest P) (sym (drop_of_length-le (take place rows) end))
