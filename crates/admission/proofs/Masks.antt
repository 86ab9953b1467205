-- What the masks of a Pauli tell, whatever its phase: its syndrome and whether it is in the group. A Pauli has the
-- masks of the string of its letters, so both can be asked of the string.
use mathlib.Core.Bool.{true, ◌&&◌}
use mathlib.Core.List.{List}
use mathlib.Core.Path.{◌≡◌, ap, ap₂, sym, ◌∙◌}
use Prim.Native.Nat.{ℕ}
use borrow.Author.Tests.{lt-ltb}
use lib.ListN.{length}
use Rattle.letters.specs.declared.Letter.{Letter}
use Rattle.pauli.specs.declared.Pauli.{Pauli}
use Rattle.letters.specs.declared.Sign.TheVariants.{Plus}
use Rattle.pauli.specs.Letters.{row_of, signed_row, of_letters, letters_of}
use Rattle.letters.specs.Lists.{all_of}
use Rattle.pauli.specs.Product.{commutes, anticommutes, symplectic}
use Rattle.pauli.specs.Syndrome.{syndrome}
use Rattle.pauli.proofs.Letters.{x_mask-lt, z_mask-lt, masks-return, letters-return}
use Rattle.pauli.proofs.Product.{pauli}
use Rattle.code_record.specs.Record.{on_qubits}
use Rattle.code_record.proofs.Limits.{on-qubits}
use Rattle.stabilizer.specs.Group.{InGroupUpToPhase}
use Rattle.stabilizer.proofs.Generated.{masks_of, phase_aside, generated-as}
use Rattle.stabilizer.proofs.Members.{in-group-aside}

module _ (rows : List Pauli) (P Q : Pauli) (same : masks_of P ≡ masks_of Q) where
  pub commutes-by-masks : all_of (commutes P) rows ≡ all_of (commutes Q) rows
  unfolding commutes symplectic masks_of
  commutes-by-masks = ap (λ R. all_of (commutes R) rows) same

  pub syndrome-by-masks : syndrome rows P ≡ syndrome rows Q
  unfolding syndrome anticommutes commutes symplectic masks_of
  syndrome-by-masks = ap (syndrome rows) same

  pub in-group-by-masks : InGroupUpToPhase rows P → InGroupUpToPhase rows Q
  in-group-by-masks m = (in-group-aside rows Q).1 (generated-as phase_aside rows P Q same ((in-group-aside rows P).0 m))

-- ---- strings of letters

module _ (n : ℕ) (s : List Letter) (count : length s ≡ n) where
  pub string-on-qubits : on_qubits n (of_letters s) ≡ true
  unfolding on_qubits of_letters signed_row row_of
  string-on-qubits = rw (← count) (ap₂ ◌&&◌ (lt-ltb _ _ (x_mask-lt s)) (lt-ltb _ _ (z_mask-lt s)))

  pub string-returns : of_letters (letters_of n (of_letters s)) ≡ of_letters s
  unfolding of_letters
  string-returns = ap of_letters (ap (λ m. letters_of m (of_letters s)) (sym count) ∙ letters-return Plus s)

pub letters-keep-masks : (n : ℕ) (P : Pauli) → on_qubits n P ≡ true
    → masks_of (of_letters (letters_of n P)) ≡ masks_of P
unfolding masks_of of_letters signed_row row_of
letters-keep-masks n P on =
    let q = on-qubits n P on in let m = masks-return n P q.0 q.1 in ap₂ (pauli 0) m.0 m.1
