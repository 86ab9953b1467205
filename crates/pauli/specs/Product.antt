-- Paulis with phase: product, commutation, weight.
use Rattle.std.specs.Prelude.{Bool, not, ◌&&◌, ℕ, ◌+◌, ◌*◌, ◌%◌, eqb}
use Rattle.std.specs.Int.Bits.{bit_xor, bit_or}
use Rattle.pauli.specs.declared.Pauli.{Pauli}
use Rattle.pauli.specs.Masks.{count_ones, dot}

-- The Pauli I.
abbrev pub identity : Pauli
identity = record { p = 0; a = 0; b = 0 }

-- RULES, "Paulis": phases add up, with 2 for each qubit at which a Z of P meets an X of Q; masks add bit by bit.
unfoldable pub product : Pauli → Pauli → Pauli
product P Q =
    record { p = (P.p + Q.p + 2 * dot P.b Q.a) % 4; a = bit_xor P.a Q.a; b = bit_xor P.b Q.b }

-- -P, and the Pauli whose product with P is I.
unfoldable pub negated : Pauli → Pauli
negated P = record { p = (P.p + 2) % 4; a = P.a; b = P.b }

unfoldable pub inverse : Pauli → Pauli
inverse P = record { p = (3 * P.p + 2 * dot P.b P.a) % 4; a = P.a; b = P.b }

-- RULES, "Paulis": two Paulis commute where a·b' + a'·b is even. Its remainder by 2 is their symplectic product.
unfoldable pub symplectic : Pauli → Pauli → ℕ
symplectic P Q = (dot P.a Q.b + dot Q.a P.b) % 2

unfoldable pub commutes : Pauli → Pauli → Bool
commutes P Q = eqb (symplectic P Q) 0

unfoldable pub anticommutes : Pauli → Pauli → Bool
anticommutes P Q = not (commutes P Q)

-- RULES, "Paulis": the weight counts the qubits at which either mask has a one.
unfoldable pub weight : Pauli → ℕ
weight P = count_ones (bit_or P.a P.b)

-- RULES, "Paulis": the same, phase aside, where the masks are equal.
unfoldable pub same_masks : Pauli → Pauli → Bool
same_masks P Q = eqb P.a Q.a && eqb P.b Q.b

-- RULES, "Paulis": a phase stands for its remainder modulo 4. The same Pauli with its phase 0 to 3.
unfoldable pub modulo4 : Pauli → Pauli
modulo4 P = record { p = P.p % 4; a = P.a; b = P.b }

unfoldable pub has_phase : ℕ → Pauli → Bool
has_phase q P = eqb (P.p % 4) (q % 4)

-- The same Pauli, phase and masks.
unfoldable pub same_pauli : Pauli → Pauli → Bool
same_pauli P Q = has_phase Q.p P && same_masks P Q
