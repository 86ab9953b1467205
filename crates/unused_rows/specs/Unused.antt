-- Rows that are +I, as the unused ones of a record are; and the bits of rows, by which most of them are told at once.
use Rattle.std.specs.Prelude.{Bool, List, [], ◌∷◌, ℕ}
use Rattle.std.specs.Int.Bits.{bit_or}
use Rattle.pauli.specs.declared.Pauli.{Pauli}
use Rattle.letters.specs.Lists.{all_of}
use Rattle.pauli.specs.Product.{identity, same_pauli}

-- RULES, "The record": unused rows are +I, their phases taken modulo 4.
abbrev pub are_identities : List Pauli → Bool
are_identities rows = all_of (same_pauli identity) rows

-- The bits of all phases and masks, joined.
unfoldable pub all_bits : List Pauli → ℕ
all_bits [] = 0
all_bits (P ∷ rows) = bit_or (bit_or (bit_or (all_bits rows) P.p) P.a) P.b
