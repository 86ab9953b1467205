-- The lines with letters, of a row and of w. The letters tell what is read, and for a row the sign before them.
use Rattle.std.specs.Prelude.{Option, Some, None}
use Rattle.std.specs.Option.{option_map}
use Rattle.letters.specs.Options.{bind}
use mathlib.Core.Bool.{Bool, true, false, cond}
use mathlib.Core.List.{List, ◌∷◌}
use mathlib.Core.Path.{◌≡◌, refl, ap, sym, ◌∙◌}
use Prim.Native.Nat.{ℕ, suc, ◌+◌, ◌<◌, ◌≤◌}
use native.Mathlib.Numerals.{add-one}
use native.Mathlib.Omega.{arith}
use borrow.Author.Tests.{ltb-true, ltb-false}
use lib.Dec.{eqb, ltb}
use lib.ListN.{length, take, drop, get_or}
use lib.Seq.{drop-cons}
use Rattle.letters.specs.declared.Letter.{Letter}
use Rattle.pauli.specs.declared.Pauli.{Pauli}
use Rattle.letters.specs.declared.Sign.{Sign}
use Rattle.pauli.specs.Letters.{row_of, signed_row, of_letters}
use Rattle.letters.specs.Letters.{read_letter, read_sign}
use Rattle.letters.specs.Lists.{bytes}
use Rattle.refusals.specs.declared.Refusal.{Refusal}
use Rattle.code_record.specs.Record.{most_qubits}
use Rattle.sheet.specs.Reader.{Reader, got, stop, got_or, read_each, read_letters, read_row, line_of, claim_line}
use Rattle.sheet.specs.Text.{line_feed}
use Rattle.line_kinds.specs.declared.LineKind.{LineKind}
use Rattle.line_kinds.specs.LineKinds.{kind_key, line_kind}
use Rattle.line_parts.specs.Values.{up_to}
use Rattle.line_parts.proofs.Values.{bind-none}
use Rattle.line_parts.specs.LineValues.{value_from}
use Rattle.line_parts.proofs.LineValues.{feed-within, value-few, value-many, line-by-value, line-of-kind, line-of-other}
use Rattle.row_reader.specs.Answers.{row_behind_key, within_qubits}
use Rattle.row_reader.proofs.Answers.{few-qubits, many-qubits}

-- The letters as the code reads them, and a row of a sign and letters.
abbrev letters : ℕ → ℕ → List ℕ → Option Pauli
letters from n = value_from from n (up_to most_qubits read_letters)

abbrev signed : Option Sign → Option Pauli → Option Pauli
signed sign plus = bind sign (λ g. option_map (λ P. row_of g P.a P.b) plus)

-- ---- up to the most qubits, and beyond

module _ (n at : ℕ) (reader : Reader Pauli) (s : List ℕ) where
  by_value : (o : Option Pauli) (rest : List ℕ) → (n ≤ most_qubits → reader s ≡ got_or (Refusal.Form at) o rest)
      → (most_qubits < n → o ≡ None)
      → within_qubits n at reader s ≡ got_or (Refusal.Form at) o rest
  unfolding got_or
  by_value o rest few many = by_count (ltb most_qubits n) refl
    where
      by_count : (b : Bool) → ltb most_qubits n ≡ b → within_qubits n at reader s ≡ got_or (Refusal.Form at) o rest
      by_count true e =
          let h = ltb-true most_qubits n e in
          many-qubits n at reader s h ∙ ap (λ o. got_or (Refusal.Form at) o rest) (sym (many h))
      by_count false e = let h = ltb-false most_qubits n e in few-qubits n at reader s h ∙ few h

  pub refused-within : reader s ≡ stop (Refusal.Form at) → within_qubits n at reader s ≡ stop (Refusal.Form at)
  unfolding got_or
  refused-within e = by_value None s (λ h. e) (λ h. refl)

-- ---- the line of a row

read-row : (c : ℕ) (w : List ℕ) → read_row (c ∷ w) ≡ signed (read_sign c) (read_letters w)
unfolding read_row read_letters bind of_letters signed_row row_of
read-row c w = by_sign (read_sign c) (read_each read_letter w)
  where
    by_sign : (sign : Option Sign) (ls : Option (List Letter))
        → bind sign (λ g. option_map (signed_row g) ls) ≡ signed sign (option_map of_letters ls)
    by_sign None ls = refl
    by_sign (Some g) None = refl
    by_sign (Some g) (Some ls) = refl

-- The value of a row's line: the sign, and the letters behind it.
row-bytes : (n : ℕ) (s : List ℕ) → n + 3 < length s → take (n + 1) (drop 2 s) ≡ get_or s 2 0 ∷ take n (drop 3 s)
row-bytes n s h = ap (λ k. take k (drop 2 s)) (add-one n) ∙ ap (take (suc n)) (drop-cons s 2 0 (omega arith))

row-value-is : (n : ℕ) (s : List ℕ)
    → value_from 2 (n + 1) read_row s ≡ signed (read_sign (get_or s 2 0)) (value_from 3 n read_letters s)
unfolding value_from
row-value-is n s =
    let places : n + 1 + 2 ≡ n + 3 = omega arith in
    ap (λ i. cond (eqb (get_or s i 0) line_feed) (read_row (take (n + 1) (drop 2 s))) None) places
    ∙ by-feed (eqb (get_or s (n + 3) 0) line_feed) refl
  where
    by-feed : (b : Bool) → eqb (get_or s (n + 3) 0) line_feed ≡ b
        → cond b (read_row (take (n + 1) (drop 2 s))) None
        ≡ signed (read_sign (get_or s 2 0)) (cond b (read_letters (take n (drop 3 s))) None)
    by-feed true e =
        ap read_row (row-bytes n s (feed-within 3 n read_letters s e)) ∙ read-row (get_or s 2 0) (take n (drop 3 s))
    by-feed false e = sym (bind-none (read_sign (get_or s 2 0)))

module _ (n at : ℕ) (s : List ℕ) where
  row-line-is : within_qubits n at (row_behind_key n at) s
      ≡ got_or (Refusal.Form at) (signed (read_sign (get_or s 2 0)) (letters 3 n s)) (drop (n + 4) s)
  row-line-is =
      let sign = read_sign (get_or s 2 0) in
      let places : n + 1 + 3 ≡ n + 4 = omega arith in
      by_value n at (row_behind_key n at) s (signed sign (letters 3 n s)) (drop (n + 4) s)
      (λ h. line-by-value (n + 1) read_row (Refusal.Form at) s
      ∙ ap (λ i. got_or (Refusal.Form at) (value_from 2 (n + 1) read_row s) (drop i s)) places
      ∙ ap (λ o. got_or (Refusal.Form at) o (drop (n + 4) s))
      (row-value-is n s ∙ ap (signed sign) (sym (value-few most_qubits 3 n read_letters s h))))
      (λ h. ap (signed sign) (value-many most_qubits 3 n read_letters s h) ∙ bind-none sign)

  pub row-no-letters : letters 3 n s ≡ None → within_qubits n at (row_behind_key n at) s ≡ stop (Refusal.Form at)
  unfolding got_or
  row-no-letters e =
      row-line-is
      ∙ ap (λ o. got_or (Refusal.Form at) o (drop (n + 4) s))
      (ap (signed (read_sign (get_or s 2 0))) e ∙ bind-none (read_sign (get_or s 2 0)))

  pub row-no-sign : read_sign (get_or s 2 0) ≡ None → within_qubits n at (row_behind_key n at) s
      ≡ stop (Refusal.Form at)
  unfolding got_or bind
  row-no-sign e =
      row-line-is ∙ ap (λ sign. got_or (Refusal.Form at) (signed sign (letters 3 n s)) (drop (n + 4) s)) e

  pub row-value : {g : Sign} {P : Pauli} → read_sign (get_or s 2 0) ≡ Some g → letters 3 n s ≡ Some P
      → within_qubits n at (row_behind_key n at) s ≡ got (row_of g P.a P.b) (drop (n + 4) s)
  unfolding got_or bind
  row-value {g} {P} e f =
      row-line-is ∙ ap (λ sign. got_or (Refusal.Form at) (signed sign (letters 3 n s)) (drop (n + 4) s)) e
      ∙ ap (λ o. got_or (Refusal.Form at) (signed (Some g) o) (drop (n + 4) s)) f

-- ---- the line of w

module _ (n at : ℕ) (s : List ℕ) where
  claim-line-form : claim_line n at s ≡ line_of (kind_key LineKind.Claim) n read_letters (Refusal.Form at) s
  unfolding claim_line bytes
  claim-line-form = refl

  pub claim-other : (line_kind s ≡ LineKind.Claim → ⊥) → within_qubits n at (claim_line n at) s ≡ stop (Refusal.Form at)
  claim-other other =
      refused-within n at (claim_line n at) s
      (claim-line-form ∙ line-of-other LineKind.Claim n read_letters (Refusal.Form at) s other)

  module _ (keyed : line_kind s ≡ LineKind.Claim) where
    claim-line-is : within_qubits n at (claim_line n at) s
        ≡ got_or (Refusal.Form at) (letters 2 n s) (drop (n + 3) s)
    claim-line-is =
        by_value n at (claim_line n at) s (letters 2 n s) (drop (n + 3) s)
        (λ h. claim-line-form ∙ line-of-kind LineKind.Claim n read_letters (Refusal.Form at) s (omega arith) keyed
        ∙ line-by-value n read_letters (Refusal.Form at) s
        ∙ ap (λ o. got_or (Refusal.Form at) o (drop (n + 3) s)) (sym (value-few most_qubits 2 n read_letters s h)))
        (value-many most_qubits 2 n read_letters s)

    pub claim-no-letters : letters 2 n s ≡ None → within_qubits n at (claim_line n at) s ≡ stop (Refusal.Form at)
    unfolding got_or
    claim-no-letters e = claim-line-is ∙ ap (λ o. got_or (Refusal.Form at) o (drop (n + 3) s)) e

    pub claim-value : {P : Pauli} → letters 2 n s ≡ Some P
        → within_qubits n at (claim_line n at) s ≡ got P (drop (n + 3) s)
    unfolding got_or
    claim-value e = claim-line-is ∙ ap (λ o. got_or (Refusal.Form at) o (drop (n + 3) s)) e
