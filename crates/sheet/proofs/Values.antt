-- A line's value and its text: from the text the value is read, and from no other bytes. A number's text is its decimal
-- digits, a row's its sign and letters, a claim's its letters. Each byte is read as what is written as that byte; the
-- digits of a number are those of its tenth and one more; and letters say what the masks of a row do (pauli's Letters
-- and Rows).
use Rattle.std.specs.Option.{option_map}
use Rattle.std.specs.Prelude.{Option, Some}
use Rattle.letters.specs.Options.{bind}
use Rattle.std.proofs.lemmas.Option.{none-some}
use Rattle.letters.proofs.Options.{bind-some, map-some}
use mathlib.Core.Bool.{Bool, true, false}
use mathlib.Core.List.{List, [], ◌∷◌, ◌++◌, map, foldl, append-nil, Forall₂}
use mathlib.Core.Path.{◌≡◌, refl, ap, ap₂, sym, ◌∙◌}
use Prim.Native.Char.{code}
use Prim.Native.Nat.{ℕ, zero, suc, ◌+◌, ◌-◌, ◌*◌, ◌/◌, ◌%◌, ◌^◌, ◌<◌, ◌≤◌}
use native.Mathlib.Nat.{mod-mod}
use native.Mathlib.Omega.{arith}
use borrow.Author.Tests.{eqb-true, lt-ltb}
use lib.Dec.{eqb}
use lib.ListN.{length, length-map}
use lib.Seq.{append_snoc}
use Rattle.pauli.specs.declared.Pauli.{Pauli}
use Rattle.letters.specs.declared.Letter.{Letter}
use Rattle.letters.specs.declared.Letter.TheVariants.{I, X, Y, Z}
use Rattle.letters.specs.declared.Sign.{Sign}
use Rattle.letters.specs.declared.Sign.TheVariants.{Plus, Minus}
use Rattle.pauli.specs.Letters.{letter_text, row_text, letters_of}
use Rattle.letters.specs.Letters.{read_letter, read_sign, letter_byte, sign_byte}
use Rattle.pauli.specs.Letters.{x_mask, z_mask, row_phase, row_of, signed_row, of_letters, is_signed_row, sign_of}
use Rattle.letters.specs.Lists.{first_of, read_byte}
use Rattle.pauli.specs.Product.{modulo4}
use Rattle.pauli.proofs.Letters.{letters-return, x_mask-lt, z_mask-lt}
use Rattle.pauli.proofs.Rows.{row-has-sign, row-returns, sign-returns, signed-row-is-signed}
use Rattle.code_record.specs.Record.{between, on_qubits, is_row, is_claim}
use Rattle.code_record.proofs.Limits.{both, between-bounds, bounds-between, on-qubits}
use Rattle.sheet.specs.Reader.{read_each, read_digit, number_of, read_number, read_letters, read_row}
use Rattle.sheet.specs.Text.{decimal}
use Rattle.sheet.proofs.Lengths.{decimal-one, decimal-snoc, by_digits}

-- ---- bytes

-- Each byte is read as the value at its place.
pub read_each-each : {A : Type 0} (read : ℕ → Option A) (cs : List ℕ) {xs : List A} → read_each read cs ≡ Some xs
    → Forall₂ (λ c x. read c ≡ Some x) cs xs
unfolding read_each
read_each-each read [] {xs} e = let e : [] ≡ xs = cc in rw (← e) Forall₂.nil
read_each-each read (c ∷ cs) {xs} e =
    let b = bind-some (read c) _ e in
    let m = map-some (λ rest. b.0 ∷ rest) (read_each read cs) b.2 in
    rw (← m.2) (Forall₂.cons b.1 (read_each-each read cs m.1))

module _ {A : Type 0} (byte : A → ℕ) (read : ℕ → Option A) where
  pub each-written : ((c : ℕ) (a : A) → read c ≡ Some a → c ≡ byte a) → (cs : List ℕ) {l : List A}
      → read_each read cs ≡ Some l → cs ≡ map byte l
  each-written written cs e = go (read_each-each read cs e)
    where
      go : {cs : List ℕ} {l : List A} → Forall₂ (λ c a. read c ≡ Some a) cs l → cs ≡ map byte l
      go Forall₂.nil = refl
      go (Forall₂.cons {a = c} {b = a} e es) = ap₂ ◌∷◌ (written c a e) (go es)

  pub each_read : ((a : A) → read (byte a) ≡ Some a) → (l : List A) → read_each read (map byte l) ≡ Some l
  unfolding read_each bind
  each_read returns [] = refl
  each_read returns (a ∷ l) = rw (returns a, each_read returns l)

module _ {A : Type 0} (test : A → Bool) where
  first_of-passes : (xs : List A) {x : A} → first_of test xs ≡ Some x → test x ≡ true
  unfolding first_of
  first_of-passes [] {x} e = absurd (none-some x e)
  first_of-passes (y ∷ ys) {x} e = go (test y) refl (first_of-passes ys)
    where
      go : (t : Bool) → test y ≡ t → (first_of test ys ≡ Some x → test x ≡ true) → test x ≡ true
      go true p ih = let q : Some y ≡ Some x = rw (p, first_of) at e in cc
      go false p ih = ih (rw (p, first_of) at e)

-- A byte that is read as one of some values is that value's byte.
pub read_byte-byte : {A : Type 0} (byte : A → ℕ) (values : List A) (c : ℕ) (x : A) → read_byte byte values c ≡ Some x
    → c ≡ byte x
unfolding read_byte
read_byte-byte byte values c x e = eqb-true c (byte x) (first_of-passes (λ a. eqb c (byte a)) values e)

-- ---- signs and letters

sign-written : (c : ℕ) (sign : Sign) → read_sign c ≡ Some sign → c ≡ sign_byte sign
unfolding read_sign
sign-written c sign e = read_byte-byte sign_byte _ c sign e

sign_read : (s : Sign) → read_sign (sign_byte s) ≡ Some s
unfolding read_sign read_byte first_of
sign_read Plus = refl
sign_read Minus = refl

-- Letters that were read are written as the bytes, and are as many.
module _ (cs : List ℕ) (s : List Letter) (e : read_each read_letter cs ≡ Some s) where
  letters-written : cs ≡ map letter_byte s
  unfolding read_letter
  letters-written = each-written letter_byte read_letter (read_byte-byte letter_byte _) cs e

  pub letters-count : length s ≡ length cs
  letters-count = rw letters-written (sym (length-map s letter_byte))

letter-read : (l : Letter) → read_letter (letter_byte l) ≡ Some l
unfolding read_letter read_byte first_of
letter-read I = refl
letter-read X = refl
letter-read Y = refl
letter-read Z = refl

letters-read : (ls : List Letter) → read_each read_letter (map letter_byte ls) ≡ Some ls
letters-read = each_read letter_byte read_letter letter-read

-- ---- numbers

pub digit-written : (c d : ℕ) → read_digit c ≡ Some d → (d < 10) × (c ≡ code "0" + d)
unfolding read_digit
digit-written c d e = go (between (code "0") (code "9") c) refl
  where
    go : (t : Bool) → between (code "0") (code "9") c ≡ t → (d < 10) × (c ≡ code "0" + d)
    go true p =
        let q : Some (c - code "0") ≡ Some d = rw (p, read_digit) at e in
        let value : c - code "0" ≡ d = cc in
        omega (arith, between-bounds (code "0") (code "9") c p)
    go false p = absurd (none-some d (rw (p, read_digit) at e))

digit-read : (m : ℕ) → m < 10 → read_digit (code "0" + m) ≡ Some m
unfolding read_digit
digit-read m h = rw (bounds-between 48 57 (48 + m) (omega arith) (omega arith)) (ap Some (omega arith))

-- The digits of the number so far, and those that follow.
digits-follow : {cs ds : List ℕ} (m : ℕ) → 0 < m → Forall₂ (λ c d. read_digit c ≡ Some d) cs ds
    → decimal m ++ cs ≡ decimal (foldl (λ m e. m * 10 + e) m ds)
digits-follow m h Forall₂.nil = append-nil (decimal m)
digits-follow m h (Forall₂.cons {a = c} {b = d} {l₁ = cs} e es) =
    let r = digit-written c d e in
    let tenth : (m * 10 + d) / 10 ≡ m = omega arith in
    let last : code "0" + (m * 10 + d) % 10 ≡ c = omega arith in
    let step : decimal (m * 10 + d) ≡ decimal m ++ c ∷ [] =
    decimal-snoc (m * 10 + d) (omega arith) ∙ rw (tenth, last) in
    sym (rw step (append_snoc (decimal m) c cs)) ∙ digits-follow (m * 10 + d) (omega arith) es

pub number-written : (cs : List ℕ) (m : ℕ) → read_number cs ≡ Some m → cs ≡ decimal m
unfolding read_number number_of
number-written cs m e =
    let b = bind-some (read_each read_digit cs) number_of e in
    go (read_each-each read_digit cs b.1) b.2
  where
    go : {cs ds : List ℕ} → Forall₂ (λ c d. read_digit c ≡ Some d) cs ds → number_of ds ≡ Some m → cs ≡ decimal m
    go Forall₂.nil e = absurd (none-some m e)
    go (Forall₂.cons {b = zero} h hs) e = absurd (none-some m e)
    go (Forall₂.cons {a = c} {b = suc d} {l₂ = ds} h hs) e =
        let r = digit-written c (suc d) h in
        let first : decimal (suc d) ≡ c ∷ [] = decimal-one (suc d) r.0 ∙ rw r.1 in
        rw first at (digits-follow (suc d) (omega arith) hs) ∙ cc

pub number-from : (d : ℕ) (ds : List ℕ) → 1 ≤ d → number_of (d ∷ ds) ≡ Some (foldl (λ m e. m * 10 + e) d ds)
unfolding number_of
number-from zero ds h = absurd (omega arith)
number-from (suc d) ds h = refl

pub number_read : (m : ℕ) → 1 ≤ m → m < 100 → read_number (decimal m) ≡ Some m
unfolding read_number read_each bind
number_read m low high = by_digits (λ s. read_number s ≡ Some m) m high one two
  where
    one : m < 10 → read_number ((code "0" + m) ∷ []) ≡ Some m
    one h = rw (digit-read m h, number-from m [] low)

    two : 10 ≤ m → read_number ((code "0" + m / 10) ∷ (code "0" + m % 10) ∷ []) ≡ Some m
    two h =
        rw (
          digit-read (m / 10) (omega arith),
          digit-read (m % 10) (omega arith),
          number-from (m / 10) (m % 10 ∷ []) (omega arith),
        ) (ap Some (omega arith))

-- ---- rows

-- A row of n qubits, and a claim, with the phase 0 to 3.
pub record Row (n : ℕ) (P : Pauli) : Type 0 where
  pub row : is_row n P ≡ true
  pub phase : modulo4 P ≡ P

pub record Claim (n : ℕ) (P : Pauli) : Type 0 where
  pub claim : is_claim n P ≡ true
  pub phase : modulo4 P ≡ P

module _ (sign : Sign) (s : List Letter) where
  signed-on-qubits : on_qubits (length s) (signed_row sign s) ≡ true
  unfolding on_qubits signed_row row_of
  signed-on-qubits = rw (lt-ltb (x_mask s) (2 ^ length s) (x_mask-lt s), lt-ltb (z_mask s) (2 ^ length s) (z_mask-lt s))

  signed-modulo4 : modulo4 (signed_row sign s) ≡ signed_row sign s
  unfolding modulo4 signed_row row_of row_phase
  signed-modulo4 = rw mod-mod

  signed-is-row : Row (length s) (signed_row sign s)
  unfolding is_row
  signed-is-row = record { row = rw (signed-on-qubits, signed-row-is-signed); phase = signed-modulo4 }

letters-are-claim : (s : List Letter) → Claim (length s) (of_letters s)
unfolding is_claim of_letters
letters-are-claim s = record { claim = rw (signed-on-qubits, row-has-sign); phase = signed-modulo4 Plus s }

letter_text-written : (cs : List ℕ) (sign : Sign) (s : List Letter) → read_each read_letter cs ≡ Some s
    → cs ≡ letter_text (length cs) (signed_row sign s)
unfolding letter_text
letter_text-written cs sign s e = rw (← letters-count cs s e, letters-return) (letters-written cs s e)

pub row_written : (n : ℕ) (v : List ℕ) (P : Pauli) → length v ≡ n + 1 → read_row v ≡ Some P
    → Row n P × (v ≡ row_text n P)
unfolding read_row row_text
row_written n [] P h e = absurd (none-some P e)
row_written n (c ∷ cs) P h e =
    let b = bind-some (read_sign c) (λ s. option_map (signed_row s) (read_each read_letter cs)) e in
    let m = map-some (signed_row b.0) (read_each read_letter cs) b.2 in
    go b.0 m.0 b.1 m.1 m.2
  where
    go : (sign : Sign) (s : List Letter) → read_sign c ≡ Some sign → read_each read_letter cs ≡ Some s
        → signed_row sign s ≡ P → Row n P × (c ∷ cs ≡ row_text n P)
    go sign s ec es eP =
        let width : length cs ≡ n = omega arith in
        rw (← eP, ← width) (
          rw (← letters-count cs s es) (signed-is-row sign s),
          rw sign-returns (ap₂ ◌∷◌ (sign-written c sign ec) (letter_text-written cs sign s es)),
        )

pub claim-written : (n : ℕ) (v : List ℕ) (P : Pauli) → length v ≡ n → read_letters v ≡ Some P
    → Claim n P × (v ≡ letter_text n P)
unfolding read_letters of_letters
claim-written n v P h e =
    let m = map-some of_letters (read_each read_letter v) e in
    go m.0 m.1 m.2
  where
    go : (s : List Letter) → read_each read_letter v ≡ Some s → of_letters s ≡ P → Claim n P × (v ≡ letter_text n P)
    go s es eP = rw (← eP, ← h) (rw (← letters-count v s es) (letters-are-claim s), letter_text-written v Plus s es)

row-letters : (n : ℕ) (P : Pauli) → is_row n P ≡ true → signed_row (sign_of P) (letters_of n P) ≡ modulo4 P
unfolding is_row
row-letters n P h =
    let b = both _ _ h in
    let masks = on-qubits n P b.0 in
    row-returns n P masks.0 masks.1 b.1

claim-letters : (n : ℕ) (P : Pauli) → is_claim n P ≡ true → of_letters (letters_of n P) ≡ modulo4 P
unfolding is_claim of_letters sign_of is_signed_row
claim-letters n P h =
    let b = both _ _ h in
    let masks = on-qubits n P b.0 in
    rw (b.1, sign_of) at (row-returns n P masks.0 masks.1 (rw b.1))

pub row_read : (n : ℕ) (P : Pauli) → is_row n P ≡ true → read_row (row_text n P) ≡ Some (modulo4 P)
unfolding read_row row_text letter_text bind
row_read n P h = rw (sign_read (sign_of P), letters-read (letters_of n P), row-letters n P h)

pub claim-read : (n : ℕ) (P : Pauli) → is_claim n P ≡ true → read_letters (letter_text n P) ≡ Some (modulo4 P)
unfolding read_letters letter_text
claim-read n P h = rw (letters-read (letters_of n P), claim-letters n P h)
