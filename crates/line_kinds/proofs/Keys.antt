-- A line's kind and its key: bytes have a kind exactly where they begin with its key.
use Rattle.std.specs.Prelude.{Option, Some, None}
use mathlib.Core.Bool.{Bool, true, false, cond, ◌&&◌, and-false, false≢true}
use mathlib.Core.List.{List, [], ◌∷◌}
use mathlib.Core.Path.{◌≡◌, refl, ap, sym, subst, ◌∙◌}
use Prim.Native.Nat.{ℕ, ◌<◌}
use native.Mathlib.Omega.{arith}
use borrow.Author.Rules.{rules}
use borrow.Author.Tests.{eqb-true, eq-eqb, ne_eqb}
use denote.Enum.Declared.{tag_of}
use denote.Enum.Bare.{sameb, same_true, same_false}
use lib.Dec.{eqb}
use lib.ListN.{take, get_or}
use types.Run.{OneOf, miss}
use Rattle.letters.specs.Lists.{bytes, read_byte, first_of}
use Rattle.refusals.specs.declared.Family.{Family}
use Rattle.refusals.specs.Families.{row_key}
use Rattle.code_record.proofs.Limits.{both}
use Rattle.sheet.specs.Reader.{begins}
use Rattle.letters.proofs.Lists.{read_byte-skip}
use Rattle.sheet.proofs.Values.{read_byte-byte}
use Rattle.line_kinds.specs.declared.LineKind.{LineKind}
use Rattle.line_kinds.specs.contracts.LineKind.{the_type}
use Rattle.line_kinds.specs.declared.LineKind.TheVariants.{Qubits, Distance, Generator, LogicalX, LogicalZ}
use Rattle.line_kinds.specs.declared.LineKind.TheVariants.{Claim, Syndrome, Other}
use Rattle.line_kinds.specs.LineKinds.{kind_byte, kind_key, kinds, or_other, kind_of, line_kind}

kind-of-byte : (k : LineKind) → kind_of (kind_byte k) ≡ k
unfolding kind_of read_byte first_of
kind-of-byte Qubits = refl
kind-of-byte Distance = refl
kind-of-byte Generator = refl
kind-of-byte LogicalX = refl
kind-of-byte LogicalZ = refl
kind-of-byte Claim = refl
kind-of-byte Syndrome = refl
kind-of-byte Other = refl

byte-of-kind : (c : ℕ) (k : LineKind) → 0 < kind_byte k → kind_of c ≡ k → c ≡ kind_byte k
unfolding kind_of
byte-of-kind c k keyed e = by-found (read_byte kind_byte kinds c) refl e
  where
    by-found : (o : Option LineKind) → read_byte kind_byte kinds c ≡ o → or_other o ≡ k → c ≡ kind_byte k
    by-found None f e = absurd (omega (arith, ap kind_byte e))
    by-found (Some x) f e = read_byte-byte kind_byte kinds c x f ∙ ap kind_byte e

pub no-kind : (c : ℕ) → (c ≡ 110 → ⊥) → (c ≡ 100 → ⊥) → (c ≡ 103 → ⊥) → (c ≡ 120 → ⊥) → (c ≡ 122 → ⊥)
    → (c ≡ 119 → ⊥) → (c ≡ 115 → ⊥) → kind_of c ≡ Other
unfolding kind_of read_byte first_of
no-kind c n d g x z w s =
    ap or_other
    (read_byte-skip kind_byte Qubits (Distance ∷ Generator ∷ LogicalX ∷ LogicalZ ∷ Claim ∷ Syndrome ∷ []) c n
    ∙ read_byte-skip kind_byte Distance (Generator ∷ LogicalX ∷ LogicalZ ∷ Claim ∷ Syndrome ∷ []) c d
    ∙ read_byte-skip kind_byte Generator (LogicalX ∷ LogicalZ ∷ Claim ∷ Syndrome ∷ []) c g
    ∙ read_byte-skip kind_byte LogicalX (LogicalZ ∷ Claim ∷ Syndrome ∷ []) c x
    ∙ read_byte-skip kind_byte LogicalZ (Claim ∷ Syndrome ∷ []) c z
    ∙ read_byte-skip kind_byte Claim (Syndrome ∷ []) c w
    ∙ read_byte-skip kind_byte Syndrome [] c s)

-- With `=` behind it the first byte decides, and with another byte none does.
pub key-read : (s : List ℕ) → get_or s 1 0 ≡ 61 → kind_of (get_or s 0 0) ≡ line_kind s
unfolding line_kind
key-read s e = ap (λ x. cond (eqb x 61) (kind_of (get_or s 0 0)) Other) (sym e)

pub no-key : (s : List ℕ) → (get_or s 1 0 ≡ 61 → ⊥) → Other ≡ line_kind s
unfolding line_kind
no-key s other = ap (λ b. cond b (kind_of (get_or s 0 0)) Other) (sym (ne_eqb (get_or s 1 0) 61 other))

module _ (k : LineKind) where
  pub kind-begins : (s : List ℕ) → 0 < kind_byte k → line_kind s ≡ k → begins (kind_key k) s ≡ true
  unfolding line_kind begins
  kind-begins [] keyed e = absurd (omega (arith, ap kind_byte e))
  kind-begins (c ∷ []) keyed e = absurd (omega (arith, ap kind_byte e))
  kind-begins (c ∷ d ∷ s) keyed e = by-equals (eqb d 61) refl e
    where
      by-equals : (b : Bool) → eqb d 61 ≡ b → cond b (kind_of c) Other ≡ k
          → (eqb (kind_byte k) c && (eqb 61 d && true)) ≡ true
      by-equals true f e =
          rw (eq-eqb (kind_byte k) c (sym (byte-of-kind c k keyed e)), eq-eqb 61 d (sym (eqb-true d 61 f)))
      by-equals false f e = absurd (omega (arith, ap kind_byte e))

  begins-kind : (s : List ℕ) → begins (kind_key k) s ≡ true → line_kind s ≡ k
  unfolding line_kind begins
  begins-kind [] e = absurd (false≢true e)
  begins-kind (c ∷ []) e = absurd (false≢true (sym (and-false (eqb (kind_byte k) c)) ∙ e))
  begins-kind (c ∷ d ∷ s) e =
      let h = both _ _ e in
      let key = eqb-true (kind_byte k) c h.0 in
      let equals = eqb-true 61 d (both _ _ h.1).0 in
      ap (λ x. cond (eqb x 61) (kind_of c) Other) (sym equals) ∙ ap kind_of (sym key) ∙ kind-of-byte k

  pub other-begins : (s : List ℕ) → (line_kind s ≡ k → ⊥) → begins (kind_key k) s ≡ false
  other-begins s other = by-begun (begins (kind_key k) s) refl
    where
      by-begun : (b : Bool) → begins (kind_key k) s ≡ b → b ≡ false
      by-begun true e = absurd (other (begins-kind s e))
      by-begun false e = refl

  -- The key is what the bytes begin with.
  pub key-taken : (s : List ℕ) → begins (kind_key k) s ≡ true → kind_key k ≡ take 2 s
  unfolding begins
  key-taken [] e = absurd (false≢true e)
  key-taken (c ∷ []) e = absurd (false≢true (sym (and-false (eqb (kind_byte k) c)) ∙ e))
  key-taken (c ∷ d ∷ s) e =
      let h = both _ _ e in
      let key = eqb-true (kind_byte k) c h.0 in
      let equals = eqb-true 61 d (both _ _ h.1).0 in (λ i. key i ∷ equals i ∷ [])

-- The places of the other kinds in the table, and that a line whose kind is at one of them is of another kind.
abbrev others : LineKind → List ℕ
others Qubits = 1 ∷ 2 ∷ 3 ∷ 4 ∷ 5 ∷ 6 ∷ 7 ∷ []
others Distance = 0 ∷ 2 ∷ 3 ∷ 4 ∷ 5 ∷ 6 ∷ 7 ∷ []
others Generator = 0 ∷ 1 ∷ 3 ∷ 4 ∷ 5 ∷ 6 ∷ 7 ∷ []
others LogicalX = 0 ∷ 1 ∷ 2 ∷ 4 ∷ 5 ∷ 6 ∷ 7 ∷ []
others LogicalZ = 0 ∷ 1 ∷ 2 ∷ 3 ∷ 5 ∷ 6 ∷ 7 ∷ []
others Claim = 0 ∷ 1 ∷ 2 ∷ 3 ∷ 4 ∷ 6 ∷ 7 ∷ []
others Syndrome = 0 ∷ 1 ∷ 2 ∷ 3 ∷ 4 ∷ 5 ∷ 7 ∷ []
others Other = 0 ∷ 1 ∷ 2 ∷ 3 ∷ 4 ∷ 5 ∷ 6 ∷ []

pub other-kind : (k : LineKind) {kind : LineKind} → OneOf (others k) (tag_of the_type kind) → kind ≡ k → ⊥
other-kind k h e = apart k (subst (λ x. OneOf (others k) (tag_of the_type x)) e h)
  where
    apart : (k : LineKind) → OneOf (others k) (tag_of the_type k) → ⊥
    apart Qubits = miss (others Qubits) 0 tt
    apart Distance = miss (others Distance) 1 tt
    apart Generator = miss (others Generator) 2 tt
    apart LogicalX = miss (others LogicalX) 3 tt
    apart LogicalZ = miss (others LogicalZ) 4 tt
    apart Claim = miss (others Claim) 5 tt
    apart Syndrome = miss (others Syndrome) 6 tt
    apart Other = miss (others Other) 7 tt

-- ---- the rows of a family

abbrev pub row_kind : Family → LineKind
row_kind Family.Generator = Generator
row_kind Family.LogicalX = LogicalX
row_kind Family.LogicalZ = LogicalZ

pub row-key : (family : Family) → bytes (row_key family) ≡ kind_key (row_kind family)
unfolding bytes
row-key Family.Generator = refl
row-key Family.LogicalX = refl
row-key Family.LogicalZ = refl

row-keyed : (family : Family) → 0 < kind_byte (row_kind family)
row-keyed Family.Generator = omega arith
row-keyed Family.LogicalX = omega arith
row-keyed Family.LogicalZ = omega arith

-- Where the kind of the line is the family's, a row of it begins there, and else none.
pub row-begins : (s : List ℕ) {kind : LineKind} → kind ≡ line_kind s → (family : Family)
    → sameb the_type kind (row_kind family) ≡ begins (bytes (row_key family)) s
row-begins s {kind} told family = by-same (sameb the_type kind (row_kind family)) refl
  where
    key-is : begins (bytes (row_key family)) s ≡ begins (kind_key (row_kind family)) s
    key-is = ap (λ key. begins key s) (row-key family)

    by-same : (b : Bool) → sameb the_type kind (row_kind family) ≡ b → b ≡ begins (bytes (row_key family)) s
    by-same true e =
        sym
        (key-is ∙ kind-begins (row_kind family) s (row-keyed family)
        (sym told ∙ same_true the_type (search rules) kind (row_kind family) e))
    by-same false e =
        sym
        (key-is ∙ other-begins (row_kind family) s (λ f. same_false the_type kind (row_kind family) e (told ∙ f)))
