-- The form of a line, as the code tests it: its key, and its value with a line feed behind it.
use Rattle.std.specs.Prelude.{Option, Some, None}
use Rattle.std.proofs.lemmas.Option.{none-some}
use mathlib.Core.Bool.{Bool, true, false, cond}
use mathlib.Core.List.{List, [], ◌∷◌}
use mathlib.Core.Path.{◌≡◌, refl, ap, sym, ◌∙◌}
use Prim.Native.Nat.{ℕ, suc, ◌+◌, ◌-◌, ◌<◌, ◌≤◌}
use native.Mathlib.Omega.{arith}
use borrow.Author.Tests.{eqb-true, eq-eqb}
use lib.Dec.{eqb}
use lib.ListN.{length, take, drop, get_or, length-take, length-drop}
use Rattle.refusals.specs.declared.Refusal.{Refusal}
use Rattle.sheet.specs.Reader.{got, stop, begins, got_or, is_line, line_of}
use Rattle.sheet.specs.Text.{line_feed}
use Rattle.sheet.proofs.Line.{nonzero-within}
use Rattle.line_kinds.specs.declared.LineKind.{LineKind}
use Rattle.line_kinds.specs.LineKinds.{kind_byte, kind_key, line_kind}
use Rattle.line_parts.specs.LineValues.{key_of, value_from}
use Rattle.line_parts.specs.Values.{up_to}
use Rattle.line_kinds.proofs.Keys.{key-taken, kind-begins, other-begins}
use Rattle.line_parts.proofs.Values.{few_bytes, many-bytes}

-- A part of m bytes from a place on.
part_of : (at m : ℕ) (s : List ℕ) → take (m + at - at) (drop at s) ≡ take m (drop at s)
part_of at m s = let places : m + at - at ≡ m = omega arith in ap (λ k. take k (drop at s)) places

-- ---- the value of the bytes from a place on

module _ {A : Type 0} (from m : ℕ) (read : List ℕ → Option A) (s : List ℕ) where
  pub value_none : eqb (get_or s (m + from) 0) line_feed ≡ false → value_from from m read s ≡ None
  unfolding value_from
  value_none e = rw e

  pub value_read : eqb (get_or s (m + from) 0) line_feed ≡ true
      → value_from from m read s ≡ read (take (m + from - from) (drop from s))
  unfolding value_from
  value_read e = rw (e, part_of)

  -- The line feed is within the bytes.
  pub feed-within : eqb (get_or s (m + from) 0) line_feed ≡ true → m + from < length s
  unfolding line_feed
  feed-within e = nonzero-within s (m + from) (omega (arith, eqb-true (get_or s (m + from) 0) 10 e))

  pub value-within : {a : A} → value_from from m read s ≡ Some a → m + from < length s
  value-within {a} e = by-feed (eqb (get_or s (m + from) 0) line_feed) refl
    where
      by-feed : (b : Bool) → eqb (get_or s (m + from) 0) line_feed ≡ b → m + from < length s
      by-feed true f = feed-within f
      by-feed false f = absurd (none-some a (sym (value_none f) ∙ e))

-- A value of no more bytes than may be read, and of more.
module _ {A : Type 0} (most from m : ℕ) (read : List ℕ → Option A) (s : List ℕ) where
  pub value-few : m ≤ most → value_from from m (up_to most read) s ≡ value_from from m read s
  unfolding value_from
  value-few h =
      ap (λ o. cond (eqb (get_or s (m + from) 0) line_feed) o None)
      (few_bytes most read (take m (drop from s)) (omega (arith, length-take m (drop from s))))

  pub value-many : most < m → value_from from m (up_to most read) s ≡ None
  unfolding value_from
  value-many h = by-feed (eqb (get_or s (m + from) 0) line_feed) refl
    where
      by-feed : (b : Bool) → eqb (get_or s (m + from) 0) line_feed ≡ b
          → cond b (up_to most read (take m (drop from s))) None ≡ None
      by-feed true e =
          many-bytes most read (take m (drop from s))
          (omega (arith, length-take m (drop from s), length-drop from s, feed-within from m read s e))
      by-feed false e = refl

-- ---- a line behind any key

-- The value decides.
module _ {A : Type 0} (m : ℕ) (read : List ℕ → Option A) (refusal : Refusal) (s : List ℕ) where
  pub line-by-value : line_of (key_of s) m read refusal s ≡ got_or refusal (value_from 2 m read s) (drop (m + 3) s)
  unfolding key_of line_of is_line begins line_feed value_from got_or
  line-by-value = by_length s
    where
      two : m + 2 ≡ suc (suc m)
      two = omega arith

      three : m + 3 ≡ suc (suc (m + 1))
      three = omega arith

      chosen : (b : Bool) (o : Option A) (rest : List ℕ)
          → cond b (got_or refusal o rest) (stop refusal) ≡ got_or refusal (cond b o None) rest
      chosen true o rest = refl
      chosen false o rest = refl

      by_length : (s : List ℕ)
          → line_of (key_of s) m read refusal s ≡ got_or refusal (value_from 2 m read s) (drop (m + 3) s)
      by_length [] = refl
      by_length (c ∷ []) = rw (two, eq-eqb c c refl)
      by_length (c ∷ d ∷ s) =
          rw (two, three, eq-eqb c c refl, eq-eqb d d refl)
          (chosen (eqb (get_or s m 0) 10) (read (take m s)) (drop (m + 1) s))

  pub line-no-value : value_from 2 m read s ≡ None → line_of (key_of s) m read refusal s ≡ stop refusal
  unfolding got_or
  line-no-value e = line-by-value ∙ ap (λ o. got_or refusal o (drop (m + 3) s)) e

  pub line-value : {a : A} → value_from 2 m read s ≡ Some a → line_of (key_of s) m read refusal s
      ≡ got a (drop (m + 3) s)
  unfolding got_or
  line-value e = line-by-value ∙ ap (λ o. got_or refusal o (drop (m + 3) s)) e

-- ---- a line of a kind

module _ (k : LineKind) {A : Type 0} (m : ℕ) (read : List ℕ → Option A) (refusal : Refusal) (s : List ℕ) where
  pub line-of-kind : 0 < kind_byte k → line_kind s ≡ k
      → line_of (kind_key k) m read refusal s ≡ line_of (key_of s) m read refusal s
  unfolding key_of
  line-of-kind keyed e = ap (λ key. line_of key m read refusal s) (key-taken k s (kind-begins k s keyed e))

  pub line-of-other : (line_kind s ≡ k → ⊥) → line_of (kind_key k) m read refusal s ≡ stop refusal
  unfolding line_of is_line
  line-of-other other = rw (other-begins k s other)
