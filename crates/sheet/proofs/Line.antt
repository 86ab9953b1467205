-- A line: its key, its value's text, a line feed. The reader of a line reads such bytes, with anything behind them, and
-- it reads no others, if its value is read from the value's text and from no other bytes (Values).
use Rattle.std.specs.Prelude.{Option, Some}
use mathlib.Core.Bool.{true, ◌&&◌, false≢true}
use mathlib.Core.List.{List, [], ◌∷◌, ◌++◌, append_assoc}
use mathlib.Core.Path.{◌≡◌, refl, ap, ap₂, sym, ◌∙◌}
use Prim.Native.Nat.{ℕ, zero, suc, ◌+◌, ◌<◌}
use Prim.Native.String.{String}
use native.Mathlib.Numerals.{add-one}
use native.Mathlib.Omega.{arith}
use borrow.Author.Tests.{eqb-true, eq-eqb}
use lib.Dec.{eqb}
use lib.ListN.{length, take, drop, get_or}
use lib.Seq.{length-take-le, split_at, drop-append_seam, take-append_seam, drop-append-add, get_or-append_seam}
use Rattle.letters.specs.Lists.{bytes}
use Rattle.refusals.specs.declared.Refusal.{Refusal}
use Rattle.code_record.proofs.Limits.{both}
use Rattle.sheet.specs.Reader.{got, begins, got_or, is_line, line_of, read_line}
use Rattle.sheet.specs.Text.{line_feed, line}
use Rattle.sheet.proofs.Outcome.{Outcome, stops, cond-outcome, got_or-outcome, Took}

-- ---- what was read is a line

begins-append : (p s : List ℕ) → begins p s ≡ true → s ≡ p ++ drop (length p) s
unfolding begins
begins-append [] s h = refl
begins-append (p ∷ ps) [] h = absurd (false≢true h)
begins-append (p ∷ ps) (c ∷ s) h =
    let b = both (eqb p c) (begins ps s) h in
    ap₂ ◌∷◌ (sym (eqb-true p c b.0)) (begins-append ps s b.1)

-- A place with an entry other than 0 is within the list.
pub nonzero-within : (l : List ℕ) (m : ℕ) → 0 < get_or l m 0 → m < length l
nonzero-within [] m h = absurd (omega arith)
nonzero-within (x ∷ l) zero h = omega arith
nonzero-within (x ∷ l) (suc m) h = omega (arith, nonzero-within l m h)

module _
    {A : Type 0} {text : A → List ℕ} {Law : A → Type 0} (key : String) (m : ℕ) (read : List ℕ → Option A)
    (back : (v : List ℕ) (a : A) → length v ≡ m → read v ≡ Some a → Law a × (v ≡ text a)) where
  pub line-outcome : {Stop : Refusal → Type 0} (refusal : Refusal) (s : List ℕ) → Stop refusal
      → Outcome (Took (λ a. line key (text a)) Law s) Stop (read_line key m read refusal s)
  unfolding line_of is_line line line_feed
  line-outcome refusal s h =
      cond-outcome (begins (bytes key) s && eqb (get_or value m 0) 10)
      (λ e. let e = both (begins (bytes key) s) (eqb (get_or value m 0) 10) e in
      got_or-outcome (read (take m value)) _ refusal (took e.0 (eqb-true (get_or value m 0) 10 e.1)) h)
      (λ e. stops h)
    where
      value : List ℕ
      value = drop (length (bytes key)) s

      took : begins (bytes key) s ≡ true → get_or value m 0 ≡ 10 → (a : A) → read (take m value) ≡ Some a
          → Took (λ a. line key (text a)) Law s a (drop (m + 1) value)
      took b f a e =
          let within : m < length value = nonzero-within value m (omega arith) in
          let split = ap (λ (l : List ℕ). bytes key ++ l) (split_at value m 0 within) in
          let r = back (take m value) a (length-take-le m value (omega arith)) e in
          record {
            lawful = r.0;
            bytes_read = begins-append (bytes key) s b ∙ split ∙ simp (r.1, f, add-one, append_assoc);
          }

-- ---- a line is read

begins-itself : (p s : List ℕ) → begins p (p ++ s) ≡ true
unfolding begins
begins-itself [] s = refl
begins-itself (c ∷ p) s = rw (eq-eqb c c refl, begins-itself p s)

-- A line's bytes, and what stands behind it.
line-then : (key : String) (value rest : List ℕ) → line key value ++ rest ≡ bytes key ++ (value ++ line_feed ∷ rest)
unfolding line
line-then key value rest = simp append_assoc

pub line-begins : (key : String) (value rest : List ℕ) → begins (bytes key) (line key value ++ rest) ≡ true
line-begins key value rest = rw line-then (begins-itself (bytes key) _)

pub line-returns : {A : Type 0} (key : String) (m : ℕ) (read : List ℕ → Option A) (refusal : Refusal)
    (value rest : List ℕ) (a : A)
    → length value ≡ m → read value ≡ Some a → read_line key m read refusal (line key value ++ rest) ≡ got a rest
unfolding line_of is_line got_or
line-returns key m read refusal value rest a long h =
    rw (
      ← long,
      line-then,
      drop-append_seam,
      begins-itself,
      get_or-append_seam,
      eq-eqb line_feed line_feed refl,
      take-append_seam,
      drop-append-add,
      h,
    )
