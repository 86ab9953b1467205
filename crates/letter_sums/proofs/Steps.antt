-- The search by steps. The strings of one qubit more are those with I before them, then those with X, Y, Z; so the
-- first string that passes is found by its first letter other than I. All this holds of any test that goes along a
-- string by a state: a letter at the qubit with n qubits to its right leaves the test of the rest at another state, and
-- I leaves the state as it is.
use Rattle.std.specs.Option.{option_map}
use Rattle.std.specs.Prelude.{Option, Some, None}
use mathlib.Core.Bool.{Bool, true, false}
use mathlib.Core.List.{List, [], ◌∷◌, ◌++◌, map, flat_map, append-nil}
use mathlib.Core.Logic.{⊎_elim}
use mathlib.Core.Path.{◌≡◌, refl, ap, sym, subst, ◌∙◌}
use Prim.Native.Nat.{ℕ, zero, suc, ◌+◌, ◌-◌, min, ◌≤◌, ◌<◌}
use native.Mathlib.Nat.{zero-add, suc-add, eq-or-lt_of_le, eq-zero-or-pos}
use native.Mathlib.Numerals.{add-one, sub-one}
use native.Mathlib.Omega.{arith}
use lib.ListN.{replicate, length}
use Rattle.letters.specs.declared.Letter.{Letter}
use Rattle.letters.specs.declared.Letter.TheVariants.{I, X, Y, Z}
use Rattle.letters.specs.Letters.{struck_letter}
use Rattle.letters.specs.Lists.{first_of}
use Rattle.letters.proofs.Options.{some-none}
use Rattle.pauli.specs.Order.{strings, strings_up_to}
use Rattle.pauli.proofs.EarlierOrder.{strings-listed}
use Rattle.pauli.proofs.First.{first-is-earliest}
use Rattle.letter_sums.proofs.First.{or_else, first-append, first-map}

module _
    {S : Type 0} (test : ℕ → S → List Letter → Bool) (after : ℕ → Letter → S → S)
    (moves : (n : ℕ) (σ : S) (l : Letter) (s : List Letter) → test (suc n) σ (l ∷ s) ≡ test n (after n l σ) s)
    (still : (n : ℕ) (σ : S) → after n I σ ≡ σ) where
  unfoldable pub first : ℕ → ℕ → S → Option (List Letter)
  first n v σ = first_of (test n σ) (strings n v)

  pub first-length : (n v : ℕ) (σ : S) (s : List Letter) → first n v σ ≡ Some s → length s ≡ n
  unfolding first
  first-length n v σ s e = (first-is-earliest (test n σ) (strings n v) (strings-listed n v) s e).meets.0

  -- The strings that begin with l, by those behind it.
  begin : (n v : ℕ) (σ : S) (l : Letter)
      → first_of (test (suc n) σ) (map (λ s. l ∷ s) (strings n v))
      ≡ option_map (λ s. l ∷ s) (first n v (after n l σ))
  unfolding first
  begin n v σ l =
      first-map (test (suc n) σ) (test n (after n l σ)) (λ s. l ∷ s) (moves n σ l) (strings n v)

  -- One qubit more: I before it, then X, Y, Z.
  abbrev beginning : Letter → Option (List Letter) → Option (List Letter)
  beginning l o = option_map (λ s. l ∷ s) o

  by-letters : (n v : ℕ) (σ : S)
      → first (suc n) (suc v) σ
      ≡ or_else (beginning I (first n (suc v) σ))
      (or_else (beginning X (first n v (after n X σ)))
      (or_else (beginning Y (first n v (after n Y σ))) (beginning Z (first n v (after n Z σ)))))
  unfolding first strings flat_map or_else
  by-letters n v σ =
      let t = test (suc n) σ in
      simp (first-append t, append-nil, begin n (suc v) σ I, begin n v σ X, begin n v σ Y, begin n v σ Z, still n σ)

  -- None among the first k of the letters X, Y, Z at the qubit with n qubits to its right.
  abbrev pub NoneBelow : ℕ → ℕ → S → ℕ → Type 0
  NoneBelow n v σ k = (j : ℕ) → j < k → first n v (after n (struck_letter j) σ) ≡ None

  none_more : (n v : ℕ) (σ : S) → first n (suc v) σ ≡ None → NoneBelow n v σ 3 → first (suc n) (suc v) σ ≡ None
  unfolding or_else struck_letter
  none_more n v σ before each =
      by-letters n v σ ∙ rw (before, each 0 (omega arith), each 1 (omega arith), each 2 (omega arith))

  some_more : (n v : ℕ) (σ : S) (k : ℕ) (s : List Letter) → k < 3 → first n (suc v) σ ≡ None → NoneBelow n v σ k
      → first n v (after n (struck_letter k) σ) ≡ Some s → first (suc n) (suc v) σ ≡ Some (struck_letter k ∷ s)
  unfolding or_else struck_letter
  some_more n v σ zero s h before each here = by-letters n v σ ∙ rw (before, here)
  some_more n v σ (suc zero) s h before each here = by-letters n v σ ∙ rw (before, each 0 (omega arith), here)
  some_more n v σ (suc (suc zero)) s h before each here =
      by-letters n v σ ∙ rw (before, each 0 (omega arith), each 1 (omega arith), here)
  some_more n v σ (suc (suc (suc k))) s h before each here = absurd (omega arith)

  -- ---- letters I before

  padded : (gap n v : ℕ) (σ : S) (s : List Letter) → first n (suc v) σ ≡ Some s
      → first (gap + n) (suc v) σ ≡ Some (replicate gap I ++ s)
  unfolding or_else
  padded zero n v σ s e = rw zero-add e
  padded (suc gap) n v σ s e = rw suc-add (by-letters (gap + n) v σ ∙ rw (padded gap n v σ s e))

  fewer : (n m v : ℕ) (σ : S) → m ≤ n → first n (suc v) σ ≡ None → first m (suc v) σ ≡ None
  fewer n m v σ h e = by (first m (suc v) σ) refl
    where
      by : (o : Option (List Letter)) → first m (suc v) σ ≡ o → o ≡ None
      by None q = refl
      by (Some s) q =
          let there : first (n - m + m) (suc v) σ ≡ None =
          subst (λ (k : ℕ). first k (suc v) σ ≡ None) (omega arith) e in
          absurd (some-none _ (sym (padded (n - m) m v σ s q) ∙ there))

  -- ---- no room, and no letters

  short : (n v : ℕ) → n < v → strings n v ≡ []
  unfolding strings flat_map
  short zero zero h = absurd (omega arith)
  short (suc n) zero h = absurd (omega arith)
  short zero (suc v) h = refl
  short (suc n) (suc v) h = rw (short n (suc v) (omega arith), short n v (omega arith))

  pub none-short : (n v : ℕ) (σ : S) → n < v → first n v σ ≡ None
  unfolding first first_of
  none-short n v σ h = rw (short n v h)

  identity-test : (n : ℕ) (σ : S) → test n σ (replicate n I) ≡ test 0 σ []
  identity-test zero σ = refl
  identity-test (suc n) σ = moves n σ I (replicate n I) ∙ rw (still n σ) (identity-test n σ)

  pub weightless : (n : ℕ) (σ : S)
      → first n 0 σ ≡ elim (test 0 σ []) [ true ↦ Some (replicate n I) | false ↦ None ]
  unfolding first first_of strings
  weightless zero σ = refl
  weightless (suc n) σ = rw (identity-test (suc n) σ, first_of)

  -- ---- as the code has it: weight w, and one less behind the letter

  pub none-to-the-right : (n w : ℕ) (σ : S) → 0 < w → first n w σ ≡ None → NoneBelow n (w - 1) σ 3
      → first (n + 1) w σ ≡ None
  none-to-the-right n zero σ h before each = absurd (omega arith)
  none-to-the-right n (suc v) σ h before each =
      rw add-one (none_more n v σ before (subst (λ (u : ℕ). NoneBelow n u σ 3) (sub-one (suc v)) each))

  pub found_here : (n w : ℕ) (σ : S) (right k : ℕ) (s : List Letter) → 0 < w → right < n → k < 3
      → first right w σ ≡ None → NoneBelow right (w - 1) σ k
      → first right (w - 1) (after right (struck_letter k) σ) ≡ Some s
      → first n w σ ≡ Some (replicate (n - right - 1) I ++ (struck_letter k ∷ s))
  found_here n zero σ right k s h below hk before each here = absurd (omega arith)
  found_here n (suc v) σ right k s h below hk before each here =
      let at : n - right - 1 + (right + 1) ≡ n = omega arith in
      let each' : NoneBelow right v σ k = subst (λ (u : ℕ). NoneBelow right u σ k) (sub-one (suc v)) each in
      let here' = subst (λ (u : ℕ). first right u (after right (struck_letter k) σ) ≡ Some s) (sub-one (suc v)) here in
      let there : first (right + 1) (suc v) σ ≡ Some (struck_letter k ∷ s) =
      rw add-one (some_more right v σ k s hk before each' here') in
      let whole = padded (n - right - 1) (right + 1) v σ (struck_letter k ∷ s) there in
      subst (λ (m : ℕ). first m (suc v) σ ≡ Some (replicate (n - right - 1) I ++ (struck_letter k ∷ s))) at whole

  pub found_nowhere : (n w : ℕ) (σ : S) (right : ℕ) → 0 < w → n ≤ right → first right w σ ≡ None → first n w σ ≡ None
  found_nowhere n zero σ right h le before = absurd (omega arith)
  found_nowhere n (suc v) σ right h le before = fewer right n v σ le before

  -- ---- the weights in turn

  unfoldable pub first_up_to : ℕ → ℕ → S → Option (List Letter)
  first_up_to n t σ = first_of (test n σ) (strings_up_to n t)

  up-to-more : (n t : ℕ) (σ : S) → first_up_to n (suc t) σ ≡ or_else (first_up_to n t σ) (first n (suc t) σ)
  unfolding first_up_to first strings_up_to
  up-to-more n t σ = first-append (test n σ) (strings_up_to n t) (strings n (suc t))

  or-none : (o : Option (List Letter)) → or_else o None ≡ o
  unfolding or_else
  or-none None = refl
  or-none (Some s) = refl

  up_to_zero : (n : ℕ) (σ : S) → first_up_to n 0 σ ≡ first n 0 σ
  unfolding first_up_to first strings_up_to
  up_to_zero n σ = refl

  abbrev pub NoneLighter : ℕ → S → ℕ → Type 0
  NoneLighter n σ w = (v : ℕ) → v < w → first n v σ ≡ None

  pub up-to-none : (n t : ℕ) (σ : S) (w : ℕ) → t < w → NoneLighter n σ w → first_up_to n t σ ≡ None
  unfolding or_else
  up-to-none n zero σ w h each = up_to_zero n σ ∙ each 0 h
  up-to-none n (suc t) σ w h each = up-to-more n t σ ∙ rw (up-to-none n t σ w (omega arith) each, each (suc t) h)

  -- No string of n letters is heavier than n.
  pub up-to-all : (n t : ℕ) (σ : S) → first_up_to n (min t n) σ ≡ first_up_to n t σ
  up-to-all n zero σ = ap (λ (k : ℕ). first_up_to n k σ) (omega arith)
  up-to-all n (suc t) σ =
      ⊎_elim (λ fits. ap (λ (k : ℕ). first_up_to n k σ) (omega arith))
      (λ long. ap (λ (k : ℕ). first_up_to n k σ) (omega arith) ∙ up-to-all n t σ
      ∙ sym (up-to-more n t σ ∙ rw (none-short n (suc t) σ (omega arith)) (or-none (first_up_to n t σ))))
      (eq-zero-or-pos (suc t - n))

  pub up-to-some : (n t : ℕ) (σ : S) (w : ℕ) (s : List Letter) → w ≤ t → NoneLighter n σ w → first n w σ ≡ Some s
      → first_up_to n t σ ≡ Some s
  unfolding or_else
  up-to-some n zero σ zero s h each here = up_to_zero n σ ∙ here
  up-to-some n zero σ (suc w) s h each here = absurd (omega arith)
  up-to-some n (suc t) σ w s h each here =
      ⊎_elim
      (λ e. up-to-more n t σ ∙ rw (up-to-none n t σ w (omega arith) each) (rw e at here))
      (λ l. up-to-more n t σ ∙ rw (up-to-some n t σ w s (omega arith) each here))
      (eq-or-lt_of_le h)
