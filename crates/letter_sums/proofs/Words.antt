-- The steps of the search at words: the state is what is still wanted and shunned, and a letter takes its words away
-- from it. The last letter is found by its word.
use Rattle.std.specs.Prelude.{Option, Some, None}
use mathlib.Core.Bool.{Bool, true, false, not, ◌&&◌, and-false}
use mathlib.Core.List.{List, ◌∷◌, ◌++◌}
use mathlib.Core.Path.{◌≡◌, refl, ap, ap₂, sym, subst, ◌∙◌}
use Prim.Native.Nat.{ℕ, zero, suc, ◌+◌, ◌*◌, ◌-◌, ◌/◌, ◌%◌, ◌^◌, min, ◌≤◌, ◌<◌}
use native.Mathlib.Decide.{ℕ_discrete}
use native.Mathlib.Numerals.{add-one}
use native.Mathlib.Omega.{arith}
use borrow.Author.Tests.{eqb-true, eq-eqb, ne_eqb}
use lib.Bits.{bit_xor, xor_self, xor_comm, xor_zero_r, xor_zero_l}
use lib.Dec.{eqb}
use lib.ListN.{get_or, replicate, length}
use Rattle.letters.specs.declared.Letter.{Letter}
use Rattle.letters.specs.declared.Letter.TheVariants.{I}
use Rattle.letters.specs.Letters.{struck_letter}
use Rattle.pauli.proofs.Letters.{x_mask-lt, z_mask-lt}
use Rattle.pauli.proofs.Masks.{xor_assoc}
use Rattle.letter_sums.specs.Sums.{word_at, sum_of, sums_to, passes, earliest_of, earliest_up_to, placed_at, found_as}
use Rattle.letter_sums.proofs.Masks.{Masked, found_some, identity-found, nothing-found, placed-found}
use Rattle.letter_sums.proofs.Steps as steps
use Rattle.letter_sums.proofs.Steps.{first, first_up_to}

same_tests : (s t : Bool) → (s ≡ true → t ≡ true) → (t ≡ true → s ≡ true) → s ≡ t
same_tests true t h k = sym (h refl)
same_tests false true h k = k refl
same_tests false false h k = refl

-- w + x is `want` where x is want + w.
sum-moves : (w x want : ℕ) → eqb (bit_xor w x) want ≡ eqb x (bit_xor want w)
sum-moves w x want =
    same_tests (eqb (bit_xor w x) want) (eqb x (bit_xor want w))
    (λ h. eq-eqb x (bit_xor want w) (moved w x want (eqb-true (bit_xor w x) want h)))
    (λ h. eq-eqb (bit_xor w x) want (back w x want (eqb-true x (bit_xor want w) h)))
  where
    moved : (w x want : ℕ) → bit_xor w x ≡ want → x ≡ bit_xor want w
    moved w x want e =
        sym (ap (λ (k : ℕ). bit_xor k w) (sym e ∙ xor_comm w x) ∙ xor_assoc x w w ∙ ap (bit_xor x) (xor_self w)
        ∙ xor_zero_r x)

    back : (w x want : ℕ) → x ≡ bit_xor want w → bit_xor w x ≡ want
    back w x want e =
        ap (bit_xor w) (e ∙ xor_comm want w) ∙ sym (xor_assoc w w want) ∙ ap (λ (k : ℕ). bit_xor k want) (xor_self w)
        ∙ xor_zero_l want

-- Two words whose sum is 0 are the same.
same-words : (want w : ℕ) → bit_xor want w ≡ 0 → w ≡ want
same-words want w e =
    eqb-true w want
    (sym (ap (λ (x : ℕ). eqb x want) (xor_zero_r w)) ∙ sum-moves w 0 want ∙ eq-eqb 0 (bit_xor want w) (sym e))

word_number : (words : List ℕ) (n k : ℕ) → k < 3 → word_at words n (struck_letter k) ≡ get_or words (3 * n + k) 0
unfolding word_at struck_letter
word_number words n zero h = ap (λ (i : ℕ). get_or words i 0) (omega arith)
word_number words n (suc zero) h = refl
word_number words n (suc (suc zero)) h = refl
word_number words n (suc (suc (suc k))) h = absurd (omega arith)

module _ (words second : List ℕ) where
  abbrev test : ℕ → ℕ × ℕ → List Letter → Bool
  test n σ s = passes words second n σ.0 σ.1 s

  abbrev after : ℕ → Letter → ℕ × ℕ → ℕ × ℕ
  after n l σ = (bit_xor σ.0 (word_at words n l), bit_xor σ.1 (word_at second n l))

  moves : (n : ℕ) (σ : ℕ × ℕ) (l : Letter) (s : List Letter) → test (suc n) σ (l ∷ s) ≡ test n (after n l σ) s
  unfolding passes sums_to sum_of
  moves n σ l s =
      ap₂ (λ (x y : Bool). x && not y) (sum-moves (word_at words n l) (sum_of words n s) σ.0)
      (sum-moves (word_at second n l) (sum_of second n s) σ.1)

  still : (n : ℕ) (σ : ℕ × ℕ) → after n I σ ≡ σ
  unfolding word_at
  still n σ = ap₂ (λ (x y : ℕ). (x, y)) (xor_zero_r σ.0) (xor_zero_r σ.1)

  -- What is found behind the letter with number k at the qubit with n qubits to its right.
  abbrev pub behind : ℕ → ℕ → ℕ → ℕ → ℕ → Option (List Letter)
  behind n v want shun k =
      earliest_of words second n v (bit_xor want (get_or words (3 * n + k) 0))
      (bit_xor shun (get_or second (3 * n + k) 0))

  -- None among the first k of the letters X, Y, Z there.
  abbrev pub NoneBelow : ℕ → ℕ → ℕ → ℕ → ℕ → Type 0
  NoneBelow n v want shun k = (j : ℕ) → j < k → behind n v want shun j ≡ None

  at-number : (n v want shun k : ℕ) → k < 3
      → steps.first test after moves still n v (after n (struck_letter k) (want, shun)) ≡ behind n v want shun k
  unfolding first earliest_of
  at-number n v want shun k h =
      ap₂ (λ (x y : ℕ). earliest_of words second n v (bit_xor want x) (bit_xor shun y)) (word_number words n k h)
      (word_number second n k h)

  pub found-length : (n v want shun : ℕ) (s : List Letter) → earliest_of words second n v want shun ≡ Some s
      → length s ≡ n
  unfolding first earliest_of
  found-length n v want shun s e = steps.first-length test after moves still n v (want, shun) s e

  pub none-short : (n v want shun : ℕ) → n < v → earliest_of words second n v want shun ≡ None
  unfolding first earliest_of
  none-short n v want shun h = steps.none-short test after moves still n v (want, shun) h

  pub none-to-the-right : (n w want shun : ℕ) → 0 < w → earliest_of words second n w want shun ≡ None
      → NoneBelow n (w - 1) want shun 3 → earliest_of words second (n + 1) w want shun ≡ None
  unfolding first earliest_of
  none-to-the-right n w want shun h before each =
      steps.none-to-the-right test after moves still n w (want, shun) h before
      λ j l. at-number n (w - 1) want shun j l ∙ each j l

  pub found_here : (n w want shun right k : ℕ) (s : List Letter) → 0 < w → right < n → k < 3
      → earliest_of words second right w want shun ≡ None → NoneBelow right (w - 1) want shun k
      → behind right (w - 1) want shun k ≡ Some s
      → earliest_of words second n w want shun ≡ Some (replicate (n - right - 1) I ++ (struck_letter k ∷ s))
  unfolding first earliest_of
  found_here n w want shun right k s h below hk before each here =
      steps.found_here test after moves still n w (want, shun) right k s h below hk before
      (λ j l. at-number right (w - 1) want shun j (omega arith) ∙ each j l)
      (at-number right (w - 1) want shun k hk ∙ here)

  pub found_nowhere : (n w want shun right : ℕ) → 0 < w → n ≤ right
      → earliest_of words second right w want shun ≡ None → earliest_of words second n w want shun ≡ None
  unfolding first earliest_of
  found_nowhere n w want shun right h le before =
      steps.found_nowhere test after moves still n w (want, shun) right h le before

  -- The masks of a string that is found have no bit above its letters.
  pub masks-lt : (n v want shun a b : ℕ) → Masked (earliest_of words second n v want shun) a b
      → (a < 2 ^ n) × (b < 2 ^ n)
  masks-lt n v want shun a b m =
      let long = found-length n v want shun m.string m.told in (
        subst (λ (k : ℕ). a < 2 ^ k) long (rw m.is_a (x_mask-lt m.string)),
        subst (λ (k : ℕ). b < 2 ^ k) long (rw m.is_b (z_mask-lt m.string)),
      )

  -- ---- the weights in turn

  abbrev pub NoneLighter : ℕ → ℕ → ℕ → ℕ → Type 0
  NoneLighter n want shun w = (v : ℕ) → v < w → earliest_of words second n v want shun ≡ None

  pub up-to-none : (n t want shun w : ℕ) → t < w → NoneLighter n want shun w
      → earliest_up_to words second n t want shun ≡ None
  unfolding first first_up_to earliest_of earliest_up_to
  up-to-none n t want shun w h each = steps.up-to-none test after moves still n t (want, shun) w h each

  -- No string of n letters is heavier than n.
  pub up-to-all : (n t want shun : ℕ)
      → earliest_up_to words second n (min t n) want shun ≡ earliest_up_to words second n t want shun
  unfolding first_up_to earliest_up_to
  up-to-all n t want shun = steps.up-to-all test after moves still n t (want, shun)

  pub up-to-some : (n t want shun w : ℕ) (s : List Letter) → w ≤ t → NoneLighter n want shun w
      → earliest_of words second n w want shun ≡ Some s → earliest_up_to words second n t want shun ≡ Some s
  unfolding first first_up_to earliest_of earliest_up_to
  up-to-some n t want shun w s h each here = steps.up-to-some test after moves still n t (want, shun) w s h each here

  -- ---- no letters left

  -- I has the words 0 and 0: they are the wanted one and not the shunned one, or nothing is found.
  weightless : (n want shun : ℕ)
      → earliest_of words second n 0 want shun
      ≡ elim (eqb 0 want && not (eqb 0 shun)) [ true ↦ Some (replicate n I) | false ↦ None ]
  unfolding first earliest_of passes sums_to sum_of
  weightless n want shun = steps.weightless test after moves still n (want, shun)

  pub identity-fits : (n want shun : ℕ) → want ≡ 0 → (shun ≡ 0 → ⊥)
      → earliest_of words second n 0 want shun ≡ Some (replicate n I)
  identity-fits n want shun e h =
      weightless n want shun ∙ rw (eq-eqb 0 want (sym e), ne_eqb 0 shun (λ q. h (sym q)))

  pub identity-unwanted : (n want shun : ℕ) → (want ≡ 0 → ⊥) → earliest_of words second n 0 want shun ≡ None
  identity-unwanted n want shun h = weightless n want shun ∙ rw (ne_eqb 0 want (λ q. h (sym q)))

  pub identity-shunned : (n want shun : ℕ) → shun ≡ 0 → earliest_of words second n 0 want shun ≡ None
  identity-shunned n want shun e = weightless n want shun ∙ rw (eq-eqb 0 shun (sym e), and-false (eqb 0 want))

  -- ---- one letter left

  -- A letter is found by its words: the first is the wanted one and the second not the shunned one.
  abbrev pub PassedOver : ℕ → ℕ → ℕ → Type 0
  PassedOver want shun j = get_or words j 0 ≡ want → get_or second j 0 ≡ shun

  none-behind : (n want shun k : ℕ) → PassedOver want shun (3 * n + k) → behind n 0 want shun k ≡ None
  none-behind n want shun k over = elim (ℕ_discrete (get_or words (3 * n + k) 0) want) [
    | yes own ↦ identity-shunned n _ _ (ap (bit_xor shun) (over own) ∙ xor_self shun)
    | no other ↦ identity-unwanted n _ _ (λ q. other (same-words want _ q))
  ]

  none-lone : (n want shun : ℕ) → ((j : ℕ) → j < 3 * n → PassedOver want shun j)
      → earliest_of words second n 1 want shun ≡ None
  none-lone zero want shun each = none-short 0 1 want shun (omega arith)
  none-lone (suc n) want shun each =
      subst (λ (m : ℕ). earliest_of words second m 1 want shun ≡ None) (add-one n)
      (none-to-the-right n 1 want shun (omega arith) (none-lone n want shun (λ j l. each j (omega arith)))
      (λ k l. none-behind n want shun k (each (3 * n + k) (omega arith))))

  -- So nothing is found where no letter has the wanted word.
  pub none-single : (n want shun : ℕ) → ((j : ℕ) → j < 3 * n → get_or words j 0 ≡ want → ⊥)
      → earliest_of words second n 1 want shun ≡ None
  none-single n want shun each = none-lone n want shun (λ j l own. absurd (each j l own))

  pub lone-nowhere : (n want shun place : ℕ) → 3 * n ≤ place → ((j : ℕ) → j < place → PassedOver want shun j)
      → None ≡ found_as (earliest_of words second n 1 want shun)
  lone-nowhere n want shun place end each =
      nothing-found _ (none-lone n want shun (λ j l. each j (omega arith)))

  pub lone-here : (n want shun place : ℕ) → place < 3 * n → ((j : ℕ) → j < place → PassedOver want shun j)
      → get_or words place 0 ≡ want → (get_or second place 0 ≡ shun → ⊥)
      → placed_at (n - place / 3 - 1) (struck_letter (place % 3)) 0 0
      ≡ found_as (earliest_of words second n 1 want shun)
  lone-here n want shun place inside each own unshunned =
      let right = place / 3 in
      let k = place % 3 in
      let at : 3 * right + k ≡ place = omega arith in
      let rest = found_some 0 0 (Some (replicate right I)) (identity-found right (Some (replicate right I)) refl) in
      placed-found (n - right - 1) 0 0 (struck_letter k) rest.string _ rest.is_a rest.is_b
      (found_here n 1 want shun right k rest.string (omega arith) (omega arith) (omega arith)
      (none-lone right want shun (λ j l. each j (omega arith)))
      (λ j l. none-behind right want shun j (each (3 * right + j) (omega arith)))
      (identity-fits right _ _
      (ap (λ (i : ℕ). bit_xor want (get_or words i 0)) at ∙ ap (bit_xor want) own ∙ xor_self want)
      (λ e.
      unshunned (same-words shun (get_or second place 0) (ap (λ (i : ℕ). bit_xor shun (get_or second i 0)) (sym at)
      ∙ e)))
      ∙ rest.told))
