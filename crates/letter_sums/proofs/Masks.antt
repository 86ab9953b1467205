-- The masks of a string with a letter and letters I before it, and what an answer tells.
use Rattle.std.specs.Prelude.{Option, Some, None}
use Rattle.std.specs.Option.{is_some}
use Rattle.letter_sums.specs.Sums.{masks_at}
use mathlib.Core.Bool.{true, false, false≢true}
use mathlib.Core.List.{List, ◌∷◌, ◌++◌}
use mathlib.Core.Path.{◌≡◌, refl, ap, ap₂, sym, ◌∙◌}
use Prim.Native.Nat.{ℕ, zero, suc, ◌+◌, ◌*◌, ◌%◌, ◌^◌, ◌≤◌, ◌<◌}
use native.Mathlib.Nat.{zero-add, mul-one, mul_assoc, mul_comm, pow-succ', pow-le-pow_right, lt_of_lt_of_le}
use native.Mathlib.Nat.{mul-lt-mul_of_pos_right, mod-eq_of_lt}
use native.Mathlib.Numerals.{add-one}
use native.Mathlib.Omega.{arith}
use lib.Pow.{pow_pos, pow-add}
use lib.ListN.{replicate}
use Rattle.letters.specs.declared.Letter.{Letter}
use Rattle.letters.specs.declared.Letter.TheVariants.{I}
use Rattle.letters.specs.Letters.{x_bit, z_bit}
use Rattle.pauli.specs.Letters.{mask_of, x_mask, z_mask}
use Rattle.letter_sums.specs.declared.FoundMasks.{FoundMasks}
use Rattle.letter_sums.specs.Sums.{found_as, placed_at}

-- ---- letters I before

mask-padded : (bit : Letter → ℕ) → bit I ≡ 0 → (gap : ℕ) (s : List Letter)
    → mask_of bit (replicate gap I ++ s) ≡ mask_of bit s * 2 ^ gap
unfolding mask_of
mask-padded bit e zero s = sym (mul-one (mask_of bit s))
mask-padded bit e (suc gap) s =
    rw (e, mask-padded bit e gap s, zero-add, pow-succ') (swapped (mask_of bit s) (2 ^ gap))
  where
    swapped : (m p : ℕ) → 2 * (m * p) ≡ m * (2 * p)
    swapped m p = sym (mul_assoc 2 m p) ∙ ap (λ (k : ℕ). k * p) (mul_comm 2 m) ∙ mul_assoc m 2 p

mask-identity : (bit : Letter → ℕ) → bit I ≡ 0 → (n : ℕ) → mask_of bit (replicate n I) ≡ 0
unfolding mask_of
mask-identity bit e zero = refl
mask-identity bit e (suc n) = rw (e, mask-identity bit e n)

-- ---- a letter, letters I before it, and a string behind it

-- A mask of n bits fits where n is at most 32.
mask_fits : (n m : ℕ) → n ≤ 32 → m < 2 ^ n → m < 2 ^ 32
mask_fits n m h e = lt_of_lt_of_le e (pow-le-pow_right {n = 2} (omega arith) h)

module _ (gap right : ℕ) (room : gap + right < 32) where
  -- The mask of a letter and of a string of `right` letters behind it fits, moved up too.
  cons-lt : (x a : ℕ) → x < 2 → a < 2 ^ right → x + 2 * a < 2 ^ (right + 1)
  cons-lt x a hx ha = rw add-one (omega arith)

  pub cons-fits : (x a : ℕ) → x < 2 → a < 2 ^ right → x + 2 * a < 2 ^ 32
  cons-fits x a hx ha = mask_fits (right + 1) (x + 2 * a) (omega arith) (cons-lt x a hx ha)

  pub moved : (x a : ℕ) → x < 2 → a < 2 ^ right → (x + 2 * a) * 2 ^ gap % 2 ^ 32 ≡ (x + 2 * a) * 2 ^ gap
  moved x a hx ha =
      let below : (x + 2 * a) * 2 ^ gap < 2 ^ (right + 1 + gap) =
      rw pow-add (mul-lt-mul_of_pos_right (cons-lt x a hx ha) (pow_pos gap)) in
      mod-eq_of_lt (mask_fits (right + 1 + gap) ((x + 2 * a) * 2 ^ gap) (omega arith) below)

-- ---- strings as answers

pub placed-found : (gap a b : ℕ) (l : Letter) (s : List Letter) (o : Option (List Letter))
    → a ≡ x_mask s → b ≡ z_mask s → o ≡ Some (replicate gap I ++ (l ∷ s))
    → placed_at gap l a b ≡ found_as o
unfolding found_as x_mask z_mask mask_of
placed-found gap a b l s o ea eb e =
    rw (e, ea, eb)
    (ap₂ masks_at (sym (mask-padded x_bit refl gap (l ∷ s))) (sym (mask-padded z_bit refl gap (l ∷ s))))

x_mask-identity : (n : ℕ) → 0 ≡ x_mask (replicate n I)
unfolding x_mask
x_mask-identity n = sym (mask-identity x_bit refl n)

z_mask-identity : (n : ℕ) → 0 ≡ z_mask (replicate n I)
unfolding z_mask
z_mask-identity n = sym (mask-identity z_bit refl n)

pub identity-found : (n : ℕ) (o : Option (List Letter)) → o ≡ Some (replicate n I) → masks_at 0 0 ≡ found_as o
unfolding found_as
identity-found n o e = rw e (ap₂ masks_at (x_mask-identity n) (z_mask-identity n))

pub nothing-found : (o : Option (List Letter)) → o ≡ None → None ≡ found_as o
unfolding found_as
nothing-found o e = ap found_as (sym e)

-- ---- what an answer tells

mask_a : Option FoundMasks → ℕ
mask_a (Some masks) = masks.a
mask_a None = 0

mask_b : Option FoundMasks → ℕ
mask_b (Some masks) = masks.b
mask_b None = 0

-- A string was found, and these are its masks.
pub record Masked (o : Option (List Letter)) (a b : ℕ) : Type 0 where
  pub string : List Letter
  pub told : o ≡ Some string
  pub is_a : a ≡ x_mask string
  pub is_b : b ≡ z_mask string

pub found_some : (a b : ℕ) (o : Option (List Letter)) → masks_at a b ≡ found_as o → Masked o a b
unfolding found_as mask_a mask_b
found_some a b None e = absurd (false≢true (sym (ap is_some e)))
found_some a b (Some s) e = record { string = s; told = refl; is_a = ap mask_a e; is_b = ap mask_b e }

pub found_nothing : (o : Option (List Letter)) → None ≡ found_as o → o ≡ None
unfolding found_as
found_nothing None e = refl
found_nothing (Some s) e = absurd (false≢true (ap is_some e))

-- No masks are of no string.
pub unfound : (found : Option FoundMasks) (o : Option (List Letter)) → found ≡ found_as o → is_some found ≡ false
    → o ≡ None
unfound None o e none = found_nothing o e
unfound (Some masks) o e none = absurd (false≢true (sym none))

-- The same string, found among more strings, has the same masks.
pub found-again : (found : Option FoundMasks) (o more : Option (List Letter)) → found ≡ found_as o
    → is_some found ≡ true → ((s : List Letter) → o ≡ Some s → more ≡ Some s) → found ≡ found_as more
unfolding found_as
found-again found None more e there same = absurd (false≢true (sym (ap is_some e) ∙ there))
found-again found (Some s) more e there same = e ∙ ap found_as (sym (same s refl))
