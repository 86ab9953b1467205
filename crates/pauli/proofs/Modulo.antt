-- Remainders. Two numbers that differ by multiples of m have one remainder by m; `omega` proves that they do, given the
-- multiples.
use mathlib.Core.Path.{◌≡◌, ap, ap₂, sym, ◌∙◌}
use Prim.Native.Nat.{ℕ, ◌+◌, ◌*◌, ◌%◌}
use native.Mathlib.Nat.{add-mod, add-mul-mod_self_left}

pub same-remainder : (m x y k l : ℕ) → x + m * k ≡ y + m * l → x % m ≡ y % m
same-remainder m x y k l e = sym (add-mul-mod_self_left x m k) ∙ ap (λ (z : ℕ). z % m) e ∙ add-mul-mod_self_left y m l

pub sum-remainder : (m x x' y y' : ℕ) → x % m ≡ x' % m → y % m ≡ y' % m → (x + y) % m ≡ (x' + y') % m
sum-remainder m x x' y y' ex ey = add-mod x y m ∙ ap₂ (λ (u v : ℕ). (u + v) % m) ex ey ∙ sym (add-mod x' y' m)
