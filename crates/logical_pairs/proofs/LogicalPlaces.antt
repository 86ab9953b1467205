-- The logicals of a record by their places: the x rows are at the first, and the z rows, as many, behind them. So the
-- place of a row tells its family.
use mathlib.Core.Path.{◌≡◌, ap, sym, ◌∙◌}
use Prim.Native.Nat.{ℕ, ◌+◌, ◌-◌, ◌*◌, ◌<◌, ◌≤◌, min}
use native.Mathlib.Omega.{arith}
use lib.ListN.{length, take, get_or, length-take, length-append, get_or-append}
use lib.Seq.{get_or-take, get_or-append-add}
use Rattle.pauli.specs.declared.Pauli.{Pauli}
use Rattle.pauli.specs.Product.{identity}
use Rattle.code_record.specs.declared.Code.{Code}
use Rattle.code_record.specs.Record.{pair_count, row_room, logical_count, logical_xs, logical_zs, Sized}
use Rattle.admission.specs.Logicals.{logicals, family_at, family_after}

-- A record, its number of pairs, and how many x rows it has.
pub record Known (code : Code) (pairs xs : ℕ) : Type 0 where
  pub sized : Sized code
  pub counted : pairs ≡ logical_count code
  pub held : xs ≡ min pairs row_room
  pub few : xs ≤ row_room

pub known : (code : Code) → Sized code → {pairs xs : ℕ} → pairs ≡ pair_count code.n code.r
    → xs ≡ min pairs row_room → Known code pairs xs
unfolding logical_count
known code sized counted held = record { sized = sized; counted = counted; held = held; few = omega (arith, held) }

module _ {code : Code} {pairs xs : ℕ} (k : Known code pairs xs) where
  xs-length : length (logical_xs code) ≡ xs
  unfolding logical_xs
  xs-length = omega (arith, length-take (logical_count code) code.x, k.sized.room_x, k.counted, k.held)

  zs-length : length (logical_zs code) ≡ xs
  unfolding logical_zs
  zs-length = omega (arith, length-take (logical_count code) code.z, k.sized.room_z, k.counted, k.held)

  pub logicals-length : length (logicals code) ≡ 2 * xs
  unfolding logicals
  logicals-length = omega (arith, length-append (logical_xs code) (logical_zs code), xs-length, zs-length)

  module _ (place : ℕ) where
    pub x-at : place < xs → get_or code.x place identity ≡ get_or (logicals code) place identity
    unfolding logicals logical_xs
    x-at inside =
        sym (get_or-append (logical_xs code) (logical_zs code) identity place (omega (arith, xs-length))
        ∙ get_or-take (logical_count code) code.x place identity (omega (arith, k.counted, k.held)))

    pub z-at : xs ≤ place → place < 2 * xs
        → get_or code.z (place - xs) identity ≡ get_or (logicals code) place identity
    unfolding logicals logical_zs
    z-at behind inside =
        let whole : place ≡ length (logical_xs code) + (place - xs) = omega (arith, xs-length) in
        sym (ap (λ (i : ℕ). get_or (logicals code) i identity) whole
        ∙ get_or-append-add (logical_xs code) (logical_zs code) (place - xs) identity
        ∙ get_or-take (logical_count code) code.z (place - xs) identity (omega (arith, k.counted, k.held)))

    -- The rows before a logical tell its place, and so its family.
    pub before-length : place < 2 * xs → place ≡ length (take place (logicals code))
    before-length inside = omega (arith, length-take place (logicals code), logicals-length)

    pub family-after : place < 2 * xs
        → family_at pairs place ≡ family_after (logical_count code) (take place (logicals code))
    unfolding family_after
    family-after inside =
        ap (λ (k : ℕ). family_at k place) k.counted ∙ ap (family_at (logical_count code)) (before-length inside)

-- A logical of a record, with its place.
pub record Logical (code : Code) (pairs xs place : ℕ) (P : Pauli) : Type 0 where
  pub known : Known code pairs xs
  pub within : place < 2 * xs
  pub row : P ≡ get_or (logicals code) place identity
