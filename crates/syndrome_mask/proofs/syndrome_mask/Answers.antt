-- The loop starts behind the last row, where the mask is 0, and ends at the first.
use mathlib.Core.List.{List}
use mathlib.Core.Path.{◌≡◌, ap, ap₂, sym, ◌∙◌}
use Prim.Native.Nat.{ℕ, ◌+◌, ◌-◌, ◌*◌, ◌^◌, ◌<◌}
use native.Mathlib.Omega.{arith}
use lib.ListN.{length, take, drop, get_or, length-take, drop_of_length-le}
use borrow.Author.Rules.{rules}
use Rattle.pauli.specs.declared.Pauli.{Pauli}
use Rattle.pauli.specs.Product.{identity}
use Rattle.pauli.specs.Syndrome.{syndrome, mask_of_bits, syndrome_mask}
use Rattle.pauli.proofs.Undetected.{symplectic-lt}
use Rattle.code_record.specs.Record.{row_room}
use Rattle.syndrome_mask.proofs.RowBits.{mask-before, mask-room}
use Rattle.syndrome_mask.proofs.syndrome_mask.Goals as goal

-- A mask of the rows behind the first can be doubled.
small : (count : ℕ) (rows : List Pauli) (place mask : ℕ) (P : Pauli) → length rows ≡ row_room → 0 < place
    → mask ≡ syndrome_mask (drop place (take count rows)) P → mask < 2 ^ 31
small count rows place mask P room some e = omega (arith, mask-room count rows place P room some, e)

pub loop-place-init : goal.loop-place-init
unfolding syndrome_mask syndrome mask_of_bits
loop-place-init c =
    let a = c.args in
    let room : length a.rows ≡ row_room = search rules in
    let all : c.min-place.result ≡ length (take a.count a.rows) =
    omega (arith, length-take a.count a.rows, c.min-place.ensures) in (
      omega (arith, all),
      ap (λ rows. syndrome_mask rows a.p) (sym (drop_of_length-le (take a.count a.rows) (omega (arith, all)))),
    )

pub overflow_mul-mask : goal.overflow_mul-mask
overflow_mul-mask c =
    let a = c.args in
    let loop = c.loop-place in
    let room : length a.rows ≡ row_room = search rules in
    record {
      fits = omega (
        arith,
        small a.count a.rows loop.place loop.mask a.p room c.loop-place-test.true loop.invariant.1,
      );
    }

pub overflow_add-mask : goal.overflow_add-mask
overflow_add-mask c =
    let a = c.args in
    let loop = c.loop-place in
    let room : length a.rows ≡ row_room = search rules in
    record {
      fits = omega (
        arith,
        small a.count a.rows loop.place loop.mask a.p room c.loop-place-test.true loop.invariant.1,
        c.symplectic.ensures,
        symplectic-lt (get_or a.rows (loop.place - 1) identity) a.p,
      );
    }

pub loop-place-preserved : goal.loop-place-preserved
loop-place-preserved c =
    let a = c.args in
    let loop = c.loop-place in (
      omega (arith, loop.invariant.0),
      ap₂ (λ (mask bit : ℕ). 2 * mask + bit) loop.invariant.1 c.symplectic.ensures
          ∙ mask-before a.count a.rows loop.place a.p c.loop-place-test.true loop.invariant.0,
    )

pub returns : goal.returns
returns c =
    let a = c.args in
    let first : c.loop-place.place ≡ 0 = omega (arith, c.loop-place-test.false) in
    c.loop-place.invariant.1 ∙ ap (λ (i : ℕ). syndrome_mask (drop i (take a.count a.rows)) a.p) first
