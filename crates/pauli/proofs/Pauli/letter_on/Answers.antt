-- A shift brings the two bits down. Beyond 32 places a mask of 32 bits has none.
use native.Mathlib.Omega.{arith}
use Rattle.pauli.specs.Letters.{letter_on}
use Rattle.letters.specs.Letters.{letter_at}
use Rattle.pauli.proofs.Masks.{no-high-bits}
use borrow.Author.Rules.{rules}
use Rattle.pauli.proofs.Pauli.letter_on.Goals as goal

pub returns-then-place-lt32 : goal.returns-then-place-lt32
unfolding letter_on
returns-then-place-lt32 c = c.of_bits.ensures

pub returns-else-place-lt32 : goal.returns-else-place-lt32
unfolding letter_on letter_at
returns-else-place-lt32 c =
    let P = c.args.self in
    let j = c.args.place in
    rw (no-high-bits 32 P.a j (search rules) (omega arith), no-high-bits 32 P.b j (search rules) (omega arith))
