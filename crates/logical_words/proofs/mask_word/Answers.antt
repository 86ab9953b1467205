-- The masks side by side. A mask of 32 bits is its own remainder.
use mathlib.Core.Path.{◌≡◌}
use Prim.Native.Nat.{◌+◌, ◌*◌, ◌^◌, ◌<◌}
use native.Mathlib.Omega.{arith}
use Rattle.pauli.specs.declared.Pauli.{Pauli}
use Rattle.stabilizer.specs.Canonical.{side_by_side}
use Rattle.logical_words.specs.Words.{mask_word}
use borrow.Author.Rules.{rules}
use Rattle.logical_words.proofs.mask_word.Goals as goal

joined : (P : Pauli) → P.a < 2 ^ 32 → P.a + 4294967296 * P.b ≡ mask_word P
unfolding mask_word side_by_side
joined P h = omega arith

pub returns : goal.returns
returns c = joined c.args.p (search rules)
