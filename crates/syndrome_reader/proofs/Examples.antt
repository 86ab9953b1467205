-- Syndromes read as masks, computed. The first character's bit is the lowest.
use Rattle.std.specs.Prelude.{Some, None}
use mathlib.Core.Path.{◌≡◌, refl}
use lib.ListN.{replicate}
use Prim.Native.Char.{code}
use Rattle.letters.specs.Lists.{bytes}
use Rattle.decoder.specs.Definitions.{definitions}
use Rattle.syndrome_reader.specs.Mask.{mask_read, read_mask}

mask-read : read_mask 5 (bytes "00101") ≡ Some 20
unfolding read_mask mask_read definitions
mask-read = refl

mask-too-long : read_mask 4 (bytes "00101") ≡ None
unfolding read_mask mask_read definitions
mask-too-long = refl

mask-off-form : read_mask 4 (bytes "0021") ≡ None
unfolding read_mask mask_read definitions
mask-off-form = refl

-- no mask has room for more than 32 bits
mask-of_33 : read_mask 33 (replicate 33 (code "0")) ≡ None
unfolding read_mask mask_read definitions
mask-of_33 = refl
