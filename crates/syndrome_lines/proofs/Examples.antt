-- Lines of syndromes, computed. The first line off its form is named by the count of those before it.
use Rattle.std.specs.Prelude.{Some, None, Ok}
use mathlib.Core.List.{[], ◌++◌}
use mathlib.Core.Path.{◌≡◌, refl}
use Prim.Native.Char.{code}
use lib.ListN.{replicate}
use Rattle.letters.specs.Lists.{bytes}
use Rattle.decoder.specs.Definitions.{definitions}
use Rattle.syndrome_reader.specs.Mask.{mask_read, read_mask}
use Rattle.syndrome_lines.specs.SyndromeLines.{mask_line, syndrome_length, off_form_behind, one_more, line_then}
use Rattle.syndrome_lines.specs.SyndromeLines.{checked_lines, check_lines}

unfoldable all : Unit {0}
unfolding check_lines checked_lines line_then one_more syndrome_length mask_line read_mask mask_read definitions
all = tt

-- ---- one line

line_read : mask_line 4 (bytes "s=0011\nanything") ≡ Some 12
unfolding all
line_read = refl

line-of-other-key : mask_line 4 (bytes "w=0011\n") ≡ None
unfolding all
line-of-other-key = refl

line-too-short : mask_line 4 (bytes "s=001\ns=0011\n") ≡ None
unfolding all
line-too-short = refl

line-with-return : mask_line 4 (bytes "s=0011\r\n") ≡ None
unfolding all
line-with-return = refl

line-off-form : mask_line 4 (bytes "s=0021\n") ≡ None
unfolding all
line-off-form = refl

-- no mask has room for more than 32 bits
line-of_33 : mask_line 33 (bytes "s=" ++ replicate 33 (code "0") ++ bytes "\n") ≡ None
unfolding all
line-of_33 = refl

-- ---- all lines

none_read : check_lines 4 [] ≡ Ok tt
unfolding all
none_read = refl

two-read : check_lines 4 (bytes "s=0011\ns=0100\n") ≡ Ok tt
unfolding all
two-read = refl

-- the fault of the second line is told, and not that of the third
second-off-form : check_lines 4 (bytes "s=0011\ns=0120\nw=0100\ns=0100\n") ≡ off_form_behind 1
unfolding all
second-off-form = refl

empty-line : check_lines 4 (bytes "s=0011\ns=0100\n\n") ≡ off_form_behind 2
unfolding all
empty-line = refl

last-without-feed : check_lines 4 (bytes "s=0011\ns=0100") ≡ off_form_behind 1
unfolding all
last-without-feed = refl
