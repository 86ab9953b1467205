-- A part of a slice that is lent from a place on is the list from there on: what is taken of it is all that is left.
use mathlib.Core.List.{List}
use mathlib.Core.Path.{◌≡◌}
use Prim.Native.Nat.{ℕ, ◌-◌}
use native.Mathlib.Omega.{arith}
use lib.ListN.{length, take, drop, length-drop}
use lib.Seq.{take_all}

pub tail_of : (from : ℕ) (s : List ℕ) → take (length s - from) (drop from s) ≡ drop from s
tail_of from s = take_all (length s - from) (drop from s) (omega (arith, length-drop from s))
