-- No bytes where the lines were refused, and none where they took all.
use mathlib.Core.Bool.{Bool, true, false}
use mathlib.Core.List.{List}
use mathlib.Core.Path.{◌≡◌, refl, ap, sym, ◌∙◌}
use Prim.Native.Nat.{ℕ, min}
use native.Mathlib.Omega.{arith}
use borrow.Author.Tests.{ltb-true, ltb-false}
use lib.Dec.{ltb}
use lib.ListN.{length, drop, drop_of_length-le}
use lib.Seq.{drop-length}
use Rattle.sheet.specs.Reader.{behind}
use Rattle.sheet.proofs.Parts.{tail_of}
use Rattle.sheet_end.proofs.behind.Goals as goal

-- Behind the last byte there is nothing more.
drop-min : (s : List ℕ) (used : ℕ) → drop (min used (length s)) s ≡ drop used s
drop-min s used = by-fit (ltb used (length s)) refl
  where
    by-fit : (b : Bool) → ltb used (length s) ≡ b → drop (min used (length s)) s ≡ drop used s
    by-fit true e =
        let h = ltb-true used (length s) e in
        let within : min used (length s) ≡ used = omega arith in
        ap (λ i. drop i s) within
    by-fit false e =
        let h = ltb-false used (length s) e in
        let all : min used (length s) ≡ length s = omega arith in
        ap (λ i. drop i s) all ∙ drop-length s ∙ sym (drop_of_length-le s h)

pub returns-in_default : goal.returns-in_default
unfolding behind
returns-in_default c =
    let s = c.args.s.now in
    tail_of (length s) s ∙ drop-length s ∙ ap (behind s) (sym c.in_default.is)

pub returns : goal.returns
unfolding behind
returns c =
    let s = c.args.s.now in
    tail_of c.min.result s ∙ ap (λ i. drop i s) c.min.ensures ∙ drop-min s c.in-Ok.used
    ∙ ap (behind s) (sym c.in-Ok.is)
