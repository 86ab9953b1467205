-- The line of a row without its sign: its key and `=`, then the letters and the line feed laid behind them.
use mathlib.Core.Path.{sym}
use Rattle.std.proofs.Common.{ℕ, List, [], ◌∷◌, ap, ◌∙◌, arith}
use lib.ListN.{length-set}
use lib.Seq.{sets, length-sets}
use Rattle.sheet.specs.Text.{laid}
use Rattle.sheet.proofs.Laid.{length-lent}
use Rattle.row_writer.proofs.Lines.{front-laid, letters-text, length-letters_line_text}
use Rattle.row_writer.proofs.letters_line.Goals as goal

pub bounds-out-0 : goal.bounds-out-0
bounds-out-0 c = omega (arith, length-letters_line_text c.args.key c.args.n c.args.row)

pub bounds-out-1 : goal.bounds-out-1
bounds-out-1 c = let long = length-letters_line_text c.args.key c.args.n c.args.row in simp length-set (omega arith)

pub slice_bounds-letters_end-count : goal.slice_bounds-letters_end-count
slice_bounds-letters_end-count c =
    let long = length-letters_line_text c.args.key c.args.n c.args.row in simp length-set (omega arith)

pub slice_bounds-letters_end-start : goal.slice_bounds-letters_end-start
slice_bounds-letters_end-start c =
    let long = length-letters_line_text c.args.key c.args.n c.args.row in simp length-set (omega arith)

pub letters_end-requires : goal.letters_end-requires
letters_end-requires c =
    let a = c.args in
    let front : List ℕ = a.key ∷ 61 ∷ [] in
    omega (
      arith,
      length-letters_line_text a.key a.n a.row,
      length-lent 2 (sets a.out.now 0 front),
      length-sets a.out.now 0 front,
    )

pub returns : goal.returns
returns c =
    let a = c.args in
    let front : List ℕ = a.key ∷ 61 ∷ [] in
    let long = length-letters_line_text a.key a.n a.row in
    record {
      value = sym long;
      out_after =
          front-laid front a.out.now c.letters_end.new.out a.n a.row (omega arith) c.letters_end.ensures
          ∙ ap (λ (text : List ℕ). laid text a.out.now)
          (sym (letters-text a.key a.n a.row));
    }
