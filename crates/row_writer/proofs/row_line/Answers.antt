-- The line of a row: its key and `=`, the sign, then the letters and the line feed laid behind them.
use mathlib.Core.Path.{sym}
use Rattle.std.proofs.Common.{ℕ, List, [], ◌∷◌, ap, ◌∙◌, arith}
use lib.ListN.{length-set}
use lib.Seq.{sets, length-sets}
use Rattle.letters.specs.Letters.{sign_byte}
use Rattle.sheet.specs.Text.{laid}
use Rattle.sheet.proofs.Laid.{length-lent}
use Rattle.row_writer.specs.Lines.{letters_end}
use Rattle.row_writer.proofs.Lines.{front-laid, row-text, length-row_line_text}
use Rattle.row_writer.proofs.row_line.Goals as goal

pub bounds-out-0 : goal.bounds-out-0
bounds-out-0 c = omega (arith, length-row_line_text c.args.key c.args.n c.args.row)

pub bounds-out-1 : goal.bounds-out-1
bounds-out-1 c = let long = length-row_line_text c.args.key c.args.n c.args.row in simp length-set (omega arith)

pub bounds-out-2 : goal.bounds-out-2
bounds-out-2 c = let long = length-row_line_text c.args.key c.args.n c.args.row in simp length-set (omega arith)

pub slice_bounds-letters_end-count : goal.slice_bounds-letters_end-count
slice_bounds-letters_end-count c =
    let long = length-row_line_text c.args.key c.args.n c.args.row in simp length-set (omega arith)

pub slice_bounds-letters_end-start : goal.slice_bounds-letters_end-start
slice_bounds-letters_end-start c =
    let long = length-row_line_text c.args.key c.args.n c.args.row in simp length-set (omega arith)

pub letters_end-requires : goal.letters_end-requires
letters_end-requires c =
    let a = c.args in
    let front : List ℕ = a.key ∷ 61 ∷ c.byte.result ∷ [] in
    omega (
      arith,
      length-row_line_text a.key a.n a.row,
      length-lent 3 (sets a.out.now 0 front),
      length-sets a.out.now 0 front,
    )

pub returns : goal.returns
returns c =
    let a = c.args in
    let front : List ℕ = a.key ∷ 61 ∷ c.byte.result ∷ [] in
    let long = length-row_line_text a.key a.n a.row in
    record {
      value = sym long;
      out_after =
          front-laid front a.out.now c.letters_end.new.out a.n a.row (omega arith) c.letters_end.ensures
          ∙ ap (λ (text : List ℕ). laid text a.out.now)
          (ap (λ (sign : ℕ). a.key ∷ 61 ∷ sign ∷ letters_end a.n a.row) (c.byte.ensures ∙ ap sign_byte c.sign.ensures)
          ∙ sym (row-text a.key a.n a.row));
    }
