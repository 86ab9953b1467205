-- Every definition of this layer and of those below it that computes, to be unfolded at once where an example is
-- computed: a proof that says `unfolding definitions` unfolds all that is named below.
use Rattle.letters.specs.Options.{bind}
use Rattle.code_record.specs.Definitions.{definitions as definitions-record}
use Rattle.sheet.specs.Text.{line_feed, line, digits_of, decimal, laid, untouched, guarded, room_fault, written}
use Rattle.sheet.specs.Reader.{done, continue, begins, read_each, got_or, is_line, line_of, read_digit, number_of}
use Rattle.sheet.specs.Reader.{read_number, read_letters, read_row, in_range, qubit_digits, qubit_line, distance_line}
use Rattle.sheet.specs.Reader.{row_line, rows_up_to, counted_generators, generator_lines, counted_logicals}
use Rattle.sheet.specs.Reader.{logical_lines, claim_line, lines_after, sheet_lines, read_lines, nothing_behind}
use Rattle.sheet.specs.Reader.{read_form, answered, lines_reading, form_reading, behind}
use Rattle.sheet.specs.Writer.{row_lines, sheet_text, write_sheet}
use Rattle.sheet.specs.Edges.{five_qubits, sheet_a, sheet_b, sheet_c, sheet_d, sheet_e, sheet_f, sheet_g, sheet_h}
use Rattle.sheet.specs.Edges.{sheet_i}
use Rattle.sheet.specs.Edges.{sheet_j, sheet_k, sheet_l, nine_qubits, eight_qubits, four_qubits}
use Rattle.sheet.specs.Starred.{syndromes_a, report_a, report_l, refusal_c, starred}

unfoldable pub definitions : Unit {0}
unfolding line_feed line digits_of decimal laid untouched guarded room_fault written done continue begins read_each
    got_or is_line line_of read_digit number_of read_number read_letters read_row in_range qubit_digits qubit_line
    distance_line row_line rows_up_to counted_generators generator_lines counted_logicals logical_lines claim_line
    lines_after sheet_lines read_lines nothing_behind read_form answered lines_reading form_reading behind row_lines
    sheet_text write_sheet five_qubits sheet_a sheet_b sheet_c sheet_d sheet_e sheet_f sheet_g sheet_h sheet_i sheet_j
    sheet_k sheet_l nine_qubits eight_qubits four_qubits syndromes_a report_a report_l refusal_c starred bind
    definitions-record
definitions = tt
