-- Every definition of this layer and of those below it that computes, to be unfolded at once where an example is
-- computed: a proof that says `unfolding definitions` unfolds all that the lines below name.
use Rattle.decoder.specs.Definitions.{definitions as definitions-decoder}
use Rattle.reporting.specs.Report.{errors_text, refusal_text, syndrome_line, syndrome_lines, correction_value}
use Rattle.reporting.specs.Report.{correction_line, code_text, report_of_syndromes, report_of_code, report_of_lines}
use Rattle.reporting.specs.Report.{report_text, write_report}

unfoldable pub definitions : Unit {0}
unfolding errors_text refusal_text syndrome_line syndrome_lines correction_value correction_line code_text
    report_of_syndromes report_of_code report_of_lines report_text write_report definitions-decoder
definitions = tt
