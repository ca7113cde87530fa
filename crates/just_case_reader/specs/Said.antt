-- Messages of the errors of a line and of a case.
use Rattle.std.specs.Prelude.{codes, ◌++◌, decimal}
use Rattle.just_syntax.specs.OutOfMemory.{no_memory_text}
use Rattle.just_syntax.specs.Plain.{Text}
use Rattle.just_case_reader.specs.declared.line_error.LineError.{LineError}
use Rattle.just_case_reader.specs.declared.line_error.LineError.TheVariants.{Bad, OutOfMemory}
use Rattle.just_case_reader.specs.declared.case.CaseError.{CaseError}
use Rattle.just_case_reader.specs.declared.case.CaseError.TheVariants.{BadLine, OutOfMemory}

abbrev pub line_error_text : LineError → Text
line_error_text Bad = codes "bad line"
line_error_text OutOfMemory = no_memory_text

abbrev pub case_error_text : CaseError → Text
case_error_text (BadLine place) = codes "bad line " ++ decimal place
case_error_text OutOfMemory = no_memory_text
