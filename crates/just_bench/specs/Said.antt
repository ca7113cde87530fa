-- Messages of stream errors.
use Rattle.std.specs.Prelude.{◌++◌, codes, decimal}
use Rattle.just_syntax.specs.OutOfMemory.{no_memory_text}
use Rattle.just_syntax.specs.Plain.{Text}
use Rattle.just_bench.specs.declared.stream.StreamError.{StreamError}
use Rattle.just_bench.specs.declared.stream.StreamError.TheVariants.{Failed, OutOfMemory, TooLong}
use Rattle.just_bench.specs.declared.stream.TheConstants.{LIMIT}

abbrev pub stream_error_text : StreamError → Text
stream_error_text Failed = codes "read or write failed"
stream_error_text OutOfMemory = no_memory_text
stream_error_text TooLong = codes "case has more than " ++ (decimal LIMIT ++ codes " bytes")
