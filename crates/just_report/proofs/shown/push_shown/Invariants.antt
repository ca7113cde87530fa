use Rattle.std.proofs.Common.{◌≡◌, ◌++◌, string_bytes}
use Rattle.just_report.specs.Report.{shown_line}
use Rattle.just_report.proofs.shown.push_shown.Given as goal

-- what is shown of the characters so far
abbrev pub invariant-loop-character : goal.invariant-loop-character
invariant-loop-character l = string_bytes l.text ≡ string_bytes l.initial.text ++ shown_line l.yielded
