use Rattle.std.proofs.Common.{◌≡◌, ◌++◌, string_bytes}
use Rattle.just_report.specs.Report.{pointer}
use Rattle.just_report.proofs.Pointers.{walk}
use Rattle.just_report.proofs.pointer.push_pointer.Given as goal

-- the marks of the characters so far, and what is left after them
abbrev pub invariant-loop-character : goal.invariant-loop-character
invariant-loop-character l = (string_bytes l.text ≡ string_bytes l.initial.text ++ pointer l.start l.length l.yielded)
    × (walk l.start l.length l.yielded ≡ (l.before, l.left))
