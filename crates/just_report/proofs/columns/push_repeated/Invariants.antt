use Rattle.std.proofs.Common.{◌≡◌, ◌++◌, ◌∷◌, [], string_bytes}
use Rattle.std.specs.List.{repeat}
use Rattle.just_report.proofs.columns.push_repeated.Given as goal

-- as many marks as turns so far
abbrev pub invariant-loop-done : goal.invariant-loop-done
invariant-loop-done l = string_bytes l.text ≡ string_bytes l.initial.text ++ repeat l.done (l.mark ∷ [])
