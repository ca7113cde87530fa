use Rattle.std.proofs.Common.{◌≡◌, drop, map, option_map}
use Rattle.just_script.specs.Prelude.{pair_view, text_for}
use Rattle.just_script.specs.Script.{text_after}
use Rattle.just_script.proofs.scripted_host.text_for.Given as goal

-- the text found so far, or a later one in the rest, is the text found in all pairs
abbrev pub invariant-loop-other : goal.invariant-loop-other
invariant-loop-other l =
    text_after (option_map (λ text. text.now) l.found) l.command (map pair_view (drop l.other-index l.always)) ≡ text_for l.command (map pair_view l.always)
