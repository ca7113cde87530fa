use Rattle.std.proofs.Common.{length, map, reverse, ◌≡◌}
use Rattle.just_syntax.specs.View.{recipe_parameter_view}
use Rattle.just_parser.specs.View.{arg_option_view}
use Rattle.just_analyzer.specs.Parameters.{with_options}
use Rattle.just_analyzer.proofs.parameters.set_options.Given as goal

-- the options that are left, the last first, give the rest
abbrev pub invariant-loop-option : goal.invariant-loop-option
invariant-loop-option l =
    with_options (recipe_parameter_view l.parameter) (map arg_option_view (reverse l.options.items))
    ≡ with_options (recipe_parameter_view l.fn.parameter) (map arg_option_view l.fn.options.items)

abbrev pub decreases-loop-option : goal.decreases-loop-option
decreases-loop-option l = length l.options.items
