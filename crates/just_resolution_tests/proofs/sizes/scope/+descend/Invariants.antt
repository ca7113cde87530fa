use Rattle.just_resolution_tests.proofs.sizes.scope.+descend.Given as goal

abbrev pub decreases-descend : goal.decreases-descend
decreases-descend g l = l.levels
