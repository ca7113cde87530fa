use Rattle.std.proofs.Common.{drop}
use Rattle.just_builtins.specs.Prelude.{Behaves, Called, Frames, FunctionReply, Outcome, first_set, freely, pairs_view, tree, unchecked}
use Rattle.just_builtins.proofs.environment.first_set.Given as goal

-- a run of the remaining keys from here is a run of all keys from the start
abbrev pub invariant-loop-key : goal.invariant-loop-key
invariant-loop-key g l = (shown : Frames) (rest : FunctionReply) (o : Outcome Called) (last : g.row.H.Denot)
    → Behaves freely g.H.Host.step unchecked l.host (tree shown (first_set (pairs_view l.dotenv) rest (drop l.key-index l.keys))) o last
    → Behaves freely g.H.Host.step unchecked l.fn.host (tree shown (first_set (pairs_view l.dotenv) rest l.keys)) o last
