use Rattle.std.proofs.Common.{◌≡◌, ◌↔◌, IsTrue, map, drop}
use Rattle.just_resolution.specs.Prelude.{IsAdmitted, MayFollowInTurn, function_view, is_name_in, is_readable, recipe_parameter_view}
use Rattle.just_resolution.proofs.here.Reader.may_follow.Given as goal

-- all may follow exactly if the remaining ones may, once the earlier ones are readable
abbrev pub invariant-loop-parameter : goal.invariant-loop-parameter
invariant-loop-parameter l =
    let functions = map function_view l.fn.self.functions.now in
    let bodies = is_readable l.fn.self.bodies in
    record {
      same_functions : l.self.functions ≡ l.fn.self.functions;
      same_bodies : l.self.bodies ≡ l.fn.self.bodies;
      closed : IsAdmitted functions bodies (is_name_in l.self.admitted);
      decides : MayFollowInTurn functions (λ n. IsTrue (is_readable l.self.here n)) bodies (map recipe_parameter_view (drop l.parameter-index l.parameters))
          ↔ MayFollowInTurn functions (λ n. IsTrue (is_readable l.fn.self.here n)) bodies (map recipe_parameter_view l.parameters);
    }
