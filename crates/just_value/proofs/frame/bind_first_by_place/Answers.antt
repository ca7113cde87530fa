use Rattle.std.proofs.Common.{inr}
use Rattle.just_value.specs.Prelude.{frame_view}
use Rattle.just_value.proofs.Placed.{on_err_map, on_ok_map}
use Rattle.just_value.proofs.frame.bind_first_by_place.Goals as goal

pub returns-in-Ok-clause-ok : goal.returns-in-Ok-clause-ok
returns-in-Ok-clause-ok c = on_ok_map c.bind_by_place.result (λ all empty rising. all (frame_view c.args.bindings.now.items)
    (rw c.deref.ensures.value at (c.in-Ok.ensures empty (rw c.deref.ensures.value rising)))) c.bind_by_place.ensures.ok

pub returns-in-Ok-clause-err : goal.returns-in-Ok-clause-err
returns-in-Ok-clause-err c = on_err_map c.bind_by_place.result (λ same empty rising. (
  same.0,
  inr (rw same.1
      (rw c.deref.ensures.value at (c.in-Ok.ensures empty (rw c.deref.ensures.value rising)))),
)) c.bind_by_place.ensures.err
