use Rattle.std.proofs.Common.{◌∙◌, [], ap, drop, map, string_bytes}
use Rattle.just_bench.specs.Prelude.{Module, Walks, frames_view, in_order, module_run_view, name_view, refusal, seen, taken_view, text_numbered}
use Rattle.just_bench.proofs.Walks.{walked_on, walked_refused, walked_whole}
use Rattle.just_bench.proofs.blocks.print_turns.Goals as goal

pub returns-in-Err-clause-walks : goal.returns-in-Err-clause-walks
returns-in-Err-clause-walks g c =
    let m = in_order (module_run_view c.args.run.now) (map name_view c.args.order.now) in
    walked_refused (module_run_view c.loop-name.run) c.loop-name.invariant.run
    (λ printed found. Walks g.H.Host.step m (seen c.args.host.now) (frames_view c.args.blocks.scope) (map name_view c.args.order.now)
    (map taken_view c.args.taken.now) (text_numbered c.args.blocks.questions) printed found)
    (string_bytes c.args.text.now) (string_bytes c.loop-name.text) (seen c.loop-name.host) (frames_view c.loop-name.blocks.scope) name_view c.args.order.now
    c.loop-name.name-index
    (drop c.loop-name.at (map taken_view c.args.taken.now)) (text_numbered c.loop-name.blocks.questions) c.loop-name.invariant.walks
    _ c.loop-name-test.true (seen c.print_turn.new.host) (refusal c.in-Err.error) (rw c.in-Err.is at c.in_ok-next.ensures.extends)
    (string_bytes c.print_turn.new.text) (string_bytes c.print_refusal.new.text) c.in_ok-next.ensures.text c.in_ok-print_refusal-in-Err.ensures

pub loop-name-preserved : goal.loop-name-preserved
loop-name-preserved g c =
    let m = in_order (module_run_view c.args.run.now) (map name_view c.args.order.now) in
    record {
      run = ap (λ (m : Module). in_order m []) c.in_ok-next.ensures.run ∙ c.loop-name.invariant.run;
      walks = walked_on (module_run_view c.loop-name.run) c.loop-name.invariant.run
          (λ printed found. Walks g.H.Host.step m (seen c.args.host.now) (frames_view c.args.blocks.scope) (map name_view c.args.order.now)
          (map taken_view c.args.taken.now) (text_numbered c.args.blocks.questions) printed found)
          (string_bytes c.args.text.now) (string_bytes c.loop-name.text) (seen c.loop-name.host) (frames_view c.loop-name.blocks.scope) name_view
          c.args.order.now c.loop-name.name-index
          (drop c.loop-name.at (map taken_view c.args.taken.now)) (text_numbered c.loop-name.blocks.questions) c.loop-name.invariant.walks
          _ c.loop-name-test.true (seen c.print_turn.new.host) (frames_view c.print_turn.new.blocks.scope) (rw c.in-Ok.is at c.in_ok-next.ensures.extends)
          (drop c.in-Ok.next (map taken_view c.args.taken.now)) (text_numbered c.print_turn.new.blocks.questions) (string_bytes c.print_turn.new.text)
          (rw c.in-Ok.is at c.in_ok-next.ensures.rest) c.in_ok-next.ensures.asked c.in_ok-next.ensures.text;
    }

pub returns-clause-walks : goal.returns-clause-walks
returns-clause-walks g c =
    let m = in_order (module_run_view c.args.run.now) (map name_view c.args.order.now) in
    walked_whole (module_run_view c.loop-name.run) c.loop-name.invariant.run
    (λ printed found. Walks g.H.Host.step m (seen c.args.host.now) (frames_view c.args.blocks.scope) (map name_view c.args.order.now)
    (map taken_view c.args.taken.now) (text_numbered c.args.blocks.questions) printed found)
    (string_bytes c.args.text.now) (string_bytes c.loop-name.text) (seen c.loop-name.host) (frames_view c.loop-name.blocks.scope) name_view c.args.order.now
    c.loop-name.name-index
    (drop c.loop-name.at (map taken_view c.args.taken.now)) (text_numbered c.loop-name.blocks.questions) c.loop-name.invariant.walks c.loop-name-test.false
