use Rattle.just_bench.specs.Prelude.{AnswersCase, MadeOf}
use Rattle.just_bench.proofs.Delivered.{all_written, front_written, one_of_error}
use Rattle.just_bench.proofs.program.answer_stream.Goals as goal

pub returns-in_err-write_text-clause-written : goal.returns-in_err-write_text-clause-written
returns-in_err-write_text-clause-written g c =
    front_written (AnswersCase g.A.Made.Host.step (MadeOf (g.A.Around.gives c.args.around.now))) c.in_ok-bytes.bytes.items c.deref.result.now _ _
    c.deref-2.result.now _ _ _
    c.deref.ensures.value c.in_ok-text.ensures.bytes c.in_ok-status.ensures.answer c.deref-2.ensures
    _ _ (one_of_error _ c.from_residual-in_err-write_text.ensures.0) c.in_ok-bytes.ensures.whole c.in_err-write_text.ensures.part

pub returns-clause-written : goal.returns-clause-written
returns-clause-written g c =
    all_written (AnswersCase g.A.Made.Host.step (MadeOf (g.A.Around.gives c.args.around.now))) c.in_ok-bytes.bytes.items c.deref.result.now _ _
    c.deref-2.result.now _ _ _
    c.deref.ensures.value c.in_ok-text.ensures.bytes c.in_ok-status.ensures.answer c.deref-2.ensures
    _ c.in_ok-bytes.ensures.whole c.in_ok-write_text.ensures.whole
