use Rattle.std.proofs.Common.{◌≡◌, ◌∙◌, ◌++◌, ap, map, string_bytes, sym}
use Rattle.std.proofs.lemmas.Result.{IfOk-weaker}
use Rattle.just_bench.specs.Prelude.{frames_view, in_order, inner_host, module_run_view, name_view, order_line, records_view, taken_in, taken_view}
use Rattle.just_bench.specs.Prelude.{text_numbered}
use Rattle.just_bench.proofs.References.{same_references}
use Rattle.just_bench.proofs.Walks.{none_asked, order_prints, same_names}
use Rattle.just_bench.proofs.blocks.print_run.Goals as goal

pub returns-clause-prints : goal.returns-clause-prints
returns-clause-prints g c =
    let m = in_order (module_run_view c.args.run.now) (map name_view c.args.order.now) in
    let determined = rw (same_references c.as_ref-references.result c.args.run.now.references c.as_ref-references.ensures.value) at c.in_ok-taken.ensures in
    let coming : map taken_view c.deref-2.result.now ≡ taken_in m.assignments m.assignments.order = ap (map taken_view) c.deref-2.ensures.value ∙ determined in
    IfOk-weaker c.print_turns.result _ _ (λ found w.
    order_prints (string_bytes c.args.text.now) (string_bytes c.print_order.new.text) (string_bytes c.print_turns.new.text) (inner_host c.args.host.now)
    (records_view c.args.host.now) (frames_view c.args.parent.now) (frames_view c.in_ok-child.field-0)
    (map taken_view c.deref-2.result.now) (text_numbered c.new.result) c.requires.fresh c.in_ok-child.ensures coming
    (none_asked c.new.result c.new.ensures.empty)
    (c.in_ok-print_order.ensures ∙ ap (λ names. string_bytes c.args.text.now ++ order_line names)
    (same_names c.deref.result.now c.deref-2.result.now (c.deref.ensures.value ∙ sym c.deref-2.ensures.value))) w) c.print_turns.ensures.walks
