use Rattle.std.proofs.lemmas.List.{nil_from_length}
use Rattle.just_value.proofs.Framed.{nothing_rises}
use Rattle.just_value.proofs.frame.Frame.with_capacity.Goals as goal

pub invariant_of-result : goal.invariant_of-result
invariant_of-result c =
    let none = nil_from_length c.new.result.entries c.new.ensures.len in
    rw (c.in_ok-bindings.ensures.items, none) nothing_rises
