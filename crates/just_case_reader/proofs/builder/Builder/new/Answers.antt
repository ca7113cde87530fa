use Rattle.std.proofs.Common.{refl}
use Rattle.just_case_reader.proofs.builder.Builder.new.Goals as goal

pub returns : goal.returns
returns c = rw (c.in_ok-with_capacity.ensures, c.in_ok-numbering.ensures, c.in_ok-stack.ensures) refl
