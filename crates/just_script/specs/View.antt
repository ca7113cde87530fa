-- Hosts as plain data.
use Rattle.std.specs.Prelude.{map}
use Rattle.std.specs.Vec.Iter.{into_iter_items}
use Rattle.just_syntax.specs.View.{pair_view}
use Rattle.just_host.specs.View.{replied, text_replied}
use Rattle.just_script.specs.Failing.{Failing}
use Rattle.just_script.specs.Script.{Script}
use Rattle.just_script.specs.declared.fail_at.FailAt.{FailAt}
use Rattle.just_script.specs.declared.scripted_host.ScriptedHost.{ScriptedHost}

-- the fixed answers, and the remaining ones
abbrev pub script_view : ScriptedHost → Script
script_view host = record {
  always = map pair_view host.always.items;
  replies = map replied (into_iter_items host.replies);
  texts = map text_replied (into_iter_items host.texts);
  exists = into_iter_items host.exists;
  numbers = into_iter_items host.numbers;
}

-- the inner host, how many questions are still passed on to it, and how it fails afterwards
abbrev pub failing_view : {H : Type 0} → FailAt H → Failing H
failing_view host = record { host = host.host; left = host.left; how = host.how }
