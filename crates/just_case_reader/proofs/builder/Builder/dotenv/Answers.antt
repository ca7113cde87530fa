use Rattle.std.proofs.Common.{◌≡◌, map, refl, ap, ◌∙◌}
use Rattle.std.specs.BTreeMap.{insert_entry}
use Rattle.std.specs.Cmp.Lexicographic.{slice_cmp}
use Rattle.std.specs.Ordering.{nat_cmp}
use Rattle.just_syntax.specs.View.{pair_view, pairs_view}
use Rattle.just_syntax.proofs.Maps.{pairs_with}
use Rattle.just_case_reader.proofs.builder.Builder.dotenv.Goals as goal

pub returns : goal.returns
returns c =
    let same : pairs_view c.insert.new.self ≡ insert_entry (slice_cmp nat_cmp) (pairs_view c.args.self.now.case.dotenv) c.args.name.now c.args.text.now =
    rw (c.in_ok-name.ensures.ok, c.in_ok-text.ensures.ok) at (ap (map pair_view) c.in_ok-insert.ensures.entries ∙ pairs_with c.args.self.now.case.dotenv.entries
    c.in_ok-name.name c.in_ok-text.text) in
    rw (same) refl
