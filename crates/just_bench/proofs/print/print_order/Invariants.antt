use Rattle.std.proofs.Common.{◌≡◌, ◌++◌, codes, map, take, string_bytes}
use Rattle.just_bench.specs.Prelude.{name_view, name_words}
use Rattle.just_bench.proofs.print.print_order.Given as goal

-- the names so far
abbrev pub invariant-loop-name : goal.invariant-loop-name
invariant-loop-name l =
    string_bytes l.text ≡ string_bytes l.fn.text ++ (codes "order" ++ name_words (map (λ taken. name_view taken.0.now) (take l.name-index l.taken)))
