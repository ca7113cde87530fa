use Rattle.std.proofs.Common.{◌≡◌, ◌==◌, [], if◌then◌else◌, take, string_bytes}
use Rattle.just_text.proofs.Joined.{joined_by}
use Rattle.just_text.proofs.join_list.join_list.Given as goal

-- the texts so far are joined, and the separator comes between them and the next
abbrev pub invariant-loop-text : goal.invariant-loop-text
invariant-loop-text l = record {
  so_far : string_bytes l.joined ≡ joined_by l.separator (take l.text-index l.texts);
  next : l.between ≡ (if l.text-index == 0 then [] else l.separator);
}
