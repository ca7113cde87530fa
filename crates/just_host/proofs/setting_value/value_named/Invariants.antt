use Rattle.std.proofs.Common.{◌≡◌, drop}
use Rattle.just_host.proofs.Entries.{named_among}
use Rattle.just_host.proofs.setting_value.value_named.Given as goal

-- the value is that among the entries that are left
abbrev pub invariant-loop-key : goal.invariant-loop-key
invariant-loop-key l = named_among l.name (drop l.key-index l.entries) ≡ named_among l.name l.entries
