-- Answers to commands.
use Rattle.std.proofs.Common.{◌≡◌, List, [], ◌∷◌, map, Result, Ok, Err, refl}
use Rattle.std.specs.declared.string.String.{String}
use Rattle.just_value.specs.declared.error.CommandFault.{CommandFault}
use Rattle.just_bench.specs.Prelude.{command_reply_view}
use Rattle.just_host.specs.View.{replied}
use Rattle.just_bench.specs.Hosts.{answer_of}

reply_seen : {A : Type 0} (reply : Result (String A) CommandFault) → answer_of (command_reply_view reply) ≡ replied reply
reply_seen (Ok text) = refl
reply_seen (Err fault) = refl

-- the replies of a case are the answers of its host
pub replies_seen : {A : Type 0} (replies : List (Result (String A) CommandFault)) → map answer_of (map command_reply_view replies) ≡ map replied replies
replies_seen [] = refl
replies_seen (reply ∷ replies) = rw (reply_seen reply, replies_seen replies) refl
