-- Name-by-name runs of a host that is viewed as another host.
use Rattle.std.proofs.Common.{ℕ, List, Option}
use Rattle.just_bench.specs.Prelude.{BlocksPrints, BothPrint, Case, Closing, Compared, Extends, FirstRefused, Frames, Goes, Kept, Module, OrderPrints, Outcome}
use Rattle.just_bench.specs.Prelude.{RunResult, Script, SecondRefused, Step, Text, Token, Turn, Turns, recording}
use Rattle.just_bench.specs.Blocks.{Finished, Breaks}
use Rattle.just_bench.proofs.Seen.{Carries, beside, extends_seen, recording_carried}

module _ {S T : Type 0} (step : Step S) (other : Step T) (see : S → T) (carried : Carries step other see) where
  turn_seen : {closing : Closing} {m : Module} {frames : Frames} {outcome : Outcome Frames} (old new : S × List Kept)
      → Extends closing (recording step) old m frames outcome new → Extends closing (recording other) (beside see old) m frames outcome (beside see new)
  turn_seen old new e = extends_seen (recording step) (recording other) (beside see) (recording_carried step other see carried) old new e

  turns_seen : {closing : Closing} {m : Module} {old new : S × List Kept} {frames : Frames} {names : List Token} {turns : List Turn} {outcome : Outcome Frames}
      → Turns closing step m old frames names turns outcome new → Turns closing other m (beside see old) frames names turns outcome (beside see new)
  turns_seen Finished = Finished
  turns_seen (Goes e rest) = Goes (turn_seen _ _ e) (turns_seen rest)
  turns_seen (Breaks r e) = Breaks r (turn_seen _ _ e)

  order_seen : {old : S} {m : Module} {outer : Frames} {printed : Text} {found : Option RunResult} → OrderPrints step old m outer printed found
      → OrderPrints other (see old) m outer printed found
  order_seen p = record {
    lines = p.lines;
    walks = record {
      turns = p.walks.turns;
      outcome = p.walks.outcome;
      new = beside see p.walks.new;
      walk = turns_seen p.walks.walk;
      text = p.walks.text;
      finds = p.walks.finds;
    };
    lexical = λ resolved. turns_seen (p.lexical resolved);
    text = p.text;
  }

  both_seen : {one_host other_host : S} {first second : Module} {outer : Frames} {printed : Text} {status : ℕ}
      → BothPrint step one_host other_host first second outer printed status → BothPrint other (see one_host) (see other_host) first second outer printed status
  both_seen (FirstRefused one) = FirstRefused (order_seen one)
  both_seen (SecondRefused one more) = SecondRefused (order_seen one) (order_seen more)
  both_seen (Compared one more) = Compared (order_seen one) (order_seen more)

  pub blocks_seen : (Starts : Script → S → Type 0) (Begins : Script → T → Type 0) → ((script : Script) (s : S) → Starts script s → Begins script (see s))
      → {c : Case} {second : List Token} {outer : Frames} {printed : Text} {status : ℕ}
      → BlocksPrints step Starts c second outer printed status → BlocksPrints other Begins c second outer printed status
  blocks_seen Starts Begins started p = record {
    one_host = see p.one_host;
    other_host = see p.other_host;
    one_starts = started _ p.one_host p.one_starts;
    other_starts = started _ p.other_host p.other_starts;
    prints = record { resolved = p.prints.resolved; test = p.prints.test; lines = p.prints.lines; prints = both_seen p.prints.prints; text = p.prints.text };
  }
