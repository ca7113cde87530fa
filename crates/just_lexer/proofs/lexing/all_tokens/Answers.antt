use Rattle.std.proofs.Common.{◌∙◌, map, ap}
use Rattle.std.proofs.lemmas.List.{map_push}
use Rattle.just_syntax.specs.View.{place_view}
use Rattle.just_lexer.specs.Advances.{FitsIn}
use Rattle.just_lexer.specs.State.{State}
use Rattle.just_lexer.specs.View.{lexeme_view, lexer_view}
use Rattle.just_lexer.proofs.Steps.{fault_found, more_lexed, open_fault_found, room_after, smaller}
use Rattle.just_lexer.proofs.lexing.all_tokens.Goals as goal

pub take-requires-clause-cut : goal.take-requires-clause-cut
unfolding FitsIn
take-requires-clause-cut c = c.in-Token.ensures.fits.1

pub next_token-token-requires : goal.next_token-token-requires
unfolding FitsIn
next_token-token-requires c = c.in-Fault.ensures.fits

pub loop-kind-smaller : goal.loop-kind-smaller
unfolding FitsIn
loop-kind-smaller c =
    let l = c.loop-kind.lexer in
    smaller l.indentation.now l.rest.now c.take.new.self.indentation.now c.take.new.self.rest.now c.in-Token.kind c.in-Token.length
    c.in-Token.ensures.fits.0 c.in-Token.ensures.fits.1.0 c.in-Ok.ensures.rest (ap (λ (s : State). s.indentation) c.in-Ok.ensures.state)

pub loop-kind-preserved : goal.loop-kind-preserved
loop-kind-preserved c =
    let l = c.loop-kind in
    let items = ap (map lexeme_view) c.in-Ok-push.ensures.items ∙ map_push lexeme_view l.lexemes.items c.in-Ok.lexeme in
    let room = room_after c.in-Token.length (place_view l.lexer.place) l.lexer.rest.now l.invariant.room in
    record {
      same = more_lexed c.args.path.now c.args.source.now l.lexer.rest.now (lexer_view l.lexer) (map lexeme_view l.lexemes.items) l.invariant.same
          c.in-Token.kind c.in-Token.length (lexeme_view c.in-Ok.lexeme) (lexer_view c.take.new.self) c.take.new.self.rest.now
          (map lexeme_view c.push.new.self.items) c.in-Token.ensures.value c.in-Ok.ensures.lexeme c.in-Ok.ensures.state c.in-Ok.ensures.rest items;
      room = rw (ap (λ (s : State). s.place) c.in-Ok.ensures.state, c.in-Ok.ensures.rest) room;
    }

pub returns-in-Fault-clause-fault : goal.returns-in-Fault-clause-fault
returns-in-Fault-clause-fault c =
    let l = c.loop-kind in
    fault_found c.args.path.now c.args.source.now l.lexer.rest.now (lexer_view l.lexer) (map lexeme_view l.lexemes.items) l.invariant.same
    c.in-Fault.fault c.in-Fault.length _ c.in-Fault.ensures.value c.next_token-token.ensures

pub returns-in-OpenFault-clause-fault : goal.returns-in-OpenFault-clause-fault
returns-in-OpenFault-clause-fault c =
    let l = c.loop-kind in
    open_fault_found c.args.path.now c.args.source.now l.lexer.rest.now (lexer_view l.lexer) (map lexeme_view l.lexemes.items) l.invariant.same
    c.in-OpenFault.fault _ c.in-OpenFault.ensures.value c.opening_token-token.ensures
