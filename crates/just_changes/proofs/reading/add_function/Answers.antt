use Rattle.std.proofs.Common.{◌≡◌, ◌∙◌, ◌↔◌, ℕ, Bor, IsTrue, ap, map, sym}
use Rattle.just_changes.specs.Prelude.{OfFunction, Text, is_number_in, parameter_view, view}
use Rattle.just_meaning.specs.Reaches.{IsAmong}
use Rattle.just_changes.proofs.Readings.{mentions_alike, same_more}
use Rattle.just_changes.proofs.reading.add_function.Goals as goal

pub returns : goal.returns
returns c = λ x y.
    let name : c.lexeme-name.result.now ≡ c.args.function.now.name.token.lexeme.now = ap (λ (l : Bor Text). l.now) c.lexeme-name.ensures in
    let parameters = map parameter_view c.args.function.now.parameters.items in
    let owns : (n : ℕ) → IsTrue (is_number_in c.in_ok-own.own n) ↔ IsAmong parameters n = rw c.deref.ensures.value at c.in_ok-own.ensures in
    let body = view c.args.function.now.body in
    same_more
    (λ p. (ap OfFunction (sym name) ∙ p.0, mentions_alike (λ n. IsTrue (is_number_in c.in_ok-own.own n)) (IsAmong parameters) body (λ n k. (owns n).1 k) x p.1))
    (λ q. (ap OfFunction name ∙ q.0, mentions_alike (IsAmong parameters) (λ n. IsTrue (is_number_in c.in_ok-own.own n)) body (λ n k. (owns n).0 k) x q.1))
    (c.in_ok-add_mentions.ensures x y)
