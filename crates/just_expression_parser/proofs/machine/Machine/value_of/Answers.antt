use Rattle.std.proofs.Common.{[], ap, map, sym, ◌≡◌, ◌∙◌, arith}
use Rattle.std.proofs.lemmas.Result.{IfErr-weaker, IfOk-weaker}
use Rattle.just_syntax.specs.Plain as plain
use Rattle.just_syntax.specs.View.{token_view, view}
use Rattle.just_expression_parser.proofs.Steps.{done_on, goes_on, read_on}
use Rattle.just_expression_parser.proofs.Values.{backtick_here, bang_here, group_here, list_here, nothing_here, string_here, string_refused}
use Rattle.just_expression_parser.specs.Literal.{backtick_command}
use Rattle.just_expression_parser.specs.Machine as machine
use Rattle.just_expression_parser.specs.Parsed.{IsRefused, goes, goes_at, left, waiting}
use Rattle.just_expression_parser.specs.Tokens.{lexeme}
use Rattle.just_expression_parser.proofs.machine.Machine.value_of.Goals as goal

pub returns-in-Backtick : goal.returns-in-Backtick
returns-in-Backtick c =
    let old = c.args.self.now in
    let token = token_view c.args.token in
    read_on c.backtick.result c.done.result old (goes_at (lexeme c.args.kind token) old machine.Value)
    (plain.Backtick (backtick_command token.lexeme) token) c.done.ensures.ok c.done.ensures.refused c.backtick.ensures.ok c.backtick.ensures.refused
    (sym (backtick_here c.args.kind token (left old) (waiting old) c.in-Backtick.is)) (omega arith)

pub returns-in-Bang : goal.returns-in-Bang
returns-in-Bang c =
    let old = c.args.self.now in
    goes_on _ _ c.wait.result c.wait.new.self
    (sym (bang_here c.args.kind (token_view c.args.token) (left old) (waiting old) c.in-Bang.is)) (omega arith) c.wait.ensures

pub returns-in-BracketL : goal.returns-in-BracketL
returns-in-BracketL c =
    let old = c.args.self.now in
    let token = token_view c.args.token in (
      (
        ap (λ es. (goes old (machine.Elements (machine.ListOf token) (map view es)) []).result) c.new.ensures.items
            ∙ sym (list_here c.args.kind token (left old) (waiting old) c.in-BracketL.is),
        omega arith,
      ),
      tt,
    )

pub returns-in-ParenL : goal.returns-in-ParenL
returns-in-ParenL c =
    let old = c.args.self.now in
    goes_on _ _ c.wait-in-ParenL.result c.wait-in-ParenL.new.self
    (sym (group_here c.args.kind (token_view c.args.token) (left old) (waiting old) c.in-ParenL.is)) (omega arith) c.wait-in-ParenL.ensures

pub returns-in-StringToken : goal.returns-in-StringToken
returns-in-StringToken c =
    let old = c.args.self.now in
    let token = token_view c.args.token in
    let whole = goes_at (lexeme c.args.kind token) old machine.Value in
    done_on c.string.result c.done-in-StringToken.result old whole c.done-in-StringToken.ensures.ok c.done-in-StringToken.ensures.refused
    (IfOk-weaker c.string.result _ (λ e. (goes old (machine.Done (view e)) []).result ≡ whole.result)
    (λ e so. sym (string_here c.args.kind token (left old) (waiting old) c.in-StringToken.is (view e) so)) c.string.ensures.ok)
    (IfErr-weaker c.string.result _ (IsRefused whole.result)
    (λ refusal so. string_refused c.args.kind token (left old) (waiting old) c.in-StringToken.is refusal so) c.string.ensures.refused) (omega arith)

pub returns-in_default : goal.returns-in_default
returns-in_default c =
    let old = c.args.self.now in (
      tt,
      nothing_here c.args.kind (token_view c.args.token) (left old) (waiting old) c.unexpected.result c.in_default.not-Backtick
          c.in_default.not-Bang c.in_default.not-BracketL c.in_default.not-FormatStringStart c.in_default.not-Identifier c.in_default.not-ParenL
          c.in_default.not-StringToken c.unexpected.ensures,
    )
