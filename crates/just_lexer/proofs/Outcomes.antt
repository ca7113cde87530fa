-- What follows for the result of a call.
use Rattle.std.proofs.Common.{◌≡◌, List, Result, Ok, Err, IfOk, IfErr}
use Rattle.std.specs.Str.{IsUtf8}
use Rattle.just_syntax.specs.Plain.{Text}
use Rattle.just_syntax.specs.View.{token_view}
use Rattle.just_lexer.specs.Fault.{IsFaultPlaced, IsFirstLexicalFault}
use Rattle.just_lexer.specs.Laws.{AreTokensPlaced, text_of_tokens}
use Rattle.just_lexer.specs.Lexes.{IsLexed, Whole}
use Rattle.just_lexer.specs.State.{Lexeme}
use Rattle.just_lexer.specs.declared.lex_error.LexError.{LexError}
use Rattle.just_lexer.specs.declared.lex_error.LexError.TheVariants.{Fault, OutOfMemory}
use Rattle.just_lexer.proofs.Results.{fault_token_placed, lexed_text, tokens_placed}

-- the texts of the tokens are the text
pub if_whole : {V E : Type 0} (view : V → List Lexeme) (path source : Text) (r : Result V E) → IsUtf8 source → IfOk r (λ v. IsLexed path source (view v) Whole)
    → IfOk r (λ v. text_of_tokens (view v) ≡ source)
if_whole view path source (Ok v) utf8 lexed = lexed_text path source (view v) utf8 lexed
if_whole view path source (Err e) utf8 lexed = tt

-- the tokens are in their places
pub if_placed : {V E : Type 0} (view : V → List Lexeme) (path source : Text) (r : Result V E) → IfOk r (λ v. IsLexed path source (view v) Whole)
    → IfOk r (λ v. AreTokensPlaced path source (view v))
if_placed view path source (Ok v) lexed = tokens_placed path source (view v) lexed
if_placed view path source (Err e) lexed = tt

placed_fault : (path source : Text) (e : LexError) → IsFirstLexicalFault path source e → IsFaultPlaced path source e
placed_fault path source (Fault kind token) first = fault_token_placed path source first.0 kind (token_view token) first.1
placed_fault path source OutOfMemory first = tt

-- the token of a fault is in its place
pub if_fault_placed : {V : Type 0} (path source : Text) (r : Result V LexError) → IfErr r (λ e. IsFirstLexicalFault path source e) → IfErr r
    (λ e. IsFaultPlaced path source e)
if_fault_placed path source (Ok v) first = tt
if_fault_placed path source (Err e) first = placed_fault path source e first
