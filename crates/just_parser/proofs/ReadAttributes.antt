-- Attributes are predictive.
use Rattle.std.specs.Prelude.{[], ◌∷◌, ◌++◌, bytes_eq, codes}
use Rattle.std.proofs.Common.{arith, inl, inr, refl}
use Rattle.just_syntax.specs.Plain as plain
use Rattle.just_syntax.specs.Plain.{Text, Token}
use Rattle.just_lexer.specs.declared.kind.TokenKind.TheVariants as kinds
use Rattle.just_parser.specs.Attributes.{arg, arg_option, arg_options, attribute, attribute_line, attribute_of, attributes, close, env, env_value}
use Rattle.just_parser.specs.Attributes.{ignored_arguments, ignored_element, is_after_attributes, option_named, option_value}
use Rattle.just_parser.specs.Attributes.{string_phrase}
use Rattle.just_parser.specs.Phrase.{expected}
use Rattle.just_expression_parser.specs.Tokens.{is_at}
use Rattle.just_parser.specs.Settings.{literal_of_string}
use Rattle.just_parser.proofs.ReadArguments.{ignores_argument, ignores_value}
use Rattle.just_parser.proofs.ReadExpressions.{reads_expression, reads_value}
use Rattle.just_parser.proofs.ReadForms.{IsOfStrings, reads_string_as}
use Rattle.just_parser.proofs.Predictive.{IsPredictive, any, at_least, either, follows, gives}
use Rattle.just_parser.proofs.Turns.{many_of}
use Rattle.just_parser.proofs.ReadTokens.{at_looks, by_kind, ends_element, ends_line, takes_one}

pub closes : IsPredictive 1 close
unfolding close
closes = follows (ends_element kinds.ParenR) (λ comma. follows (takes_one kinds.ParenR) (λ end. gives tt))

of_strings : IsOfStrings literal_of_string
of_strings (plain.StringLiteral l) = inl (l, refl)
of_strings e = inr refl

pub reads_string : IsPredictive 1 string_phrase
reads_string = reads_string_as (expected kinds.StringToken) literal_of_string of_strings

-- ---- what evaluation ignores

ignores_element : IsPredictive 1 ignored_element
unfolding ignored_element
ignores_element = follows ignores_argument (λ e. follows (ends_element kinds.ParenR) (λ comma. gives []))

ignores_arguments : IsPredictive 0 ignored_arguments
unfolding ignored_arguments
ignores_arguments = by_kind kinds.Colon (any (follows (follows (takes_one kinds.Colon) (λ mark. reads_value)) (λ e. gives tt)))
    (by_kind kinds.ParenL (any (follows (takes_one kinds.ParenL) (λ mark. follows (many_of (is_at 0 kinds.ParenR) (at_looks kinds.ParenR) ignores_element)
    (λ all. follows (takes_one kinds.ParenR) (λ end. gives tt))))) (gives tt))

-- ---- `env` and `arg`

reads_env : IsPredictive 1 env
unfolding env env_value
reads_env = at_least (omega arith) (follows (takes_one kinds.ParenL) (λ mark. follows reads_expression (λ key. follows
    (follows (takes_one kinds.Comma) (λ comma. follows reads_expression (λ e. follows closes (λ end. gives e)))) (λ e. gives (plain.Env key e)))))

reads_option_value : IsPredictive 0 option_value
unfolding option_value
reads_option_value = any (follows (takes_one kinds.Equals) (λ mark. follows reads_expression (λ e. gives _)))

reads_option_named : (name : Text) → IsPredictive 0 (option_named name)
unfolding option_named
reads_option_named name = either (bytes_eq name (codes "flag")) (gives _) (either (bytes_eq name (codes "multiple")) (gives _)
    (either (bytes_eq name (codes "value")) reads_option_value (follows ignores_value (λ e. gives []))))

reads_arg_option : IsPredictive 1 arg_option
unfolding arg_option
reads_arg_option = follows (takes_one kinds.Identifier) (λ name. follows (reads_option_named name.lexeme) (λ found.
    follows (ends_element kinds.ParenR) (λ comma. gives found)))

reads_arg_options : IsPredictive 1 arg_options
unfolding arg_options
reads_arg_options = follows (ends_element kinds.ParenR) (λ comma. follows (many_of (is_at 0 kinds.ParenR) (at_looks kinds.ParenR) reads_arg_option)
    (λ options. follows (takes_one kinds.ParenR) (λ end. gives options)))

reads_arg : (name : Token) → IsPredictive 3 (arg name)
unfolding arg
reads_arg name = follows (takes_one kinds.ParenL) (λ mark. follows reads_string (λ parameter. follows reads_arg_options (λ options. gives _)))

-- ---- attributes of all names

reads_attribute_of : (name : Token) → IsPredictive 0 (attribute_of name)
unfolding attribute_of
reads_attribute_of name = either (bytes_eq name.lexeme (codes "arg")) (any (follows (reads_arg name) (λ a. gives _)))
    (either (bytes_eq name.lexeme (codes "env")) (any (follows reads_env (λ a. gives _))) (follows ignores_arguments (λ all. gives _)))

reads_attribute : IsPredictive 1 attribute
unfolding attribute
reads_attribute = follows (takes_one kinds.Identifier) (λ name. follows (reads_attribute_of name) (λ a. follows (ends_element kinds.BracketR)
    (λ comma. gives (a ∷ []))))

reads_attribute_line : IsPredictive 1 attribute_line
unfolding attribute_line
reads_attribute_line = at_least (omega arith) (follows (takes_one kinds.BracketL) (λ mark. follows reads_attribute (λ first.
    follows (many_of (is_at 0 kinds.BracketR) (at_looks kinds.BracketR) reads_attribute)
    (λ rest. follows (takes_one kinds.BracketR) (λ end. follows ends_line (λ end. gives (first ++ rest)))))))

pub reads_attributes : IsPredictive 0 attributes
reads_attributes = many_of is_after_attributes (λ t rest us. refl) reads_attribute_line
