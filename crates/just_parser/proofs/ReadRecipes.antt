-- Recipes are predictive.
use Rattle.std.specs.Prelude.{◌≡◌, Bool, true, false, List, [], ◌∷◌, Some, None}
use Rattle.std.proofs.Common.{◌∙◌, ap, arith, refl, sym}
use Rattle.just_lexer.specs.State.{Lexeme}
use Rattle.just_lexer.specs.declared.kind.TokenKind.TheVariants as kinds
use Rattle.just_syntax.specs.Plain.{Fragment, Parameter, Token}
use Rattle.just_syntax.specs.declared.parameter_kind.ParameterKind.{ParameterKind}
use Rattle.just_syntax.specs.declared.parameter_kind.ParameterKind.TheVariants.{Plus, Singular, Star}
use Rattle.just_expression_parser.specs.Tokens.{Tokens, is_at, is_kind}
use Rattle.just_expression_parser.proofs.Codes.{of_one_kind}
use Rattle.just_parser.specs.Phrase.{Phrase, Read, Refused, ◌>>=◌, ◌>>◌, accepted, after_read, give, line_end, many, one}
use Rattle.just_parser.specs.Plain.{RecipeDefinition, WrittenAttribute}
use Rattle.just_parser.specs.Recipes.{blank, body, call, default, dependencies, dependency, dependency_argument, dependency_arguments, fragments}
use Rattle.just_parser.specs.Recipes.{indented_lines, interpolated, is_after_blanks, is_after_dependencies, is_after_fragments, is_after_parameters}
use Rattle.just_parser.specs.Recipes.{bare, line_fragment, parts, recipe, recipe_line, recipe_parameter, recipe_parameters, subsequents, trimmed, variadic}
use Rattle.just_parser.specs.declared.parse_error.Fault.{Fault}
use Rattle.just_parser.proofs.Repeated.{ended}
use Rattle.just_parser.proofs.ReadExpressions.{reads_expression, reads_value}
use Rattle.just_parser.proofs.Predictive.{IsPredictive, ReadsOn, TakesToken, any, at_least, follows, gives, reads_on_then}
use Rattle.just_parser.proofs.Predictive.{takes_then, then_reads_on, then_takes}
use Rattle.just_parser.proofs.Turns.{TakesSome, many_of, many_reads_on, many_takes, repeats, takes_some}
use Rattle.just_parser.proofs.ReadTokens.{Begins, accepted_takes, accepts, at_looks, begins, by_kind, ends_line, not_accepted}
use Rattle.just_parser.proofs.ReadTokens.{one_here, takes_kind, takes_one}

-- ---- parameters

reads_default : IsPredictive 0 default
unfolding default
reads_default = by_kind kinds.Equals (any (follows (follows (takes_one kinds.Equals) (λ mark. reads_value)) (λ e. gives (Some e)))) (gives None)

-- what follows a name, and what follows `$`
abbrev after_parameter_name : ParameterKind → Bool → Token → Phrase (List Parameter)
after_parameter_name kind export name = do
  value ← default
  give (record {
    default = value;
    export = export;
    flag = false;
    kind = kind;
    multiple = false;
    name = name;
    number = 0;
    value = None;
  } ∷ [])

abbrev named_parameter : ParameterKind → Bool → Phrase (List Parameter)
named_parameter kind export = one kinds.Identifier >>= after_parameter_name kind export

reads_after_name : (kind : ParameterKind) (export : Bool) (name : Token) → IsPredictive 0 (after_parameter_name kind export name)
reads_after_name kind export name = follows reads_default (λ value. gives _)

reads_parameter : (kind : ParameterKind) → IsPredictive 1 (recipe_parameter kind)
unfolding recipe_parameter
reads_parameter kind = follows (accepts kinds.Dollar) (λ export. follows (takes_one kinds.Identifier) (λ name. reads_after_name kind export name))

reads_variadic : IsPredictive 0 variadic
unfolding variadic
reads_variadic = by_kind kinds.Plus (any (follows (takes_one kinds.Plus) (λ mark. reads_parameter Plus)))
    (by_kind kinds.Asterisk (any (follows (takes_one kinds.Asterisk) (λ mark. reads_parameter Star))) (gives []))

reads_parameters : IsPredictive 0 recipe_parameters
unfolding recipe_parameters
reads_parameters = follows (many_of is_after_parameters (λ t rest us. refl) (reads_parameter Singular)) (λ singular. follows reads_variadic (λ last. gives _))

-- a name begins a parameter
module _ (t : Lexeme) (is : is_kind kinds.Identifier t ≡ true) where
  parameter_takes : TakesToken (recipe_parameter Singular) t
  unfolding recipe_parameter
  parameter_takes = then_takes (accepted kinds.Dollar) (named_parameter Singular) t false (not_accepted kinds.Dollar t (of_one_kind kinds.Identifier kinds.Dollar t is (λ same. cc)))
      (takes_then t (any (takes_one kinds.Identifier)) (λ name. reads_after_name Singular false name) (takes_kind kinds.Identifier t is))

  going : (rest : Tokens) → is_after_parameters (t ∷ rest) ≡ false
  going rest = rw is refl

  parameters_take : TakesToken recipe_parameters t
  unfolding recipe_parameters
  parameters_take = takes_then t (many_of is_after_parameters (λ t rest us. refl) (reads_parameter Singular))
      (λ singular. follows reads_variadic (λ last. gives _))
      (many_takes is_after_parameters (λ t rest us. refl) (recipe_parameter Singular) (any (reads_parameter Singular))
      (takes_some is_after_parameters (recipe_parameter Singular) (reads_parameter Singular)) t going parameter_takes)

-- ---- dependencies

reads_dependency_argument : IsPredictive 1 dependency_argument
unfolding dependency_argument
reads_dependency_argument = follows reads_expression (λ e. gives _)

reads_dependency_arguments : IsPredictive 1 dependency_arguments
unfolding dependency_arguments
reads_dependency_arguments = follows (many_of (is_at 0 kinds.ParenR) (at_looks kinds.ParenR) reads_dependency_argument)
    (λ es. follows (takes_one kinds.ParenR) (λ end. gives _))

reads_call : IsPredictive 3 call
unfolding call
reads_call = follows (takes_one kinds.ParenL) (λ mark. follows (takes_one kinds.Identifier) (λ name. follows reads_dependency_arguments (λ es. gives _)))

reads_dependency : IsPredictive 1 dependency
unfolding dependency
reads_dependency = by_kind kinds.ParenL (at_least (omega arith) reads_call) (follows (takes_one kinds.Identifier) (λ name. gives _))

reads_dependencies : IsPredictive 0 dependencies
reads_dependencies = many_of is_after_dependencies (λ t rest us. refl) reads_dependency

reads_subsequents : IsPredictive 0 subsequents
unfolding subsequents
reads_subsequents = by_kind kinds.AmpersandAmpersand
    (any (follows (takes_one kinds.AmpersandAmpersand) (λ mark. follows reads_dependency (λ first. follows reads_dependencies (λ rest. gives _)))))
    (gives [])

-- ---- bodies

reads_interpolated : IsPredictive 2 interpolated
unfolding interpolated
reads_interpolated = follows reads_expression (λ e. follows (takes_one kinds.InterpolationEnd) (λ end. gives e))

reads_line_fragment : IsPredictive 1 line_fragment
unfolding line_fragment
reads_line_fragment = by_kind kinds.Text (follows (takes_one kinds.Text) (λ text. gives _))
    (at_least (omega arith) (follows (follows (takes_one kinds.InterpolationStart) (λ mark. reads_interpolated)) (λ e. gives _)))

reads_line_fragments : IsPredictive 0 (many is_after_fragments line_fragment)
reads_line_fragments = many_of is_after_fragments (λ t rest us. refl) reads_line_fragment

reads_fragments : IsPredictive 0 fragments
unfolding fragments
reads_fragments = follows reads_line_fragments (λ all. follows (accepts kinds.Eol) (λ end. gives all))

reads_line : IsPredictive 0 recipe_line
unfolding recipe_line
reads_line = follows reads_fragments (λ all. gives _)

-- ---- lines

-- no line ends
going_on : (t : Lexeme) → is_kind kinds.Eol t ≡ false → is_kind kinds.Dedent t ≡ false → (rest : Tokens) → is_after_fragments (t ∷ rest) ≡ false
going_on t no_end no_dedent rest = rw (no_end, no_dedent) refl

empty_line : (t : Lexeme) → is_kind kinds.Eol t ≡ true → (rest : Tokens) → many is_after_fragments line_fragment (t ∷ rest) ≡ Read [] (t ∷ rest)
empty_line t is rest = ended _ is_after_fragments line_fragment (t ∷ rest) (rw is refl)

abbrev line_ended : List Fragment → Phrase (List Fragment)
line_ended all = accepted kinds.Eol >> give all

-- a line takes a token, or its end
fragments_read_on : (t : Lexeme) → is_kind kinds.Dedent t ≡ false → (b : Bool) → is_kind kinds.Eol t ≡ b → ReadsOn fragments t
unfolding fragments
fragments_read_on t no_dedent true is = then_reads_on (many is_after_fragments line_fragment) line_ended t [] (empty_line t is)
    (reads_on_then t (accepts kinds.Eol) (λ end. gives []) (accepted_takes kinds.Eol t is))
fragments_read_on t no_dedent false is = reads_on_then t reads_line_fragments (λ all. follows (accepts kinds.Eol) (λ end. gives all))
    (many_reads_on is_after_fragments (λ t rest us. refl) line_fragment (any reads_line_fragment)
    (takes_some is_after_fragments line_fragment reads_line_fragment) t (going_on t is no_dedent))

line_takes : TakesSome (is_at 0 kinds.Dedent) recipe_line
unfolding recipe_line
line_takes t rest a going is =
    reads_on_then t reads_fragments (λ all. gives (all ∷ [])) (fragments_read_on t going (is_kind kinds.Eol t) refl) rest a is

reads_blank : IsPredictive 1 blank
unfolding blank
reads_blank = follows (takes_one kinds.Eol) (λ end. gives [])

reads_indented_lines : IsPredictive 0 indented_lines
unfolding indented_lines
reads_indented_lines = any (follows (takes_one kinds.Indent) (λ mark.
    follows (repeats (is_at 0 kinds.Dedent) (at_looks kinds.Dedent) recipe_line reads_line line_takes)
    (λ lines. follows (takes_one kinds.Dedent) (λ end. gives (trimmed lines)))))

reads_body : IsPredictive 0 body
unfolding body
reads_body = follows (many_of is_after_blanks (λ t rest us. refl) reads_blank) (λ blanks. by_kind kinds.Indent reads_indented_lines (gives []))

-- ---- whole recipes

-- what follows the parameters
abbrev after_parameters : RecipeDefinition → List Parameter → Phrase RecipeDefinition
after_parameters r ps = do
  one kinds.Colon
  before ← dependencies
  later ← subsequents
  line_end
  lines ← body
  give (record r { body = lines; dependencies = before; parameters = ps; subsequents = later })

reads_after_parameters : (r : RecipeDefinition) (ps : List Parameter) → IsPredictive 1 (after_parameters r ps)
reads_after_parameters r ps = follows (takes_one kinds.Colon) (λ colon. follows reads_dependencies (λ before. follows reads_subsequents (λ later.
    follows ends_line (λ end. follows reads_body (λ lines. gives _)))))

reads_parts : (r : RecipeDefinition) → IsPredictive 1 (parts r)
unfolding parts
reads_parts r = follows reads_parameters (λ ps. reads_after_parameters r ps)

parts_take : (r : RecipeDefinition) (t : Lexeme) → is_kind kinds.Identifier t ≡ true → TakesToken (parts r) t
unfolding parts
parts_take r t is = takes_then t reads_parameters (λ ps. any (reads_after_parameters r ps)) (parameters_take t is)

abbrev after_quiet : List WrittenAttribute → Bool → Phrase RecipeDefinition
after_quiet all quiet = one kinds.Identifier >>= (λ name. parts (bare all quiet name))

reads_after_quiet : (all : List WrittenAttribute) (quiet : Bool) → Begins 2 kinds.Identifier (after_quiet all quiet)
reads_after_quiet all quiet = begins kinds.Identifier (λ name. reads_parts (bare all quiet name))

pub reads_recipe : (all : List WrittenAttribute) → IsPredictive 2 (recipe all)
unfolding recipe
reads_recipe all = follows (accepts kinds.At) (λ quiet. (reads_after_quiet all quiet).predictive)

no_at : (t : Lexeme) → is_kind kinds.Identifier t ≡ true → is_kind kinds.At t ≡ false
no_at t is = of_one_kind kinds.Identifier kinds.At t is (λ same. cc)

-- a name begins a recipe
pub recipe_takes : (all : List WrittenAttribute) (t : Lexeme) → is_kind kinds.Identifier t ≡ true → TakesToken (recipe all) t
unfolding recipe
recipe_takes all t is =
    then_takes (accepted kinds.At) (after_quiet all) t false (not_accepted kinds.At t (no_at t is)) ((reads_after_quiet all false).takes t is)

-- a name after it begins its parameters
pub second_is_taken : (all : List WrittenAttribute) (x t : Lexeme) (rest : Tokens) (fault : Fault) → is_kind kinds.Identifier x ≡ true
    → is_kind kinds.Identifier t ≡ true → recipe all (x ∷ t ∷ rest) ≡ Refused fault (t ∷ rest) → ⊥
unfolding recipe
second_is_taken all x t rest fault first second h =
    (parts_take (bare all false x.token) t second).never_refused rest fault
    (sym (ap (λ o. after_read o (after_quiet all)) (not_accepted kinds.At x (no_at x first) (t ∷ rest))
    ∙ ap (λ o. after_read o (λ name. parts (bare all false name))) (one_here kinds.Identifier x (t ∷ rest) true first)) ∙ h)
