-- Plain syntax: texts are their bytes, and nothing has an address in memory.
use Rattle.std.specs.Prelude.{ℕ, suc, Bool, List, Option}
use Rattle.just_syntax.specs.declared.conditional_operator.ConditionalOperator.{ConditionalOperator}
use Rattle.just_syntax.specs.declared.indentation.Indentation as declared
use Rattle.just_syntax.specs.declared.parameter_kind.ParameterKind.{ParameterKind}

abbrev pub Text : Type 0
Text = List ℕ

-- where a piece of a file begins, counted from 0, and the path of the file
pub record Place : Type 0 where
  pub column : ℕ
  pub line : ℕ
  pub offset : ℕ
  pub path : Text

pub record Token : Type 0 where
  pub column : ℕ
  pub line : ℕ
  pub offset : ℕ
  pub lexeme : Text
  pub path : Text

-- a string literal: its text, how it was written, and whether its text was unindented
pub record Literal : Type 0 where
  pub cooked : Text
  pub lexeme : Text
  pub indented : Bool

-- An expression. A name is its token.
mutual
  pub data Expr : Type 0 where
    And : Expr → Expr → Expr
    Assert : Expr → Expr → Token → Expr
    -- without a message
    AssertOnly : Expr → Token → Expr
    Backtick : Text → Token → Expr
    Call : Token → Exprs → Expr
    Comparison : Expr → ConditionalOperator → Expr → Token → Expr
    Concatenation : Expr → Token → Expr → Expr
    Conditional : Expr → Expr → Expr → Expr
    -- without the other branch
    ConditionalOnly : Expr → Expr → Expr
    FormatString : Literal → Pieces → Expr
    Group : Expr → Expr
    Join : Expr → Token → Expr → Expr
    -- without a left side
    JoinOnly : Token → Expr → Expr
    ListOf : Exprs → Token → Expr
    ListConcatenation : Expr → Token → Expr → Expr
    Not : Expr → Expr
    Or : Expr → Expr → Expr
    StringLiteral : Literal → Expr
    Variable : Token → Option ℕ → Expr

  -- a row of expressions
  pub data Exprs : Type 0 where
    Nil : Exprs
    Cons : Expr → Exprs → Exprs

  -- interpolations, each with the text after it
  pub data Pieces : Type 0 where
    NoPiece : Pieces
    Piece : Expr → Literal → Pieces → Pieces

-- the number of expressions
abbrev pub count : Exprs → ℕ
count Nil = 0
count (Cons e es) = suc (count es)

-- a variable, and the expression that gives its value
pub record Assignment : Type 0 where
  pub eager : Bool
  pub export : Bool
  pub name : Token
  pub number : ℕ
  pub private : Bool
  pub value : Expr

-- a function defined in the file; each parameter is a name and its number
pub record Function : Type 0 where
  pub body : Expr
  pub name : Token
  pub parameters : List (Token × ℕ)

pub data Attribute : Type 0 where
  Env : Expr → Expr → Attribute
  Other : Attribute

-- a command and its first arguments
pub record Interpreter (A : Type 0) : Type 0 where
  pub arguments : List A
  pub command : A

-- a setting and its value
pub data Setting : Type 0 where
  AllowDuplicateRecipes : Bool → Setting
  AllowDuplicateVariables : Bool → Setting
  DefaultList : Bool → Setting
  DefaultScript : Bool → Setting
  DotenvCommand : Expr → Setting
  DotenvFilename : Expr → Setting
  DotenvLoad : Bool → Setting
  DotenvOverride : Bool → Setting
  DotenvPath : Expr → Setting
  DotenvRequired : Bool → Setting
  Export : Bool → Setting
  Fallback : Bool → Setting
  Guards : Bool → Setting
  IgnoreComments : Bool → Setting
  Indentation : Token → declared.Indentation → Setting
  Lazy : Bool → Setting
  Lists : Bool → Setting
  MinimumVersion : Literal → Setting
  NoCd : Bool → Setting
  NoExitMessage : Bool → Setting
  PositionalArguments : Bool → Setting
  Quiet : Bool → Setting
  ScriptInterpreter : Interpreter Expr → Setting
  Shell : Interpreter Expr → Setting
  Tempdir : Expr → Setting
  Unstable : Bool → Setting
  WindowsPowerShell : Bool → Setting
  WindowsShell : Interpreter Expr → Setting
  WorkingDirectory : Expr → Setting

-- a `set` statement: a setting by its name
pub record Set : Type 0 where
  pub name : Token
  pub value : Setting

-- a parameter of a recipe
pub record Parameter : Type 0 where
  pub default : Option Expr
  pub export : Bool
  pub flag : Bool
  pub kind : ParameterKind
  pub multiple : Bool
  pub name : Token
  pub number : ℕ
  pub value : Option Expr

-- a recipe: its attributes, each with the name that it was written under, and its name
pub record Recipe : Type 0 where
  pub attributes : List (Attribute × Token)
  pub name : Token

-- a fragment of a line: verbatim text, or an interpolation
pub data Fragment : Type 0 where
  TextFragment : Token → Fragment
  Interpolation : Expr → Fragment
