-- The arguments of each shape.
use Rattle.std.specs.Prelude.{ℕ, Bool as Truth, true, false, ◌==◌, ◌^◌, ◌-◌, List, [], ◌∷◌}
use Rattle.just_builtins.specs.declared.builtin.Builtin.{Builtin}
use Rattle.just_builtins.specs.declared.builtin.Builtin.TheVariants.{Bool, Capitalize, EncodeUriComponent, Error}
use Rattle.just_builtins.specs.declared.builtin.Builtin.TheVariants.{Extension, FileName, FileStem, InvocationDirectory}
use Rattle.just_builtins.specs.declared.builtin.Builtin.TheVariants.{InvocationDirectoryNative, JustVersion, Justfile}
use Rattle.just_builtins.specs.declared.builtin.Builtin.TheVariants.{JustfileDirectory, Len, Lowercase, ModuleDirectory}
use Rattle.just_builtins.specs.declared.builtin.Builtin.TheVariants.{ModuleFile, ModulePath, ParentDirectory}
use Rattle.just_builtins.specs.declared.builtin.Builtin.TheVariants.{RecipeName, Show, SourceDirectory, SourceFile}
use Rattle.just_builtins.specs.declared.builtin.Builtin.TheVariants.{Trim, TrimEnd, TrimStart, Uppercase}
use Rattle.just_builtins.specs.declared.builtin.Builtin.TheVariants.{WithoutExtension}
use Rattle.just_builtins.specs.declared.function.Function.{Function}
use Rattle.just_builtins.specs.declared.function.Function.TheVariants.{Binary, BinaryOptToValue, BinaryOptValueStr}
use Rattle.just_builtins.specs.declared.function.Function.TheVariants.{BinaryOptValueStrToValue, BinaryPlus}
use Rattle.just_builtins.specs.declared.function.Function.TheVariants.{BinaryStrValue, BinaryToValue, Nullary, Ternary}
use Rattle.just_builtins.specs.declared.function.Function.TheVariants.{Unary, UnaryMap, UnaryPlus, UnaryToValue}
use Rattle.just_builtins.specs.declared.function.Function.TheVariants.{ValueBinary, ValueBinaryOpt, ValueNullary}
use Rattle.just_builtins.specs.declared.function.Function.TheVariants.{ValueUnary}

-- the least number of arguments of a call
abbrev pub fewest_arguments : Function → ℕ
fewest_arguments (Nullary b) = 0
fewest_arguments (Unary b) = 1
fewest_arguments (UnaryMap b) = 1
fewest_arguments (UnaryPlus b) = 1
fewest_arguments (UnaryToValue b) = 1
fewest_arguments (Binary b) = 2
fewest_arguments (BinaryOptToValue b) = 1
fewest_arguments (BinaryOptValueStr b) = 1
fewest_arguments (BinaryOptValueStrToValue b) = 1
fewest_arguments (BinaryPlus b) = 2
fewest_arguments (BinaryStrValue b) = 2
fewest_arguments (BinaryToValue b) = 2
fewest_arguments (Ternary b) = 3
fewest_arguments (ValueNullary b) = 0
fewest_arguments (ValueUnary b) = 1
fewest_arguments (ValueBinary b) = 2
fewest_arguments (ValueBinaryOpt b) = 1

-- the greatest number of arguments that can be counted
abbrev pub boundless : ℕ
boundless = 2 ^ 64 - 1

-- the greatest number of arguments of a call
abbrev pub most_arguments : Function → ℕ
most_arguments (Nullary b) = 0
most_arguments (Unary b) = 1
most_arguments (UnaryMap b) = 1
most_arguments (UnaryPlus b) = boundless
most_arguments (UnaryToValue b) = 1
most_arguments (Binary b) = 2
most_arguments (BinaryOptToValue b) = 2
most_arguments (BinaryOptValueStr b) = 2
most_arguments (BinaryOptValueStrToValue b) = 2
most_arguments (BinaryPlus b) = boundless
most_arguments (BinaryStrValue b) = 2
most_arguments (BinaryToValue b) = 2
most_arguments (Ternary b) = 3
most_arguments (ValueNullary b) = 0
most_arguments (ValueUnary b) = 1
most_arguments (ValueBinary b) = 2
most_arguments (ValueBinaryOpt b) = 2

-- whether the argument at a position is a text: one element
abbrev pub is_text : Function → ℕ → Truth
is_text (Nullary b) i = false
is_text (Unary b) i = i == 0
is_text (UnaryMap b) i = false
is_text (UnaryPlus b) i = true
is_text (UnaryToValue b) i = i == 0
is_text (Binary b) i = true
is_text (BinaryOptToValue b) i = true
is_text (BinaryOptValueStr b) i = i == 1
is_text (BinaryOptValueStrToValue b) i = i == 1
is_text (BinaryPlus b) i = true
is_text (BinaryStrValue b) i = i == 0
is_text (BinaryToValue b) i = true
is_text (Ternary b) i = true
is_text (ValueNullary b) i = false
is_text (ValueUnary b) i = false
is_text (ValueBinary b) i = false
is_text (ValueBinaryOpt b) i = false

-- the built-in function of a shape
abbrev pub builtin_of : Function → Builtin
builtin_of (Nullary b) = b
builtin_of (Unary b) = b
builtin_of (UnaryMap b) = b
builtin_of (UnaryPlus b) = b
builtin_of (UnaryToValue b) = b
builtin_of (Binary b) = b
builtin_of (BinaryOptToValue b) = b
builtin_of (BinaryOptValueStr b) = b
builtin_of (BinaryOptValueStrToValue b) = b
builtin_of (BinaryPlus b) = b
builtin_of (BinaryStrValue b) = b
builtin_of (BinaryToValue b) = b
builtin_of (Ternary b) = b
builtin_of (ValueNullary b) = b
builtin_of (ValueUnary b) = b
builtin_of (ValueBinary b) = b
builtin_of (ValueBinaryOpt b) = b

-- ---- built-in functions that ask nothing, of shapes with others that ask

abbrev pub unasked_nullary : List Builtin
unasked_nullary =
    InvocationDirectory
    ∷ InvocationDirectoryNative
    ∷ JustVersion
    ∷ Justfile
    ∷ JustfileDirectory
    ∷ ModuleDirectory
    ∷ ModuleFile
    ∷ ModulePath
    ∷ RecipeName
    ∷ SourceDirectory
    ∷ SourceFile
    ∷ []

abbrev pub unasked_unary : List Builtin
unasked_unary =
    Capitalize
    ∷ EncodeUriComponent
    ∷ Error
    ∷ Extension
    ∷ FileName
    ∷ FileStem
    ∷ Lowercase
    ∷ ParentDirectory
    ∷ Trim
    ∷ TrimEnd
    ∷ TrimStart
    ∷ Uppercase
    ∷ WithoutExtension
    ∷ []

abbrev pub unasked_value_unary : List Builtin
unasked_value_unary = Bool ∷ Len ∷ Show ∷ []
