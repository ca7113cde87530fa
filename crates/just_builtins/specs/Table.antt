-- The table of built-in functions: the name, the shape and the tag of each.
use Rattle.std.specs.Prelude.{◌≢◌, ℕ, ◌++◌, ◌-◌, List, [], ◌∷◌, Bool as Truth, Option, Some, length, take}
use Rattle.std.specs.Prelude.{if◌then◌else◌, codes, nat_eq, bytes_eq, find, option_map}
use Rattle.std.specs.List.{ends_with, list_any}
use Rattle.just_syntax.specs.Plain.{Text}
use Rattle.just_builtins.specs.declared.function.Function.{Function}
use Rattle.just_builtins.specs.declared.function.Function.TheVariants.{Binary, BinaryOptToValue}
use Rattle.just_builtins.specs.declared.function.Function.TheVariants.{BinaryOptValueStrToValue, BinaryPlus}
use Rattle.just_builtins.specs.declared.function.Function.TheVariants.{BinaryStrValue, Nullary, Ternary, Unary}
use Rattle.just_builtins.specs.declared.function.Function.TheVariants.{UnaryMap, UnaryPlus, UnaryToValue, ValueBinary}
use Rattle.just_builtins.specs.declared.function.Function.TheVariants.{ValueBinaryOpt, ValueNullary, ValueUnary}
use Rattle.just_builtins.specs.declared.builtin.Builtin.TheVariants.{Append, Arch, Bool, CacheDirectory, Canonicalize}
use Rattle.just_builtins.specs.declared.builtin.Builtin.TheVariants.{Capitalize, ConfigDirectory, ConfigLocalDirectory}
use Rattle.just_builtins.specs.declared.builtin.Builtin.TheVariants.{DataDirectory, DataLocalDirectory}
use Rattle.just_builtins.specs.declared.builtin.Builtin.TheVariants.{EncodeUriComponent, Env, EnvVar, EnvVarOrDefault}
use Rattle.just_builtins.specs.declared.builtin.Builtin.TheVariants.{Error, ExecutableDirectory, Extension, FileName}
use Rattle.just_builtins.specs.declared.builtin.Builtin.TheVariants.{FileStem, HomeDirectory, InvocationDirectory}
use Rattle.just_builtins.specs.declared.builtin.Builtin.TheVariants.{InvocationDirectoryNative, IsDependency, Join}
use Rattle.just_builtins.specs.declared.builtin.Builtin.TheVariants.{JoinList, JustExecutable, JustPid, JustVersion}
use Rattle.just_builtins.specs.declared.builtin.Builtin.TheVariants.{Justfile, JustfileDirectory, Len, Lowercase}
use Rattle.just_builtins.specs.declared.builtin.Builtin.TheVariants.{ModuleDirectory, ModuleFile, ModulePath, NumCpus}
use Rattle.just_builtins.specs.declared.builtin.Builtin.TheVariants.{NumJobs, Os, OsFamily, ParentDirectory, PathExists}
use Rattle.just_builtins.specs.declared.builtin.Builtin.TheVariants.{Prepend, Quote, Read, RecipeName, Replace, Require}
use Rattle.just_builtins.specs.declared.builtin.Builtin.TheVariants.{RuntimeDirectory, Shell, Show, SourceDirectory}
use Rattle.just_builtins.specs.declared.builtin.Builtin.TheVariants.{SourceFile, Split, Trim, TrimEnd, TrimEndMatch}
use Rattle.just_builtins.specs.declared.builtin.Builtin.TheVariants.{TrimEndMatches, TrimStart, TrimStartMatch}
use Rattle.just_builtins.specs.declared.builtin.Builtin.TheVariants.{TrimStartMatches, Uppercase, Which}
use Rattle.just_builtins.specs.declared.builtin.Builtin.TheVariants.{WithoutExtension}

abbrev pub table : List (Text × Function)
table =
    (codes "append", BinaryStrValue Append)
    ∷ (codes "arch", Nullary Arch)
    ∷ (codes "bool", ValueUnary Bool)
    ∷ (codes "cache_directory", Nullary CacheDirectory)
    ∷ (codes "canonicalize", Unary Canonicalize)
    ∷ (codes "capitalize", Unary Capitalize)
    ∷ (codes "config_directory", Nullary ConfigDirectory)
    ∷ (codes "config_local_directory", Nullary ConfigLocalDirectory)
    ∷ (codes "data_directory", Nullary DataDirectory)
    ∷ (codes "data_local_directory", Nullary DataLocalDirectory)
    ∷ (codes "encode_uri_component", Unary EncodeUriComponent)
    ∷ (codes "env", ValueBinaryOpt Env)
    ∷ (codes "env_var", ValueUnary EnvVar)
    ∷ (codes "env_var_or_default", ValueBinary EnvVarOrDefault)
    ∷ (codes "error", Unary Error)
    ∷ (codes "executable_directory", Nullary ExecutableDirectory)
    ∷ (codes "extension", Unary Extension)
    ∷ (codes "file_name", Unary FileName)
    ∷ (codes "file_stem", Unary FileStem)
    ∷ (codes "home_directory", Nullary HomeDirectory)
    ∷ (codes "invocation_directory", Nullary InvocationDirectory)
    ∷ (codes "invocation_directory_native", Nullary InvocationDirectoryNative)
    ∷ (codes "is_dependency", ValueNullary IsDependency)
    ∷ (codes "join", BinaryPlus Join)
    ∷ (codes "join_list", BinaryOptValueStrToValue JoinList)
    ∷ (codes "just_executable", Nullary JustExecutable)
    ∷ (codes "just_pid", Nullary JustPid)
    ∷ (codes "just_version", Nullary JustVersion)
    ∷ (codes "justfile", Nullary Justfile)
    ∷ (codes "justfile_directory", Nullary JustfileDirectory)
    ∷ (codes "len", ValueUnary Len)
    ∷ (codes "lowercase", Unary Lowercase)
    ∷ (codes "module_directory", Nullary ModuleDirectory)
    ∷ (codes "module_file", Nullary ModuleFile)
    ∷ (codes "module_path", Nullary ModulePath)
    ∷ (codes "num_cpus", Nullary NumCpus)
    ∷ (codes "num_jobs", ValueNullary NumJobs)
    ∷ (codes "os", Nullary Os)
    ∷ (codes "os_family", Nullary OsFamily)
    ∷ (codes "parent_directory", Unary ParentDirectory)
    ∷ (codes "path_exists", UnaryToValue PathExists)
    ∷ (codes "prepend", BinaryStrValue Prepend)
    ∷ (codes "quote", UnaryMap Quote)
    ∷ (codes "read", Unary Read)
    ∷ (codes "recipe_name", Nullary RecipeName)
    ∷ (codes "replace", Ternary Replace)
    ∷ (codes "require", Unary Require)
    ∷ (codes "runtime_directory", Nullary RuntimeDirectory)
    ∷ (codes "shell", UnaryPlus Shell)
    ∷ (codes "show", ValueUnary Show)
    ∷ (codes "source_directory", Nullary SourceDirectory)
    ∷ (codes "source_file", Nullary SourceFile)
    ∷ (codes "split", BinaryOptToValue Split)
    ∷ (codes "trim", Unary Trim)
    ∷ (codes "trim_end", Unary TrimEnd)
    ∷ (codes "trim_end_match", Binary TrimEndMatch)
    ∷ (codes "trim_end_matches", Binary TrimEndMatches)
    ∷ (codes "trim_start", Unary TrimStart)
    ∷ (codes "trim_start_match", Binary TrimStartMatch)
    ∷ (codes "trim_start_matches", Binary TrimStartMatches)
    ∷ (codes "uppercase", Unary Uppercase)
    ∷ (codes "which", UnaryToValue Which)
    ∷ (codes "without_extension", Unary WithoutExtension)
    ∷ []

-- the names of the functions that are left out
abbrev pub left_out : List Text
left_out =
    codes "absolute_path"
    ∷ codes "blake3"
    ∷ codes "blake3_file"
    ∷ codes "choose"
    ∷ codes "clean"
    ∷ codes "datetime"
    ∷ codes "datetime_utc"
    ∷ codes "kebabcase"
    ∷ codes "lowercamelcase"
    ∷ codes "replace_regex"
    ∷ codes "semver_matches"
    ∷ codes "sha256"
    ∷ codes "sha256_file"
    ∷ codes "shoutykebabcase"
    ∷ codes "shoutysnakecase"
    ∷ codes "snakecase"
    ∷ codes "style"
    ∷ codes "titlecase"
    ∷ codes "uppercamelcase"
    ∷ codes "uuid"
    ∷ []

-- the text without its last n bytes
abbrev pub without_last : Text → ℕ → Text
without_last name n = take (length name - n) name

-- the long form of a name: `_dir` at its end is short for `_directory`, and `_dir_native` for `_directory_native`
abbrev pub whole_name : Text → Text
whole_name name =
    if ends_with nat_eq name (codes "_dir") then without_last name 4 ++ codes "_directory"
    else (if ends_with nat_eq name (codes "_dir_native") then without_last name 11 ++ codes "_directory_native"
    else name)

-- the first entry for a name
abbrev pub find_in : List (Text × Function) → Text → Option Function
find_in entries name = option_map (λ entry. entry.1) (find (λ entry. bytes_eq entry.0 name) entries)

-- whether a name is one of these
abbrev pub is_among : List Text → Text → Truth
is_among names name = list_any (λ other. bytes_eq other name) names

-- the function with this name
unfoldable pub function_named : Text → Option Function
function_named name = find_in table (whole_name name)

-- whether a name is that of a function that is left out
unfoldable pub is_left_out : Text → Truth
is_left_out name = is_among left_out (whole_name name)

-- no name gives the function
abbrev pub IsUnnamed : Function → Type 0
IsUnnamed f = (name : Text) → function_named name ≢ Some f
