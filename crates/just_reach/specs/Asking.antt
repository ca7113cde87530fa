-- Which members may ask the host a question, and which may have it run a command.
use Rattle.std.specs.Prelude.{Bool, true, false}
use Rattle.just_host.specs.Question.{Blind, CommandOf}
use Rattle.just_builtins.specs.Shape.{builtin_of}
use Rattle.just_builtins.specs.declared.builtin.Builtin.{Builtin}
use Rattle.just_builtins.specs.declared.builtin.Builtin.TheVariants.{Arch, CacheDirectory, Canonicalize}
use Rattle.just_builtins.specs.declared.builtin.Builtin.TheVariants.{ConfigDirectory, ConfigLocalDirectory}
use Rattle.just_builtins.specs.declared.builtin.Builtin.TheVariants.{DataDirectory, DataLocalDirectory, Env, EnvVar}
use Rattle.just_builtins.specs.declared.builtin.Builtin.TheVariants.{EnvVarOrDefault, ExecutableDirectory}
use Rattle.just_builtins.specs.declared.builtin.Builtin.TheVariants.{HomeDirectory, JustExecutable, JustPid, NumCpus}
use Rattle.just_builtins.specs.declared.builtin.Builtin.TheVariants.{Os, OsFamily, PathExists, Read, Require}
use Rattle.just_builtins.specs.declared.builtin.Builtin.TheVariants.{RuntimeDirectory, Shell, Which}
use Rattle.just_reach.specs.Member.{PlainMember, BuiltIn, Command}

-- the built-in function asks the host, with some arguments
abbrev pub asks : Builtin → Bool
asks Arch = true
asks CacheDirectory = true
asks Canonicalize = true
asks ConfigDirectory = true
asks ConfigLocalDirectory = true
asks DataDirectory = true
asks DataLocalDirectory = true
asks Env = true
asks EnvVar = true
asks EnvVarOrDefault = true
asks ExecutableDirectory = true
asks HomeDirectory = true
asks JustExecutable = true
asks JustPid = true
asks NumCpus = true
asks Os = true
asks OsFamily = true
asks PathExists = true
asks Read = true
asks Require = true
asks RuntimeDirectory = true
asks Shell = true
asks Which = true
asks _ = false

-- it is `shell`
abbrev pub is_shell : Builtin → Bool
is_shell Shell = true
is_shell _ = false

-- it is a command, or a call of a built-in function that asks
abbrev pub may_ask : PlainMember → Bool
may_ask (BuiltIn t f) = asks (builtin_of f)
may_ask (Command t text) = true
may_ask _ = false

-- it is a command, or a call of `shell`
abbrev pub may_run_command : PlainMember → Bool
may_run_command (BuiltIn t f) = is_shell (builtin_of f)
may_run_command (Command t text) = true
may_run_command _ = false

-- the question is to run a command
abbrev pub IsCommand : Blind → Type 0
IsCommand (CommandOf c) = Unit {0}
IsCommand _ = ⊥
