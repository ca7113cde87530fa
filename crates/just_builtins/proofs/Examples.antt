-- The table applied to literal names.
use Rattle.std.proofs.Common.{◌≡◌, Some, None, true, codes, refl}
use Rattle.just_builtins.specs.declared.builtin.Builtin.TheVariants.{JustfileDirectory, InvocationDirectoryNative}
use Rattle.just_builtins.specs.Prelude.{Nullary, function_named, is_left_out}

short : function_named (codes "justfile_dir") ≡ Some (Nullary JustfileDirectory)
unfolding function_named
short = refl

native : function_named (codes "invocation_dir_native") ≡ Some (Nullary InvocationDirectoryNative)
unfolding function_named
native = refl

other : function_named (codes "foo_dir") ≡ None
unfolding function_named
other = refl

hashed : function_named (codes "sha256") ≡ None
unfolding function_named
hashed = refl

left : is_left_out (codes "sha256") ≡ true
unfolding is_left_out
left = refl
