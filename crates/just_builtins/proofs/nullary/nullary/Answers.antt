use Rattle.std.proofs.Common.{[]}
use Rattle.just_builtins.specs.Prelude.{Nullary, function_context_view, unasked_nullary}
use Rattle.just_builtins.specs.declared.builtin.Builtin.TheVariants.{Arch, CacheDirectory, ConfigDirectory, ConfigLocalDirectory, DataDirectory}
use Rattle.just_builtins.specs.declared.builtin.Builtin.TheVariants.{DataLocalDirectory, ExecutableDirectory, HomeDirectory, JustExecutable, JustPid, NumCpus}
use Rattle.just_builtins.specs.declared.builtin.Builtin.TheVariants.{Os, OsFamily, RuntimeDirectory}
use Rattle.just_builtins.proofs.Calls.{of_builtin, unasked_among}
use Rattle.just_builtins.proofs.Unnamed.{unnamed}
use Rattle.just_builtins.proofs.nullary.nullary.Goals as goal

pub returns-in-Arch : goal.returns-in-Arch
returns-in-Arch g c =
    λ shown. of_builtin (Nullary c.args.builtin) _ Arch (function_context_view c.args.context.now) [] shown _ c.in-Arch.is (c.system.ensures shown)

pub returns-in-CacheDirectory : goal.returns-in-CacheDirectory
returns-in-CacheDirectory g c = λ shown. of_builtin (Nullary c.args.builtin) _ CacheDirectory (function_context_view c.args.context.now) [] shown _
    c.in-CacheDirectory.is (c.directory.ensures shown)

pub returns-in-ConfigDirectory : goal.returns-in-ConfigDirectory
returns-in-ConfigDirectory g c = λ shown. of_builtin (Nullary c.args.builtin) _ ConfigDirectory (function_context_view c.args.context.now) [] shown _
    c.in-ConfigDirectory.is (c.directory-in-ConfigDirectory.ensures shown)

pub returns-in-ConfigLocalDirectory : goal.returns-in-ConfigLocalDirectory
returns-in-ConfigLocalDirectory g c = λ shown. of_builtin (Nullary c.args.builtin) _ ConfigLocalDirectory (function_context_view c.args.context.now) [] shown _
    c.in-ConfigLocalDirectory.is (c.directory-in-ConfigLocalDirectory.ensures shown)

pub returns-in-DataDirectory : goal.returns-in-DataDirectory
returns-in-DataDirectory g c = λ shown. of_builtin (Nullary c.args.builtin) _ DataDirectory (function_context_view c.args.context.now) [] shown _
    c.in-DataDirectory.is (c.directory-in-DataDirectory.ensures shown)

pub returns-in-DataLocalDirectory : goal.returns-in-DataLocalDirectory
returns-in-DataLocalDirectory g c = λ shown. of_builtin (Nullary c.args.builtin) _ DataLocalDirectory (function_context_view c.args.context.now) [] shown _
    c.in-DataLocalDirectory.is (c.directory-in-DataLocalDirectory.ensures shown)

pub returns-in-ExecutableDirectory : goal.returns-in-ExecutableDirectory
returns-in-ExecutableDirectory g c = λ shown. of_builtin (Nullary c.args.builtin) _ ExecutableDirectory (function_context_view c.args.context.now) [] shown _
    c.in-ExecutableDirectory.is (c.directory-in-ExecutableDirectory.ensures shown)

pub returns-in-HomeDirectory : goal.returns-in-HomeDirectory
returns-in-HomeDirectory g c = λ shown. of_builtin (Nullary c.args.builtin) _ HomeDirectory (function_context_view c.args.context.now) [] shown _
    c.in-HomeDirectory.is (c.directory-in-HomeDirectory.ensures shown)

pub returns-in-JustExecutable : goal.returns-in-JustExecutable
returns-in-JustExecutable g c = λ shown. of_builtin (Nullary c.args.builtin) _ JustExecutable (function_context_view c.args.context.now) [] shown _
    c.in-JustExecutable.is (c.executable.ensures shown)

pub returns-in-JustPid : goal.returns-in-JustPid
returns-in-JustPid g c =
    λ shown. of_builtin (Nullary c.args.builtin) _ JustPid (function_context_view c.args.context.now) [] shown _ c.in-JustPid.is (c.number.ensures shown)

pub returns-in-NumCpus : goal.returns-in-NumCpus
returns-in-NumCpus g c = λ shown. of_builtin (Nullary c.args.builtin) _ NumCpus (function_context_view c.args.context.now) [] shown _ c.in-NumCpus.is
    (c.number-in-NumCpus.ensures shown)

pub returns-in-Os : goal.returns-in-Os
returns-in-Os g c =
    λ shown. of_builtin (Nullary c.args.builtin) _ Os (function_context_view c.args.context.now) [] shown _ c.in-Os.is (c.system-in-Os.ensures shown)

pub returns-in-OsFamily : goal.returns-in-OsFamily
returns-in-OsFamily g c = λ shown. of_builtin (Nullary c.args.builtin) _ OsFamily (function_context_view c.args.context.now) [] shown _ c.in-OsFamily.is
    (c.system-in-OsFamily.ensures shown)

pub returns-in-RuntimeDirectory : goal.returns-in-RuntimeDirectory
returns-in-RuntimeDirectory g c = λ shown. of_builtin (Nullary c.args.builtin) _ RuntimeDirectory (function_context_view c.args.context.now) [] shown _
    c.in-RuntimeDirectory.is (c.directory-in-RuntimeDirectory.ensures shown)

pub returns-in_default : goal.returns-in_default
returns-in_default g c = λ shown.
    unasked_among (Nullary c.args.builtin) unasked_nullary c.args.builtin shown _ _ c.nullary_unasked.ensures
    (λ none. unnamed (Nullary c.args.builtin) (
      (λ e. c.in_default.not-Arch (cc)),
      (
        (λ e. c.in_default.not-CacheDirectory (cc)),
        (
          (λ e. c.in_default.not-ConfigDirectory (cc)),
          (
            (λ e. c.in_default.not-ConfigLocalDirectory (cc)),
            (
              (λ e. c.in_default.not-DataDirectory (cc)),
              (
                (λ e. c.in_default.not-DataLocalDirectory (cc)),
                (
                  (λ e. c.in_default.not-ExecutableDirectory (cc)),
                  (
                    (λ e. c.in_default.not-HomeDirectory (cc)),
                    (
                      (λ e. none.0 (cc)),
                      (
                        (λ e. none.1.0 (cc)),
                        (
                          (λ e. c.in_default.not-JustExecutable (cc)),
                          (
                            (λ e. c.in_default.not-JustPid (cc)),
                            (
                              (λ e. none.1.1.0 (cc)),
                              (
                                (λ e. none.1.1.1.0 (cc)),
                                (
                                  (λ e. none.1.1.1.1.0 (cc)),
                                  (
                                    (λ e. none.1.1.1.1.1.0 (cc)),
                                    (
                                      (λ e. none.1.1.1.1.1.1.0 (cc)),
                                      (
                                        (λ e. none.1.1.1.1.1.1.1.0 (cc)),
                                        (
                                          (λ e. c.in_default.not-NumCpus (cc)),
                                          (
                                            (λ e. c.in_default.not-Os (cc)),
                                            (
                                              (λ e. c.in_default.not-OsFamily (cc)),
                                              (
                                                (λ e. none.1.1.1.1.1.1.1.1.0 (cc)),
                                                (
                                                  (λ e. c.in_default.not-RuntimeDirectory (cc)),
                                                  ((λ e. none.1.1.1.1.1.1.1.1.1.0 (cc)), ((λ e. none.1.1.1.1.1.1.1.1.1.1.0 (cc)), tt)),
                                                ),
                                              ),
                                            ),
                                          ),
                                        ),
                                      ),
                                    ),
                                  ),
                                ),
                              ),
                            ),
                          ),
                        ),
                      ),
                    ),
                  ),
                ),
              ),
            ),
          ),
        ),
      ),
    ))
