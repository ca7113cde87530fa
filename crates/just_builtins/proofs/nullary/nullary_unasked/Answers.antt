use Rattle.just_builtins.proofs.nullary.nullary_unasked.Goals as goal

pub returns-in_default : goal.returns-in_default
returns-in_default c = (
  (λ e. c.in_default.not-InvocationDirectory (cc)),
  (
    (λ e. c.in_default.not-InvocationDirectoryNative (cc)),
    (
      (λ e. c.in_default.not-JustVersion (cc)),
      (
        (λ e. c.in_default.not-Justfile (cc)),
        (
          (λ e. c.in_default.not-JustfileDirectory (cc)),
          (
            (λ e. c.in_default.not-ModuleDirectory (cc)),
            (
              (λ e. c.in_default.not-ModuleFile (cc)),
              (
                (λ e. c.in_default.not-ModulePath (cc)),
                ((λ e. c.in_default.not-RecipeName (cc)), ((λ e. c.in_default.not-SourceDirectory (cc)), ((λ e. c.in_default.not-SourceFile (cc)), tt))),
              ),
            ),
          ),
        ),
      ),
    ),
  ),
)
