use Rattle.just_builtins.proofs.unary.value_unary_unasked.Goals as goal

pub returns-in_default : goal.returns-in_default
returns-in_default c =
    ((λ e. c.in_default.not-Bool (cc)), ((λ e. c.in_default.not-Len (cc)), ((λ e. c.in_default.not-Show (cc)), tt)))
