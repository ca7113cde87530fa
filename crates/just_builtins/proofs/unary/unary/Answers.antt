use Rattle.std.proofs.Common.{[], ◌∷◌}
use Rattle.just_builtins.specs.Prelude.{Unary, function_context_view, unasked_unary}
use Rattle.just_builtins.specs.declared.builtin.Builtin.TheVariants.{Canonicalize, Read, Require}
use Rattle.just_builtins.proofs.Calls.{of_builtin, unasked_among}
use Rattle.just_builtins.proofs.Unnamed.{unnamed}
use Rattle.just_builtins.proofs.unary.unary.Goals as goal

pub returns-in-Canonicalize : goal.returns-in-Canonicalize
returns-in-Canonicalize g c = λ shown. of_builtin (Unary c.args.builtin) _ Canonicalize (function_context_view c.args.context.now) ((c.args.text.now ∷ []) ∷ [])
    shown _ c.in-Canonicalize.is (c.canonicalize.ensures shown)

pub returns-in-Read : goal.returns-in-Read
returns-in-Read g c = λ shown. of_builtin (Unary c.args.builtin) _ Read (function_context_view c.args.context.now) ((c.args.text.now ∷ []) ∷ []) shown _
    c.in-Read.is (c.read.ensures shown)

pub returns-in-Require : goal.returns-in-Require
returns-in-Require g c = λ shown. of_builtin (Unary c.args.builtin) _ Require (function_context_view c.args.context.now) ((c.args.text.now ∷ []) ∷ []) shown _
    c.in-Require.is (c.require.ensures shown)

pub returns-in_default : goal.returns-in_default
returns-in_default g c = λ shown.
    unasked_among (Unary c.args.builtin) unasked_unary c.args.builtin shown _ _ (c.unary_unasked.ensures (function_context_view c.args.context.now))
    (λ none. unnamed (Unary c.args.builtin) (
      (λ e. c.in_default.not-Canonicalize (cc)),
      (
        (λ e. none.0 (cc)),
        (
          (λ e. none.1.0 (cc)),
          (
            (λ e. none.1.1.0 (cc)),
            (
              (λ e. none.1.1.1.0 (cc)),
              (
                (λ e. none.1.1.1.1.0 (cc)),
                (
                  (λ e. none.1.1.1.1.1.0 (cc)),
                  (
                    (λ e. none.1.1.1.1.1.1.0 (cc)),
                    (
                      (λ e. none.1.1.1.1.1.1.1.0 (cc)),
                      (
                        (λ e. c.in_default.not-Read (cc)),
                        (
                          (λ e. c.in_default.not-Require (cc)),
                          (
                            (λ e. none.1.1.1.1.1.1.1.1.0 (cc)),
                            (
                              (λ e. none.1.1.1.1.1.1.1.1.1.0 (cc)),
                              (
                                (λ e. none.1.1.1.1.1.1.1.1.1.1.0 (cc)),
                                ((λ e. none.1.1.1.1.1.1.1.1.1.1.1.0 (cc)), ((λ e. none.1.1.1.1.1.1.1.1.1.1.1.1.0 (cc)), tt)),
                              ),
                            ),
                          ),
                        ),
                      ),
                    ),
                  ),
                ),
              ),
            ),
          ),
        ),
      ),
    ))
