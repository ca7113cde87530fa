use Rattle.just_builtins.proofs.unary.unary_unasked.Goals as goal

pub returns-in_default : goal.returns-in_default
returns-in_default c =
    λ context. (
      (λ e. c.in_default.not-Capitalize (cc)),
      (
        (λ e. c.in_default.not-EncodeUriComponent (cc)),
        (
          (λ e. c.in_default.not-Error (cc)),
          (
            (λ e. c.in_default.not-Extension (cc)),
            (
              (λ e. c.in_default.not-FileName (cc)),
              (
                (λ e. c.in_default.not-FileStem (cc)),
                (
                  (λ e. c.in_default.not-Lowercase (cc)),
                  (
                    (λ e. c.in_default.not-ParentDirectory (cc)),
                    (
                      (λ e. c.in_default.not-Trim (cc)),
                      (
                        (λ e. c.in_default.not-TrimEnd (cc)),
                        (
                          (λ e. c.in_default.not-TrimStart (cc)),
                          ((λ e. c.in_default.not-Uppercase (cc)), ((λ e. c.in_default.not-WithoutExtension (cc)), tt)),
                        ),
                      ),
                    ),
                  ),
                ),
              ),
            ),
          ),
        ),
      ),
    )
