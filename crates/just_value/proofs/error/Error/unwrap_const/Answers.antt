use Rattle.std.proofs.Common.{inl, inr, ap}
use Rattle.just_value.specs.Prelude.{refusal}
use Rattle.just_value.proofs.error.Error.unwrap_const.Goals as goal

-- the omitted arms are refusals that constant evaluation does not have
pub unreachable-requires : goal.unreachable-requires
unreachable-requires c =
    elim c.in-Backtick.is [
      | inl e ↦ c.requires.constant _ (ap refusal e.2)
      | inr others ↦ elim others [
        | inl e ↦ c.requires.constant _ (ap refusal e.2)
        | inr others ↦ elim others [
          | inl e ↦ c.requires.constant _ (ap refusal e.2)
          | inr others ↦ elim others [
            | inl e ↦ c.requires.constant _ (ap refusal e.2)
            | inr others ↦ elim others [
              | inl e ↦ c.requires.constant _ (ap refusal e.1)
              | inr e ↦ c.requires.constant _ (ap refusal e.1)
            ]
          ]
        ]
      ]
    ]
