-- What the trees of a language are about.

-- The questions that it asks, their answers, what it notes, the values that it has checked and what for, the verdicts
-- of these checks, and the refusals that it ends with.
pub record Signature : Type 1 where
  pub Question : Type 0
  pub Answer : Type 0
  pub Note : Type 0
  pub Subject : Type 0
  pub Value : Type 0
  pub Verdict : Type 0
  pub Refusal : Type 0
