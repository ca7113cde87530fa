-- How analysis goes on.
use Rattle.just_syntax.specs.Plain.{Token}
use Rattle.just_analyzer.specs.declared.analysis_error.Fault.{Fault}

-- with this; or not, since an item does not fit, by its name
pub data Analyzed (A : Type 0) : Type 0 where
  Grown : A → Analyzed A
  Faulty : Fault → Token → Analyzed A

-- what follows something
abbrev pub after_analyzed : {A B : Type 0} → Analyzed A → (A → Analyzed B) → Analyzed B
after_analyzed (Grown a) more = more a
after_analyzed (Faulty fault name) more = Faulty fault name
