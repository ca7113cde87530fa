-- What the declared types are, and what an error says.
use Rattle.std.specs.Prelude.{◌≡◌, ℕ, map, Option, Some, None}
use Rattle.std.specs.Borrow.{Bor}
use Rattle.std.specs.BTreeMap.{BTreeMap, get_by}
use Rattle.std.specs.Cmp.Lexicographic.{slice_cmp}
use Rattle.std.specs.Ordering.{nat_cmp}
use Rattle.just_syntax.specs.Plain.{Text, Token}
use Rattle.just_syntax.specs.View.{name_view, set_view}
use Rattle.just_host.specs.View.{justfile_view}
use Rattle.just_parser.specs.View.{recipe_definition_view}
use Rattle.just_analyzer.specs.Analysis as plain
use Rattle.just_analyzer.specs.Outcome.{Analyzed, Faulty}
use Rattle.just_analyzer.specs.declared.added.Allowed.{Allowed}
use Rattle.just_analyzer.specs.declared.alias.Alias.{Alias}
use Rattle.just_analyzer.specs.declared.analysis.Analysis.{Analysis}
use Rattle.just_analyzer.specs.declared.analysis_error.AnalysisError.{AnalysisError}
use Rattle.just_analyzer.specs.declared.analysis_error.AnalysisError.TheVariants.{Fault, OutOfMemory}

abbrev pub alias_view : Alias → plain.Alias
alias_view alias = record { name = name_view alias.name; target = name_view alias.target }

abbrev pub analysis_view : Analysis → plain.Analysis
analysis_view a = record {
  aliases = map alias_view a.aliases;
  justfile = justfile_view a.justfile;
  recipes = map recipe_definition_view a.recipes;
  sets = map set_view a.sets;
}

abbrev pub allowed_view : Allowed → plain.Allowed
allowed_view allowed = record { recipes = allowed.recipes; variables = allowed.variables }

-- the token of an error, if it has one
abbrev pub analysis_error_token : AnalysisError → Option Token
analysis_error_token (Fault kind name) = Some (name_view name)
analysis_error_token OutOfMemory = None

-- an item does not fit, by its name; of `OutOfMemory` nothing is said
abbrev pub IsAnalysisFault : {A : Type 0} → Analyzed A → AnalysisError → Type 0
IsAnalysisFault outcome (Fault kind name) = outcome ≡ Faulty kind (name_view name)
IsAnalysisFault outcome OutOfMemory = Unit {0}

-- the place of a name
abbrev pub place_in : BTreeMap (Bor Text) ℕ → Text → Option ℕ
place_in places name = get_by (λ k. slice_cmp nat_cmp name k.now) places
