-- Laws of the grammar of a justfile.
use Rattle.std.specs.Prelude.{ℕ, suc, ◌≡◌, List, ◌++◌, take}
use Rattle.just_expression_parser.specs.Tokens.{Tokens}
use Rattle.just_parser.specs.Items.{items}
use Rattle.just_parser.specs.Phrase.{Read, Refused}
use Rattle.just_parser.specs.Plain.{Item}
use Rattle.just_parser.specs.declared.parse_error.Fault.{Fault}
use Rattle.just_parser.specs.declared.parse_error.Fault.TheVariants.{ExpectedCommand, ExtraneousAttributes}
use Rattle.just_parser.specs.declared.parse_error.Fault.TheVariants.{UnknownSetting, Unsupported}

-- How many tokens after the refused one decide that it is refused. That a list has no element, its second token tells,
-- as in `set shell := []`; how an item begins, its first three tokens tell, as in `set nope := 'x'` and `mod name`.
abbrev pub lookahead : Fault → ℕ
lookahead ExpectedCommand = 1
lookahead UnknownSetting = 1
lookahead ExtraneousAttributes = 2
lookahead Unsupported = 2
lookahead _ = 0

-- no items are read from these tokens
abbrev pub HasNoItems : Tokens → Type 0
HasNoItems ts = (all : List Item) (rest : Tokens) → items ts ≡ Read all rest → ⊥

-- From tokens that begin like these, up to the refused one and those that decide its refusal, no items are read.
abbrev pub RefusesEarly : Type 0
RefusesEarly = (ts at : Tokens) (fault : Fault) → items ts ≡ Refused fault at
    → (front : Tokens) × (ts ≡ front ++ at)
    × ((others : Tokens) → take (suc (lookahead fault)) others ≡ take (suc (lookahead fault)) at
    → HasNoItems (front ++ others))
