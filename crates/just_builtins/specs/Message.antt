-- Messages of built-in functions that return no value.
use Rattle.std.specs.Prelude.{◌++◌, List, [], ◌∷◌, codes, map}
use Rattle.just_syntax.specs.Enclosure.{ticked}
use Rattle.just_syntax.specs.Plain.{Text}
use Rattle.just_value.specs.Listed.{listed}

abbrev pub not_extracted : Text → Text → Text
not_extracted part path = codes "could not extract " ++ (part ++ (codes " from `" ++ (path ++ codes "`")))

abbrev pub no_parent : Text → Text
no_parent path = codes "path `" ++ (path ++ codes "` has no parent")

abbrev pub no_justfile_directory : Text → Text
no_justfile_directory path =
    codes "could not resolve justfile directory, justfile `" ++ (path ++ codes "` had no parent")

abbrev pub not_boolean : Text → Text
not_boolean text = codes "`" ++ (text ++ codes "` is not a valid boolean string")

abbrev pub many_for_boolean : Text
many_for_boolean = codes "multi-element lists cannot be converted into booleans"

abbrev pub past_ascii : Text → Text
past_ascii text = codes "`" ++ (text ++ codes "` holds characters past ASCII")

abbrev pub outside_recipe : Text
outside_recipe = codes "`recipe_name()` can only be used within a recipe"

-- the message for something that a host does not find
abbrev pub not_found : Text
not_found = codes "not found"

abbrev pub unanswered : Text → Text
unanswered name = codes "`" ++ (name ++ codes "` has no answer")

abbrev pub no_directory : Text → Text
no_directory word = word ++ codes " directory not found"

abbrev pub directory_not_unicode : Text → Text → Text
directory_not_unicode word text = codes "unable to convert " ++ (word ++ (codes " directory path to string: " ++ text))

abbrev pub directory_unreadable : Text → Text → Text
directory_unreadable word text = word ++ (codes " directory cannot be read: " ++ text)

abbrev pub not_canonicalized : Text → Text → Text
not_canonicalized path text = codes "I/O error canonicalizing `" ++ (path ++ (codes "`: " ++ text))

abbrev pub canonical_not_unicode : Text → Text
canonical_not_unicode text = codes "canonical path is not valid unicode: " ++ text

abbrev pub not_read : Text → Text → Text
not_read path text = codes "I/O error reading `" ++ (path ++ (codes "`: " ++ text))

abbrev pub no_executable : Text → Text
no_executable name = codes "could not find executable `" ++ (name ++ codes "`")

abbrev pub executable_unknown : Text → Text
executable_unknown text = codes "error getting current executable: " ++ text

abbrev pub executable_not_unicode : Text → Text
executable_not_unicode text = codes "executable path is not valid unicode: " ++ text

abbrev pub variable_not_unicode : Text → Text → Text
variable_not_unicode key text =
    codes "environment variable `" ++ (key ++ (codes "` is not unicode: `" ++ (text ++ codes "`")))

abbrev pub variable_unreadable : Text → Text → Text
variable_unreadable key text = codes "environment variable `" ++ (key ++ (codes "` cannot be read: " ++ text))

-- none of these variables is set
abbrev pub no_variable : List Text → Text
no_variable [] = codes "empty environment variable list with no default"
no_variable (key ∷ []) = codes "environment variable `" ++ (key ++ codes "` not present")
no_variable keys = codes "environment variables " ++ (listed (codes "and") (map ticked keys) ++ codes " not present")
