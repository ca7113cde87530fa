-- A text without the indentation that its lines share.
use Rattle.std.specs.Prelude.{ℕ, Bool, true, false, ◌==◌, ◌||◌, ◌++◌, List, [], ◌∷◌, length, take, drop, Option, Some}
use Rattle.std.specs.Prelude.{None, codes, if◌then◌else◌}
use Rattle.std.specs.List.{common_prefix_len, list_all, onto_first, take_while}
use Rattle.just_syntax.specs.Plain.{Text}

-- the lines of a text, each with its newline, which the last may lack
abbrev pub lines : Text → List Text
lines [] = []
lines (c ∷ cs) = if c == 10 then (c ∷ []) ∷ lines cs else onto_first c (lines cs)

-- a space or a tab
abbrev pub is_gap : ℕ → Bool
is_gap c = c == 32 || c == 9

-- whether a line is only spaces, tabs, returns and newlines
abbrev pub is_blank : Text → Bool
is_blank line = list_all (λ c. is_gap c || (c == 13 || c == 10)) line

-- the leading spaces and tabs of a line
abbrev pub indentation : Text → Text
indentation line = take_while is_gap line

-- the longest common prefix of two texts
abbrev pub common_start : Text → Text → Text
common_start xs ys = take (common_prefix_len (λ x y. x == y) xs ys) xs

-- the common prefix of the lines so far and one more indentation
abbrev pub or_common : Option Text → Text → Option Text
or_common None indentation = Some indentation
or_common (Some so_far) indentation = Some (common_start so_far indentation)

-- a blank line does not count
abbrev pub with_line : Option Text → Text → Option Text
with_line so_far line = if is_blank line then so_far else or_common so_far (indentation line)

-- the longest common prefix of the indentations of all lines that are not blank
abbrev pub common_indentation : Option Text → List Text → Option Text
common_indentation so_far [] = so_far
common_indentation so_far (line ∷ rest) = common_indentation (with_line so_far line) rest

-- how many bytes each line loses
abbrev pub width : Option Text → ℕ
width None = 0
width (Some text) = length text

-- a line without its first n bytes; a blank one becomes a newline, or nothing if it is the first or the last
abbrev pub unindented_line : ℕ → Bool → Bool → Text → Text
unindented_line n is_first is_last line =
    if is_blank line then (if is_first || is_last then [] else codes "\n") else drop n line

-- whether the line before was the last
abbrev pub is_none_left : List Text → Bool
is_none_left rest = length rest == 0

-- the lines, each without its first n bytes, concatenated
abbrev pub unindented_lines : ℕ → Bool → List Text → Text
unindented_lines n is_first [] = []
unindented_lines n is_first (line ∷ rest) =
    unindented_line n is_first (is_none_left rest) line ++ unindented_lines n false rest

-- the text without the indentation that its lines share
abbrev pub unindented : Text → Text
unindented text = unindented_lines (width (common_indentation None (lines text))) true (lines text)
