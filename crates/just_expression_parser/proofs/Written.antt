-- The literals that lexemes stand for.
use Rattle.std.proofs.Common.{◌≡◌, ◌<◌, ◌≤◌, length, codes}
use Rattle.std.proofs.lemmas.Bool.{lt-ltb, le-ltb}
use Rattle.just_syntax.specs.Plain.{Text}
use Rattle.just_syntax.specs.Unindented.{unindented}
use Rattle.just_expression_parser.specs.Literal.{Style, braces, end_of_format, format_style, format_text, literal_of, middle_of_format, piece_literal}
use Rattle.just_expression_parser.specs.Literal.{start_of_format, string_literal, style, unindented_by_style, whole_format, without_end_mark, without_front}

-- a text between these marks
abbrev Cut : Text → Text → Text → Text → Type 0
Cut text front end cut = cut ≡ without_end_mark end (without_front front text)

-- ---- format strings

pub whole_is : (lexeme text cut : Text) (s : Style) → s ≡ format_style lexeme → text ≡ format_text lexeme → Cut text s.mark s.mark cut
    → literal_of s lexeme (braces 0 cut) ≡ whole_format lexeme
unfolding piece_literal
whole_is lexeme text cut s same is cuts = rw (cuts, is, same)

pub start_is : (lexeme text cut : Text) (s : Style) → s ≡ format_style lexeme → text ≡ format_text lexeme → Cut text s.mark (codes "{{") cut
    → literal_of s lexeme (braces 0 cut) ≡ start_of_format lexeme
unfolding piece_literal
start_is lexeme text cut s same is cuts = rw (cuts, is, same)

pub middle_is : (lexeme cut : Text) (s : Style) → Cut lexeme (codes "}}") (codes "{{") cut → literal_of s lexeme (braces 0 cut) ≡ middle_of_format s lexeme
unfolding piece_literal
middle_is lexeme cut s cuts = rw cuts

pub end_is : (lexeme cut : Text) (s : Style) → Cut lexeme (codes "}}") s.mark cut → literal_of s lexeme (braces 0 cut) ≡ end_of_format s lexeme
unfolding piece_literal
end_is lexeme cut s cuts = rw cuts

-- ---- other strings

string_is : (lexeme text cut : Text) (s : Style) → s ≡ style lexeme → Cut lexeme s.mark s.mark cut → text ≡ unindented_by_style s cut
    → literal_of s lexeme text ≡
    string_literal lexeme
unfolding string_literal
string_is lexeme text cut s same cuts is = rw (is, cuts, same)

pub indented_is : (lexeme text cut : Text) (s : Style) → s ≡ style lexeme → Cut lexeme s.mark s.mark cut → 1 < length s.mark → text ≡ unindented cut
    → literal_of s lexeme text ≡ string_literal lexeme
indented_is lexeme text cut s same cuts three is = string_is lexeme text cut s same cuts (rw (lt-ltb 1 (length s.mark) three) is)

pub plain_is : (lexeme cut : Text) (s : Style) → s ≡ style lexeme → Cut lexeme s.mark s.mark cut → length s.mark ≤ 1
    → literal_of s lexeme cut ≡ string_literal lexeme
plain_is lexeme cut s same cuts one = string_is lexeme cut cut s same cuts (rw (le-ltb 1 (length s.mark) one))
