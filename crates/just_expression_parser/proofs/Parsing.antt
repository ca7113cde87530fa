-- What a parsed expression is.
use Rattle.std.specs.Prelude.{ℕ, zero, suc, ◌+◌, ◌≡◌, ◌<◌, ◌≤◌, Bool, true, false, List, [], ◌∷◌, ◌++◌, drop, get_or, length, map, if◌then◌else◌}
use Rattle.std.proofs.Common.{◌∙◌, ap, arith, refl, sym}
use Rattle.std.proofs.lemmas.List.{append_assoc, at_drop_more, map_push}
use Rattle.just_lexer.specs.View.{lexeme_view}
use Rattle.just_lexer.specs.declared.kind.TokenKind.{TokenKind}
use Rattle.just_lexer.specs.declared.lexeme.Lexeme.{Lexeme}
use Rattle.just_expression_parser.specs.Tokens.{Tokens, is_at, is_kind, is_significant, significant}

-- a lexeme is kept, or not
kept_first : (kind_matters : Bool) (t : Lexeme) (ts : List Lexeme) (kept more : List Lexeme) → kind_matters ≡ is_significant t.kind
    → more ≡ (if kind_matters then kept ++ t ∷ [] else kept)
    → map lexeme_view more ++ significant (map lexeme_view ts) ≡ map lexeme_view kept ++ significant (map lexeme_view (t ∷ ts))
kept_first true t ts kept more is made =
    ap (λ ms. map lexeme_view ms ++ significant (map lexeme_view ts)) made
    ∙ ap (λ ms. ms ++ significant (map lexeme_view ts)) (map_push lexeme_view kept t)
    ∙ append_assoc (map lexeme_view kept) (lexeme_view t ∷ []) (significant (map lexeme_view ts))
    ∙ ap (λ b. map lexeme_view kept ++ (if b then lexeme_view t ∷ significant (map lexeme_view ts) else significant (map lexeme_view ts))) is
kept_first false t ts kept more is made =
    ap (λ ms. map lexeme_view ms ++ significant (map lexeme_view ts)) made
    ∙ ap (λ b. map lexeme_view kept ++ (if b then lexeme_view t ∷ significant (map lexeme_view ts) else significant (map lexeme_view ts))) is

pub kept_more : (ts : List Lexeme) (i : ℕ) (d : Lexeme) (kind_matters : Bool) (kept more : List Lexeme) (whole : Tokens) → i < length ts
    → kind_matters ≡ is_significant (get_or ts i d).kind → more ≡ (if kind_matters then kept ++ get_or ts i d ∷ [] else kept)
    → map lexeme_view kept ++ significant (map lexeme_view (drop i ts)) ≡ whole
    → map lexeme_view more ++ significant (map lexeme_view (drop (i + 1) ts)) ≡ whole
kept_more ts i d kind_matters kept more whole within is made so_far =
    kept_first kind_matters (get_or ts i d) (drop (i + 1) ts) kept more is made
    ∙ sym (at_drop_more (λ ts. map lexeme_view kept ++ significant (map lexeme_view ts)) ts i d within) ∙ so_far

-- ---- the token after some others

pub at_some : (n : ℕ) (kind : TokenKind) (ts : List Lexeme) (d : Lexeme) → n < length ts
    → is_at n kind (map lexeme_view ts) ≡ is_kind kind (lexeme_view (get_or ts n d))
at_some n kind [] d less = absurd (omega (arith, less))
at_some zero kind (t ∷ ts) d less = refl
at_some (suc n) kind (t ∷ ts) d less = at_some n kind ts d (omega (arith, less))

pub at_none : (n : ℕ) (kind : TokenKind) (ts : List Lexeme) → length ts ≤ n → is_at n kind (map lexeme_view ts) ≡ false
at_none n kind [] most = refl
at_none zero kind (t ∷ ts) most = absurd (omega (arith, most))
at_none (suc n) kind (t ∷ ts) most = at_none n kind ts (omega (arith, most))
