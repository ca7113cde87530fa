-- Proofs of the laws of positional words and their cut.
use Rattle.std.proofs.Common.{◌≡◌, ℕ, Bool, true, false, cond, eqb, List, [], ◌∷◌, ◌++◌, Option, Some, None, IfSome, option_map, refl, ap, sym, ◌∙◌}
use Rattle.std.proofs.lemmas.Bool.{and_right, eqb-true, eq-eqb}
use Rattle.just_value.specs.Prelude.{KeepsWords, MeansTheCut, Positional, SameExactlyIfCutAlike, after_last, cut_after_last, cut_at_first, cut_words}
use Rattle.just_value.specs.Prelude.{directory_and_tail, is_dots, override_of, positional, tail_before, with_directory, with_override_or_word, with_word}
use Rattle.just_value.specs.Positional.{with_first, cut_directory, cut_first, put_back}

-- the two sides of a cut at the first occurrence of a byte, joined by it, are the text
first_step : (c b : ℕ) (bs : List ℕ) (same : Bool) (o : Option (List ℕ × List ℕ)) → eqb b c ≡ same → IfSome o (λ p. (p.0 ++ c ∷ []) ++ p.1 ≡ bs)
    → IfSome (cond {A = Option (List ℕ × List ℕ)} same (Some ([], bs)) (option_map (λ p. (b ∷ p.0, p.1)) o)) (λ p. (p.0 ++ c ∷ []) ++ p.1 ≡ b ∷ bs)
first_step c b bs true o test more = ap (λ x. x ∷ bs) (sym (eqb-true b c test))
first_step c b bs false None test more = tt
first_step c b bs false (Some p) test more = ap (λ t. b ∷ t) more

first_whole : (c : ℕ) (bs : List ℕ) → IfSome (cut_at_first c bs) (λ p. (p.0 ++ c ∷ []) ++ p.1 ≡ bs)
first_whole c [] = tt
first_whole c (b ∷ bs) = first_step c b bs (eqb b c) (cut_at_first c bs) refl (first_whole c bs)

-- the two sides of a cut after the last occurrence of a byte are the text, and the first ends with the byte
abbrev IsLastCut : ℕ → List ℕ → List ℕ × List ℕ → Type 0
IsLastCut c bs p = (p.0 ++ p.1 ≡ bs) × ((front : List ℕ) × (p.0 ≡ front ++ c ∷ []))

last_step_none : (c b : ℕ) (bs : List ℕ) (same : Bool) → eqb b c ≡ same
    → IfSome (cond {A = Option (List ℕ × List ℕ)} same (Some (b ∷ [], bs)) None) (IsLastCut c (b ∷ bs))
last_step_none c b bs true test = (refl, ([], ap (λ x. x ∷ []) (eqb-true b c test)))
last_step_none c b bs false test = tt

last_step : (c b : ℕ) (bs : List ℕ) (o : Option (List ℕ × List ℕ)) → IfSome o (IsLastCut c bs) → IfSome (after_last c b bs o) (IsLastCut c (b ∷ bs))
last_step c b bs None more = last_step_none c b bs (eqb b c) refl
last_step c b bs (Some p) more = (ap (λ t. b ∷ t) more.0, (b ∷ more.1.0, ap (λ t. b ∷ t) more.1.1))

last_whole : (c : ℕ) (bs : List ℕ) → IfSome (cut_after_last c bs) (IsLastCut c bs)
last_whole c [] = tt
last_whole c (b ∷ bs) = last_step c b bs (cut_after_last c bs) (last_whole c bs)

-- a text that ends with the byte is cut at its end
last_at_end : (c : ℕ) (front : List ℕ) → cut_after_last c (front ++ c ∷ []) ≡ Some (front ++ c ∷ [], [])
last_at_end c [] = rw (eq-eqb c c refl) refl
last_at_end c (b ∷ bs) = ap (after_last c b (bs ++ c ∷ [])) (last_at_end c bs)

-- a prefix of a text that lacks the byte lacks it too
none_step : (b : ℕ) (bs cs : List ℕ) (same : Bool) (o q : Option (List ℕ × List ℕ)) → (o ≡ None → q ≡ None)
    → cond {A = Option (List ℕ × List ℕ)} same (Some ([], bs)) (option_map (λ p. (b ∷ p.0, p.1)) o) ≡ None
    → cond {A = Option (List ℕ × List ℕ)} same (Some ([], cs)) (option_map (λ p. (b ∷ p.0, p.1)) q) ≡ None
none_step b bs cs true o q more e = cc
none_step b bs cs false None q more e = ap (option_map (λ p. (b ∷ p.0, p.1))) (more refl)
none_step b bs cs false (Some p) q more e = cc

none_before : (c : ℕ) (x y : List ℕ) → cut_at_first c (x ++ y) ≡ None → cut_at_first c x ≡ None
none_before c [] y e = refl
none_before c (b ∷ bs) y e = none_step b (bs ++ y) bs (eqb b c) (cut_at_first c (bs ++ y)) (cut_at_first c bs) (none_before c bs y) e

-- a text that ends with a slash is neither `.` nor `..`
no_dots : (front : List ℕ) → is_dots (front ++ 47 ∷ []) ≡ false
no_dots [] = refl
no_dots (a ∷ []) = rw (and_right (eqb a 46) false refl) refl
no_dots (a ∷ b ∷ []) = rw (and_right (eqb b 46) false refl, and_right (eqb a 46) false refl) refl
no_dots (a ∷ b ∷ d ∷ ds) = rw (and_right (eqb b 46) false refl, and_right (eqb a 46) false refl) refl

-- the words are kept
kept_at : (w : List ℕ) (ws : List (List ℕ)) (dots : Bool) (o : Option (List ℕ × List ℕ))
    → put_back (cond dots (record { arguments = ws; overrides = []; search_directory = Some w }) (with_directory w ws o))
    ≡ cond dots (w ∷ ws) (cut_directory w ws o)
kept_at w ws true o = refl
kept_at w ws false None = refl
kept_at w ws false (Some p) = refl

kept_step : (w : List ℕ) (ws cut : List (List ℕ)) (meant : Positional) (o : Option (List ℕ × List ℕ)) → IfSome o (λ p. (p.0 ++ 61 ∷ []) ++ p.1 ≡ w)
    → put_back meant ≡ cut
    → put_back (with_first w ws meant o) ≡ cut_first w ws cut o
kept_step w ws cut meant None whole e = kept_at w ws (is_dots w) (directory_and_tail w)
kept_step w ws cut meant (Some p) whole e = ap (λ x. x ∷ put_back meant) whole ∙ ap (λ l. w ∷ l) e

pub kept : (words : List (List ℕ)) → put_back (positional words) ≡ cut_words words
kept [] = refl
kept (w ∷ ws) = kept_step w ws (cut_words ws) (positional ws) (override_of w) (first_whole 61 w) (kept ws)

-- the cut words have the same meaning
same_cut : (w : List ℕ) (ws : List (List ℕ)) (d t : List ℕ) → override_of w ≡ None → d ++ t ≡ w → (front : List ℕ) → d ≡ front ++ 47 ∷ []
    → positional (d ∷ tail_before t ws) ≡ record { arguments = tail_before t ws; overrides = []; search_directory = Some d }
same_cut w ws d t none whole front ends =
    let unset : override_of d ≡ None = none_before 61 d t (ap override_of whole ∙ none) in
    let dotless : is_dots d ≡ false = ap is_dots ends ∙ no_dots front in
    let again : directory_and_tail d ≡ Some (d, []) = ap directory_and_tail ends ∙ (last_at_end 47 front ∙ ap (λ x. Some (x, [])) (sym ends)) in
    ap (with_first d (tail_before t ws) (positional (tail_before t ws))) unset
    ∙ (ap (λ b. cond b (record { arguments = tail_before t ws; overrides = []; search_directory = Some d })
    (with_directory d (tail_before t ws) (directory_and_tail d))) dotless
    ∙ ap (with_directory d (tail_before t ws)) again)

same_at : (w : List ℕ) (ws : List (List ℕ)) (dots : Bool) (o : Option (List ℕ × List ℕ)) → override_of w ≡ None → is_dots w ≡ dots → directory_and_tail w ≡ o
    → IfSome o (IsLastCut 47 w)
    → positional (cond dots (w ∷ ws) (cut_directory w ws o))
    ≡ cond dots (record { arguments = ws; overrides = []; search_directory = Some w }) (with_directory w ws o)
same_at w ws true o none dots last is = ap (with_first w ws (positional ws)) none
    ∙ ap (λ b. cond b (record { arguments = ws; overrides = []; search_directory = Some w }) (with_directory w ws (directory_and_tail w))) dots
same_at w ws false None none dots last is =
    ap (with_first w ws (positional ws)) none
    ∙ (ap (λ b. cond b (record { arguments = ws; overrides = []; search_directory = Some w }) (with_directory w ws (directory_and_tail w))) dots
    ∙ ap (with_directory w ws) last)
same_at w ws false (Some p) none dots last is = same_cut w ws p.0 p.1 none is.0 is.1.0 is.1.1

same_step : (w : List ℕ) (ws cut : List (List ℕ)) (o : Option (List ℕ × List ℕ)) → override_of w ≡ o → positional cut ≡ positional ws
    → positional (cut_first w ws cut o) ≡ with_first w ws (positional ws) o
same_step w ws cut None e same = same_at w ws (is_dots w) (directory_and_tail w) e refl refl (last_whole 47 w)
same_step w ws cut (Some p) e same = ap (with_first w cut (positional cut)) e ∙ ap (λ m. with_first w ws m (Some p)) same

pub same : (words : List (List ℕ)) → positional (cut_words words) ≡ positional words
same [] = refl
same (w ∷ ws) = same_step w ws (cut_words ws) (override_of w) refl (same ws)

-- the three laws
pub keeps_words : KeepsWords
keeps_words = kept

pub means_the_cut : MeansTheCut
means_the_cut = same

pub same_exactly_if_cut_alike : SameExactlyIfCutAlike
same_exactly_if_cut_alike v w = (λ e. sym (kept v) ∙ (ap put_back e ∙ kept w), λ e. sym (same v) ∙ (ap positional e ∙ same w))

-- one more word at the end
after_push_at : (x w : List ℕ) (xs : List (List ℕ)) (dots : Bool) (o : Option (List ℕ × List ℕ))
    → cond dots (record { arguments = xs ++ w ∷ []; overrides = []; search_directory = Some x }) (with_directory x (xs ++ w ∷ []) o)
    ≡ with_word (cond dots (record { arguments = xs; overrides = []; search_directory = Some x }) (with_directory x xs o)) w
after_push_at x w xs true o = refl
after_push_at x w xs false None = refl
after_push_at x w xs false (Some (d, [])) = refl
after_push_at x w xs false (Some (d, t ∷ ts)) = refl

commute_override : (p : List ℕ × List ℕ) (w : List ℕ) (overrides : List (List ℕ × List ℕ)) (x : List ℕ) (xs : List (List ℕ)) (o : Option (List ℕ × List ℕ))
    → with_first x (xs ++ w ∷ []) (with_override_or_word (record { arguments = []; overrides = overrides; search_directory = None }) w o) (Some p)
    ≡ with_override_or_word (with_first x xs (record { arguments = []; overrides = overrides; search_directory = None }) (Some p)) w o
commute_override p w overrides x xs None = refl
commute_override p w overrides x xs (Some q) = refl

commute : (p : List ℕ × List ℕ) (w : List ℕ) (arguments : List (List ℕ)) (overrides : List (List ℕ × List ℕ)) (directory : Option (List ℕ)) (x : List ℕ)
    (xs : List (List ℕ))
    → with_first x (xs ++ w ∷ []) (with_word (record { arguments = arguments; overrides = overrides; search_directory = directory }) w) (Some p)
    ≡ with_word (with_first x xs (record { arguments = arguments; overrides = overrides; search_directory = directory }) (Some p)) w
commute p w [] overrides None x xs = commute_override p w overrides x xs (override_of w)
commute p w (a ∷ others) overrides None x xs = refl
commute p w arguments overrides (Some d) x xs = refl

push_step : (x w : List ℕ) (xs : List (List ℕ)) (meant : Positional) (o : Option (List ℕ × List ℕ)) → meant ≡ with_word (positional xs) w
    → with_first x (xs ++ w ∷ []) meant o ≡ with_word (with_first x xs (positional xs) o) w
push_step x w xs meant None e = after_push_at x w xs (is_dots x) (directory_and_tail x)
push_step x w xs meant (Some p) e =
    ap (λ m. with_first x (xs ++ w ∷ []) m (Some p)) e ∙ commute p w (positional xs).arguments (positional xs).overrides (positional xs).search_directory x xs

alone_at : (w : List ℕ) (dots : Bool) (o : Option (List ℕ × List ℕ))
    → cond dots (record { arguments = []; overrides = []; search_directory = Some w }) (with_directory w [] o)
    ≡ record (cond dots (record { arguments = []; overrides = []; search_directory = Some w }) (with_directory w [] o)) { overrides = [] }
alone_at w true o = refl
alone_at w false None = refl
alone_at w false (Some p) = refl

alone : (w : List ℕ) (o : Option (List ℕ × List ℕ)) → with_first w [] (positional []) o ≡ with_override_or_word (positional []) w o
alone w None = alone_at w (is_dots w) (directory_and_tail w)
alone w (Some p) = refl

pub positional-push : (words : List (List ℕ)) (w : List ℕ) → positional (words ++ w ∷ []) ≡ with_word (positional words) w
positional-push [] w = alone w (override_of w)
positional-push (x ∷ xs) w = push_step x w xs (positional (xs ++ w ∷ [])) (override_of x) (positional-push xs w)
