-- Marks that grow by a character.
use Rattle.std.proofs.Common.{◌≡◌, ℕ, zero, suc, ◌-◌, ◌<◌, List, [], ◌∷◌, ◌++◌, length, refl, sym, ap, ◌∙◌, encode_utf8}
use Rattle.std.proofs.lemmas.List.{append_assoc, append-nil}
use Rattle.std.specs.List.{repeat}
use Rattle.just_report.specs.Report.{columns, pointer}

-- how many bytes are left before the token, and of the token, after some characters
abbrev pub walk : ℕ → ℕ → List ℕ → ℕ × ℕ
walk before left [] = (before, left)
walk zero zero (c ∷ cs) = (zero, zero)
walk zero (suc left) (c ∷ cs) = walk zero (suc left - length (encode_utf8 c)) cs
walk (suc before) left (c ∷ cs) = walk (suc before - length (encode_utf8 c)) left cs

marks_last : (b l : ℕ) (cs : List ℕ) (c : ℕ) → pointer b l (cs ++ c ∷ []) ≡ pointer b l cs ++ pointer (walk b l cs).0 (walk b l cs).1 (c ∷ [])
marks_last b l [] c = refl
marks_last zero zero (d ∷ cs) c = refl
marks_last zero (suc l) (d ∷ cs) c =
    let rest = suc l - length (encode_utf8 d) in
    ap (λ x. repeat (columns d) (94 ∷ []) ++ x) (marks_last zero rest cs c)
    ∙ sym (append_assoc (repeat (columns d) (94 ∷ [])) (pointer zero rest cs) (pointer (walk zero rest cs).0 (walk zero rest cs).1 (c ∷ [])))
marks_last (suc b) l (d ∷ cs) c =
    let rest = suc b - length (encode_utf8 d) in
    ap (λ x. repeat (columns d) (32 ∷ []) ++ x) (marks_last rest l cs c)
    ∙ sym (append_assoc (repeat (columns d) (32 ∷ [])) (pointer rest l cs) (pointer (walk rest l cs).0 (walk rest l cs).1 (c ∷ [])))

walk_last : (b l : ℕ) (cs : List ℕ) (c : ℕ) → walk b l (cs ++ c ∷ []) ≡ walk (walk b l cs).0 (walk b l cs).1 (c ∷ [])
walk_last b l [] c = refl
walk_last zero zero (d ∷ cs) c = refl
walk_last zero (suc l) (d ∷ cs) c = walk_last zero (suc l - length (encode_utf8 d)) cs c
walk_last (suc b) l (d ∷ cs) c = walk_last (suc b - length (encode_utf8 d)) l cs c

pub marks_more : (b l : ℕ) (cs : List ℕ) (c before left : ℕ) → walk b l cs ≡ (before, left)
    → pointer b l (cs ++ c ∷ []) ≡ pointer b l cs ++ pointer before left (c ∷ [])
marks_more b l cs c before left e = marks_last b l cs c ∙ ap (λ (p : ℕ × ℕ). pointer b l cs ++ pointer p.0 p.1 (c ∷ [])) e

pub walk_more : (b l : ℕ) (cs : List ℕ) (c before left : ℕ) → walk b l cs ≡ (before, left) → walk b l (cs ++ c ∷ []) ≡ walk before left (c ∷ [])
walk_more b l cs c before left e = walk_last b l cs c ∙ ap (λ (p : ℕ × ℕ). walk p.0 p.1 (c ∷ [])) e

-- one character before the token, in it, and after it
pub before_it : (b l c : ℕ) → 0 < b → (pointer b l (c ∷ []) ≡ repeat (columns c) (32 ∷ [])) × (walk b l (c ∷ []) ≡ (b - length (encode_utf8 c), l))
before_it zero l c h = elim h [ ]
before_it (suc b) l c h = (append-nil (repeat (columns c) (32 ∷ [])), refl)

pub in_it : (l c : ℕ) → 0 < l → (pointer 0 l (c ∷ []) ≡ repeat (columns c) (94 ∷ [])) × (walk 0 l (c ∷ []) ≡ (0, l - length (encode_utf8 c)))
in_it zero c h = elim h [ ]
in_it (suc l) c h = (append-nil (repeat (columns c) (94 ∷ [])), refl)

pub past_it : (c : ℕ) → (pointer 0 0 (c ∷ []) ≡ []) × (walk 0 0 (c ∷ []) ≡ (0, 0))
past_it c = (refl, refl)

-- marks that are added to a text
pub grown : (new text old so_far more all : List ℕ) → new ≡ text ++ more → text ≡ old ++ so_far → all ≡ so_far ++ more → new ≡ old ++ all
grown new text old so_far more all a b e = a ∙ ap (λ x. x ++ more) b ∙ append_assoc old so_far more ∙ ap (λ x. old ++ x) (sym e)
