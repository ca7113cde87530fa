-- The message for variables that are not set.
use Rattle.std.proofs.Common.{◌≡◌, ◌<◌, ◌≤◌, List, [], ◌∷◌, ◌++◌, Option, Some, None, IfSome, Iter, Bor, refl, ap, subst, ◌∙◌, arith, codes, get_or, length}
use Rattle.std.proofs.Common.{map, option_and_then, option_map}
use Rattle.std.specs.Fmt.{◌++?◌}
use Rattle.std.specs.Iterator.{Drains}
use Rattle.std.specs.Slice.Iter.{iter_rest}
use Rattle.std.proofs.iter.Yields.{fronts}
use Rattle.std.proofs.lemmas.Iterator.{YieldsList-from_slice}
use Rattle.std.proofs.lemmas.Iterator.Consumers.{YieldsList-end}
use Rattle.just_syntax.specs.Enclosure.{ticked}
use Rattle.just_builtins.specs.Prelude.{Text}
use Rattle.just_syntax.specs.View.{enclosed}
use Rattle.just_syntax.specs.declared.enclosure.Enclosure.{Enclosure}
use Rattle.just_value.specs.Listed.{listed, outputs}
use Rattle.just_builtins.specs.Message.{no_variable}

-- one key
pub alone : (keys : List Text) (key : Text) → 1 ≤ length keys → length keys < 2 → key ≡ get_or keys 0 key
    → codes "environment variable `" ++ (key ++ codes "` not present") ≡ no_variable keys
alone [] key some few is = absurd (omega arith)
alone (k ∷ []) key some few is = ap (λ s. codes "environment variable `" ++ (s ++ codes "` not present")) is
alone (k ∷ l ∷ ks) key some few is = absurd (omega arith)

-- two keys or more
many : (keys : List Text) → 2 ≤ length keys
    → codes "environment variables " ++ (listed (codes "and") (map ticked keys) ++ codes " not present")
    ≡ no_variable keys
many [] some = absurd (omega arith)
many (k ∷ []) some = absurd (omega arith)
many (k ∷ l ∷ ks) some = refl

-- the items of a slice's iterator are those of the slice
pub drained : {A : Type 0} (s : Iter A) (keys : List A) (xs : List (Bor A)) → iter_rest s ≡ keys → Drains fronts s xs → map (λ x. x.now) xs ≡ keys
drained s keys xs at (u, (t, yields, last)) = (YieldsList-end (YieldsList-from_slice keys at) xs t yields None u refl last).0

-- each key in backticks
words : (out : Enclosure (Bor Text) → Option Text)
    → ((e : Enclosure (Bor Text)) → out e ≡ Some (ticked (enclosed e).now)) → (items : List (Enclosure (Bor Text)))
    → outputs out items ≡ Some (map ticked (map (λ x. x.now) (map enclosed items)))
words out is [] = refl
words out is (e ∷ es) =
    ap (λ o. option_and_then (λ text. option_map (λ texts. text ∷ texts) (outputs out es)) o) (is e)
    ∙ ap (option_map (λ texts. ticked (enclosed e).now ∷ texts)) (words out is es)

pub several : (out : Enclosure (Bor Text) → Option Text)
    → ((e : Enclosure (Bor Text)) → out e ≡ Some (ticked (enclosed e).now))
    → (word : Text) (items : List (Enclosure (Bor Text))) (keys : List Text) (message : Text)
    → 2 ≤ length keys → word ≡ codes "and" → map (λ x. x.now) (map enclosed items) ≡ keys
    → IfSome (Some (codes "environment variables ") ++? (option_map (listed word) (outputs out items) ++? Some (codes " not present"))) (λ bs. message ≡ bs)
    → message ≡ no_variable keys
several out is word items keys message some conjunction same said =
    let all = words out is items ∙ ap (λ ks. Some (map ticked ks)) same in
    let at = subst (λ w. IfSome (Some (codes "environment variables ") ++? (option_map (listed w) (outputs out items) ++? Some (codes " not present")))
    (λ bs. message ≡ bs)) conjunction said in
    subst (λ o. IfSome (Some (codes "environment variables ") ++? (option_map (listed (codes "and")) o ++? Some (codes " not present"))) (λ bs. message ≡ bs))
    all at ∙ many keys some
