-- A phrase again and again, a turn at a time.
use Rattle.std.specs.Prelude.{ℕ, zero, suc, ◌+◌, ◌-◌, ◌≡◌, ◌<◌, Bool, true, false, List, [], ◌++◌}
use Rattle.std.proofs.Common.{◌∙◌, ap, arith, refl, sym}
use Rattle.std.proofs.lemmas.List.{append_assoc, append-nil}
use Rattle.just_expression_parser.specs.Tokens.{Tokens}
use Rattle.just_parser.specs.Parsed.{IsPhraseRefused}
use Rattle.just_parser.specs.Phrase.{Parsed, Phrase, Read, Refused, after_read, many, prepended, repeated_phrase}
use Rattle.just_parser.specs.declared.parse_error.Fault.{Fault}
use Rattle.just_parser.specs.declared.parse_error.ParseError.{ParseError}
use Rattle.just_parser.specs.declared.parse_error.ParseError.TheVariants.{Lex, OutOfMemory, Unexpected}

-- ---- what comes before what is read

pub prepended_twice : {A : Type 0} (front more : List A) (outcome : Parsed (List A))
    → prepended (front ++ more) outcome ≡ prepended front (prepended more outcome)
prepended_twice front more (Read last ts) = ap (λ all. Read all ts) (append_assoc front more last)
prepended_twice front more (Refused fault ts) = refl

-- nothing more is read
pub finished : {A : Type 0} (front : List A) (ts : Tokens) → prepended front (Read [] ts) ≡ Read front ts
finished front ts = ap (λ all. Read all ts) (append-nil front)

-- what is read after something is read alone too
pub read_alone : {A : Type 0} (front all : List A) (outcome : Parsed (List A)) (rest : Tokens)
    → prepended front outcome ≡ Read all rest → (more : List A) × (outcome ≡ Read more rest) × (front ++ more ≡ all)
read_alone front all (Read more ts) rest is = (more, cc, cc)
read_alone front all (Refused fault ts) rest is = absurd (cc)

-- what is refused after something is refused alone too
pub refused_alone : {A : Type 0} (front : List A) (outcome : Parsed (List A)) (fault : Fault) (at : Tokens)
    → prepended front outcome ≡ Refused fault at → outcome ≡ Refused fault at
refused_alone front (Read more ts) fault at is = absurd (cc)
refused_alone front (Refused other ts) fault at is = cc

-- ---- turns

-- something before what so many turns give from some tokens on, is something before what all turns give from others on
abbrev pub RepeatsAlike : {A : Type 0} → (Tokens → Bool) → Phrase (List A) → List A → List A → ℕ → Tokens → Tokens → Type 0
RepeatsAlike ends phrase front start n now before = prepended front (repeated_phrase n ends phrase now) ≡ prepended start (many ends phrase before)

one_less : (n i : ℕ) → i < n → n - i ≡ suc (n - (i + 1))
one_less n i less = omega (arith, less)

-- the end has come
pub ended : {A : Type 0} (n : ℕ) (ends : Tokens → Bool) (phrase : Phrase (List A)) (ts : Tokens) → ends ts ≡ true
    → repeated_phrase n ends phrase ts ≡ Read [] ts
unfolding repeated_phrase
ended zero ends phrase ts is = refl
ended (suc n) ends phrase ts is = rw is refl

pub another : {A : Type 0} (n : ℕ) (ends : Tokens → Bool) (phrase : Phrase (List A)) (ts : Tokens) → ends ts ≡ false
    → repeated_phrase (suc n) ends phrase ts ≡ after_read (phrase ts) (λ found rest. prepended found (repeated_phrase n ends phrase rest))
unfolding repeated_phrase
another n ends phrase ts is = rw is refl

-- the phrase is there again
pub turned : {A : Type 0} (n i : ℕ) (ends : Tokens → Bool) (phrase : Phrase (List A)) (front all : List A) (ts rest : Tokens)
    → i < n → ends ts ≡ false → prepended front (phrase ts) ≡ Read all rest
    → prepended all (repeated_phrase (n - (i + 1)) ends phrase rest) ≡ prepended front (repeated_phrase (n - i) ends phrase ts)
turned n i ends phrase front all ts rest less going is =
    let read = read_alone front all (phrase ts) rest is in
    let later = repeated_phrase (n - (i + 1)) ends phrase rest in
    ap (λ all. prepended all later) (sym read.2) ∙ prepended_twice front read.0 later
    ∙ sym (ap (λ k. prepended front (repeated_phrase k ends phrase ts)) (one_less n i less)
    ∙ ap (prepended front) (another (n - (i + 1)) ends phrase ts going
    ∙ ap (λ outcome. after_read outcome (λ found rest. prepended found (repeated_phrase (n - (i + 1)) ends phrase rest))) read.1))

-- the phrase is refused
pub turn_refused : {A : Type 0} (n i : ℕ) (ends : Tokens → Bool) (phrase : Phrase (List A)) (front start : List A) (ts : Tokens)
    (whole : Parsed (List A)) (refusal : ParseError) → i < n → ends ts ≡ false → IsPhraseRefused (phrase ts) refusal
    → prepended front (repeated_phrase (n - i) ends phrase ts) ≡ prepended start whole → IsPhraseRefused whole refusal
turn_refused n i ends phrase front start ts whole (Unexpected fault token) less going (at, is, found) same = (
  at,
  refused_alone start whole fault at
      (sym same ∙ ap (λ k. prepended front (repeated_phrase k ends phrase ts)) (one_less n i less)
      ∙ ap (prepended front) (another (n - (i + 1)) ends phrase ts going
      ∙ ap (λ outcome. after_read outcome (λ found rest. prepended found (repeated_phrase (n - (i + 1)) ends phrase rest))) is)),
  found,
)
turn_refused n i ends phrase front start ts whole (Lex kind token) less going refused same = absurd refused
turn_refused n i ends phrase front start ts whole OutOfMemory less going refused same = tt

-- the end has come
pub turns_end : {A : Type 0} (ends : Tokens → Bool) (phrase : Phrase (List A)) (front start : List A) (n : ℕ) (now before : Tokens)
    → ends now ≡ true → RepeatsAlike ends phrase front start n now before → prepended start (many ends phrase before) ≡ Read front now
turns_end ends phrase front start n now before is turns =
    sym turns ∙ ap (prepended front) (ended n ends phrase now is) ∙ finished front now

-- no turn is left
pub turns_over : {A : Type 0} (ends : Tokens → Bool) (phrase : Phrase (List A)) (front start : List A) (n : ℕ) (now before : Tokens)
    → n ≡ 0 → RepeatsAlike ends phrase front start n now before → prepended start (many ends phrase before) ≡ Read front now
unfolding repeated_phrase
turns_over ends phrase front start n now before none turns =
    sym turns ∙ ap (λ k. prepended front (repeated_phrase k ends phrase now)) none ∙ finished front now

-- nothing before what is read
pub prepended_none : {A : Type 0} (outcome : Parsed (List A)) → prepended [] outcome ≡ outcome
prepended_none (Read more ts) = refl
prepended_none (Refused fault ts) = refl
