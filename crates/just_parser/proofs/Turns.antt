-- A predictive phrase again and again.
use Rattle.std.specs.Prelude.{ℕ, zero, suc, ◌≡◌, ◌≤◌, Bool, true, false, List, [], ◌∷◌, ◌++◌, length, take}
use Rattle.std.proofs.Common.{◌∙◌, ap, arith, refl, subst, sym}
use Rattle.std.proofs.lemmas.List.{append_assoc, length-append}
use Rattle.just_lexer.specs.State.{Lexeme}
use Rattle.just_expression_parser.specs.Tokens.{Tokens}
use Rattle.just_parser.specs.Phrase.{Parsed, Phrase, Read, Refused, after_read, give, many, prepended, repeated_phrase}
use Rattle.just_parser.specs.declared.parse_error.Fault.{Fault}
use Rattle.just_parser.proofs.Repeated.{another, ended, read_alone, refused_alone}
use Rattle.just_parser.specs.Laws.{lookahead}
use Rattle.just_parser.proofs.Predictive.{IsPredictive, ReadsAgain, IsRefusal, RefusesAgain, LooksAtOne, ReadsOn, TakesToken, any}
use Rattle.just_parser.proofs.Predictive.{first_stays, no_end, not_shorter, reads_some, same_read, same_test, still_refused}

none_left : {A : Type 0} (ends : Tokens → Bool) (phrase : Phrase (List A)) (ts : Tokens) → repeated_phrase zero ends phrase ts ≡ Read [] ts
unfolding repeated_phrase
none_left ends phrase ts = refl

-- a phrase takes a token, where the end has not come
abbrev pub TakesSome : {A : Type 0} → (Tokens → Bool) → Phrase (List A) → Type 0
TakesSome {A} ends phrase = (t : Lexeme) (rest : Tokens) (a : List A) → ends (t ∷ rest) ≡ false → phrase (t ∷ rest) ≡ Read a (t ∷ rest) → ⊥

-- one that takes a token always
pub takes_some : {A : Type 0} (ends : Tokens → Bool) (phrase : Phrase (List A)) → IsPredictive 1 phrase → TakesSome ends phrase
takes_some ends phrase p t rest a going is = reads_some p t rest a is

module _ {A : Type 0} (ends : Tokens → Bool) (looks : LooksAtOne ends) (phrase : Phrase (List A)) (p : IsPredictive 0 phrase)
    (takes : TakesSome ends phrase) where
  abbrev AreTurns : List A → ℕ → Tokens → Tokens → Type 0
  AreTurns all n ts rest = repeated_phrase n ends phrase ts ≡ Read all rest

  -- the same is read in as many turns as there are tokens
  record TurnsAgain (all : List A) (ts : Tokens) (t : Lexeme) (rest : Tokens) : Type 0 where
    used : Tokens
    parts : ts ≡ used ++ t ∷ rest
    again : (us : Tokens) (m : ℕ) → length (used ++ t ∷ us) ≤ m → AreTurns all m (used ++ t ∷ us) (t ∷ us)

  record TurnsRefusedAgain (fault : Fault) (ts : Tokens) (t : Lexeme) (rest : Tokens) : Type 0 where
    front : Tokens
    parts : ts ≡ front ++ t ∷ rest
    again : (us : Tokens) (m : ℕ) → length (front ++ t ∷ us) ≤ m → take (lookahead fault) us ≡ take (lookahead fault) rest
        → IsRefusal (repeated_phrase m ends phrase (front ++ t ∷ us))

  -- a turn takes a token
  some_used : (ts : Tokens) (found : List A) (x : Lexeme) (mid : Tokens) (r : ReadsAgain 0 phrase ts found x mid) → ends ts ≡ false
      → phrase ts ≡ Read found (x ∷ mid) → (us : Tokens) → r.used ≡ us → 1 ≤ length us
  some_used ts found x mid r going is [] none =
      let same : ts ≡ x ∷ mid = r.parts ∙ ap (λ xs. xs ++ x ∷ mid) none in
      absurd (takes x mid found (sym (ap ends same) ∙ going) (sym (ap phrase same) ∙ is))
  some_used ts found x mid r going is (y ∷ us) some = omega arith

  -- a turn of the phrase, and then others
  turn : (ts : Tokens) (found : List A) (x : Lexeme) (mid : Tokens) (r : ReadsAgain 0 phrase ts found x mid) (front : Tokens) (t : Lexeme) (rest us : Tokens)
      → x ∷ mid ≡ front ++ t ∷ rest → ends ts ≡ false → 1 ≤ length r.used → (m : ℕ) → length ((r.used ++ front) ++ t ∷ us) ≤ suc m
      → (repeated_phrase (suc m) ends phrase ((r.used ++ front) ++ t ∷ us) ≡ prepended found (repeated_phrase m ends phrase (front ++ t ∷ us)))
      × (length (front ++ t ∷ us) ≤ m)
  turn ts found x mid r front t rest us same going some m fits =
      let s = first_stays x mid front t rest us same in
      let whole : (r.used ++ front) ++ t ∷ us ≡ r.used ++ x ∷ s.0 = append_assoc r.used front (t ∷ us) ∙ ap (λ xs. r.used ++ xs) s.1 in
      let still : ends (r.used ++ x ∷ s.0) ≡ false = sym (same_test ends looks r.used x mid s.0) ∙ ap ends (sym r.parts) ∙ going in (
        ap (λ xs. repeated_phrase (suc m) ends phrase xs) whole ∙ another m ends phrase (r.used ++ x ∷ s.0) still
            ∙ ap (λ o. after_read o (λ found rest. prepended found (repeated_phrase m ends phrase rest))) (r.again s.0)
            ∙ ap (λ xs. prepended found (repeated_phrase m ends phrase xs)) (sym s.1),
        omega (arith, fits, some, ap length (append_assoc r.used front (t ∷ us)), length-append r.used (front ++ t ∷ us)),
      )

  -- something is there, in no turn
  no_turn : (ts front : Tokens) (t : Lexeme) (us : Tokens) → length ((ts ++ front) ++ t ∷ us) ≤ 0 → ⊥
  no_turn ts front t us fits = omega (arith, fits, length-append (ts ++ front) (t ∷ us))

  shorter : (n : ℕ) (ts used : Tokens) (x : Lexeme) (mid : Tokens) → length ts ≤ suc n → 1 ≤ length used → ts ≡ used ++ x ∷ mid → length (x ∷ mid) ≤ n
  shorter n ts used x mid fits some parts = omega (arith, fits, some, ap length parts, length-append used (x ∷ mid))

  read_again : (ts : Tokens) (found more all : List A) (x : Lexeme) (mid : Tokens) (r : ReadsAgain 0 phrase ts found x mid) (t : Lexeme) (rest : Tokens)
      → found ++ more ≡ all → (s : TurnsAgain more (x ∷ mid) t rest) → ends ts ≡ false → 1 ≤ length r.used → (us : Tokens) (m : ℕ)
      → length ((r.used ++ s.used) ++ t ∷ us) ≤ m → AreTurns all m ((r.used ++ s.used) ++ t ∷ us) (t ∷ us)
  read_again ts found more all x mid r t rest same s going some us zero fits = absurd (no_turn r.used s.used t us fits)
  read_again ts found more all x mid r t rest same s going some us (suc m) fits =
      let next = turn ts found x mid r s.used t rest us s.parts going some m fits in
      next.0 ∙ ap (prepended found) (s.again us m next.1) ∙ ap (λ xs. Read xs (t ∷ us)) same

  refused_again : (ts : Tokens) (found : List A) (x : Lexeme) (mid : Tokens) (r : ReadsAgain 0 phrase ts found x mid) (fault : Fault) (t : Lexeme)
      (rest : Tokens) → (s : TurnsRefusedAgain fault (x ∷ mid) t rest) → ends ts ≡ false → 1 ≤ length r.used → (us : Tokens) (m : ℕ)
      → length ((r.used ++ s.front) ++ t ∷ us) ≤ m → take (lookahead fault) us ≡ take (lookahead fault) rest
      → IsRefusal (repeated_phrase m ends phrase ((r.used ++ s.front) ++ t ∷ us))
  refused_again ts found x mid r fault t rest s going some us zero fits alike = absurd (no_turn r.used s.front t us fits)
  refused_again ts found x mid r fault t rest s going some us (suc m) fits alike =
      let next = turn ts found x mid r s.front t rest us s.parts going some m fits in
      subst IsRefusal (sym next.0) (still_refused (repeated_phrase m ends phrase (s.front ++ t ∷ us)) (λ more. give (found ++ more)) (s.again us m next.1 alike))

  refused_here : (ts : Tokens) (fault : Fault) (t : Lexeme) (rest : Tokens) (r : RefusesAgain phrase ts fault t rest) → ends ts ≡ false → (us : Tokens) (m : ℕ)
      → length (r.front ++ t ∷ us) ≤ m → take (lookahead fault) us ≡ take (lookahead fault) rest
      → IsRefusal (repeated_phrase m ends phrase (r.front ++ t ∷ us))
  refused_here ts fault t rest r going us zero fits alike = absurd (omega (arith, fits, length-append r.front (t ∷ us)))
  refused_here ts fault t rest r going us (suc m) fits alike =
      let still : ends (r.front ++ t ∷ us) ≡ false = sym (same_test ends looks r.front t rest us) ∙ ap ends (sym r.parts) ∙ going in
      subst IsRefusal (sym (another m ends phrase (r.front ++ t ∷ us) still))
      (still_refused (phrase (r.front ++ t ∷ us)) (λ found rest. prepended found (repeated_phrase m ends phrase rest)) (r.again us alike))

  -- ---- so many turns

  abbrev ReadsInTurns : ℕ → Type 0
  ReadsInTurns n = (ts : Tokens) (all : List A) (t : Lexeme) (rest : Tokens) → length ts ≤ n → AreTurns all n ts (t ∷ rest) → TurnsAgain all ts t rest

  abbrev RefusesInTurns : ℕ → Type 0
  RefusesInTurns n = (ts : Tokens) (fault : Fault) (t : Lexeme) (rest : Tokens) → length ts ≤ n → repeated_phrase n ends phrase ts ≡ Refused fault (t ∷ rest)
      → TurnsRefusedAgain fault ts t rest

  after_turn : (n : ℕ) → ReadsInTurns n → (ts : Tokens) (all : List A) (t : Lexeme) (rest : Tokens) → length ts ≤ suc n → ends ts ≡ false
      → (o : Parsed (List A)) → phrase ts ≡ o → after_read o (λ found rest. prepended found (repeated_phrase n ends phrase rest)) ≡ Read all (t ∷ rest)
      → TurnsAgain all ts t rest
  after_turn n later ts all t rest fits going (Refused fault at) is h = absurd (cc)
  after_turn n later ts all t rest fits going (Read found []) is h =
      let more = read_alone found all (repeated_phrase n ends phrase []) (t ∷ rest) h in
      let s = later [] more.0 t rest (omega arith) more.1 in
      absurd (no_end s.used t rest s.parts)
  after_turn n later ts all t rest fits going (Read found (x ∷ mid)) is h =
      let r = p.reads ts found x mid is in
      let some = some_used ts found x mid r going is r.used refl in
      let more = read_alone found all (repeated_phrase n ends phrase (x ∷ mid)) (t ∷ rest) h in
      let s = later (x ∷ mid) more.0 t rest (shorter n ts r.used x mid fits some r.parts) more.1 in
      record {
        used = r.used ++ s.used;
        parts = r.parts ∙ ap (λ xs. r.used ++ xs) s.parts ∙ sym (append_assoc r.used s.used (t ∷ rest));
        again = read_again ts found more.0 all x mid r t rest more.2 s going some;
      }

  refused_turn : (n : ℕ) → RefusesInTurns n → (ts : Tokens) (fault : Fault) (t : Lexeme) (rest : Tokens) → length ts ≤ suc n → ends ts ≡ false
      → (o : Parsed (List A)) → phrase ts ≡ o → after_read o (λ found rest. prepended found (repeated_phrase n ends phrase rest)) ≡ Refused fault (t ∷ rest)
      → TurnsRefusedAgain fault ts t rest
  refused_turn n later ts fault t rest fits going (Refused f at) is h =
      let r = p.refuses ts fault t rest (is ∙ h) in
      record { front = r.front; parts = r.parts; again = refused_here ts fault t rest r going }
  refused_turn n later ts fault t rest fits going (Read found []) is h =
      let s = later [] fault t rest (omega arith) (refused_alone found (repeated_phrase n ends phrase []) fault (t ∷ rest) h) in
      absurd (no_end s.front t rest s.parts)
  refused_turn n later ts fault t rest fits going (Read found (x ∷ mid)) is h =
      let r = p.reads ts found x mid is in
      let some = some_used ts found x mid r going is r.used refl in
      let s = later (x ∷ mid) fault t rest (shorter n ts r.used x mid fits some r.parts)
      (refused_alone found (repeated_phrase n ends phrase (x ∷ mid)) fault (t ∷ rest) h) in
      record {
        front = r.used ++ s.front;
        parts = r.parts ∙ ap (λ xs. r.used ++ xs) s.parts ∙ sym (append_assoc r.used s.front (t ∷ rest));
        again = refused_again ts found x mid r fault t rest s going some;
      }

  at_turn : (n : ℕ) → ReadsInTurns n → (ts : Tokens) (all : List A) (t : Lexeme) (rest : Tokens) → length ts ≤ suc n → (b : Bool) → ends ts ≡ b
      → AreTurns all (suc n) ts (t ∷ rest) → TurnsAgain all ts t rest
  at_turn n later ts all t rest fits true is h =
      let same = same_read [] all ts (t ∷ rest) (sym (ended (suc n) ends phrase ts is) ∙ h) in
      record {
        used = [];
        parts = same.1;
        again = λ us m fits. ended m ends phrase (t ∷ us) (sym (looks t rest us) ∙ ap ends (sym same.1) ∙ is) ∙ ap (λ xs. Read xs (t ∷ us)) same.0;
      }
  at_turn n later ts all t rest fits false is h = after_turn n later ts all t rest fits is (phrase ts) refl (sym (another n ends phrase ts is) ∙ h)

  refused_at_turn : (n : ℕ) → RefusesInTurns n → (ts : Tokens) (fault : Fault) (t : Lexeme) (rest : Tokens) → length ts ≤ suc n → (b : Bool) → ends ts ≡ b
      → repeated_phrase (suc n) ends phrase ts ≡ Refused fault (t ∷ rest) → TurnsRefusedAgain fault ts t rest
  refused_at_turn n later ts fault t rest fits true is h = let e = ended (suc n) ends phrase ts is in absurd (cc)
  refused_at_turn n later ts fault t rest fits false is h =
      refused_turn n later ts fault t rest fits is (phrase ts) refl (sym (another n ends phrase ts is) ∙ h)

  reads_turns : (n : ℕ) → ReadsInTurns n
  reads_turns zero [] all t rest fits h = let e = none_left ends phrase [] in absurd (cc)
  reads_turns zero (x ∷ ts) all t rest fits h = absurd (omega (arith, fits))
  reads_turns (suc n) ts all t rest fits h = at_turn n (reads_turns n) ts all t rest fits (ends ts) refl h

  refuses_turns : (n : ℕ) → RefusesInTurns n
  refuses_turns zero ts fault t rest fits h = let e = none_left ends phrase ts in absurd (cc)
  refuses_turns (suc n) ts fault t rest fits h = refused_at_turn n (refuses_turns n) ts fault t rest fits (ends ts) refl h

  pub repeats : IsPredictive 0 (many ends phrase)
  repeats = record {
    reads = λ ts all t rest is.
        let r = reads_turns (length ts) ts all t rest (omega arith) is in
        record { used = r.used; parts = r.parts; enough = omega arith; again = λ us. r.again us (length (r.used ++ t ∷ us)) (omega arith) };
    refuses = λ ts fault t rest is.
        let r = refuses_turns (length ts) ts fault t rest (omega arith) is in
        record { front = r.front; parts = r.parts; again = λ us alike. r.again us (length (r.front ++ t ∷ us)) (omega arith) alike };
  }

  -- ---- a token that does not end it

  module _ (t : Lexeme) (going : (rest : Tokens) → ends (t ∷ rest) ≡ false) where
    longer : (rest : Tokens) (found : List A) (x : Lexeme) (mid : Tokens) (r : ReadsAgain 0 phrase (t ∷ rest) found x mid)
        → phrase (t ∷ rest) ≡ Read found (x ∷ mid) → 1 ≤ length r.used
    longer rest found x mid r is = some_used (t ∷ rest) found x mid r (going rest) is r.used refl

    not_none : (us : Tokens) → 1 ≤ length us → us ≡ [] → ⊥
    not_none us some none = omega (arith, some, ap length none)

    reads_beyond : (rest : Tokens) (all : List A) (o : Parsed (List A)) → phrase (t ∷ rest) ≡ o
        → after_read o (λ found rest2. prepended found (repeated_phrase (length rest) ends phrase rest2)) ≡ Read all (t ∷ rest) → ⊥
    reads_beyond rest all (Refused fault at) is h = cc
    reads_beyond rest all (Read found []) is h =
        let more = read_alone found all (repeated_phrase (length rest) ends phrase []) (t ∷ rest) h in
        let s = reads_turns (length rest) [] more.0 t rest (omega arith) more.1 in
        no_end s.used t rest s.parts
    reads_beyond rest all (Read found (x ∷ mid)) is h =
        let r = p.reads (t ∷ rest) found x mid is in
        let some = longer rest found x mid r is in
        let more = read_alone found all (repeated_phrase (length rest) ends phrase (x ∷ mid)) (t ∷ rest) h in
        let s = reads_turns (length rest) (x ∷ mid) more.0 t rest (shorter (length rest) (t ∷ rest) r.used x mid (omega arith) some r.parts) more.1 in
        not_shorter t rest r.used (x ∷ mid) s.used (not_none r.used some) r.parts s.parts

    pub many_reads_on : ReadsOn (many ends phrase) t
    many_reads_on rest all h = reads_beyond rest all (phrase (t ∷ rest)) refl (sym (another (length rest) ends phrase (t ∷ rest) (going rest)) ∙ h)

    refuses_beyond : TakesToken phrase t → (rest : Tokens) (fault : Fault) (o : Parsed (List A)) → phrase (t ∷ rest) ≡ o
        → after_read o (λ found rest2. prepended found (repeated_phrase (length rest) ends phrase rest2)) ≡ Refused fault (t ∷ rest) → ⊥
    refuses_beyond taken rest fault (Refused f at) is h = taken.never_refused rest fault (is ∙ h)
    refuses_beyond taken rest fault (Read found []) is h =
        let s = refuses_turns (length rest) [] fault t rest (omega arith)
        (refused_alone found (repeated_phrase (length rest) ends phrase []) fault (t ∷ rest) h) in
        no_end s.front t rest s.parts
    refuses_beyond taken rest fault (Read found (x ∷ mid)) is h =
        let r = p.reads (t ∷ rest) found x mid is in
        let some = longer rest found x mid r is in
        let s = refuses_turns (length rest) (x ∷ mid) fault t rest (shorter (length rest) (t ∷ rest) r.used x mid (omega arith) some r.parts)
        (refused_alone found (repeated_phrase (length rest) ends phrase (x ∷ mid)) fault (t ∷ rest) h) in
        not_shorter t rest r.used (x ∷ mid) s.front (not_none r.used some) r.parts s.parts

    pub many_takes : TakesToken phrase t → TakesToken (many ends phrase) t
    many_takes taken = record {
      reads_on = many_reads_on;
      never_refused = λ rest fault h.
          refuses_beyond taken rest fault (phrase (t ∷ rest)) refl (sym (another (length rest) ends phrase (t ∷ rest) (going rest)) ∙ h);
    }

-- a phrase that takes a token each time
pub many_of : {A : Type 0} {phrase : Phrase (List A)} (ends : Tokens → Bool) → LooksAtOne ends → IsPredictive 1 phrase → IsPredictive 0 (many ends phrase)
many_of {A} {phrase} ends looks p = repeats ends looks phrase (any p) (takes_some ends phrase p)
