-- Phrases that are decided by the tokens that they take and by the next one.
use Rattle.std.specs.Prelude.{ℕ, ◌≡◌, ◌≤◌, ◌+◌, Bool, true, false, [], ◌∷◌, ◌++◌, length, take, if◌then◌else◌}
use Rattle.std.proofs.Common.{◌∙◌, ap, arith, refl, subst, sym}
use Rattle.std.proofs.lemmas.List.{append_assoc, length-append}
use Rattle.just_lexer.specs.State.{Lexeme}
use Rattle.just_expression_parser.specs.Tokens.{Tokens}
use Rattle.just_parser.specs.Phrase.{Parsed, Phrase, Read, Refused, ◌>>=◌, ◌>>◌, after_read, give, refuse}
use Rattle.just_parser.specs.declared.parse_error.Fault.{Fault}
use Rattle.just_parser.specs.Laws.{lookahead}

-- ---- what a phrase is decided by

abbrev pub IsRefusal : {A : Type 0} → Parsed A → Type 0
IsRefusal (Read a ts) = ⊥
IsRefusal (Refused fault ts) = Unit {0}

-- nothing is read after a refusal
pub still_refused : {A B : Type 0} (outcome : Parsed A) (next : A → Phrase B) → IsRefusal outcome → IsRefusal (after_read outcome next)
still_refused (Read a ts) next is = absurd is
still_refused (Refused fault ts) next is = tt

-- what is read before a token is read before it whatever comes after it, and takes at least so many tokens
pub record ReadsAgain {A : Type 0} (least : ℕ) (phrase : Phrase A) (ts : Tokens) (a : A) (t : Lexeme) (rest : Tokens) : Type 0 where
  pub used : Tokens
  pub parts : ts ≡ used ++ t ∷ rest
  pub enough : least ≤ length used
  pub again : (us : Tokens) → phrase (used ++ t ∷ us) ≡ Read a (t ∷ us)

-- what is refused at a token is refused whatever comes after those that decide it
pub record RefusesAgain {A : Type 0} (phrase : Phrase A) (ts : Tokens) (fault : Fault) (t : Lexeme) (rest : Tokens) : Type 0 where
  pub front : Tokens
  pub parts : ts ≡ front ++ t ∷ rest
  pub again : (us : Tokens) → take (lookahead fault) us ≡ take (lookahead fault) rest → IsRefusal (phrase (front ++ t ∷ us))

-- both hold of a phrase, which takes at least so many tokens
pub record IsPredictive {A : Type 0} (least : ℕ) (phrase : Phrase A) : Type 0 where
  pub reads : (ts : Tokens) (a : A) (t : Lexeme) (rest : Tokens) → phrase ts ≡ Read a (t ∷ rest) → ReadsAgain least phrase ts a t rest
  pub refuses : (ts : Tokens) (fault : Fault) (t : Lexeme) (rest : Tokens) → phrase ts ≡ Refused fault (t ∷ rest) → RefusesAgain phrase ts fault t rest

-- ---- tokens

pub no_end : (front : Tokens) (t : Lexeme) (rest : Tokens) → [] ≡ front ++ t ∷ rest → ⊥
no_end [] t rest same = cc
no_end (x ∷ front) t rest same = cc

-- tokens begin alike, if they are the same up to a token
pub first_stays : (m : Lexeme) (ms front : Tokens) (t : Lexeme) (rest us : Tokens) → m ∷ ms ≡ front ++ t ∷ rest
    → (later : Tokens) × (front ++ t ∷ us ≡ m ∷ later)
first_stays m ms [] t rest us same = (us, cc)
first_stays m ms (x ∷ front) t rest us same = (front ++ t ∷ us, cc)

pub same_read : {A : Type 0} (a b : A) (ts us : Tokens) → Read a ts ≡ Read b us → (a ≡ b) × (ts ≡ us)
same_read a b ts us same = (cc, cc)

pub refused_at : {A : Type 0} (f fault : Fault) (ts us : Tokens) → ◌≡◌ {A = Parsed A} (Refused f ts) (Refused fault us) → (f ≡ fault) × (ts ≡ us)
refused_at f fault ts us same = (cc, cc)

same_refused : {A B : Type 0} (f fault : Fault) (ts us : Tokens) → ◌≡◌ {A = Parsed A} (Refused f ts) (Refused fault us)
    → ◌≡◌ {A = Parsed B} (Refused f ts) (Refused fault us)
same_refused f fault ts us same = cc

-- a test that looks at the next token alone
abbrev pub LooksAtOne : (Tokens → Bool) → Type 0
LooksAtOne test = (t : Lexeme) (rest us : Tokens) → test (t ∷ rest) ≡ test (t ∷ us)

pub same_test : (test : Tokens → Bool) → LooksAtOne test → (front : Tokens) (t : Lexeme) (rest us : Tokens)
    → test (front ++ t ∷ rest) ≡ test (front ++ t ∷ us)
same_test test looks [] t rest us = looks t rest us
same_test test looks (x ∷ front) t rest us = looks x (front ++ t ∷ rest) (front ++ t ∷ us)

-- ---- no token

pub gives : {A : Type 0} (a : A) → IsPredictive 0 (give a)
gives a = record {
  reads = λ ts b t rest is. record {
    used = [];
    parts = (same_read a b ts (t ∷ rest) is).1;
    enough = omega arith;
    again = λ us. ap (λ c. Read c (t ∷ us)) (same_read a b ts (t ∷ rest) is).0;
  };
  refuses = λ ts fault t rest is. absurd (cc);
}

-- the next token is refused, if that looks no further
pub refuses_next : {A : Type 0} {least : ℕ} (fault : Fault) → IsPredictive {A = A} least (refuse fault)
refuses_next fault = record {
  reads = λ ts b t rest is. absurd (cc);
  refuses = λ ts f t rest is. record { front = []; parts = (refused_at fault f ts (t ∷ rest) is).1; again = λ us alike. tt };
}

-- a phrase takes no fewer tokens than one that it takes more of
pub at_least : {A : Type 0} {least more : ℕ} {phrase : Phrase A} → least ≤ more → IsPredictive more phrase → IsPredictive least phrase
at_least less p = record {
  reads = λ ts a t rest is.
      let r = p.reads ts a t rest is in
      record { used = r.used; parts = r.parts; enough = omega (arith, less, r.enough); again = r.again };
  refuses = p.refuses;
}

-- what reads like another phrase
pub alike : {A : Type 0} {least : ℕ} (phrase other : Phrase A) → ((ts : Tokens) → phrase ts ≡ other ts) → IsPredictive least other
    → IsPredictive least phrase
alike phrase other same p = record {
  reads = λ ts a t rest is.
      let r = p.reads ts a t rest (sym (same ts) ∙ is) in
      record { used = r.used; parts = r.parts; enough = r.enough; again = λ us. same (r.used ++ t ∷ us) ∙ r.again us };
  refuses = λ ts fault t rest is.
      let r = p.refuses ts fault t rest (sym (same ts) ∙ is) in
      record { front = r.front; parts = r.parts; again = λ us so. subst IsRefusal (sym (same (r.front ++ t ∷ us))) (r.again us so) };
}

-- ---- one of two phrases, by the next token

module _ {A : Type 0} (test : Tokens → Bool) (looks : LooksAtOne test) (phrase : Phrase A) where
  -- the same side is taken again
  chosen : (side : Phrase A) (b : Bool) → ((ts : Tokens) → test ts ≡ b → phrase ts ≡ side ts) → (ts front : Tokens) (t : Lexeme) (rest us : Tokens)
      → ts ≡ front ++ t ∷ rest → test ts ≡ b → phrase (front ++ t ∷ us) ≡ side (front ++ t ∷ us)
  chosen side b goes ts front t rest us parts is = goes (front ++ t ∷ us) (sym (same_test test looks front t rest us) ∙ ap test (sym parts) ∙ is)

  side_reads : {least : ℕ} (side : Phrase A) (b : Bool) → ((ts : Tokens) → test ts ≡ b → phrase ts ≡ side ts) → IsPredictive least side
      → (ts : Tokens) (a : A) (t : Lexeme) (rest : Tokens) → test ts ≡ b → phrase ts ≡ Read a (t ∷ rest) → ReadsAgain least phrase ts a t rest
  side_reads side b goes p ts a t rest is h =
      let r = p.reads ts a t rest (sym (goes ts is) ∙ h) in
      record { used = r.used; parts = r.parts; enough = r.enough; again = λ us. chosen side b goes ts r.used t rest us r.parts is ∙ r.again us }

  side_refuses : {least : ℕ} (side : Phrase A) (b : Bool) → ((ts : Tokens) → test ts ≡ b → phrase ts ≡ side ts) → IsPredictive least side
      → (ts : Tokens) (fault : Fault) (t : Lexeme) (rest : Tokens) → test ts ≡ b → phrase ts ≡ Refused fault (t ∷ rest) → RefusesAgain phrase ts fault t rest
  side_refuses side b goes p ts fault t rest is h =
      let r = p.refuses ts fault t rest (sym (goes ts is) ∙ h) in
      record {
        front = r.front;
        parts = r.parts;
        again = λ us so. subst IsRefusal (sym (chosen side b goes ts r.front t rest us r.parts is)) (r.again us so);
      }

  pub chooses : {least : ℕ} (first second : Phrase A) → ((ts : Tokens) → test ts ≡ true → phrase ts ≡ first ts)
      → ((ts : Tokens) → test ts ≡ false → phrase ts ≡ second ts)
      → IsPredictive least first → IsPredictive least second → IsPredictive least phrase
  chooses {least} first second here there one other = record {
    reads = λ ts a t rest is. read_by ts a t rest (test ts) refl is;
    refuses = λ ts fault t rest is. refused_by ts fault t rest (test ts) refl is;
  } where
    read_by : (ts : Tokens) (a : A) (t : Lexeme) (rest : Tokens) (b : Bool) → test ts ≡ b → phrase ts ≡ Read a (t ∷ rest) → ReadsAgain least phrase ts a t rest
    read_by ts a t rest true is h = side_reads first true here one ts a t rest is h
    read_by ts a t rest false is h = side_reads second false there other ts a t rest is h

    refused_by : (ts : Tokens) (fault : Fault) (t : Lexeme) (rest : Tokens) (b : Bool) → test ts ≡ b → phrase ts ≡ Refused fault (t ∷ rest)
        → RefusesAgain phrase ts fault t rest
    refused_by ts fault t rest true is h = side_refuses first true here one ts fault t rest is h
    refused_by ts fault t rest false is h = side_refuses second false there other ts fault t rest is h

-- ---- phrases one after another

module _ {A B : Type 0} {least more : ℕ} (first : Phrase A) (next : A → Phrase B) (one : IsPredictive least first)
    (other : (a : A) → IsPredictive more (next a)) where
  -- the second phrase is there again
  goes_on : (ts : Tokens) (a : A) (m : Lexeme) (ms : Tokens) (r : ReadsAgain least first ts a m ms) (front : Tokens) (t : Lexeme) (rest us : Tokens)
      → m ∷ ms ≡ front ++ t ∷ rest → after_read (first ((r.used ++ front) ++ t ∷ us)) next ≡ next a (front ++ t ∷ us)
  goes_on ts a m ms r front t rest us same =
      let s = first_stays m ms front t rest us same in
      ap (λ xs. after_read (first xs) next) (append_assoc r.used front (t ∷ us) ∙ ap (λ xs. r.used ++ xs) s.1)
      ∙ ap (λ o. after_read o next) (r.again s.0) ∙ ap (next a) (sym s.1)

  joined : (ts : Tokens) (used : Tokens) (mid front : Tokens) (t : Lexeme) (rest : Tokens) → ts ≡ used ++ mid → mid ≡ front ++ t ∷ rest
      → ts ≡ (used ++ front) ++ t ∷ rest
  joined ts used mid front t rest parts later = parts ∙ ap (λ xs. used ++ xs) later ∙ sym (append_assoc used front (t ∷ rest))

  then_read : (ts : Tokens) (b : B) (t : Lexeme) (rest : Tokens) (outcome : Parsed A) → first ts ≡ outcome → after_read outcome next ≡ Read b (t ∷ rest)
      → ReadsAgain (least + more) (first >>= next) ts b t rest
  then_read ts b t rest (Refused fault at) is h = absurd (cc)
  then_read ts b t rest (Read a []) is h = absurd (no_end _ t rest ((other a).reads [] b t rest h).parts)
  then_read ts b t rest (Read a (m ∷ ms)) is h =
      let r = one.reads ts a m ms is in
      let s = (other a).reads (m ∷ ms) b t rest h in
      record {
        used = r.used ++ s.used;
        parts = joined ts r.used (m ∷ ms) s.used t rest r.parts s.parts;
        enough = omega (arith, length-append r.used s.used, r.enough, s.enough);
        again = λ us. goes_on ts a m ms r s.used t rest us s.parts ∙ s.again us;
      }

  then_refused : (ts : Tokens) (fault : Fault) (t : Lexeme) (rest : Tokens) (outcome : Parsed A) → first ts ≡ outcome
      → after_read outcome next ≡ Refused fault (t ∷ rest) → RefusesAgain (first >>= next) ts fault t rest
  then_refused ts fault t rest (Refused f at) is h =
      let r = one.refuses ts fault t rest (is ∙ same_refused f fault at (t ∷ rest) h) in
      record { front = r.front; parts = r.parts; again = λ us alike. still_refused (first (r.front ++ t ∷ us)) next (r.again us alike) }
  then_refused ts fault t rest (Read a []) is h = absurd (no_end _ t rest ((other a).refuses [] fault t rest h).parts)
  then_refused ts fault t rest (Read a (m ∷ ms)) is h =
      let r = one.reads ts a m ms is in
      let s = (other a).refuses (m ∷ ms) fault t rest h in
      record {
        front = r.used ++ s.front;
        parts = joined ts r.used (m ∷ ms) s.front t rest r.parts s.parts;
        again = λ us alike. subst IsRefusal (sym (goes_on ts a m ms r s.front t rest us s.parts)) (s.again us alike);
      }

  pub in_turn : IsPredictive (least + more) (first >>= next)
  in_turn = record {
    reads = λ ts b t rest is. then_read ts b t rest (first ts) refl is;
    refuses = λ ts fault t rest is. then_refused ts fault t rest (first ts) refl is;
  }

-- ---- the same, with what is said of the phrases alone

pub follows : {A B : Type 0} {least more : ℕ} {first : Phrase A} {next : A → Phrase B} → IsPredictive least first → ((a : A) → IsPredictive more (next a))
    → IsPredictive (least + more) (first >>= next)
follows {A} {B} {least} {more} {first} {next} one other = in_turn first next one other

-- a phrase that may take more than nothing
pub any : {A : Type 0} {least : ℕ} {phrase : Phrase A} → IsPredictive least phrase → IsPredictive 0 phrase
any p = at_least (omega arith) p

-- one of two phrases, by what is no token
pub either : {A : Type 0} {least : ℕ} {first second : Phrase A} (b : Bool) → IsPredictive least first → IsPredictive least second
    → IsPredictive least (if b then first else second)
either true one other = one
either false one other = other

pub by_test : {A : Type 0} {least : ℕ} {first second : Phrase A} (test : Tokens → Bool) → LooksAtOne test → IsPredictive least first
    → IsPredictive least second → IsPredictive least (λ ts. if test ts then first ts else second ts)
by_test {A} {least} {first} {second} test looks one other =
    chooses test looks (λ ts. if test ts then first ts else second ts) first second (λ ts is. rw is refl) (λ ts is. rw is refl) one other

-- ---- a phrase takes a token

-- it does not end by reading nothing before this token
abbrev pub ReadsOn : {A : Type 0} → Phrase A → Lexeme → Type 0
ReadsOn {A} phrase t = (rest : Tokens) (a : A) → phrase (t ∷ rest) ≡ Read a (t ∷ rest) → ⊥

-- nor by refusing it
pub record TakesToken {A : Type 0} (phrase : Phrase A) (t : Lexeme) : Type 0 where
  pub reads_on : ReadsOn phrase t
  pub never_refused : (rest : Tokens) (fault : Fault) → phrase (t ∷ rest) ≡ Refused fault (t ∷ rest) → ⊥

-- what takes a token reads something before none
pub not_itself : (t : Lexeme) (rest used : Tokens) → 1 ≤ length used → t ∷ rest ≡ used ++ t ∷ rest → ⊥
not_itself t rest used some same = omega (arith, some, ap length same, length-append used (t ∷ rest))

pub reads_some : {A : Type 0} {phrase : Phrase A} → IsPredictive 1 phrase → (t : Lexeme) → ReadsOn phrase t
reads_some p t rest a is = let r = p.reads (t ∷ rest) a t rest is in not_itself t rest r.used r.enough r.parts

pub not_shorter : (t : Lexeme) (rest used mid front : Tokens) → (used ≡ [] → ⊥) → t ∷ rest ≡ used ++ mid → mid ≡ front ++ t ∷ rest → ⊥
not_shorter t rest [] mid front some parts later = some refl
not_shorter t rest (x ∷ used) mid front some parts later =
    omega (arith, ap length parts, ap length later, length-append used mid, length-append front (t ∷ rest))

module _ {A B : Type 0} {first : Phrase A} {next : A → Phrase B} (t : Lexeme) (one : IsPredictive 0 first) (other : (a : A) → IsPredictive 0 (next a)) where
  no_use : ReadsOn first t → (rest : Tokens) (a : A) (m : Lexeme) (ms : Tokens) (r : ReadsAgain 0 first (t ∷ rest) a m ms) → first (t ∷ rest) ≡ Read a (m ∷ ms)
      → r.used ≡ [] → ⊥
  no_use taken rest a m ms r is none = taken rest a (is ∙ ap (Read a) (sym (r.parts ∙ ap (λ xs. xs ++ m ∷ ms) none)))

  beyond_read : ReadsOn first t → (rest : Tokens) (b : B) (o : Parsed A) → first (t ∷ rest) ≡ o → after_read o next ≡ Read b (t ∷ rest) → ⊥
  beyond_read taken rest b (Refused f at) is h = cc
  beyond_read taken rest b (Read a []) is h = let r = (other a).reads [] b t rest h in no_end r.used t rest r.parts
  beyond_read taken rest b (Read a (m ∷ ms)) is h =
      let r = one.reads (t ∷ rest) a m ms is in
      let s = (other a).reads (m ∷ ms) b t rest h in
      not_shorter t rest r.used (m ∷ ms) s.used (no_use taken rest a m ms r is) r.parts s.parts

  -- the first of two phrases reads on
  pub reads_on_then : ReadsOn first t → ReadsOn (first >>= next) t
  reads_on_then taken rest b h = beyond_read taken rest b (first (t ∷ rest)) refl h

  -- what is refused at this token, the first of them refuses
  first_refused : ReadsOn first t → (rest : Tokens) (fault : Fault) (o : Parsed A) → first (t ∷ rest) ≡ o → after_read o next ≡ Refused fault (t ∷ rest)
      → first (t ∷ rest) ≡ Refused fault (t ∷ rest)
  first_refused taken rest fault (Refused f at) is h = is ∙ same_refused f fault at (t ∷ rest) h
  first_refused taken rest fault (Read a []) is h = let r = (other a).refuses [] fault t rest h in absurd (no_end r.front t rest r.parts)
  first_refused taken rest fault (Read a (m ∷ ms)) is h =
      let r = one.reads (t ∷ rest) a m ms is in
      let s = (other a).refuses (m ∷ ms) fault t rest h in
      absurd (not_shorter t rest r.used (m ∷ ms) s.front (no_use taken rest a m ms r is) r.parts s.parts)

  pub refused_first : ReadsOn first t → (rest : Tokens) (fault : Fault) → (first >>= next) (t ∷ rest) ≡ Refused fault (t ∷ rest)
      → first (t ∷ rest) ≡ Refused fault (t ∷ rest)
  refused_first taken rest fault h = first_refused taken rest fault (first (t ∷ rest)) refl h

  -- the first of them takes it
  pub takes_then : TakesToken first t → TakesToken (first >>= next) t
  takes_then taken = record {
    reads_on = reads_on_then taken.reads_on;
    never_refused = λ rest fault h. taken.never_refused rest fault (refused_first taken.reads_on rest fault h);
  }

-- the first of them reads nothing before it, and the second reads on, or takes it
module _ {A B : Type 0} (first : Phrase A) (next : A → Phrase B) (t : Lexeme) (a : A) (nothing : (rest : Tokens) → first (t ∷ rest) ≡ Read a (t ∷ rest)) where
  pub then_reads_on : ReadsOn (next a) t → ReadsOn (first >>= next) t
  then_reads_on taken rest b h = taken rest b (sym (ap (λ o. after_read o next) (nothing rest)) ∙ h)

  pub then_takes : TakesToken (next a) t → TakesToken (first >>= next) t
  then_takes taken = record {
    reads_on = then_reads_on taken.reads_on;
    never_refused = λ rest fault h. taken.never_refused rest fault (sym (ap (λ o. after_read o next) (nothing rest)) ∙ h);
  }
