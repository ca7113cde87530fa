-- The walk over the functions that an expression reaches: it scans each of them, and none twice.
use Rattle.std.proofs.Common.{◌≡◌, ◌↔◌, ◌⊎◌, inl, inr, ⊎_elim, ℕ, suc, ◌+◌, ◌<◌, ◌≤◌, ◌||◌, Bool, true, false, cond, List, [], ◌∷◌, ◌++◌, length, map, Option}
use Rattle.std.proofs.Common.{Some, None, refl, ap, sym, ◌∙◌, subst, arith, IsTrue, IsSome, is_some, Bor, length-append, option_to_list}
use Rattle.std.proofs.lemmas.List.{map-append}
use Rattle.just_resolution.specs.Prelude.{CallOf, Expr, FindsBeyond, FindsBody, FindsUnreadable, Function, IsAdmitted, IsAmong, IsIn, Occurs, ReadsWithin, Text}
use Rattle.just_resolution.specs.Prelude.{Token, VariableOf, called_names, calls_of, function_at, occurrences_in, texts}
use Rattle.std.specs.Str.{bytes_eq}
use Rattle.std.proofs.lemmas.Bool.{or_cases, or_left, or_right}
use Rattle.std.proofs.lemmas.Slice.Eq.{bytes_eq-Decides}
use Rattle.just_syntax.proofs.Lists.{in_append}
use Rattle.just_meaning.proofs.Reached.{reaches_on}
use Rattle.just_meaning.specs.Reaches.{Reaches, Here, Later}
use Rattle.just_meaning.proofs.Names.{AddsName}
use Rattle.just_resolution.proofs.Occurrences.{all_called, all_may_be_read, reads_all, unreadable_alike}

-- a name is admitted or pending
abbrev pub IsSettled : (Text → Bool) → List Text → Text → Type 0
IsSettled admitted pending t = IsTrue (admitted t) ⊎ IsIn pending t

-- The invariant of the walk. What the expression and the admitted functions call is admitted or pending, and what is
-- pending is reached. The expression reads by itself only what it may, and admitted functions read only what bodies
-- may.
pub record IsWalked (functions : List Function) (e : Expr) (here readable : ℕ → Bool) (admitted : Text → Bool) (pending : List Text) : Type 0 where
  pub start : (name : Text) (n : ℕ) → Occurs e (CallOf name n) → IsSettled admitted pending name
  pub own : (n : ℕ) → Occurs e (VariableOf (Some n)) → IsTrue (here n)
  pub reads : (name : Text) (f : Function) → IsTrue (admitted name) → function_at functions name ≡ Some f → (n : ℕ) → Occurs f.body (VariableOf (Some n))
      → IsAmong f.parameters n ⊎ IsTrue (readable n)
  pub calls : (name : Text) (f : Function) → IsTrue (admitted name) → function_at functions name ≡ Some f → (further : Text) (n : ℕ)
      → Occurs f.body (CallOf further n) → IsSettled admitted pending further
  pub reached : (name : Text) → IsIn pending name → Reaches functions e name

-- with no own numbers, what may be read is readable
pub own_out : (own readable : Bool) → own ≡ false → IsTrue (own || readable) → IsTrue readable
own_out own readable off h = subst (λ b. (b || readable) ≡ true) off h

-- what is found in the body of a function that a look-up found
pub body_found : (o : Option Function) (f : Function) (own readable : ℕ → Bool) (r : Option Token) → o ≡ Some f
    → ((n : ℕ) → IsTrue (own n) ↔ IsAmong f.parameters n) → FindsUnreadable (λ n. IsTrue (own n || readable n)) (occurrences_in f.body) r →
    FindsBody o (λ n. IsTrue (readable n)) r
body_found o f own readable r found owns h =
    subst (λ (p : Option Function). FindsBody p (λ n. IsTrue (readable n)) r) (sym found)
    (unreadable_alike (λ n. IsTrue (own n || readable n)) (λ n. IsAmong f.parameters n ⊎ IsTrue (readable n))
    (λ n. (
      (λ k. ⊎_elim (λ mine. inl ((owns n).0 mine)) (λ other. inr other) (or_cases (own n) (readable n) k)),
      (λ k. ⊎_elim (λ mine. or_left (own n) (readable n) ((owns n).1 mine)) (λ other. or_right (own n) (readable n) other) k),
    )) (occurrences_in f.body) r h)

-- nothing is found in a function's body: it reads only its parameters and what is readable
pub body_reads : (o : Option Function) (readable : ℕ → Bool) (r : Option Token) → is_some r ≡ false → FindsBody o (λ n. IsTrue (readable n)) r → (f : Function)
    → o ≡ Some f → (n : ℕ) → Occurs f.body (VariableOf (Some n)) → IsAmong f.parameters n ⊎ IsTrue (readable n)
body_reads o readable r none h f found =
    reads_all (λ n. IsAmong f.parameters n ⊎ IsTrue (readable n)) f.body r none
    (subst (λ (p : Option Function). FindsBody p (λ n. IsTrue (readable n)) r) found h)

module _ (functions : List Function) where
  -- a closed set that holds what an expression calls holds what it reaches
  reached_admitted : {e : Expr} {name : Text} (readable : ℕ → Bool) (admitted : Text → Bool) → IsAdmitted functions readable admitted
      → ((t : Text) (n : ℕ) → Occurs e (CallOf t n) → IsTrue (admitted t)) → Reaches functions e name → IsTrue (admitted name)
  reached_admitted {name = name} readable admitted closed start (Here n s) = start name n s
  reached_admitted readable admitted closed start (Later mid n s f found rest) =
      reached_admitted readable admitted closed (λ t k there. closed.calls mid f (start mid n s) found t k there) rest

  module _ (e : Expr) (here readable : ℕ → Bool) where
    abbrev pub ReadsOnlyReadable : Type 0
    ReadsOnlyReadable = ReadsWithin functions e here readable

    -- at the start nothing more is admitted, and what the expression calls is pending
    pub begins : (admitted : Text → Bool) (pending : List Text) → IsAdmitted functions readable admitted → pending ≡ called_names (occurrences_in e)
        → ((n : ℕ) → Occurs e (VariableOf (Some n)) → IsTrue (here n)) → IsWalked functions e here readable admitted pending
    begins admitted pending closed is own = record {
      start = λ name n s. inr (subst (λ names. IsIn names name) (sym is) ((all_called e name).1 (n, s)));
      own = own;
      reads = closed.reads;
      calls = λ name f h found further n s. inl (closed.calls name f h found further n s);
      reached = λ name h. let call = (all_called e name).0 (subst (λ names. IsIn names name) is h) in Here call.0 call.1;
    }

    -- what is found in the expression itself
    pub found_at_once : (own : ℕ → Bool) (r : Option Token) → is_some r ≡ true → ((n : ℕ) → own n ≡ false)
        → FindsUnreadable (λ n. IsTrue (own n || here n)) (occurrences_in e) r → FindsBeyond functions e here readable r
    found_at_once own r some none h = by r some
        (unreadable_alike (λ n. IsTrue (own n || here n)) (λ n. IsTrue (here n))
        (λ n. ((λ k. own_out (own n) (here n) (none n) k), (λ k. or_right (own n) (here n) k))) (occurrences_in e) r h)
      where
        by : (q : Option Token) → is_some q ≡ true → FindsUnreadable (λ n. IsTrue (here n)) (occurrences_in e) q → FindsBeyond functions e here readable q
        by None some_q k = absurd (let bad : false ≡ true = some_q in cc)
        by (Some v) some_q k = inl k

    -- nothing is found in the expression itself
    pub reads_at_once : (own : ℕ → Bool) (r : Option Token) → is_some r ≡ false → ((n : ℕ) → own n ≡ false)
        → FindsUnreadable (λ n. IsTrue (own n || here n)) (occurrences_in e) r → (n : ℕ) → Occurs e (VariableOf (Some n)) → IsTrue (here n)
    reads_at_once own r nothing none h n s = own_out (own n) (here n) (none n) (reads_all (λ k. IsTrue (own k || here k)) e r nothing h n s)

    -- what is found in the body of a reached function
    pub found_within : (admitted : Text → Bool) (front pending : List Text) (name : Text) (r : Option Token)
        → IsWalked functions e here readable admitted pending → pending ≡ front ++ name ∷ [] → is_some r ≡ true →
        FindsBody (function_at functions name) (λ n. IsTrue (readable n)) r → FindsBeyond functions e here readable r
    found_within admitted front pending name r w is some h = by r (function_at functions name) refl some h
      where
        reached : Reaches functions e name
        reached = w.reached name (subst (λ names. IsIn names name) (sym is) ((in_append front (name ∷ []) name).1 (inr (inl refl))))

        by : (q : Option Token) (o : Option Function) → function_at functions name ≡ o → is_some q ≡ true → FindsBody o (λ n. IsTrue (readable n)) q
            → FindsBeyond functions e here readable q
        by None o found some_q k = absurd (let bad : false ≡ true = some_q in cc)
        by (Some v) None found some_q k = absurd (let bad : Some v ≡ None = k in cc)
        by (Some v) (Some f) found some_q k =
            inr ((all_may_be_read (λ n. IsTrue (here n)) e).1 w.own, record { name = name; function = f; reached = reached; found = found; first = k })

    module _ (admitted next_admitted : Text → Bool) (front next : List Text) (name : Text)
        (w : IsWalked functions e here readable admitted (front ++ name ∷ [])) (adds : AddsName admitted next_admitted name) (kept : (t : Text) → IsIn front t
        → IsIn next t) where
      settled_on : (t : Text) → IsSettled admitted (front ++ name ∷ []) t → IsSettled next_admitted next t
      settled_on t h = ⊎_elim (λ a. inl ((adds t).1 (inr a)))
          (λ k. ⊎_elim (λ j. inr (kept t j)) (λ j. ⊎_elim (λ same. inl ((adds t).1 (inl same))) (λ bad. absurd bad) j) ((in_append front (name ∷ []) t).0 k)) h

      -- one more name is admitted: its function reads only what it may, and what it calls is admitted or pending
      step : ((f : Function) → function_at functions name ≡ Some f → (n : ℕ) → Occurs f.body (VariableOf (Some n)) → IsAmong f.parameters n
          ⊎ IsTrue (readable n)) →
          ((f : Function) → function_at functions name ≡ Some f → (further : Text) (n : ℕ) → Occurs f.body (CallOf further n)
          → IsSettled next_admitted next further) →
          ((t : Text) → IsIn next t → Reaches functions e t) → IsWalked functions e here readable next_admitted next
      step reads calls reached = record {
        start = λ t n s. settled_on t (w.start t n s);
        own = w.own;
        reads = λ t f h found n s. ⊎_elim (λ same. reads f (ap (function_at functions) same ∙ found) n s) (λ old. w.reads t f old found n s) ((adds t).0 h);
        calls = λ t f h found further n s. ⊎_elim (λ same. calls f (ap (function_at functions) same ∙ found) further n s)
            (λ old. settled_on further (w.calls t f old found further n s)) ((adds t).0 h);
        reached = reached;
      }

    -- the last pending name was already admitted
    pub passes : (admitted next_admitted : Text → Bool) (front : List Text) (name : Text) → IsWalked functions e here readable admitted (front ++ name ∷ [])
        → AddsName admitted next_admitted name → IsTrue (admitted name) →
        IsWalked functions e here readable next_admitted front
    passes admitted next_admitted front name w adds there =
        step admitted next_admitted front front name w adds (λ t h. h)
        (λ f found n s. w.reads name f there found n s)
        (λ f found further n s. settled_on admitted next_admitted front front name w adds (λ t h. h) further (w.calls name f there found further n s))
        (λ t h. w.reached t ((in_append front (name ∷ []) t).1 (inl h)))

    -- the last pending name is admitted now, and what its body calls is pending
    pub admits : (admitted next_admitted : Text → Bool) (front next : List Text) (name : Text)
        → IsWalked functions e here readable admitted (front ++ name ∷ []) → AddsName admitted next_admitted name →
        ((f : Function) → function_at functions name ≡ Some f → (n : ℕ) → Occurs f.body (VariableOf (Some n)) → IsAmong f.parameters n ⊎ IsTrue (readable n)) →
        next ≡ front ++ calls_of (function_at functions name) → IsWalked functions e here readable next_admitted next
    admits admitted next_admitted front next name w adds reads is =
        step admitted next_admitted front next name w adds
        (λ t h. subst (λ names. IsIn names t) (sym is) ((in_append front (calls_of (function_at functions name)) t).1 (inl h)))
        reads
        (λ f found further n s. inr (subst (λ names. IsIn names further) (sym is) ((in_append front (calls_of (function_at functions name)) further).1
        (inr (subst (λ o. IsIn (calls_of o) further) (sym found) ((all_called f.body further).1 (n, s)))))))
        (λ t h. ⊎_elim (λ old. w.reached t ((in_append front (name ∷ []) t).1 (inl old))) (λ new. called_reached (function_at functions name) refl t new)
        ((in_append front (calls_of (function_at functions name)) t).0 (subst (λ names. IsIn names t) is h)))
      where
        called_reached : (o : Option Function) → function_at functions name ≡ o → (t : Text) → IsIn (calls_of o) t → Reaches functions e t
        called_reached None found t h = absurd h
        called_reached (Some f) found t h = let call =
            (all_called f.body t).0 h in reaches_on functions f call.0 (w.reached name ((in_append front (name ∷ []) name).1 (inr (inl refl)))) found call.1

    -- nothing is pending
    pub closes : (admitted : Text → Bool) → IsWalked functions e here readable admitted [] → IsAdmitted functions readable admitted
    closes admitted w = record {
      reads = w.reads;
      calls = λ name f h found further n s. ⊎_elim (λ k. k) (λ k. absurd k) (w.calls name f h found further n s);
    }

    pub all_readable : (admitted : Text → Bool) → IsWalked functions e here readable admitted [] → ReadsOnlyReadable
    all_readable admitted w = (
      w.own,
      λ n b. ⊎_elim (λ k. absurd (b.beyond k)) (λ k. k)
          (w.reads b.name b.function
          (reached_admitted readable admitted (closes admitted w) (λ t k s. ⊎_elim (λ a. a) (λ bad. absurd bad) (w.start t k s)) b.reached)
          b.found n b.occurs),
    )

-- ---- termination of the walk

-- for each function that is not admitted: one, and the number of its calls
abbrev pub work : List Function → (Text → Bool) → ℕ
work [] admitted = 0
work (f ∷ fs) admitted = cond (admitted f.name.lexeme) 0 (suc (length (called_names (occurrences_in f.body)))) + work fs admitted

module _ (admitted next : Text → Bool) (kept : (t : Text) → IsTrue (admitted t) → IsTrue (next t)) where
  part_kept : (a b : Bool) (w : ℕ) → (IsTrue a → IsTrue b) → cond b 0 w ≤ cond a 0 w
  part_kept true true w h = omega arith
  part_kept true false w h = absurd (let e : false ≡ true = h refl in cc)
  part_kept false true w h = omega arith
  part_kept false false w h = omega arith

  pub work_kept : (fs : List Function) → work fs next ≤ work fs admitted
  work_kept [] = omega arith
  work_kept (f ∷ fs) =
      let here = part_kept (admitted f.name.lexeme) (next f.name.lexeme) (suc (length (called_names (occurrences_in f.body)))) (kept f.name.lexeme) in
      let rest = work_kept fs in
      omega (arith, here, rest)

  part_falls : (a b : Bool) (w : ℕ) → a ≡ false → b ≡ true → cond b 0 w + w ≤ cond a 0 w
  part_falls true b w off on = absurd (cc)
  part_falls false true w off on = omega arith
  part_falls false false w off on = absurd (cc)

  -- one more function is admitted
  work_falls : (fs : List Function) (name : Text) (f : Function) → function_at fs name ≡ Some f → admitted name ≡ false → next name ≡ true →
      work fs next + suc (length (called_names (occurrences_in f.body))) ≤ work fs admitted
  work_falls [] name f found off on = absurd (cc)
  work_falls (g ∷ gs) name f found off on = by (bytes_eq name g.name.lexeme) refl found (λ later. work_falls gs name f later off on)
    where
      by : (b : Bool) → bytes_eq name g.name.lexeme ≡ b → cond b (Some g) (function_at gs name) ≡ Some f →
          (function_at gs name ≡ Some f → work gs next + suc (length (called_names (occurrences_in f.body))) ≤ work gs admitted)
          → work (g ∷ gs) next + suc (length (called_names (occurrences_in f.body))) ≤ work (g ∷ gs) admitted
      by true e is again =
          let key : name ≡ g.name.lexeme = (bytes_eq-Decides name g.name.lexeme).0 e in
          let same : g ≡ f = cc in
          let calls = suc (length (called_names (occurrences_in g.body))) in
          let here = part_falls (admitted g.name.lexeme) (next g.name.lexeme) calls (ap admitted (sym key) ∙ off)
          (ap next (sym key) ∙ on) in
          let rest = work_kept gs in
          let size : length (called_names (occurrences_in g.body)) ≡ length (called_names (occurrences_in f.body)) =
          ap (λ (h : Function). length (called_names (occurrences_in h.body))) same in
          omega (arith, here, rest, size)
      by false e is again =
          let here = part_kept (admitted g.name.lexeme) (next g.name.lexeme) (suc (length (called_names (occurrences_in g.body)))) (kept g.name.lexeme) in
          let rest = again is in
          omega (arith, here, rest)

  -- the work decreases by what becomes pending, and by one
  pub work_left : (fs : List Function) (name : Text) → admitted name ≡ false → next name ≡ true
      → work fs next + length (calls_of (function_at fs name)) ≤ work fs admitted
  work_left fs name off on = by (function_at fs name) refl
    where
      by : (o : Option Function) → function_at fs name ≡ o → work fs next + length (calls_of o) ≤ work fs admitted
      by None found = let rest = work_kept fs in omega (arith, rest)
      by (Some f) found = let rest = work_falls fs name f found off on in omega (arith, rest)

-- the last pending name is removed
pub falls_passed : (fs : List Function) (admitted next : Text → Bool) (front pending : List Text) (name : Text) → AddsName admitted next name
    → pending ≡ front ++ name ∷ [] → work fs next + length front < work fs admitted + length pending
falls_passed fs admitted next front pending name adds is =
    let rest = work_kept admitted next (λ t h. (adds t).1 (inr h)) fs in
    let size : length pending ≡ length front + 1 = ap length is ∙ length-append front (name ∷ []) in
    omega (arith, rest, size)

-- it is removed, and what its body calls is pending
pub falls_admitted : (fs : List Function) (admitted next_admitted : Text → Bool) (front next pending : List Text) (name : Text)
    → AddsName admitted next_admitted name → admitted name ≡ false → pending ≡ front ++ name ∷ [] →
    next ≡ front ++ calls_of (function_at fs name) → work fs next_admitted + length next < work fs admitted + length pending
falls_admitted fs admitted next_admitted front next pending name adds off is calls =
    let rest = work_left admitted next_admitted (λ t h. (adds t).1 (inr h)) fs name off ((adds name).1 (inl refl)) in
    let size : length pending ≡ length front + 1 = ap length is ∙ length-append front (name ∷ []) in
    let more : length next ≡ length front + length (calls_of (function_at fs name)) = ap length calls ∙ length-append front (calls_of (function_at fs name)) in
    omega (arith, rest, size, more)

-- ---- operations of the code

-- popping the last element of a list
pub last_popped : {X Y : Type 0} (seen : X → Y) (old new : List X) (r : Option X) (x : X) → old ≡ new ++ option_to_list r → r ≡ Some x
    → map seen old ≡ map seen new ++ seen x ∷ []
last_popped seen old new r x is some = ap (map seen) (is ∙ ap (λ o. new ++ option_to_list o) some) ∙ map-append seen new (x ∷ [])

-- popping nothing
pub none_popped : {X Y : Type 0} (seen : X → Y) (xs : List X) (r : Option X) → r ≡ None → (0 < length xs → IsSome r) → map seen xs ≡ []
none_popped seen [] r none some = refl
none_popped seen (x ∷ xs) r none some = absurd (let h : is_some r ≡ true = some (omega arith) in let e : is_some r ≡ false = ap is_some none in cc)

-- popping the last name of a list
pub popped : (old new : List (Bor Text)) (r : Option (Bor Text)) (name : Bor Text) → old ≡ new ++ option_to_list r → r ≡ Some name
    → texts old ≡ texts new ++ name.now ∷ []
popped = last_popped (λ b. b.now)

-- no name is left
pub emptied : (xs : List (Bor Text)) (r : Option (Bor Text)) → r ≡ None → (0 < length xs → IsSome r) → texts xs ≡ []
emptied = none_popped (λ b. b.now)
