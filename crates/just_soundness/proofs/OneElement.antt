-- Without lists a bound parameter has one element.
use Rattle.std.proofs.Common.{◌≡◌, Ordering, Less, Equal, Greater, Bool, true, false, List, [], ◌∷◌, ◌++◌, length, nat_eq, if◌then◌else◌, refl, ap, sym, subst}
use Rattle.std.specs.Ordering.{match_ordering, nat_cmp}
use Rattle.just_syntax.specs.Plain.{Text, Parameter, Recipe}
use Rattle.just_value.specs.Value.{Value}
use Rattle.just_value.specs.Frames.{Bound, Frame, Frames, bound_innermost, own_frame, with_bound}
use Rattle.just_value.specs.Outcome.{Outcome, Gave, Refused, Stopped}
use Rattle.just_value.specs.Refusal.{Internal}
use Rattle.just_host.specs.Interaction.{Tree, bind, done, refuses}
use Rattle.just_meaning.specs.Meaning.{Situation}
use Rattle.just_meaning.specs.Messages.{mismatched_text}
use Rattle.just_meaning.specs.Parameters.{Arguments, HaveOneElement, Meanings, bindings, checked, environment, parameter_bound, parameters, seeing, words_of}
use Rattle.just_interaction.proofs.Ends.{AllEnd, ends_any, ends_bind}

-- the arguments, if there are any, have this property
abbrev pub IfGave : {A : Type 0} → (A → Type 0) → Outcome A → Type 0
IfGave P (Gave a) = P a
IfGave P (Refused r) = Unit {0}
IfGave P Stopped = Unit {0}

-- whatever the first part evaluates to
bind_gave : {A B : Type 0} (P : B → Type 0) (t : Tree A) (go : A → Tree B) → ((a : A) → AllEnd (IfGave P) (go a)) → AllEnd (IfGave P) (bind t go)
bind_gave {A = A} P t go h = ends_bind (λ o. Unit {0}) (IfGave P) t go (ends_any t) (λ o any. on o)
  where
    on : (o : Outcome A) → AllEnd (IfGave P) (bind (done o) go)
    on (Gave a) = h a
    on (Refused r) = tt
    on Stopped = tt

one_put : (frame : Frame) (b : Bound) → length b.value ≡ 1 → HaveOneElement frame → HaveOneElement (with_bound frame b)
one_put [] b one h = (one, tt)
one_put (x ∷ xs) b one h = by (nat_cmp b.number x.0) (one_put xs b one h.1)
  where
    by : (o : Ordering) → HaveOneElement (with_bound xs b) → HaveOneElement (match_ordering o ((b.number, b) ∷ x ∷ xs) ((x.0, b) ∷ xs) (x ∷ with_bound xs b))
    by Less rest = (one, h)
    by Equal rest = (one, h.1)
    by Greater rest = (h.0, rest)

one_bound : (lists : Bool) (p : Parameter) (v : Value) → lists ≡ false → length (parameter_bound lists p v).value ≡ 1
one_bound true p v off = absurd (cc)
one_bound false p v off = refl

abbrev IsOne : Arguments → Type 0
IsOne a = HaveOneElement (own_frame a.frames)

module _ (means : Meanings) where
  one_bindings : (recipe : Text) (s : Situation) (frame : Frame) (outer : Frames) → s.shown ≡ frame ∷ outer → HaveOneElement frame → s.lists ≡ false
      → (words : List Text) (ps : List Parameter) (arguments : List Value) → AllEnd (IfGave IsOne) (bindings means recipe s words ps arguments)
  one_bindings recipe s frame outer is one off words [] arguments = subst (λ fs. HaveOneElement (own_frame fs)) (sym is) one
  one_bindings recipe s frame outer is one off words (p ∷ ps) [] = subst (λ fs. HaveOneElement (own_frame fs)) (sym is) one
  one_bindings recipe s frame outer is one off words (p ∷ ps) (argument ∷ arguments) =
      bind_gave IsOne (checked (means s) s.is_dependency recipe p argument) _
      (λ v. let b = parameter_bound s.lists p v in
      one_bindings recipe (seeing (bound_innermost s.shown b) s) (with_bound frame b) outer (ap (λ fs. bound_innermost fs b) is)
      (one_put frame b (one_bound s.lists p v off) one) off (words ++ words_of p v) ps arguments)

  pub one_parameters : (s : Situation) (outer : Frames) → s.shown ≡ [] ∷ outer → s.lists ≡ false
      → (recipe : Recipe) (ps : List Parameter) (arguments : List Value) → AllEnd (IfGave IsOne) (parameters means s recipe ps arguments)
  one_parameters s outer is off recipe ps arguments =
      bind_gave IsOne (environment means s recipe.attributes) _ (λ e. by e (nat_eq (length arguments) (length ps)))
    where
      by : (e : List (Text × Text)) (b : Bool)
          → AllEnd (IfGave IsOne) (if b then bindings means recipe.name.lexeme (record s { environment = e }) [] ps arguments
          else refuses (Internal mismatched_text recipe.name))
      by e true = one_bindings recipe.name.lexeme (record s { environment = e }) [] outer is tt off [] ps arguments
      by e false = tt
