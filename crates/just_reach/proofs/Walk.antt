-- The walk over members: the members in a called body are listed once, at the end.
use Rattle.std.proofs.Common.{◌≡◌, ◌↔◌, ◌⊎◌, ◌+◌, ◌≤◌, arith, append_assoc, length, length-append, inl, inr, ⊎_elim, Bool, true, false, List, [], ◌∷◌, ◌++◌}
use Rattle.std.proofs.Common.{Option, Some, None, IsTrue, refl, ap, sym, ◌∙◌, subst}
use Rattle.std.proofs.lemmas.List.{append-nil}
use Rattle.just_syntax.specs.Plain.{Text, Token, Function}
use Rattle.just_syntax.specs.Lists.{IsIn}
use Rattle.just_syntax.proofs.Lists.{in_append, in_first, in_second}
use Rattle.just_meaning.specs.Reaches.{function_at}
use Rattle.just_meaning.proofs.Names.{AddsName}
use Rattle.just_reach.specs.Member.{BuiltIn, Call, Command, PlainMember, Unknown, Variable}
use Rattle.just_reach.specs.Members.{BeginsWith, HasBodiesOnce, all_body_members, body_members, members_of_body, name_of_call}
use Rattle.just_reach.specs.Reached.{InBody, IsReachedFrom, OccursAt, Starts}
use Rattle.just_reach.proofs.Listed.{added}
use Rattle.just_reach.proofs.Work.{function_names, member_work, work_begins, work_kept, work_left}

-- The invariant of the walk. The list begins with the starting members, and with the bodies that are not called yet it is
-- no longer than allowed. The members in the bodies of called names, and the pending ones, are listed; what is listed is
-- reached; and a call that is listed is of a called name, or pending.
pub record AreMembersWalked (fs : List Function) (starts : List PlainMember) (called : Text → Bool) (all pending : List PlainMember) : Type 0 where
  pub begun : BeginsWith starts all
  pub few : length all + member_work fs (function_names fs) called ≤ length starts + length (all_body_members fs)
  pub bodies : (name : Text) (f : Function) → IsTrue (called name) → function_at fs name ≡ Some f → (x : PlainMember) → OccursAt fs f.body x → IsIn all x
  pub listed : (x : PlainMember) → IsIn pending x → IsIn all x
  pub sound : (x : PlainMember) → IsIn all x → IsReachedFrom fs starts x
  pub settled : (t : Token) → IsIn all (Call t) → IsTrue (called t.lexeme) ⊎ IsIn pending (Call t)

-- a member that calls a name is a call of it
is_call : (m : PlainMember) (name : Text) → name_of_call m ≡ Some name → (t : Token) × (m ≡ Call t) × (t.lexeme ≡ name)
is_call (BuiltIn t f) name is = absurd (let bad : None ≡ Some name = is in cc)
is_call (Call t) name is = (t, refl, let e : Some t.lexeme ≡ Some name = is in let same : t.lexeme ≡ name = cc in same)
is_call (Command t text) name is = absurd (let bad : None ≡ Some name = is in cc)
is_call (Unknown t) name is = absurd (let bad : None ≡ Some name = is in cc)
is_call (Variable t number) name is = absurd (let bad : None ≡ Some name = is in cc)

module _ (fs : List Function) (starts : List PlainMember) where
  pub begins : (called : Text → Bool) → ((t : Text) → called t ≡ false) → AreMembersWalked fs starts called starts starts
  begins called none = record {
    begun = record { rest = []; is = sym (append-nil starts) };
    few = let all = work_begins fs called none fs in omega (arith, all);
    bodies = λ name f h found x there. absurd (let e : false ≡ true = sym (none name) ∙ h in cc);
    listed = λ x h. h;
    sound = λ x h. Starts h;
    settled = λ t h. inr h;
  }

  module _ (old : Text → Bool) (all rest : List PlainMember) (m : PlainMember) (w : AreMembersWalked fs starts old all (m ∷ rest)) where
    -- the first pending member calls no function of the file
    pub passes : name_of_call m ≡ None → AreMembersWalked fs starts old all rest
    passes none = record {
      begun = w.begun;
      few = w.few;
      bodies = w.bodies;
      listed = λ x h. w.listed x (inr h);
      sound = w.sound;
      settled = λ t h. ⊎_elim (λ k. inl k) (λ k. ⊎_elim
          (λ same. absurd (let e : None ≡ Some t.lexeme = sym none ∙ ap name_of_call same in cc)) (λ later. inr later) k) (w.settled t h);
    }

    module _ (new : Text → Bool) (name : Text) (calls : name_of_call m ≡ Some name) (adds : AddsName old new name) where
      -- a call of the name is settled now
      settled_on : (t : Token) → IsTrue (old t.lexeme) ⊎ IsIn (m ∷ rest) (Call t) → IsTrue (new t.lexeme) ⊎ IsIn rest (Call t)
      settled_on t (inl there) = inl ((adds t.lexeme).1 (inr there))
      settled_on t (inr (inl same)) =
          let e : Some name ≡ Some t.lexeme = sym calls ∙ ap name_of_call same in
          let one : name ≡ t.lexeme = cc in
          inl ((adds t.lexeme).1 (inl one))
      settled_on t (inr (inr later)) = inr later

      -- the name was already called
      pub repeats : IsTrue (old name) → AreMembersWalked fs starts new all rest
      repeats there = record {
        begun = w.begun;
        few = let less = work_kept fs old new name adds (function_names fs) in let before = w.few in omega (arith, less, before);
        bodies = λ called f h found x occurs. ⊎_elim
            (λ same. w.bodies name f there (ap (function_at fs) same ∙ found) x occurs) (λ k. w.bodies called f k found x occurs) ((adds called).0 h);
        listed = λ x h. w.listed x (inr h);
        sound = w.sound;
        settled = λ t h. settled_on t (w.settled t h);
      }

      in_body : (f : Function) (o : Option Function) → o ≡ Some f → (x : PlainMember) → OccursAt fs f.body x → IsIn (members_of_body fs [] o) x
      in_body f (Some g) is x occurs = (added fs [] g.body x).1 (inr (let same : f ≡ g = cc in subst (λ (h : Function). OccursAt fs h.body x) same occurs))
      in_body f None is x occurs = absurd (cc)

      body_sound : (o : Option Function) → function_at fs name ≡ o → (x : PlainMember) → IsIn (members_of_body fs [] o) x → IsReachedFrom fs starts x
      body_sound (Some f) found x h =
          let call = is_call m name calls in
          let called : IsReachedFrom fs starts (Call call.0) = subst (IsReachedFrom fs starts) call.1 (w.sound m (w.listed m (inl refl))) in
          InBody call.0 f called (ap (function_at fs) call.2 ∙ found) (⊎_elim (λ bad. absurd bad) (λ k. k) ((added fs [] f.body x).0 h))
      body_sound None found x h = absurd h

      -- the members in the body of the name's function are added
      pub goes_on : old name ≡ false → AreMembersWalked fs starts new (all ++ body_members fs name) (rest ++ body_members fs name)
      goes_on out =
          let body = body_members fs name in
          let kept : (x : PlainMember) → IsIn all x → IsIn (all ++ body) x = in_first all body in
          record {
            begun = record { rest = w.begun.rest ++ body; is = ap (λ xs. xs ++ body) w.begun.is ∙ append_assoc starts w.begun.rest body };
            few = let left = work_left fs old new name adds out in let before = w.few in omega (arith, left, before, length-append all body);
            bodies = λ called f h found x occurs. ⊎_elim
                (λ same. in_second all body x (in_body f (function_at fs name) (ap (function_at fs) same ∙ found) x occurs))
                (λ k. kept x (w.bodies called f k found x occurs)) ((adds called).0 h);
            listed = λ x h. ⊎_elim (λ k. kept x (w.listed x (inr k))) (λ k. in_second all body x k) ((in_append rest body x).0 h);
            sound = λ x h. ⊎_elim (λ k. w.sound x k) (λ k. body_sound (function_at fs name) refl x k) ((in_append all body x).0 h);
            settled = λ t h. ⊎_elim
                (λ k. ⊎_elim (λ j. inl j) (λ j. inr (in_first rest body (Call t) j)) (settled_on t (w.settled t k)))
                (λ k. inr (in_second rest body (Call t) k)) ((in_append all body (Call t)).0 h);
          }

  -- nothing is pending
  module _ (called : Text → Bool) (all : List PlainMember) (w : AreMembersWalked fs starts called all []) where
    all_listed : {x : PlainMember} → IsReachedFrom fs starts x → IsIn all x
    all_listed {x} (Starts h) = subst (λ xs. IsIn xs x) (sym w.begun.is) (in_first starts w.begun.rest x h)
    all_listed {x} (InBody t f r found occurs) =
        w.bodies t.lexeme f (⊎_elim (λ k. k) (λ bad. absurd bad) (w.settled t (all_listed r))) found x occurs

    pub once : HasBodiesOnce fs starts all
    once = let few = w.few in omega (arith, few)

    pub ends : (x : PlainMember) → IsIn all x ↔ IsReachedFrom fs starts x
    ends x = ((λ h. w.sound x h), (λ h. all_listed h))
