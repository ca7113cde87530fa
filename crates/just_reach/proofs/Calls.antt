-- Which calls occur in an expression.
use Rattle.std.proofs.Common.{◌≡◌, ◌↔◌, ℕ, Bool, true, false, List, if◌then◌else◌, Option, Some, None, ap, ◌∙◌}
use Rattle.just_syntax.specs.Plain.{Text, Token, Function, Expr}
use Rattle.just_syntax.specs.Occurrences.{CallAt, CallOf, CommandAt, CommandOf, Mention, Occurrence, VariableAt, VariableOf, mention_of}
use Rattle.just_syntax.proofs.Occurring.{some_occurs}
use Rattle.just_builtins.specs.Table.{function_named, is_left_out}
use Rattle.just_builtins.specs.declared.function.Function as built_in
use Rattle.just_meaning.specs.Callee.{Callee, Defined, LeftOut, built_in_or_unknown, callee, defined_or, undefined}
use Rattle.just_meaning.specs.Callee as callee
use Rattle.just_meaning.specs.Reaches.{Occurs, function_at}
use Rattle.just_reach.specs.Member.{PlainMember, Call, Command, Variable, called_member, member_of}
use Rattle.just_reach.specs.Reached.{OccursAt}

-- ---- functions of the file

not_defined : (b : Bool) (o : Option built_in.Function) (f : Function) → (if b then LeftOut else built_in_or_unknown o) ≡ Defined f → ⊥
not_defined true o f is = cc
not_defined false (Some g) f is = cc
not_defined false None f is = cc

-- a name stands for a function of the file if the file defines it
pub defined_is : (functions : List Function) (name : Text) (f : Function) → callee functions name ≡ Defined f → function_at functions name ≡ Some f
defined_is functions name f is = by (function_at functions name) is
  where
    by : (o : Option Function) → defined_or o (undefined name) ≡ Defined f → o ≡ Some f
    by (Some g) is = let same : g ≡ f = cc in ap Some same
    by None is = absurd (not_defined (is_left_out name) (function_named name) f is)

pub is_defined : (functions : List Function) (name : Text) (f : Function) → function_at functions name ≡ Some f → callee functions name ≡ Defined f
is_defined functions name f found = ap (λ (o : Option Function). defined_or o (undefined name)) found

-- a call is of a function of the file only if its name stands for one
call_token : (k : Callee) (t u : Token) → called_member k t ≡ Call u → t ≡ u
call_token (Defined f) t u is = cc
call_token (callee.BuiltIn f) t u is = absurd (cc)
call_token LeftOut t u is = absurd (cc)
call_token callee.Unknown t u is = absurd (cc)

-- ---- calls

module _ (functions : List Function) (name : Text) where
  -- a call of the name is a member
  abbrev HasMember : (PlainMember → Type 0) → Type 0
  HasMember occurs = (t : Token) × (t.lexeme ≡ name) × occurs (Call t)

  -- a call of the name is mentioned
  abbrev IsMentioned : (Mention → Type 0) → Type 0
  IsMentioned mentioned = (n : ℕ) × mentioned (CallOf name n)

  mention_at : (t : Token) → t.lexeme ≡ name → (o : Occurrence) → member_of functions o ≡ Call t → (n : ℕ) × (mention_of o ≡ CallOf name n)
  mention_at t named (CommandAt u text) is = absurd (let bad : Command u text ≡ Call t = is in cc)
  mention_at t named (CallAt u n) is =
      (n, ap (λ (x : Text). CallOf x n) (ap (λ (x : Token). x.lexeme) (call_token (callee functions u.lexeme) u t is) ∙ named))
  mention_at t named (VariableAt u number) is = absurd (let bad : Variable u number ≡ Call t = is in cc)

  module _ (f : Function) (found : function_at functions name ≡ Some f) where
    member_at : (n : ℕ) (o : Occurrence) → mention_of o ≡ CallOf name n → (t : Token) × (t.lexeme ≡ name) × (member_of functions o ≡ Call t)
    member_at n (CommandAt u text) m = absurd (let bad : CommandOf text ≡ CallOf name n = m in cc)
    member_at n (CallAt u k) m =
        let is : CallOf u.lexeme k ≡ CallOf name n = m in
        let same : u.lexeme ≡ name = cc in
        (u, same, ap (λ (c : Callee). called_member c u) (is_defined functions u.lexeme f (ap (function_at functions) same ∙ found)))
    member_at n (VariableAt u number) m = absurd (let bad : VariableOf number ≡ CallOf name n = m in cc)

    -- a member that calls the name is a call that is mentioned, and the other way round
    pub called_in : (e : Expr) → HasMember (OccursAt functions e) ↔ IsMentioned (Occurs e)
    called_in e = (
      (λ c. let o = (some_occurs (λ o. member_of functions o ≡ Call c.0) e).1 c.2 in
          let m = mention_at c.0 c.1 o.0 o.2 in
          (m.0, (some_occurs (λ o. mention_of o ≡ CallOf name m.0) e).0 (o.0, o.1, m.1))),
      (λ m. let o = (some_occurs (λ o. mention_of o ≡ CallOf name m.0) e).1 m.1 in
          let c = member_at m.0 o.0 o.2 in
          (c.0, c.1, (some_occurs (λ o. member_of functions o ≡ Call c.0) e).0 (o.0, o.1, c.2))),
    )
