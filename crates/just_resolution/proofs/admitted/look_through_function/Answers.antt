use Rattle.std.proofs.Common.{◌≡◌, ◌∙◌, ◌↔◌, ◌++◌, ℕ, IsTrue, map, ap, sym, refl, subst, Option, Some, None, Bor, option_map}
use Rattle.std.proofs.lemmas.List.{append-nil}
use Rattle.std.proofs.lemmas.Result.{IfOk-weaker}
use Rattle.just_resolution.specs.Prelude.{FindsBody, Function, IsAmong, calls_of, function_at, function_view, is_number_in, is_readable, name_view}
use Rattle.just_resolution.specs.Prelude.{parameter_view, texts}
use Rattle.just_syntax.specs.declared.function_definition.FunctionDefinition.{FunctionDefinition}
use Rattle.just_resolution.proofs.Closure.{body_found}
use Rattle.just_meaning.proofs.Tables.{function_found}
use Rattle.just_resolution.proofs.admitted.look_through_function.Goals.{In-None, In-Some}
use Rattle.just_resolution.proofs.admitted.look_through_function.Goals as goal

-- the function that was looked up, as plain data
found : (c : In-Some) → function_at (map function_view c.args.functions.now) c.args.name.now ≡ Some (function_view c.in-Some.function.now)
found c = function_found c.args.name.now c.args.functions.now c.get.result c.get.ensures
    ∙ ap (option_map (λ (v : Bor FunctionDefinition). function_view v.now)) c.in-Some.is

-- there is none
none : (c : In-None) → function_at (map function_view c.args.functions.now) c.args.name.now ≡ None
none c = function_found c.args.name.now c.args.functions.now c.get.result c.get.ensures
    ∙ ap (option_map (λ (v : Bor FunctionDefinition). function_view v.now)) c.in-None.is

pub returns-in_ok-own-in-Some-clause-reads : goal.returns-in_ok-own-in-Some-clause-reads
returns-in_ok-own-in-Some-clause-reads c =
    let owns : (n : ℕ) → IsTrue (is_number_in c.in_ok-own-in-Some.own n) ↔ IsAmong (map parameter_view c.in-Some.function.now.parameters.items) n =
    rw c.deref.ensures.value at c.in_ok-own-in-Some.ensures in
    IfOk-weaker c.look_through.result _ _
    (λ unread reads. body_found (function_at (map function_view c.args.functions.now) c.args.name.now) (function_view c.in-Some.function.now)
    (is_number_in c.in_ok-own-in-Some.own) (is_readable c.args.readable.now) (option_map name_view unread)
    (found (goal.at.returns-in_ok-own-in-Some-clause-reads c).In-Some) owns reads)
    c.look_through.ensures.reads

pub returns-in_ok-own-in-Some-clause-calls : goal.returns-in_ok-own-in-Some-clause-calls
returns-in_ok-own-in-Some-clause-calls c =
    IfOk-weaker c.look_through.result _ _
    (λ unread calls nothing. calls nothing ∙ ap (λ (o : Option Function). texts c.args.pending.now.items ++ calls_of o)
    (sym (found (goal.at.returns-in_ok-own-in-Some-clause-calls c).In-Some)))
    c.look_through.ensures.calls

pub returns-in-None-clause-reads : goal.returns-in-None-clause-reads
returns-in-None-clause-reads c = subst (λ (o : Option Function). FindsBody o (λ n. IsTrue (is_readable c.args.readable.now n)) None)
    (sym (none (goal.at.returns-in-None-clause-reads c).In-None)) refl

pub returns-in-None-clause-calls : goal.returns-in-None-clause-calls
returns-in-None-clause-calls c = λ nothing.
    sym (append-nil (texts c.args.pending.now.items))
    ∙ ap (λ (o : Option Function). texts c.args.pending.now.items ++ calls_of o) (sym (none (goal.at.returns-in-None-clause-calls c).In-None))
