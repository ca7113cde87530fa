use Rattle.std.proofs.Common.{◌∷◌, [], refl, sym, ap, ◌∙◌, arith, rules}
use Rattle.std.proofs.lemmas.List.{nil_from_length}
use Rattle.just_builtins.specs.Prelude.{BinaryOptToValue, BinaryOptValueStrToValue, Nullary, Unary, UnaryMap, UnaryToValue, ValueBinary, ValueBinaryOpt}
use Rattle.just_builtins.specs.Prelude.{ValueNullary, ValueUnary, frames_view, function_context_view}
use Rattle.just_builtins.proofs.Arguments.{one, two, first_of, read_at}
use Rattle.just_builtins.proofs.Calls.{expected, internal, same_asked, same_unasked}
use Rattle.just_builtins.proofs.Unnamed.{unnamed_by, is_of_no_builtin}
use Rattle.just_builtins.proofs.function.Function.answer.Goals as goal

pub returns-in-Binary : goal.returns-in-Binary
returns-in-Binary g c =
    same_unasked c.args.context.now _ _ _ _ _ c.in-Binary.is (refl {a = c.args.arguments.now}) (c.binary.ensures (function_context_view c.args.context.now))

pub returns-in-BinaryOptToValue : goal.returns-in-BinaryOptToValue
returns-in-BinaryOptToValue g c =
    let count = expected c.args.self (BinaryOptToValue c.in-BinaryOptToValue.builtin) _ c.in-BinaryOptToValue.is c.requires.count in
    let alike = first_of c.args.arguments.now _ count.0 c.text_at.ensures ∙ ap (λ ws. (c.text_at.result.now ∷ []) ∷ ws) (sym c.second_text-separator.ensures) in
    same_unasked c.args.context.now _ _ _ _ _ c.in-BinaryOptToValue.is alike (c.binary_opt_to_value.ensures (function_context_view c.args.context.now))

pub returns-in-BinaryOptValueStrToValue : goal.returns-in-BinaryOptValueStrToValue
returns-in-BinaryOptValueStrToValue g c =
    let count = expected c.args.self (BinaryOptValueStrToValue c.in-BinaryOptValueStrToValue.builtin) _ c.in-BinaryOptValueStrToValue.is c.requires.count in
    let there = read_at c.args.arguments.now 0 c.index-arguments-0.result (omega (arith, count.0)) c.index-arguments-0.is in
    let alike = first_of c.args.arguments.now _ count.0 there
    ∙ ap (λ ws. c.index-arguments-0.result ∷ ws) (sym c.second_text-separator-in-BinaryOptValueStrToValue.ensures) in
    same_unasked c.args.context.now _ _ _ _ _ c.in-BinaryOptValueStrToValue.is alike
    (c.binary_opt_value_str_to_value.ensures (function_context_view c.args.context.now))

pub returns-in-BinaryPlus : goal.returns-in-BinaryPlus
returns-in-BinaryPlus g c =
    same_unasked c.args.context.now _ _ _ _ _ c.in-BinaryPlus.is (refl {a = c.args.arguments.now})
    (c.binary_plus.ensures (function_context_view c.args.context.now))

pub returns-in-BinaryStrValue : goal.returns-in-BinaryStrValue
returns-in-BinaryStrValue g c =
    same_unasked c.args.context.now _ _ _ _ _ c.in-BinaryStrValue.is (refl {a = c.args.arguments.now}) c.binary_str_value.ensures

pub returns-in-Nullary : goal.returns-in-Nullary
returns-in-Nullary g c =
    let count = expected c.args.self (Nullary c.in-Nullary.builtin) _ c.in-Nullary.is c.requires.count in
    let alike = nil_from_length c.args.arguments.now (omega (arith, count.1)) in
    same_asked c.args.context.now _ _ _ _ _ c.in-Nullary.is alike (c.nullary.ensures (frames_view c.args.context.now.scope.now))

pub returns-in-Ternary : goal.returns-in-Ternary
returns-in-Ternary g c =
    same_unasked c.args.context.now _ _ _ _ _ c.in-Ternary.is (refl {a = c.args.arguments.now}) (c.ternary.ensures (function_context_view c.args.context.now))

pub returns-in-Unary : goal.returns-in-Unary
returns-in-Unary g c =
    let count = expected c.args.self (Unary c.in-Unary.builtin) _ c.in-Unary.is c.requires.count in
    let alike = one c.args.arguments.now _ (omega (arith, count.0, count.1)) c.text_at-in-Unary.ensures in
    same_asked c.args.context.now _ _ _ _ _ c.in-Unary.is alike (c.unary.ensures (frames_view c.args.context.now.scope.now))

pub returns-in-UnaryMap : goal.returns-in-UnaryMap
returns-in-UnaryMap g c =
    let count = expected c.args.self (UnaryMap c.in-UnaryMap.builtin) _ c.in-UnaryMap.is c.requires.count in
    let there = read_at c.args.arguments.now 0 c.index-arguments-0-in-UnaryMap.result (omega (arith, count.0)) c.index-arguments-0-in-UnaryMap.is in
    let alike = one c.args.arguments.now _ (omega (arith, count.0, count.1)) there in
    same_unasked c.args.context.now _ _ _ _ _ c.in-UnaryMap.is alike (c.unary_map.ensures (function_context_view c.args.context.now))

pub returns-in-UnaryPlus : goal.returns-in-UnaryPlus
returns-in-UnaryPlus g c =
    same_asked c.args.context.now _ _ _ _ _ c.in-UnaryPlus.is (refl {a = c.args.arguments.now}) c.unary_plus.ensures

pub returns-in-UnaryToValue : goal.returns-in-UnaryToValue
returns-in-UnaryToValue g c =
    let count = expected c.args.self (UnaryToValue c.in-UnaryToValue.builtin) _ c.in-UnaryToValue.is c.requires.count in
    let alike = one c.args.arguments.now _ (omega (arith, count.0, count.1)) c.text_at-in-UnaryToValue.ensures in
    same_asked c.args.context.now _ _ _ _ _ c.in-UnaryToValue.is alike (c.unary_to_value.ensures (frames_view c.args.context.now.scope.now))

pub returns-in-ValueBinary : goal.returns-in-ValueBinary
returns-in-ValueBinary g c =
    let count = expected c.args.self (ValueBinary c.in-ValueBinary.builtin) _ c.in-ValueBinary.is c.requires.count in
    let there = read_at c.args.arguments.now 0 c.index-arguments-0-in-ValueBinary.result (omega (arith, count.0)) c.index-arguments-0-in-ValueBinary.is in
    let other = read_at c.args.arguments.now 1 c.index-arguments-1.result (omega (arith, count.0)) c.index-arguments-1.is in
    let alike = two c.args.arguments.now _ _ (omega (arith, count.0, count.1)) there other in
    same_asked c.args.context.now _ _ _ _ _ c.in-ValueBinary.is alike (c.value_binary.ensures (frames_view c.args.context.now.scope.now))

pub returns-in-ValueBinaryOpt : goal.returns-in-ValueBinaryOpt
returns-in-ValueBinaryOpt g c =
    let count = expected c.args.self (ValueBinaryOpt c.in-ValueBinaryOpt.builtin) _ c.in-ValueBinaryOpt.is c.requires.count in
    let there = read_at c.args.arguments.now 0 c.index-arguments-0-in-ValueBinaryOpt.result (omega (arith, count.0)) c.index-arguments-0-in-ValueBinaryOpt.is in
    let alike = first_of c.args.arguments.now _ count.0 there ∙ ap (λ ws. c.index-arguments-0-in-ValueBinaryOpt.result ∷ ws) (sym c.second-other.ensures) in
    same_asked c.args.context.now _ _ _ _ _ c.in-ValueBinaryOpt.is alike (c.value_binary_opt.ensures (frames_view c.args.context.now.scope.now))

pub returns-in-ValueNullary : goal.returns-in-ValueNullary
returns-in-ValueNullary g c =
    let count = expected c.args.self (ValueNullary c.in-ValueNullary.builtin) _ c.in-ValueNullary.is c.requires.count in
    let alike = nil_from_length c.args.arguments.now (omega (arith, count.1)) in
    same_unasked c.args.context.now _ _ _ _ _ c.in-ValueNullary.is alike c.value_nullary.ensures

pub returns-in-ValueUnary : goal.returns-in-ValueUnary
returns-in-ValueUnary g c =
    let count = expected c.args.self (ValueUnary c.in-ValueUnary.builtin) _ c.in-ValueUnary.is c.requires.count in
    let there = read_at c.args.arguments.now 0 c.index-arguments-0-in-ValueUnary.result (omega (arith, count.0)) c.index-arguments-0-in-ValueUnary.is in
    let alike = one c.args.arguments.now _ (omega (arith, count.0, count.1)) there in
    same_asked c.args.context.now _ _ _ _ _ c.in-ValueUnary.is alike (c.value_unary.ensures (frames_view c.args.context.now.scope.now))

pub returns-in-BinaryOptValueStr : goal.returns-in-BinaryOptValueStr
returns-in-BinaryOptValueStr g c = internal c.args.self (frames_view c.args.context.now.scope.now) _ (unnamed_by is_of_no_builtin c.args.self (search rules) tt)
