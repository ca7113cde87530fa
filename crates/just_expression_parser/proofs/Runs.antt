-- The result of a run, a step at a time.
use Rattle.std.specs.Prelude.{◌≡◌, List, [], ◌∷◌, ◌++◌}
use Rattle.std.proofs.Common.{ap}
use Rattle.just_syntax.specs.Plain.{Expr}
use Rattle.just_lexer.specs.State.{Lexeme}
use Rattle.just_expression_parser.specs.Machine.{Done, MachineFrame, Next, Passes, Read, Refused, Refuses, Takes, acts}
use Rattle.just_expression_parser.specs.Machine.{begins, completes, completes_at_end, ends, ends_with, parse, takes_it}
use Rattle.just_expression_parser.specs.Tokens.{Tokens}
use Rattle.just_expression_parser.specs.declared.parse_error.Fault.{Fault}
use Rattle.just_expression_parser.specs.declared.parse_error.Fault.TheVariants.{ExpectedExpression}

-- ---- what is read next

pub takes : (t : Lexeme) (ts : Tokens) (next : Next) (frames : List MachineFrame) (later : Next) (inner : List MachineFrame)
    → begins next t ≡ Takes later inner → parse (t ∷ ts) next frames ≡ parse ts later (inner ++ frames)
unfolding parse
takes t ts next frames later inner e =
    ap (λ a. acts a (t ∷ ts) (λ n fs. parse ts n (fs ++ frames)) (completes t ts (parse ts) frames)) e

pub refuses : (t : Lexeme) (ts : Tokens) (next : Next) (frames : List MachineFrame) (fault : Fault)
    → begins next t ≡ Refuses fault → parse (t ∷ ts) next frames ≡ Refused fault (t ∷ ts)
unfolding parse
refuses t ts next frames fault e =
    ap (λ a. acts a (t ∷ ts) (λ n fs. parse ts n (fs ++ frames)) (completes t ts (parse ts) frames)) e

pub passes : (t : Lexeme) (ts : Tokens) (next : Next) (frames : List MachineFrame) (e : Expr)
    → begins next t ≡ Passes e → parse (t ∷ ts) next frames ≡ parse (t ∷ ts) (Done e) frames
unfolding parse
passes t ts next frames e is =
    ap (λ a. acts a (t ∷ ts) (λ n fs. parse ts n (fs ++ frames)) (completes t ts (parse ts) frames)) is

pub refuses_end : (next : Next) (frames : List MachineFrame) (fault : Fault) → ends next ≡ Refuses fault
    → parse [] next frames ≡ Refused fault []
unfolding parse
refuses_end next frames fault e =
    ap (λ a. acts a [] (λ n fs. Refused ExpectedExpression []) (completes_at_end frames)) e

pub passes_end : (next : Next) (frames : List MachineFrame) (e : Expr) → ends next ≡ Passes e
    → parse [] next frames ≡ parse [] (Done e) frames
unfolding parse
passes_end next frames e is = ap (λ a. acts a [] (λ n fs. Refused ExpectedExpression []) (completes_at_end frames)) is

-- ---- what a frame does

pub frame_takes : (t : Lexeme) (ts : Tokens) (frame : MachineFrame) (frames : List MachineFrame) (e : Expr) (later : Next)
    (inner : List MachineFrame) → takes_it frame e t ≡ Takes later inner
    → parse (t ∷ ts) (Done e) (frame ∷ frames) ≡ parse ts later (inner ++ frames)
unfolding parse
frame_takes t ts frame frames e later inner is =
    ap (λ a. acts a (t ∷ ts) (λ n fs. parse ts n (fs ++ frames)) (completes t ts (parse ts) frames)) is

pub frame_refuses : (t : Lexeme) (ts : Tokens) (frame : MachineFrame) (frames : List MachineFrame) (e : Expr) (fault : Fault)
    → takes_it frame e t ≡ Refuses fault → parse (t ∷ ts) (Done e) (frame ∷ frames) ≡ Refused fault (t ∷ ts)
unfolding parse
frame_refuses t ts frame frames e fault is =
    ap (λ a. acts a (t ∷ ts) (λ n fs. parse ts n (fs ++ frames)) (completes t ts (parse ts) frames)) is

pub frame_passes : (t : Lexeme) (ts : Tokens) (frame : MachineFrame) (frames : List MachineFrame) (e after : Expr)
    → takes_it frame e t ≡ Passes after → parse (t ∷ ts) (Done e) (frame ∷ frames) ≡ parse (t ∷ ts) (Done after) frames
unfolding parse
frame_passes t ts frame frames e after is =
    ap (λ a. acts a (t ∷ ts) (λ n fs. parse ts n (fs ++ frames)) (completes t ts (parse ts) frames)) is

pub frame_refuses_end : (frame : MachineFrame) (frames : List MachineFrame) (e : Expr) (fault : Fault)
    → ends_with frame e ≡ Refuses fault → parse [] (Done e) (frame ∷ frames) ≡ Refused fault []
unfolding parse
frame_refuses_end frame frames e fault is = ap (λ a. acts a [] (λ n later. Read e []) (completes_at_end frames)) is

pub frame_passes_end : (frame : MachineFrame) (frames : List MachineFrame) (e after : Expr)
    → ends_with frame e ≡ Passes after → parse [] (Done e) (frame ∷ frames) ≡ parse [] (Done after) frames
unfolding parse
frame_passes_end frame frames e after is = ap (λ a. acts a [] (λ n later. Read e []) (completes_at_end frames)) is

-- a frame that completes its expression at each token, and at the end
pub frame_completes : (ts : Tokens) (frame : MachineFrame) (frames : List MachineFrame) (e after : Expr)
    → ((t : Lexeme) → takes_it frame e t ≡ Passes after) → ends_with frame e ≡ Passes after
    → parse ts (Done e) (frame ∷ frames) ≡ parse ts (Done after) frames
frame_completes [] frame frames e after there here = frame_passes_end frame frames e after here
frame_completes (t ∷ ts) frame frames e after there here = frame_passes t ts frame frames e after (there t)
