-- A step of the machine, and the course after it.
use Rattle.std.specs.Prelude.{suc, drop, true, ◌+◌, ◌*◌, ◌<◌, ◌≤◌, length, ◌≡◌, List, [], ◌∷◌, ◌++◌, map, reverse, Result, Ok, Err, IfErr, IfOk}
use Rattle.std.specs.Prelude.{IsOkAnd}
use Rattle.std.proofs.Common.{◌∙◌, ap, arith, refl, subst, sym}
use Rattle.std.proofs.lemmas.List.{map_push, reverse-append}
use Rattle.just_syntax.specs.Plain as plain
use Rattle.just_syntax.specs.Plain.{Expr, Text}
use Rattle.just_syntax.specs.View.{view, views}
use Rattle.just_syntax.specs.declared.expression.Expression.{Expression}
use Rattle.just_syntax.specs.declared.out_of_memory.OutOfMemory as memory
use Rattle.just_lexer.specs.declared.kind.TokenKind.{TokenKind}
use Rattle.just_lexer.specs.State.{Lexeme}
use Rattle.just_expression_parser.proofs.Actions.{refused_after}
use Rattle.just_expression_parser.specs.Machine as machine
use Rattle.just_expression_parser.specs.Machine.{Done, Next, Refuses, ends_with, expects, expression_row, parse, takes_it}
use Rattle.just_expression_parser.specs.Parsed.{Course, GoesOn, course, IsNotAt, IsPending, IsRefusalAt, IsRefused, machine_frame_view, goes, is_at_word, left}
use Rattle.just_expression_parser.specs.Parsed.{state_view}
use Rattle.just_expression_parser.specs.Parsed.{waiting}
use Rattle.just_expression_parser.specs.Tokens.{Mark, Tokens}
use Rattle.just_expression_parser.specs.declared.frame.Frame as written_frame
use Rattle.just_expression_parser.specs.declared.frame.State as written_state
use Rattle.just_expression_parser.specs.declared.frame.State.TheVariants as states
use Rattle.just_expression_parser.specs.declared.machine.Machine.{Machine}
use Rattle.just_expression_parser.specs.declared.parse_error.Fault.TheVariants.{Expected}
use Rattle.just_expression_parser.specs.declared.parse_error.ParseError.{ParseError}
use Rattle.just_expression_parser.specs.declared.parse_error.ParseError.TheVariants.{OutOfMemory}

pub goes_on : (first second : Course) (r : Result written_state.State ParseError) (m : Machine) → first.result ≡ second.result → first.bound ≤ second.bound
    → GoesOn first r m → GoesOn second r m
goes_on first second (Ok s) m e most ((same, less), none) = ((same ∙ e, omega (arith, less, most)), tt)
goes_on first second (Err x) m e most (none, refused) = (tt, subst (λ result. IsRefused result x) e refused)

-- one token less
pub word_taken : (word : Text) (ts : Tokens) → is_at_word word ts ≡ true → length ts ≡ suc (length (drop 1 ts))
word_taken word [] there = absurd (cc)
word_taken word (t ∷ ts) there = refl

pub taken_mark : (kind : TokenKind) (ts rest : Tokens) → Mark kind ts rest → length ts ≡ suc (length rest)
taken_mark kind ts rest (token, taken) = ap length taken

-- one more frame waits
pub waiting_more : (frames more : List written_frame.Frame) (frame : written_frame.Frame) → more ≡ frames ++ frame ∷ []
    → reverse (map machine_frame_view more) ≡ machine_frame_view frame ∷ reverse (map machine_frame_view frames)
waiting_more frames more frame is =
    ap (λ fs. reverse (map machine_frame_view fs)) is ∙ ap reverse (map_push machine_frame_view frames frame)
    ∙ reverse-append (map machine_frame_view frames) (machine_frame_view frame ∷ [])

pub on_err : {T E : Type 0} (P : E → Type 0) (r : Result T E) (x : E) → r ≡ Err x → IfErr r P → P x
on_err P r x is h = subst (λ r. IfErr r P) is h

pub if_ok : {T E : Type 0} (P : T → Type 0) (r : Result T E) (x : T) → r ≡ Ok x → IfOk r P → P x
if_ok P r x is h = subst (λ r. IfOk r P) is h

-- an expression is read, if it is there
pub done_on : (x : Result Expression ParseError) (r : Result written_state.State ParseError) (m : Machine) (whole : Course)
    → IfOk r (λ s. IsOkAnd x (λ e. s ≡ states.Done e)) → IfErr r (λ refusal. x ≡ Err refusal)
    → IfOk x (λ e. (goes m (Done (view e)) []).result ≡ whole.result) → IfErr x (IsRefused whole.result)
    → length (waiting m) + 8 * length (left m) < whole.bound → GoesOn whole r m
done_on (Ok e) (Ok s) m whole made refused ok err less = ((ap (λ s. (goes m (state_view s) []).result) made ∙ ok, rw made (omega (arith, less))), tt)
done_on (Ok e) (Err x) m whole made refused ok err less = absurd (cc)
done_on (Err y) (Ok s) m whole made refused ok err less = absurd made
done_on (Err y) (Err x) m whole made refused ok err less = (tt, on_err (IsRefused whole.result) (Err y) x refused err)

-- an expression is made and read, if there is memory for it
pub made_on : (made : Result Expression memory.OutOfMemory) (x : Result Expression ParseError) (r : Result written_state.State ParseError) (m : Machine)
    (whole : Course) (v : Expr) → IfOk made (λ e. view e ≡ v)
    → IfOk x (λ e. made ≡ Ok e) → IfErr x (λ refusal. refusal ≡ OutOfMemory)
    → IfOk r (λ s. IsOkAnd x (λ e. s ≡ states.Done e)) → IfErr r (λ refusal. x ≡ Err refusal) → (goes m (Done v) []).result ≡ whole.result
    → length (waiting m) + 8 * length (left m) < whole.bound → GoesOn whole r m
made_on made (Ok e) r m whole v is allocated none done refused same less =
    done_on (Ok e) r m whole done refused (ap (λ v. (goes m (Done v) []).result) (if_ok (λ e. view e ≡ v) made e allocated is) ∙ same) tt less
made_on made (Err x) r m whole v is allocated none done refused same less = done_on (Err x) r m whole done refused tt (rw none tt) less

-- the innermost frame resumes
pub popped : (old new : Machine) (frame : written_frame.Frame) (e : Expr) → old.frames.items ≡ new.frames.items ++ frame ∷ []
    → course (left old) (Done e) (machine_frame_view frame ∷ waiting new) ≡ goes old (Done e) []
popped old new frame e items = ap (course (left old) (Done e)) (sym (waiting_more new.frames.items old.frames.items frame items))

-- no frame waits: the expression is all that is read
pub read_all : (ts : Tokens) (e : Expr) (frames : List machine.MachineFrame) → frames ≡ [] → machine.Read e ts ≡ parse ts (Done e) frames
unfolding parse
read_all [] e frames none = rw none refl
read_all (t ∷ ts) e frames none = rw none refl

-- what is not complete is to be read
pub pending : (s : written_state.State) → ((e : Expression) → s ≡ states.Done e → ⊥) → IsPending (state_view s)
pending (states.Branch condition consequence) other = tt
pending (states.Done e) other = absurd (other e refl)
pending (states.Elements form elements) other = tt
pending (states.Expression least) other = tt
pending (states.Named name) other = tt
pending (states.Otherwise condition consequence) other = tt
pending states.Value other = tt

-- a token of another kind is refused
pub refused_on : {T : Type 0} (end : Result T ParseError) (refusal : ParseError) (ts : Tokens) (frame : machine.MachineFrame)
    (frames : List machine.MachineFrame) (e : Expr)
    (kind : TokenKind) (later : Next) (inner : List machine.MachineFrame) → end ≡ Err refusal
    → IfErr end (λ refusal. IsRefusalAt (Expected kind) ts refusal × IsNotAt kind ts)
    → ((t : Lexeme) → takes_it frame e t ≡ expects kind t later inner) → ends_with frame e ≡ Refuses (Expected kind)
    → IsRefused (parse ts (Done e) (frame ∷ frames)) refusal
refused_on end refusal ts frame frames e kind later inner is refused takes ends =
    let at = on_err (λ refusal. IsRefusalAt (Expected kind) ts refusal × IsNotAt kind ts) end refusal is refused in
    refused_after ts frame frames e kind later inner refusal takes ends at.0 at.1

-- an expression is read, or memory ran out
pub state_on : (r : Result written_state.State ParseError) (m : Machine) (whole : Course) (v : Expr) → IfOk r (λ s. state_view s ≡ Done v)
    → IfErr r (λ refusal. refusal ≡ OutOfMemory) → (goes m (Done v) []).result ≡ whole.result
    → length (waiting m) + 8 * length (left m) < whole.bound → GoesOn whole r m
state_on (Ok s) m whole v made none same less = ((ap (λ next. (goes m next []).result) made ∙ same, rw made (omega (arith, less))), tt)
state_on (Err x) m whole v made none same less = (tt, rw none tt)

-- an expression of the whole is read, or memory ran out
pub read_on : (x : Result Expression ParseError) (r : Result written_state.State ParseError) (m : Machine) (whole : Course) (v : Expr)
    → IfOk r (λ s. IsOkAnd x (λ e. s ≡ states.Done e)) → IfErr r (λ refusal. x ≡ Err refusal) → IfOk x (λ e. view e ≡ v)
    → IfErr x (λ refusal. refusal ≡ OutOfMemory) → (goes m (Done v) []).result ≡ whole.result
    → length (waiting m) + 8 * length (left m) < whole.bound → GoesOn whole r m
read_on (Ok e) r m whole v done refused is none same less = done_on (Ok e) r m whole done refused (ap (λ v. (goes m (Done v) []).result) is ∙ same) tt less
read_on (Err x) r m whole v done refused is none same less = done_on (Err x) r m whole done refused tt (rw none tt) less

-- expressions in a row are seen one by one
pub rows : (es : List Expression) → views es ≡ expression_row (map view es)
rows [] = refl
rows (e ∷ es) = ap (λ more. plain.Cons (view e) more) (rows es)
