use Rattle.std.proofs.Common.{◌≡◌, ◌-◌, ◌<◌, ◌++◌, [], length, get_or, take, drop, refl, true, ap, ◌∙◌, arith, append_assoc}
use Rattle.std.specs.Fmt.{HasWrittenStyled}
use Rattle.std.proofs.Output.{has_written_styled_nil}
use Rattle.std.proofs.lemmas.Grind.{common_steps}
use Rattle.std.proofs.lemmas.Str.{IsCharBoundary-start, IsCharBoundary-after_ascii}
use Rattle.just_syntax.proofs.Styled.{styled_three, styled_four}
use Rattle.just_value.specs.Prelude.{escaped}
use Rattle.just_value.proofs.Escapes.{escaped_byte, ascii_byte, plain_byte, plain_front, run_goes_on, run_ends, text_ends}
use Rattle.just_value.proofs.element.write_quoted.Goals as goal
use Rattle.just_value.proofs.element.write_quoted.Goals.{in-Some+in_ok-write_str-2+in_ok-write_str-3, in_default}

pub loop-at-init : goal.loop-at-init
loop-at-init g c =
    let same = c.as_bytes-bytes.ensures.value in
    let start = c.plain_start-at in
    let whole : start.result ≡ start.result - 0 = omega arith in
    record {
      low = omega arith;
      boundary = IsCharBoundary-start c.args.text.now c.utf8.text;
      done = [];
      so_far = plain_front c.args.text.now start.result (rw same at start.ensures.bound) (rw same at start.ensures.plain)
          ∙ ap (λ n. take n c.args.text.now) whole;
      written = λ flush. has_written_styled_nil g.W.Write.write_str_gives c.write_str.new.self flush;
    }

pub loop-at-preserved : goal.loop-at-preserved
loop-at-preserved g c =
    let took = g.W.Write.write_str_gives in
    let l = c.loop-at in
    let bytes = c.args.text.now in
    let within : l.at < length bytes = omega (arith, c.as_bytes-bytes.ensures.len) in
    elim c.match-escape_of.branch [
      | in-Some+in_ok-write_str-2+in_ok-write_str-3 w ↦
          let found = rw c.as_bytes-bytes.ensures.value at w.in-Some.ensures in
          let ascii : get_or bytes l.at 0 < 128 = found.0 in
          let run = take (l.at - l.start) (drop l.start bytes) in
          let byte : escaped_byte (get_or bytes l.at 0) ≡ escaped (get_or bytes l.at 0) = ascii_byte _ ascii in
          rw (w.start-is, w.f-is) (record {
            low = omega arith;
            boundary = IsCharBoundary-after_ascii bytes l.at c.utf8.text within ascii;
            done = l.invariant.done ++ (run ++ escaped_byte (get_or bytes l.at 0));
            so_far = run_ends bytes l.invariant.done l.start l.at within l.invariant.so_far;
            written = λ flush.
                let before = l.invariant.written flush in
                let one = w.in_ok-write_str-2.ensures.styled before.flush (refl {a = true}) in
                let two = w.in_ok-write_str-3.ensures.styled one.flush (refl {a = true}) in
                styled_three took _ _ _ _ _ _ _ _ before one two (grind (arith, common_steps, byte, found.1));
          })
      | in_default w ↦
          let plain = rw c.as_bytes-bytes.ensures.value at w.in_default.ensures in
          rw (w.start-is, w.f-is) (record {
            low = omega arith;
            boundary = l.invariant.boundary;
            done = l.invariant.done;
            so_far = run_goes_on bytes l.invariant.done l.start l.at l.invariant.low within (plain_byte _ plain) l.invariant.so_far;
            written = l.invariant.written;
          })
    ]

pub returns : goal.returns
returns g c = λ flush ok.
    let took = g.W.Write.write_str_gives in
    let l = c.loop-at in
    let bytes = c.args.text.now in
    let end : l.at ≡ length bytes = omega (arith, c.as_bytes-bytes.ensures.len) in
    let start : HasWrittenStyled took c.args.f.now c.args.opening.now c.write_str.new.self = c.in_ok-write_str.ensures.styled flush (refl {a = true}) in
    let before = l.invariant.written start.flush in
    let last = c.in_ok-write_str-4.ensures.styled before.flush (refl {a = true}) in
    let quote = c.write_str-3.ensures.styled last.flush ok in
    let all = text_ends bytes l.invariant.done l.start l.at c.utf8.text end l.invariant.so_far in
    styled_four took _ _ _ _ _ _ _ _ _ _ start before last quote (grind (arith, common_steps, append_assoc, all))
