use Rattle.std.proofs.Common.{◌≡◌, ◌∙◌, ◌||◌, ◌+◌, ℕ, Bool, true, false, IsTrue, ap, sym, drop}
use Rattle.std.proofs.lemmas.List.{drop_all}
use Rattle.just_resolution.specs.Prelude.{IsUnreadableAt, MayBeRead, is_number_in, is_readable, may_occur, name_view, occurrence_view, occurrences_view}
use Rattle.just_resolution.proofs.Finding.{leads_end, leads_off, leads_on}
use Rattle.just_resolution.proofs.Sets.{front}
use Rattle.just_resolution.proofs.Occurrences.{may_occur_decides}
use Rattle.just_resolution.proofs.admitted.first_unreadable_occurrence.Goals as goal

pub returns-then-not-may_occur : goal.returns-then-not-may_occur
returns-then-not-may_occur c =
    let test : ℕ → Bool = λ n. is_number_in c.args.own.now n || is_readable c.args.readable.now n in
    let readable : ℕ → Type 0 = λ n. IsTrue (test n) in
    let all = c.args.occurrences.now in
    let i = c.loop-occurrence.occurrence-index in
    let item = c.occurrence-item.result in
    leads_off (MayBeRead readable) (IsUnreadableAt readable) (occurrences_view (drop i all)) (occurrences_view (drop (i + 1) all)) (occurrences_view all)
    c.loop-occurrence.invariant (occurrence_view item) (name_view c.name_at.result)
    (ap occurrences_view (front all i item c.loop-occurrence-test.true c.occurrence-item.is)) (
      sym c.name_at.ensures,
      λ may. let on : may_occur test (occurrence_view item) ≡ true = (may_occur_decides test (occurrence_view item)).1 may in
          let e : false ≡ true = c.if-not-may_occur.ensures ∙ on in cc,
    )

pub loop-occurrence-preserved : goal.loop-occurrence-preserved
loop-occurrence-preserved c =
    let test : ℕ → Bool = λ n. is_number_in c.args.own.now n || is_readable c.args.readable.now n in
    let readable : ℕ → Type 0 = λ n. IsTrue (test n) in
    let all = c.args.occurrences.now in
    let i = c.loop-occurrence.occurrence-index in
    let item = c.occurrence-item.result in
    leads_on (MayBeRead readable) (IsUnreadableAt readable) (occurrences_view (drop i all)) (occurrences_view (drop (i + 1) all)) (occurrences_view all)
    c.loop-occurrence.invariant (occurrence_view item) (ap occurrences_view (front all i item c.loop-occurrence-test.true c.occurrence-item.is))
    ((may_occur_decides test (occurrence_view item)).0 (sym c.if-not-may_occur.ensures))

pub returns : goal.returns
returns c =
    let readable : ℕ → Type 0 = λ n. IsTrue (is_number_in c.args.own.now n || is_readable c.args.readable.now n) in
    let all = c.args.occurrences.now in
    let i = c.loop-occurrence.occurrence-index in
    leads_end (MayBeRead readable) (IsUnreadableAt readable) (occurrences_view (drop i all)) (occurrences_view all)
    (ap occurrences_view (drop_all i all c.loop-occurrence-test.false)) c.loop-occurrence.invariant
