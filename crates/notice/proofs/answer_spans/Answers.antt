-- All rows surely fit, or the spans were counted and fit.
use native.Mathlib.Omega.{arith}
use Rattle.row.specs.Listing.{texts_of}
use Rattle.notice.proofs.Returns.{refused, none_there, counted_fit, surely_fit, never_deep, stored}
use Rattle.notice.proofs.answer_spans.Goals as goal
use Rattle.notice.proofs.answer_spans.Goals.{then-not-surely_fits+in_ok-count_spans+else-branch-eq0, else-not-surely_fits}

pub returns-in_err-count_spans : goal.returns-in_err-count_spans
returns-in_err-count_spans c =
    refused (texts_of c.args.definitions.now) c.args.definitions.now.count c.args.spans.now c.whole_rows-rows.ensures c.in_err-count_spans.ensures.counted _ c.from_residual.ensures.1

pub returns-then-branch-eq0 : goal.returns-then-branch-eq0
returns-then-branch-eq0 c =
    none_there (texts_of c.args.definitions.now) c.args.definitions.now.count c.args.spans.now c.whole_rows-rows.ensures c.in_ok-count_spans.ensures.counted c.if-branch-eq0.true

pub note_spans-requires : goal.note_spans-requires
note_spans-requires c = record {
  same_note = c.requires.same_note;
  defined = c.requires.defined;
  indexed = elim c.if-not-surely_fits.branch [
    | then-not-surely_fits+in_ok-count_spans+else-branch-eq0 w ↦ rw w.index-is w.count_spans.ensures.ready_2
    | else-not-surely_fits w ↦ rw w.index-is c.requires.ready
  ];
  lent = record { places = omega (arith, c.requires.lent.places, c.if-not-surely_fits.auto.stack); bytes = omega (arith, c.requires.lent.bytes, c.if-not-surely_fits.auto.marks) };
}

pub returns-in_err-walk : goal.returns-in_err-walk
returns-in_err-walk c =
    let T = texts_of c.args.definitions.now in
    let n = c.args.definitions.now.count in
    let u = c.args.spans.now in
    let k = c.whole_rows-rows.ensures in
    let m = c.note_spans.ensures.note_marked in
    never_deep T n u k m
    (elim c.if-not-surely_fits.branch [
      | then-not-surely_fits+in_ok-count_spans+else-branch-eq0 w ↦ counted_fit T n u k w.in_ok-count_spans.ensures.counted
      | else-not-surely_fits w ↦ surely_fit T n u k m c.requires.same_note (c.surely_fits.ensures w.if-not-surely_fits.false)
    ])
    c.in_err-walk.was _

pub returns : goal.returns
returns c =
    let T = texts_of c.args.definitions.now in
    let n = c.args.definitions.now.count in
    let u = c.args.spans.now in
    let k = c.whole_rows-rows.ensures in
    let m = c.note_spans.ensures.note_marked in
    stored T n u k m
    (elim c.if-not-surely_fits.branch [
      | then-not-surely_fits+in_ok-count_spans+else-branch-eq0 w ↦ counted_fit T n u k w.in_ok-count_spans.ensures.counted
      | else-not-surely_fits w ↦ surely_fit T n u k m c.requires.same_note (c.surely_fits.ensures w.if-not-surely_fits.false)
    ])
    c.in_ok-walk.was
