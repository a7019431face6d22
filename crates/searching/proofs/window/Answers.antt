-- The bucket's ends are taken where the keys bear them out, else all places.
use lib.Dec.{ltb}
use borrow.Author.Tests.{ltb-false}
use Rattle.scan.proofs.Test.{neither}
use Rattle.searching.proofs.Turn.{window_shown}
use Rattle.searching.proofs.window.Goals as goal

pub returns : goal.returns
returns c =
    let lo = c.bucket_start-lo.result in
    let hi = c.bucket_start-hi.result in
    let n = c.args.count in
    let fit = neither (ltb hi lo) (ltb n hi) c.if-hi-lo.false in
    let b = c.back_is_greater.ensures c.if-not-back_is_greater.false in record {
      window = window_shown (ltb-false hi lo fit.0) (ltb-false n hi fit.1) (c.front_is_less.ensures c.if-not-front_is_less.false) b;
      back = b;
    }
