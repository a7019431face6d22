-- The loop's state is the number so far, and each way through a turn is one case of `digit_step`.
use Rattle.scan.proofs.Scan.{stops, goes, ends}
use Rattle.std.specs.Prelude.{Some}
use mathlib.Core.Path.{refl}
use Rattle.container.specs.Container.{digit_step}
use Rattle.container.proofs.Digits.{refused, taken}
use Rattle.container.proofs.read_number.Goals as goal

pub returns-then-not-is_ascii_digit : goal.returns-then-not-is_ascii_digit
returns-then-not-is_ascii_digit c =
    stops digit_step Some c.args.text.now c.loop-b.b-index c.loop-b.invariant c.loop-b-test.true (refused c.loop-b.n _ _ c.is_ascii_digit.ensures.value c.then-not-is_ascii_digit.either)

pub loop-b-preserved : goal.loop-b-preserved
loop-b-preserved c =
    goes digit_step Some c.args.text.now c.loop-b.b-index c.loop-b.invariant c.loop-b-test.true (taken c.loop-b.n _ _ c.is_ascii_digit.ensures.value c.if-not-is_ascii_digit.false c.if-n-ge100000.false)

pub returns : goal.returns
returns c = ends digit_step Some c.args.text.now c.loop-b.b-index c.loop-b.invariant c.loop-b-test.false refl
