-- Only a parenthesis has its backslashes counted.
use mathlib.Core.Path.{◌≡◌, sym, ◌∙◌}
use mathlib.Core.Bool.{Bool, true, false, ◌&&◌}
use Rattle.parens.specs.Unclosed.{slashed}
use Rattle.parens.proofs.escaped.Goals as goal

kept : (o q : Bool) → q ≡ true → o ≡ (o && q)
kept true q e = sym e
kept false q e = λ i. false

dropped : (o q : Bool) → q ≡ false → false ≡ (o && q)
dropped true q e = sym e
dropped false q e = λ i. false

pub returns-then-b : goal.returns-then-b
returns-then-b c = c.odd_before.ensures ∙ kept _ _ c.if-b.true

pub returns : goal.returns
returns c = let a = c.args in dropped (slashed a.s.now a.i) _ c.if-b.false
