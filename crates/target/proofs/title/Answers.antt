-- Each `return` is one case of `title_of`.
use Rattle.std.specs.Prelude.{None, Option}
use borrow.Author.Rules.{rules}
use native.Mathlib.Nat.{add-zero}
use native.Mathlib.Omega.{arith}
use Prim.Native.Nat.{ℕ, ◌+◌, ◌<◌}
use mathlib.Core.Path.{◌≡◌, sym, ap, ◌∙◌}
use mathlib.Core.List.{List}
use mathlib.Core.Bool.{true, false, true≢false}
use lib.ListN.{length, get_or, drop}
use lib.Seq.{get_or-drop, drop-drop}
use Rattle.scan.proofs.Scan.{peek_inside}
use Rattle.target.specs.Reading.{quotes, closer, enclosed_of, title_of}
use Rattle.target.specs.declared.Part.{Part}
use Rattle.target.proofs.title.Goals as goal

module _ (s : List ℕ) (at : ℕ) {q : ℕ} (eq : q ≡ get_or s at 0) where
  inside : quotes q ≡ true → at < length s
  inside h = peek_inside s at (λ z. true≢false (sym h ∙ ap quotes (eq ∙ z)))

  quoted : quotes q ≡ true → {c : ℕ} {r : Option Part} → c ≡ closer q → r ≡ enclosed_of c q q (drop (at + 1) s) (at + 1) → r ≡ title_of (drop at s) at
  unfolding title_of
  quoted h c r = simp (get_or-drop, add-zero, ← eq, h, drop-drop, ← c, r)

  unquoted : quotes q ≡ false → None ≡ title_of (drop at s) at
  unfolding title_of
  unquoted h = simp (get_or-drop, add-zero, ← eq, h)

ruleset ways = (quoted, unquoted, rules)

pub peek-q-requires : goal.peek-q-requires
peek-q-requires c = search ways

pub overflow_add-at : goal.overflow_add-at
overflow_add-at c = omega (arith, inside c.args.s.now c.args.at c.peek-q.ensures c.if-q.true)

pub closing_quote-requires : goal.closing_quote-requires
closing_quote-requires c = search ways

pub enclosed-requires : goal.enclosed-requires
enclosed-requires c = search ways

pub returns-then-q : goal.returns-then-q
returns-then-q c = search ways

pub returns : goal.returns
returns c = search ways
