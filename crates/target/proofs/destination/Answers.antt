-- Each `return` is one case of `destination_of`.
use Rattle.std.specs.Prelude.{Option}
use borrow.Author.Rules.{rules}
use borrow.Author.Tests.{eq-eqb, ne_eqb}
use native.Mathlib.Nat.{add-zero}
use native.Mathlib.Omega.{arith}
use Prim.Native.Nat.{ℕ, ◌+◌}
use mathlib.Core.Path.{◌≡◌, ◌∙◌}
use mathlib.Core.List.{List, []}
use lib.ListN.{get_or, drop}
use lib.Seq.{get_or-drop, drop-drop}
use Rattle.scan.proofs.Scan.{peek_inside}
use Rattle.target.specs.Reading.{run_to, judged, enclosed_of, destination_of}
use Rattle.target.specs.declared.Run.{Run}
use Rattle.target.specs.declared.Part.{Part}
use Rattle.target.proofs.Turns.{unmarked}
use Rattle.target.proofs.destination.Goals as goal

module _ (s : List ℕ) (at : ℕ) {b : ℕ} (eb : b ≡ get_or s at 0) {r : Option Part} where
  in_brackets : b ≡ 60 → r ≡ enclosed_of 62 60 10 (drop (at + 1) s) (at + 1) → r ≡ destination_of (drop at s) at
  unfolding destination_of
  in_brackets e q = simp (get_or-drop, add-zero, ← eb, eq-eqb b 60 e, drop-drop, q)

  in_none : (b ≡ 60 → ⊥) → {u : Run} → u ≡ run_to [] (drop at s) at → r ≡ judged at u → r ≡ destination_of (drop at s) at
  unfolding destination_of
  in_none n u q = simp (get_or-drop, add-zero, ← eb, ne_eqb b 60 n, ← (u ∙ unmarked (drop at s) at), q)

ruleset ways = (in_brackets, in_none, rules)

pub peek-requires : goal.peek-requires
peek-requires c = search ways

pub overflow_add-at : goal.overflow_add-at
overflow_add-at c =
    omega (arith, peek_inside c.args.s.now c.args.at (λ z. omega (arith, c.peek.ensures, c.if-peek-eq60.true)))

pub enclosed-requires : goal.enclosed-requires
enclosed-requires c = search ways

pub returns-then-peek-eq60 : goal.returns-then-peek-eq60
returns-then-peek-eq60 c = search ways

pub raw_run-requires : goal.raw_run-requires
raw_run-requires c = search ways

pub raw_part-requires : goal.raw_part-requires
raw_part-requires c = search ways

pub returns : goal.returns
returns c = search ways
