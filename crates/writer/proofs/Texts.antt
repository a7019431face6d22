-- A run of text: each turn writes the bytes that stand for themselves, and then an escape or a byte. The sheet is not known there.
use Prim.Native.Nat.{ℕ, ◌+◌, ◌-◌, ◌≤◌, ◌<◌}
use native.Mathlib.Nat.{add-zero}
use native.Mathlib.Omega.{arith}
use mathlib.Core.Path.{◌≡◌, refl, sym, ◌∙◌}
use mathlib.Core.List.{List, ◌++◌}
use mathlib.Core.Bool.{false}
use lib.ListN.{length, get_or, take, drop}
use lib.Seq.{length-take-le, get_or-take}
use Rattle.scan.specs.Byte.{escapes}
use Rattle.scan.specs.Reading.{past}
use borrow.Author.Tests.{ltb-true, ltb-false}
use lib.Dec.{ltb}
use Rattle.scan.proofs.Test.{by}
use Rattle.scan.proofs.Scan.{past_end}
use Rattle.texts.specs.Texts.{Texts, texts}
use Rattle.joined.specs.Reading.{joined}
use Rattle.walk.proofs.Steps.{cut}
use Rattle.note.specs.Reading.{span_rows}
use Rattle.escaping.specs.Escaping.{escaped}
use Rattle.escaping.specs.Reading.{backslash, as_is, front}
use Rattle.buffer.specs.declared.Page.{Page}
use Rattle.buffer.specs.Stored.{HasRoom, Grows, Leads}
use Rattle.buffer.proofs.Writing.{leads, onward, room}
use Rattle.escaping.proofs.Undone.{byte_inside, no_escape}
use Rattle.escaping.proofs.AsIs.{no_backslash, run_low, run_within, each_passes, escaped_front, front_taken, front_empty}
use Rattle.page.proofs.Turns.{turn_escape, turn_byte, turn_bytes}
use Rattle.writer.specs.Pass.{left, Plain, Room, Passes}

-- from place `at` on the text is written up to place i
pub record Runs (T : Texts) (e at : ℕ) (page₀ page : Page) (i : ℕ) : Type 0 where
  pub written : Leads page₀ (left T e at) page (left T e i)
  pub low : at ≤ i

-- the same, whatever the sheet
abbrev pub RunsText : List ℕ → ℕ → ℕ → ℕ → Page → Page → ℕ → Type 0
RunsText s e stop at page₀ page i = (sheet : List ℕ) → Plain (texts s sheet) e at stop → Runs (texts s sheet) e at page₀ page i

module _ {T : Texts} {e stop at : ℕ} (q : Plain T e at stop) where
  stop_size : length (take stop T.note) ≡ stop
  stop_size = length-take-le stop T.note (omega (arith, q.inside, q.within))

module _ {T : Texts} {e stop at : ℕ} (q : Plain T e at stop) {page₀ : Page} where
  pub runs : Runs T e at page₀ page₀ at
  runs = record { written = leads; low = omega arith }

  module _ {page : Page} {i : ℕ} (g : Runs T e at page₀ page i) where
    pub run_ends : stop ≤ i → Passes T e at page₀ i page
    run_ends h = record { written = g.written; onward = omega (arith, q.nonempty) }

    -- the bytes that stand for themselves end at `to`
    module _ {to : ℕ} (f : to ≡ past (as_is 92) (take stop T.note) i) where
      abbrev part : List ℕ
      part = front 92 (drop i (take stop T.note))

      module _ (h : i < stop) where
        pub run_to : (i ≤ to) × (to ≤ length (take stop T.note))
        run_to = run_within (as_is 92) (take stop T.note) i f (omega (arith, stop_size q))

        part_there : take (to - i) (drop i (take e T.note)) ≡ part
        part_there =
            cut T.note i e (omega (arith, q.inside)) q.within to (omega (arith, run_to, stop_size q, q.inside))
            ∙ sym (cut T.note i stop (omega arith) (omega (arith, q.inside, q.within)) to (omega (arith, run_to, stop_size q)))
            ∙ front_taken 92 (take stop T.note) i f

        unescaped : (k : ℕ) → i ≤ k → k < to → escapes (drop k (take e T.note)) ≡ false
        unescaped k l m =
            let y : k < stop = omega (arith, run_to, stop_size q) in
            let z : get_or (take stop T.note) k 0 ≡ get_or (take e T.note) k 0 = get_or-take stop T.note k 0 y ∙ sym (get_or-take e T.note k 0 (omega (arith, q.inside))) in
            no_escape (take e T.note) k (λ y. no_backslash (get_or (take stop T.note) k 0) (each_passes (as_is 92) (take stop T.note) i f k l m) (z ∙ y))

        run_here : left T e i ≡ part ++ left T e to
        run_here =
            let n : i + (to - i) ≡ to = omega (arith, run_to) in
            turn_bytes T (joined T) (span_rows T) (take e T.note) 0 (to - i) i (omega (arith, n, run_to, stop_size q, length-take-le e T.note q.within, q.inside))
            (λ k l m. (q.bare k (omega (arith, g.low)) (omega (arith, n, run_to, stop_size q)), unescaped k l (omega (arith, n))))
            ∙ rw (n, part_there, escaped_front 92 (drop i (take stop T.note))) refl

      -- none stand past `stop`
      run_past : stop ≤ i → left T e i ≡ part ++ left T e to
      run_past h =
          let z : to ≡ i = sym (past_end (as_is 92) (take stop T.note) i (sym f) (omega (arith, stop_size q))) in
          rw (front_empty 92 (take stop T.note) i f (omega arith), z) refl

      run_left : left T e i ≡ part ++ left T e to
      run_left = by (ltb i stop) (λ t. run_here (ltb-true i stop t)) (λ t. run_past (ltb-false i stop t))

      pub run_runs : {page' : Page} → Grows page part page' → Runs T e at page₀ page' to
      run_runs x = record { written = onward g.written run_left x; low = omega (arith, g.low, run_low (as_is 92) (take stop T.note) i f) }

    pub run_room : Room T e at page₀ → HasRoom page (front 92 (drop i (take stop T.note)))
    run_room m = room (front 92 (drop i (take stop T.note))) (left T e (past (as_is 92) (take stop T.note) i)) g.written (run_left refl) m

    -- a unit ends with the byte at place b
    module _ (h : i < stop) {b : ℕ} (j : b ≡ i + backslash (drop i (take e T.note))) where
      inside : i < length (take e T.note)
      inside = omega (arith, length-take-le e T.note q.within, q.inside)

      pub unit_inside : (i ≤ b) × (b < length (take e T.note))
      unit_inside = (omega arith, omega (arith, byte_inside (take e T.note) i inside))

      unit_left : left T e i ≡ escaped (get_or (take e T.note) b 0) ++ left T e (b + 1)
      unit_left =
          by (escapes (drop i (take e T.note)))
          (λ t.
          let k : b ≡ i + 1 = j ∙ rw t refl in
          let z : i + 2 ≡ b + 1 = omega arith in
          turn_escape T (joined T) (span_rows T) (take e T.note) 0 i inside (q.bare i g.low h) t ∙ rw (z, ← k) refl)
          (λ f.
          let k : b ≡ i = j ∙ rw f (add-zero i) in
          turn_byte T (joined T) (span_rows T) (take e T.note) 0 i inside (q.bare i g.low h) f ∙ rw (← k) refl)

      pub unit_room : Room T e at page₀ → HasRoom page (escaped (get_or (take e T.note) b 0))
      unit_room m = room (escaped (get_or (take e T.note) b 0)) (left T e (b + 1)) g.written unit_left m

      pub unit_runs : {page' : Page} → Grows page (escaped (get_or (take e T.note) b 0)) page' → Runs T e at page₀ page' (b + 1)
      unit_runs x = record { written = onward g.written unit_left x; low = omega (arith, g.low, unit_inside.0) }
