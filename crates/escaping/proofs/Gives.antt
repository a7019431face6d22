-- Loops that write f of each byte that s has once it is changed by `change`: p₀ was there first, and the loop stands at i with p.
use Rattle.std.proofs.Common.{ℕ, ◌+◌, ◌≤◌, ◌<◌, ◌≡◌, List, ◌∷◌, true, length, get_or, drop, refl, arith}
use mathlib.Core.List.{flat_map}
use Rattle.scan.specs.Reading.{past}
use Rattle.buffer.specs.declared.Page.{Page}
use Rattle.buffer.specs.Stored.{HasRoom, Grows, Leads}
use Rattle.buffer.proofs.Writing.{leads, onward, done, room}
use Rattle.escaping.specs.Escaping.{escaped}
use Rattle.escaping.specs.Reading.{undone, backslash, as_is, front}
use Rattle.escaping.proofs.Undone.{byte_inside, next_undone, none_undone}
use Rattle.escaping.proofs.AsIs.{run_within, given_part}

pub record Gives (f : ℕ → List ℕ) (change : List ℕ → List ℕ) (s : List ℕ) (p₀ p : Page) (i : ℕ) : Type 0 where
  pub written : Leads p₀ (flat_map f (change s)) p (flat_map f (change (drop i s)))
  pub inside : i ≤ length s

pub begins : {f : ℕ → List ℕ} {change : List ℕ → List ℕ} {s : List ℕ} {p : Page} → Gives f change s p p 0
begins = record { written = leads; inside = omega arith }

-- ---- a run of bytes that stay as they are
abbrev pub Keeps : ℕ → (List ℕ → List ℕ) → Type 0
Keeps mark change = (b : ℕ) (l : List ℕ) → as_is mark b ≡ true → flat_map escaped (change (b ∷ l)) ≡ b ∷ flat_map escaped (change l)

module _ (mark : ℕ) {change : List ℕ → List ℕ} (keeps : Keeps mark change) {s : List ℕ} {p₀ p : Page} {i : ℕ} (g : Gives escaped change s p₀ p i) where
  pub run_room : HasRoom p₀ (flat_map escaped (change s)) → HasRoom p (front mark (drop i s))
  unfolding past
  run_room h =
      room (front mark (drop i s)) (flat_map escaped (change (drop (past (as_is mark) s i) s))) g.written
      (given_part (as_is mark) s i refl (λ l. flat_map escaped (change l)) keeps) h

  pub run_gives : {q : Page} {r : ℕ} → r ≡ past (as_is mark) s i → Grows p (front mark (drop i s)) q → Gives escaped change s p₀ q r
  run_gives e w =
      record {
        written = onward g.written (given_part (as_is mark) s i e (λ l. flat_map escaped (change l)) keeps) w;
        inside = (run_within (as_is mark) s i e g.inside).1;
      }

-- ---- the byte at i, which stands at j once an escape is undone
module _ (s : List ℕ) (i : ℕ) {j : ℕ} (e : j ≡ i + backslash (drop i s)) (h : i < length s) where
  pub unit_inside : (i ≤ j) × (j < length s)
  unit_inside = (omega arith, omega (arith, byte_inside s i h))

module _ {f : ℕ → List ℕ} {s : List ℕ} {p₀ p : Page} {i j : ℕ} (g : Gives f undone s p₀ p i) (e : j ≡ i + backslash (drop i s)) (h : i < length s) where
  pub unit_room : HasRoom p₀ (flat_map f (undone s)) → HasRoom p (f (get_or s j 0))
  unit_room r = room (f (get_or s j 0)) (flat_map f (undone (drop (j + 1) s))) g.written (next_undone f s i e h) r

  pub unit_gives : {q : Page} → Grows p (f (get_or s j 0)) q → Gives f undone s p₀ q (j + 1)
  unit_gives w = record { written = onward g.written (next_undone f s i e h) w; inside = omega (arith, (unit_inside s i e h).1) }

pub all_undone : {f : ℕ → List ℕ} {s : List ℕ} {p₀ p : Page} {i : ℕ} → Gives f undone s p₀ p i → length s ≤ i → Grows p₀ (flat_map f (undone s)) p
all_undone {f} {s} {i = i} g h = done g.written (none_undone f s i h)
