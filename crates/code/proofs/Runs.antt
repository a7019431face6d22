-- Bytes of code, written in runs and one after the other.
use Prim.Native.Nat.{ℕ, ◌+◌, ◌≤◌, ◌<◌}
use mathlib.Core.Path.{◌≡◌, refl}
use mathlib.Core.List.{List, [], ◌++◌, map, flat_map}
use borrow.Author.Tests.{ne_eqb}
use lib.ListN.{length, get_or, drop, drop_of_length-le}
use native.Mathlib.Omega.{arith}
use Rattle.scan.proofs.Scan.{at_cons}
use Rattle.escaping.specs.Escaping.{escaped}
use Rattle.buffer.specs.declared.Page.{Page}
use Rattle.buffer.specs.Stored.{HasRoom, Grows}
use Rattle.buffer.proofs.Writing.{onward, done, room}
use Rattle.escaping.proofs.AsIs.{other, itself}
use Rattle.escaping.proofs.Gives.{Gives, Keeps}
use Rattle.code.specs.Code.{feed_as_space}

-- ---- a loop that writes f of each byte, changed by g first, which stands at i
module _ (f : ℕ → List ℕ) (g : ℕ → ℕ) (s : List ℕ) (i : ℕ) where
  pub next_mapped : {b : ℕ} → b ≡ g (get_or s i 0) → i < length s → flat_map f (map g (drop i s)) ≡ f b ++ flat_map f (map g (drop (i + 1) s))
  unfolding flat_map
  next_mapped e h = rw (e, at_cons s i h)

  pub none_mapped : length s ≤ i → flat_map f (map g (drop i s)) ≡ []
  unfolding flat_map
  none_mapped h = rw (drop_of_length-le s h)

-- ---- bytes that are written as they are, after LFs became spaces
pub code_keeps : Keeps 10 (map feed_as_space)
unfolding flat_map
code_keeps b l h = rw (ne_eqb b 10 (other 10 b h 10 refl), itself 10 b h) refl

-- ---- the byte at i
module _ {s : List ℕ} {p₀ p : Page} {i b : ℕ} (g : Gives escaped (map feed_as_space) s p₀ p i) (e : b ≡ feed_as_space (get_or s i 0)) (h : i < length s) where
  pub byte_room : HasRoom p₀ (flat_map escaped (map feed_as_space s)) → HasRoom p (escaped b)
  byte_room r = room (escaped b) (flat_map escaped (map feed_as_space (drop (i + 1) s))) g.written (next_mapped escaped feed_as_space s i e h) r

  pub byte_gives : {q : Page} → Grows p (escaped b) q → Gives escaped (map feed_as_space) s p₀ q (i + 1)
  byte_gives w = record { written = onward g.written (next_mapped escaped feed_as_space s i e h) w; inside = omega arith }

pub all_mapped : {s : List ℕ} {p₀ p : Page} {i : ℕ} → Gives escaped (map feed_as_space) s p₀ p i → length s ≤ i → Grows p₀ (flat_map escaped (map feed_as_space s)) p
all_mapped {s} {i = i} g h = done g.written (none_mapped escaped feed_as_space s i h)
