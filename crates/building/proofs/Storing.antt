-- What an index holds stands behind its first number, so a store there changes only what it says.
use native.Mathlib.Omega.{arith}
use Prim.Native.Nat.{ℕ, ◌+◌}
use mathlib.Core.Path.{◌≡◌}
use mathlib.Core.List.{List, [], ◌∷◌}
use lib.ListN.{get_or, set, length-set}
use lib.Seq.{get_or-set_other}
use Rattle.texts.specs.Texts.{Texts}
use Rattle.index.specs.Index.{entry_at, base, built, Sorted, Holds, Ready}

entry_kept : (l : List ℕ) (v p : ℕ) → entry_at (set l 0 v) p ≡ entry_at l p
entry_kept l v p = get_or-set_other l 0 (base + p) v 0 (λ e. omega arith)

-- the first number is v, or there is none
says : (l : List ℕ) (v : ℕ) → get_or (set l 0 v) 0 0 ≡ built → v ≡ built
says [] v e = omega arith
says (x ∷ xs) v e = e

module _ (T : Texts) (t : List ℕ) (count : ℕ) (l : List ℕ) (v : ℕ) where
  sorted_kept : Sorted T t count l → Sorted T t count (set l 0 v)
  sorted_kept s =
      record {
        room = rw length-set s.room;
        entries = λ p h. rw entry_kept (s.entries p h);
        next = λ p h. rw (entry_kept l v p, entry_kept l v (p + 1)) (s.next p h);
      }

  pub holds_kept : Holds T t count l → Holds T t count (set l 0 v)
  holds_kept h =
      record {
        sorted = sorted_kept h.sorted;
        covers =
            λ k b.
            let s = h.covers k b in
            record { place = s.place; inside = s.inside; there = rw entry_kept s.there };
      }

-- another number than that of an index that holds its rows
abbrev pub other : ℕ
other = 4294967294

pub given_up : (T : Texts) (t : List ℕ) (count : ℕ) (l : List ℕ) → Ready T t count (set l 0 other)
given_up T t count l e =
    let same : other ≡ built = says l other e in
    absurd (omega arith)
