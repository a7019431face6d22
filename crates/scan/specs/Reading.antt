-- Reading a list from the front: with a state to an answer, by runs of bytes that pass a test, by leaps, and up to a closing delimiter.
use Rattle.std.specs.Prelude.{ℕ, zero, suc, ◌+◌, ◌-◌, ◌*◌, ◌/◌, List, [], ◌∷◌, ◌++◌, Bool, true, false, cond, not, ◌&&◌, ◌||◌, drop, leb, eqb, Option, Some, None}
use Rattle.scan.specs.Byte.{escapes}

-- ---- a turn sees the state, the byte, and what is left from that byte on
pub data Step (S A : Type 0) : Type 0 where
  stop : A → Step S A
  next : S → Step S A

abbrev pub on_step : {S A : Type 0} → Step S A → (S → A) → A
on_step (stop a) k = a
on_step (next t) k = k t

module _ {S A : Type 0} (step : S → ℕ → List ℕ → Step S A) (done : S → A) where
  unfoldable pub scan : List ℕ → S → A
  scan [] t = done t
  scan (b ∷ s) t = on_step (step t b (b ∷ s)) (scan s)

-- ---- the run of items at the front that pass a test
module _ {A : Type 0} (test : A → Bool) where
  -- how many there are
  unfoldable pub run : List A → ℕ
  run [] = 0
  run (b ∷ s) = elim (test b) [ true ↦ suc (run s) | false ↦ 0 ]

  -- the first place from i on whose item does not pass, or the end
  unfoldable pub past : List A → ℕ → ℕ
  past s i = i + run (drop i s)

  -- at least k items stand from i on that all pass
  abbrev pub runs : ℕ → List A → ℕ → Bool
  runs k s i = leb k (run (drop i s))

  -- past the whole strides of sixteen items from i on that all pass
  unfoldable pub past_strides : List A → ℕ → ℕ
  past_strides s i = i + run (drop i s) / 16 * 16

-- ---- by leaps: what stands at the front says how far to leap and what to report, and so on to the end
module _ {A : Type 0} (size : List ℕ → ℕ) (items : List ℕ → ℕ → List A) where
  -- k bytes are still to be passed before the next leap starts; `at` is the place of the front
  unfoldable pub leap : ℕ → List ℕ → ℕ → List A
  leap k [] at = []
  leap zero (b ∷ s) at = items (b ∷ s) at ++ leap (size (b ∷ s) - 1) s (at + 1)
  leap (suc k) (b ∷ s) at = leap k s (at + 1)

-- ---- up to a closing delimiter

-- the byte b is m and stands in no escape; `inside` says that it is the second byte of one
abbrev pub bare : ℕ → ℕ → Bool → Bool
bare m b inside = not inside && eqb b m

-- a place, and whether the byte there is the second of an escape
pub record Reached : Type 0 where
  pub at : ℕ
  pub inside : Bool

module _ (close bar other : ℕ) where
  unfoldable pub closing_step : Reached → ℕ → List ℕ → Step Reached (Option ℕ)
  closing_step t b s =
      cond (bare close b t.inside) (stop (Some t.at))
      (cond (not t.inside && (eqb b bar || eqb b other)) (stop None)
      (next (record { at = t.at + 1; inside = not t.inside && escapes s })))

  abbrev pub closing_from : List ℕ → Reached → Option ℕ
  closing_from = scan closing_step (λ t. None)

  -- the place of the closing delimiter of a text that starts at place `at`
  unfoldable pub closing : List ℕ → ℕ → Option ℕ
  closing s at = closing_from s (record { at = at; inside = false })
