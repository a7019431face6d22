-- The characters of table 3-7, row by row: reading their bytes folds what they spell.
use Prim.Native.Nat.{ℕ, ◌+◌, ◌*◌, ◌-◌, ◌/◌, ◌%◌, ◌≤◌}
use native.Mathlib.Omega.{arith}
use mathlib.Core.Path.{◌≡◌, sym, ap, ◌∙◌}
use mathlib.Core.Logic.{⊎_elim}
use mathlib.Core.List.{List, [], ◌∷◌, ◌++◌}
use borrow.Author.Tests.{lt-ltb, le-ltb}
use Rattle.scan.specs.Member.{In}
use Rattle.scan.proofs.Member.{in_nil, in_cons}
use Rattle.text.specs.Utf8.{ByteRange, ◌‥◌, table, Fits, Character}
use Rattle.casefold.specs.Fold.{utf8, expand}
use Rattle.matching.specs.Form.{code_point}
use Rattle.matching.specs.Reading.{folds}
use Rattle.matching.proofs.Spelled.{expand_later, passes, one, two, tail, over_lead}

-- ---- characters of three and four bytes
module _ (s : List ℕ) where
  three : (a b c : ℕ) → 0xE0 ≤ a → a ≤ 0xEF → 0x80 ≤ b → b ≤ 0xBF → 0x80 ≤ c → c ≤ 0xBF → 0x800 ≤ ((a - 0xE0) * 64 + (b - 0x80)) * 64 + (c - 0x80)
      → folds (a ∷ b ∷ c ∷ s) ≡ expand (((a - 0xE0) * 64 + (b - 0x80)) * 64 + (c - 0x80)) ++ folds s
  unfolding utf8
  three a b c la ha lb hb lc hc k =
      let n : ℕ = ((a - 0xE0) * 64 + (b - 0x80)) * 64 + (c - 0x80) in
      let d : 0xE0 + n / 4096 ≡ a = omega arith in
      let e : 0x80 + n / 64 % 64 ≡ b = omega arith in
      let f : 0x80 + n % 64 ≡ c = omega arith in
      let u : utf8 n ≡ a ∷ b ∷ c ∷ [] =
      rw (le-ltb n 0x80 (omega arith), le-ltb n 0x800 (omega arith), lt-ltb n 0x10000 (omega arith)) (rw (d, e, f)) in
      passes a (b ∷ c ∷ s) (omega arith) (over_lead a b (omega arith))
      ∙ ap (λ (r : List ℕ). a ∷ r) (tail s b (c ∷ s) lb hb)
      ∙ ap (λ (r : List ℕ). a ∷ b ∷ r) (tail s c s lc hc)
      ∙ ap (λ (r : List ℕ). r ++ folds s) (sym (expand_later n (omega arith) ∙ u))

  four : (a b c d : ℕ) → 0xF0 ≤ a → a ≤ 0xF4 → 0x80 ≤ b → b ≤ 0xBF → 0x80 ≤ c → c ≤ 0xBF → 0x80 ≤ d → d ≤ 0xBF
      → 0x10000 ≤ (((a - 0xF0) * 64 + (b - 0x80)) * 64 + (c - 0x80)) * 64 + (d - 0x80)
      → folds (a ∷ b ∷ c ∷ d ∷ s) ≡ expand ((((a - 0xF0) * 64 + (b - 0x80)) * 64 + (c - 0x80)) * 64 + (d - 0x80)) ++ folds s
  unfolding utf8
  four a b c d la ha lb hb lc hc ld hd k =
      let n : ℕ = (((a - 0xF0) * 64 + (b - 0x80)) * 64 + (c - 0x80)) * 64 + (d - 0x80) in
      let e : 0xF0 + n / 262144 ≡ a = omega arith in
      let f : 0x80 + n / 4096 % 64 ≡ b = omega arith in
      let g : 0x80 + n / 64 % 64 ≡ c = omega arith in
      let h : 0x80 + n % 64 ≡ d = omega arith in
      let u : utf8 n ≡ a ∷ b ∷ c ∷ d ∷ [] =
      rw (le-ltb n 0x80 (omega arith), le-ltb n 0x800 (omega arith), le-ltb n 0x10000 (omega arith)) (rw (e, f, g, h)) in
      passes a (b ∷ c ∷ d ∷ s) (omega arith) (over_lead a b (omega arith))
      ∙ ap (λ (r : List ℕ). a ∷ r) (tail s b (c ∷ d ∷ s) lb hb)
      ∙ ap (λ (r : List ℕ). a ∷ b ∷ r) (tail s c (d ∷ s) lc hc)
      ∙ ap (λ (r : List ℕ). a ∷ b ∷ c ∷ r) (tail s d s ld hd)
      ∙ ap (λ (r : List ℕ). r ++ folds s) (sym (expand_later n (omega arith) ∙ u))

  -- ---- row by row
  abbrev Right : List ℕ → Type 0
  Right c = folds (c ++ s) ≡ expand (code_point c) ++ folds s

  row_1 : (r : ByteRange) (c : List ℕ) → r.high ≤ 0x7F → Fits (r ∷ []) c → Right c
  unfolding code_point
  row_1 r [] h f = absurd f
  row_1 r (a ∷ []) h f = let g = f.1 in one s a (omega arith)
  row_1 r (a ∷ b ∷ c) h f = absurd f.2

  row_2 : (r q : ByteRange) (c : List ℕ) → 0xC2 ≤ r.low → r.high ≤ 0xDF → 0x80 ≤ q.low → q.high ≤ 0xBF → Fits (r ∷ q ∷ []) c → Right c
  unfolding code_point
  row_2 r q [] lr hr lq hq f = absurd f
  row_2 r q (a ∷ []) lr hr lq hq f = absurd f.2
  row_2 r q (a ∷ b ∷ []) lr hr lq hq f = two s a b (omega arith) (omega arith) (omega arith) (omega arith)
  row_2 r q (a ∷ b ∷ c ∷ d) lr hr lq hq f = absurd f.2.2

  row_3 : (r q p : ByteRange) (c : List ℕ) → 0xE0 ≤ r.low → r.high ≤ 0xEF → 0x80 ≤ q.low → q.high ≤ 0xBF → 0x80 ≤ p.low → p.high ≤ 0xBF
      → 0x20 ≤ (r.low - 0xE0) * 64 + (q.low - 0x80) → Fits (r ∷ q ∷ p ∷ []) c → Right c
  unfolding code_point
  row_3 r q p [] lr hr lq hq lp hp k f = absurd f
  row_3 r q p (a ∷ []) lr hr lq hq lp hp k f = absurd f.2
  row_3 r q p (a ∷ b ∷ []) lr hr lq hq lp hp k f = absurd f.2.2
  row_3 r q p (a ∷ b ∷ c ∷ []) lr hr lq hq lp hp k f =
      three a b c (omega arith) (omega arith) (omega arith) (omega arith) (omega arith) (omega arith) (omega arith)
  row_3 r q p (a ∷ b ∷ c ∷ d ∷ l) lr hr lq hq lp hp k f = absurd f.2.2.2

  row_4 : (r q p o : ByteRange) (c : List ℕ) → 0xF0 ≤ r.low → r.high ≤ 0xF4 → 0x80 ≤ q.low → q.high ≤ 0xBF → 0x80 ≤ p.low → p.high ≤ 0xBF → 0x80 ≤ o.low → o.high ≤ 0xBF
      → 0x10 ≤ (r.low - 0xF0) * 64 + (q.low - 0x80) → Fits (r ∷ q ∷ p ∷ o ∷ []) c → Right c
  unfolding code_point
  row_4 r q p o [] lr hr lq hq lp hp lo ho k f = absurd f
  row_4 r q p o (a ∷ []) lr hr lq hq lp hp lo ho k f = absurd f.2
  row_4 r q p o (a ∷ b ∷ []) lr hr lq hq lp hp lo ho k f = absurd f.2.2
  row_4 r q p o (a ∷ b ∷ c ∷ []) lr hr lq hq lp hp lo ho k f = absurd f.2.2.2
  row_4 r q p o (a ∷ b ∷ c ∷ d ∷ []) lr hr lq hq lp hp lo ho k f =
      four a b c d (omega arith) (omega arith) (omega arith) (omega arith) (omega arith) (omega arith) (omega arith) (omega arith) (omega arith)
  row_4 r q p o (a ∷ b ∷ c ∷ d ∷ e ∷ l) lr hr lq hq lp hp lo ho k f = absurd f.2.2.2.2

  abbrev cont : ByteRange
  cont = 0x80 ‥ 0xBF

  -- what fits one of the rows is read right
  abbrev Serves : List (List ByteRange) → Type 0
  Serves [] = Unit {0}
  Serves (row ∷ rows) = ((c : List ℕ) → Fits row c → Right c) × Serves rows

  served : (rows : List (List ByteRange)) → Serves rows → {row : List ByteRange} → In row rows → (c : List ℕ) → Fits row c → Right c
  served [] t m c f = absurd (in_nil m)
  served (r ∷ rows) t m c f = ⊎_elim (λ q. t.0 c (rw q at f)) (λ k. served rows t.1 k c f) (in_cons rows m)

  table_serves : Serves table
  unfolding table
  table_serves = (
    λ c f. row_1 (0x00 ‥ 0x7F) c (omega arith) f,
    (
      λ c f. row_2 (0xC2 ‥ 0xDF) cont c (omega arith) (omega arith) (omega arith) (omega arith) f,
      (
        λ c f. row_3 (0xE0 ‥ 0xE0) (0xA0 ‥ 0xBF) cont c (omega arith) (omega arith) (omega arith) (omega arith) (omega arith) (omega arith) (omega arith) f,
        (
          λ c f. row_3 (0xE1 ‥ 0xEC) cont cont c (omega arith) (omega arith) (omega arith) (omega arith) (omega arith) (omega arith) (omega arith) f,
          (
            λ c f. row_3 (0xED ‥ 0xED) (0x80 ‥ 0x9F) cont c (omega arith) (omega arith) (omega arith) (omega arith) (omega arith) (omega arith) (omega arith) f,
            (
              λ c f. row_3 (0xEE ‥ 0xEF) cont cont c (omega arith) (omega arith) (omega arith) (omega arith) (omega arith) (omega arith) (omega arith) f,
              (
                λ c f. row_4 (0xF0 ‥ 0xF0) (0x90 ‥ 0xBF) cont cont c (omega arith) (omega arith) (omega arith) (omega arith) (omega arith) (omega arith) (omega arith) (omega arith) (omega arith) f,
                (
                  λ c f. row_4 (0xF1 ‥ 0xF3) cont cont cont c (omega arith) (omega arith) (omega arith) (omega arith) (omega arith) (omega arith) (omega arith) (omega arith) (omega arith) f,
                  (
                    λ c f. row_4 (0xF4 ‥ 0xF4) (0x80 ‥ 0x8F) cont cont c (omega arith) (omega arith) (omega arith) (omega arith) (omega arith) (omega arith) (omega arith) (omega arith) (omega arith) f,
                    tt,
                  ),
                ),
              ),
            ),
          ),
        ),
      ),
    ),
  )

  pub character_folds : {c : List ℕ} → Character c → Right c
  character_folds {c} w = served table table_serves w.listed c w.fits
