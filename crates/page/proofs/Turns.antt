-- The turns of the reading over a paragraph's bytes.
use Prim.Native.Nat.{ℕ, zero, suc, ◌+◌, ◌-◌, ◌≤◌, ◌<◌}
use native.Mathlib.Nat.{add-zero}
use native.Mathlib.Omega.{arith}
use mathlib.Core.Path.{◌≡◌, refl, sym, ap, ◌∙◌}
use mathlib.Core.Option.{none, some}
use mathlib.Core.List.{List, [], ◌∷◌, ◌++◌, flat_map, append_assoc}
use mathlib.Core.Bool.{true, false}
use lib.ListN.{length, get_or, take, drop, drop_of_length-le}
use lib.Seq.{drop-drop, get_or-drop}
use Rattle.scan.specs.Byte.{escapes}
use Rattle.scan.proofs.Scan.{at_cons}
use Rattle.texts.specs.Texts.{Texts}
use Rattle.row.specs.Row.{Listed}
use Rattle.inline.specs.Rows.{row_end}
use Rattle.escaping.specs.Escaping.{escaped}
use Rattle.page.specs.Reading.{text_end, close_tag, Written, unit, first_row, starts, closes, tagged, started, written_by, written_at, content_from}
use Rattle.page.specs.Page.{tag_if}
use Rattle.page.specs.Reading as reading

module _ (T : Texts) (js : List Listed) (rows : List (List ℕ)) where
  content_over : (k : ℕ) (l : List ℕ) (at : ℕ) → content_from T js rows k l at ≡ content_from T js rows 0 (drop k l) (at + k)
  unfolding content_from
  content_over zero l at = rw (add-zero at)
  content_over (suc k) [] at = refl
  content_over (suc k) (b ∷ l) at = content_over k l (at + 1) ∙ ap (content_from T js rows 0 (drop k l)) (omega arith)

  content_cons : (b : ℕ) (l : List ℕ) (at n : ℕ) {w : Written} → written_at T js rows (b ∷ l) at ≡ w → w.size ≡ suc n
      → content_from T js rows 0 (b ∷ l) at ≡ w.bytes ++ content_from T js rows 0 (drop n l) (at + suc n)
  unfolding content_from
  content_cons b l at n {w} q e =
      let k : w.size - 1 ≡ n = omega arith in
      ap (λ (x : Written). x.bytes ++ content_from T js rows (x.size - 1) l (at + 1)) q
      ∙ ap (λ (j : ℕ). w.bytes ++ content_from T js rows j l (at + 1)) k
      ∙ ap (λ (v : List ℕ). w.bytes ++ v) (content_over n l (at + 1) ∙ ap (content_from T js rows 0 (drop n l)) (omega arith))

-- the paragraph p at place `off` of the note
module _ (T : Texts) (js : List Listed) (rows : List (List ℕ)) (p : List ℕ) (off : ℕ) where
  abbrev from : ℕ → List ℕ
  from = reading.from T js rows p off

  abbrev here : ℕ → Written
  here = reading.here T js rows p off

  abbrev Bare : ℕ → Type 0
  Bare = reading.Bare T js rows p off

  pub at_end : from (length p) ≡ []
  unfolding content_from
  at_end = let h : length p ≤ length p = omega arith in rw (drop_of_length-le p h)

  pub turn : (a n : ℕ) {w : Written} → a < length p → here a ≡ w → w.size ≡ suc n → from a ≡ w.bytes ++ from (a + suc n)
  turn a n {w} h q e =
      let k = at_cons p a h in
      let j : a + 1 + n ≡ a + suc n = omega arith in
      let z : drop n (drop (a + 1) p) ≡ drop (a + suc n) p = drop-drop n (a + 1) p ∙ ap (λ (i : ℕ). drop i p) j in
      let y : off + a + suc n ≡ off + (a + suc n) = omega arith in
      let g : written_at T js rows (get_or p a 0 ∷ drop (a + 1) p) (off + a) ≡ w = ap (λ (l : List ℕ). written_at T js rows l (off + a)) (sym k) ∙ q in
      ap (λ (l : List ℕ). content_from T js rows 0 l (off + a)) k
      ∙ content_cons T js rows (get_or p a 0) (drop (a + 1) p) (off + a) n g e
      ∙ rw (z, y) refl

  bare_unit : (a : ℕ) → Bare a → here a ≡ unit (drop a p)
  unfolding written_by
  bare_unit a b = rw (b.no_start, b.no_close)

  pub turn_escape : (a : ℕ) → a < length p → Bare a → escapes (drop a p) ≡ true → from a ≡ escaped (get_or p (a + 1) 0) ++ from (a + 2)
  turn_escape a h b e =
      let w : here a ≡ record { size = 2; bytes = escaped (get_or p (a + 1) 0) } = bare_unit a b ∙ rw (e, get_or-drop a p 1 0) refl in
      turn a 1 h w refl

  pub turn_byte : (a : ℕ) → a < length p → Bare a → escapes (drop a p) ≡ false → from a ≡ escaped (get_or p a 0) ++ from (a + 1)
  turn_byte a h b e =
      let w : here a ≡ record { size = 1; bytes = escaped (get_or p a 0) } = bare_unit a b ∙ rw (e, get_or-drop a p 0 0, add-zero a) refl in
      turn a 0 h w refl

  -- n bytes of text
  pub turn_bytes : (n a : ℕ) → a + n ≤ length p → ((i : ℕ) → a ≤ i → i < a + n → Bare i × (escapes (drop i p) ≡ false)) → from a ≡ flat_map escaped (take n (drop a p)) ++ from (a + n)
  unfolding flat_map
  turn_bytes zero a h f = rw (add-zero a) refl
  turn_bytes (suc n) a h f =
      let (b, e) = f a (omega arith) (omega arith) in
      let ih = turn_bytes n (a + 1) (omega arith) (λ i j k. f i (omega arith) (omega arith)) in
      let z : a + 1 + n ≡ a + suc n = omega arith in
      let k = at_cons p a (omega arith) in
      turn_byte a (omega arith) b e
      ∙ ap (λ (v : List ℕ). escaped (get_or p a 0) ++ v) ih
      ∙ sym (append_assoc (escaped (get_or p a 0)) (flat_map escaped (take n (drop (a + 1) p))) (from (a + 1 + n)))
      ∙ rw (k, z) refl

  -- ---- a row stands there; the next turn is at e
  pub turn_start : (a e : ℕ) (r : List ℕ) {w : Written} → a < length p → first_row (starts (off + a)) rows ≡ some r → started T js (tagged rows r) r ≡ w → a < e → w.size ≡ e - a
      → from a ≡ w.bytes ++ from e
  unfolding written_by
  turn_start a e r {w} h k f l z =
      let g : here a ≡ w = rw k f in
      let j : a + suc (e - a - 1) ≡ e = omega arith in
      turn a (e - a - 1) h g (omega arith) ∙ ap (λ (i : ℕ). w.bytes ++ from i) j

  pub turn_close : (a e : ℕ) (r : List ℕ) → a < length p → first_row (starts (off + a)) rows ≡ none → first_row (closes (off + a)) rows ≡ some r → a < e → row_end r - text_end r ≡ e - a
      → from a ≡ tag_if (tagged rows r) (close_tag T js r) ++ from e
  unfolding written_by
  turn_close a e r h n k l z =
      let g : here a ≡ record { size = row_end r - text_end r; bytes = tag_if (tagged rows r) (close_tag T js r) } = rw (n, k) refl in
      let j : a + suc (e - a - 1) ≡ e = omega arith in
      turn a (e - a - 1) h g (omega arith) ∙ ap (λ (i : ℕ). tag_if (tagged rows r) (close_tag T js r) ++ from i) j
