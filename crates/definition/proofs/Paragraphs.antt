-- `paragraph_from` gives exactly what is left of a block, less a final LF.
use Prim.Native.Nat.{ℕ, suc, ◌+◌, ◌-◌, ◌≤◌}
use native.Mathlib.Omega.{arith}
use mathlib.Core.Path.{◌≡◌, refl, sym, ap, subst, ◌∙◌}
use mathlib.Core.List.{List, [], ◌∷◌, ◌++◌}
use mathlib.Core.Logic.{◌↔◌}
use borrow.Author.Tests.{le-leb, lt-leb, eqb-true, eqb-false, eq-eqb, ne_eqb}
use lib.ListN.{length, get_or, take, drop, length-append, length-drop, drop_of_length-le}
use lib.Seq.{split_at, take_at, take_all, get_or_at, get_or-drop}
use lib.Dec.{eqb}
use Rattle.scan.proofs.Test.{by}
use Rattle.block.specs.Block.{Placed}
use Rattle.definition.specs.Note.{Paragraph, none, line, bare}
use Rattle.definition.specs.Reading.{paragraph_end, paragraph_from}

-- a text that ends with LF
ends_feed : (t : List ℕ) (j : ℕ) → length t ≡ j + 1 → get_or t j 0 ≡ 10 → t ≡ take j t ++ 10 ∷ []
ends_feed t j n e =
    split_at t j 0 (omega arith) ∙ ap (λ (x : ℕ). take j t ++ x ∷ drop (suc j) t) e ∙ ap (λ (x : List ℕ). take j t ++ 10 ∷ x) (drop_of_length-le t {i = suc j} (omega arith))

-- bytes left over are one of the two kinds
some_paragraph : (t : List ℕ) (at : ℕ) → (ps : List Placed) × Paragraph t at ps
some_paragraph [] at = ([], none)
some_paragraph (b ∷ t) at =
    by (eqb (get_or (b ∷ t) (length t) 0) 10)
    (λ y.
    let e = ends_feed (b ∷ t) (length t) (omega arith) (eqb-true (get_or (b ∷ t) (length t) 0) 10 y) in
    (record { at = at; bytes = take (length t) (b ∷ t) } ∷ [], subst (λ (x : List ℕ). Paragraph x at (record { at = at; bytes = take (length t) (b ∷ t) } ∷ [])) (sym e) line))
    (λ n. (
      record { at = at; bytes = b ∷ t } ∷ [],
      bare (λ k e.
          let size : length k ≡ length t = omega (arith, ap length e, length-append k (10 ∷ [])) in
          eqb-false (get_or (b ∷ t) (length t) 0) 10 n (ap (λ (x : List ℕ). get_or x (length t) 0) e ∙ get_or_at k 10 [] 0 (length t) size)),
    ))

module _ (s : List ℕ) (at : ℕ) where
  -- the last byte of s is that of what is left
  last_byte : (j : ℕ) → length (drop at s) ≡ j + 1 → get_or s (length s - 1) 0 ≡ get_or (drop at s) j 0
  last_byte j n = sym (get_or-drop at s j 0 ∙ ap (λ (x : ℕ). get_or s x 0) (omega (arith, length-drop at s)))

  one : List ℕ → List Placed
  one l = record { at = at; bytes = l } ∷ []

  from_line : (l : List ℕ) → drop at s ≡ l ++ 10 ∷ [] → paragraph_from s at ≡ one l
  unfolding paragraph_from paragraph_end one
  from_line l e =
      let n : length (drop at s) ≡ length l + 1 = ap length e ∙ length-append l (10 ∷ []) ∙ omega arith in
      let b : get_or s (length s - 1) 0 ≡ 10 = last_byte (length l) n ∙ ap (λ (x : List ℕ). get_or x (length l) 0) e ∙ get_or_at l 10 [] 0 (length l) refl in
      rw (lt-leb (length s) at (omega (arith, length-drop at s)), eq-eqb (get_or s (length s - 1) 0) 10 b, e, take_at l (10 ∷ []) (length s - 1 - at) (omega (arith, length-drop at s)))

  from_bare : (j : ℕ) → length (drop at s) ≡ j + 1 → (get_or (drop at s) j 0 ≡ 10 → ⊥) → paragraph_from s at ≡ one (drop at s)
  unfolding paragraph_from paragraph_end one
  from_bare j n f =
      rw (lt-leb (length s) at (omega (arith, length-drop at s)), ne_eqb (get_or s (length s - 1) 0) 10 (λ z. f (sym (last_byte j n) ∙ z)), take_all (length s - at) (drop at s) (omega (arith, length-drop at s)))

  from_none : length s ≤ at → paragraph_from s at ≡ []
  unfolding paragraph_from
  from_none h = rw (le-leb (length s) at h)

  complete : {t : List ℕ} {at' : ℕ} {ps : List Placed} → Paragraph t at' ps → t ≡ drop at s → at' ≡ at → paragraph_from s at ≡ ps
  unfolding one
  complete none e a = from_none (omega (arith, ap length e, length-drop at s))
  complete (line {l = l}) e a = rw a (from_line l (sym e))
  complete (bare {b = b} {l = l} f) e a =
      let n : length (drop at s) ≡ length l + 1 = sym (ap length e) ∙ omega arith in
      let end : get_or (drop at s) (length l) 0 ≡ 10 → ⊥ = (λ z. f (take (length l) (drop at s)) (e ∙ ends_feed (drop at s) (length l) n z)) in
      rw (a, e) (from_bare (length l) n end)

  sound : Paragraph (drop at s) at (paragraph_from s at)
  sound = let (ps, p) = some_paragraph (drop at s) at in subst (Paragraph (drop at s) at) (sym (complete p refl refl)) p

  pub paragraph_iff : (ps : List Placed) → (paragraph_from s at ≡ ps) ↔ Paragraph (drop at s) at ps
  paragraph_iff ps = ((λ e. subst (Paragraph (drop at s) at) e sound), λ p. complete p refl refl)
