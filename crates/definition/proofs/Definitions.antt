-- `definition_at` finds exactly the definition that starts at a place, and there is at most one.
use Rattle.std.specs.Prelude.{None, Option, Some}
use Prim.Native.Nat.{ℕ, ◌+◌, ◌-◌, ◌≤◌, ◌<◌}
use native.Mathlib.Omega.{arith}
use mathlib.Core.Path.{◌≡◌, refl, sym, ap, subst, ◌∙◌}
use mathlib.Core.List.{List, ◌∷◌, ◌++◌, append_assoc}
use mathlib.Core.Logic.{◌↔◌}
use borrow.Author.Tests.{eqb-true, eq-eqb, leb-true, le-leb}
use lib.ListN.{length, get_or, drop, replicate, length-replicate, length-append}
use lib.Seq.{drop_at}
use lib.Dec.{leb, eqb}
use Rattle.scan.proofs.Test.{by}
use Rattle.scan.proofs.Scan.{peek_inside, at_cons}
use Rattle.scan.specs.Reading.{past}
use Rattle.scan.specs.Every.{other}
use Rattle.label.specs.Label.{LabelAt}
use Rattle.label.specs.Reading.{label_end}
use Rattle.label.proofs.Label.{label_end_iff}
use Rattle.row.specs.declared.Definition.{Definition}
use Rattle.definition.specs.Definition.{space, DefinitionAt}
use Rattle.definition.specs.Reading.{after_label, entry, with_label, after_indent, definition_at}
use Rattle.definition.proofs.Lines.{Left, left_one, LineEnded, LeftByLine, left_after, next_byte, front_run, Passed, passed}
use Rattle.definition.proofs.Labelled.{never, defined_inj, or_nothing, Follows, after_label_iff, follows_place}

-- a definition starts at place `at` of s, and what it leaves starts at place n
pub record DefinedAt (s : List ℕ) (at : ℕ) (d : Definition) (n : ℕ) : Type 0 where
  pub rest : List ℕ
  pub definition : DefinitionAt (drop at s) at d rest
  pub place : Left s n rest

regroup : (a l g b : List ℕ) → a ++ (91 ∷ l ++ (93 ∷ 58 ∷ g ++ b)) ≡ a ++ 91 ∷ l ++ 93 ∷ 58 ∷ g ++ b
regroup a l g b = simp append_assoc

module _ (s : List ℕ) where
  -- after an indent that ends at place i: the bracket, the label, and what follows it
  pub record Opened (i : ℕ) (d : Definition) (n : ℕ) : Type 0 where
    pub e : ℕ
    pub bracket : get_or s i 0 ≡ 91
    pub is_a_label : LabelAt (drop (i + 1) s) (i + 1) e
    pub reads : after_label s (i + 1) e ≡ Some (entry d n)

  opened : (i : ℕ) (d : Definition) (n : ℕ) → after_indent s i ≡ Some (entry d n) → Opened i d n
  unfolding after_indent
  opened i d n q =
      by (eqb (get_or s i 0) 91)
      (λ t. go (eqb-true (get_or s i 0) 91 t) (label_end (drop (i + 1) s) (i + 1)) refl (rw t at q))
      (λ f. absurd (never (rw f at q)))
    where
      go : get_or s i 0 ≡ 91 → (f : Option ℕ) → label_end (drop (i + 1) s) (i + 1) ≡ f → with_label s (i + 1) f ≡ Some (entry d n) → Opened i d n
      go b None k r = absurd (never r)
      go b (Some e) k r = record { e = e; bracket = b; is_a_label = (label_end_iff (drop (i + 1) s) (i + 1) e).0 k; reads = r }

  pub opens_at : (at : ℕ) (d : Definition) (n : ℕ) → definition_at s at ≡ Some (entry d n) → (past space s at - at ≤ 3) × Opened (past space s at) d n
  unfolding definition_at
  opens_at at d n q =
      let i = past space s at in
      by (leb (i - at) 3) (λ t. (leb-true (i - at) 3 t, opened i d n (rw t at q))) (λ f. absurd (never (rw f at q)))

module _ (s : List ℕ) (at : ℕ) (h : at ≤ length s) where
  -- ---- sound
  -- the text from the indent on, by its parts
  joined : {i e : ℕ} {more : List ℕ} (p : Passed space s at) → past space s at ≡ i → get_or s i 0 ≡ 91 → (l : LabelAt (drop (i + 1) s) (i + 1) e) → Left s (e + 1) more
      → drop at s ≡ p.front ++ (91 ∷ l.label ++ 93 ∷ more)
  joined {i} {e} {more} p ei b l w =
      let h : i < length s = peek_inside s i (λ o. omega arith) in
      let v : Left s e (93 ∷ l.more) = rw l.place (left_after s (i + 1) l.label (93 ∷ l.more) (omega arith) l.whole) in
      let em : l.more ≡ more = sym (next_byte s e 93 l.more v).after.rest ∙ w.rest in
      let r : p.rest ≡ 91 ∷ l.label ++ 93 ∷ more
      = sym p.there.rest ∙ ap (λ (x : ℕ). drop x s) ei ∙ at_cons s i h ∙ ap (λ (x : ℕ). x ∷ drop (i + 1) s) b ∙ ap (λ (x : List ℕ). 91 ∷ x) (l.whole ∙ ap (λ (x : List ℕ). l.label ++ 93 ∷ x) em) in
      p.whole ∙ ap (λ (x : List ℕ). p.front ++ x) r

  is_defined : {i : ℕ} {d : Definition} {n : ℕ} → past space s at ≡ i → i - at ≤ 3 → Opened s i d n → DefinedAt s at d n
  is_defined {i} {d} {n} ei few o =
      let p = passed space s at h in
      let f = (after_label_iff s (i + 1) o.e d n).0 o.reads in
      record {
        rest = f.rest;
        definition =
            record {
              indent = p.front;
              label = o.is_a_label.label;
              gap = f.gap;
              body = f.body;
              whole = joined p ei o.bracket o.is_a_label f.whole ∙ regroup p.front o.is_a_label.label f.gap f.body;
              spaces = p.passes;
              few = omega (arith, p.place);
              is_a_label = o.is_a_label.is_a_label;
              label_start = omega (arith, f.label_start, p.place);
              label_ends_at = omega (arith, f.label_start, f.label_ends_at, o.is_a_label.place);
              spaced = f.spaced;
              from = f.from;
              content = f.content;
              more = f.more;
              destination = f.destination;
              destination_start = omega (arith, f.label_ends_at, f.destination_start);
              destination_end = f.destination_end;
              ending = f.ending;
            };
        place = f.place;
      }

  sound : (d : Definition) (n : ℕ) → definition_at s at ≡ Some (entry d n) → DefinedAt s at d n
  sound d n q = let (few, o) = opens_at s at d n q in is_defined refl few o

  -- ---- complete
  module _ (d : Definition) {rest : List ℕ} (m : DefinitionAt (drop at s) at d rest) where
    abbrev opens : ℕ
    opens = at + length m.indent

    record Places : Type 0 where
      indented : past space s at ≡ opens
      bracket : get_or s opens 0 ≡ 91
      is_a_label : LabelAt (drop (opens + 1) s) (opens + 1) (opens + 1 + length m.label)
      after : Left s (opens + 1 + length m.label + 1) (58 ∷ m.gap ++ m.body)

    places : Places
    places =
        let tail = 58 ∷ m.gap ++ m.body in
        let whole : drop at s ≡ m.indent ++ (91 ∷ m.label ++ 93 ∷ tail) = m.whole ∙ sym (regroup m.indent m.label m.gap m.body) in
        let w = left_after s at m.indent (91 ∷ m.label ++ 93 ∷ tail) h whole in
        let b = next_byte s opens 91 (m.label ++ 93 ∷ tail) w in
        let v = left_after s (opens + 1) m.label (93 ∷ tail) b.after.fits b.after.rest in
        record {
          indented = front_run space s at whole m.spaces (other refl);
          bracket = b.byte;
          is_a_label = record { label = m.label; more = tail; whole = b.after.rest; is_a_label = m.is_a_label; place = refl };
          after = (next_byte s _ 93 tail v).after;
        }

    abbrev ends : ℕ
    ends = opens + 1 + length m.label

    follows : {n : ℕ} → Left s n rest → Follows s (opens + 1) ends d n
    follows w =
        let e : d.label.end ≡ ends = omega (arith, m.label_start, m.label_ends_at) in
        record {
          gap = m.gap;
          body = m.body;
          from = m.from;
          content = m.content;
          more = m.more;
          rest = rest;
          whole = places.after;
          spaced = m.spaced;
          destination = m.destination;
          label_start = m.label_start;
          label_ends_at = e;
          destination_start = omega (arith, m.destination_start);
          destination_end = m.destination_end;
          ending = m.ending;
          place = w;
        }

    complete : (n : ℕ) → Left s n rest → definition_at s at ≡ Some (entry d n)
    unfolding definition_at after_indent
    complete n w =
        let p = places in
        rw (p.indented, le-leb (opens - at) 3 (omega (arith, m.few)), eq-eqb (get_or s opens 0) 91 p.bracket, (label_end_iff _ _ ends).1 p.is_a_label)
        ((after_label_iff s (opens + 1) ends d n).1 (follows w))

    pub definition_place : LeftByLine s rest
    definition_place =
        let ez : d.destination.end + m.from ≡ ends + 2 + length m.gap + m.from + length m.content + m.from
        = omega (arith, m.label_start, m.label_ends_at, m.destination_start, m.destination_end) in
        follows_place s (opens + 1) ends m.gap m.body m.from m.content m.more places.after m.spaced m.destination (rw ez at m.ending)

  pub definition_iff : (d : Definition) (n : ℕ) → (definition_at s at ≡ Some (entry d n)) ↔ DefinedAt s at d n
  definition_iff d n = (sound d n, λ m. complete d m.definition n m.place)

  -- a definition goes on to an LF, or to the end
  pub definition_ended : (d : Definition) (n : ℕ) → definition_at s at ≡ Some (entry d n) → LineEnded s n
  definition_ended d n q =
      let m = sound d n q in
      let p = definition_place d m.definition in
      subst (LineEnded s) (left_one s m.rest p.place n p.left m.place) p.ended

  -- none is found exactly where none starts
  pub no_definition_iff : (definition_at s at ≡ None) ↔ ((d : Definition) (rest : List ℕ) → DefinitionAt (drop at s) at d rest → ⊥)
  no_definition_iff = (
    (λ q d rest m. let p = definition_place d m in never (sym q ∙ complete d m p.place p.left)),
    (λ f. or_nothing (definition_at s at) (λ d n q. let m = sound d n q in f d m.rest m.definition)),
  )

  one_at : {c d : Definition} {l r : List ℕ} → DefinitionAt (drop at s) at c l → DefinitionAt (drop at s) at d r → (c ≡ d) × (l ≡ r)
  one_at {c} {d} {l} {r} x y =
      let p = definition_place c x in
      let q = definition_place d y in
      let (e, k) = defined_inj (sym (complete c x p.place p.left) ∙ complete d y q.place q.left) in
      (e, sym p.left.rest ∙ ap (λ (i : ℕ). drop i s) k ∙ q.left.rest)

-- a text starts with at most one definition, read in one way
pub definition_one : {s : List ℕ} {at : ℕ} {c d : Definition} {l r : List ℕ} → DefinitionAt s at c l → DefinitionAt s at d r → (c ≡ d) × (l ≡ r)
definition_one {s} {at} x y =
    let front : List ℕ = replicate at 0 in
    let n : length front ≡ at = length-replicate at 0 in
    let e : drop at (front ++ s) ≡ s = drop_at front s at n in
    one_at (front ++ s) at (omega (arith, length-append front s)) (rw e x) (rw e y)
