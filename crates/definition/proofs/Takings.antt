-- Definitions taken one after the other: `definitions_from` takes exactly those of the law, and a loop over a block meets them in turn.
use Rattle.std.specs.Prelude.{None, Option, Some}
use Prim.Native.Nat.{ℕ, zero, suc, ◌+◌, ◌≤◌}
use native.Mathlib.Omega.{arith}
use mathlib.Core.Path.{◌≡◌, refl, sym, ap, subst, ◌∙◌}
use mathlib.Core.List.{List, [], ◌∷◌, ◌++◌}
use mathlib.Core.Logic.{◌↔◌}
use lib.ListN.{length, drop, replicate, length-replicate, length-append, length-drop}
use lib.Seq.{drop_at}
use Rattle.row.specs.declared.Definition.{Definition}
use Rattle.definition.specs.Definition.{DefinitionAt, Taken, over, taken}
use Rattle.definition.specs.Reading.{entry, definition_at, Taking, taking_from, definitions_from}
use Rattle.definition.specs.declared.Entry.{Entry}
use Rattle.definition.proofs.Lines.{Left, left_moved}
use Rattle.definition.proofs.Definitions.{definition_iff, no_definition_iff, definition_place}
use Rattle.definition.proofs.Places.{definition_onward}

abbrev pub none_from : ℕ → Taking
none_from at = record { definitions = []; after = at }

abbrev pub one_more : Definition → Taking → Taking
one_more d t = record { definitions = d ∷ t.definitions; after = t.after }

pub by_entry : {P : Type 0} (e : Option Entry) → (e ≡ None → P) → ((d : Definition) (n : ℕ) → e ≡ Some (entry d n) → P) → P
by_entry (Some e) f g = g e.definition e.next refl
by_entry None f g = f refl

-- t is what the law takes from place `at` on, and what is left lies within s
pub record Takes (s : List ℕ) (at : ℕ) (t : Taking) : Type 0 where
  pub by_law : Taken (drop at s) at t.definitions (drop t.after s) t.after
  pub low : at ≤ t.after
  pub high : t.after ≤ length s

module _ (s : List ℕ) where
  pub from_none : (k at : ℕ) → definition_at s at ≡ None → taking_from k s at ≡ none_from at
  unfolding taking_from
  from_none zero at e = refl
  from_none (suc k) at e = rw e

  pub from_one : (k at : ℕ) (d : Definition) (n : ℕ) → definition_at s at ≡ Some (entry d n) → taking_from (suc k) s at ≡ one_more d (taking_from k s n)
  unfolding taking_from
  from_one k at d n e = rw e

  past_none : (at : ℕ) → length s ≤ at → definition_at s at ≡ None
  past_none at h = by_entry (definition_at s at) (λ e. e) (λ d n e. let no : ⊥ = omega (arith, definition_onward s at d n e) in absurd no)

  -- enough turns are enough
  pub enough : (k j at : ℕ) → length s ≤ at + k → length s ≤ at + j → taking_from k s at ≡ taking_from j s at
  enough zero j at p q = let e = past_none at (omega arith) in from_none zero at e ∙ sym (from_none j at e)
  enough (suc k) zero at p q = let e = past_none at (omega arith) in from_none (suc k) at e ∙ sym (from_none zero at e)
  enough (suc k) (suc j) at p q =
      by_entry (definition_at s at) (λ e. from_none (suc k) at e ∙ sym (from_none (suc j) at e))
      (λ d n e.
      let (x, y) = definition_onward s at d n e in
      from_one k at d n e ∙ ap (one_more d) (enough k j n (omega arith) (omega arith)) ∙ sym (from_one j at d n e))

  -- ---- the turns of a loop over a block
  pub turn_over : (at : ℕ) → definition_at s at ≡ None → definitions_from s at ≡ none_from at
  unfolding definitions_from
  turn_over at e = from_none (length s) at e

  pub turn_taken : (at : ℕ) (d : Definition) (n : ℕ) → definition_at s at ≡ Some (entry d n) → definitions_from s at ≡ one_more d (definitions_from s n)
  unfolding definitions_from
  turn_taken at d n e =
      let (x, y) = definition_onward s at d n e in
      enough (length s) (suc (length s)) at (omega arith) (omega arith) ∙ from_one (length s) at d n e

  -- ---- what is taken is what the law takes, and what is left follows it
  takes_none : (at : ℕ) → at ≤ length s → definition_at s at ≡ None → Takes s at (none_from at)
  takes_none at h e = record { by_law = over (λ d rest m. (no_definition_iff s at h).0 e d _ m); low = omega arith; high = h }

  takes : (k at : ℕ) → length s ≤ at + k → at ≤ length s → Takes s at (taking_from k s at)
  takes zero at p h = let e = past_none at (omega arith) in rw (from_none zero at e) (takes_none at h e)
  takes (suc k) at p h =
      by_entry (definition_at s at) (λ e. rw (from_none (suc k) at e) (takes_none at h e))
      (λ d n e.
      let (x, y) = definition_onward s at d n e in
      let m = (definition_iff s at h d n).0 e in
      let t = takes k n (omega arith) y in
      let here : at + length (drop at s) ≡ n + length (drop n s) = omega (arith, length-drop at s, length-drop n s) in
      rw (from_one k at d n e)
      (record {
        by_law = taken (subst (DefinitionAt (drop at s) at d) (sym m.place.rest) m.definition) here t.by_law;
        low = omega (arith, t.low);
        high = t.high;
      }))

  pub taking_takes : (at : ℕ) → at ≤ length s → Takes s at (definitions_from s at)
  unfolding definitions_from
  taking_takes at h = takes (length s) at (omega arith) h

  -- the next definition, and its place by what it leaves
  next_one : {at next : ℕ} {d : Definition} {rest : List ℕ} → at ≤ length s → DefinitionAt (drop at s) at d rest → at + length (drop at s) ≡ next + length rest
      → (definition_at s at ≡ Some (entry d next)) × Left s next rest
  next_one {at} {next} {d} {rest} h m here =
      let p = definition_place s at h d m in
      let w = p.left in
      let v : Left s next rest = left_moved (omega (arith, length-drop at s, ap length w.rest, length-drop p.place s, w.fits)) w in
      ((definition_iff s at h d next).1 (record { rest = rest; definition = m; place = v }), v)

  complete : {t left : List ℕ} {at after : ℕ} {ds : List Definition} → Taken t at ds left after → t ≡ drop at s → at ≤ length s
      → (definitions_from s at ≡ record { definitions = ds; after = after }) × (left ≡ drop after s)
  complete (over {at = at} f) e h = (turn_over at ((no_definition_iff s at h).1 (λ d rest m. f d rest (rw e m))), e)
  complete (taken {at = at} {next = next} {d = d} m here more) e h =
      let (q, w) = next_one h (rw e at m) (rw e at here) in
      let (r, k) = complete more (sym w.rest) w.fits in
      (turn_taken at d next q ∙ ap (one_more d) r, k)

  pub taken_iff : (at : ℕ) → at ≤ length s → (ds : List Definition) (after : ℕ)
      → (definitions_from s at ≡ record { definitions = ds; after = after }) ↔ Taken (drop at s) at ds (drop after s) after
  taken_iff at h ds after = (
    (λ e. subst (λ (t : Taking). Taken (drop at s) at t.definitions (drop t.after s) t.after) e (taking_takes at h).by_law),
    (λ t. (complete t refl h).0),
  )

  -- what is left, wherever the law says that it starts
  pub taken_left : {at after : ℕ} {ds : List Definition} {left : List ℕ} → at ≤ length s → Taken (drop at s) at ds left after
      → (definitions_from s at ≡ record { definitions = ds; after = after }) × (left ≡ drop after s)
  taken_left h t = complete t refl h

-- definitions are taken in one way
pub record Same (ds es : List Definition) (left right : List ℕ) (m n : ℕ) : Type 0 where
  pub definitions : ds ≡ es
  pub rest : left ≡ right
  pub place : m ≡ n

pub taken_one : {s left right : List ℕ} {at m n : ℕ} {ds es : List Definition} → Taken s at ds left m → Taken s at es right n → Same ds es left right m n
taken_one {s} {left} {right} {at} {m} {n} {ds} {es} x y =
    let front : List ℕ = replicate at 0 in
    let k : length front ≡ at = length-replicate at 0 in
    let e : drop at (front ++ s) ≡ s = drop_at front s at k in
    let h : at ≤ length (front ++ s) = omega (arith, length-append front s) in
    let (p, l) = taken_left (front ++ s) {at = at} {after = m} {ds = ds} {left = left} h (rw e x) in
    let (q, r) = taken_left (front ++ s) {at = at} {after = n} {ds = es} {left = right} h (rw e y) in
    let z = sym p ∙ q in
    let place = ap (λ (t : Taking). t.after) z in
    record { definitions = ap (λ (t : Taking). t.definitions) z; rest = l ∙ ap (λ (i : ℕ). drop i (front ++ s)) place ∙ sym r; place = place }
