-- What follows a label's closing bracket: `after_label` finds exactly a colon, a destination and what ends a definition.
use Rattle.std.specs.Prelude.{None, Option, Some}
use Prim.Native.Nat.{ℕ, ◌+◌, ◌≤◌, ◌<◌}
use native.Mathlib.Omega.{arith}
use mathlib.Core.Path.{◌≡◌, refl, sym, ap, subst, ◌∙◌}
use mathlib.Core.List.{List, ◌∷◌, ◌++◌}
use mathlib.Core.Logic.{◌↔◌, inl, inr}
use borrow.Author.Tests.{eqb-true, eq-eqb}
use lib.ListN.{length, get_or, drop}
use lib.Dec.{eqb}
use Rattle.scan.proofs.Test.{by}
use Rattle.scan.proofs.Scan.{peek_inside, at_cons}
use Rattle.target.specs.Target.{Space, Destination, DestinationAt}
use Rattle.target.specs.Reading.{part, destination_of}
use Rattle.target.specs.declared.Part.{Part}
use Rattle.target.proofs.Delimited.{placed_within}
use Rattle.target.proofs.Destinations.{destination_iff, destination_placed, destination_front}
use Rattle.row.specs.declared.Definition.{Definition}
use Rattle.definition.specs.Definition.{Ending}
use Rattle.definition.specs.Reading.{space_after, ending_after, row, entry, with_ending, with_destination, after_label}
use Rattle.definition.specs.declared.Entry.{Entry}
use Rattle.definition.proofs.Lines.{Left, next_byte, LeftByLine}
use Rattle.definition.proofs.Endings.{spaced, space_there, TitlePlace, EndingAt, ending_after_iff, ending_complete, ending_place}

pub never : {d : Definition} {n : ℕ} → None ≡ Some (entry d n) → ⊥
never q = let z : ◌≡◌ {A = ℕ} 0 1 = cc in omega arith

pub defined_inj : {c d : Definition} {m n : ℕ} → Some (entry c m) ≡ Some (entry d n) → (c ≡ d) × (m ≡ n)
defined_inj {c} {d} {m} {n} q = let p : entry c m ≡ entry d n = cc in (ap (λ (e : Entry). e.definition) p, ap (λ (e : Entry). e.next) p)

pub or_nothing : (e : Option Entry) → ((d : Definition) (n : ℕ) → e ≡ Some (entry d n) → ⊥) → e ≡ None
or_nothing (Some e) f = absurd (f e.definition e.next refl)
or_nothing None f = refl

pub row_eq : {l e a z t u l' e' a' z' t' u' : ℕ} → l ≡ l' → e ≡ e' → a ≡ a' → z ≡ z' → t ≡ t' → u ≡ u' → row l e a z t u ≡ row l' e' a' z' t' u'
row_eq h i j k m n = cc

-- the rest of a definition d, where its label's closing bracket stands at place e; the definition ends before place n
pub record Follows (s : List ℕ) (l e : ℕ) (d : Definition) (n : ℕ) : Type 0 where
  pub gap : List ℕ
  pub body : List ℕ
  pub from : ℕ
  pub content : List ℕ
  pub more : List ℕ
  pub rest : List ℕ
  pub whole : Left s (e + 1) (58 ∷ gap ++ body)
  pub spaced : Space gap
  pub destination : Destination body from content more
  pub label_start : d.label.start ≡ l
  pub label_ends_at : d.label.end ≡ e
  pub destination_start : d.destination.start ≡ e + 2 + length gap + from
  pub destination_end : d.destination.end ≡ d.destination.start + length content
  pub ending : Ending more (d.destination.end + from) d.title.start d.title.end rest
  pub place : Left s n rest

module _ (s : List ℕ) (l e : ℕ) where
  -- where the destination is looked for
  abbrev begins : ℕ
  begins = space_after s (e + 2)

  -- the parts that the reading finds
  record Parts (d : Definition) (n : ℕ) : Type 0 where
    a : ℕ
    z : ℕ
    m : ℕ
    t : ℕ
    u : ℕ
    colon : get_or s (e + 1) 0 ≡ 58
    is_destination : destination_of (drop begins s) begins ≡ Some (part a z m)
    is_ending : ending_after s m ≡ Some (part t u n)
    is_row : row l e a z t u ≡ d

  parts : (d : Definition) (n : ℕ) → after_label s l e ≡ Some (entry d n) → Parts d n
  unfolding after_label
  parts d n q =
      by (eqb (get_or s (e + 1) 0) 58)
      (λ t. go (eqb-true (get_or s (e + 1) 0) 58 t) (destination_of (drop begins s) begins) refl (rw t at q))
      (λ f. absurd (never (rw f at q)))
    where
      last : (a z m : ℕ) → get_or s (e + 1) 0 ≡ 58 → destination_of (drop begins s) begins ≡ Some (part a z m)
          → (p : Option Part) → ending_after s m ≡ p → with_ending l e a z p ≡ Some (entry d n) → Parts d n
      last a z m c i None k r = absurd (never r)
      last a z m c i (Some p) k r =
          let (er, ex) = defined_inj r in
          record { a = a; z = z; m = m; t = p.start; u = p.end; colon = c; is_destination = i; is_ending = k ∙ ap (λ (x : ℕ). Some (part p.start p.end x)) ex; is_row = er }

      go : get_or s (e + 1) 0 ≡ 58 → (p : Option Part) → destination_of (drop begins s) begins ≡ p → with_destination s l e p ≡ Some (entry d n) → Parts d n
      go c None i r = absurd (never r)
      go c (Some p) i r = last p.start p.end p.next c i (ending_after s p.next) refl r

  -- where they stand
  pub record AfterPlaces (d : Definition) (n : ℕ) : Type 0 where
    pub label_start : d.label.start ≡ l
    pub label_ends_at : d.label.end ≡ e
    pub apart : e + 1 < d.destination.start
    pub destination : d.destination.start ≤ d.destination.end
    pub ends : d.destination.end ≤ n
    pub inside : n ≤ length s
    pub title : TitlePlace d.destination.end d.title.start d.title.end n

  later : {m z t u n : ℕ} → z ≤ m → TitlePlace m t u n → TitlePlace z t u n
  later h (inl p) = inl p
  later h (inr (x, y, z)) = inr (omega arith, y, z)

  pub after_places : (d : Definition) (n : ℕ) → after_label s l e ≡ Some (entry d n) → AfterPlaces d n
  after_places d n q =
      let p = parts d n q in
      let i = (destination_iff _ _ p.a p.z p.m).0 p.is_destination in
      let w = placed_within (destination_placed i) in
      let f = (ending_after_iff s p.m w.fits p.t p.u n).0 p.is_ending in
      subst (λ (x : Definition). AfterPlaces x n) p.is_row
      (record {
        label_start = refl;
        label_ends_at = refl;
        apart = omega (arith, i.start);
        destination = omega (arith, i.end);
        ends = omega (arith, i.past, f.onward);
        inside = f.place.fits;
        title = later (omega (arith, i.past)) f.title_place;
      })

  follows : (n : ℕ) {a z m t u : ℕ} → get_or s (e + 1) 0 ≡ 58 → DestinationAt (drop begins s) begins a z m → EndingAt s m t u n
      → Follows s l e (row l e a z t u) n
  follows n {a} {z} {m} {t} {u} c d f =
      let i : e + 1 < length s = peek_inside s (e + 1) (λ o. omega arith) in
      let p = spaced s (e + 2) (omega arith) in
      let w = placed_within (destination_placed d) in
      let two : e + 1 + 1 ≡ e + 2 = omega arith in
      let head : drop (e + 1) s ≡ 58 ∷ p.gap ++ p.body
      = at_cons s (e + 1) i ∙ ap (λ (x : ℕ). x ∷ drop (e + 1 + 1) s) c ∙ ap (λ (x : ℕ). 58 ∷ drop x s) two ∙ ap (λ (x : List ℕ). 58 ∷ x) p.whole in
      record {
        gap = p.gap;
        body = p.body;
        from = d.from;
        content = d.content;
        more = d.more;
        rest = f.rest;
        whole = record { fits = omega arith; rest = head };
        spaced = p.space;
        destination = subst (λ (x : List ℕ). Destination x d.from d.content d.more) p.there.rest d.destination;
        label_start = refl;
        label_ends_at = refl;
        destination_start = omega (arith, d.start, p.place);
        destination_end = d.end;
        ending =
            subst (λ (x : ℕ). Ending d.more x t u f.rest) d.past
            (subst (λ (x : List ℕ). Ending x m t u f.rest) w.rest f.ending);
        place = f.place;
      }

  after_sound : (d : Definition) (n : ℕ) → after_label s l e ≡ Some (entry d n) → Follows s l e d n
  after_sound d n q =
      let p = parts d n q in
      let i = (destination_iff _ _ p.a p.z p.m).0 p.is_destination in
      subst (λ (x : Definition). Follows s l e x n) p.is_row
      (follows n p.colon i ((ending_after_iff s p.m (placed_within (destination_placed i)).fits p.t p.u n).0 p.is_ending))

  -- what the law finds, by its places
  module _ (gap body : List ℕ) (from : ℕ) (content more : List ℕ) (whole : Left s (e + 1) (58 ∷ gap ++ body)) (is_space : Space gap) (destination : Destination body from content more) where
    abbrev start : ℕ
    start = e + 2 + length gap + from

    record FoundParts : Type 0 where
      pub colon : get_or s (e + 1) 0 ≡ 58
      pub is_destination : DestinationAt (drop begins s) begins start (start + length content) (start + length content + from)
      pub there : Left s (start + length content + from) more

    find_parts : FoundParts
    find_parts =
        let b = next_byte s (e + 1) 58 (gap ++ body) whole in
        let two : e + 1 + 1 ≡ e + 2 = omega arith in
        let two_on : drop (e + 2) s ≡ gap ++ body = ap (λ (x : ℕ). drop x s) (sym two) ∙ b.after.rest in
        let (g, there) = space_there s (e + 2) (omega (arith, b.inside)) two_on is_space (destination_front destination) in
        let i : DestinationAt (drop begins s) begins start (start + length content) (start + length content + from)
        = record { from = from; content = content; more = more; destination = rw there.rest destination; start = omega arith; end = refl; past = refl } in
        let w = placed_within (destination_placed i) in
        record { colon = b.byte; is_destination = i; there = record { fits = w.fits; rest = w.rest } }

    pub follows_place : {t u : ℕ} {rest : List ℕ} → Ending more (start + length content + from) t u rest → LeftByLine s rest
    follows_place {t} {u} g = let f = find_parts in ending_place s _ f.there.fits {a = t} {z = u} (rw f.there.rest g)

    follows_found : {t u n : ℕ} {rest : List ℕ} → Ending more (start + length content + from) t u rest → Left s n rest → after_label s l e ≡ Some (entry (row l e start (start + length content) t u) n)
    unfolding after_label
    follows_found {t} {u} {n} g w =
        let f = find_parts in
        let k : ending_after s (start + length content + from) ≡ Some (part t u n) = ending_complete s _ f.there.fits n (rw f.there.rest g) w in
        rw (eq-eqb (get_or s (e + 1) 0) 58 f.colon, (destination_iff _ _ _ _ _).1 f.is_destination, k)

  after_complete : (d : Definition) (n : ℕ) → Follows s l e d n → after_label s l e ≡ Some (entry d n)
  after_complete d n f =
      let ez : d.destination.end ≡ e + 2 + length f.gap + f.from + length f.content = omega (arith, f.destination_start, f.destination_end) in
      follows_found f.gap f.body f.from f.content f.more f.whole f.spaced f.destination (rw ez at f.ending) f.place
      ∙ ap (λ (x : Definition). Some (entry x n)) (row_eq (sym f.label_start) (sym f.label_ends_at) (sym f.destination_start) (sym ez) refl refl)

  pub after_label_iff : (d : Definition) (n : ℕ) → (after_label s l e ≡ Some (entry d n)) ↔ Follows s l e d n
  after_label_iff d n = (after_sound d n, after_complete d n)
