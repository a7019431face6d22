-- A marking of the pieces so far, with one more piece and what it comes to, meets the conditions one piece further.
use mathlib.Core.Path.{◌≡◌, refl, sym, ap, ◌∙◌, subst}
use mathlib.Core.Logic.{◌↔◌, ◌≢◌, inl, inr}
use mathlib.Core.Bool.{true}
use mathlib.Core.Option.{some, some-injective}
use mathlib.Core.List.{List, ◌∷◌, ◌++◌}
use Prim.Native.Nat.{ℕ, suc, ◌<◌}
use native.Mathlib.Decide.{ℕ_discrete}
use native.Mathlib.Omega.{arith}
use lib.ListN.{length, take, get_elem?}
use lib.Seq.{take-append_seam, take-length}
use Rattle.marking.specs.Marking.{Sort, link, closing, trailing, role, Piece, Marking, chosen, At, Tiles, Paired, tail_piece, FollowsTaken}
use Rattle.marking.specs.ReadingRules.{Grammar, Computed}
use Rattle.marking.specs.Reading.{Match, alone, paired, taken, pair_column, taken_column, piece_at, extra, place_after, extend}
use Rattle.marking.proofs.Lists.{at_inside, at_left, at_seam, at_back}
use Rattle.marking.proofs.Roles.{trailing≢closing}
use Rattle.marking.proofs.Tiles.{tiles_append}
use Rattle.marking.proofs.Pairs.{LastBalanced, partner, pair_of, paired_local, pair_inside, Taken, TakenAre, taken_are, taken_pair, links_of, images_of}
use Rattle.marking.proofs.Sound.{Sound, up_to, MeetsTo}
use Rattle.marking.proofs.Unique.{tail_local, not_both, none_of}
use Rattle.marking.proofs.Next.{OldOrNew, TakenFound, FoundIs, Stands, earlier, here, after, stands, at_tail, taken_column_lem, own_taken, ext_taken_old, ext_taken_new, ext_pairs_old, ext_pairs_new}

module _ {T : Type 0} (g : Grammar T) (sd : Sound g) (m : Marking T) (b : ℕ) (c : MeetsTo g b m) (inside : b < g.size) (f : Match T) (fi : FoundIs g m (piece_at g b) f) where
  -- the next piece, what it adds, where the pieces then end, and the marking then
  abbrev next : Piece
  next = piece_at g b

  abbrev added : List Piece
  added = next ∷ extra g next f

  abbrev reached : ℕ
  reached = place_after g next f

  abbrev grown : Marking T
  grown = extend g m next f

  new_tiled : (f : Match T) → Tiles b (next ∷ extra g next f) (place_after g next f)
  new_tiled alone = (refl, omega (arith, sd.grows b inside), refl)
  new_tiled (paired i) = (refl, omega (arith, sd.grows b inside), refl)
  new_tiled (taken x i t) = (refl, omega (arith, sd.grows b inside), (refl, omega arith, refl))

  ext_tiled : Tiles 0 grown.pieces reached
  unfolding extend
  ext_tiled = tiles_append 0 b reached m.pieces added c.tiled (new_tiled f)

  ext_kinds : (k : ℕ) (x : Piece) → At grown.pieces k x → role x.kind ≢ trailing → Computed g x
  unfolding extend
  ext_kinds k x a ne = by (stands g m.pieces next f k x a)
    where
      by : Stands g m.pieces next f k x → Computed g x
      by (earlier a' h) = c.kinds k x a' ne
      by (here e e') = subst (λ (y : Piece). Computed g y) (sym e') (record { inside = inside; kind_is = refl; end_is = refl })
      by (after y i t e e' e'') = absurd (ne (ap (λ (y : Piece). role y.kind) e''))

  new_take : take (length m.pieces) m.pieces ≡ take (length m.pieces) (m.pieces ++ added)
  new_take = take-length m.pieces ∙ sym (take-append_seam m.pieces added)

  ext_no_other_tails : (k : ℕ) (x : Piece) → At grown.pieces k x → role x.kind ≡ trailing → FollowsTaken grown k
  unfolding extend
  ext_no_other_tails k x a r = by (stands g m.pieces next f k x a)
    where
      by : Stands g m.pieces next f k x → FollowsTaken grown k
      by (earlier a' h) =
          let d : FollowsTaken m k = c.no_other_tails k x a' r in
          record {
            sort = d.sort;
            from = d.from;
            to = d.to;
            with_tail = d.with_tail;
            taken = ext_taken_old g m next f d.sort d.from d.to (omega (arith, d.next)) ∙ d.taken;
            next = d.next;
          }
      by (here e e') = absurd (sd.no_tail b inside (ap (λ (y : Piece). role y.kind) (sym e') ∙ r))
      by (after y i t e e' e'') =
          record {
            sort = y;
            from = i;
            to = length m.pieces;
            with_tail = t;
            taken = ext_taken_new g m next f y i ∙ ap (λ (z : Match T). taken_column y z i) e ∙ own_taken y i t;
            next = e';
          }

  ext_tails : (x : Sort) (i j : ℕ) (t : T) (q : Piece) → chosen x grown i j ≡ some t → At grown.pieces j q
      → At grown.pieces (suc j) (tail_piece q (g.length_of t))
  unfolding extend
  ext_tails x i j t q l a = by (ℕ_discrete j (length m.pieces))
    where
      by : Dec (j ≡ length m.pieces) → At (m.pieces ++ added) (suc j) (tail_piece q (g.length_of t))
      by (yes e) =
          let l' : taken_column x f i ≡ some t = sym (ext_taken_new g m next f x i) ∙ ap (λ (k : ℕ). chosen x grown i k) (sym e) ∙ l in
          let ft : f ≡ taken x i t = taken_column_lem x f i t l' in
          let nq : next ≡ q = some-injective next q (sym (at_seam m.pieces next (extra g next f)) ∙ ap (get_elem? (m.pieces ++ added)) (sym e) ∙ a) in
          ap (λ (k : ℕ). get_elem? (m.pieces ++ added) (suc k)) e ∙ at_tail g m.pieces next f x i t ft ∙ ap (λ (y : Piece). some (tail_piece y (g.length_of t))) nq
      by (no ne) =
          let l' : chosen x m i j ≡ some t = sym (ext_taken_old g m next f x i j ne) ∙ l in
          at_left m.pieces added (suc j) (tail_piece q (g.length_of t))
          (c.tails x i j t q l' (sym (at_back m.pieces added j (pair_inside (taken_pair c x i j t l'))) ∙ a))

  last_new : (i : ℕ) → LastBalanced m.pieces i → LastBalanced (take (length m.pieces) (m.pieces ++ added)) i
  last_new i l = subst (λ (y : List Piece). LastBalanced y i) (sym (take-append_seam m.pieces added)) l

  last_back : (i : ℕ) → LastBalanced (take (length m.pieces) (m.pieces ++ added)) i → LastBalanced m.pieces i
  last_back i l = subst (λ (y : List Piece). LastBalanced y i) (take-append_seam m.pieces added) l

  pair_new : (i : ℕ) → pair_column f i ≡ true → Paired (m.pieces ++ added) i (length m.pieces)
  pair_new i h =
      let t : (role (g.kind_at b) ≡ closing) × LastBalanced m.pieces i = (fi.pair_found i).0 h in
      pair_of (m.pieces ++ added) (length m.pieces) i
      (record { piece = next; at = at_seam m.pieces next (extra g next f); as_role = t.0 }) (last_new i t.1)

  pub pair_cases : (i j : ℕ) → Paired (m.pieces ++ added) i j → OldOrNew m.pieces f i j
  pair_cases i j p = by (stands g m.pieces next f j p.closed.piece p.closed.at)
    where
      by : Stands g m.pieces next f j p.closed.piece → OldOrNew m.pieces f i j
      by (earlier a h) = inl (h, paired_local (length m.pieces) (m.pieces ++ added) m.pieces i j (sym new_take) h p)
      by (here e e') =
          inr (e, (fi.pair_found i).1 (ap (λ (y : Piece). role y.kind) (sym e') ∙ p.closed.as_role, last_back i (subst (λ (k : ℕ). LastBalanced (take k (m.pieces ++ added)) i) e (partner (m.pieces ++ added) j i p))))
      by (after y a t e e' e'') = absurd (trailing≢closing (ap (λ (y : Piece). role y.kind) (sym e'') ∙ p.closed.as_role))

  pub ext_pairs : (i j : ℕ) → (grown.pairs i j ≡ true) ↔ Paired grown.pieces i j
  unfolding extend
  ext_pairs i j = (to (ℕ_discrete j (length m.pieces)), λ p. back (pair_cases i j p))
    where
      to : Dec (j ≡ length m.pieces) → grown.pairs i j ≡ true → Paired (m.pieces ++ added) i j
      to (yes e) h =
          subst (λ (k : ℕ). Paired (m.pieces ++ added) i k) (sym e)
          (pair_new i (sym (ext_pairs_new g m next f i) ∙ ap (λ (k : ℕ). grown.pairs i k) (sym e) ∙ h))
      to (no ne) h =
          let p : Paired m.pieces i j = (c.pairs_are i j).0 (sym (ext_pairs_old g m next f i j ne) ∙ h) in
          paired_local (length m.pieces) m.pieces (m.pieces ++ added) i j new_take (at_inside m.pieces j p.closed.piece p.closed.at) p

      back : OldOrNew m.pieces f i j → grown.pairs i j ≡ true
      back (inl t) = ext_pairs_old g m next f i j (omega (arith, t.0)) ∙ (c.pairs_are i j).1 t.1
      back (inr t) = ap (λ (k : ℕ). grown.pairs i k) t.0 ∙ ext_pairs_new g m next f i ∙ t.1

  -- a link or an image of the old pieces is one of the longer list, and back
  taken_on : (x : Sort) (i j : ℕ) (t : T) → j < length m.pieces → Taken (up_to g b) x m i j t → Taken (up_to g reached) x grown i j t
  unfolding extend
  taken_on x i j t h l =
      let ij : i < j = ((c.pairs_are i j).0 l.paired).before in
      record {
        paired = ext_pairs_old g m next f i j (omega arith) ∙ l.paired;
        no_link_between = λ xl i' j' hi hj. ext_taken_old g m next f link i' j' (omega arith) ∙ l.no_link_between xl i' j' hi hj;
        has_tail = tail_local (up_to g b) (up_to g reached) x (length m.pieces) m.pieces (m.pieces ++ added) i j t (λ o s z. z) new_take (omega arith) h l.has_tail;
      }

  taken_off : (x : Sort) (i j : ℕ) (t : T) → j < length m.pieces → Taken (up_to g reached) x grown i j t → Taken (up_to g b) x m i j t
  unfolding extend
  taken_off x i j t h l =
      let pr : m.pairs i j ≡ true = sym (ext_pairs_old g m next f i j (omega arith)) ∙ l.paired in
      let ij : i < j = ((c.pairs_are i j).0 pr).before in
      record {
        paired = pr;
        no_link_between = λ xl i' j' hi hj. sym (ext_taken_old g m next f link i' j' (omega arith)) ∙ l.no_link_between xl i' j' hi hj;
        has_tail = tail_local (up_to g reached) (up_to g b) x (length m.pieces) (m.pieces ++ added) m.pieces i j t (λ o s z. z) (sym new_take) (omega arith) h l.has_tail;
      }

  taken_new : (x : Sort) (i : ℕ) (t : T) → taken_column x f i ≡ some t → Taken (up_to g reached) x grown i (length m.pieces) t
  unfolding extend
  taken_new x i t h =
      let d : (pair_column f i ≡ true) × TakenFound g m next x i t = (fi.taken_found x i t).0 h in
      record {
        paired = ext_pairs_new g m next f i ∙ d.0;
        no_link_between = λ xl i' j' hi hj. ext_taken_old g m next f link i' j' (omega arith) ∙ d.1.no_link xl i' j' (omega arith);
        has_tail =
            record {
              open_piece = d.1.open_piece;
              close_piece = next;
              open_at = at_left m.pieces added i d.1.open_piece d.1.open_at;
              close_at = at_seam m.pieces next (extra g next f);
              of_sort = d.1.of_sort;
              reads = d.1.reads;
            };
      }

  taken_is_new : (x : Sort) (i : ℕ) (t : T) → Taken (up_to g reached) x grown i (length m.pieces) t → taken_column x f i ≡ some t
  unfolding extend
  taken_is_new x i t l =
      let p : Paired (m.pieces ++ added) i (length m.pieces) = (ext_pairs i (length m.pieces)).0 l.paired in
      let h : i < length m.pieces = p.before in
      let e : next ≡ l.has_tail.close_piece = some-injective next l.has_tail.close_piece (sym (at_seam m.pieces next (extra g next f)) ∙ l.has_tail.close_at) in
      (fi.taken_found x i t).1 (
        sym (ext_pairs_new g m next f i) ∙ l.paired,
        record {
          no_link = λ xl i' j' hi.
              none_of (m.links i' j')
              (λ t' l'.
              let hj : j' < length m.pieces = pair_inside (taken_pair c link i' j' t' l') in
              not_both (l.no_link_between xl i' j' (omega arith) hj) (ext_taken_old g m next f link i' j' (omega arith) ∙ l'));
          open_piece = l.has_tail.open_piece;
          open_at = sym (at_back m.pieces added i h) ∙ l.has_tail.open_at;
          of_sort = l.has_tail.of_sort;
          reads = ap (λ (y : Piece). g.tail_at l.has_tail.open_piece.end y.start) e ∙ l.has_tail.reads;
        },
      )

  ext_taken : TakenAre (up_to g reached) grown
  unfolding extend
  ext_taken x i j t = (to (ℕ_discrete j (length m.pieces)), λ l. back l (pair_cases i j ((ext_pairs i j).0 l.paired)))
    where
      to : Dec (j ≡ length m.pieces) → chosen x grown i j ≡ some t → Taken (up_to g reached) x grown i j t
      to (yes e) h =
          subst (λ (k : ℕ). Taken (up_to g reached) x grown i k t) (sym e)
          (taken_new x i t (sym (ext_taken_new g m next f x i) ∙ ap (λ (k : ℕ). chosen x grown i k) (sym e) ∙ h))
      to (no ne) h =
          let l : chosen x m i j ≡ some t = sym (ext_taken_old g m next f x i j ne) ∙ h in
          taken_on x i j t (pair_inside (taken_pair c x i j t l)) ((taken_are c x i j t).0 l)

      back : Taken (up_to g reached) x grown i j t → OldOrNew m.pieces f i j → chosen x grown i j ≡ some t
      back l (inl h) = ext_taken_old g m next f x i j (omega (arith, h.0)) ∙ (taken_are c x i j t).1 (taken_off x i j t h.0 l)
      back l (inr h) =
          ap (λ (k : ℕ). chosen x grown i k) h.0
          ∙ ext_taken_new g m next f x i
          ∙ taken_is_new x i t (subst (λ (k : ℕ). Taken (up_to g reached) x grown i k t) h.0 l)

  pub extended : MeetsTo g reached grown
  extended =
      record {
        tiled = ext_tiled;
        kinds = ext_kinds;
        tails = ext_tails;
        no_other_tails = ext_no_other_tails;
        pairs_are = ext_pairs;
        links_are = links_of (up_to g reached) grown ext_taken;
        images_are = images_of (up_to g reached) grown ext_taken;
      }
