-- Where a grammar computes the rules, a marking meets the conditions by the rules exactly when it meets them by the grammar.
use mathlib.Core.Path.{◌≡◌, sym, ap, ◌∙◌, subst}
use mathlib.Core.Logic.{◌↔◌, ◌≢◌}
use mathlib.Core.Option.{some, some-injective}
use Prim.Native.Nat.{ℕ, suc}
use Rattle.marking.specs.Marking.{Sort, Role, closing, trailing, role, Piece, Rules, Marking, At, Tiles, Paired, tail_piece, HasTail, Meets}
use Rattle.marking.specs.ReadingRules.{Grammar, Computed, Computes}
use Rattle.marking.proofs.Roles.{closing≢trailing}
use Rattle.marking.proofs.Tiles.{tiles_order}
use Rattle.marking.proofs.Pairs.{Taken, TakenAre, taken_are, taken_pair, links_of, images_of}
use Rattle.marking.proofs.Sound.{rules_of}

closing_is_no_tail : (x : Role) → x ≡ closing → x ≢ trailing
closing_is_no_tail x e e' = closing≢trailing (sym e ∙ e')

-- a link or an image by the rules r is one by r', if its tail is
with_tail_of : {T : Type 0} (r r' : Rules T) (x : Sort) (m : Marking T) (i j : ℕ) (t : T)
    → ((o c : Piece) → At m.pieces i o → At m.pieces j c → r.TailAt o.end c.start t → r'.TailAt o.end c.start t) → Taken r x m i j t → Taken r' x m i j t
with_tail_of r r' x m i j t same l =
    let h : HasTail r x m.pieces i j t = l.has_tail in
    record {
      paired = l.paired;
      no_link_between = l.no_link_between;
      has_tail =
          record {
            open_piece = h.open_piece;
            close_piece = h.close_piece;
            open_at = h.open_at;
            close_at = h.close_at;
            of_sort = h.of_sort;
            reads = same h.open_piece h.close_piece h.open_at h.close_at h.reads;
          };
    }

module _ {T : Type 0} (r : Rules T) (g : Grammar T) (w : Computes r g) (m : Marking T) where
  abbrev Kinds : Type 0
  Kinds = (k : ℕ) (q : Piece) → At m.pieces k q → role q.kind ≢ trailing → Computed g q

  module _ (b : ℕ) (tiled : Tiles 0 m.pieces b) (kinds : Kinds) (i j : ℕ) (t : T) (p : Paired m.pieces i j) where
    same_tail : (o c : Piece) → At m.pieces i o → At m.pieces j c → r.TailAt o.end c.start t ↔ (g.tail_at o.end c.start ≡ some t)
    same_tail o c ao ac =
        let e : p.closed.piece ≡ c = some-injective p.closed.piece c (sym p.closed.at ∙ ac) in
        let cl : role c.kind ≡ closing = ap (λ (y : Piece). role y.kind) (sym e) ∙ p.closed.as_role in
        let d : Computed g c = kinds j c ac (closing_is_no_tail (role c.kind) cl) in
        w.tails o.end c.start t (tiles_order 0 b m.pieces i j o c tiled ao ac p.before).1 d.inside (ap role (sym d.kind_is) ∙ cl)

    taken_to : (x : Sort) → Taken r x m i j t → Taken (rules_of g) x m i j t
    taken_to x l = with_tail_of r (rules_of g) x m i j t (λ o c ao ac. (same_tail o c ao ac).0) l

    taken_back : (x : Sort) → Taken (rules_of g) x m i j t → Taken r x m i j t
    taken_back x l = with_tail_of (rules_of g) r x m i j t (λ o c ao ac. (same_tail o c ao ac).1) l

  meets_computed : Meets r m → Meets (rules_of g) m
  meets_computed c =
      record {
        tiled = subst (λ (b : ℕ). Tiles 0 m.pieces b) w.sizes c.tiled;
        kinds = kinds;
        tails = λ x i j t q l a. subst (λ (n : ℕ). At m.pieces (suc j) (tail_piece q n)) (w.lengths t) (c.tails x i j t q l a);
        no_other_tails = c.no_other_tails;
        pairs_are = c.pairs_are;
        links_are = links_of (rules_of g) m are;
        images_are = images_of (rules_of g) m are;
      }
    where
      kinds : Kinds
      kinds k q a ne = (w.starts q ne).0 (c.kinds k q a ne)

      are : TakenAre (rules_of g) m
      are x i j t = (
        (λ l. taken_to r.size c.tiled kinds i j t (taken_pair c x i j t l) x ((taken_are c x i j t).0 l)),
        (λ l. (taken_are c x i j t).1 (taken_back r.size c.tiled kinds i j t ((c.pairs_are i j).0 l.paired) x l)),
      )

  meets_rules : Meets (rules_of g) m → Meets r m
  meets_rules c =
      record {
        tiled = subst (λ (b : ℕ). Tiles 0 m.pieces b) (sym w.sizes) c.tiled;
        kinds = λ k q a ne. (w.starts q ne).1 (c.kinds k q a ne);
        tails = λ x i j t q l a. subst (λ (n : ℕ). At m.pieces (suc j) (tail_piece q n)) (sym (w.lengths t)) (c.tails x i j t q l a);
        no_other_tails = c.no_other_tails;
        pairs_are = c.pairs_are;
        links_are = links_of r m are;
        images_are = images_of r m are;
      }
    where
      are : TakenAre r m
      are x i j t = (
        (λ l. taken_back g.size c.tiled c.kinds i j t (taken_pair c x i j t l) x ((taken_are c x i j t).0 l)),
        (λ l. (taken_are c x i j t).1 (taken_to g.size c.tiled c.kinds i j t ((c.pairs_are i j).0 l.paired) x l)),
      )

  pub same_conditions : Meets r m ↔ Meets (rules_of g) m
  same_conditions = (meets_computed, meets_rules)
