-- The stack holds the opening pieces that a closing piece would pair with: its top is the last opening piece after which stand
-- equally many opening and closing pieces, and the one at depth d is the last after which stand d more opening than closing ones.
use mathlib.Core.Path.{◌≡◌, refl, sym, ap, ◌∙◌, subst}
use mathlib.Core.Logic.{◌↔◌, ◌≢◌, ◌⊎◌, inl, inr}
use mathlib.Core.Option.{Option, some, some-injective, none-ne-some}
use mathlib.Core.List.{List, [], ◌∷◌, ◌++◌, tail}
use Prim.Native.Nat.{ℕ, zero, suc, ◌+◌, ◌<◌}
use native.Mathlib.Omega.{arith}
use lib.ListN.{length, drop, get_elem?, length-append, drop_of_length-le}
use lib.Seq.{drop-append-le}
use Rattle.marking.specs.Marking.{Role, nothing, opening, closing, trailing, role, Piece, At, Plays, openings, closings, one_opening, one_closing}
use Rattle.marking.specs.Reading.{stack_by}
use Rattle.marking.proofs.Lists.{at_inside, at_left, at_seam, at_back, at_snoc}
use Rattle.marking.proofs.Roles.{nothing≢opening, closing≢opening, trailing≢opening}
use Rattle.marking.proofs.Pairs.{LastBalanced}

-- i is the last opening piece of ps after which stand d more opening than closing pieces
pub record Waiting (d : ℕ) (ps : List Piece) (i : ℕ) : Type 0 where
  pub opened : Plays opening ps i
  pub count : d + closings (drop (suc i) ps) ≡ openings (drop (suc i) ps)
  pub last : (k : ℕ) → i < k → Plays opening ps k → d + closings (drop (suc k) ps) ≡ openings (drop (suc k) ps) → ⊥

pub waiting_last : (ps : List Piece) (i : ℕ) → Waiting 0 ps i → LastBalanced ps i
waiting_last ps i w = record { opened = w.opened; balanced = omega (arith, w.count); last = λ k h p e. w.last k h p (omega arith) }

pub last_waiting : (ps : List Piece) (i : ℕ) → LastBalanced ps i → Waiting 0 ps i
last_waiting ps i w = record { opened = w.opened; count = omega (arith, w.balanced); last = λ k h p e. w.last k h p (omega arith) }

pub openings_append : (ps qs : List Piece) → openings (ps ++ qs) ≡ openings ps + openings qs
openings_append [] qs = omega arith
openings_append (x ∷ ps) qs = omega (arith, openings_append ps qs)

pub closings_append : (ps qs : List Piece) → closings (ps ++ qs) ≡ closings ps + closings qs
closings_append [] qs = omega arith
closings_append (x ∷ ps) qs = omega (arith, closings_append ps qs)

module _ (ps : List Piece) (q : Piece) where
  openings_after : (i : ℕ) → i < length ps → openings (drop (suc i) (ps ++ q ∷ [])) ≡ openings (drop (suc i) ps) + one_opening (role q.kind)
  openings_after i h = rw (drop-append-le (suc i) ps (q ∷ []) h) (omega (arith, openings_append (drop (suc i) ps) (q ∷ [])))

  closings_after : (i : ℕ) → i < length ps → closings (drop (suc i) (ps ++ q ∷ [])) ≡ closings (drop (suc i) ps) + one_closing (role q.kind)
  closings_after i h = rw (drop-append-le (suc i) ps (q ∷ []) h) (omega (arith, closings_append (drop (suc i) ps) (q ∷ [])))

  none_after : drop (suc (length ps)) (ps ++ q ∷ []) ≡ []
  none_after = drop_of_length-le (ps ++ q ∷ []) {i = suc (length ps)} (omega (arith, length-append ps (q ∷ [])))

  plays_left : {r : Role} (i : ℕ) → Plays r ps i → Plays r (ps ++ q ∷ []) i
  plays_left i p = record { piece = p.piece; at = at_left ps (q ∷ []) i p.piece p.at; as_role = p.as_role }

  plays_back : {r : Role} (i : ℕ) → i < length ps → Plays r (ps ++ q ∷ []) i → Plays r ps i
  plays_back i h p = record { piece = p.piece; at = sym (at_back ps (q ∷ []) i h) ∙ p.at; as_role = p.as_role }

  plays_new : {r : Role} → role q.kind ≡ r → Plays r (ps ++ q ∷ []) (length ps)
  plays_new e = record { piece = q; at = at_seam ps q []; as_role = e }

  plays_split : {r : Role} (i : ℕ) → Plays r (ps ++ q ∷ []) i → (i < length ps) ⊎ ((i ≡ length ps) × (role q.kind ≡ r))
  plays_split {r} i p = by (at_snoc ps q i p.piece p.at)
    where
      by : At ps i p.piece ⊎ ((i ≡ length ps) × (q ≡ p.piece)) → (i < length ps) ⊎ ((i ≡ length ps) × (role q.kind ≡ r))
      by (inl h) = inl (at_inside ps i p.piece h)
      by (inr t) = inr (t.0, ap (λ (x : Piece). role x.kind) t.1 ∙ p.as_role)

  -- how the new piece moves what waits at depth d to depth d'
  waiting_on : (d d' i : ℕ) → d' + one_closing (role q.kind) ≡ d + one_opening (role q.kind) → (role q.kind ≡ opening → d' ≡ 0 → ⊥)
      → Waiting d ps i → Waiting d' (ps ++ q ∷ []) i
  waiting_on d d' i e new w =
      let h : i < length ps = at_inside ps i w.opened.piece w.opened.at in
      record {
        opened = plays_left i w.opened;
        count = omega (arith, w.count, openings_after i h, closings_after i h);
        last = λ k ik p eq. by k ik p eq (plays_split k p);
      }
    where
      by : (k : ℕ) → i < k → (p : Plays opening (ps ++ q ∷ []) k) → d' + closings (drop (suc k) (ps ++ q ∷ [])) ≡ openings (drop (suc k) (ps ++ q ∷ []))
          → (k < length ps) ⊎ ((k ≡ length ps) × (role q.kind ≡ opening)) → ⊥
      by k ik p eq (inl h) = w.last k ik (plays_back k h p) (omega (arith, openings_after k h, closings_after k h))
      by k ik p eq (inr t) =
          let none' : drop (suc k) (ps ++ q ∷ []) ≡ [] = rw t.0 none_after in
          let o : openings (drop (suc k) (ps ++ q ∷ [])) ≡ 0 = rw none' in
          new t.1 (omega arith)

  waiting_off : (d d' i : ℕ) → d' + one_closing (role q.kind) ≡ d + one_opening (role q.kind) → i < length ps
      → Waiting d' (ps ++ q ∷ []) i → Waiting d ps i
  waiting_off d d' i e h w =
      record {
        opened = plays_back i h w.opened;
        count = omega (arith, w.count, openings_after i h, closings_after i h);
        last = λ k ik p eq.
            let kh : k < length ps = at_inside ps k p.piece p.at in
            w.last k ik (plays_left k p) (omega (arith, openings_after k kh, closings_after k kh));
      }

  waiting_inside : (d i : ℕ) → (role q.kind ≡ opening → d ≡ 0 → ⊥) → Waiting d (ps ++ q ∷ []) i → i < length ps
  waiting_inside d i new w = by (plays_split i w.opened)
    where
      by : (i < length ps) ⊎ ((i ≡ length ps) × (role q.kind ≡ opening)) → i < length ps
      by (inl h) = h
      by (inr t) =
          let none' : drop (suc i) (ps ++ q ∷ []) ≡ [] = rw t.0 none_after in
          let o : openings (drop (suc i) (ps ++ q ∷ [])) ≡ 0 = rw none' in
          absurd (new t.1 (omega (arith, w.count)))

-- ---- the stack

abbrev pub StackOf : List Piece → List ℕ → Type 0
StackOf ps st = (d i : ℕ) → (get_elem? st d ≡ some i) ↔ Waiting d ps i

pub stack_start : StackOf [] []
stack_start d i = ((λ h. absurd (none-ne-some i h)), (λ w. absurd (none-ne-some w.opened.piece w.opened.at)))

same_depth : (ps : List Piece) (q : Piece) (st : List ℕ) → one_closing (role q.kind) ≡ 0 → one_opening (role q.kind) ≡ 0
    → (role q.kind ≢ opening) → StackOf ps st → StackOf (ps ++ q ∷ []) st
same_depth ps q st a b ne s d i = (
  (λ h. waiting_on ps q d d i (omega arith) (λ e z. ne e) ((s d i).0 h)),
  (λ w. (s d i).1 (waiting_off ps q d d i (omega arith) (waiting_inside ps q d i (λ e z. ne e) w) w)),
)

tail_at : (st : List ℕ) (d : ℕ) → get_elem? (tail st) d ≡ get_elem? st (suc d)
tail_at [] d = refl
tail_at (x ∷ st) d = refl

stack_closing : (ps : List Piece) (q : Piece) (st : List ℕ) → role q.kind ≡ closing → StackOf ps st → StackOf (ps ++ q ∷ []) (tail st)
stack_closing ps q st e s d i =
    let o : one_opening (role q.kind) ≡ 0 = rw e in
    let c : one_closing (role q.kind) ≡ 1 = rw e in
    let ne : role q.kind ≢ opening = λ e'. closing≢opening (sym e ∙ e') in (
      (λ h. waiting_on ps q (suc d) d i (omega arith) (λ e' z. ne e') ((s (suc d) i).0 (sym (tail_at st d) ∙ h))),
      (λ w. tail_at st d ∙ (s (suc d) i).1 (waiting_off ps q (suc d) d i (omega arith) (waiting_inside ps q d i (λ e' z. ne e') w) w)),
    )

waiting_new : (ps : List Piece) (q : Piece) → role q.kind ≡ opening → Waiting 0 (ps ++ q ∷ []) (length ps)
waiting_new ps q e = record { opened = plays_new ps q e; count = rw (none_after ps q); last = λ k h p eq. by k h (plays_split ps q k p) }
  where
    by : (k : ℕ) → length ps < k → (k < length ps) ⊎ ((k ≡ length ps) × (role q.kind ≡ opening)) → ⊥
    by k h (inl h') = omega arith
    by k h (inr t) = omega (arith, t.0)

waiting_is_new : (ps : List Piece) (q : Piece) (i : ℕ) → role q.kind ≡ opening → Waiting 0 (ps ++ q ∷ []) i → length ps ≡ i
waiting_is_new ps q i e w = by (plays_split ps q i w.opened)
  where
    by : (i < length ps) ⊎ ((i ≡ length ps) × (role q.kind ≡ opening)) → length ps ≡ i
    by (inl h) = absurd (w.last (length ps) h (plays_new ps q e) (rw (none_after ps q)))
    by (inr t) = sym t.0

stack_opening : (ps : List Piece) (q : Piece) (st : List ℕ) → role q.kind ≡ opening → StackOf ps st → StackOf (ps ++ q ∷ []) (length ps ∷ st)
stack_opening ps q st e s zero i = (
  (λ h. subst (λ (x : ℕ). Waiting 0 (ps ++ q ∷ []) x) (some-injective (length ps) i h) (waiting_new ps q e)),
  (λ w. ap {B = Option ℕ} some (waiting_is_new ps q i e w)),
)
stack_opening ps q st e s (suc d) i =
    let o : one_opening (role q.kind) ≡ 1 = rw e in
    let c : one_closing (role q.kind) ≡ 0 = rw e in (
      (λ h. waiting_on ps q d (suc d) i (omega arith) (λ e' z. omega arith) ((s d i).0 h)),
      (λ w. (s d i).1 (waiting_off ps q d (suc d) i (omega arith) (waiting_inside ps q (suc d) i (λ e' z. omega arith) w) w)),
    )

pub stack_step : (r : Role) (ps : List Piece) (q : Piece) (st : List ℕ) → role q.kind ≡ r → StackOf ps st → StackOf (ps ++ q ∷ []) (stack_by (length ps) st r)
stack_step nothing ps q st e s = same_depth ps q st (rw e) (rw e) (λ e'. nothing≢opening (sym e ∙ e')) s
stack_step trailing ps q st e s = same_depth ps q st (rw e) (rw e) (λ e'. trailing≢opening (sym e ∙ e')) s
stack_step closing ps q st e s = stack_closing ps q st e s
stack_step opening ps q st e s = stack_opening ps q st e s

-- the top of the stack is the partner of a closing piece that comes now
pub top_is : (ps : List Piece) (st : List ℕ) (i : ℕ) → StackOf ps st → (get_elem? st 0 ≡ some i) ↔ LastBalanced ps i
top_is ps st i s = ((λ h. waiting_last ps i ((s 0 i).0 h)), (λ l. (s 0 i).1 (last_waiting ps i l)))

-- a piece that waits after one more piece waited before it, deeper by one if that piece closes
pub waiting_closed : (ps : List Piece) (q : Piece) (d i : ℕ) → role q.kind ≡ closing → i < length ps → Waiting d (ps ++ q ∷ []) i → Waiting (suc d) ps i
waiting_closed ps q d i e h w =
    let o : one_opening (role q.kind) ≡ 0 = rw e in
    let c : one_closing (role q.kind) ≡ 1 = rw e in
    waiting_off ps q (suc d) d i (omega arith) h w

pub waiting_was : (ps : List Piece) (q : Piece) (d i : ℕ) → i < length ps → Waiting d (ps ++ q ∷ []) i → (d' : ℕ) × Waiting d' ps i
waiting_was ps q d i h w = by (role q.kind) refl d w
  where
    same : one_closing (role q.kind) ≡ 0 → one_opening (role q.kind) ≡ 0 → (d : ℕ) → Waiting d (ps ++ q ∷ []) i → (d' : ℕ) × Waiting d' ps i
    same a b d w' = (d, waiting_off ps q d d i (omega arith) h w')

    by : (r : Role) → role q.kind ≡ r → (d : ℕ) → Waiting d (ps ++ q ∷ []) i → (d' : ℕ) × Waiting d' ps i
    by nothing e d w' = same (rw e) (rw e) d w'
    by trailing e d w' = same (rw e) (rw e) d w'
    by closing e d w' = (suc d, waiting_closed ps q d i e h w')
    by opening e zero w' = absurd (omega (arith, waiting_is_new ps q i e w'))
    by opening e (suc d) w' =
        let o : one_opening (role q.kind) ≡ 1 = rw e in
        let c : one_closing (role q.kind) ≡ 0 = rw e in
        (d, waiting_off ps q d (suc d) i (omega arith) h w')
