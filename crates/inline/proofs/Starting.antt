-- `piece_from` gives exactly the pieces that the bytes start.
use Rattle.std.specs.Prelude.{None, Option, Some}
use Prim.Native.Nat.{ℕ, suc, ◌+◌, ◌<◌}
use native.Mathlib.Omega.{arith}
use mathlib.Core.Path.{◌≡◌, refl, ap, ◌∙◌}
use mathlib.Core.Logic.{◌↔◌}
use mathlib.Core.List.{List}
use mathlib.Core.Bool.{false}
use borrow.Author.Tests.{eqb-true}
use lib.ListN.{length, get_or, drop, length-drop}
use lib.Dec.{eqb}
use Rattle.scan.proofs.Test.{by, and_left}
use Rattle.scan.specs.Byte.{punctuation, escapes}
use Rattle.scan.proofs.Scan.{peek_inside}
use Rattle.scan.specs.Reading.{run}
use Rattle.scan.proofs.Every.{run_iff}
use Rattle.marking.specs.Marking.{Piece}
use Rattle.inline.specs.Pieces.{backtick, image_opens, Backticks, Starts, an_escape, a_code_span, backticks, opening, image_opening, closing, other}
use Rattle.inline.specs.ReadingPieces.{closing_run, piece, span_or_text, ticked, kind_of, piece_from}
use Rattle.inline.proofs.Turns.{from_escape, from_backticks, from_image, from_byte}
use Rattle.inline.proofs.Pieces.{no_escape, image_bytes, at_open, at_image, at_close, at_plain}
use Rattle.inline.proofs.PieceBounds.{some_run}
use Rattle.inline.proofs.Ticks.{ticks_end, ticks_first}
use Rattle.inline.proofs.CodeSpans.{closing_run_iff, no_closing_run_iff}

module _ (p : List ℕ) (a : ℕ) where
  inside : {b : ℕ} → get_or p a 0 ≡ suc b → a < length p
  inside e = peek_inside p a (λ z. omega arith)

  module _ (n : ℕ) (r : Backticks p a n) where
    first_tick : get_or p a 0 ≡ 96
    first_tick = eqb-true (get_or p a 0) 96 (ticks_first p a n r)

    from_run : (f : Option ℕ) → closing_run n (drop (a + n) p) (a + n) ≡ f → piece_from p a ≡ span_or_text a (a + n) f
    from_run f e =
        from_backticks p a (no_escape p a (λ q. omega (arith, first_tick))) (ticks_first p a n r)
        ∙ ap (ticked p a) ((run_iff backtick (drop a p) n).1 r.run)
        ∙ ap (span_or_text a (a + n)) e

-- a piece is what starts at its start
pub record IsFrom (p : List ℕ) (q : Piece) : Type 0 where
  pub inside : q.start < length p
  pub from : piece_from p q.start ≡ q

module _ (p : List ℕ) where
  complete : {q : Piece} → Starts p q → IsFrom p q
  complete (an_escape {a} e) =
      record {
        inside = omega (arith, peek_inside (drop a p) 0 (λ z. let k = eqb-true (get_or (drop a p) 0 0) 92 (and_left _ (punctuation (get_or (drop a p) 1 0)) e) in omega arith), length-drop a p);
        from = from_escape p a e;
      }
  complete (a_code_span {a} {n} {b} r f) =
      record {
        inside = inside p a (first_tick p a n r);
        from = from_run p a n r (Some (b + n)) ((closing_run_iff p (a + n) n r.nonempty (ticks_end p a n r) (b + n)).1 (record { place = b; first = f; ends = refl }));
      }
  complete (backticks {a} {n} r f) =
      record {
        inside = inside p a (first_tick p a n r);
        from = from_run p a n r None ((no_closing_run_iff p (a + n) n r.nonempty (ticks_end p a n r)).1 f);
      }
  complete (opening {a} e) = record { inside = inside p a e; from = at_open p a e }
  complete (image_opening {a} e) = record { inside = inside p a (image_bytes p a e).0; from = at_image p a e }
  complete (closing {a} e) = record { inside = inside p a e; from = at_close p a e }
  complete (other {a} h e i m) = record { inside = h; from = at_plain p a e i m }

  module _ (a : ℕ) (h : a < length p) where
    sound_run : (n : ℕ) → Backticks p a n → (f : Option ℕ) → closing_run n (drop (a + n) p) (a + n) ≡ f → Starts p (span_or_text a (a + n) f)
    sound_run n r (Some e) q =
        let m = (closing_run_iff p (a + n) n r.nonempty (ticks_end p a n r) e).0 q in
        rw m.ends (a_code_span r m.first)
    sound_run n r None q = backticks r ((no_closing_run_iff p (a + n) n r.nonempty (ticks_end p a n r)).0 q)

    sound_byte : escapes (drop a p) ≡ false → backtick (get_or p a 0) ≡ false → image_opens (drop a p) ≡ false → Starts p (piece (kind_of (get_or p a 0)) a (a + 1))
    sound_byte e t i =
        by (eqb (get_or p a 0) 91) (λ o. rw o (opening (eqb-true (get_or p a 0) 91 o)))
        (λ o. by (eqb (get_or p a 0) 93) (λ c. rw (o, c) (closing (eqb-true (get_or p a 0) 93 c))) (λ c. rw (o, c) (other h e i (simp (t, o, c)))))

    sound : Starts p (piece_from p a)
    sound =
        by (escapes (drop a p)) (λ e. rw (from_escape p a e) (an_escape e))
        (λ e. by (backtick (get_or p a 0))
        (λ t.
        let n = run backtick (drop a p) in
        rw (from_backticks p a e t) (sound_run n (record { nonempty = some_run p a h t; run = (run_iff backtick (drop a p) n).0 refl }) (closing_run n (drop (a + n) p) (a + n)) refl))
        (λ t. by (image_opens (drop a p)) (λ i. rw (from_image p a e t i) (image_opening i)) (λ i. rw (from_byte p a e t i) (sound_byte e t i))))

  pub starts_iff : (q : Piece) → Starts p q ↔ IsFrom p q
  starts_iff q = (complete, λ f. rw (← f.from) (sound q.start f.inside))
