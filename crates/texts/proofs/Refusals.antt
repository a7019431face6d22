-- `check_of` against the law: refusals 1 and 2 exactly when they are due, with the text and with what is returned.
use Rattle.std.specs.Prelude.{Err, Ok}
use Prim.Native.Nat.{ℕ}
use mathlib.Core.Path.{◌≡◌, refl, sym, ap, subst, ◌∙◌}
use mathlib.Core.Logic.{◌↔◌}
use lib.ListN.{length}
use Rattle.text.specs.Utf8.{FirstBad, GoodNote}
use Rattle.text.specs.declared.Fault.TheVariants as text
use Rattle.text.specs.Reading as reading
use Rattle.text.proofs.Refusals as alone
use Rattle.texts.specs.declared.Fault.TheVariants.{Long, Bad}
use Rattle.texts.specs.Texts.{Texts, text_of}
use Rattle.texts.specs.Answers.{Due1, Due2, GoodTexts}
use Rattle.texts.specs.Answers as due
use Rattle.texts.specs.Reading.{Checked, named, checked, first_of, check_of}

module _ (T : Texts) where
  -- ---- the answer by the two checks
  pub by_note : (a : reading.Checked) → reading.check_of T.note ≡ a → check_of T ≡ first_of (named 0 a) (checked 1 T.sheet)
  unfolding check_of
  by_note a e = rw e

  pub by_both : (a b : reading.Checked) → reading.check_of T.note ≡ a → reading.check_of T.sheet ≡ b → check_of T ≡ first_of (named 0 a) (named 1 b)
  by_both a b e f = by_note a e ∙ rw f

  good_note : GoodNote T.note → (b : reading.Checked) → reading.check_of T.sheet ≡ b → check_of T ≡ named 1 b
  good_note g b e = by_both (Ok tt) b ((alone.good_note T.note).1 g) e

  -- ---- what is due is answered
  long_answered : {k : ℕ} → Due1 T k → check_of T ≡ Err (Long k (length (text_of T k)))
  long_answered (due.note h) = by_note (Err (text.Long (length T.note))) ((alone.check_long T.note (length T.note)).1 (h, refl))
  long_answered (due.sheet g h) = good_note g (Err (text.Long (length T.sheet))) ((alone.check_long T.sheet (length T.sheet)).1 (h, refl))

  bad_answered : {k : ℕ} → Due2 T k → (place : ℕ) → FirstBad (text_of T k) place → check_of T ≡ Err (Bad k place)
  bad_answered (due.note s u) place f = by_note (Err (text.Bad place)) ((alone.check_bad T.note place).1 (s, f))
  bad_answered (due.sheet g s u) place f = good_note g (Err (text.Bad place)) ((alone.check_bad T.sheet place).1 (s, f))

  good_answered : GoodTexts T → check_of T ≡ Ok tt
  good_answered g = good_note g.note (Ok tt) ((alone.good_note T.sheet).1 g.sheet)

  -- where 2 is due there is a first bad place
  pub bad_place : {k : ℕ} → Due2 T k → (place : ℕ) × FirstBad (text_of T k) place
  bad_place (due.note s u) = let (p, e) = (alone.refused_2 T.note).1 (s, u) in (p, ((alone.check_bad T.note p).0 e).1)
  bad_place (due.sheet g s u) = let (p, e) = (alone.refused_2 T.sheet).1 (s, u) in (p, ((alone.check_bad T.sheet p).0 e).1)

  -- ---- what is answered is due
  data Says : Checked → Type 0 where
    good : GoodTexts T → Says (Ok tt)
    long : {k : ℕ} → Due1 T k → Says (Err (Long k (length (text_of T k))))
    bad : {k place : ℕ} → Due2 T k → FirstBad (text_of T k) place → Says (Err (Bad k place))

  same : {a b : Checked} → Says a → b ≡ a → Says b
  same s e = subst Says (sym e) s

  by_sheet : GoodNote T.note → (b : reading.Checked) → reading.check_of T.sheet ≡ b → Says (check_of T)
  by_sheet g (Ok done) e = same (good (record { note = g; sheet = (alone.good_note T.sheet).0 e })) (good_note g (Ok tt) e)
  by_sheet g (Err (text.Long n)) e = let d : Due1 T 1 = due.sheet g ((alone.check_long T.sheet n).0 e).0 in same (long d) (long_answered d)
  by_sheet g (Err (text.Bad p)) e =
      let (s, u) = (alone.refused_2 T.sheet).0 (p, e) in
      same (bad (due.sheet g s u) ((alone.check_bad T.sheet p).0 e).1) (good_note g (Err (text.Bad p)) e)

  by_check : (a : reading.Checked) → reading.check_of T.note ≡ a → Says (check_of T)
  by_check (Ok done) e = by_sheet ((alone.good_note T.note).0 e) (reading.check_of T.sheet) refl
  by_check (Err (text.Long n)) e = let d : Due1 T 0 = due.note ((alone.check_long T.note n).0 e).0 in same (long d) (long_answered d)
  by_check (Err (text.Bad p)) e =
      let (s, u) = (alone.refused_2 T.note).0 (p, e) in
      same (bad (due.note s u) ((alone.check_bad T.note p).0 e).1) (by_note (Err (text.Bad p)) e)

  says : Says (check_of T)
  says = by_check (reading.check_of T.note) refl

  told_good : {r : Checked} → Says r → r ≡ Ok tt → GoodTexts T
  told_good (good g) e = g
  told_good (long d) e = absurd cc
  told_good (bad d f) e = absurd cc

  told_long : {r : Checked} (k n : ℕ) → Says r → r ≡ Err (Long k n) → Due1 T k × (length (text_of T k) ≡ n)
  told_long k n (good g) e = absurd cc
  told_long k n (long {k = j} d) e =
      let a : j ≡ k = cc in
      let b : length (text_of T j) ≡ n = cc in
      (subst (Due1 T) a d, ap (λ (i : ℕ). length (text_of T i)) (sym a) ∙ b)
  told_long k n (bad d f) e = absurd cc

  told_bad : {r : Checked} (k p : ℕ) → Says r → r ≡ Err (Bad k p) → Due2 T k × FirstBad (text_of T k) p
  told_bad k p (good g) e = absurd cc
  told_bad k p (long d) e = absurd cc
  told_bad k p (bad {k = j} {place = q} d f) e =
      let a : j ≡ k = cc in
      let b : q ≡ p = cc in
      (subst (Due2 T) a d, subst (λ (i : ℕ). FirstBad (text_of T i) p) a (subst (FirstBad (text_of T j)) b f))

  -- ---- refusal 1 with "its length", refusal 2 with "where reading from the start first meets no good character", and neither
  pub check_long : (k n : ℕ) → (check_of T ≡ Err (Long k n)) ↔ (Due1 T k × (length (text_of T k) ≡ n))
  check_long k n = (told_long k n says, λ w. long_answered w.0 ∙ ap (λ (m : ℕ). Err (Long k m)) w.1)

  pub check_bad : (k place : ℕ) → (check_of T ≡ Err (Bad k place)) ↔ (Due2 T k × FirstBad (text_of T k) place)
  check_bad k place = (told_bad k place says, λ w. bad_answered w.0 place w.1)

  pub good_texts : (check_of T ≡ Ok tt) ↔ GoodTexts T
  good_texts = (told_good says, good_answered)
