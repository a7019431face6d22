-- The reading is the law: each label has one compared form, which `compared` gives, and `matches` answers whether two labels are equal.
use Prim.Native.Nat.{ℕ}
use native.Mathlib.Omega.{arith}
use mathlib.Core.Path.{◌≡◌, refl, sym, ap, ◌∙◌}
use mathlib.Core.Logic.{◌↔◌}
use mathlib.Core.List.{List, [], ◌∷◌, ◌++◌, append-nil}
use mathlib.Core.Bool.{Bool, true, false, true≢false}
use lib.ListN.{length}
use Rattle.scan.proofs.Test.{by}
use Rattle.scan.specs.Byte.{blank}
use Rattle.scan.specs.Every as every
use Rattle.matching.specs.Form.{Blanks, Word, last, byte, Over, Words, rest, word, joined, Compared, Equal}
use Rattle.matching.specs.Reading.{folds, spaced, squeeze, compared, matches}
use Rattle.matching.proofs.Forms.{squeeze_blank, squeeze_ink}
use Rattle.matching.proofs.Folds.{folded_read, has_folded}
-- passed on to those who compare parts as they are written
pub use Rattle.scan.proofs.Lists.{equals_to, equals_refl}

-- ---- words
sq_blanks : {g : List ℕ} → Blanks g → (l : List ℕ) → squeeze (g ++ l) true ≡ squeeze l true
sq_blanks every.none l = refl
sq_blanks (every.more e h) l = squeeze_blank _ _ true e ∙ sq_blanks h l

sq_word : {w : List ℕ} → Word w → (l : List ℕ) (tight : Bool) → squeeze (w ++ l) tight ≡ w ++ squeeze l false
sq_word (last e) l tight = squeeze_ink _ l tight e
sq_word (byte {b} e h) l tight = squeeze_ink _ _ tight e ∙ ap (λ (s : List ℕ). b ∷ s) (sq_word h l false)

sq_over : (l : List ℕ) → Over l → squeeze l false ≡ spaced (squeeze l true)
unfolding squeeze spaced
sq_over [] e = refl
sq_over (b ∷ l) e = squeeze_blank b l false e ∙ ap spaced (sym (squeeze_blank b l true e))

sq_rest : {g : List ℕ} → Blanks g → squeeze g true ≡ []
unfolding squeeze
sq_rest every.none = refl
sq_rest (every.more {b} {l} e h) = squeeze_blank b l true e ∙ sq_rest h

space_before : (x : ℕ) (v : List ℕ) (ws : List (List ℕ)) → spaced (joined ((x ∷ v) ∷ ws)) ≡ 32 ∷ joined ((x ∷ v) ∷ ws)
unfolding joined spaced
space_before x v [] = refl
space_before x v (w ∷ ws) = refl

word_before : {v : List ℕ} → Word v → (ws : List (List ℕ)) → spaced (joined (v ∷ ws)) ≡ 32 ∷ joined (v ∷ ws)
word_before (last e) ws = space_before _ _ ws
word_before (byte e h) ws = space_before _ _ ws

join : {l : List ℕ} {ws : List (List ℕ)} (w : List ℕ) → Words l ws → w ++ spaced (joined ws) ≡ joined (w ∷ ws)
unfolding joined spaced
join w (rest h) = append-nil w
join w (word {ws} g v o h) = ap (λ (s : List ℕ). w ++ s) (word_before v ws)

pub read : {l : List ℕ} {ws : List (List ℕ)} → Words l ws → squeeze l true ≡ joined ws
unfolding joined
read (rest h) = sq_rest h
read (word {w} {l} {ws} g v o h) =
    sq_blanks g _ ∙ sq_word v l true ∙ ap (λ (s : List ℕ). w ++ s) (sq_over l o ∙ ap spaced (read h)) ∙ join w h

-- ---- every text splits into words
abbrev Split : List ℕ → Type 0
Split l = (ws : List (List ℕ)) × Words l ws

blanks_over : {g : List ℕ} → Blanks g → Over g
blanks_over every.none = refl
blanks_over (every.more e h) = e

split_blank : {b : ℕ} {l : List ℕ} → blank b ≡ true → (ws : List (List ℕ)) → Words l ws → Split (b ∷ l)
split_blank e ws (rest h) = ([], rest (every.more e h))
split_blank e ws (word g v o h) = (ws, word (every.more e g) v o h)

grown : {b : ℕ} {g w l : List ℕ} {ws : List (List ℕ)} → blank b ≡ false → Blanks g → Word w → Over l → Words l ws → Split (b ∷ (g ++ (w ++ l)))
grown {b} {w} {ws} e every.none v o h = ((b ∷ w) ∷ ws, word every.none (byte e v) o h)
grown {b} {w} {ws} e (every.more k g) v o h = ((b ∷ []) ∷ w ∷ ws, word every.none (last e) k (word (every.more k g) v o h))

split_ink : {b : ℕ} {l : List ℕ} → blank b ≡ false → (ws : List (List ℕ)) → Words l ws → Split (b ∷ l)
split_ink {b} e ws (rest h) = ((b ∷ []) ∷ [], word every.none (last e) (blanks_over h) (rest h))
split_ink e ws (word g v o h) = grown e g v o h

pub split : (l : List ℕ) → Split l
split [] = ([], rest every.none)
split (b ∷ l) = let s = split l in by (blank b) (λ e. split_blank e s.0 s.1) (λ e. split_ink e s.0 s.1)

-- ---- `compared` is the compared form, and the only one
form_read : (l c : List ℕ) → Compared l c → compared l ≡ c
unfolding compared
form_read l c p = ap (λ (f : List ℕ). squeeze f true) (folded_read p.folding) ∙ read p.splits ∙ sym p.form

pub has_form : (l : List ℕ) → Compared l (compared l)
unfolding compared
has_form l =
    record {
      folded = folds l;
      folding = has_folded (length l) l (omega arith);
      words = (split (folds l)).0;
      splits = (split (folds l)).1;
      form = read (split (folds l)).1;
    }

pub compared_iff : (l c : List ℕ) → Compared l c ↔ (compared l ≡ c)
compared_iff l c = (form_read l c, λ e. rw e at (has_form l))

pub one_form : (l c d : List ℕ) → Compared l c → Compared l d → c ≡ d
one_form l c d p q = sym ((compared_iff l c).0 p) ∙ (compared_iff l d).0 q

-- ---- `matches` answers whether the compared forms are one
pub matches_iff : (a b : List ℕ) → (matches a b ≡ true) ↔ (compared a ≡ compared b)
unfolding matches
matches_iff a b = (equals_to (compared a) (compared b), λ q. rw (← q) (equals_refl (compared a)))

-- ---- labels that match are the equal labels
pub matches_equal : (a b : List ℕ) → (matches a b ≡ true) ↔ Equal a b
matches_equal a b = (
  λ m. record {
    form = compared a;
    left = has_form a;
    right = (compared_iff b (compared a)).1 (sym ((matches_iff a b).0 m));
  },
  λ e. (matches_iff a b).1 ((compared_iff a e.form).0 e.left ∙ sym ((compared_iff b e.form).0 e.right)),
)

-- ---- matching is an equivalence
pub matches_refl : (a : List ℕ) → matches a a ≡ true
matches_refl a = (matches_iff a a).1 refl

pub matches_sym : (a b : List ℕ) → matches a b ≡ true → matches b a ≡ true
matches_sym a b m = (matches_iff b a).1 (sym ((matches_iff a b).0 m))

pub matches_trans : (a b c : List ℕ) → matches a b ≡ true → matches b c ≡ true → matches a c ≡ true
matches_trans a b c m n = (matches_iff a c).1 ((matches_iff a b).0 m ∙ (matches_iff b c).0 n)

-- labels that match are matched by the same labels
pub matches_alike : (l a b : List ℕ) → matches a b ≡ true → matches l a ≡ matches l b
matches_alike l a b m =
    by (matches l a) (λ e. e ∙ sym (matches_trans l a b e m))
    (λ e. by (matches l b) (λ f. absurd (true≢false (sym (matches_trans l b a f (matches_sym a b m)) ∙ e))) (λ f. e ∙ sym f))
