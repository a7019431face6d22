-- What is written for a destination holds no markup of its own.
use Prim.Native.Nat.{ℕ, zero, suc, ◌/◌, ◌%◌}
use mathlib.Core.Path.{◌≡◌, refl, sym, ap, ◌∙◌}
use mathlib.Core.List.{List, [], ◌∷◌}
use mathlib.Core.Bool.{Bool, true, false, true≢false, not, ◌&&◌}
use lib.ListN.{get_or}
use lib.Dec.{eqb}
use borrow.Author.Tests.{eqb-true, not-true}
use Rattle.scan.specs.Ascii.{ascii}
use Rattle.scan.proofs.Test.{by, and_left, and_right}
use Rattle.scan.specs.Every.{Every}
use Rattle.escaping.specs.Reading.{undone}
use Rattle.escaping.specs.Clean.{among, amp, Clean, plain, entity, safe}
use Rattle.escaping.proofs.Safety.{Before, each_clean, clean_safe}
use Rattle.href.specs.Href.{stays, hex_digit, href_byte}
use Rattle.href.specs.Reading.{href_of}
use Rattle.href.proofs.Bytes.{on_href}

abbrev marks : List ℕ
marks = ascii "&<>\""

-- ---- a test that is computed at each byte of a list
abbrev all : (ℕ → Bool) → List ℕ → Bool
all test [] = true
all test (b ∷ l) = test b && all test l

all_at : (test : ℕ → Bool) (l : List ℕ) → all test l ≡ true → test 0 ≡ true → (i : ℕ) → test (get_or l i 0) ≡ true
all_at test [] e z i = z
all_at test (b ∷ l) e z zero = and_left (test b) (all test l) e
all_at test (b ∷ l) e z (suc i) = all_at test l (and_right (test b) _ e) z i

-- a byte that passes a test is none of those that do not
apart : (test : ℕ → Bool) (l : List ℕ) → all (λ b. not (test b)) l ≡ true → (b : ℕ) → test b ≡ true → among l b ≡ false
apart test [] e b t = refl
apart test (c ∷ l) e b t =
    by (eqb b c)
    (λ q. absurd (true≢false (sym t ∙ ap test (eqb-true b c q) ∙ not-true _ (and_left (not (test c)) (all (λ b. not (test b)) l) e))))
    (λ q. rw q (apart test l (and_right (not (test c)) _ e) b t))

digit_plain : (d : ℕ) → among marks (hex_digit d) ≡ false
unfolding hex_digit
digit_plain d = not-true _ (all_at (λ b. not (among marks b)) (ascii "0123456789ABCDEF") refl refl d)

stays_plain : (b : ℕ) → stays b ≡ true → among marks b ≡ false
unfolding stays
stays_plain b e = apart stays marks refl b e

href_byte_clean : (b : ℕ) → Before (href_byte b)
href_byte_clean b =
    on_href Before b (λ e l. plain (stays_plain b e)) (λ l. entity amp)
    (λ l c. plain refl (plain (digit_plain (b / 16)) (plain (digit_plain (b % 16)) c)))

pub href_clean : (l : List ℕ) → Clean (href_of l)
href_clean l = each_clean href_byte href_byte_clean (undone l)

pub href_safe : (l : List ℕ) → Every safe (href_of l)
href_safe l = clean_safe (href_clean l)
