-- `undone` is the list with its escapes undone, and there is one.
use Prim.Native.Nat.{ℕ}
use mathlib.Core.Path.{◌≡◌, refl, ap, ◌∙◌}
use mathlib.Core.List.{List, [], ◌∷◌, flat_map}
use mathlib.Core.Logic.{◌↔◌}
use lib.Dec.{eqb}
use Rattle.scan.proofs.Test.{by, and_false}
use Rattle.scan.specs.Byte.{escapes}
use Rattle.scan.proofs.Closing.{slash}
use Rattle.escaping.specs.Escaping.{Undone, empty, escape, byte, escaped, Text, text}
use Rattle.escaping.specs.Reading.{undone, text_of}
use Rattle.escaping.proofs.Undone.{undone_escape, undone_byte}

sound : (l : List ℕ) → Undone l (undone l)
unfolding undone
sound [] = empty
sound (b ∷ []) = byte (and_false (eqb b 92)) empty
sound (b ∷ p ∷ s) =
    by (escapes (b ∷ p ∷ s))
    (λ e. let (eb, ep) = slash b p s e in rw (undone_escape b p s e, eb) (escape ep (sound s)))
    (λ e. rw (undone_byte b (p ∷ s) e) (byte e (sound (p ∷ s))))

complete : {l m : List ℕ} → Undone l m → undone l ≡ m
unfolding undone
complete empty = refl
complete (escape {p} {l} e u) = undone_escape 92 p l e ∙ ap (λ (x : List ℕ). p ∷ x) (complete u)
complete (byte {b} {l} e u) = undone_byte b l e ∙ ap (λ (x : List ℕ). b ∷ x) (complete u)

pub undone_iff : (l m : List ℕ) → Undone l m ↔ (undone l ≡ m)
undone_iff l m = (complete, (λ e. rw e at (sound l)))

text_complete : {l w : List ℕ} → Text l w → text_of l ≡ w
text_complete (text u) = ap (flat_map escaped) (complete u)

pub text_iff : (l w : List ℕ) → Text l w ↔ (text_of l ≡ w)
text_iff l w = (text_complete, (λ e. rw e at (text (sound l))))
