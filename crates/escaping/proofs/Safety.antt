-- What is written for text and titles holds no markup of its own.
use Prim.Native.Nat.{ℕ}
use mathlib.Core.Path.{refl, ap}
use mathlib.Core.List.{List, [], ◌∷◌, ◌++◌, flat_map}
use mathlib.Core.Bool.{not}
use lib.Dec.{eqb}
use Rattle.scan.proofs.Test.{neither}
use Rattle.scan.specs.Every.{Every, none, more}
use Rattle.escaping.specs.Escaping.{escaped}
use Rattle.escaping.specs.Reading.{undone, text_of}
use Rattle.escaping.specs.Clean.{Entity, amp, lt, gt, quot, Clean, plain, entity, safe}
use Rattle.escaping.proofs.Cases.{on_escaped}

-- the bytes w may stand before what is clean
abbrev pub Before : List ℕ → Type 0
Before w = (l : List ℕ) → Clean l → Clean (w ++ l)

pub escaped_clean : (b : ℕ) → Before (escaped b)
escaped_clean b = on_escaped Before b (λ l. entity amp) (λ l. entity lt) (λ l. entity gt) (λ l. entity quot) (λ e l. plain e)

pub each_clean : (f : ℕ → List ℕ) → ((b : ℕ) → Before (f b)) → (l : List ℕ) → Clean (flat_map f l)
unfolding flat_map
each_clean f h [] = Clean.none
each_clean f h (b ∷ l) = h b (flat_map f l) (each_clean f h l)

pub text_clean : (l : List ℕ) → Clean (text_of l)
text_clean l = each_clean escaped escaped_clean (undone l)

-- ---- so no `<`, `>` or `"` is among them
entity_safe : {e : List ℕ} → Entity e → {l : List ℕ} → Every safe l → Every safe (e ++ l)
entity_safe amp s = more refl (more refl (more refl (more refl (more refl s))))
entity_safe lt s = more refl (more refl (more refl (more refl s)))
entity_safe gt s = more refl (more refl (more refl (more refl s)))
entity_safe quot s = more refl (more refl (more refl (more refl (more refl (more refl s)))))

pub clean_safe : {l : List ℕ} → Clean l → Every safe l
clean_safe Clean.none = none
clean_safe (plain {b} e c) = more (ap not (neither (eqb b 38) _ e).1) (clean_safe c)
clean_safe (entity e c) = entity_safe e (clean_safe c)

pub text_safe : (l : List ℕ) → Every safe (text_of l)
text_safe l = clean_safe (text_clean l)
