-- What holds of every definition of a text holds of every entry of the joined list, in its own text.
use Prim.Native.Nat.{ℕ, zero, suc, ◌+◌, ◌<◌}
use native.Mathlib.Omega.{arith}
use mathlib.Core.Path.{◌≡◌, refl, sym, subst}
use mathlib.Core.List.Memᴰ
use mathlib.Core.List.{List, [], ◌∷◌, Memᴰ}
use mathlib.Core.Logic.{⊎_elim}
use lib.ListN.{length, get_or, length-append, length-map}
use Rattle.texts.specs.Texts.{Texts, text_of}
use Rattle.row.specs.declared.Definition.{Definition}
use Rattle.row.specs.Row.{Listed, listed}
use Rattle.row.specs.First.{past_end}
use Rattle.definition.specs.Reading.{definitions}
use Rattle.joined.specs.Joined.{listed_in}
use Rattle.joined.specs.Reading.{joined}

-- an entry of such a list is a definition of it with this number
listed_from : (k : ℕ) (ds : List Definition) (j : Listed) → Memᴰ j (listed_in k ds) → (d : Definition) × ((j ≡ listed k d) × Memᴰ d ds)
listed_from k [] j m = absurd (Memᴰ.not-nil m)
listed_from k (d ∷ ds) j m =
    ⊎_elim (λ e. (d, (e, Memᴰ.head refl)))
    (λ n. let (c, w) = listed_from k ds j n in (c, (w.0, Memᴰ.tail w.1)))
    (Memᴰ.cases_cons m)

pub at_index : {A : Type 0} (l : List A) (k : ℕ) (o : A) → k < length l → Memᴰ (get_or l k o) l
at_index [] k o h = absurd (omega arith)
at_index (x ∷ l) zero o h = Memᴰ.head refl
at_index (x ∷ l) (suc k) o h = Memᴰ.tail (at_index l k o (omega arith))

module _ (T : Texts) (P : List ℕ → Definition → Type 0) (each : (s : List ℕ) (d : Definition) → Memᴰ d (definitions s) → P s d) where
  -- it holds of this entry
  abbrev pub Of : Listed → Type 0
  Of j = P (text_of T j.text) j.definition

  of_text : (k : ℕ) (j : Listed) → Memᴰ j (listed_in k (definitions (text_of T k))) → Of j
  of_text k j m = let (d, w) = listed_from k (definitions (text_of T k)) j m in subst Of (sym w.0) (each (text_of T k) d w.1)

  pub each_entry : (j : Listed) → Memᴰ j (joined T) → Of j
  unfolding joined
  each_entry j m = ⊎_elim (of_text 0 j) (of_text 1 j) (Memᴰ.append_cases (listed_in 0 (definitions T.note)) m)

  pub entry_at : (k : ℕ) → k < length (joined T) → Of (get_or (joined T) k past_end)
  entry_at k h = each_entry (get_or (joined T) k past_end) (at_index (joined T) k past_end h)

pub length_joined : (T : Texts) → length (joined T) ≡ length (definitions T.note) + length (definitions T.sheet)
unfolding joined
length_joined T =
    let a = definitions T.note in
    let b = definitions T.sheet in
    omega (arith, length-append (listed_in 0 a) (listed_in 1 b), length-map a (listed 0), length-map b (listed 1))
