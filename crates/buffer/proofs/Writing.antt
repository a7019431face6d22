-- Writing one part after the other.
use Rattle.std.proofs.Common.{ℕ, suc, ◌+◌, ◌≤◌, ◌≡◌, List, [], ◌∷◌, ◌++◌, length, refl, sym, ap, ◌∙◌, add-zero, add-suc, suc-add, arith, length-append}
use lib.Seq.{sets, set_out}
use Rattle.buffer.specs.declared.Page.{Page}
use Rattle.buffer.specs.Stored.{Writes, HasRoom, Grows, Leads}

pub sets_append : (l : List ℕ) (i : ℕ) (u v : List ℕ) → sets l i (u ++ v) ≡ sets (sets l i u) (i + length u) v
sets_append l i [] v = rw add-zero
sets_append l i (x ∷ u) v = sets_append _ (suc i) u v ∙ rw (suc-add, add-suc)

pub sets_past : (l : List ℕ) (n : ℕ) (w : List ℕ) → length l ≤ n → sets l n w ≡ l
sets_past l n [] h = refl
sets_past l n (b ∷ w) h = ap (λ (x : List ℕ). sets x (suc n) w) (set_out l n b h) ∙ sets_past l (suc n) w (omega arith)

-- an empty page only measures
pub measured : {w after : List ℕ} {n r : ℕ} → Writes [] n w after r → after ≡ []
measured {w} {n = n} h = h.stored ∙ sets_past [] n w (omega arith)

pub nothing : {p : Page} → Grows p [] p
nothing {p} = record { same_bytes = refl; written = record { size = sym (add-zero p.size); stored = refl } }

-- u is written, then v
pub both : {p q r : Page} {u v : List ℕ} → Grows p u q → Grows q v r → Grows p (u ++ v) r
both {p} {q} {r} {u} {v} a b =
    record {
      same_bytes = b.same_bytes ∙ a.same_bytes;
      written = record {
        size = omega (arith, a.written.size, b.written.size, length-append u v);
        stored = b.written.stored ∙ rw (a.written.stored, a.written.size) (sym (sets_append p.bytes.now p.size u v));
      };
    }

-- ---- the parts of a whole, one after the other
pub leads : {p : Page} {w : List ℕ} → Leads p w p w
leads = record { same_bytes = refl; size = refl; stored = refl }

-- u is written next
pub onward : {p₀ p q : Page} {whole rest u v : List ℕ} → Leads p₀ whole p rest → rest ≡ u ++ v → Grows p u q → Leads p₀ whole q v
onward {p = p} {u = u} {v = v} l e g =
    record {
      same_bytes = g.same_bytes ∙ l.same_bytes;
      size = omega (arith, l.size, g.written.size, length-append u v, ap length e);
      stored = rw (g.written.stored, g.written.size) (sym (sets_append p.bytes.now p.size u v) ∙ (rw e at l.stored));
    }

-- nothing is left to write
pub done : {p₀ p : Page} {whole rest : List ℕ} → Leads p₀ whole p rest → rest ≡ [] → Grows p₀ whole p
done l e = record { same_bytes = l.same_bytes; written = record { size = omega (arith, l.size, ap length e); stored = rw e at l.stored } }

-- what is next ends where the whole does, or before
pub room : {p₀ p : Page} {whole rest : List ℕ} (u v : List ℕ) → Leads p₀ whole p rest → rest ≡ u ++ v → HasRoom p₀ whole → HasRoom p u
room u v l e h = omega (arith, l.size, length-append u v, ap length e)
