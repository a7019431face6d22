-- What stands for a code span is what the law says, and there is one.
use Prim.Native.Nat.{ℕ, ◌+◌}
use native.Mathlib.Omega.{arith}
use mathlib.Core.Path.{◌≡◌, refl, ap, ◌∙◌}
use mathlib.Core.List.{List, ◌++◌, flat_map}
use mathlib.Core.Logic.{◌↔◌}
use mathlib.Core.Bool.{Bool, true, false}
use lib.ListN.{length, length-append}
use Rattle.escaping.specs.Escaping.{escaped}
use Rattle.code.specs.Code.{code_open, code_close, CodeElement, code, content}
use Rattle.code.specs.Reading.{code_content, code_of, code_element}
use Rattle.code.proofs.Trimming.{code_iff}

code_span_complete : {tags : Bool} {l w : List ℕ} → CodeElement tags l w → code_element tags l ≡ w
code_span_complete (code {l} {m} c) = ap (λ (x : List ℕ). code_open ++ flat_map escaped x ++ code_close) ((code_iff l m).0 c)
code_span_complete (content {l} {m} c) = ap (flat_map escaped) ((code_iff l m).0 c)

code_span_sound : (tags : Bool) (l : List ℕ) → CodeElement tags l (code_element tags l)
code_span_sound true l = code ((code_iff l (code_content l)).1 refl)
code_span_sound false l = content ((code_iff l (code_content l)).1 refl)

pub code_span_iff : (tags : Bool) (l w : List ℕ) → CodeElement tags l w ↔ (code_element tags l ≡ w)
code_span_iff tags l w = (code_span_complete, (λ e. rw e at (code_span_sound tags l)))

-- ---- the code's two ways
module _ (tags : Bool) (l : List ℕ) where
  pub without_tags : tags ≡ false → code_element tags l ≡ code_of l
  without_tags e = rw e refl

  pub with_tags : tags ≡ true → code_element tags l ≡ code_open ++ code_of l ++ code_close
  with_tags e = rw e refl

  pub with_tags_length : tags ≡ true → length (code_element tags l) ≡ 13 + length (code_of l)
  with_tags_length e = ap length (with_tags e) ∙ omega (arith, length-append (code_of l) code_close)
