-- What is written for the content of a code span holds no markup of its own.
use Prim.Native.Nat.{ℕ}
use mathlib.Core.List.{List}
use Rattle.scan.specs.Every.{Every}
use Rattle.escaping.specs.Escaping.{escaped}
use Rattle.escaping.specs.Clean.{Clean, safe}
use Rattle.escaping.proofs.Safety.{escaped_clean, each_clean, clean_safe}
use Rattle.code.specs.Reading.{code_content, code_of}

pub code_clean : (l : List ℕ) → Clean (code_of l)
code_clean l = each_clean escaped escaped_clean (code_content l)

pub code_safe : (l : List ℕ) → Every safe (code_of l)
code_safe l = clean_safe (code_clean l)
