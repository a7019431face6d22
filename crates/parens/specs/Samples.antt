-- Samples by computation.
use Rattle.std.specs.Prelude.{◌≡◌, refl, true, false}
use Rattle.scan.specs.Ascii.{ascii}
use Rattle.parens.specs.Unclosed.{slashed, closers_before, closers, unclosed_at}

unclosed_places : (unclosed_at (ascii "(a(b)") 0 ≡ true)
    × (unclosed_at (ascii "(a(b)") 2 ≡ false)
    × (unclosed_at (ascii "(a(b))") 0 ≡ false)
    × (unclosed_at (ascii "(a b)") 0 ≡ true)
    × (unclosed_at (ascii "\\(a") 1 ≡ false)
    × (unclosed_at (ascii "\\\\(a") 2 ≡ true)
    × (unclosed_at (ascii "(a\\)") 0 ≡ true)
unfolding slashed closers_before closers
unclosed_places = (refl, refl, refl, refl, refl, refl, refl)
