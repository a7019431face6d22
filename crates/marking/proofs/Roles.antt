-- The four roles differ, and so do the two sorts; an opening piece is of its sort's kind.
use mathlib.Core.Path.{◌≡◌, refl}
use mathlib.Core.Logic.{◌≢◌}
use Prim.Native.Nat.{ℕ}
use native.Mathlib.Omega.{arith}
use Rattle.marking.specs.Marking.{link, image, Kind, escape, code, plain, closes, tail, opens, nothing, opening, closing, trailing, role}
use Rattle.marking.specs.Reading.{sort_of}

pub nothing≢opening : nothing ≢ opening
nothing≢opening e = let z : ◌≡◌ {A = ℕ} 0 1 = cc in omega arith

pub nothing≢closing : nothing ≢ closing
nothing≢closing e = let z : ◌≡◌ {A = ℕ} 0 1 = cc in omega arith

pub nothing≢trailing : nothing ≢ trailing
nothing≢trailing e = let z : ◌≡◌ {A = ℕ} 0 1 = cc in omega arith

pub opening≢closing : opening ≢ closing
opening≢closing e = let z : ◌≡◌ {A = ℕ} 0 1 = cc in omega arith

pub opening≢trailing : opening ≢ trailing
opening≢trailing e = let z : ◌≡◌ {A = ℕ} 0 1 = cc in omega arith

pub closing≢opening : closing ≢ opening
closing≢opening e = let z : ◌≡◌ {A = ℕ} 0 1 = cc in omega arith

pub closing≢trailing : closing ≢ trailing
closing≢trailing e = let z : ◌≡◌ {A = ℕ} 0 1 = cc in omega arith

pub trailing≢opening : trailing ≢ opening
trailing≢opening e = let z : ◌≡◌ {A = ℕ} 0 1 = cc in omega arith

pub trailing≢closing : trailing ≢ closing
trailing≢closing e = let z : ◌≡◌ {A = ℕ} 0 1 = cc in omega arith

pub image≢link : image ≢ link
image≢link e = let z : ◌≡◌ {A = ℕ} 0 1 = cc in omega arith

pub opening_opens : (k : Kind) → role k ≡ opening → k ≡ opens (sort_of k)
opening_opens escape e = absurd (nothing≢opening e)
opening_opens code e = absurd (nothing≢opening e)
opening_opens plain e = absurd (nothing≢opening e)
opening_opens closes e = absurd (closing≢opening e)
opening_opens tail e = absurd (trailing≢opening e)
opening_opens (opens x) e = refl
