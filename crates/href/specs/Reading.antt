-- A destination in an href, as it is computed.
use Rattle.std.specs.Prelude.{ℕ}
use mathlib.Core.List.{List, flat_map}
use Rattle.escaping.specs.Reading.{undone}
use Rattle.href.specs.Href.{href_byte}

abbrev pub href_of : List ℕ → List ℕ
href_of l = flat_map href_byte (undone l)
