-- What a call that writes to a page leaves: bytes past the page's end are counted and not stored.
use Rattle.std.specs.Prelude.{ℕ, ◌+◌, ◌≤◌, ◌≡◌, List, length}
use Rattle.std.proofs.lemmas.List.Edits.{sets}
use Rattle.buffer.specs.declared.Page.{Page}

-- the most that a page is counted to, 2^40: no sum of lengths wraps below it
abbrev pub page_most : ℕ
page_most = 1_099_511_627_776

-- w is written from n on: the page after it, whole, and the length of what is written by then
pub record Writes (page : List ℕ) (n : ℕ) (w after : List ℕ) (r : ℕ) : Type 0 where
  pub size : r ≡ n + length w
  pub stored : after ≡ sets page n w

-- w can be written next: it is counted, whether it fits or not
abbrev pub HasRoom : Page → List ℕ → Type 0
HasRoom p w = p.size + length w ≤ page_most

-- w is written next
pub record Grows (p : Page) (w : List ℕ) (q : Page) : Type 0 where
  pub same_bytes : q.bytes.ghost_name ≡ p.bytes.ghost_name
  pub written : Writes p.bytes.now p.size w q.bytes.now q.size

-- what writes `whole` to p₀ has come to p, with `rest` still to write
pub record Leads (p₀ : Page) (whole : List ℕ) (p : Page) (rest : List ℕ) : Type 0 where
  pub same_bytes : p.bytes.ghost_name ≡ p₀.bytes.ghost_name
  pub size : p.size + length rest ≡ p₀.size + length whole
  pub stored : sets p.bytes.now p.size rest ≡ sets p₀.bytes.now p₀.size whole
