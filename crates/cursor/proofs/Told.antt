-- What an entry of the table of places tells.
use Rattle.std.proofs.Common.{ℕ, ◌≡◌, Some, None, eqb, sym, ap}
use borrow.Author.Tests.{eqb-true, eqb-false}
use Rattle.scan.proofs.Test.{by}
use Rattle.cursor.specs.declared.Start.{Start}
use Rattle.cursor.specs.Starts.{tags_in, index_in}
use Rattle.cursor.specs.Entries.{start_in}

-- the row x starts at the place of the entry e
pub record Stored (e : ℕ) (x : Start) : Type 0 where
  pub taken : e ≡ 0 → ⊥
  pub row : x.row ≡ index_in e
  pub tags : x.tags ≡ tags_in e

pub some_start : {e : ℕ} {x : Start} → Some x ≡ start_in e → Stored e x
some_start {e} {x} f =
    by (eqb e 0) (λ t. let z : Some x ≡ None = rw t at f in cc)
    (λ t.
    let z : Some x ≡ Some (record { row = index_in e; tags = tags_in e }) = rw t at f in
    let y : x ≡ record { row = index_in e; tags = tags_in e } = cc in
    record { taken = eqb-false e 0 t; row = ap (λ (s : Start). s.row) y; tags = ap (λ (s : Start). s.tags) y })

pub none_start : {e : ℕ} → None ≡ start_in e → e ≡ 0
none_start {e} f =
    by (eqb e 0) (eqb-true e 0) (λ t. let z : None ≡ Some (record { row = index_in e; tags = tags_in e }) = rw t at f in cc)
