-- The samples by the law: the page of each is the one that the law gives its texts.
use mathlib.Core.Path.{◌≡◌, sym, ap, ◌∙◌}
use mathlib.Core.Option.{some-injective}
use mathlib.Core.List.{List}
use lib.ListN.{get_elem?}
use Rattle.scan.specs.Member.{In}
use Rattle.note.proofs.Members.{mapped_at}
use Rattle.page.specs.Page.{PageIs}
use Rattle.page.specs.Samples.{Sample, samples, read_one, samples_hold}
use Rattle.page.proofs.Page.{page_iff}

pub samples_by_law : (x : Sample) → In x samples → PageIs x.texts x.page
samples_by_law x (k, e) =
    let same : read_one x ≡ x = some-injective (read_one x) x (sym (mapped_at read_one samples k x e) ∙ ap (λ (l : List Sample). get_elem? l k) samples_hold ∙ e) in
    (page_iff x.texts x.page).0 (ap (λ (y : Sample). y.page) same)
