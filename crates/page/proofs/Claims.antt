-- What is claimed of the page of every note and sheet.
use mathlib.Core.Path.{refl, sym}
use Rattle.texts.specs.Texts.{Texts}
use Rattle.page.specs.Claims.{PageClaims}
use Rattle.page.specs.Reading.{page_of}
use Rattle.page.proofs.Page.{page_iff}
use Rattle.page.proofs.ByRows.{page_by_rows, page_by_parts}
use Rattle.page.proofs.Safety.{law_tagged}
use Rattle.page.proofs.Lengths.{law_most}

pub page_claims : (T : Texts) → PageClaims T
page_claims T =
    record {
      page = page_of T;
      page_is = (page_iff T (page_of T)).0 refl;
      no_other = λ w p. sym ((page_iff T w).1 p);
      by_rows = page_by_rows T;
      by_parts = λ js T' js' ps rows f w b. page_by_parts T js T' js' rows f b;
      tagged = law_tagged T;
      bounded = λ w n s p. law_most T w n s p;
    }
