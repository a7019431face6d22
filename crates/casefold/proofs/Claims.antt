-- The claims of folding hold.
use Rattle.casefold.specs.Claims.{FoldingClaims}
use Rattle.casefold.proofs.Tested.{later, fold_twice, fold_all_twice, fold_blank, fold_ink, ascii_folds}

pub folding_claims : FoldingClaims
folding_claims =
    record { twice = fold_twice; all_twice = fold_all_twice; later = later; blanks = fold_blank; ink = fold_ink; ascii = ascii_folds }
