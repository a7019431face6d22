-- The sheet's rows go on where the note's end, and its paragraphs are not remembered.
use native.Mathlib.Omega.{arith}
use Rattle.texts.specs.Texts.{texts}
use Rattle.table.proofs.Lookup.{both_stored, both_counted, few_own, list_kept}
use Rattle.table.proofs.fill_joined.Goals as goal

pub fill_text-all-requires : goal.fill_text-all-requires
fill_text-all-requires c =
    let p = c.requires in record {
      s_len_bound = p.sheet_len_bound;
      text_bound = omega arith;
      from_bound = few_own _ p.note_len_bound c.fill_text-own.ensures.counted;
    }

pub returns : goal.returns
returns c =
    let a = c.args in
    let T = texts a.note.now a.sheet.now in
    let own = c.fill_text-own.ensures in
    let all = c.fill_text-all.ensures in record {
      counted = both_counted T own.counted all.counted;
      stored = both_stored T a.table.now own.counted own.stored all.stored;
      listed = list_kept c.fill_text-all.new.list (omega arith) (own.listed c.requires.note_in_bounds);
    }
