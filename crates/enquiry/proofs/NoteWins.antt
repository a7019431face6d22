-- A label that the note defines never opens the sheet's.
use Rattle.std.specs.Prelude.{None, Option, Some, Ok}
use Prim.Native.Nat.{ℕ, suc, ◌<◌}
use native.Mathlib.Omega.{arith}
use mathlib.Core.Path.{◌≡◌, refl, sym, ap, subst, ◌∙◌}
use mathlib.Core.List.{List, [], ◌∷◌, ◌++◌}
use lib.ListN.{length, get_or, take, drop, length-map}
use lib.Seq.{length-take-le}
use Rattle.text.specs.Utf8.{GoodNote}
use Rattle.texts.specs.Texts.{texts}
use Rattle.block.specs.Block.{Placed}
use Rattle.matching.specs.Form.{Equal}
use Rattle.row.specs.declared.Definition.{Definition}
use Rattle.row.specs.Row.{Listed, listed}
use Rattle.row.specs.First.{bytes_of, past_end, FirstEqual}
use Rattle.row.specs.Reading.{first_match}
use Rattle.row.proofs.First.{first_equal, none_equal}
use Rattle.definition.specs.Note.{NoteIs}
use Rattle.definition.proofs.Notes.{note_some, note_one}
use Rattle.joined.specs.Joined.{listed_in}
use Rattle.enquiry.specs.declared.Destination.{Destination}
use Rattle.enquiry.specs.Answers.{GoodLabel, Answers, own_labels, DefinesAlone}
use Rattle.enquiry.specs.Reading.{answer_by, answer_in, answer_of, or_undefined, enquiry_of}
use Rattle.enquiry.specs.Claims.{NoteWins}
use Rattle.enquiry.proofs.Lookup.{or_next, answer_joined}
use Rattle.enquiry.proofs.Answers.{split_at, at_split, with_label, answers, determined}

module _ (note label : List ℕ) where
  -- ---- the first of the note's definitions that has an equal label
  module _ {ds : List Definition} {ps : List Placed} (read : NoteIs note ds ps) where
    first_alone : (k : ℕ) → FirstEqual (own_labels note ds) label k → DefinesAlone note label (get_or ds k past_end.definition)
    first_alone k f =
        let h : k < length ds = omega (arith, f.within, length-map ds (λ (d : Definition). bytes_of note d.label)) in
        let split = split_at past_end.definition ds k h in
        let size : length (take k ds) ≡ k = length-take-le k ds (omega arith) in
        record {
          before = take k ds;
          after = drop (suc k) ds;
          paragraphs = ps;
          read = subst (λ (l : List Definition). NoteIs note l ps) (sym split) read;
          first = subst (λ (l : List Definition). FirstEqual (own_labels note l) label (length (take k ds))) (sym split) (rw size f);
        }

    one_alone : (i : ℕ) → i < length ds → Equal (get_or (own_labels note ds) i []) label
        → (f : Option ℕ) → first_match (own_labels note ds) label ≡ f → (d : Definition) × DefinesAlone note label d
    one_alone i h e (Some k) q = (get_or ds k past_end.definition, first_alone k ((first_equal (own_labels note ds) label k).0 q))
    one_alone i h e None q =
        absurd ((none_equal (own_labels note ds) label).0 q i (omega (arith, length-map ds (λ (d : Definition). bytes_of note d.label))) e)

  -- ---- it is what the note by itself gives, and the two texts with it
  module _ {d : Definition} (m : DefinesAlone note label d) where
    listed_there : (l : List Definition) → listed_in 0 (l ++ d ∷ m.after) ≡ listed_in 0 l ++ listed 0 d ∷ listed_in 0 m.after
    listed_there [] = refl
    listed_there (x ∷ l) = rw (listed_there l)

    alone : answer_of 0 note label ≡ Some (answer_by (listed 0 d))
    unfolding answer_of answer_in
    alone =
        let size : length (listed_in 0 m.before) ≡ length m.before = length-map m.before (listed 0) in
        let there : get_or (listed_in 0 (m.before ++ d ∷ m.after)) (length m.before) past_end ≡ listed 0 d =
        rw (listed_there m.before, ← size) (at_split past_end (listed_in 0 m.before) (listed 0 d) (listed_in 0 m.after))
        in
        rw ((note_one note (note_some note) m.read).0, (first_equal (own_labels note (m.before ++ d ∷ m.after)) label (length m.before)).1 m.first)
        (ap (λ (x : Listed). Some (answer_by x)) there)

    joined_answer : GoodNote note → GoodLabel label → (sheet : List ℕ) → GoodNote sheet → enquiry_of (texts note sheet) label ≡ Ok (answer_by (listed 0 d))
    joined_answer g l sheet h =
        let T = texts note sheet in
        with_label T label record { note = g; sheet = h } l ∙ ap or_undefined (answer_joined label T ∙ ap (λ (e : Option Destination). or_next e (answer_of 1 sheet label)) alone)

  pub note_wins : NoteWins note label
  note_wins = record {
    first = λ {ds} read i h e. one_alone read i h e (first_match (own_labels note ds) label) refl;
    wins = λ m g l sheet h e.
        let q = joined_answer m g l sheet h in
        (λ a. sym (determined (texts note sheet) label a) ∙ q, λ f. subst (Answers (texts note sheet) label) (q ∙ sym f) (answers (texts note sheet) label));
  }
