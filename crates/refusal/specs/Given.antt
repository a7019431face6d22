-- A line of the table of answers. Document 01, "Refusal numbers".
use Rattle.std.specs.Prelude.{ℕ, ◌≡◌, ◌↔◌}

-- An answer whose number is n, returned with v: n is this line's number "exactly when" `When` holds, and then `Value` holds of what is "Returned with it".
pub record Given (n v line : ℕ) (When : Type 0) (Value : ℕ → Type 0) : Type 0 where
  pub exactly : (n ≡ line) ↔ When
  pub value : When → Value v

-- The same of an answer that names the text x: "and say which text, 0 the note, 1 the sheet".
pub record GivenFor (n x v line text : ℕ) (When : Type 0) (Value : ℕ → Type 0) : Type 0 where
  pub exactly : ((n ≡ line) × (x ≡ text)) ↔ When
  pub value : When → Value v
