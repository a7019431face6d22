-- Reading UTF-8 from the front: how long a character is, and where the first bad one stands.
use Rattle.std.specs.Prelude.{ℕ, zero, suc, ◌+◌, ◌-◌, ◌%◌, List, [], ◌∷◌, Bool, true, false, cond, ◌&&◌, ◌||◌, not, leb, eqb, ltb, length, get_or, None, Option, Some, Err, Ok, Result}
use Rattle.scan.specs.Byte.{within}
use Rattle.scan.specs.Reading.{past_strides}
use Rattle.text.specs.declared.Fault.{Fault}
use Rattle.text.specs.declared.Fault.TheVariants.{Long, Bad}
use Rattle.text.specs.Utf8.{ByteRange, table, note_limit}

-- ---- the character at the front

-- the byte b lies within the range
abbrev pub covers : ByteRange → ℕ → Bool
covers r b = within r.low r.high b

-- the row can start with b
abbrev pub leads : List ByteRange → ℕ → Bool
leads [] b = false
leads (r ∷ row) b = covers r b

-- the first of the rows that can start with b; no range at all where none can
unfoldable pub row_for : List (List ByteRange) → ℕ → List ByteRange
row_for [] b = []
row_for (row ∷ rows) b = elim (leads row b) [ true ↦ row | false ↦ row_for rows b ]

-- s starts with one byte for each range of the row
unfoldable pub starts : List ByteRange → List ℕ → Bool
starts [] s = true
starts (r ∷ row) [] = false
starts (r ∷ row) (b ∷ s) = covers r b && starts row s

abbrev pub length_by : List ByteRange → List ℕ → Option ℕ
length_by [] s = None
length_by (r ∷ row) s = cond (starts (r ∷ row) s) (Some (length (r ∷ row))) None

-- the length of the character that s starts with, where one does
unfoldable pub character_length : List ℕ → Option ℕ
character_length s = length_by (row_for table (get_or s 0 0)) s

-- ---- the same by what the first byte of a longer character asks of the bytes after it

-- b starts a character of two to four bytes
abbrev pub lead : ℕ → Bool
lead b = within 0xC2 0xF4 b

-- the least and the largest second byte after b
abbrev pub least : ℕ → ℕ
least b = cond (eqb b 0xE0) 0xA0 (cond (eqb b 0xF0) 0x90 0x80)

abbrev pub most : ℕ → ℕ
most b = cond (eqb b 0xED) 0x9F (cond (eqb b 0xF4) 0x8F 0xBF)

-- x may be the second byte after b
abbrev pub second : ℕ → ℕ → Bool
second b x = within (least b) (most b) x

-- x may be a third or fourth byte
abbrev pub continuation : ℕ → Bool
continuation x = within 0x80 0xBF x

-- ---- the good character at the front

-- "byte 0 or 13"
abbrev pub barred : ℕ → Bool
barred b = eqb b 0 || eqb b 13

-- the length of the good character that s starts with, where one does
unfoldable pub good_length : List ℕ → Option ℕ
good_length s = cond (barred (get_or s 0 0)) None (character_length s)

-- ---- the first place where no good character starts

-- a byte that is a good character by itself
abbrev pub good_ascii : ℕ → Bool
good_ascii b = leb b 127 && not (barred b)

-- past whole strides of such bytes, at every sixteenth place
unfoldable pub past_ascii : List ℕ → ℕ → ℕ
past_ascii s at = elim (eqb (at % 16) 0) [ true ↦ past_strides good_ascii s at | false ↦ at ]

-- the same where the first k bytes of s, which stands at place `at`, are passed unread
unfoldable pub first_bad_past : ℕ → List ℕ → ℕ → Option ℕ
first_bad_past k [] at = None
first_bad_past zero (b ∷ s) at = elim (good_length (b ∷ s)) [ None ↦ Some at | Some n ↦ first_bad_past (n - 1) s (at + 1) ]
first_bad_past (suc k) (b ∷ s) at = first_bad_past k s (at + 1)

-- the first place of s where no good character starts; s stands at place `at`
unfoldable pub first_bad : List ℕ → ℕ → Option ℕ
first_bad s at = first_bad_past 0 s at

-- ---- a note

-- nothing, or why the note is refused
abbrev pub Checked : Type 0
Checked = Result (Unit {0}) Fault

abbrev pub checked_by : Option ℕ → Checked
checked_by (Some k) = Err (Bad k)
checked_by None = Ok tt

-- too long, with its length; or bad, with the place; or neither
unfoldable pub check_of : List ℕ → Checked
check_of s = elim (ltb note_limit (length s)) [ true ↦ Err (Long (length s)) | false ↦ checked_by (first_bad s 0) ]
