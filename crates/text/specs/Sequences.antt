-- The length that a first byte announces, and how many characters a text has.
use Rattle.std.specs.Prelude.{ℕ, zero, suc, ◌/◌, ◌%◌, ◌^◌, List, Bool, true, false, cond, ◌||◌, eqb, ltb, None, Option, Some, is_some, count_by}

-- bit k of b, where bit 0 is the lowest
abbrev pub bit : ℕ → ℕ → Bool
bit k b = eqb (b / 2 ^ k % 2) 1

-- how many one bits stand before the first zero bit, from bit k - 1 of b downwards
unfoldable pub ones_from : ℕ → ℕ → ℕ
ones_from zero b = 0
ones_from (suc k) b = elim (bit k b) [ true ↦ suc (ones_from k b) | false ↦ 0 ]

-- "the count of leading one bits" of a byte
unfoldable pub leading_ones : ℕ → ℕ
leading_ones b = ones_from 8 b

-- "where none means one byte; one or more than four is ill-formed": no sequence starts so
abbrev pub length_by_ones : ℕ → Option ℕ
length_by_ones n = cond (eqb n 0) (Some 1) (cond (eqb n 1 || ltb 4 n) None (Some n))

-- "A sequence length is the count of leading one bits of its first byte"
unfoldable pub sequence_length : ℕ → Option ℕ
sequence_length b = length_by_ones (leading_ones b)

abbrev pub starts_sequence : ℕ → Bool
starts_sequence b = is_some (sequence_length b)

-- how many bytes of l start a sequence; of well-formed text that is the count of its "characters (code points)" (Claims `SequencesCounted`)
unfoldable pub characters : List ℕ → ℕ
characters l = count_by starts_sequence l
