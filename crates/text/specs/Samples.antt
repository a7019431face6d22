-- Texts, and what reading each gives, by computation.
use Rattle.std.specs.Prelude.{ℕ, ◌≡◌, refl, List, [], ◌∷◌, map, replicate, None, Some, Err}
use Rattle.text.specs.declared.Fault.TheVariants.{Long, Bad}
use Rattle.text.specs.Utf8.{table}
use Rattle.text.specs.Sequences.{ones_from, leading_ones, sequence_length, characters}
use Rattle.text.specs.Reading.{row_for, starts, character_length, good_length, first_bad_past, first_bad, check_of}

-- a text, and the place where no good character starts
bad : List (List ℕ × ℕ)
bad =
    -- overlong: U+0000 in two bytes, in three, U+0800 less one in three, U+FFFF in four
    (0xC0 ∷ 0x80 ∷ [], 0)
    ∷ (0x61 ∷ 0xC1 ∷ 0xBF ∷ [], 1)
    ∷ (0xE0 ∷ 0x80 ∷ 0x80 ∷ [], 0)
    ∷ (0xE0 ∷ 0x9F ∷ 0xBF ∷ [], 0)
    ∷ (0xF0 ∷ 0x8F ∷ 0xBF ∷ 0xBF ∷ [], 0)
    -- the first and the last surrogate
    ∷ (0xED ∷ 0xA0 ∷ 0x80 ∷ [], 0)
    ∷ (0xC3 ∷ 0xA9 ∷ 0xED ∷ 0xBF ∷ 0xBF ∷ [], 2)
    -- above U+10FFFF
    ∷ (0xF4 ∷ 0x90 ∷ 0x80 ∷ 0x80 ∷ [], 0)
    ∷ (0xF5 ∷ 0x80 ∷ 0x80 ∷ 0x80 ∷ [], 0)
    -- five ones, a continuation byte alone
    ∷ (0xF8 ∷ 0x88 ∷ 0x80 ∷ 0x80 ∷ 0x80 ∷ [], 0)
    ∷ (0x61 ∷ 0x80 ∷ [], 1)
    -- cut off at the end, or by another byte
    ∷ (0x61 ∷ 0xC3 ∷ [], 1)
    ∷ (0x61 ∷ 0xE2 ∷ 0x82 ∷ [], 1)
    ∷ (0xF0 ∷ 0x9F ∷ 0x98 ∷ [], 0)
    ∷ (0xE2 ∷ 0x82 ∷ 0x61 ∷ 0x61 ∷ [], 0)
    -- bytes 0 and 13
    ∷ (0x61 ∷ 0x0A ∷ 0x00 ∷ [], 2)
    ∷ (0xE2 ∷ 0x82 ∷ 0xAC ∷ 0x0D ∷ 0x0A ∷ [], 3)
    ∷ []

bad_read : map (λ (x : List ℕ × ℕ). first_bad x.0 0) bad ≡ map (λ (x : List ℕ × ℕ). Some x.1) bad
unfolding bad table row_for starts character_length good_length first_bad_past first_bad
bad_read = refl

-- a good text, and how many characters it has
good : List (List ℕ × ℕ)
good =
    ([], 0)
    -- U+0061, U+00E9, U+20AC, U+1F600, LF
    ∷ (0x61 ∷ 0xC3 ∷ 0xA9 ∷ 0xE2 ∷ 0x82 ∷ 0xAC ∷ 0xF0 ∷ 0x9F ∷ 0x98 ∷ 0x80 ∷ 0x0A ∷ [], 5)
    -- the first and the last character of each row of the table, but U+0000
    ∷ (0x01 ∷ 0x7F ∷ [], 2)
    ∷ (0xC2 ∷ 0x80 ∷ 0xDF ∷ 0xBF ∷ [], 2)
    ∷ (0xE0 ∷ 0xA0 ∷ 0x80 ∷ 0xE0 ∷ 0xBF ∷ 0xBF ∷ [], 2)
    ∷ (0xE1 ∷ 0x80 ∷ 0x80 ∷ 0xEC ∷ 0xBF ∷ 0xBF ∷ [], 2)
    ∷ (0xED ∷ 0x80 ∷ 0x80 ∷ 0xED ∷ 0x9F ∷ 0xBF ∷ [], 2)
    ∷ (0xEE ∷ 0x80 ∷ 0x80 ∷ 0xEF ∷ 0xBF ∷ 0xBF ∷ [], 2)
    ∷ (0xF0 ∷ 0x90 ∷ 0x80 ∷ 0x80 ∷ 0xF0 ∷ 0xBF ∷ 0xBF ∷ 0xBF ∷ [], 2)
    ∷ (0xF1 ∷ 0x80 ∷ 0x80 ∷ 0x80 ∷ 0xF3 ∷ 0xBF ∷ 0xBF ∷ 0xBF ∷ [], 2)
    ∷ (0xF4 ∷ 0x80 ∷ 0x80 ∷ 0x80 ∷ 0xF4 ∷ 0x8F ∷ 0xBF ∷ 0xBF ∷ [], 2)
    ∷ []

good_read : map (λ (x : List ℕ × ℕ). first_bad x.0 0) good ≡ map (λ (x : List ℕ × ℕ). None) good
unfolding good table row_for starts character_length good_length first_bad_past first_bad
good_read = refl

good_counted : map (λ (x : List ℕ × ℕ). characters x.0) good ≡ map (λ (x : List ℕ × ℕ). x.1) good
unfolding good characters sequence_length leading_ones ones_from
good_counted = refl

-- ---- a note past the limit, and a bad one
past_limit : check_of (replicate 32769 97) ≡ Err (Long 32769)
unfolding check_of
past_limit = refl

bad_note : check_of (97 ∷ 13 ∷ []) ≡ Err (Bad 1)
unfolding check_of table row_for starts character_length good_length first_bad_past first_bad
bad_note = refl
