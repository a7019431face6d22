-- Well-formed UTF-8, good text, and where reading a text first meets no good character.
use Rattle.std.specs.Prelude.{ℕ, suc, ◌≤◌, ◌<◌, ◌≡◌, List, [], ◌∷◌, ◌++◌, length}
use Rattle.scan.specs.Member.{In}

-- the bytes from low to high, both among them
pub record ByteRange : Type 0 where
  pub low : ℕ
  pub high : ℕ

infix 70 ◌‥◌
abbrev pub ◌‥◌ : ℕ → ℕ → ByteRange
low ‥ high = record { low = low; high = high }

-- "UTF-8 is that of the Unicode standard, table 3-7": Well-Formed UTF-8 Byte Sequences, row by row
unfoldable pub table : List (List ByteRange)
table =
    -- U+0000..U+007F
    (0x00 ‥ 0x7F ∷ [])
    -- U+0080..U+07FF
    ∷ (0xC2 ‥ 0xDF ∷ 0x80 ‥ 0xBF ∷ [])
    -- U+0800..U+0FFF
    ∷ (0xE0 ‥ 0xE0 ∷ 0xA0 ‥ 0xBF ∷ 0x80 ‥ 0xBF ∷ [])
    -- U+1000..U+CFFF
    ∷ (0xE1 ‥ 0xEC ∷ 0x80 ‥ 0xBF ∷ 0x80 ‥ 0xBF ∷ [])
    -- U+D000..U+D7FF
    ∷ (0xED ‥ 0xED ∷ 0x80 ‥ 0x9F ∷ 0x80 ‥ 0xBF ∷ [])
    -- U+E000..U+FFFF
    ∷ (0xEE ‥ 0xEF ∷ 0x80 ‥ 0xBF ∷ 0x80 ‥ 0xBF ∷ [])
    -- U+10000..U+3FFFF
    ∷ (0xF0 ‥ 0xF0 ∷ 0x90 ‥ 0xBF ∷ 0x80 ‥ 0xBF ∷ 0x80 ‥ 0xBF ∷ [])
    -- U+40000..U+FFFFF
    ∷ (0xF1 ‥ 0xF3 ∷ 0x80 ‥ 0xBF ∷ 0x80 ‥ 0xBF ∷ 0x80 ‥ 0xBF ∷ [])
    -- U+100000..U+10FFFF
    ∷ (0xF4 ‥ 0xF4 ∷ 0x80 ‥ 0x8F ∷ 0x80 ‥ 0xBF ∷ 0x80 ‥ 0xBF ∷ [])
    ∷ []

-- the bytes of c lie one by one within the row's ranges, and there are equally many
abbrev pub Fits : List ByteRange → List ℕ → Type 0
Fits [] [] = Unit {0}
Fits [] (b ∷ c) = ⊥
Fits (r ∷ row) [] = ⊥
Fits (r ∷ row) (b ∷ c) = (r.low ≤ b) × (b ≤ r.high) × Fits row c

-- c is one character: it fits a row of the table
pub record Character (c : List ℕ) : Type 0 where
  pub row : List ByteRange
  pub listed : In row table
  pub fits : Fits row c

-- a character other than "byte 0 or 13"
pub record GoodCharacter (c : List ℕ) : Type 0 where
  pub character : Character c
  pub not_0 : c ≡ 0 ∷ [] → ⊥
  pub not_13 : c ≡ 13 ∷ [] → ⊥

-- the bytes are n characters of the class, one after the other
pub data Run (Class : List ℕ → Type 0) : List ℕ → ℕ → Type 0 where
  none : Run Class [] 0
  more : {c s : List ℕ} {n : ℕ} → Class c → Run Class s n → Run Class (c ++ s) (suc n)

-- "Well-formed text keeps to it, with or without bytes 0 and 13."
pub record WellFormed (s : List ℕ) : Type 0 where
  pub count : ℕ
  pub run : Run Character s count

-- the opposite of "byte 0 or 13, or ill-formed UTF-8"
pub record Clean (s : List ℕ) : Type 0 where
  pub well_formed : WellFormed s
  pub no_0 : In 0 s → ⊥
  pub no_13 : In 13 s → ⊥

-- the same, character by character
pub record GoodText (s : List ℕ) : Type 0 where
  pub count : ℕ
  pub run : Run GoodCharacter s count

-- s begins with n bytes that are one of the class
pub record Begins (Class : List ℕ → Type 0) (s : List ℕ) (n : ℕ) : Type 0 where
  pub one : List ℕ
  pub rest : List ℕ
  pub whole : s ≡ one ++ rest
  pub size : length one ≡ n
  pub class : Class one

-- "where reading from the start first meets no good character": the first k bytes of s are good text, something follows
-- them, and no good character starts there
pub record FirstBad (s : List ℕ) (k : ℕ) : Type 0 where
  pub front : List ℕ
  pub rest : List ℕ
  pub whole : s ≡ front ++ rest
  pub place : length front ≡ k
  pub good : GoodText front
  pub more : rest ≡ [] → ⊥
  pub bad : (n : ℕ) → Begins GoodCharacter rest n → ⊥

-- "A note is bytes, 0 to 32,768 of them"
abbrev pub note_limit : ℕ
note_limit = 32768

-- refusal 1: "note longer than 32,768 bytes"
abbrev pub TooLong : List ℕ → Type 0
TooLong s = note_limit < length s

-- refusal 2: "byte 0 or 13, or ill-formed UTF-8"
abbrev pub Unclean : List ℕ → Type 0
Unclean s = Clean s → ⊥

-- neither 1 nor 2
pub record GoodNote (s : List ℕ) : Type 0 where
  pub short : length s ≤ note_limit
  pub clean : Clean s
