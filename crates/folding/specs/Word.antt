-- The bytes that a character of two bytes folds to, as one number: the first byte lowest, and 0 after the last.
use Rattle.std.specs.Prelude.{ℕ, zero, suc, ◌+◌, ◌*◌, ◌/◌, ◌%◌, List, [], ◌∷◌, true, false, cond, eqb, ltb, get_or, Option, Some, None}
use Rattle.std.specs.Option.{unwrap_or}
use Rattle.casefold.specs.Table.{table}

-- the bytes of a number, at most k
unfoldable pub unpack : ℕ → ℕ → List ℕ
unpack zero n = []
unpack (suc k) n = elim (eqb n 0) [ true ↦ [] | false ↦ (n % 256) ∷ unpack k (n / 256) ]

-- those of a 64-bit number
abbrev pub unpacked : ℕ → List ℕ
unpacked n = unpack 8 n

-- UTF-8 of one code point below U+10000
unfoldable pub utf8_word : ℕ → ℕ
utf8_word f =
    cond (ltb f 0x80) f
    (cond (ltb f 0x800) (0xC0 + f / 64 + 256 * (0x80 + f % 64))
    (0xE0 + f / 4096 + 256 * (0x80 + f / 64 % 64) + 65536 * (0x80 + f % 64)))

-- the short list: UTF-8 of what each folds to
unfoldable pub several_word : ℕ → Option ℕ
several_word c =
    cond (eqb c 0x00DF) (Some 0x7373)
    (cond (eqb c 0x0130) (Some 0x87CC69)
    (cond (eqb c 0x0149) (Some 0x6EBCCA)
    (cond (eqb c 0x01F0) (Some 0x8CCC6A)
    (cond (eqb c 0x0390) (Some 0x81CC88CCB9CE)
    (cond (eqb c 0x03B0) (Some 0x81CC88CC85CF) None)))))

-- of c: by the short list, or else by the table
unfoldable pub word_of : ℕ → ℕ
word_of c = unwrap_or (several_word c) (utf8_word (get_or table c 0))
