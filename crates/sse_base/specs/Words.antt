-- The board's memory: 512 words of 8 bytes from 0x80000000 on. This project's own.
use Rattle.std.specs.Prelude.{ℕ, ◌+◌, ◌-◌, ◌*◌, ◌/◌, ◌%◌, ◌==◌, ◌&&◌, Bool, nat_le, nat_lt, if◌then◌else◌, List, [], ◌∷◌, take, drop, replicate, slice_index, slice_set, Option, Some, None}

-- an address at which a word stands
abbrev pub is_word : ℕ → Bool
is_word addr = nat_le 0x80000000 addr && nat_lt addr 0x80001000 && (addr % 8 == 0)

-- which word it is
abbrev pub word_index : ℕ → ℕ
word_index addr = (addr - 0x80000000) / 8

abbrev pub load : List ℕ → ℕ → Option ℕ
load words addr = if is_word addr then Some (slice_index words (word_index addr)) else None

abbrev pub store : List ℕ → ℕ → ℕ → Option (List ℕ)
store words addr value = if is_word addr then Some (slice_set words (word_index addr) value) else None

abbrev pub fresh_memory : List ℕ
fresh_memory = replicate 512 0

-- whether so many words stand in memory from an address on
abbrev pub are_words : ℕ → ℕ → Bool
are_words lo count = (lo % 8 == 0) && nat_le 0x80000000 lo && nat_le (lo + 8 * count) 0x80001000

-- these words
abbrev pub words_at : List ℕ → ℕ → ℕ → List ℕ
words_at words lo count = take count (drop (word_index lo) words)

-- the memory with other words from a place on
abbrev pub put_words : List ℕ → ℕ → List ℕ → List ℕ
put_words words index [] = words
put_words words index (v ∷ vs) = put_words (slice_set words index v) (index + 1) vs
