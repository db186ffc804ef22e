-- Words packed into bytes. RULES 2, its first sentence: all words are u32; in a file or byte slice
-- each is 4 bytes, least significant first.
use Rattle.std.specs.Prelude.{List, [], ◌∷◌, ℕ, ◌+◌, ◌*◌, ◌/◌, ◌%◌, get_or}

-- the word of four bytes
abbrev pub word_of : ℕ → ℕ → ℕ → ℕ → ℕ
word_of a b c d = a + 256 * b + 65536 * c + 16777216 * d

-- the word of the four bytes from `at` on
abbrev pub word_at : List ℕ → ℕ → ℕ
word_at s at = word_of (get_or s at 0) (get_or s (at + 1) 0) (get_or s (at + 2) 0) (get_or s (at + 3) 0)

-- bytes to words, four at a time; what does not fill a word at the end is left out
unfoldable pub unpacked : List ℕ → List ℕ
unpacked [] = []
unpacked (_ ∷ []) = []
unpacked (_ ∷ _ ∷ []) = []
unpacked (_ ∷ _ ∷ _ ∷ []) = []
unpacked (a ∷ b ∷ c ∷ d ∷ rest) = word_of a b c d ∷ unpacked rest

-- words to bytes
unfoldable pub packed : List ℕ → List ℕ
packed [] = []
packed (w ∷ ws) = w % 256 ∷ w / 256 % 256 ∷ w / 65536 % 256 ∷ w / 16777216 % 256 ∷ packed ws

-- words of the longest job file, of 37,944 bytes: RULES 7
abbrev pub job_words : ℕ
job_words = 9486
