-- Numbers as lines of text, bytes as ASCII codes: 48 is the digit 0, 32 a space, 10 a newline.
-- RULES 7: decimals, one space between, newline after each line.
use Rattle.std.specs.Prelude.{true, false, List, [], ◌∷◌, ◌++◌, ◌≡◌, ℕ, zero, suc, ◌+◌, ◌*◌, ◌/◌, ◌%◌, ◌≤◌, ltb, take, drop}

-- the digits of n, highest first, by at most k divisions
unfoldable pub digits : ℕ → ℕ → List ℕ
digits zero n = (48 + n) ∷ []
digits (suc k) n = elim (ltb n 10) [ true ↦ (48 + n) ∷ [] | false ↦ digits k (n / 10) ++ ((48 + n % 10) ∷ []) ]

-- n divisions are enough
unfoldable pub decimal : ℕ → List ℕ
decimal n = digits n n

-- a line: one space between, a newline at the end; without a number it is the newline alone
unfoldable pub line : List ℕ → List ℕ
line [] = 10 ∷ []
line (w ∷ []) = decimal w ++ (10 ∷ [])
line (w ∷ v ∷ ws) = decimal w ++ 32 ∷ line (v ∷ ws)

-- bytes that are enough for a number of 64 bits, which has at most 20 digits, and the byte behind it
abbrev pub number_room : ℕ
number_room = 21

-- for a line of two
abbrev pub two_room : ℕ
two_room = 2 * number_room

-- for a line of as many as `count`
abbrev pub line_room : ℕ → ℕ
line_room count = number_room * count + 1

-- the bytes from `end` on are as they were
pub record Kept (before after : List ℕ) (end : ℕ) : Type 0 where
  pub same : drop end after ≡ drop end before

-- the text up to `end` is the earlier text up to `at` with `new` behind it, and `new` took at most `room` bytes; what comes after is kept
pub record Appended (before : List ℕ) (at : ℕ) (new : List ℕ) (room : ℕ) (after : List ℕ) (end : ℕ) : Type 0 where
  pub text : take end after ≡ take at before ++ new
  pub rest : Kept before after end
  pub onward : at ≤ end
  pub within : end ≤ at + room
