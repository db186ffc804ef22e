-- Division by a monic list, in place: the room of the dividend ends as the words of the remainder, then those of the quotient.
-- RULES 4: A'B' − C' = Z H'; a remainder that is not 0 is not dropped.
use Rattle.std.specs.Prelude.{List, [], ◌∷◌, ℕ, zero, suc, ◌-◌, length, get_or, take, drop}
use Rattle.algebra.specs.Congruence.{negative}
use Rattle.algebra.specs.Points.{target}
use Rattle.poly.specs.AddScaled.{scaled}

-- one quotient word: it stands right above the words that the divisor's lower words meet, and stays there
unfoldable pub divide_once : ℕ → List ℕ → List ℕ → List ℕ
divide_once p low f = scaled p (negative p (get_or f (length low) 0)) low f

-- n quotient words, the highest first. `low` is the divisor without its leading 1
unfoldable pub division : ℕ → List ℕ → ℕ → List ℕ → List ℕ
division p low zero f = f
division p low (suc n) [] = []
division p low (suc n) (a ∷ f) = divide_once p low (a ∷ division p low n f)

-- the target of the points without its leading 1
abbrev pub low_target : ℕ → List ℕ → List ℕ
low_target p xs = take (length xs) (target p xs)

-- f divided by the target of the points: as many remainder words as there are points, and the rest of f's length in quotient words
unfoldable pub remainder : ℕ → List ℕ → List ℕ → List ℕ
remainder p xs f = take (length xs) (division p (low_target p xs) (length f - length xs) f)

unfoldable pub quotient : ℕ → List ℕ → List ℕ → List ℕ
quotient p xs f = drop (length xs) (division p (low_target p xs) (length f - length xs) f)
