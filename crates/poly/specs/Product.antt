-- The product of two lists, kept whole in a room of words.
-- RULES 4: before division the product is kept whole, up to 513 coefficients.
use Rattle.std.specs.Prelude.{List, [], ◌∷◌, ◌++◌, ℕ, ◌-◌, length, take, drop}
use Rattle.slices.specs.Zeros.{zeros}
use Rattle.poly.specs.AddScaled.{scaled}

-- f · g added into the room: f's first word times g; then the first word of the room is done, and the rest of f goes into the rest of it
unfoldable pub add_product : ℕ → List ℕ → List ℕ → List ℕ → List ℕ
add_product p [] g room = room
add_product p (a ∷ f) g room = take 1 (scaled p a g room) ++ add_product p f g (drop 1 (scaled p a g room))

-- a list at the front of a room of n words, and 0 after it
unfoldable pub padded : ℕ → List ℕ → List ℕ
padded n f = f ++ zeros (n - length f)
