-- The words of dst + k · src: what the one inner loop of product, division and blinding writes.
-- RULES 4: a multiple of a list of words is added into a list of words.
use Rattle.std.specs.Prelude.{List, [], ◌∷◌, ℕ, ◌+◌, ◌*◌, ◌%◌}

-- k times src added into dst, word by word; dst keeps its length, and its words where src has ended
unfoldable pub scaled : ℕ → ℕ → List ℕ → List ℕ → List ℕ
scaled p k [] dst = dst
scaled p k (b ∷ src) [] = []
scaled p k (b ∷ src) (a ∷ dst) = ((a + k * b) % p) ∷ scaled p k src dst
