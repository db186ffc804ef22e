-- Words that are all 0: what a room holds before anything is written into it.
use Rattle.std.specs.Prelude.{List, ℕ, replicate}

-- n words 0
unfoldable pub zeros : ℕ → List ℕ
zeros n = replicate n 0
