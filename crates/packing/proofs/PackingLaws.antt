-- Packed words: lengths, single words, both round trips.
use mathlib.Core.Path.{◌≡◌, refl, ap}
use mathlib.Core.List.{List, [], ◌∷◌, ◌++◌}
use Prim.Native.Nat.{ℕ, zero, suc, ◌+◌, ◌*◌, ◌/◌, ◌%◌, ◌≤◌, ◌<◌, ◌^◌}
use native.Mathlib.Nat.{add-zero, zero-add}
use native.Mathlib.Numerals.{add-one, add-two, add-three, add-four}
use native.Mathlib.Omega.{arith}
use Rattle.std.proofs.lemmas.Nat.{from_le_bytes-to_le_bytes_4, le_bytes_4}
use lib.ListN.{length, drop, get_or}
use lib.Seq.{drop-cons}
use Rattle.packing.specs.Packing.{word_of, word_at, unpacked, packed}

pub length-packed : (w : List ℕ) → length (packed w) ≡ 4 * length w
unfolding packed
length-packed [] = refl
length-packed (w ∷ ws) = let rest = length-packed ws in omega arith

pub length-unpacked : (b : List ℕ) (k : ℕ) → length b ≡ 4 * k → length (unpacked b) ≡ k
unfolding unpacked
length-unpacked [] k h = omega arith
length-unpacked (_ ∷ []) k h = omega arith
length-unpacked (_ ∷ _ ∷ []) k h = omega arith
length-unpacked (_ ∷ _ ∷ _ ∷ []) k h = omega arith
length-unpacked (a ∷ b ∷ c ∷ d ∷ rest) zero h = omega arith
length-unpacked (a ∷ b ∷ c ∷ d ∷ rest) (suc k) h = ap suc (length-unpacked rest k (omega arith))

-- the bytes from `at` on begin with the word at `at`
pub unpacked_from : (b : List ℕ) (at : ℕ) → at + 4 ≤ length b → unpacked (drop at b) ≡ word_at b at ∷ unpacked (drop (at + 4) b)
unfolding unpacked
unpacked_from b at h =
    rw (
      add-one,
      add-two,
      add-three,
      add-four,
      drop-cons b at 0 (omega arith),
      drop-cons b (suc at) 0 (omega arith),
      drop-cons b (suc (suc at)) 0 (omega arith),
      drop-cons b (suc (suc (suc at))) 0 (omega arith),
    )

word_after : (b : List ℕ) (at i : ℕ) → at + 4 * i + 4 ≤ length b → get_or (unpacked (drop at b)) i 0 ≡ word_at b (at + 4 * i)
word_after b at zero h = rw (unpacked_from b at (omega arith), add-zero)
word_after b at (suc i) h =
    let next : at + 4 * suc i ≡ at + 4 + 4 * i = omega arith in
    rw (unpacked_from b at (omega arith), next) (word_after b (at + 4) i (omega arith))

-- word i is the one whose first byte is at 4 i
pub word-unpacked : (b : List ℕ) (i : ℕ) → 4 * i + 4 ≤ length b → get_or (unpacked b) i 0 ≡ word_at b (4 * i)
word-unpacked b i h = rw zero-add at (word_after b 0 i (omega arith))

word_back : (w : ℕ) → w < 2 ^ 32 → word_of (w % 256) (w / 256 % 256) (w / 65536 % 256) (w / 16777216 % 256) ≡ w
word_back w h = omega (arith, from_le_bytes-to_le_bytes_4 w h)

-- words packed and unpacked again
pub unpacked-packed : (w : List ℕ) → ((i : ℕ) → i < length w → get_or w i 0 < 2 ^ 32) → unpacked (packed w) ≡ w
unfolding packed unpacked
unpacked-packed [] h = refl
unpacked-packed (w ∷ ws) h = cc (word_back w (h 0 (omega arith)), unpacked-packed ws (λ i l. h (suc i) (omega arith)))

bytes_back : (a b c d : ℕ) (rest : List ℕ) → a < 256 → b < 256 → c < 256 → d < 256 →
    packed (word_of a b c d ∷ rest) ≡ a ∷ b ∷ c ∷ d ∷ packed rest
unfolding packed
bytes_back a b c d rest ha hb hc hd =
    ap (λ x. x ++ packed rest) (le_bytes_4 (a ∷ b ∷ c ∷ d ∷ []) (word_of a b c d) refl (λ i. grind arith) (omega arith))

-- bytes unpacked and packed again
pub packed-unpacked : (b : List ℕ) (k : ℕ) → length b ≡ 4 * k → ((i : ℕ) → i < length b → get_or b i 0 < 256) → packed (unpacked b) ≡ b
unfolding packed unpacked
packed-unpacked [] k e h = refl
packed-unpacked (_ ∷ []) k e h = absurd (omega arith)
packed-unpacked (_ ∷ _ ∷ []) k e h = absurd (omega arith)
packed-unpacked (_ ∷ _ ∷ _ ∷ []) k e h = absurd (omega arith)
packed-unpacked (a ∷ b ∷ c ∷ d ∷ rest) zero e h = absurd (omega arith)
packed-unpacked (a ∷ b ∷ c ∷ d ∷ rest) (suc k) e h = cc (
  bytes_back a b c d (unpacked rest) (h 0 (omega arith)) (h 1 (omega arith)) (h 2 (omega arith)) (h 3 (omega arith)),
  packed-unpacked rest k (omega arith) (λ i l. h (suc (suc (suc (suc i)))) (omega arith)),
)
