-- What loops over a slice share: a part lent from i on; a loop down, which keeps the words done behind and
-- has the words `take i l` still to do in front of them. And two words made of congruent parts are equal.
use mathlib.Core.Path.{◌≡◌}
use mathlib.Core.List.{List, ◌∷◌, ◌++◌, append_assoc, append-nil}
use Prim.Native.Nat.{ℕ, suc, ◌+◌, ◌*◌, ◌-◌, ◌%◌, ◌<◌, ◌≤◌}
use native.Mathlib.Nat.{zero-add}
use native.Mathlib.Omega.{arith}
use borrow.Rule.Slice.PartMut.{put_mid}
use lib.ListN.{length, take, drop, set, get_or, length-drop, drop_of_length-le}
use lib.Seq.{take-suc, take_all, take_at, drop_at, set_at, get_or_at, length-take-le, get_or-append-add}
use Rattle.algebra.specs.Congruence.{◌≈⟨◌⟩◌, negative}
use Rattle.algebra.proofs.Congruence.{≈_refl, ≈-eq, ≈_trans, ≈-plus, ≈-product, ≈-reduced}

pub same_word : {p k l b c : ℕ} (a : ℕ) → k ≈⟨ p ⟩ l → b ≈⟨ p ⟩ c → (a + k * b) % p ≡ (a + l * c) % p
same_word {p} a h e = (≈-plus (≈_refl p a) (≈-product h e)).same

-- a number in a product may be reduced first
pub reduced_word : (p a k v : ℕ) → (a + k * (v % p)) % p ≡ (a + k * v) % p
reduced_word p a k v = same_word a (≈_refl p k) (≈-reduced p v)

-- the word that `minus(0, x)` gives
pub minus-same : {p k : ℕ} (x : ℕ) → k ≡ (0 + negative p x) % p → k ≈⟨ p ⟩ negative p x
minus-same {p} x e = ≈_trans (≈-eq p (rw zero-add at e)) (≈-reduced p (negative p x))

-- a part lent from i on comes back as f of it
pub lent_back : (f : List ℕ → List ℕ) (l : List ℕ) (i : ℕ) {back : List ℕ} → back ≡ f (take (length l - i) (drop i l)) →
    put_mid i (length l - i) l back ≡ take i l ++ f (drop i l)
lent_back f l i e =
    let all : length (drop i l) ≤ length l - i = omega (arith, length-drop i l) in
    rw (drop_of_length-le (drop i l) all, append-nil, e, take_all (length l - i) (drop i l) all)

-- loop down: word j of l is next
module _ (l : List ℕ) (j : ℕ) (h : j < length l) (rest : List ℕ) where
  pub back-word : take (suc j) l ++ rest ≡ take j l ++ get_or l j 0 ∷ rest
  back-word = rw (take-suc l j 0 h, append_assoc)

  pub back_get : get_or (take (suc j) l ++ rest) j 0 ≡ get_or l j 0
  back_get = rw back-word (get_or_at (take j l) _ rest 0 j (length-take-le j l (omega arith)))

  pub back-set : (v : ℕ) → set (take (suc j) l ++ rest) j v ≡ take j l ++ v ∷ rest
  back-set v = rw back-word (set_at (take j l) _ rest v j (length-take-le j l (omega arith)))

  -- a part lent from j on comes back as f of it
  pub back-part : (f : List ℕ → List ℕ) {now back : List ℕ} → now ≡ take (suc j) l ++ rest → back ≡ f (take (length now - j) (drop j now)) →
      put_mid j (length now - j) now back ≡ take j l ++ f (get_or l j 0 ∷ rest)
  back-part f {now} so_far e =
      let size : length (take j l) ≡ j = length-take-le j l (omega arith) in
      rw (lent_back f now j e, so_far, back-word, take_at (take j l) (get_or l j 0 ∷ rest) j size, drop_at (take j l) (get_or l j 0 ∷ rest) j size)

  -- a word of that part
  pub back-later : (n : ℕ) → get_or (take (suc j) l ++ rest) (j + n) 0 ≡ get_or (get_or l j 0 ∷ rest) n 0
  back-later n = rw back-word (rw (length-take-le j l (omega arith)) at (get_or-append-add (take j l) (get_or l j 0 ∷ rest) n 0))
