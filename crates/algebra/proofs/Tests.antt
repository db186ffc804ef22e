-- Tests that the checker computes on given numbers, for worked examples: the same polynomial, a list of words, a list through values.
use mathlib.Core.Path.{◌≡◌, refl}
use mathlib.Core.Bool.{Bool, true, ◌&&◌}
use mathlib.Core.List.{List, [], ◌∷◌}
use Prim.Native.Nat.{ℕ, zero, suc, ◌%◌}
use lib.Dec.{T, ltb, eqb, ltb→lt, eqb→eq}
use lib.ListN.{length, get_or}
use Rattle.algebra.specs.Congruence.{◌≈⟨◌⟩◌}
use Rattle.algebra.specs.Polynomial.{Words, value, ◌≋⟨◌⟩◌}
use Rattle.algebra.specs.Points.{Through}
use Rattle.algebra.proofs.Every.{both, every, at}

abbrev pub congruent : ℕ → ℕ → ℕ → Bool
congruent p a b = eqb (a % p) (b % p)

pub congruent_numbers : (p a b : ℕ) → T (congruent p a b) → a ≈⟨ p ⟩ b
congruent_numbers p a b t = record { same = eqb→eq (a % p) (b % p) t }

abbrev pub same_polynomial : ℕ → List ℕ → List ℕ → Bool
same_polynomial p [] [] = true
same_polynomial p [] (b ∷ g) = congruent p 0 b && same_polynomial p [] g
same_polynomial p (a ∷ f) [] = congruent p a 0 && same_polynomial p f []
same_polynomial p (a ∷ f) (b ∷ g) = congruent p a b && same_polynomial p f g

coefficients : (p : ℕ) (f g : List ℕ) → T (same_polynomial p f g) → (k : ℕ) → get_or f k 0 ≈⟨ p ⟩ get_or g k 0
coefficients p [] [] t k = record { same = refl }
coefficients p [] (b ∷ g) t zero = congruent_numbers p 0 b (both (congruent p 0 b) _ t).0
coefficients p [] (b ∷ g) t (suc k) = coefficients p [] g (both (congruent p 0 b) _ t).1 k
coefficients p (a ∷ f) [] t zero = congruent_numbers p a 0 (both (congruent p a 0) _ t).0
coefficients p (a ∷ f) [] t (suc k) = coefficients p f [] (both (congruent p a 0) _ t).1 k
coefficients p (a ∷ f) (b ∷ g) t zero = congruent_numbers p a b (both (congruent p a b) _ t).0
coefficients p (a ∷ f) (b ∷ g) t (suc k) = coefficients p f g (both (congruent p a b) _ t).1 k

pub same_polynomial_lem : (p : ℕ) (f g : List ℕ) → T (same_polynomial p f g) → f ≋⟨ p ⟩ g
same_polynomial_lem p f g t = record { coefficient = coefficients p f g t }

abbrev pub all_words : ℕ → List ℕ → Bool
all_words p f = every (λ i a. ltb a p) f

pub all_words_lem : (p : ℕ) (f : List ℕ) → T (all_words p f) → Words p f
all_words_lem p f t = record { below = λ i l. ltb→lt (get_or f i 0) p (at (λ i a. ltb a p) f t i l) }

abbrev pub takes_all : ℕ → List ℕ → (ℕ → ℕ) → List ℕ → Bool
takes_all p xs y f = every (λ i x. congruent p (value f x) (y i)) xs

pub through-values : (p : ℕ) (xs : List ℕ) (y : ℕ → ℕ) (f : List ℕ) → length f ≡ length xs → T (all_words p f) → T (takes_all p xs y f) →
    Through p xs y f
through-values p xs y f size words takes = record {
  size = size;
  words = all_words_lem p f words;
  takes = λ i l. congruent_numbers p (value f (get_or xs i 0)) (y i) (at (λ i x. congruent p (value f x) (y i)) xs takes i l);
}
