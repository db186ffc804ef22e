-- The laws of polynomials as lists, exact in ℕ: lengths, coefficients and values of sum, multiple and product.
use mathlib.Core.Path.{◌≡◌, refl, sym, ◌∙◌, ap}
use mathlib.Core.List.{List, [], ◌∷◌}
use Prim.Native.Nat.{ℕ, zero, suc, ◌+◌, ◌*◌, ◌%◌, ◌≤◌, ◌<◌, max}
use native.Mathlib.Nat.{zero-mod, suc-max-suc, zero-max, max-zero}
use native.Mathlib.Omega.{arith}
use lib.ListN.{length, get_or}
use Rattle.algebra.specs.Polynomial.{value, sum, multiple, product, reduced}

pub sum-nil : (f : List ℕ) → sum f [] ≡ f
unfolding sum
sum-nil [] = refl
sum-nil (a ∷ f) = refl

pub length-sum : (f g : List ℕ) → length (sum f g) ≡ max (length f) (length g)
unfolding sum
length-sum [] g = sym (zero-max (length g))
length-sum (a ∷ f) [] = sym (max-zero (suc (length f)))
length-sum (a ∷ f) (b ∷ g) = ap suc (length-sum f g) ∙ sym (suc-max-suc (length f) (length g))

pub length-multiple : (k : ℕ) (f : List ℕ) → length (multiple k f) ≡ length f
unfolding multiple
length-multiple k [] = refl
length-multiple k (a ∷ f) = ap suc (length-multiple k f)

length-step : (a : ℕ) (f g : List ℕ) → length (product (a ∷ f) g) ≡ max (length g) (suc (length (product f g)))
unfolding product
length-step a f g = simp (length-sum, length-multiple)

pub length-product : (f g : List ℕ) → 0 < length f → 0 < length g → suc (length (product f g)) ≡ length f + length g
unfolding product
length-product (a ∷ []) g hf hg = omega (arith, length-step a [] g)
length-product (a ∷ b ∷ f) g hf hg = omega (arith, length-step a (b ∷ f) g, length-product (b ∷ f) g (omega arith) hg)
length-product [] g hf hg = absurd (omega arith)

-- and at most as many where one of them is empty
pub length-product_most : (f g : List ℕ) → length (product f g) ≤ length f + length g
unfolding product
length-product_most [] g = omega arith
length-product_most (a ∷ []) g = omega (arith, length-step a [] g)
length-product_most (a ∷ b ∷ f) g = omega (arith, length-step a (b ∷ f) g, length-product_most (b ∷ f) g)

pub length-reduced : (p : ℕ) (f : List ℕ) → length (reduced p f) ≡ length f
unfolding reduced
length-reduced p [] = refl
length-reduced p (a ∷ f) = ap suc (length-reduced p f)

pub coefficient-sum : (f g : List ℕ) (k : ℕ) → get_or (sum f g) k 0 ≡ get_or f k 0 + get_or g k 0
unfolding sum
coefficient-sum [] g k = omega arith
coefficient-sum (a ∷ f) [] k = omega arith
coefficient-sum (a ∷ f) (b ∷ g) zero = refl
coefficient-sum (a ∷ f) (b ∷ g) (suc k) = coefficient-sum f g k

pub coefficient-multiple : (c : ℕ) (f : List ℕ) (k : ℕ) → get_or (multiple c f) k 0 ≡ c * get_or f k 0
unfolding multiple
coefficient-multiple c [] k = omega arith
coefficient-multiple c (a ∷ f) zero = refl
coefficient-multiple c (a ∷ f) (suc k) = coefficient-multiple c f k

-- the sum of a i times b (k − i) for i from 0 to k
pub convolution : (ℕ → ℕ) → (ℕ → ℕ) → ℕ → ℕ
convolution a b zero = a 0 * b 0
convolution a b (suc k) = a 0 * b (suc k) + convolution (λ i. a (suc i)) b k

convolution-zero : (b : ℕ → ℕ) (k : ℕ) → convolution (λ i. 0) b k ≡ 0
unfolding convolution
convolution-zero b zero = omega arith
convolution-zero b (suc k) = omega (arith, convolution-zero b k)

pub coefficient-product : (f g : List ℕ) (k : ℕ) → get_or (product f g) k 0 ≡ convolution (λ i. get_or f i 0) (λ i. get_or g i 0) k
unfolding product convolution
coefficient-product [] g k = sym (convolution-zero (λ i. get_or g i 0) k)
coefficient-product (a ∷ f) g zero = simp (coefficient-sum, coefficient-multiple) (omega arith)
coefficient-product (a ∷ f) g (suc k) = simp (coefficient-sum, coefficient-multiple) (omega (arith, coefficient-product f g k))

-- times X + c
pub coefficient-factor : (c : ℕ) (g : List ℕ) (k : ℕ) → get_or (product (c ∷ 1 ∷ []) g) (suc k) 0 ≡ c * get_or g (suc k) 0 + get_or g k 0
unfolding product
coefficient-factor c g k = simp (coefficient-sum, coefficient-multiple) (omega (arith, none k))
  where
    none : (k : ℕ) → ◌≡◌ {A = ℕ} (get_or (0 ∷ []) k 0) 0
    none zero = refl
    none (suc k) = refl

pub coefficient-reduced : (p : ℕ) (f : List ℕ) (k : ℕ) → get_or (reduced p f) k 0 ≡ get_or f k 0 % p
unfolding reduced
coefficient-reduced p [] k = sym (zero-mod p)
coefficient-reduced p (a ∷ f) zero = refl
coefficient-reduced p (a ∷ f) (suc k) = coefficient-reduced p f k

pub value-sum : (f g : List ℕ) (s : ℕ) → value (sum f g) s ≡ value f s + value g s
unfolding sum value
value-sum [] g s = omega arith
value-sum (a ∷ f) [] s = omega arith
value-sum (a ∷ f) (b ∷ g) s = omega (arith, ap (λ (x : ℕ). s * x) (value-sum f g s))

pub value-multiple : (k : ℕ) (f : List ℕ) (s : ℕ) → value (multiple k f) s ≡ k * value f s
unfolding multiple value
value-multiple k [] s = omega arith
value-multiple k (a ∷ f) s = omega (arith, ap (λ (x : ℕ). s * x) (value-multiple k f s))

pub value-product : (f g : List ℕ) (s : ℕ) → value (product f g) s ≡ value f s * value g s
unfolding product value
value-product [] g s = omega arith
value-product (a ∷ f) g s = simp (value-sum, value-multiple) (omega (arith, ap (λ (x : ℕ). s * x) (value-product f g s)))

-- a constant
pub value-one : (d s : ℕ) → value (d ∷ []) s ≡ d
unfolding value
value-one d s = omega arith
