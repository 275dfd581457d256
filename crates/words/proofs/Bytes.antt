-- Laws of numbers of two bytes, and of a list of bytes by its elements. Assumes nothing.
use mathlib.Core.Path.{◌≡◌, refl, ap}
use mathlib.Core.List.{List, [], ◌∷◌}
use Prim.Native.Nat.{ℕ, zero, suc, ◌<◌, ◌≤◌}
use native.Mathlib.Omega.{arith}
use lib.ListN.{length}
use Rattle.clock.specs.Times.{limit}
use Rattle.base.specs.Numbers.{byte}
use Rattle.words.specs.Words.{high_of, low_of, word_of, byte_at}

pub high_word : (h l : ℕ) → l < byte → high_of (word_of h l) ≡ h
unfolding high_of word_of
high_word h l p = omega arith

pub low_word : (h l : ℕ) → l < byte → low_of (word_of h l) ≡ l
unfolding low_of word_of
low_word h l p = omega arith

pub word_parts : (n : ℕ) → word_of (high_of n) (low_of n) ≡ n
unfolding high_of low_of word_of
word_parts n = omega arith

pub high_below : (n : ℕ) → n ≤ limit → high_of n < byte
unfolding high_of
high_below n h = omega arith

pub low_below : (n : ℕ) → low_of n < byte
unfolding low_of
low_below n = omega arith

pub word_below : (h l : ℕ) → h < byte → l < byte → word_of h l ≤ limit
unfolding word_of
word_below h l p q = omega arith

-- the list of the first n values of f
abbrev pub list_of : ℕ → (ℕ → ℕ) → List ℕ
list_of zero f = []
list_of (suc n) f = f 0 ∷ list_of n (λ i. f (suc i))

pub listed : (n : ℕ) (bs : List ℕ) → length bs ≡ n → list_of n (byte_at bs) ≡ bs
listed zero [] e = refl
listed zero (b ∷ bs) e = absurd (omega arith)
listed (suc n) [] e = absurd (omega arith)
listed (suc n) (b ∷ bs) e = ap (λ (l : List ℕ). b ∷ l) (listed n bs (omega arith))

pub listed_same : (n : ℕ) (f g : ℕ → ℕ) → ((i : ℕ) → i < n → f i ≡ g i) → list_of n f ≡ list_of n g
listed_same zero f g h = refl
listed_same (suc n) f g h = cc (h 0 (omega arith), listed_same n (λ i. f (suc i)) (λ i. g (suc i)) (λ i l. h (suc i) (omega arith)))
