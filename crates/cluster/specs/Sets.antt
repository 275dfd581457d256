-- Sets of servers as masks, which servers vote, and majorities, as 01 and [11] have them. Assumes nothing.
use Rattle.std.specs.Prelude.{Bool, not, ◌&&◌, ◌||◌, ℕ, ◌/◌, ◌%◌, ◌^◌, ◌*◌, eqb, ltb}
use Rattle.base.specs.Numbers.{every, count}

-- in a set, bit i is server i
unfoldable pub member : ℕ → ℕ → Bool
member m i = eqb (m / 2 ^ i % 2) 1

-- a mask has eight bits
abbrev pub bits : ℕ
bits = 8

-- the number of members
abbrev pub members_of : ℕ → ℕ
members_of m = count bits (member m)

-- every member is below n
unfoldable pub is_within : ℕ → ℕ → Bool
is_within m n = every bits (λ i. not (member m i) || ltb i n)

-- no member is a follower
unfoldable pub is_apart : ℕ → ℕ → Bool
is_apart m f = every bits (λ i. not (member m i && member f i))

-- a server votes unless it is a follower
abbrev pub votes : ℕ → ℕ → Bool
votes f i = not (member f i)

-- how many of the first n servers vote, and how many of those pass
abbrev pub voters : ℕ → ℕ → ℕ
voters n f = count n (votes f)

abbrev pub voters_with : ℕ → ℕ → (ℕ → Bool) → ℕ
voters_with n f p = count n (λ i. votes f i && p i)

-- k of v voting servers are a majority: twice their number exceeds the number of voters
abbrev pub most_of : ℕ → ℕ → Bool
most_of v k = ltb v (k * 2)

abbrev pub is_majority : ℕ → ℕ → Bool
is_majority m v = most_of v (members_of m)
