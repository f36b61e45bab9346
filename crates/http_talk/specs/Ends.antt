-- Where the head of a request ends (RFC 9112, sections 2.1 and 2.2). A line ends in LF; an empty line is LF or CR LF.
use Rattle.std.specs.Prelude.{◌≡◌, ℕ, ◌<◌, ◌≤◌, Bool, true, false, ◌&&◌, ◌||◌, ◌==◌, if◌then◌else◌, List, [], ◌∷◌, length, take, reverse, count_by}

-- the bytes begin with LF
abbrev pub begins_feed : List ℕ → Bool
begins_feed [] = false
begins_feed (byte ∷ bytes) = byte == 10

-- the bytes begin with LF, or with CR LF
abbrev pub begins_empty : List ℕ → Bool
begins_empty [] = false
begins_empty (byte ∷ bytes) = byte == 10 || (byte == 13 && begins_feed bytes)

-- the bytes without the empty lines at their front
abbrev pub skip_empty : List ℕ → List ℕ
skip_empty [] = []
skip_empty (byte ∷ bytes) = if begins_empty (byte ∷ bytes) then skip_empty bytes else byte ∷ bytes

-- bytes, read from the last one back, that end with an empty line after another line
abbrev pub is_end : List ℕ → Bool
is_end [] = false
is_end (byte ∷ bytes) = byte == 10 && begins_empty bytes

-- the bytes, without the empty lines at their front, end with an empty line
abbrev pub ends_head : List ℕ → Bool
ends_head bytes = is_end (reverse (skip_empty bytes))

-- the head is the first so many bytes of the input: the shortest prefix of it that ends a head
pub record IsHeadLength (input : List ℕ) (count : ℕ) : Type 0 where
  pub within : count ≤ length input
  pub ends : ends_head (take count input) ≡ true
  pub shortest : (fewer : ℕ) → fewer < count → ends_head (take fewer input) ≡ false

-- the most bytes that a head may have, with the empty lines at its front
abbrev pub head_limit : ℕ
head_limit = 16384

-- no head ends in so many bytes
abbrev pub HasNoEnd : List ℕ → Type 0
HasNoEnd input = (count : ℕ) → count ≤ head_limit → ends_head (take count input) ≡ false

-- a head may still end, where more bytes come
pub record IsOpen (input : List ℕ) : Type 0 where
  pub none : HasNoEnd input
  pub short : length input < head_limit

-- the head is longer than it may be
pub record IsTooLong (input : List ℕ) : Type 0 where
  pub none : HasNoEnd input
  pub long : head_limit ≤ length input

-- how many lines a head has, without the empty ones at its front: the request line, the header lines and the empty line
abbrev pub line_count : List ℕ → ℕ
line_count head = count_by (λ byte. byte == 10) (skip_empty head)
