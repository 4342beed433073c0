-- Random streams. A stream is the sequence of 32-bit words that ChaCha20 gives for a key of 32 bytes, the seed, and a
-- 64-bit stream number. Torus word i of a stream is word 2i plus 2 ^ 32 times word 2i + 1. A stream has 2 ^ 67 of them,
-- and then begins again.
use Rattle.std.specs.Prelude.{ℕ, ◌+◌, ◌*◌, ◌/◌, ◌%◌, ◌^◌, List, ℤ, pos, ◌-ℤ◌}
use Rattle.rand_chacha.specs.ChaCha.{word_at, key_of}

-- what a contract sees of a stream: the eight words of its key, its number, and the number of the next torus word
pub record Draws : Type 0 where
  pub key : List ℕ
  pub number : ℕ
  pub next : ℕ

-- torus word i under the words of a key
unfoldable pub torus_at : List ℕ → ℕ → ℕ → ℕ
torus_at key number i = word_at 10 key number (2 * i) + 2 ^ 32 * word_at 10 key number (2 * i + 1)

-- torus word i of a stream of a seed
abbrev pub torus_word : List ℕ → ℕ → ℕ → ℕ
torus_word seed number i = torus_at (key_of seed) number i

-- the stream of a seed, with nothing drawn
abbrev pub stream_of : List ℕ → ℕ → Draws
stream_of seed n = record { key = key_of seed; number = n; next = 0 }

-- the torus word that draw i from here gives
abbrev pub draw : Draws → ℕ → ℕ
draw s i = torus_at s.key s.number ((s.next + i) % 2 ^ 67)

-- the stream after that many draws
abbrev pub drawn_by : ℕ → Draws → Draws
drawn_by count s = record s { next = (s.next + count) % 2 ^ 67 }

-- the number that a torus word gives for a bound b: of its low b + 2 bits r, half of r + 1, less 2 ^ b
unfoldable pub uniform : ℕ → ℕ → ℤ
uniform b w = pos ((w % 2 ^ (b + 2) + 1) / 2) -ℤ pos (2 ^ b)
