-- Bytes laid into a lent buffer.
use Rattle.std.specs.Prelude.{◌≡◌, List, ◌++◌, ℕ, ◌+◌, length, take, drop}

-- the buffer with these bytes from an index on, "the rest untouched"
unfoldable pub written : ℕ → List ℕ → List ℕ → List ℕ
written at bytes buffer = take at buffer ++ (bytes ++ drop (at + length bytes) buffer)

-- the buffer before and after such a write, and the index behind it
pub record Put (at : ℕ) (bytes before after : List ℕ) (next : ℕ) : Type 0 where
  pub behind : next ≡ at + length bytes
  pub stored : after ≡ written at bytes before
