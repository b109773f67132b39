-- How a session's name lies in 32 bytes. This project's own.
use Rattle.std.specs.Prelude.{◌≡◌, ℕ, ◌-◌, ◌≤◌, List, ◌++◌, length, take, replicate, IsTrue}
use Rattle.mls_server.specs.SessionNames.{is_session_name}

-- the word, and zeros after it
abbrev pub padded_name : List ℕ → List ℕ
padded_name word = word ++ replicate (32 - length word) 0

-- the bytes begin with a name of this length, and have zeros after it
pub record HoldsName (bytes : List ℕ) (len : ℕ) : Type 0 where
  pub name : IsTrue (is_session_name (take len bytes))
  pub within : len ≤ 32
  pub taken : length (take len bytes) ≡ len
  pub zeros : padded_name (take len bytes) ≡ bytes
