-- HMAC-SHA256 (RFC 2104) on lists of bytes.
use Rattle.std.specs.Prelude.{ℕ, ◌-◌, List, ◌++◌, length, map, replicate, nat_le, if◌then◌else◌, bit_xor}
use Rattle.sha2.specs.Sha256.{sha256}

-- the key of a block's 64 bytes: one that is longer is hashed first, and zeros follow
abbrev pub block_key : List ℕ → List ℕ
block_key key = let short = (if nat_le (length key) 64 then key else sha256 key) in short ++ replicate (64 - length short) 0

-- each byte xor the pad
abbrev pub xor_pad : ℕ → List ℕ → List ℕ
xor_pad pad bytes = map (λ byte. bit_xor byte pad) bytes

-- the HMAC of a message under a key
unfoldable pub hmac_of : List ℕ → List ℕ → List ℕ
hmac_of key message = sha256 (xor_pad 0x5c (block_key key) ++ sha256 (xor_pad 0x36 (block_key key) ++ message))
