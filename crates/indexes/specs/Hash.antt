-- The bucket of a signature: its numbers are hashed one after another, and ten bits of the hash pick one of 1,024 buckets. Assumes nothing.
use Rattle.std.specs.Prelude.{ℕ, ◌+◌, ◌*◌, ◌/◌, ◌%◌, ◌^◌, List, ◌∷◌, fold, bit_xor}

-- a number of 32 bits, with its upper 17 bits laid over its lower ones
abbrev pub crossed : ℕ → ℕ
crossed m = bit_xor m (m / 2 ^ 15)

-- the hash once one number more has gone in
abbrev pub stirred : ℕ → ℕ → ℕ
stirred h x = crossed (bit_xor h x * 2654435761 % 2 ^ 32)

-- the bucket of the signature o w, from 1 to 1,024
unfoldable pub bucket_of_signature : ℕ → List ℕ → ℕ
bucket_of_signature o w = fold stirred 0 (o ∷ w) / 2 ^ 22 % 1024 + 1
