-- The class of a path: the FNV-1a hash of its text in 32 bits, modulo 16.
use Rattle.std.specs.Prelude.{ℕ, ◌*◌, ◌%◌, ◌^◌, bit_xor, List, fold}

-- The hash of Fowler, Noll and Vo, variant 1a, of 32 bits: each byte is xored in, and then the hash is
-- multiplied by the FNV prime.
abbrev pub fnv1a : List ℕ → ℕ
fnv1a text = fold (λ hash b. (bit_xor hash b * 16777619) % 2 ^ 32) 2166136261 text

-- how many classes there are
abbrev pub class_count : ℕ
class_count = 16

-- the class of the path with this text
abbrev pub class_of : List ℕ → ℕ
class_of text = fnv1a text % class_count
