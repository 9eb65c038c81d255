-- The 16 bytes of a number of 128 bits, the highest first: what is written is read, and what is read is written again.
use Rattle.std.proofs.Common.{◌≡◌, ℕ, ◌+◌, ◌*◌, ◌/◌, ◌%◌, ◌^◌, ◌<◌, List, [], ◌∷◌, length, get_or, refl, ap, ◌∙◌, arith}
use Rattle.std.proofs.Math.Nat.{div-div-eq-div-mul}
use Rattle.std.proofs.lemmas.Nat.{div-mul-add, mod-mul-add}
use Rattle.std.specs.Int.{w128, to_be_bytes, from_be_bytes}

-- ---- what is written is read

byte_and_rest : (n p : ℕ) → n / p ≡ n / p % 256 + n / (p * 256) * 256
byte_and_rest n p = omega (arith, div-div-eq-div-mul n p 256)

joined : (a0 a1 a2 a3 a4 a5 a6 a7 a8 a9 a10 a11 a12 a13 a14 a15 n p1 p2 p3 p4 p5 p6 p7 p8 p9 p10 p11 p12 p13 p14 p15 : ℕ) → n ≡ a0 + p1 * 256 → p1 ≡ a1 + p2 * 256 → p2 ≡ a2 + p3 * 256 → p3 ≡ a3 + p4 * 256 → p4 ≡ a4 + p5 * 256 → p5 ≡ a5 + p6 * 256 → p6 ≡ a6 + p7 * 256 → p7 ≡ a7 + p8 * 256 → p8 ≡ a8 + p9 * 256 → p9 ≡ a9 + p10 * 256 → p10 ≡ a10 + p11 * 256 → p11 ≡ a11 + p12 * 256 → p12 ≡ a12 + p13 * 256 → p13 ≡ a13 + p14 * 256 → p14 ≡ a14 + p15 * 256 → p15 ≡ a15
    → a15 * 1329227995784915872903807060280344576 + a14 * 5192296858534827628530496329220096 + a13 * 20282409603651670423947251286016 + a12 * 79228162514264337593543950336 + a11 * 309485009821345068724781056 + a10 * 1208925819614629174706176 + a9 * 4722366482869645213696 + a8 * 18446744073709551616 + a7 * 72057594037927936 + a6 * 281474976710656 + a5 * 1099511627776 + a4 * 4294967296 + a3 * 16777216 + a2 * 65536 + a1 * 256 + a0 ≡ n
joined a0 a1 a2 a3 a4 a5 a6 a7 a8 a9 a10 a11 a12 a13 a14 a15 n p1 p2 p3 p4 p5 p6 p7 p8 p9 p10 p11 p12 p13 p14 p15 at_0 at_1 at_2 at_3 at_4 at_5 at_6 at_7 at_8 at_9 at_10 at_11 at_12 at_13 at_14 at_15 = omega arith

pub sixteen_read : (n : ℕ) → n < 2 ^ 128 → from_be_bytes w128 (to_be_bytes w128 n) ≡ n
sixteen_read n fits =
    let low : n ≡ n % 256 + n / 256 * 256 = omega arith in
    let high : n / 1329227995784915872903807060280344576 ≡ n / 1329227995784915872903807060280344576 % 256 = omega arith in
    joined _ _ _ _ _ _ _ _ _ _ _ _ _ _ _ _ n _ _ _ _ _ _ _ _ _ _ _ _ _ _ _ low (byte_and_rest n 256) (byte_and_rest n 65536) (byte_and_rest n 16777216) (byte_and_rest n 4294967296) (byte_and_rest n 1099511627776) (byte_and_rest n 281474976710656) (byte_and_rest n 72057594037927936) (byte_and_rest n 18446744073709551616) (byte_and_rest n 4722366482869645213696) (byte_and_rest n 1208925819614629174706176) (byte_and_rest n 309485009821345068724781056) (byte_and_rest n 79228162514264337593543950336) (byte_and_rest n 20282409603651670423947251286016) (byte_and_rest n 5192296858534827628530496329220096) high

-- ---- what is read is written again

place_is : (low p b rest n : ℕ) → n ≡ (rest * 256 + b) * p + low → b < 256 → low < p → n / p % 256 ≡ b
place_is low p b rest n is small less = ap (λ (m : ℕ). m / p % 256) is ∙ ap (λ (m : ℕ). m % 256) (div-mul-add (rest * 256 + b) p low less) ∙ mod-mul-add rest 256 b small

sixteen : (a0 a1 a2 a3 a4 a5 a6 a7 a8 a9 a10 a11 a12 a13 a14 a15 n : ℕ) → a0 < 256 → a1 < 256 → a2 < 256 → a3 < 256 → a4 < 256 → a5 < 256 → a6 < 256 → a7 < 256 → a8 < 256 → a9 < 256 → a10 < 256 → a11 < 256 → a12 < 256 → a13 < 256 → a14 < 256 → a15 < 256
    → n ≡ a15 * 1329227995784915872903807060280344576 + a14 * 5192296858534827628530496329220096 + a13 * 20282409603651670423947251286016 + a12 * 79228162514264337593543950336 + a11 * 309485009821345068724781056 + a10 * 1208925819614629174706176 + a9 * 4722366482869645213696 + a8 * 18446744073709551616 + a7 * 72057594037927936 + a6 * 281474976710656 + a5 * 1099511627776 + a4 * 4294967296 + a3 * 16777216 + a2 * 65536 + a1 * 256 + a0
    → to_be_bytes w128 n ≡ a15 ∷ a14 ∷ a13 ∷ a12 ∷ a11 ∷ a10 ∷ a9 ∷ a8 ∷ a7 ∷ a6 ∷ a5 ∷ a4 ∷ a3 ∷ a2 ∷ a1 ∷ a0 ∷ []
sixteen a0 a1 a2 a3 a4 a5 a6 a7 a8 a9 a10 a11 a12 a13 a14 a15 n s0 s1 s2 s3 s4 s5 s6 s7 s8 s9 s10 s11 s12 s13 s14 s15 is =
    let at_0 : n % 256 ≡ a0 = ap (λ (m : ℕ). m % 256) (let split : n ≡ (a1 + a2 * 256 + a3 * 65536 + a4 * 16777216 + a5 * 4294967296 + a6 * 1099511627776 + a7 * 281474976710656 + a8 * 72057594037927936 + a9 * 18446744073709551616 + a10 * 4722366482869645213696 + a11 * 1208925819614629174706176 + a12 * 309485009821345068724781056 + a13 * 79228162514264337593543950336 + a14 * 20282409603651670423947251286016 + a15 * 5192296858534827628530496329220096) * 256 + a0 = omega arith in split) ∙ mod-mul-add (a1 + a2 * 256 + a3 * 65536 + a4 * 16777216 + a5 * 4294967296 + a6 * 1099511627776 + a7 * 281474976710656 + a8 * 72057594037927936 + a9 * 18446744073709551616 + a10 * 4722366482869645213696 + a11 * 1208925819614629174706176 + a12 * 309485009821345068724781056 + a13 * 79228162514264337593543950336 + a14 * 20282409603651670423947251286016 + a15 * 5192296858534827628530496329220096) 256 a0 s0 in
    let at_1 = place_is (a0) 256 a1 (a2 + a3 * 256 + a4 * 65536 + a5 * 16777216 + a6 * 4294967296 + a7 * 1099511627776 + a8 * 281474976710656 + a9 * 72057594037927936 + a10 * 18446744073709551616 + a11 * 4722366482869645213696 + a12 * 1208925819614629174706176 + a13 * 309485009821345068724781056 + a14 * 79228162514264337593543950336 + a15 * 20282409603651670423947251286016) n (omega arith) s1 (omega arith) in
    let at_2 = place_is (a0 + a1 * 256) 65536 a2 (a3 + a4 * 256 + a5 * 65536 + a6 * 16777216 + a7 * 4294967296 + a8 * 1099511627776 + a9 * 281474976710656 + a10 * 72057594037927936 + a11 * 18446744073709551616 + a12 * 4722366482869645213696 + a13 * 1208925819614629174706176 + a14 * 309485009821345068724781056 + a15 * 79228162514264337593543950336) n (omega arith) s2 (omega arith) in
    let at_3 = place_is (a0 + a1 * 256 + a2 * 65536) 16777216 a3 (a4 + a5 * 256 + a6 * 65536 + a7 * 16777216 + a8 * 4294967296 + a9 * 1099511627776 + a10 * 281474976710656 + a11 * 72057594037927936 + a12 * 18446744073709551616 + a13 * 4722366482869645213696 + a14 * 1208925819614629174706176 + a15 * 309485009821345068724781056) n (omega arith) s3 (omega arith) in
    let at_4 = place_is (a0 + a1 * 256 + a2 * 65536 + a3 * 16777216) 4294967296 a4 (a5 + a6 * 256 + a7 * 65536 + a8 * 16777216 + a9 * 4294967296 + a10 * 1099511627776 + a11 * 281474976710656 + a12 * 72057594037927936 + a13 * 18446744073709551616 + a14 * 4722366482869645213696 + a15 * 1208925819614629174706176) n (omega arith) s4 (omega arith) in
    let at_5 = place_is (a0 + a1 * 256 + a2 * 65536 + a3 * 16777216 + a4 * 4294967296) 1099511627776 a5 (a6 + a7 * 256 + a8 * 65536 + a9 * 16777216 + a10 * 4294967296 + a11 * 1099511627776 + a12 * 281474976710656 + a13 * 72057594037927936 + a14 * 18446744073709551616 + a15 * 4722366482869645213696) n (omega arith) s5 (omega arith) in
    let at_6 = place_is (a0 + a1 * 256 + a2 * 65536 + a3 * 16777216 + a4 * 4294967296 + a5 * 1099511627776) 281474976710656 a6 (a7 + a8 * 256 + a9 * 65536 + a10 * 16777216 + a11 * 4294967296 + a12 * 1099511627776 + a13 * 281474976710656 + a14 * 72057594037927936 + a15 * 18446744073709551616) n (omega arith) s6 (omega arith) in
    let at_7 = place_is (a0 + a1 * 256 + a2 * 65536 + a3 * 16777216 + a4 * 4294967296 + a5 * 1099511627776 + a6 * 281474976710656) 72057594037927936 a7 (a8 + a9 * 256 + a10 * 65536 + a11 * 16777216 + a12 * 4294967296 + a13 * 1099511627776 + a14 * 281474976710656 + a15 * 72057594037927936) n (omega arith) s7 (omega arith) in
    let at_8 = place_is (a0 + a1 * 256 + a2 * 65536 + a3 * 16777216 + a4 * 4294967296 + a5 * 1099511627776 + a6 * 281474976710656 + a7 * 72057594037927936) 18446744073709551616 a8 (a9 + a10 * 256 + a11 * 65536 + a12 * 16777216 + a13 * 4294967296 + a14 * 1099511627776 + a15 * 281474976710656) n (omega arith) s8 (omega arith) in
    let at_9 = place_is (a0 + a1 * 256 + a2 * 65536 + a3 * 16777216 + a4 * 4294967296 + a5 * 1099511627776 + a6 * 281474976710656 + a7 * 72057594037927936 + a8 * 18446744073709551616) 4722366482869645213696 a9 (a10 + a11 * 256 + a12 * 65536 + a13 * 16777216 + a14 * 4294967296 + a15 * 1099511627776) n (omega arith) s9 (omega arith) in
    let at_10 = place_is (a0 + a1 * 256 + a2 * 65536 + a3 * 16777216 + a4 * 4294967296 + a5 * 1099511627776 + a6 * 281474976710656 + a7 * 72057594037927936 + a8 * 18446744073709551616 + a9 * 4722366482869645213696) 1208925819614629174706176 a10 (a11 + a12 * 256 + a13 * 65536 + a14 * 16777216 + a15 * 4294967296) n (omega arith) s10 (omega arith) in
    let at_11 = place_is (a0 + a1 * 256 + a2 * 65536 + a3 * 16777216 + a4 * 4294967296 + a5 * 1099511627776 + a6 * 281474976710656 + a7 * 72057594037927936 + a8 * 18446744073709551616 + a9 * 4722366482869645213696 + a10 * 1208925819614629174706176) 309485009821345068724781056 a11 (a12 + a13 * 256 + a14 * 65536 + a15 * 16777216) n (omega arith) s11 (omega arith) in
    let at_12 = place_is (a0 + a1 * 256 + a2 * 65536 + a3 * 16777216 + a4 * 4294967296 + a5 * 1099511627776 + a6 * 281474976710656 + a7 * 72057594037927936 + a8 * 18446744073709551616 + a9 * 4722366482869645213696 + a10 * 1208925819614629174706176 + a11 * 309485009821345068724781056) 79228162514264337593543950336 a12 (a13 + a14 * 256 + a15 * 65536) n (omega arith) s12 (omega arith) in
    let at_13 = place_is (a0 + a1 * 256 + a2 * 65536 + a3 * 16777216 + a4 * 4294967296 + a5 * 1099511627776 + a6 * 281474976710656 + a7 * 72057594037927936 + a8 * 18446744073709551616 + a9 * 4722366482869645213696 + a10 * 1208925819614629174706176 + a11 * 309485009821345068724781056 + a12 * 79228162514264337593543950336) 20282409603651670423947251286016 a13 (a14 + a15 * 256) n (omega arith) s13 (omega arith) in
    let at_14 = place_is (a0 + a1 * 256 + a2 * 65536 + a3 * 16777216 + a4 * 4294967296 + a5 * 1099511627776 + a6 * 281474976710656 + a7 * 72057594037927936 + a8 * 18446744073709551616 + a9 * 4722366482869645213696 + a10 * 1208925819614629174706176 + a11 * 309485009821345068724781056 + a12 * 79228162514264337593543950336 + a13 * 20282409603651670423947251286016) 5192296858534827628530496329220096 a14 (a15) n (omega arith) s14 (omega arith) in
    let at_15 = place_is (a0 + a1 * 256 + a2 * 65536 + a3 * 16777216 + a4 * 4294967296 + a5 * 1099511627776 + a6 * 281474976710656 + a7 * 72057594037927936 + a8 * 18446744073709551616 + a9 * 4722366482869645213696 + a10 * 1208925819614629174706176 + a11 * 309485009821345068724781056 + a12 * 79228162514264337593543950336 + a13 * 20282409603651670423947251286016 + a14 * 5192296858534827628530496329220096) 1329227995784915872903807060280344576 a15 (0) n (omega arith) s15 (omega arith) in
    λ i. at_15 i ∷ at_14 i ∷ at_13 i ∷ at_12 i ∷ at_11 i ∷ at_10 i ∷ at_9 i ∷ at_8 i ∷ at_7 i ∷ at_6 i ∷ at_5 i ∷ at_4 i ∷ at_3 i ∷ at_2 i ∷ at_1 i ∷ at_0 i ∷ []

listed : (bs : List ℕ) → length bs ≡ 16 → get_or bs 0 0 ∷ get_or bs 1 0 ∷ get_or bs 2 0 ∷ get_or bs 3 0 ∷ get_or bs 4 0 ∷ get_or bs 5 0 ∷ get_or bs 6 0 ∷ get_or bs 7 0 ∷ get_or bs 8 0 ∷ get_or bs 9 0 ∷ get_or bs 10 0 ∷ get_or bs 11 0 ∷ get_or bs 12 0 ∷ get_or bs 13 0 ∷ get_or bs 14 0 ∷ get_or bs 15 0 ∷ [] ≡ bs
listed [] l = absurd (omega arith)
listed (x0 ∷ []) l = absurd (omega arith)
listed (x0 ∷ x1 ∷ []) l = absurd (omega arith)
listed (x0 ∷ x1 ∷ x2 ∷ []) l = absurd (omega arith)
listed (x0 ∷ x1 ∷ x2 ∷ x3 ∷ []) l = absurd (omega arith)
listed (x0 ∷ x1 ∷ x2 ∷ x3 ∷ x4 ∷ []) l = absurd (omega arith)
listed (x0 ∷ x1 ∷ x2 ∷ x3 ∷ x4 ∷ x5 ∷ []) l = absurd (omega arith)
listed (x0 ∷ x1 ∷ x2 ∷ x3 ∷ x4 ∷ x5 ∷ x6 ∷ []) l = absurd (omega arith)
listed (x0 ∷ x1 ∷ x2 ∷ x3 ∷ x4 ∷ x5 ∷ x6 ∷ x7 ∷ []) l = absurd (omega arith)
listed (x0 ∷ x1 ∷ x2 ∷ x3 ∷ x4 ∷ x5 ∷ x6 ∷ x7 ∷ x8 ∷ []) l = absurd (omega arith)
listed (x0 ∷ x1 ∷ x2 ∷ x3 ∷ x4 ∷ x5 ∷ x6 ∷ x7 ∷ x8 ∷ x9 ∷ []) l = absurd (omega arith)
listed (x0 ∷ x1 ∷ x2 ∷ x3 ∷ x4 ∷ x5 ∷ x6 ∷ x7 ∷ x8 ∷ x9 ∷ x10 ∷ []) l = absurd (omega arith)
listed (x0 ∷ x1 ∷ x2 ∷ x3 ∷ x4 ∷ x5 ∷ x6 ∷ x7 ∷ x8 ∷ x9 ∷ x10 ∷ x11 ∷ []) l = absurd (omega arith)
listed (x0 ∷ x1 ∷ x2 ∷ x3 ∷ x4 ∷ x5 ∷ x6 ∷ x7 ∷ x8 ∷ x9 ∷ x10 ∷ x11 ∷ x12 ∷ []) l = absurd (omega arith)
listed (x0 ∷ x1 ∷ x2 ∷ x3 ∷ x4 ∷ x5 ∷ x6 ∷ x7 ∷ x8 ∷ x9 ∷ x10 ∷ x11 ∷ x12 ∷ x13 ∷ []) l = absurd (omega arith)
listed (x0 ∷ x1 ∷ x2 ∷ x3 ∷ x4 ∷ x5 ∷ x6 ∷ x7 ∷ x8 ∷ x9 ∷ x10 ∷ x11 ∷ x12 ∷ x13 ∷ x14 ∷ []) l = absurd (omega arith)
listed (x0 ∷ x1 ∷ x2 ∷ x3 ∷ x4 ∷ x5 ∷ x6 ∷ x7 ∷ x8 ∷ x9 ∷ x10 ∷ x11 ∷ x12 ∷ x13 ∷ x14 ∷ x15 ∷ []) l = refl
listed (x0 ∷ x1 ∷ x2 ∷ x3 ∷ x4 ∷ x5 ∷ x6 ∷ x7 ∷ x8 ∷ x9 ∷ x10 ∷ x11 ∷ x12 ∷ x13 ∷ x14 ∷ x15 ∷ y ∷ bs) l = absurd (omega arith)

pub sixteen_written : (bs : List ℕ) (n : ℕ) → length bs ≡ 16 → ((i : ℕ) → get_or bs i 0 < 256) → n ≡ from_be_bytes w128 bs → to_be_bytes w128 n ≡ bs
sixteen_written bs n long small is =
    sixteen (get_or bs 15 0) (get_or bs 14 0) (get_or bs 13 0) (get_or bs 12 0) (get_or bs 11 0) (get_or bs 10 0) (get_or bs 9 0) (get_or bs 8 0) (get_or bs 7 0) (get_or bs 6 0) (get_or bs 5 0) (get_or bs 4 0) (get_or bs 3 0) (get_or bs 2 0) (get_or bs 1 0) (get_or bs 0 0) n (small 15) (small 14) (small 13) (small 12) (small 11) (small 10) (small 9) (small 8) (small 7) (small 6) (small 5) (small 4) (small 3) (small 2) (small 1) (small 0) (omega (arith, is)) ∙ listed bs long

pub sixteen_below : (bs : List ℕ) → ((i : ℕ) → get_or bs i 0 < 256) → from_be_bytes w128 bs < 2 ^ 128
sixteen_below bs small = omega (arith, small 0, small 1, small 2, small 3, small 4, small 5, small 6, small 7, small 8, small 9, small 10, small 11, small 12, small 13, small 14, small 15)
