-- Fields of a word: `|` of a shifted number and one below the shift adds, at any width; so four exponents make the key.
use mathlib.Core.Path.{◌≡◌, refl}
use Prim.Native.Nat.{ℕ, ◌+◌, ◌*◌, ◌%◌, ◌^◌, ◌<◌}
use native.Mathlib.Omega.{arith}
use lib.Dec.{lit≤}
use lib.Bits.{bit_or, or_shifted}
use lib.Pow.{shl_exact}
use Rattle.poly.specs.Key.Model.{Packable}

-- n holds nothing below bit k, and m nothing from it on
pub join : (k q : ℕ) {n m : ℕ} → n ≡ q * 2 ^ k → m < 2 ^ k → bit_or n m ≡ n + m
join k q {n} {m} e h = rw e (or_shifted q k m h)

pub keyed : (x y z w : ℕ) → Packable x y z w
    → bit_or (bit_or (bit_or ((x * 2 ^ 9) % 2 ^ 16) ((y * 2 ^ 6) % 2 ^ 16)) ((z * 2 ^ 3) % 2 ^ 16)) w ≡ 512 * x + 64 * y + 8 * z + w
keyed x y z w h =
    let px : (x * 2 ^ 9) % 2 ^ 16 ≡ x * 2 ^ 9 = shl_exact 3 9 16 (omega arith) (lit≤ tt) in
    let py : (y * 2 ^ 6) % 2 ^ 16 ≡ y * 2 ^ 6 = shl_exact 3 6 16 (omega arith) (lit≤ tt) in
    let pz : (z * 2 ^ 3) % 2 ^ 16 ≡ z * 2 ^ 3 = shl_exact 3 3 16 (omega arith) (lit≤ tt) in
    let xy : bit_or (x * 2 ^ 9) (y * 2 ^ 6) ≡ x * 2 ^ 9 + y * 2 ^ 6 = join 9 x refl (omega arith) in
    let xyz : bit_or (x * 2 ^ 9 + y * 2 ^ 6) (z * 2 ^ 3) ≡ x * 2 ^ 9 + y * 2 ^ 6 + z * 2 ^ 3 = join 6 (8 * x + y) (omega arith) (omega arith) in
    let xyzw : bit_or (x * 2 ^ 9 + y * 2 ^ 6 + z * 2 ^ 3) w ≡ x * 2 ^ 9 + y * 2 ^ 6 + z * 2 ^ 3 + w = join 3 (64 * x + 8 * y + z) (omega arith) (omega arith) in
    rw (px, py, pz, xy, xyz, xyzw) (omega arith)
