-- The numbers modulo p as a field, for every prime p.
use Rattle.std.specs.Prelude.{ℕ}
use Rattle.algebra.specs.Field.{Field}
use Rattle.field.specs.Prime.{Prime}
use Rattle.field.specs.Modulus.Prime.{prime_positive}
use Rattle.field.specs.Fp.{el, inv}
use Rattle.field.specs.Elements.Fp.{Fp_discrete}
use Rattle.field.specs.Residues.{Residues}
use Rattle.field.specs.Elements.Inverse.{mul_inv, one≢zero}

abbrev pub Modulo : (p : ℕ) → Prime p → Field
Modulo p P =
    record {
      ring = Residues p (prime_positive P);
      inv = inv;
      mul_inv = mul_inv P;
      one≢0 = one≢zero P.above;
      decide = λ a. Fp_discrete p a (el p 0);
    }
