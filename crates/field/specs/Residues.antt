-- The numbers modulo p as a commutative ring, for every p above 0.
use Rattle.std.specs.Prelude.{ℕ, ◌<◌}
use Rattle.algebra.specs.Ring.{CommRing}
use Rattle.field.specs.Fp.{Fp, el, add, mul, neg}
use Rattle.field.specs.Elements.Fp.{Fp_set, Fp_add_assoc, Fp_add_comm, Fp_add_zero, Fp_add_neg, Fp_mul_assoc, Fp_mul_comm, Fp_mul_one, Fp_distrib}

abbrev pub Residues : (p : ℕ) → 0 < p → CommRing
Residues p positive =
    record {
      Car = Fp p;
      is_set = Fp_set p;
      𝟘 = el p 0;
      𝟙 = el p 1;
      add = add;
      mul = mul;
      neg = neg;
      add_assoc = Fp_add_assoc;
      add_comm = Fp_add_comm;
      add_zero = Fp_add_zero;
      add_neg = Fp_add_neg positive;
      mul_assoc = Fp_mul_assoc;
      mul_comm = Fp_mul_comm;
      mul_one = Fp_mul_one;
      distrib = Fp_distrib;
    }
