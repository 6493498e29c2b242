-- Series over a ring are a ring again; four-fold, the coefficient functions of polynomials in x, y, z, w.
use Rattle.std.proofs.Common.{◌∙◌}
use Rattle.std.proofs.Math.Path.{fun_ext}
use mathlib.Core.HLevel.{→_set}
use Rattle.algebra.specs.Ring.{CommRing}
use Rattle.algebra.specs.Series.{Seq, addS, negS, zeroS, constS, conv}
use Rattle.algebra.specs.Laws.Series.{conv_comm, conv_dist, conv_assoc, conv_const}

module _ (R : CommRing) where
  open R use {𝟙}

  -- the ring of series: 0, 1, sum, product and opposite, then its laws
  abbrev pub SeriesR : CommRing
  SeriesR = record {
    Car = Seq R;
    is_set = →_set R.is_set;
    𝟘 = zeroS R;
    𝟙 = constS R 𝟙;
    add = addS R;
    mul = conv R;
    neg = negS R;
    add_assoc = λ f g h. fun_ext λ n. R.add_assoc _ _ _;
    add_comm = λ f g. fun_ext λ n. R.add_comm _ _;
    add_zero = λ f. fun_ext λ n. R.add_zero _;
    add_neg = λ f. fun_ext λ n. R.add_neg _;
    mul_assoc = λ f g h. fun_ext (conv_assoc R f g h);
    mul_comm = λ f g. fun_ext (conv_comm R f g);
    mul_one = λ f. fun_ext λ n. conv_const R 𝟙 f n ∙ R.mul_one _;
    distrib = λ f g h. fun_ext (conv_dist R f g h);
  }

-- in two, three and four variables
abbrev pub S2 : CommRing → CommRing
S2 R = SeriesR (SeriesR R)

abbrev pub S3 : CommRing → CommRing
S3 R = SeriesR (S2 R)

abbrev pub S4 : CommRing → CommRing
S4 R = SeriesR (S3 R)
