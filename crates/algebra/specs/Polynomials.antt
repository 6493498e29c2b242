-- The finite series, which are the polynomials, are a domain again: over a field, in one, two, three and four variables.
use Rattle.std.specs.Prelude.{refl, ◌+◌ as ◌+ₙ◌}
use Rattle.std.proofs.Common.{◌∙◌, ap, ap₂, arith}
use Rattle.algebra.specs.Ring.{CommRing}
use Rattle.algebra.specs.Field.{Field}
use Rattle.algebra.specs.SeriesRing.{SeriesR, S2, S3, S4}
use Rattle.algebra.specs.Domain.{Domain, Finite}
use Rattle.algebra.specs.Laws.Ring.{neg_zero}
use Rattle.algebra.specs.Laws.Field.{no_zero_divisors}
use Rattle.algebra.specs.Laws.Degree.{conv_ends, const_ends, conv_P, const_P, series_dec0, series_nzd, series_one≢0}

module _ (K : Field) where
  -- the elements of a field, all of them
  abbrev pub domain : Domain K.ring
  domain = record {
    P = λ a. Unit {0};
    P_zero = tt;
    P_one = tt;
    P_add = λ a b pa pb. tt;
    P_mul = λ a b pa pb. tt;
    P_neg = λ a pa. tt;
    dec0 = λ a pa. K.decide a;
    nzd = λ a b pa pb. no_zero_divisors K a b;
    one≢0 = K.one≢0;
  }

module _ (R : CommRing) (D : Domain R) where
  open R use {𝟙, add as ◌+◌, neg}

  infixl 60 ◌+◌
  -- so are the finite series: of all series, the polynomials
  abbrev pub SeriesD : Domain (SeriesR R)
  SeriesD = record {
    P = Finite R D;
    P_zero = record { bound = 0; ends = λ n l. refl; coef = λ n. D.P_zero };
    P_one = record { bound = 1; ends = const_ends R 𝟙; coef = const_P R D 𝟙 D.P_one };
    P_add = λ f g hf hg. record {
      bound = hf.bound +ₙ hg.bound;
      ends = λ n l. ap₂ ◌+◌ (hf.ends n (omega arith)) (hg.ends n (omega arith)) ∙ R.add_zero _;
      coef = λ n. D.P_add _ _ (hf.coef n) (hg.coef n);
    };
    P_mul = λ f g hf hg. record {
      bound = hf.bound +ₙ hg.bound;
      ends = λ n l. conv_ends R hf.bound hg.bound f g hf.ends hg.ends n (omega arith);
      coef = conv_P R D f g hf.coef hg.coef;
    };
    P_neg = λ f hf. record {
      bound = hf.bound;
      ends = λ n l. ap neg (hf.ends n l) ∙ neg_zero R;
      coef = λ n. D.P_neg _ (hf.coef n);
    };
    dec0 = series_dec0 R D;
    nzd = series_nzd R D;
    one≢0 = series_one≢0 R D;
  }

module _ (R : CommRing) where
  -- the finite elements: polynomials, in two, three and four variables
  abbrev pub D2 : Domain R → Domain (S2 R)
  D2 D = SeriesD (SeriesR R) (SeriesD R D)

  abbrev pub D3 : Domain R → Domain (S3 R)
  D3 D = SeriesD (S2 R) (D2 D)

  abbrev pub D4 : Domain R → Domain (S4 R)
  D4 D = SeriesD (S3 R) (D3 D)
