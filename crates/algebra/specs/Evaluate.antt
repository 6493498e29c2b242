-- The value of a polynomial in x, y, z, w at (y, z, w), a polynomial in x: y, z and w take their values one after the other.
-- One evaluation after the other, the same in each coefficient, and that of the outermost variable.
use Rattle.std.proofs.Common.{◌∙◌, ap, ap₂, arith}
use Rattle.std.proofs.Math.Path.{fun_ext}
use Rattle.std.specs.Prelude.{refl, ◌+◌ as ◌+ₙ◌}
use Rattle.algebra.specs.Ring.{CommRing}
use Rattle.algebra.specs.Series.{addS, zeroS, constS, conv}
use Rattle.algebra.specs.SeriesRing.{SeriesR, S2, S3, S4}
use Rattle.algebra.specs.Domain.{Domain}
use Rattle.algebra.specs.Polynomials.{SeriesD, D2, D3, D4}
use Rattle.algebra.specs.Evaluation.{cut_value, Evaluation, coefficients}
use Rattle.algebra.specs.Laws.Degree.{conv_ends}
use Rattle.algebra.specs.Laws.Divides.{const_fin}
use Rattle.algebra.specs.Laws.Evaluation.{at_equal, value_null, value_conv, value_const}
use Rattle.algebra.specs.Laws.Substitution.{cut_null, cut_add, cut_past, cut_mul, any_cut, cut_P, evaluate_const}

-- one after the other
abbrev pub after : {R S T : CommRing} {D : Domain R} {E : Domain S} {F : Domain T} → Evaluation S T E F → Evaluation R S D E → Evaluation R T D F
after {R} {S} {T} {D} {E} {F} ψ φ = record {
  fn = λ a p. ψ.fn (φ.fn a p) (φ.keeps a p);
  same = λ a p q. at_equal ψ (φ.keeps a p) (φ.keeps a q) (φ.same a p q);
  keeps = λ a p. ψ.keeps _ _;
  zero = λ p. value_null ψ (φ.keeps _ p) (φ.zero p);
  one = λ p. at_equal ψ (φ.keeps _ p) E.P_one (φ.one p) ∙ ψ.one E.P_one;
  add = λ a b p q r. at_equal ψ (φ.keeps _ r) (E.P_add _ _ (φ.keeps a p) (φ.keeps b q)) (φ.add a b p q r)
      ∙ ψ.add _ _ (φ.keeps a p) (φ.keeps b q) _;
  mul = λ a b p q r. at_equal ψ (φ.keeps _ r) (E.P_mul _ _ (φ.keeps a p) (φ.keeps b q)) (φ.mul a b p q r)
      ∙ ψ.mul _ _ (φ.keeps a p) (φ.keeps b q) _;
}

-- the same in each coefficient
abbrev pub within : {R S : CommRing} {D : Domain R} {E : Domain S} → Evaluation R S D E → Evaluation (SeriesR R) (SeriesR S) (SeriesD R D) (SeriesD S E)
within {R} {S} {D} {E} φ = record {
  fn = λ f h. coefficients φ f h.coef;
  same = λ f h k. fun_ext λ n. φ.same (f n) (h.coef n) (k.coef n);
  keeps = λ f h. record {
    bound = h.bound;
    ends = λ n l. value_null φ (h.coef n) (h.ends n l);
    coef = λ n. φ.keeps (f n) (h.coef n);
  };
  zero = λ h. fun_ext λ n. φ.zero (h.coef n);
  one = λ h. fun_ext λ n. value_const φ R.𝟙 D.P_one n (h.coef n) ∙ ap (λ (c : S.Car). constS S c n) (φ.one D.P_one);
  add = λ f g h k r. fun_ext λ n. φ.add _ _ (h.coef n) (k.coef n) (r.coef n);
  mul = λ f g h k r. fun_ext λ n. value_conv φ f g h.coef k.coef n (r.coef n);
}

-- the outermost variable takes the value a
module _ (R : CommRing) (D : Domain R) (a : R.Car) (pa : D.P a) where
  open R use {𝟙, add as ◌+◌}

  infixl 60 ◌+◌
  abbrev pub evaluate : Evaluation (SeriesR R) R (SeriesD R D) D
  evaluate = record {
    fn = λ f h. cut_value R h.bound a f;
    same = λ f h k. any_cut R D a pa h.bound k.bound f h.ends k.ends;
    keeps = λ f h. cut_P R D a pa h.bound f h.coef;
    zero = λ h. cut_null R h.bound a (zeroS R) (λ n. refl);
    one = evaluate_const R D a pa 𝟙;
    add = λ f g h k r.
        any_cut R D a pa r.bound (h.bound +ₙ k.bound) (addS R f g) r.ends
        (λ n l. ap₂ ◌+◌ (h.ends n (omega arith)) (k.ends n (omega arith)) ∙ R.add_zero _)
        ∙ cut_add R (h.bound +ₙ k.bound) a f g
        ∙ ap₂ ◌+◌ (cut_past R h.bound (h.bound +ₙ k.bound) a f (omega arith) h.ends)
        (cut_past R k.bound (h.bound +ₙ k.bound) a g (omega arith) k.ends);
    mul = λ f g h k r.
        any_cut R D a pa r.bound (h.bound +ₙ k.bound) (conv R f g) r.ends
        (λ n l. conv_ends R h.bound k.bound f g h.ends k.ends n (omega arith))
        ∙ cut_mul R h.bound k.bound a f g h.ends k.ends;
  }

module _ (R : CommRing) (D : Domain R) where
  -- one variable takes its value, with y, z or w outermost
  module _ (y : R.Car) (py : D.P y) where
    abbrev pub at_y : Evaluation (S3 R) (S2 R) (D3 R D) (D2 R D)
    at_y = evaluate (S2 R) (D2 R D) (constS (SeriesR R) (constS R y)) (const_fin (SeriesR R) (SeriesD R D) _ (const_fin R D y py))

  module _ (z : R.Car) (pz : D.P z) where
    abbrev pub at_z : Evaluation (S2 R) (SeriesR R) (D2 R D) (SeriesD R D)
    at_z = evaluate (SeriesR R) (SeriesD R D) (constS R z) (const_fin R D z pz)

  module _ (w : R.Car) (pw : D.P w) where
    abbrev pub at_w : Evaluation (SeriesR R) R (SeriesD R D) D
    at_w = evaluate R D w pw

  module _ (y z w : R.Car) (py : D.P y) (pz : D.P z) (pw : D.P w) where
    -- the value of a polynomial in y, z, w
    abbrev pub at_yzw : Evaluation (S3 R) R (D3 R D) D
    at_yzw = after (at_w w pw) (after (at_z z pz) (at_y y py))

    -- the value of a polynomial in x, y, z, w: a polynomial in x
    abbrev pub at_point : Evaluation (S4 R) (SeriesR R) (D4 R D) (SeriesD R D)
    at_point = within at_yzw
