-- A polynomial has one greatest exponent at most in each variable; each but 0 has one, and those of two factors add.
use Rattle.std.specs.Prelude.{◌≡◌, ℕ, ◌<◌, suc, ◌+◌ as ◌+ₙ◌}
use Rattle.std.proofs.Math.Path.{sym, ap, fun_ext}
use Rattle.std.proofs.Common.{subst, ◌∙◌, arith}
use Rattle.std.proofs.Math.Decide.{dec_lt}
use Rattle.algebra.specs.Ring.{CommRing}
use Rattle.algebra.specs.SeriesRing.{SeriesR, S2, S3, S4}
use Rattle.algebra.specs.Degree.{Ends, Top}
use Rattle.algebra.specs.Domain.{Domain}
use Rattle.algebra.specs.Polynomials.{SeriesD, D2, D3, D4}
use Rattle.algebra.specs.Four.{Exponents, coef}
use Rattle.algebra.specs.GreatestExponent.{Variable, exponent, Within, GreatestExponent}
use Rattle.algebra.specs.Laws.Degree.{top_mul, series_dec0, series_top}
use Rattle.algebra.specs.Laws.Lead.{lead_exists}
use Rattle.algebra.specs.Laws.Finite.{Keeps}
use Rattle.algebra.specs.Laws.Front.{Front, front}

module _ (R : CommRing) where
  pub greatest_unique : (v : Variable) (m n : ℕ) (f : (S4 R).Car) → GreatestExponent R v m f → GreatestExponent R v n f → m ≡ n
  greatest_unique v m n f s t = go (dec_lt m n) (dec_lt n m)
    where
      go : Dec (m < n) → Dec (n < m) → m ≡ n
      go (yes l) b = absurd (t.stands (s.within t.place (subst (λ k. m < k) (sym t.reached) l)))
      go (no a) (yes l) = absurd (s.stands (t.within s.place (subst (λ k. n < k) (sym s.reached) l)))
      go (no a) (no b) = omega arith

module _ (R : CommRing) (D : Domain R) (v : Variable) where
  F : Front R D v
  F = front R D v

  moved : (S4 R).Car → (S4 R).Car
  moved f = F.hom.fn f

  moved_fin : (f : (S4 R).Car) → (D4 R D).P f → (D4 R D).P (moved f)
  unfolding Keeps moved
  moved_fin f pf = F.keeps f pf

  moved_mul : (f g : (S4 R).Car) → moved ((S4 R).mul f g) ≡ (S4 R).mul (moved f) (moved g)
  unfolding moved
  moved_mul f g = F.hom.mul f g

  ends_of : (n : ℕ) (f : (S4 R).Car) → Within R v n f → Ends (S3 R) (suc n) (moved f)
  unfolding moved
  ends_of n f h k l = fun_ext λ b. fun_ext λ c. fun_ext λ d.
      let e : Exponents = record { x = k; y = b; z = c; w = d } in
      F.back_coef f e ∙ h (F.back e) (subst (λ i. n < i) (sym (F.back_v e)) l)

  within_of : (n : ℕ) (f : (S4 R).Car) → Ends (S3 R) (suc n) (moved f) → Within R v n f
  unfolding moved
  within_of n f h e l = sym (F.there_coef f e)
      ∙ ap (λ (u : (S3 R).Car). u (F.there e).y (F.there e).z (F.there e).w) (h (F.there e).x (subst (λ i. n < i) (sym (F.there_x e)) l))

  top_of : (n : ℕ) (f : (S4 R).Car) → GreatestExponent R v n f → Top (S3 R) n (moved f)
  unfolding moved
  top_of n f g = record {
    nonzero = λ z. g.stands (sym (F.there_coef f g.place)
        ∙ ap (λ i. moved f i (F.there g.place).y (F.there g.place).z (F.there g.place).w) (F.there_x g.place ∙ g.reached)
        ∙ ap (λ (u : (S3 R).Car). u (F.there g.place).y (F.there g.place).z (F.there g.place).w) z);
    ends = ends_of n f g.within;
  }

  greatest_of : (n : ℕ) (f : (S4 R).Car) → (D4 R D).P f → Top (S3 R) n (moved f) → GreatestExponent R v n f
  unfolding moved
  greatest_of n f pf t =
      let p = (moved_fin f pf).coef n in
      let b = series_top (S2 R) (D2 R D) (moved f n) p t.nonzero in
      let c = series_top (SeriesR R) (SeriesD R D) (moved f n b.0) (p.coef _) b.1.nonzero in
      let d = series_top R D (moved f n b.0 c.0) ((p.coef _).coef _) c.1.nonzero in
      let e : Exponents = record { x = n; y = b.0; z = c.0; w = d.0 } in
      record {
        within = within_of n f t.ends;
        place = F.back e;
        reached = F.back_v e;
        stands = λ z. d.1.nonzero (F.back_coef f e ∙ z);
      }

  -- the greatest exponents of two factors add
  pub greatest_of_product : (m n : ℕ) (f g : (S4 R).Car) → (D4 R D).P f → (D4 R D).P g → GreatestExponent R v m f → GreatestExponent R v n g
      → GreatestExponent R v (m +ₙ n) ((S4 R).mul f g)
  greatest_of_product m n f g pf pg s t = greatest_of (m +ₙ n) ((S4 R).mul f g) ((D4 R D).P_mul f g pf pg)
      (subst (Top (S3 R) (m +ₙ n)) (sym (moved_mul f g))
      (top_mul (S3 R) (D3 R D) m n (moved f) (moved g) ((moved_fin f pf).coef m) ((moved_fin g pg).coef n) (top_of m f s) (top_of n g t)))

  greatest_exists : (f : (S4 R).Car) → (D4 R D).P f → ¬ (f ≡ (S4 R).𝟘) → (n : ℕ) × GreatestExponent R v n f
  greatest_exists f pf nf = go (series_dec0 (S3 R) (D3 R D) (moved f) (moved_fin f pf))
    where
      go : Dec (moved f ≡ (S4 R).𝟘) → (n : ℕ) × GreatestExponent R v n f
      go (yes z) =
          let l = lead_exists R D f pf nf in
          absurd (l.1.stands (sym (F.there_coef f l.0) ∙ (unfold moved in ap (λ (u : (S4 R).Car). coef R u (F.there l.0)) z)))
      go (no q) = let t = series_top (S3 R) (D3 R D) (moved f) (moved_fin f pf) q in (t.0, greatest_of t.0 f pf t.1)

  -- a factor's exponents are at most the product's greatest less the other factor's
  pub factor_within : (a b : ℕ) (f g q : (S4 R).Car) → (D4 R D).P g → (D4 R D).P q → GreatestExponent R v a f → GreatestExponent R v b g → (S4 R).mul g q ≡ f
      → (e : Exponents) → a < exponent v e +ₙ b → coef R q e ≡ R.𝟘
  factor_within a b f g q pg pq ga gb eq e l = go (series_dec0 (S3 R) (D3 R D) q pq)
    where
      go : Dec (q ≡ (S4 R).𝟘) → coef R q e ≡ R.𝟘
      go (yes z) = ap (λ (u : (S4 R).Car). coef R u e) z
      go (no nz) =
          let t = greatest_exists q pq nz in
          let s : b +ₙ t.0 ≡ a = greatest_unique R v (b +ₙ t.0) a f
          (subst (GreatestExponent R v (b +ₙ t.0)) eq (greatest_of_product b t.0 g q pg pq gb t.1)) ga in
          t.1.within e (omega arith)
