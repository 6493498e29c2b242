-- Polynomials in one variable over a field: a multiple taken off, a polynomial made monic, and that the monic greatest common divisor is unique.
-- `MonicGreatest` has that it exists.
use Rattle.std.specs.Prelude.{◌≡◌, ℕ, suc, ◌+◌ as ◌+ₙ◌}
use Rattle.std.proofs.Common.{sym, ◌∙◌, subst, arith}
use Rattle.std.proofs.Math.Path.{ap, ap₂, fun_ext}
use Rattle.std.proofs.Math.Decide.{ℕ_discrete}
use Rattle.algebra.specs.Field.{Field}
use Rattle.algebra.specs.Series.{Seq, addS, negS, zeroS, constS, conv}
use Rattle.algebra.specs.Degree.{Ends, Top}
use Rattle.algebra.specs.Polynomials.{domain}
use Rattle.algebra.specs.GreatestCommon.{GreatestCommon}
use Rattle.algebra.specs.Univariate.{Monic, Poly, PolyD, Fin, over_lead}
use Rattle.algebra.specs.Mono.{mono}
use Rattle.algebra.specs.Laws.Ring.{one_mul, mul_zero}
use Rattle.algebra.specs.Laws.Series.{conv_const}
use Rattle.algebra.specs.Laws.Degree.{conv_ends}
use Rattle.algebra.specs.Laws.Mono.{mono_high, mono_ends}
use Rattle.algebra.specs.Laws.Divides.{quotient_top, const_fin, mono_fin}
use Rattle.algebra.specs.Laws.SameDegree.{same_degree_multiple}
use Rattle.algebra.specs.Laws.GreatestCommon.{greatest_zero, greatest_subtract, Associate, greatest_first, greatest_associate}

module _ (F : Field) where
  open F.ring use {Car, 𝟘, 𝟙, add as ◌+◌, mul as ◌*◌, neg}

  infixl 60 ◌+◌
  infixl 70 ◌*◌
  pub ends_fin : (n : ℕ) (f : Seq F.ring) → Ends F.ring n f → Fin F f
  ends_fin n f h = record { bound = n; ends = h; coef = λ i. tt }

  pub monic_top : (n : ℕ) (f : Seq F.ring) → Monic F.ring n f → Top F.ring n f
  monic_top n f m = record { nonzero = λ e. F.one≢0 (sym m.leads ∙ e); ends = m.ends }

  monic_fin : (n : ℕ) (f : Seq F.ring) → Monic F.ring n f → Fin F f
  monic_fin n f m = ends_fin (suc n) f m.ends

  -- f less c X^j g; with g's highest coefficient at n and c the quotient of the highest ones, the end of f comes down
  unfoldable pub less : ℕ → Car → Seq F.ring → Seq F.ring → Seq F.ring
  less j c f g = addS F.ring f (negS F.ring (conv F.ring (mono F.ring j c) g))

  pub less_ends : (n j : ℕ) (c : Car) (f g : Seq F.ring) → Ends F.ring (suc (j +ₙ n)) f → Ends F.ring (suc n) g
      → f (j +ₙ n) ≡ c * g n → Ends F.ring (j +ₙ n) (less j c f g)
  unfolding less
  less_ends n j c f g hf hg e i l = elim (ℕ_discrete i (j +ₙ n)) [
    | yes p ↦ ap (less j c f g) p ∙ ap₂ (λ x y. x + neg y) e (mono_high F.ring j c g n) ∙ F.ring.add_neg _
    | no q ↦ ap₂ (λ x y. x + neg y) (hf i (omega arith))
        (conv_ends F.ring (suc j) (suc n) (mono F.ring j c) g (mono_ends F.ring j c) hg i (omega arith)) ∙ F.ring.add_neg 𝟘
  ]

  pub greatest_less : (j : ℕ) (c : Car) (f g h : Seq F.ring) → GreatestCommon (Poly F) (PolyD F) (less j c f g) g h → GreatestCommon (Poly F) (PolyD F) f g h
  unfolding less
  greatest_less j c f g h s = greatest_subtract (Poly F) (PolyD F) f g (mono F.ring j c) h (mono_fin F.ring (domain F) j c tt) s

  pub over_lead_monic : (n : ℕ) (f : Seq F.ring) → Top F.ring n f → Monic F.ring n (over_lead F n f)
  unfolding over_lead
  over_lead_monic n f t = record {
    leads = F.ring.mul_comm _ _ ∙ F.mul_inv (f n) t.nonzero;
    ends = λ i l. ap (F.inv (f n) *◌) (t.ends i l) ∙ mul_zero F.ring _;
  }

  by_const : (c : Car) (f : Seq F.ring) → (λ i. c * f i) ≡ conv F.ring f (constS F.ring c)
  by_const c f = fun_ext λ i. F.ring.mul_comm _ _ ∙ sym (conv_const F.ring c f i)

  -- a multiple by a number but 0 has the same divisors
  scale_associate : (c b : Car) (f : Seq F.ring) → c * b ≡ 𝟙 → Associate (Poly F) (PolyD F) f (λ i. b * f i)
  scale_associate c b f e = record {
    to = record { quo = constS F.ring b; fin = const_fin F.ring (domain F) b tt; eq = sym (by_const b f) };
    from = record {
      quo = constS F.ring c;
      fin = const_fin F.ring (domain F) c tt;
      eq = sym (by_const c (λ i. b * f i)) ∙ fun_ext λ i. sym (F.ring.mul_assoc _ _ _) ∙ ap (◌* f i) e ∙ one_mul F.ring _;
    };
  }

  pub over_lead_associate : (n : ℕ) (f : Seq F.ring) → Top F.ring n f → Associate (Poly F) (PolyD F) f (over_lead F n f)
  unfolding over_lead
  over_lead_associate n f t = scale_associate (f n) (F.inv (f n)) f (F.mul_inv (f n) t.nonzero)

  -- a nonzero polynomial with nothing beside it: over its highest coefficient it is the monic greatest common divisor
  pub over_lead_greatest : (n : ℕ) (f g : Seq F.ring) → Top F.ring n f → g ≡ zeroS F.ring → GreatestCommon (Poly F) (PolyD F) f g (over_lead F n f)
  over_lead_greatest n f g t z =
      let a = over_lead_associate n f t in
      subst (λ (u : Seq F.ring). GreatestCommon (Poly F) (PolyD F) f u (over_lead F n f)) (sym z)
      (greatest_first (Poly F) (PolyD F) (over_lead F n f) f (zeroS F.ring) (over_lead F n f) (record { to = a.from; from = a.to })
      (greatest_zero (Poly F) (PolyD F) (over_lead F n f)))

  -- monic polynomials that divide each other are equal
  pub monic_associate : (m n : ℕ) (f g : Seq F.ring) → Monic F.ring m f → Monic F.ring n g → Associate (Poly F) (PolyD F) f g → (m ≡ n) × (f ≡ g)
  monic_associate m n f g mf mg s = (same, fun_ext λ i. sym (ap (◌* f i) one ∙ one_mul F.ring (f i)) ∙ multiple.1 i)
    where
      tf : Top F.ring m f
      tf = monic_top m f mf

      tg : Top F.ring n g
      tg = monic_top n g mg

      same : m ≡ n
      same =
          let a = quotient_top F.ring (domain F) n f g (monic_fin m f mf) s.to tg m tf in
          let b = quotient_top F.ring (domain F) m g f (monic_fin n g mg) s.from tf n tg in
          omega (arith, a.1, b.1)

      multiple : (c : Car) × ((i : ℕ) → c * f i ≡ g i)
      multiple = same_degree_multiple F.ring (domain F) m f g (monic_fin m f mf) tf (subst (λ k. Top F.ring k g) (sym same) tg) s.to

      one : multiple.0 ≡ 𝟙
      one = sym (ap (multiple.0 *◌) mf.leads ∙ F.ring.mul_one _) ∙ multiple.1 m ∙ ap g same ∙ mg.leads

  -- two monic greatest common divisors are equal
  pub monic_greatest_unique : (m n : ℕ) (f g u v : Seq F.ring) → Monic F.ring m u → Monic F.ring n v
      → GreatestCommon (Poly F) (PolyD F) f g u → GreatestCommon (Poly F) (PolyD F) f g v → (m ≡ n) × (u ≡ v)
  monic_greatest_unique m n f g u v mu mv su sv = monic_associate m n u v mu mv
      (greatest_associate (Poly F) (PolyD F) f g u v (monic_fin m u mu) (monic_fin n v mv) su sv)
