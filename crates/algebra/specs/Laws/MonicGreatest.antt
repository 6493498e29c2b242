-- Division with remainder of polynomials in one variable over a field: by a divisor nothing is left; by it the monic greatest common divisor exists.
use Rattle.std.specs.Prelude.{◌≡◌, ◌⊎◌, ℕ, zero, suc, ◌+◌ as ◌+ₙ◌, ◌-◌ as ◌-ₙ◌, ◌≤◌}
use Rattle.std.proofs.Common.{sym, ◌∙◌, subst, inl, inr, arith}
use Rattle.std.proofs.Math.Path.{ap, fun_ext}
use Rattle.std.proofs.Math.Decide.{dec_le}
use Rattle.algebra.specs.Field.{Field}
use Rattle.algebra.specs.Series.{Seq, addS, negS, zeroS, conv}
use Rattle.algebra.specs.Degree.{Ends, Top}
use Rattle.algebra.specs.Polynomials.{domain}
use Rattle.algebra.specs.Divides.{Div}
use Rattle.algebra.specs.GreatestCommon.{GreatestCommon}
use Rattle.algebra.specs.Univariate.{Poly, PolyD, Fin, over_lead, MonicGreatest}
use Rattle.algebra.specs.Mono.{mono}
use Rattle.algebra.specs.Laws.Solver.{◌⊕◌, ◌⊗◌, ◌⊖◌, k0, ◌≗◌, ring2, ring4}
use Rattle.algebra.specs.Laws.Degree.{Ends_weaken, finite_top}
use Rattle.algebra.specs.Laws.Divides.{div_refl, div_add, div_mul, div_neg, div_to, quotient_top, mono_fin}
use Rattle.algebra.specs.Laws.GreatestCommon.{greatest_swap, greatest_subtract}
use Rattle.algebra.specs.Laws.Univariate.{ends_fin, less, less_ends, over_lead_monic, over_lead_greatest}

module _ (F : Field) where
  open F.ring use {Car, 𝟘, mul as ◌*◌}

  infixl 70 ◌*◌
  -- division with remainder by g, whose highest coefficient stands at n
  pub record WithRemainder (n : ℕ) (f g : Seq F.ring) : Type 0 where
    pub quo : Seq F.ring
    pub rest : Seq F.ring
    pub quo_fin : Fin F quo
    pub eq : addS F.ring (conv F.ring quo g) rest ≡ f
    pub ends : Ends F.ring n rest

  -- by a divisor nothing is left
  module _ (n : ℕ) (f g : Seq F.ring) (t : Top F.ring n g) (d : WithRemainder n f g) (h : Div (Poly F) (PolyD F) g f) where
    divides_rest : Div (Poly F) (PolyD F) g d.rest
    divides_rest =
        div_to (Poly F) (PolyD F) g _ d.rest
        (ap (λ (u : Seq F.ring). addS F.ring u (negS F.ring (conv F.ring d.quo g))) (sym d.eq)
        ∙ ring2 (Poly F) (λ t r. (t ⊕ r) ⊖ t ≗ r) tt (conv F.ring d.quo g) d.rest)
        (div_add (Poly F) (PolyD F) g f _ h
        (div_neg (Poly F) (PolyD F) g _ (div_mul (Poly F) (PolyD F) g g d.quo d.quo_fin (div_refl (Poly F) (PolyD F) g))))

    no_rest : d.rest ≡ zeroS F.ring
    no_rest = elim (finite_top F.ring (domain F) d.rest (ends_fin F n d.rest d.ends)) [
      | inl z ↦ fun_ext z
      | inr s ↦
          let q = quotient_top F.ring (domain F) s.0 g d.rest (ends_fin F (suc n) g t.ends) divides_rest s.1 n t in
          absurd (s.1.nonzero (d.ends s.0 (omega (arith, q.1))))
    ]

    pub exact_quotient : conv F.ring g d.quo ≡ f
    exact_quotient =
        ring2 (Poly F) (λ g q. g ⊗ q ≗ q ⊗ g ⊕ k0) tt g d.quo
        ∙ ap (λ (u : Seq F.ring). addS F.ring (conv F.ring d.quo g) u) (sym no_rest) ∙ d.eq

  whole : (n : ℕ) (f g : Seq F.ring) → Ends F.ring n f → WithRemainder n f g
  whole n f g h = record {
    quo = zeroS F.ring;
    rest = f;
    quo_fin = (PolyD F).P_zero;
    eq = ring2 (Poly F) (λ f g. k0 ⊗ g ⊕ f ≗ f) tt f g;
    ends = h;
  }

  more : (n j : ℕ) (c : Car) (f g : Seq F.ring) → WithRemainder n (less F j c f g) g → WithRemainder n f g
  unfolding less
  more n j c f g d = record {
    quo = addS F.ring d.quo (mono F.ring j c);
    rest = d.rest;
    quo_fin = (PolyD F).P_add _ _ d.quo_fin (mono_fin F.ring (domain F) j c tt);
    eq = ring4 (Poly F) (λ q m g r. (q ⊕ m) ⊗ g ⊕ r ≗ (q ⊗ g ⊕ r) ⊕ m ⊗ g) tt d.quo (mono F.ring j c) g d.rest
        ∙ ap (λ (u : Seq F.ring). addS F.ring u (conv F.ring (mono F.ring j c) g)) d.eq
        ∙ ring2 (Poly F) (λ f t. (f ⊖ t) ⊕ t ≗ f) tt f (conv F.ring (mono F.ring j c) g);
    ends = d.ends;
  }

  over : (a b : Car) → ¬ (b ≡ 𝟘) → a ≡ a * F.inv b * b
  over a b n = sym (F.ring.mul_assoc _ _ _ ∙ ap (a *◌) (F.ring.mul_comm _ _ ∙ F.mul_inv b n) ∙ F.ring.mul_one a)

  divide : (N n : ℕ) (f g : Seq F.ring) → Ends F.ring N f → Top F.ring n g → WithRemainder n f g
  divide zero n f g hf tg = whole n f g (Ends_weaken F.ring zero n f (omega arith) hf)
  divide (suc N) n f g hf tg = go (dec_le n N) λ f' h. divide N n f' g h tg
    where
      go : Dec (n ≤ N) → ((f' : Seq F.ring) → Ends F.ring N f' → WithRemainder n f' g) → WithRemainder n f g
      go (yes l) rec =
          let e : (N -ₙ n) +ₙ n ≡ N = omega arith in
          let c : Car = f N * F.inv (g n) in
          more n (N -ₙ n) c f g (rec (less F (N -ₙ n) c f g)
          (subst (λ M. Ends F.ring M (less F (N -ₙ n) c f g)) e
          (less_ends F n (N -ₙ n) c f g (subst (λ M. Ends F.ring (suc M) f) (sym e) hf) tg.ends (ap f e ∙ over (f N) (g n) tg.nonzero))))
      go (no q) rec = whole n f g (Ends_weaken F.ring (suc N) n f (omega arith) hf)

  -- the common divisors of f and g are those of g and the remainder
  greatest_divided : (n : ℕ) (f g h : Seq F.ring) (d : WithRemainder n f g) → GreatestCommon (Poly F) (PolyD F) g d.rest h
      → GreatestCommon (Poly F) (PolyD F) f g h
  greatest_divided n f g h d s = greatest_subtract (Poly F) (PolyD F) f g d.quo h d.quo_fin
      (subst (λ (u : Seq F.ring). GreatestCommon (Poly F) (PolyD F) u g h)
      (ring2 (Poly F) (λ t r. r ≗ (t ⊕ r) ⊖ t) tt (conv F.ring d.quo g) d.rest
      ∙ ap (λ (u : Seq F.ring). addS F.ring u (negS F.ring (conv F.ring d.quo g))) d.eq)
      (greatest_swap (Poly F) (PolyD F) g d.rest h s))

  -- it exists: f is not zero, and g ends at N
  pub monic_greatest : (N m : ℕ) (f g : Seq F.ring) → Top F.ring m f → Ends F.ring N g → MonicGreatest F f g
  monic_greatest N m f g tf hg = step N m f g tf hg (finite_top F.ring (domain F) g (ends_fin F N g hg))
    where
      alone : (m : ℕ) (f g : Seq F.ring) → Top F.ring m f → ((i : ℕ) → g i ≡ 𝟘) → MonicGreatest F f g
      alone m f g tf z =
          record { degree = m; gcd = over_lead F m f; monic = over_lead_monic F m f tf; greatest = over_lead_greatest F m f g tf (fun_ext z) }

      step : (N m : ℕ) (f g : Seq F.ring) → Top F.ring m f → Ends F.ring N g
          → ((i : ℕ) → g i ≡ 𝟘) ⊎ ((n : ℕ) × Top F.ring n g) → MonicGreatest F f g
      step zero m f g tf hg (inl z) = alone m f g tf z
      step zero m f g tf hg (inr t) = absurd (t.1.nonzero (hg t.0 (omega arith)))
      step (suc N) m f g tf hg (inl z) = alone m f g tf z
      step (suc N) m f g tf hg (inr t) =
          let d = divide (suc m) t.0 f g tf.ends t.1 in
          let l : t.0 ≤ N = elim (dec_le t.0 N) [ yes l ↦ l | no q ↦ absurd (t.1.nonzero (hg t.0 (omega arith))) ] in
          let r : Ends F.ring N d.rest = Ends_weaken F.ring t.0 N d.rest l d.ends in
          let w = step N t.0 g d.rest t.1 r (finite_top F.ring (domain F) d.rest (ends_fin F N d.rest r)) in
          record {
            degree = w.degree;
            gcd = w.gcd;
            monic = w.monic;
            greatest = greatest_divided t.0 f g w.gcd d w.greatest;
          }
