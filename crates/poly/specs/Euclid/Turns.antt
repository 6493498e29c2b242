-- How the model goes on: one turn of Euclid's algorithm, and what a turn makes.
use Rattle.std.specs.Prelude.{◌≡◌, refl, List, ℕ, zero, suc, ◌-◌, ◌≤◌, ◌<◌, get_or}
use Rattle.std.proofs.Common.{sym, ap, ◌∙◌, subst, arith, eq-eqb, ne_eqb}
use Rattle.field.specs.Prime.{Prime}
use Rattle.field.specs.Modulus.Prime.{prime_positive}
use Rattle.poly.specs.Coefficients.{Eight}
use Rattle.poly.specs.Euclid.Model.{size, monic, remainder, euclid}
use Rattle.poly.specs.Euclid.Numbers.{Leads, eight_clear, size_lead, size_below, size_le, leads_size, remainder_eight, remainder_clear}
use Rattle.poly.specs.Euclid.Meaning.{monic_eight, highest_leads}

-- g divided by its highest number
abbrev pub turned : ℕ → ℕ → List ℕ → List ℕ
turned p n g = monic p (n - 1) g

-- the remainder of f by it
abbrev pub rest : ℕ → ℕ → List ℕ → List ℕ → List ℕ
rest p n f g = remainder p (n - 1) (turned p n g) (8 - (n - 1)) f

pub euclid_next : (p fuel : ℕ) (f g : List ℕ) → ¬ (size g ≡ 0)
    → euclid p (suc fuel) f g ≡ euclid p fuel (turned p (size g) g) (rest p (size g) f g)
unfolding euclid
euclid_next p fuel f g q = rw (ne_eqb (size g) 0 q, euclid)

pub euclid_end : (p fuel : ℕ) (f g : List ℕ) → size g ≡ 0 → euclid p fuel f g ≡ f
unfolding euclid
euclid_end p zero f g e = refl
euclid_end p (suc fuel) f g e = rw (eq-eqb (size g) 0 e, euclid)

-- made monic, g has the size that it had
pub turn_size : {p : ℕ} (P : Prime p) (g : List ℕ) → Eight p g → ¬ (size g ≡ 0) → size (turned p (size g) g) ≡ size g
turn_size {p} P g hg q =
    let s = leads_size p (size g - 1) (turned p (size g) g) (monic_eight P (size g - 1) g) (highest_leads P g hg q) in omega arith

-- what a turn makes of g: monic, with the remainder of f by it smaller
module _ {p : ℕ} (P : Prime p) (f g : List ℕ) (hf : Eight p f) (hg : Eight p g) (q : ¬ (size g ≡ 0)) where
  abbrev m : ℕ
  m = size g - 1

  turn_leads : Leads m (turned p (size g) g)
  turn_leads = highest_leads P g hg q

  pub turn_rest : Eight p (rest p (size g) f g)
  turn_rest = remainder_eight p (prime_positive P) m (turned p (size g) g) (8 - m) f hf

  pub turn_smaller : size (rest p (size g) f g) ≤ m
  turn_smaller =
      size_below 8 m (rest p (size g) f g)
      (remainder_clear p (prime_positive P) m (turned p (size g) g) turn_leads.one turn_leads.clear (8 - m) f hf
      (λ i l. eight_clear p f hf i (omega (arith, size_le 8 g))))

-- as the code goes on, where n is the size of g
module _ (p n : ℕ) (f g : List ℕ) (e : n ≡ size g) (pos : 0 < n) where
  filled : ¬ (size g ≡ 0)
  filled z = omega arith

  pub turn_on : (fuel : ℕ) → n ≤ fuel → euclid p fuel f g ≡ euclid p (fuel - 1) (turned p n g) (rest p n f g)
  turn_on fuel l =
      let s : suc (fuel - 1) ≡ fuel = omega arith in
      ap (λ (k : ℕ). euclid p k f g) (sym s) ∙ euclid_next p (fuel - 1) f g filled
      ∙ ap (λ (k : ℕ). euclid p (fuel - 1) (turned p k g) (rest p k f g)) (sym e)

  pub turn_keeps : Prime p → Eight p g → size (turned p n g) ≡ n
  turn_keeps P hg = ap (λ (k : ℕ). size (turned p k g)) e ∙ turn_size P g hg filled ∙ sym e

  pub turn_falls : Prime p → Eight p f → Eight p g → size (rest p n f g) < n
  turn_falls P hf hg =
      let s : size (rest p (size g) f g) ≤ size g - 1 = turn_smaller P f g hf hg filled in
      let t : size (rest p n f g) ≡ size (rest p (size g) f g) = ap (λ (k : ℕ). size (rest p k f g)) e in
      omega arith

-- the number below the size is one that the code may divide by
pub size_divides : (f : List ℕ) (n : ℕ) → n ≡ size f → 0 < n → 0 < get_or f (n - 1) 0
size_divides f n e l =
    let q : ¬ (get_or f (n - 1) 0 ≡ 0) = subst (λ (k : ℕ). ¬ (get_or f (k - 1) 0 ≡ 0)) (sym e) (size_lead 8 f (omega arith)) in
    omega arith

pub size_fits : (f : List ℕ) (n : ℕ) → n ≡ size f → n ≤ 8
size_fits f n e = omega (arith, size_le 8 f)
