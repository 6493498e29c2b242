-- The test of a cell is the rule's, and a divisor moved up within the bound stays among the cells.
use Rattle.std.specs.Prelude.{◌≡◌, true, List, [], ◌∷◌, ℕ, ◌+◌, ◌-◌, ◌≤◌, ◌<◌}
use Rattle.std.proofs.Common.{sym, ◌∙◌, ap, subst, add_comm, arith}
use mathlib.Mathlib.Data.Bool.Basic.{and_elim_left, and_elim_right, and_intro}
use Rattle.algebra.specs.Four.{Exponents, ◌⊞◌, ◌≼◌}
use Rattle.algebra.specs.GreatestExponent.{Variable, exponent, in_x, in_y, in_z, in_w}
use Rattle.poly.specs.Keys.{exponents, keys}
use Rattle.poly.specs.Terms.{key_of}
use Rattle.poly.specs.Key.Laws.{exponents_add}
use Rattle.poly.specs.Key.Difference.{at_most_says, at_most_of, exponents_difference, difference_only}
use Rattle.poly.specs.Division.Dense.{MovesUp}
use Rattle.poly.specs.Division.Model.{most, at_most, Setting, fits_in, fits}

-- the bound is what the greatest exponents f are above g
module _ (d : Setting) (f g : Exponents) (spare : exponents d.bound ⊞ g ≡ f) (k : ℕ) where
  pub record Fits : Type 0 where
    pub exact : exponents k ≡ exponents (k - d.lead) ⊞ exponents d.lead
    pub bounded : exponents (k - d.lead) ⊞ g ≼ f

  within_spare : (e b : Exponents) → e ≼ b → b ⊞ g ≡ f → e ⊞ g ≼ f
  within_spare e b l s =
      let lx = l.x in let ly = l.y in let lz = l.z in let lw = l.w in
      subst (λ (i : Exponents). e ⊞ g ≼ i) s (record { x = omega arith; y = omega arith; z = omega arith; w = omega arith })

  spare_within : (e b : Exponents) → e ⊞ g ≼ f → b ⊞ g ≡ f → e ≼ b
  spare_within e b l s =
      let m : e ⊞ g ≼ b ⊞ g = subst (λ (i : Exponents). e ⊞ g ≼ i) (sym s) l in
      let mx = m.x in let my = m.y in let mz = m.z in let mw = m.w in
      record { x = omega arith; y = omega arith; z = omega arith; w = omega arith }

  pub fits_says : fits d k ≡ true → Fits
  unfolding fits_in
  fits_says h =
      record {
        exact = exponents_difference d.lead k (at_most_says d.lead k (and_elim_left (at_most d.lead k) _ h));
        bounded =
            within_spare (exponents (k - d.lead)) (exponents d.bound)
            (at_most_says (k - d.lead) d.bound (and_elim_right (at_most d.lead k) _ h)) spare;
      }

  pub fits_of : (e : Exponents) → exponents k ≡ e ⊞ exponents d.lead → e ⊞ g ≼ f → fits d k ≡ true
  unfolding fits_in
  fits_of e p l =
      let o = difference_only d.lead k e p in
      and_intro (at_most_of d.lead k o.0)
      (at_most_of (k - d.lead) d.bound
      (subst (λ (i : Exponents). i ≼ exponents d.bound) (sym o.1) (spare_within e (exponents d.bound) l spare)))

-- a divisor moved up within the bound stays among the cells
below_eight : (n : ℕ) → (exponents n).x < 8 → n < keys
below_eight n h = omega arith

pub moves_up : (s : ℕ) (f g : Exponents) → exponents s ⊞ g ≼ f → ((v : Variable) → exponent v f < 8)
    → (ts : List ℕ) → ((v : Variable) → most v ts ≤ exponent v g) → MovesUp s keys ts
moves_up s f g l small [] within = tt
moves_up s f g l small (t ∷ ts) within = (below, sum, moves_up s f g l small ts (λ v. omega (arith, within v)))
  where
    sum : exponents (key_of t + s) ≡ exponents s ⊞ exponents (key_of t)
    sum =
        ap exponents (add_comm (key_of t) s)
        ∙ exponents_add s (key_of t)
        (record {
          y = omega (arith, l.y, small in_y, within in_y);
          z = omega (arith, l.z, small in_z, within in_z);
          w = omega (arith, l.w, small in_w, within in_w);
        })

    below : key_of t + s < keys
    below = below_eight (key_of t + s) (omega (arith, ap (λ (i : Exponents). i.x) sum, l.x, small in_x, within in_x))
