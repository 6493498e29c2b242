-- The rule of division ends on any two lists that fall, within as many steps as there are keys, and the division on cells gives its answer and its terms.
use Rattle.std.specs.Prelude.{◌≡◌, refl, Bool, true, false, List, [], ◌∷◌, ℕ, ◌-◌, ◌≤◌, ◌<◌, length, get_or, replicate}
use Rattle.std.proofs.Common.{sym, ◌∙◌, ap, true≢false, arith, rules}
use Rattle.std.proofs.lemmas.List.{length-replicate}
use Rattle.std.proofs.Math.Decide.{dec_lt}
use Rattle.algebra.specs.SeriesRing.{S4}
use Rattle.algebra.specs.Four.{Exponents, ◌⊞◌, ◌≼◌}
use Rattle.algebra.specs.Division.{stop, Division}
use Rattle.algebra.specs.Laws.Ring.{zero_add}
use Rattle.field.specs.Fp.{Fp, el, inv, mul}
use Rattle.field.specs.Elements.Fp.{el_val, el_nonzero, Fp_mul_comm}
use Rattle.field.specs.Elements.Inverse.{mul_inv}
use Rattle.field.specs.Prime.{Prime}
use Rattle.field.specs.Modulus.Prime.{prime_positive}
use Rattle.field.specs.Modulus.Laws.{listed_below}
use Rattle.field.specs.Modulo.{Modulo}
use Rattle.poly.specs.Keys.{exponents, keys}
use Rattle.poly.specs.Terms.{key_of, coefficient_of, terms_of, poly, coefficient_limit}
use Rattle.poly.specs.TrialDivision.{CanDivide}
use Rattle.field.specs.Loops.Places.{replicate_all}
use Rattle.poly.specs.Key.Difference.{at_most_says, at_most_of, exponents_difference}
use Rattle.poly.specs.Lists.{Falling}
use Rattle.poly.specs.List.Falling.{falling_keys}
use Rattle.poly.specs.Key.Terms.{poly_lead}
use Rattle.poly.specs.Division.GreatestExponents.{most_exponents, sizes}
use Rattle.poly.specs.Division.Dense.{zeros_reduced, dense, dense_zero}
use Rattle.poly.specs.Division.Spread.{spread_length, spread_reduced, spread_dense}
use Rattle.poly.specs.Division.Steps.{by_lists, found_few}
use Rattle.poly.specs.Division.ModelLaws.{model_division}
use Rattle.field.specs.Loops.Cells.{past_end}
use Rattle.poly.specs.Division.SpreadModel.{spread}
use Rattle.poly.specs.Division.Model.{most_of, most_key, at_most, setting, divided, found}

-- cells, one for each key, that are 0
pub record Empty (l : List ℕ) : Type 0 where
  pub long : length l ≡ keys
  pub zeros : (i : ℕ) → get_or l i 0 ≡ 0

pub empty_cells : (l : List ℕ) → length l ≡ keys → ((i : ℕ) → i < keys → get_or l i 0 ≡ 0) → Empty l
empty_cells l e z = record { long = e; zeros = λ i. go i (dec_lt i keys) }
  where
    go : (i : ℕ) → Dec (i < keys) → get_or l i 0 ≡ 0
    go i (yes h) = z i h
    go i (no h) = past_end keys i l e (omega arith)

pub no_cells : List ℕ
no_cells = replicate keys 0

pub no_cells_empty : Empty no_cells
unfolding no_cells
no_cells_empty =
    record { long = length-replicate {A = ℕ} keys 0; zeros = λ i. replicate_all (λ n. n ≡ 0) keys i 0 0 refl refl }

-- a list spread over them means itself
module _ (p : ℕ) (P : Prime p) (f : List ℕ) (hf : Falling p keys f) (l : List ℕ) (empty : Empty l) where
  begun_means : dense p P (spread f l) ≡ poly p P f
  begun_means =
      spread_dense p P f l keys hf (omega (arith, empty.long)) (λ i h. empty.zeros i)
      ∙ ap (λ (d : (S4 (Modulo p P).ring).Car). (S4 (Modulo p P).ring).add d (poly p P f)) (dense_zero p P l empty.zeros)
      ∙ zero_add (S4 (Modulo p P).ring) _

-- where the divisor's greatest exponents are at most the dividend's
module _ (p : ℕ) (P : Prime p) (t : ℕ) (ts : List ℕ) (u : ℕ) (us : List ℕ) (hf : Falling p keys (t ∷ ts)) (hg : Falling p keys (u ∷ us)) where
  lead_inverse : mul (el p (setting p (t ∷ ts) (u ∷ us)).inverse) (el p (coefficient_of u)) ≡ el p 1
  lead_inverse =
      ap (λ (x : Fp p). mul x (el p (coefficient_of u))) (el_val (inv (el p (coefficient_of u))))
      ∙ Fp_mul_comm (inv (el p (coefficient_of u))) (el p (coefficient_of u))
      ∙ mul_inv P (el p (coefficient_of u)) (el_nonzero p (coefficient_of u) hg.2 (let l = hg.1 in omega arith))

  spare : at_most (most_key (u ∷ us)) (most_key (t ∷ ts)) ≡ true
      → exponents (setting p (t ∷ ts) (u ∷ us)).bound ⊞ most_of (u ∷ us) ≡ most_of (t ∷ ts)
  spare h =
      let b = most_key (t ∷ ts) - most_key (u ∷ us) in
      ap (λ (e : Exponents). exponents b ⊞ e) (sym (most_exponents (u ∷ us) (falling_keys p keys (u ∷ us) hg)))
      ∙ sym (exponents_difference (most_key (u ∷ us)) (most_key (t ∷ ts)) (at_most_says (most_key (u ∷ us)) (most_key (t ∷ ts)) h))
      ∙ most_exponents (t ∷ ts) (falling_keys p keys (t ∷ ts) hf)

  -- where one is not, the rule stops at once
  too_wide : at_most (most_key (u ∷ us)) (most_key (t ∷ ts)) ≡ false → Division (Modulo p P).ring (poly p P (t ∷ ts)) (poly p P (u ∷ us)) [] false
  too_wide h =
      record {
        sizes = sizes p P t ts u us hf hg;
        goes = stop (exponents (key_of t)) (poly_lead p P t ts keys hf) (λ e o. never (wide e o.bounded));
      }
    where
      wide : (e : Exponents) → e ⊞ most_of (u ∷ us) ≼ most_of (t ∷ ts) → most_of (u ∷ us) ≼ most_of (t ∷ ts)
      wide e l =
          record { x = let m = l.x in omega arith; y = let m = l.y in omega arith; z = let m = l.z in omega arith; w = let m = l.w in omega arith }

      never : most_of (u ∷ us) ≼ most_of (t ∷ ts) → ⊥
      never l =
          let m : exponents (most_key (u ∷ us)) ≼ exponents (most_key (t ∷ ts)) =
          rw (most_exponents (u ∷ us) (falling_keys p keys (u ∷ us) hg), most_exponents (t ∷ ts) (falling_keys p keys (t ∷ ts) hf)) l in
          true≢false (sym (at_most_of (most_key (u ∷ us)) (most_key (t ∷ ts)) m) ∙ h)

  -- the division on cells goes by the rule, and finds its terms
  lists_division : p ≤ coefficient_limit → (l c : List ℕ) → Empty l
      → Division (Modulo p P).ring (poly p P (t ∷ ts)) (poly p P (u ∷ us)) (terms_of p P (found p (t ∷ ts) (u ∷ us) l))
      (divided p (t ∷ ts) (u ∷ us) l c).whole
  lists_division word l c empty =
      by_lists p (t ∷ ts) (u ∷ us) l c (λ qs o. Division (Modulo p P).ring (poly p P (t ∷ ts)) (poly p P (u ∷ us)) (terms_of p P qs) o.whole) too_wide
      (λ e.
      model_division p P word t ts u us hf hg (setting p (t ∷ ts) (u ∷ us)).inverse lead_inverse (setting p (t ∷ ts) (u ∷ us)).bound (spare e)
      (spread (t ∷ ts) l) c (spread_length (t ∷ ts) l ∙ empty.long)
      (spread_reduced p (t ∷ ts) l keys hf (zeros_reduced p l (prime_positive P) empty.zeros)) (begun_means p P (t ∷ ts) hf l empty))

-- two lists that are not empty and fall, modulo a number within a coefficient's place
pub record Dividing (p : ℕ) (f g : List ℕ) : Type 0 where
  pub word : p ≤ coefficient_limit
  pub some_dividend : 0 < length f
  pub dividend_falls : Falling p keys f
  pub some_divisor : 0 < length g
  pub divisor_falls : Falling p keys g

pub dividing : {p : ℕ} {f g work : List ℕ} → CanDivide p f g work → Dividing p f g
dividing can = let w = listed_below can.is_listed in search rules

-- at most one term for each key
pub found_terms_few : (p : ℕ) (f g l : List ℕ) → length (found p f g l) ≤ keys
found_terms_few p f g l =
    by_lists p f g l [] (λ qs o. length qs ≤ keys) (λ e. omega arith) (λ e. found_few (setting p f g) keys (spread f l))

module _ (p : ℕ) (P : Prime p) where
  pub divided_division : (f g : List ℕ) → Dividing p f g → (l c : List ℕ) → Empty l
      → Division (Modulo p P).ring (poly p P f) (poly p P g) (terms_of p P (found p f g l)) (divided p f g l c).whole
  divided_division [] [] h l c empty = absurd (omega (arith, h.some_dividend))
  divided_division [] (u ∷ us) h l c empty = absurd (omega (arith, h.some_dividend))
  divided_division (t ∷ ts) [] h l c empty = absurd (omega (arith, h.some_divisor))
  divided_division (t ∷ ts) (u ∷ us) h l c empty =
      lists_division p P t ts u us h.dividend_falls h.divisor_falls h.word l c empty

-- a division that ends, with its terms and its answer
pub record Ended (p : ℕ) (f g : List ℕ) : Type 0 where
  pub terms : List ℕ
  pub whole : Bool
  pub division : (P : Prime p) → Division (Modulo p P).ring (poly p P f) (poly p P g) (terms_of p P terms) whole
  pub few : length terms ≤ keys

-- the rule ends within as many steps as there are keys
pub division_ends : (p : ℕ) (f g : List ℕ) → Dividing p f g → Ended p f g
division_ends p f g h =
    record {
      terms = found p f g no_cells;
      whole = (divided p f g no_cells []).whole;
      division = λ P. divided_division p P f g h no_cells [] no_cells_empty;
      few = found_terms_few p f g no_cells;
    }
