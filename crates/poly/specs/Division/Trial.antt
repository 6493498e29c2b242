-- Trial division says yes exactly if the divisor divides; what is told of a division under a ceiling; its promise settles its answer and the work room.
use Rattle.std.specs.Prelude.{◌≡◌, refl, ◌↔◌, Bool, true, false, List, ℕ, ◌≤◌, ◌<◌, length, Result, Ok, Err, IfErr}
use Rattle.std.proofs.lemmas.Result.{IfErr-at_err}
use Rattle.std.proofs.Common.{sym, ◌∙◌, ap, subst, arith}
use Rattle.std.proofs.lemmas.List.{length-map}
use Rattle.algebra.specs.Polynomials.{domain}
use Rattle.algebra.specs.Monomial.{Term}
use Rattle.algebra.specs.Division.{Division}
use Rattle.algebra.specs.Laws.Division.{division_says, division_determined}
use Rattle.field.specs.Prime.{Prime}
use Rattle.field.specs.Moduli.{Listed}
use Rattle.field.specs.Modulus.Laws.{listed_prime}
use Rattle.field.specs.Modulo.{Modulo}
use Rattle.field.specs.Numbers.{CEILING_REACHED}
use Rattle.poly.specs.declared.Stopped.{Stopped}
use Rattle.poly.specs.Terms.{term_of, terms_of, poly}
use Rattle.poly.specs.Divides.{Divides}
use Rattle.poly.specs.TrialDivision.{Trial, trial, says, Told, ended, cut_off, TrialDivision}
use Rattle.poly.specs.Key.Terms.{poly_finite}

module _ {p : ℕ} (P : Prime p) where
  -- the rule says yes exactly if g divides f, as polynomials
  pub rule_says : (f g : List ℕ) (ts : List (Term (Modulo p P).ring)) (whole : Bool) → Division (Modulo p P).ring (poly p P f) (poly p P g) ts whole
      → (whole ≡ true) ↔ Divides (Modulo p P) (poly p P g) (poly p P f)
  rule_says f g ts whole =
      division_says (Modulo p P).ring (domain (Modulo p P)) (λ a. tt) (poly p P f) (poly p P g) ts whole (poly_finite p P g)

  pub trial_says : {f g work after : List ℕ} {ceiling : ℕ} {r : Trial} → (t : TrialDivision p f g ceiling work after r)
      → (t.whole ≡ true) ↔ Divides (Modulo p P) (poly p P g) (poly p P f)
  trial_says {f = f} {g = g} t = rule_says f g (terms_of p P t.quotient) t.whole (t.division P)

-- the number says which answer it was
pub says_yes : (whole : Bool) → says whole ≡ 0 → whole ≡ true
says_yes true e = refl
says_yes false e = absurd (omega arith)

pub says_no : (whole : Bool) → ¬ (says whole ≡ 0) → whole ≡ false
says_no true n = absurd (n refl)
says_no false n = refl

-- a division that takes no more steps than the ceiling is told as it is
pub told_ended : (ceiling n : ℕ) (whole : Bool) (r : Trial) → Told ceiling n whole r → n ≤ ceiling → r ≡ record { number = says whole; steps = n }
told_ended ceiling n whole r (ended h) l = refl
told_ended ceiling n whole r (cut_off h) l = absurd (omega arith)

-- one that takes more is cut off
pub told_cut : (ceiling n : ℕ) (whole : Bool) (r : Trial) → Told ceiling n whole r → ceiling < n → record { number = CEILING_REACHED; steps = ceiling } ≡ r
told_cut ceiling n whole r (ended h) l = absurd (omega arith)
told_cut ceiling n whole r (cut_off h) l = refl

-- the number 0 is told of a division that has ended with yes
pub told_yes : (ceiling n : ℕ) (whole : Bool) (r : Trial) → Told ceiling n whole r → r.number ≡ 0 → (whole ≡ true) × (n ≤ ceiling) × (r.steps ≡ n)
told_yes ceiling n whole r (ended h) e = (says_yes whole e, h, refl)
told_yes ceiling n whole r (cut_off h) e = absurd (omega arith)

-- no more steps are told than the ceiling
pub told_within : (ceiling n : ℕ) (whole : Bool) (r : Trial) → Told ceiling n whole r → r.steps ≤ ceiling
told_within ceiling n whole r (ended h) = h
told_within ceiling n whole r (cut_off h) = omega arith

pub told_determined : (ceiling n : ℕ) (whole : Bool) (r s : Trial) → Told ceiling n whole r → Told ceiling n whole s → r ≡ s
told_determined ceiling n whole r s (ended h) (ended k) = refl
told_determined ceiling n whole r s (ended h) (cut_off k) = absurd (omega arith)
told_determined ceiling n whole r s (cut_off h) (ended k) = absurd (omega arith)
told_determined ceiling n whole r s (cut_off h) (cut_off k) = refl

pub trial_determined : (p : ℕ) → Listed p → (f g : List ℕ) (ceiling : ℕ) (work a b : List ℕ) (r s : Trial)
    → TrialDivision p f g ceiling work a r → TrialDivision p f g ceiling work b s → (a ≡ b) × (r ≡ s)
trial_determined p listed f g ceiling work a b r s x y =
    let P = listed_prime listed in
    let same = division_determined (Modulo p P).ring (domain (Modulo p P)) (λ c. tt) (poly p P f) (poly p P g) (terms_of p P x.quotient)
    (terms_of p P y.quotient) x.whole y.whole (x.division P) (y.division P) in
    let count : length x.quotient ≡ length y.quotient =
    sym (length-map x.quotient (term_of p P)) ∙ ap length same.0 ∙ length-map y.quotient (term_of p P) in (
      x.room ∙ sym y.room,
      told_determined ceiling (length y.quotient) y.whole r s
          (subst (λ (w : Bool). Told ceiling (length y.quotient) w r) same.1
          (subst (λ (n : ℕ). Told ceiling n x.whole r) count x.told)) y.told,
    )

-- what is told of a trial that stopped, and of one that did not
pub stopped_number : {r : Result ℕ Stopped} {s : Stopped} → r ≡ Err s → IfErr r (λ t. 0 < t.number) → ¬ ((trial r).number ≡ 0)
stopped_number {r} {s} e h z =
    let k : 0 < s.number = IfErr-at_err (λ (t : Stopped). 0 < t.number) e h in
    omega (arith, k, ap (λ (r : Result ℕ Stopped). (trial r).number) e)

pub ended_number : {r : Result ℕ Stopped} {n : ℕ} → r ≡ Ok n → (trial r).number ≡ 0
ended_number e = ap (λ (r : Result ℕ Stopped). (trial r).number) e

-- what is told settles the `Result`
pub told_settles : (r q : Result ℕ Stopped) → IfErr r (λ t. 0 < t.number) → IfErr q (λ t. 0 < t.number) → trial r ≡ trial q → r ≡ q
told_settles (Ok n) (Ok m) h k e = ap (λ (t : Trial). Ok t.steps) e
told_settles (Ok n) (Err s) h k e = absurd (omega (arith, k, ap (λ (t : Trial). t.number) e))
told_settles (Err s) (Ok n) h k e = absurd (omega (arith, h, ap (λ (t : Trial). t.number) e))
told_settles (Err s) (Err t) h k e = ap (λ (u : Trial). Err (record { number = u.number; steps = u.steps })) e
