-- The rule settles its answer, the steps of division too: two answers to the same question are equal.
use Rattle.std.specs.Prelude.{◌≡◌, refl, Bool, true, false, List, ◌∷◌, length, ℕ, suc, ◌+◌ as ◌+ₙ◌, ◌<◌, ◌≤◌}
use Rattle.std.proofs.Common.{sym, ◌∙◌, ap, ap₂, subst, true≢false, arith}
use Rattle.algebra.specs.Field.{Field}
use Rattle.algebra.specs.Series.{Seq}
use Rattle.algebra.specs.Four.{Exponents}
use Rattle.algebra.specs.Polynomials.{domain}
use Rattle.algebra.specs.Monomial.{Term, polynomial}
use Rattle.algebra.specs.Division.{Division}
use Rattle.algebra.specs.Laws.Division.{division_determined}
use Rattle.poly.specs.Terms.{Polynomial}
use Rattle.poly.specs.PointValue.{Point}
use Rattle.poly.specs.Image.Laws.{image_unique}
use Rattle.field.specs.Numbers.{CEILING_REACHED}
use Rattle.divisor.specs.declared.CandidateRecord.{CandidateRecord}
use Rattle.divisor.specs.Rule.{report, Kept, Sorted, done, bad, unlucky, keep, AllBad, Unknowns, OnlySolution, SeveralSolutions}
use Rattle.divisor.specs.Rule.{DividesBoth, divisor, Steps, of_first, of_both, Tried, cut_off, rejected, accepted, Verdict, unsolvable, several, divided}
use Rattle.divisor.specs.Rule.{RuleAnswer, all_bad, some_good}

-- two divisions of f by g find the same terms and say the same
divided_alike : (K : Field) (f g : Polynomial K) (qs us : List (Term K.ring)) (a b : Bool)
    → Division K.ring (polynomial K.ring f) (polynomial K.ring g) qs a → Division K.ring (polynomial K.ring f) (polynomial K.ring g) us b
    → (qs ≡ us) × (a ≡ b)
divided_alike K f g qs us =
    division_determined K.ring (domain K) (λ c. tt) (polynomial K.ring f) (polynomial K.ring g) qs us

module _ (K : Field) (A B : Polynomial K) where
  open K use {ring as R}

  -- the least degree is least
  pub least_degree : (d e : ℕ) (points : List (Point R)) (b u b' u' : ℕ) (ks : List (Kept K)) (k : Kept K) (ls : List (Kept K))
      → Sorted K A B d points b u ks → Sorted K A B e points b' u' (k ∷ ls) → d ≤ e
  least_degree d e _ _ _ b' u' _ k ls done sorted = elim sorted [ ]
  least_degree d e points b u b' u' ks k ls (bad x s) (bad y t) = least_degree d e _ _ u _ u' ks k ls s t
  least_degree d e points b u b' u' ks k ls (bad x s) (unlucky f W j l t) = absurd (j.good x)
  least_degree d e points b u b' u' ks k ls (bad x s) (keep W j t) = absurd (j.good x)
  least_degree d e points b u b' u' ks k ls (unlucky g U i l s) (bad y t) = absurd (i.good y)
  least_degree d e points b u b' u' ks k ls (unlucky g U i l s) (unlucky f W j m t) =
      least_degree d e _ b _ b' _ ks k ls s t
  least_degree d e points b u b' u' ks k ls (unlucky {at = at} g U i l s) (keep W j t) =
      let q : g ≡ e = (image_unique K A B at g e U W i j).0 in omega arith
  least_degree d e points b u b' u' ks k ls (keep U i s) (bad y t) = absurd (i.good y)
  least_degree d e points b u b' u' ks k ls (keep U i s) (unlucky f W j m t) = least_degree d e _ b u b' _ _ k ls s t
  least_degree d e points b u b' u' ks k ls (keep {at = at} U i s) (keep W j t) =
      let q : d ≡ e = (image_unique K A B at d e U W i j).0 in omega arith

  pub sorted_determined : (d : ℕ) (points : List (Point R)) (b u b' u' : ℕ) (ks ls : List (Kept K))
      → Sorted K A B d points b u ks → Sorted K A B d points b' u' ls → (b ≡ b') × (u ≡ u') × (ks ≡ ls)
  sorted_determined d points b u b' u' ks ls done done = (refl, refl, refl)
  sorted_determined d points b u b' u' ks ls (bad x s) (bad y t) =
      let r = sorted_determined d _ _ u _ u' ks ls s t in (ap suc r.0, r.1, r.2)
  sorted_determined d points b u b' u' ks ls (bad x s) (unlucky f W j l t) = absurd (j.good x)
  sorted_determined d points b u b' u' ks ls (bad x s) (keep W j t) = absurd (j.good x)
  sorted_determined d points b u b' u' ks ls (unlucky g U i l s) (bad y t) = absurd (i.good y)
  sorted_determined d points b u b' u' ks ls (unlucky g U i l s) (unlucky f W j m t) =
      let r = sorted_determined d _ b _ b' _ ks ls s t in (r.0, ap suc r.1, r.2)
  sorted_determined d points b u b' u' ks ls (unlucky {at = at} g U i l s) (keep W j t) =
      let q : g ≡ d = (image_unique K A B at g d U W i j).0 in absurd (omega arith)
  sorted_determined d points b u b' u' ks ls (keep U i s) (bad y t) = absurd (i.good y)
  sorted_determined d points b u b' u' ks ls (keep {at = at} U i s) (unlucky f W j m t) =
      let q : d ≡ f = (image_unique K A B at d f U W i j).0 in absurd (omega arith)
  sorted_determined d points b u b' u' ks ls (keep {at = at} U i s) (keep W j t) =
      let r = sorted_determined d _ b u b' u' _ _ s t in
      (r.0, r.1, ap₂ (λ (X : Seq R) (ms : List (Kept K)). record { point = at; image = X } ∷ ms) (image_unique K A B at d d U W i j).1 r.2)

  -- every point is bad, unlucky or kept
  pub counts_add_up : (d : ℕ) (points : List (Point R)) (b u : ℕ) (ks : List (Kept K)) → Sorted K A B d points b u ks → b +ₙ u +ₙ length ks ≡ length points
  counts_add_up d points b u ks done = refl
  counts_add_up d points b u ks (bad {points = ps} {b = c} x s) =
      let h : c +ₙ u +ₙ length ks ≡ length ps = counts_add_up d _ _ u ks s in omega arith
  counts_add_up d points b u ks (unlucky {points = ps} {u = w} e U i l s) =
      let h : b +ₙ w +ₙ length ks ≡ length ps = counts_add_up d _ b _ ks s in omega arith
  counts_add_up d points b u ks (keep {points = ps} {kept = ls} U i s) =
      let h : b +ₙ u +ₙ length ls ≡ length ps = counts_add_up d _ b u _ s in omega arith

  -- kept points rule out that all are bad
  not_all_bad : (d : ℕ) (points : List (Point R)) (b u : ℕ) (k : Kept K) (ks : List (Kept K))
      → Sorted K A B d points b u (k ∷ ks) → ¬ AllBad K A B points
  not_all_bad d points b u k ks (bad x s) all = not_all_bad d _ _ u k ks s all.1
  not_all_bad d points b u k ks (unlucky e U i l s) all = i.good all.0
  not_all_bad d points b u k ks (keep U i s) all = i.good all.0

  -- several solutions rule out an only one
  not_several : (monomials : List Exponents) (kept : List (Kept K)) (s : Unknowns K) → OnlySolution K monomials kept s → ¬ SeveralSolutions K monomials kept
  not_several monomials kept s only t = t.4 (only.1 t.0 t.2 ∙ sym (only.1 t.1 t.3))

  -- the rule of division settles how many steps there are
  pub steps_determined : (G : Polynomial K) (n m : ℕ) → Steps K A B G n → Steps K A B G m → n ≡ m
  steps_determined G n m (of_first qs a) (of_first us e) = ap length (divided_alike K A G qs us false false a e).0
  steps_determined G n m (of_first qs a) (of_both us vs w e f) = absurd (true≢false (sym (divided_alike K A G qs us false true a e).1))
  steps_determined G n m (of_both qs rs w a b) (of_first us e) = absurd (true≢false (divided_alike K A G qs us true false a e).1)
  steps_determined G n m (of_both qs rs w a b) (of_both us vs w' e f) =
      ap₂ (λ (x y : List (Term R)). length x +ₙ length y) (divided_alike K A G qs us true true a e).0 (divided_alike K B G rs vs w w' b f).0

  tried_determined : (G : Polynomial K) (ceiling : ℕ) (n m a b : ℕ) (H I : Polynomial K)
      → Tried K A B G ceiling n H a → Tried K A B G ceiling m I b → (n ≡ m) × (H ≡ I) × (a ≡ b)
  tried_determined G ceiling n m a b H I (cut_off c s l) (cut_off e t k) = (refl, refl, refl)
  tried_determined G ceiling n m a b H I (cut_off c s l) (rejected e t k x) = absurd (let q = steps_determined G c e s t in omega arith)
  tried_determined G ceiling n m a b H I (cut_off c s l) (accepted e t k x) = absurd (let q = steps_determined G c e s t in omega arith)
  tried_determined G ceiling n m a b H I (rejected c s l x) (cut_off e t k) = absurd (let q = steps_determined G c e s t in omega arith)
  tried_determined G ceiling n m a b H I (rejected c s l x) (rejected e t k y) = (refl, refl, steps_determined G c e s t)
  tried_determined G ceiling n m a b H I (rejected c s l x) (accepted e t k y) = absurd (x y)
  tried_determined G ceiling n m a b H I (accepted c s l x) (cut_off e t k) = absurd (let q = steps_determined G c e s t in omega arith)
  tried_determined G ceiling n m a b H I (accepted c s l x) (rejected e t k y) = absurd (y x)
  tried_determined G ceiling n m a b H I (accepted c s l x) (accepted e t k y) = (refl, refl, steps_determined G c e s t)

  -- only an accepted G has number 0
  pub tried_accepted : (G : Polynomial K) (ceiling n m : ℕ) (H : Polynomial K) → Tried K A B G ceiling n H m → n ≡ 0 → DividesBoth K A B G × (H ≡ G)
  tried_accepted G ceiling n m H (cut_off a s l) e = absurd (omega arith)
  tried_accepted G ceiling n m H (rejected a s l x) e = absurd (omega arith)
  tried_accepted G ceiling n m H (accepted a s l both) e = (both, refl)

  -- number 18 says that there are more steps than the ceiling
  pub tried_reached : (G : Polynomial K) (ceiling n m : ℕ) (H : Polynomial K) → Tried K A B G ceiling n H m → n ≡ CEILING_REACHED
      → (a : ℕ) × Steps K A B G a × (ceiling < a)
  tried_reached G ceiling n m H (cut_off a s l) e = (a, s, l)
  tried_reached G ceiling n m H (rejected a s l x) e = absurd (omega arith)
  tried_reached G ceiling n m H (accepted a s l x) e = absurd (omega arith)

  -- no more steps are taken than the ceiling, and with number 18 as many
  pub tried_within : (G : Polynomial K) (ceiling n m : ℕ) (H : Polynomial K) → Tried K A B G ceiling n H m
      → (m ≤ ceiling) × (n ≡ CEILING_REACHED → m ≡ ceiling)
  tried_within G ceiling n m H (cut_off a s l) = (omega arith, λ e. refl)
  tried_within G ceiling n m H (rejected a s l x) = (l, λ e. absurd (omega arith))
  tried_within G ceiling n m H (accepted a s l x) = (l, λ e. absurd (omega arith))

  verdict_determined : (monomials : List Exponents) (kept : List (Kept K)) (ceiling : ℕ) (n m a b : ℕ) (G H : Polynomial K)
      → Verdict K A B monomials kept ceiling n G a → Verdict K A B monomials kept ceiling m H b → (n ≡ m) × (G ≡ H) × (a ≡ b)
  verdict_determined monomials kept ceiling n m a b G H (unsolvable z) (unsolvable y) = (refl, refl, refl)
  verdict_determined monomials kept ceiling n m a b G H (unsolvable z) (several t) = absurd (z t.0 t.2)
  verdict_determined monomials kept ceiling n m a b G H (unsolvable z) (divided t only x) = absurd (z t only.0)
  verdict_determined monomials kept ceiling n m a b G H (several s) (unsolvable z) = absurd (z s.0 s.2)
  verdict_determined monomials kept ceiling n m a b G H (several s) (several t) = (refl, refl, refl)
  verdict_determined monomials kept ceiling n m a b G H (several s) (divided t only x) = absurd (not_several monomials kept t only s)
  verdict_determined monomials kept ceiling n m a b G H (divided s only x) (unsolvable z) = absurd (z s only.0)
  verdict_determined monomials kept ceiling n m a b G H (divided s only x) (several t) = absurd (not_several monomials kept s only t)
  verdict_determined monomials kept ceiling n m a b G H (divided s only x) (divided t only' y) =
      tried_determined (divisor K t) ceiling n m a b G H
      (subst (λ (v : Unknowns K). Tried K A B (divisor K v) ceiling n G a) (only'.1 s only.0) x) y

  pub answer_determined : (monomials : List Exponents) (points : List (Point R)) (ceiling : ℕ) (r q : CandidateRecord) (G H : Polynomial K)
      → RuleAnswer K A B monomials points ceiling r G → RuleAnswer K A B monomials points ceiling q H → (r ≡ q) × (G ≡ H)
  answer_determined monomials points ceiling r q G H (all_bad all) (all_bad all') = (refl, refl)
  answer_determined monomials points ceiling r q G H (all_bad all) (some_good d b u k ks s n I f x) =
      absurd (not_all_bad d points b u k ks s all)
  answer_determined monomials points ceiling r q G H (some_good d b u k ks s n I f x) (all_bad all) =
      absurd (not_all_bad d points b u k ks s all)
  answer_determined monomials points ceiling r q G H (some_good d b u k ks s n I f x) (some_good e c w l ls t m J h y) =
      let le : d ≤ e = least_degree d e points b u c w (k ∷ ks) l ls s t in
      let ge : e ≤ d = least_degree e d points c w b u (l ∷ ls) k ks t s in
      let same : d ≡ e = omega arith in
      let sorted = sorted_determined e points b u c w (k ∷ ks) (l ∷ ls) (subst (λ (f : ℕ). Sorted K A B f points b u (k ∷ ks)) same s) t in
      let v = verdict_determined monomials (l ∷ ls) ceiling n m f h I J
      (subst (λ (ms : List (Kept K)). Verdict K A B monomials ms ceiling n I f) sorted.2 x) y in
      (λ i. report (v.0 i) (record { d = same i; bad = sorted.0 i; unlucky = sorted.1 i; kept = length (sorted.2 i) }) (length (v.1 i)) (v.2 i), v.1)
