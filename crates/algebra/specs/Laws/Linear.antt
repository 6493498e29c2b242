-- Elimination keeps exactly the common solutions, and its answer is right: no solution, only one, or two different ones.
use Rattle.std.specs.Prelude.{◌≡◌, refl, Bool, true, false, List, [], ◌∷◌, ◌++◌, ◌↔◌, ℕ, zero, suc, length}
use Rattle.std.proofs.Common.{sym, ◌∙◌, ap, ap₂, true≢false, arith}
use Rattle.std.proofs.lemmas.Bool.{false≢true}
use Rattle.algebra.specs.Field.{Field}
use Rattle.algebra.specs.Linear.{unsolvable, one, several, eval, Solves, SolvesAll, Solution, Meets}
use Rattle.algebra.specs.Models.Elimination.{Table, solvable, failed, free, pivot, fresh, has_failed, has_free, times, plus_times, step, steps}
use Rattle.algebra.specs.Models.Elimination.{solution, solve}
use Rattle.algebra.specs.Laws.Ring.{zero_add, one_mul, neg_add, mul_zero, neg_unique}
use Rattle.algebra.specs.Laws.Solver.{◌⊕◌, ◌⊗◌, ⊝, k0, k1, ◌≗◌, ring2, ring4, ring6}

module _ (K : Field) where
  open K.ring use {Car, 𝟘, 𝟙, add as ◌+◌, mul as ◌*◌, neg}

  infixl 60 ◌+◌
  infixl 70 ◌*◌
  -- rows behind one another are solved together
  pub solves_append : (v : List Car) (xs ys : List (List Car)) → SolvesAll K v xs → SolvesAll K v ys → SolvesAll K v (xs ++ ys)
  solves_append v [] ys h k = k
  solves_append v (x ∷ xs) ys h k = (h.0, solves_append v xs ys h.1 k)

  pub solves_front : (v : List Car) (xs ys : List (List Car)) → SolvesAll K v (xs ++ ys) → SolvesAll K v xs
  solves_front v [] ys h = tt
  solves_front v (x ∷ xs) ys h = (h.0, solves_front v xs ys h.1)

  pub solves_back : (v : List Car) (xs ys : List (List Car)) → SolvesAll K v (xs ++ ys) → SolvesAll K v ys
  solves_back v [] ys h = h
  solves_back v (x ∷ xs) ys h = solves_back v xs ys h.1

  -- a row's value is linear in the row
  eval_times : (c : Car) (s v : List Car) → eval K (times K c s) v ≡ c * eval K s v
  eval_times c [] v = sym (mul_zero K.ring c)
  eval_times c (b ∷ s) [] = refl
  eval_times c (b ∷ s) (x ∷ v) = ap (c * b * x +◌) (eval_times c s v)
      ∙ ring4 K.ring (λ c b x u. c ⊗ b ⊗ x ⊕ c ⊗ u ≗ c ⊗ (b ⊗ x ⊕ u)) tt c b x (eval K s v)

  eval_plus_times : (r : List Car) (c : Car) (s v : List Car) → eval K (plus_times K r c s) v ≡ eval K r v + c * eval K s v
  eval_plus_times [] c s v = eval_times c s v ∙ sym (zero_add K.ring _)
  eval_plus_times (a ∷ r) c [] v = sym (ap (eval K (a ∷ r) v +◌) (mul_zero K.ring c) ∙ K.ring.add_zero _)
  eval_plus_times (a ∷ r) c (b ∷ s) [] = refl
  eval_plus_times (a ∷ r) c (b ∷ s) (x ∷ v) = ap ((a + c * b) * x +◌) (eval_plus_times r c s v)
      ∙ ring6 K.ring (λ a b c x w u. (a ⊕ c ⊗ b) ⊗ x ⊕ (w ⊕ c ⊗ u) ≗ (a ⊗ x ⊕ w) ⊕ c ⊗ (b ⊗ x ⊕ u)) tt a b c x (eval K r v) (eval K s v)

  -- v has as many numbers as the table has columns before the last, and solves the kept rows
  abbrev pub Common : Table Car → List Car → Type 0
  Common solvable [] = Unit {0}
  Common solvable (x ∷ v) = ⊥
  Common failed v = ⊥
  Common (free t) [] = ⊥
  Common (free t) (x ∷ v) = Common t v
  Common (pivot q t) [] = ⊥
  Common (pivot q t) (x ∷ v) = Solves K (x ∷ v) (𝟙 ∷ q) × Common t v

  -- an entry 0 adds nothing
  absent : (a x w : Car) → a ≡ 𝟘 → a * x + w ≡ w
  absent a x w e = ap (λ b. b * x + w) e ∙ ring2 K.ring (λ x w. k0 ⊗ x ⊕ w ≗ w) tt x w

  -- a row and the row made to begin with 1
  scaled : (a i x w : Car) → a * i ≡ 𝟙 → (𝟙 * x + i * w ≡ 𝟘) ↔ (a * x + w ≡ 𝟘)
  scaled a i x w e = (
    λ h. sym (ring_back ∙ ap₂ ◌+◌ refl (ap (◌* w) e ∙ one_mul K.ring w)) ∙ ap (a *◌) h ∙ mul_zero K.ring a,
    λ h. sym (ring_forth ∙ ap (λ u. u * x + i * w) e) ∙ ap (i *◌) h ∙ mul_zero K.ring i,
  )
    where
      ring_back : a * (𝟙 * x + i * w) ≡ a * x + a * i * w
      ring_back = ring4 K.ring (λ a i x w. a ⊗ (k1 ⊗ x ⊕ i ⊗ w) ≗ a ⊗ x ⊕ a ⊗ i ⊗ w) tt a i x w

      ring_forth : i * (a * x + w) ≡ a * i * x + i * w
      ring_forth = ring4 K.ring (λ a i x w. i ⊗ (a ⊗ x ⊕ w) ≗ a ⊗ i ⊗ x ⊕ i ⊗ w) tt a i x w

  -- where the kept row is solved, taking it off changes no value
  taken_off : (a x w u : Car) → 𝟙 * x + u ≡ 𝟘 → a * x + w ≡ w + neg a * u
  taken_off a x w u h = ring4 K.ring (λ a x w u. a ⊗ x ⊕ w ≗ (w ⊕ ⊝ a ⊗ u) ⊕ a ⊗ (k1 ⊗ x ⊕ u)) tt a x w u
      ∙ ap (λ z. w + neg a * u + a * z) h ∙ ap (w + neg a * u +◌) (mul_zero K.ring a) ∙ K.ring.add_zero _

  step_solvable : (a : Car) (r v : List Car) (d : Dec (a ≡ 𝟘))
      → Common (elim d [ yes e ↦ solvable | no e ↦ failed ]) v ↔ (Common solvable v × Solves K v (a ∷ r))
  step_solvable a r [] (yes e) = (λ s. (s, e), λ h. h.0)
  step_solvable a r [] (no e) = (absurd, λ h. e h.1)
  step_solvable a r (x ∷ v) (yes e) = (absurd, λ h. h.0)
  step_solvable a r (x ∷ v) (no e) = (absurd, λ h. h.0)

  step_free : (t u : Table Car) (a : Car) (r v : List Car) (d : Dec (a ≡ 𝟘)) → ((w : List Car) → Common u w ↔ (Common t w × Solves K w r))
      → Common (elim d [ yes e ↦ free u | no e ↦ pivot (times K (K.inv a) r) t ]) v ↔ (Common (free t) v × Solves K v (a ∷ r))
  step_free t u a r [] (yes e) later = (absurd, λ h. h.0)
  step_free t u a r [] (no e) later = (absurd, λ h. h.0)
  step_free t u a r (x ∷ v) (yes e) later =
      let same = absent a x (eval K r v) e in
      (λ s. let both = (later v).0 s in (both.0, same ∙ both.1), λ h. (later v).1 (h.0, sym same ∙ h.1))
  step_free t u a r (x ∷ v) (no e) later =
      let kept = scaled a (K.inv a) x (eval K r v) (K.mul_inv a e) in
      let same = ap (𝟙 * x +◌) (eval_times (K.inv a) r v) in
      (λ s. (s.1, kept.0 (sym same ∙ s.0)), λ h. (same ∙ kept.1 h.1, h.0))

  step_pivot : (q : List Car) (t u : Table Car) (a : Car) (r : List Car) (x : Car) (v : List Car)
      → Common u v ↔ (Common t v × Solves K v (plus_times K r (neg a) q))
      → Common (pivot q u) (x ∷ v) ↔ (Common (pivot q t) (x ∷ v) × Solves K (x ∷ v) (a ∷ r))
  step_pivot q t u a r x v later = (
    λ s. let both = later.0 s.1 in ((s.0, both.0), same s.0 ∙ both.1),
    λ h. (h.0.0, later.1 (h.0.1, sym (same h.0.0) ∙ h.1)),
  )
    where
      same : Solves K (x ∷ v) (𝟙 ∷ q) → eval K (a ∷ r) (x ∷ v) ≡ eval K (plus_times K r (neg a) q) v
      same h = taken_off a x (eval K r v) (eval K q v) h ∙ sym (eval_plus_times r (neg a) q v)

  -- what solves the table with one more equation is what solves the table and the equation
  pub step_keeps_solutions : (t : Table Car) (r v : List Car) → Common (step K t r) v ↔ (Common t v × Solves K v r)
  step_keeps_solutions solvable [] v = (λ s. (s, refl), λ h. h.0)
  step_keeps_solutions failed [] v = (λ s. (s, refl), λ h. h.0)
  step_keeps_solutions (free t) [] v = (λ s. (s, refl), λ h. h.0)
  step_keeps_solutions (pivot q t) [] v = (λ s. (s, refl), λ h. h.0)
  step_keeps_solutions solvable (a ∷ r) v = step_solvable a r v (K.decide a)
  step_keeps_solutions failed (a ∷ r) v = (absurd, λ h. h.0)
  step_keeps_solutions (free t) (a ∷ r) v = step_free t (step K t r) a r v (K.decide a) (step_keeps_solutions t r)
  step_keeps_solutions (pivot q t) (a ∷ r) [] = (absurd, λ h. h.0)
  step_keeps_solutions (pivot q t) (a ∷ r) (x ∷ v) = step_pivot q t (step K t (plus_times K r (neg a) q)) a r x v
      (step_keeps_solutions t (plus_times K r (neg a) q) v)

  steps_keep_solutions : (t : Table Car) (rows : List (List Car)) (v : List Car) → Common (steps K t rows) v ↔ (Common t v × SolvesAll K v rows)
  steps_keep_solutions t [] v = (λ s. (s, tt), λ h. h.0)
  steps_keep_solutions t (r ∷ rows) v = (
    λ s. let rest = (steps_keep_solutions (step K t r) rows v).0 s in let first = (step_keeps_solutions t r v).0 rest.0 in (first.0, (first.1, rest.1)),
    λ h. (steps_keep_solutions (step K t r) rows v).1 ((step_keeps_solutions t r v).1 (h.0, h.1.0), h.1.1),
  )

  fresh_common : (n : ℕ) (v : List Car) → Common (fresh n) v ↔ (length v ≡ n)
  fresh_common zero [] = (λ s. refl, λ h. tt)
  fresh_common zero (x ∷ v) = (absurd, λ h. omega arith)
  fresh_common (suc n) [] = (absurd, λ h. omega arith)
  fresh_common (suc n) (x ∷ v) = (λ s. ap suc ((fresh_common n v).0 s), λ h. (fresh_common n v).1 (omega arith))

  failed_has_none : (t : Table Car) (v : List Car) → has_failed t ≡ true → ¬ Common t v
  failed_has_none solvable v h s = false≢true h
  failed_has_none failed v h s = s
  failed_has_none (free t) [] h s = s
  failed_has_none (free t) (x ∷ v) h s = failed_has_none t v h s
  failed_has_none (pivot q t) [] h s = s
  failed_has_none (pivot q t) (x ∷ v) h s = failed_has_none t v h s.1

  solution_common : (x : Car) (t : Table Car) → has_failed t ≡ false → Common t (solution K x t)
  solution_common x solvable h = tt
  solution_common x failed h = true≢false h
  solution_common x (free t) h = solution_common x t h
  solution_common x (pivot q t) h =
      (ap (◌+ eval K q (solution K x t)) (one_mul K.ring _) ∙ neg_add K.ring _, solution_common x t h)

  solution_unique : (x : Car) (t : Table Car) (v : List Car) → has_free t ≡ false → Common t v → v ≡ solution K x t
  solution_unique x solvable [] f s = refl
  solution_unique x solvable (y ∷ v) f s = absurd s
  solution_unique x failed v f s = absurd s
  solution_unique x (free t) v f s = absurd (true≢false f)
  solution_unique x (pivot q t) [] f s = absurd s
  solution_unique x (pivot q t) (y ∷ v) f s =
      let rest = solution_unique x t v f s.1 in
      ap₂ ◌∷◌ (neg_unique K.ring (eval K q v) y (K.ring.add_comm _ _ ∙ ap (◌+ eval K q v) (sym (one_mul K.ring y)) ∙ s.0)
      ∙ ap (λ w. neg (eval K q w)) rest) rest

  solutions_differ : (t : Table Car) → has_free t ≡ true → ¬ (solution K 𝟘 t ≡ solution K 𝟙 t)
  solutions_differ solvable f e = false≢true f
  solutions_differ failed f e = false≢true f
  solutions_differ (free t) f e = K.one≢0 (cc)
  solutions_differ (pivot q t) f e = solutions_differ t f (cc)

  -- the answer is right
  pub solve_meets : (n : ℕ) (rows : List (List Car)) → Meets K n rows (solve K n rows)
  solve_meets n rows = go (has_failed t) refl (has_free t) refl
    where
      t : Table Car
      t = steps K (fresh n) rows

      to : (v : List Car) → Common t v → Solution K n rows v
      to v s = let both = (steps_keep_solutions (fresh n) rows v).0 s in record { unknowns = (fresh_common n v).0 both.0; solves = both.1 }

      from : (v : List Car) → Solution K n rows v → Common t v
      from v s = (steps_keep_solutions (fresh n) rows v).1 ((fresh_common n v).1 s.unknowns, s.solves)

      go : (b : Bool) → has_failed t ≡ b → (f : Bool) → has_free t ≡ f
          → Meets K n rows (elim b [ true ↦ unsolvable | false ↦ elim f [ false ↦ one (solution K 𝟘 t) | true ↦ several (solution K 𝟘 t) (solution K 𝟙 t) ] ])
      go true h f k = λ v s. failed_has_none t v h (from v s)
      go false h false k = (to _ (solution_common 𝟘 t h), λ w s. solution_unique 𝟘 t w k (from w s))
      go false h true k = (to _ (solution_common 𝟘 t h), to _ (solution_common 𝟙 t h), solutions_differ t k)
