-- The row of an equation in plain numbers is the row of the equation over the field, and its cells are below p.
use Rattle.std.specs.Prelude.{◌≡◌, replicate}
use Rattle.std.proofs.Math.Path.{refl, sym, ap, ap₂}
use Rattle.std.proofs.Common.{◌∙◌, subst, mod-lt, eq-eqb, ne_eqb}
use mathlib.Core.List.{List, [], ◌∷◌, ◌++◌, map, append_assoc}
use Prim.Native.Nat.{ℕ, zero, suc, ◌+◌, ◌%◌, ◌≤◌, ◌<◌}
use Rattle.std.proofs.Math.Decide.{ℕ_discrete, dec_lt}
use native.Mathlib.Omega.{arith}
use Rattle.std.proofs.Math.ListN.{length, get_or, length-append}
use Rattle.std.proofs.Math.Seq.{get_or_at}
use Rattle.algebra.specs.Ring.{CommRing, pow}
use Rattle.algebra.specs.Field.{Field}
use Rattle.algebra.specs.Laws.Solver.{◌⊗◌, ◌≗◌, k1, ring3}
use Rattle.algebra.specs.Laws.Mono.{mono_at, mono_off}
use Rattle.field.specs.Prime.{Prime}
use Rattle.field.specs.Modulus.Prime.{prime_positive}
use Rattle.field.specs.Fp.{Fp, el, neg}
use Rattle.field.specs.Elements.Fp.{el_mod}
use Rattle.field.specs.Modulo.{Modulo}
use Rattle.poly.specs.Keys.{exponents}
use Rattle.poly.specs.Value.Monomial.{monomial}
use Rattle.poly.specs.Value.PowerLaws.{el_monomial}
use Rattle.poly.specs.Value.Meaning.{at_numbers}
use Rattle.divisor.specs.declared.table.Row.{Row}
use Rattle.divisor.specs.Table.Model.{cell, RowReady}
use Rattle.divisor.specs.Table.Meaning.{entries, row_of}
use Rattle.divisor.specs.Equations.Rows.{monomial_at, only_at, row}
use Rattle.divisor.specs.Equations.Model.{monomial_number, IsEquation}

entries_split : (p : ℕ) (l : List ℕ) (i a b j : ℕ) → j ≡ i + a → entries p l i (a + b) ≡ entries p l i a ++ entries p l j b
unfolding entries
entries_split p l i zero b j e =
    let q : j ≡ i = omega arith in let r : zero + b ≡ b = omega arith in λ k. entries p l (sym q k) (r k)
entries_split p l i (suc a) b j e =
    let r : suc a + b ≡ suc (a + b) = omega arith in
    ap (entries p l i) r ∙ ap (el p (get_or l i 0) ∷◌) (entries_split p l (suc i) a b j (omega arith))

pub number_here : (p y z w i k : ℕ) → (exponents k).x ≡ i → monomial_number p y z w i k ≡ monomial y z w k % p
unfolding monomial_number
number_here p y z w i k e = rw (eq-eqb _ i e, monomial_number)

pub number_there : (p y z w i k : ℕ) → ¬ ((exponents k).x ≡ i) → monomial_number p y z w i k ≡ 0
unfolding monomial_number
number_there p y z w i k n = rw (ne_eqb _ i n, monomial_number)

number_below : (p : ℕ) → 0 < p → (y z w i k : ℕ) → monomial_number p y z w i k < p
number_below p pos y z w i k = elim (ℕ_discrete (exponents k).x i) [
  | yes e ↦ rw (number_here p y z w i k e) (mod-lt _ pos)
  | no n ↦ rw (number_there p y z w i k n) pos
]

-- the cells of an equation are below p
pub equation_ready : (p : ℕ) → 0 < p → (y z w : ℕ) (ks : List ℕ) (i column u : ℕ) (r : Row) → u < p → IsEquation p y z w ks i column u r → RowReady p r
equation_ready p pos y z w ks i column u r l h =
    record { size = h.size; below = λ j. go j (dec_lt j (length ks)) (ℕ_discrete j column) }
  where
    go : (j : ℕ) → Dec (j < length ks) → Dec (j ≡ column) → cell r j < p
    go j (yes a) c = subst (λ (n : ℕ). n < p) (sym (h.monomials j a)) (number_below p pos y z w i (get_or ks j 0))
    go j (no a) (yes c) = subst (λ (n : ℕ). n < p) (sym (ap (cell r) c ∙ h.multiplier)) l
    go j (no a) (no c) = subst (λ (n : ℕ). n < p) (sym (h.others j (omega arith) c)) pos

module _ (p : ℕ) (P : Prime p) (y z w : ℕ) where
  abbrev K : Field
  K = Modulo p P

  abbrev R : CommRing
  R = K.ring

  -- the number of a monomial is its coefficient at the point
  number_el : (i k : ℕ) → el p (monomial_number p y z w i k) ≡ monomial_at K (at_numbers p P y z w) i (exponents k)
  number_el i k = elim (ℕ_discrete (exponents k).x i) [
    | yes q ↦
        ap (el p) (number_here p y z w i k q) ∙ el_mod p (monomial y z w k) ∙ el_monomial p (prime_positive P) y z w k
        ∙ ring3 R (λ a b c. a ⊗ b ⊗ c ≗ k1 ⊗ a ⊗ b ⊗ c) tt (pow R (el p y) (exponents k).y) (pow R (el p z) (exponents k).z)
        (pow R (el p w) (exponents k).w)
        ∙ sym (mono_at R (exponents k).x _) ∙ ap (λ (n : ℕ). monomial_at K (at_numbers p P y z w) n (exponents k)) q
    | no q ↦ ap (el p) (number_there p y z w i k q) ∙ sym (mono_off R (exponents k).x _ i q)
  ]

  module _ (ks : List ℕ) (i column : ℕ) (r : Row) where
    -- the part of the keys, from the key at j on
    monomial_entries : (front back : List ℕ) → ks ≡ front ++ back → (u : ℕ) → IsEquation p y z w ks i column u r → (j : ℕ)
        → length front ≡ j
        → entries p r.cells j (length back) ≡ map (monomial_at K (at_numbers p P y z w) i) (map exponents back)
    unfolding entries
    monomial_entries front [] e u h j l = refl
    monomial_entries front (k ∷ back) e u h j l =
        let fits : j < length ks = omega (arith, ap length e, length-append front (k ∷ back)) in
        let there = ap (λ (q : List ℕ). get_or q j 0) e ∙ get_or_at front k back 0 j l in
        ap₂ ◌∷◌ (ap (el p) (h.monomials j fits ∙ ap (monomial_number p y z w i) there) ∙ number_el i k)
        (monomial_entries (front ++ (k ∷ [])) back (e ∙ sym (append_assoc front (k ∷ []) back)) u h (suc j) (omega (arith, length-append front (k ∷ []))))

    -- the part of the multipliers: u in its column and 0 elsewhere
    zero_entries : (u n j : ℕ) → IsEquation p y z w ks i column u r → length ks ≤ j → column < j
        → entries p r.cells j n ≡ replicate n (el p 0)
    unfolding entries
    zero_entries u zero j h l m = refl
    zero_entries u (suc n) j h l m =
        ap₂ ◌∷◌ (ap (el p) (h.others j l (λ e. omega arith))) (zero_entries u n (suc j) h (omega arith) (omega arith))

    multiplier_entries : (u n m j : ℕ) → IsEquation p y z w ks i column u r → length ks ≤ j → column ≡ j + m → m < n
        → entries p r.cells j n ≡ only_at K n m (el p u)
    unfolding entries
    multiplier_entries u zero m j h l e b = absurd (omega arith)
    multiplier_entries u (suc n) zero j h l e b =
        let q : j ≡ column = omega arith in
        ap₂ ◌∷◌ (ap (λ (k : ℕ). el p (cell r k)) q ∙ ap (el p) h.multiplier) (zero_entries u n (suc j) h (omega arith) (omega arith))
    multiplier_entries u (suc n) (suc m) j h l e b =
        ap₂ ◌∷◌ (ap (el p) (h.others j l (λ q. omega arith))) (multiplier_entries u n m (suc j) h (omega arith) (omega arith) (omega arith))

    -- the row of the equation
    pub equation_row : (u c n m : ℕ) → IsEquation p y z w ks i column u r → column ≡ length ks + m → m < n
        → suc c ≡ length ks + n
        → (U : ℕ → Fp p) → el p u ≡ neg (U i)
        → row_of p c r ≡ row K (map exponents ks) n m (record { point = at_numbers p P y z w; image = U }) i
    equation_row u c n m h e b l U q =
        ap (entries p r.cells 0) l ∙ entries_split p r.cells 0 (length ks) n (length ks) (omega arith)
        ∙ ap₂ ◌++◌ (monomial_entries [] ks refl u h 0 refl)
        (multiplier_entries u n m (length ks) h (omega arith) e b ∙ ap (only_at K n m) q)
